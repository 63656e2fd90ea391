-- The steps of the code, for the contracts of private functions.
use Rattle.std.specs.Prelude.{◌≡◌, ℕ, ◌-◌, List, Some, Result, Ok, Err, slice_get}
use Rattle.rtx_tree.specs.declared.function.Insn.{Insn}
use Rattle.rtx_tree.specs.declared.function.Function.{Function}
use Rattle.rtx_tree.specs.declared.tree.Rtx.{Rtx}
use Rattle.live.specs.Live.{AreLiveAfter}
use Rattle.new_insns.specs.Replaced.{window}
use Rattle.insn_replace.specs.Replace.{made}
use Rattle.insn_replace.specs.machine.Compared.{AreFew, IsTooMany}
use Rattle.pass_refusal.specs.equate.Side.{Side}
use Rattle.pass_refusal.specs.equate.Equated.{verdict, Equated}
use Rattle.pass_refusal.specs.Outcome.{RefusesWith}
use Rattle.pass_refusal.specs.Refused.{refused_by}
use Rattle.pass_refusal.specs.declared.refusal.PassRefusal.{PassRefusal}
use Rattle.window_comes.specs.Window.{count_with}

-- instructions are those that a sequence makes in the place of a window of a function
abbrev pub AreMade : Function → ℕ → List Rtx → List Insn → Type 0
AreMade f end sequence insns =
    (last : Insn) → slice_get f.insns (end - 1) ≡ Some last → insns ≡ made f last sequence

-- a comparison of a window with instructions refuses
pub record IsOther (f : Function) (first end : ℕ) (i : Insn) (rule : List ℕ) (side : Side) (e : PassRefusal) : Type 0 where
  pub live : List ℕ
  pub live_after : AreLiveAfter f (end - 1) live
  pub refused : refused_by i.uid rule (verdict (window f first end) side live) ≡ Some e

abbrev pub IsRefusal : Function → ℕ → ℕ → Insn → List ℕ → Side → Result (Unit {0}) PassRefusal → Type 0
IsRefusal f first end i rule side (Ok done) = ⊥
IsRefusal f first end i rule side (Err e) = IsOther f first end i rule side e

-- a side is equated with the window, over what is live behind it
pub record IsSame (f : Function) (first end : ℕ) (side : Side) : Type 0 where
  pub live : List ℕ
  pub live_after : AreLiveAfter f (end - 1) live
  pub equated : Equated (window f first end) side live

-- it is, or the comparison refuses
abbrev pub Compares : Result (Unit {0}) PassRefusal → Function → ℕ → ℕ → List ℕ → Side → Type 0
Compares (Ok done) f first end rule side = IsSame f first end side
Compares (Err e) f first end rule side =
    (i : Insn) → slice_get f.insns first ≡ Some i → RefusesWith e (IsRefusal f first end i rule side)

-- a function is not too long with a sequence in the place of a window, or it is refused, or memory
-- ran out
abbrev pub IsShort : Function → ℕ → ℕ → List Rtx → Type 0
IsShort f first end sequence =
    (last : Insn) → slice_get f.insns (end - 1) ≡ Some last → AreFew (count_with f first end last sequence)

abbrev pub RefusesLong : Function → ℕ → ℕ → List Rtx → PassRefusal → Type 0
RefusesLong f first end sequence e =
    (last : Insn) → slice_get f.insns (end - 1) ≡ Some last → RefusesWith e (IsTooMany (count_with f first end last sequence))
