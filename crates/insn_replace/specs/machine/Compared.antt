-- The steps of the code, for the contracts of private functions.
use Rattle.std.specs.Prelude.{◌≡◌, ℕ, ◌≤◌, ◌<◌, ◌^◌, true, List, [], ◌∷◌, Some, Result, Ok, Err, slice_get}
use Rattle.rtx_tree.specs.declared.function.Insn.{Insn}
use Rattle.rtx_tree.specs.declared.function.Function.{Function}
use Rattle.rtx_tree.specs.declared.tree.Rtx.{Rtx}
use Rattle.rtx_tree.specs.declared.limit.Limit.TheVariants.{Instructions}
use Rattle.rtx_tree.specs.Limit.{most_made}
use Rattle.live.specs.Live.{AreLiveAfter}
use Rattle.pass_refusal.specs.equate.Side.{Side}
use Rattle.pass_refusal.specs.equate.declared.verdict.Side as code
use Rattle.pass_refusal.specs.equate.declared.verdict.Side.TheVariants as sides
use Rattle.pass_refusal.specs.equate.Equated.{verdict, Equated}
use Rattle.pass_refusal.specs.Outcome.{RefusesWith}
use Rattle.pass_refusal.specs.Refused.{refused_by}
use Rattle.pass_refusal.specs.declared.refusal.PassRefusal.{PassRefusal}
use Rattle.pass_refusal.specs.declared.refusal.PassRefusal.TheVariants as refusal
use Rattle.insn_replace.specs.Replace as spec

-- instructions are those that a sequence makes in the place of one of a function
abbrev pub AreMade : Function → ℕ → List Rtx → List Insn → Type 0
AreMade f place sequence insns =
    (i : Insn) → slice_get f.insns place ≡ Some i → insns ≡ spec.made f i sequence

-- a side is equated with an instruction of a function, over what is live behind it
pub record IsSame (f : Function) (place : ℕ) (i : Insn) (side : Side) : Type 0 where
  pub live : List ℕ
  pub live_after : AreLiveAfter f place live
  pub equated : Equated (i ∷ []) side live

-- a comparison of them refuses
pub record IsOther (f : Function) (place : ℕ) (i : Insn) (rule : List ℕ) (side : Side) (e : PassRefusal) : Type 0 where
  pub live : List ℕ
  pub live_after : AreLiveAfter f place live
  pub refused : refused_by i.uid rule (verdict (i ∷ []) side live) ≡ Some e

abbrev pub IsRefusal : Function → ℕ → Insn → List ℕ → Side → Result (Unit {0}) PassRefusal → Type 0
IsRefusal f place i rule side (Ok done) = ⊥
IsRefusal f place i rule side (Err e) = IsOther f place i rule side e

abbrev pub Compares : Result (Unit {0}) PassRefusal → Function → ℕ → Insn → List ℕ → Side → Type 0
Compares (Ok done) f place i rule side = IsSame f place i side
Compares (Err e) f place i rule side = RefusesWith e (IsRefusal f place i rule side)

-- ---- how many instructions there are

-- so many are not too many
pub record AreFew (count : ℕ) : Type 0 where
  pub few : count ≤ most_made

-- so many are refused
pub record AreMany (count : ℕ) (e : PassRefusal) : Type 0 where
  pub many : most_made < count
  pub refusal_is : refusal.Limit Instructions count ≡ e

abbrev pub IsTooMany : ℕ → Result (Unit {0}) PassRefusal → Type 0
IsTooMany count (Ok done) = ⊥
IsTooMany count (Err e) = AreMany count e

abbrev pub KeepsFew : Result (Unit {0}) PassRefusal → ℕ → Type 0
KeepsFew (Ok done) count = AreFew count
KeepsFew (Err e) count = RefusesWith e (IsTooMany count)

-- a function is not too long with a sequence in the place of one of its instructions, or it is
-- refused, or memory ran out
abbrev pub IsShort : Function → ℕ → List Rtx → Type 0
IsShort f place sequence = (i : Insn) → slice_get f.insns place ≡ Some i → AreFew (spec.count_with f place i sequence)

abbrev pub RefusesLong : Function → ℕ → List Rtx → PassRefusal → Type 0
RefusesLong f place sequence e =
    (i : Insn) → slice_get f.insns place ≡ Some i → RefusesWith e (IsTooMany (spec.count_with f place i sequence))

-- the instructions of a side
abbrev pub insns_in : code.Side → List Insn
insns_in (sides.Insns insns) = insns
insns_in (sides.Lines function lines) = []
