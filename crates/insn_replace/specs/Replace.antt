-- An instruction of a function replaced by a sequence that is equated with it: GCC Internals,
-- "Defining RTL Sequences for Code Generation" and "Defining How to Split Instructions".
use Rattle.std.specs.Prelude.{◌≡◌, ℕ, ◌+◌, ◌≤◌, ◌<◌, List, [], ◌∷◌, Some, Result, Ok, Err}
use Rattle.rtx_tree.specs.declared.function.Insn.{Insn}
use Rattle.rtx_tree.specs.declared.function.Function.{Function}
use Rattle.rtx_tree.specs.declared.tree.Rtx.{Rtx}
use Rattle.rtx_tree.specs.declared.limit.Limit.TheVariants.{Instructions}
use Rattle.rtx_tree.specs.Limit.{most_made}
use Rattle.rtl_chain.specs.Counts.{greatest_uid, instruction_count}
use Rattle.live.specs.Live.{AreLiveAfter}
use Rattle.new_insns.specs.Made.{insns_for}
use Rattle.new_insns.specs.Replaced as windows
use Rattle.pass_refusal.specs.equate.Side.{Insns}
use Rattle.pass_refusal.specs.equate.Equated.{verdict, Equated}
use Rattle.pass_refusal.specs.Refused.{refused_by}
use Rattle.pass_refusal.specs.declared.refusal.PassRefusal.{PassRefusal}
use Rattle.pass_refusal.specs.declared.refusal.PassRefusal.TheVariants as refusal

-- the instructions that a sequence makes in the place of one of a function
abbrev pub made : Function → Insn → List Rtx → List Insn
made f i sequence = insns_for i (greatest_uid f.insns + 1) sequence

-- the function with a sequence in the place of one of its instructions
abbrev pub with_sequence : Function → ℕ → Insn → List Rtx → Function
with_sequence f place i sequence = windows.replaced f place (place + 1) (made f i sequence)

-- how many instructions it has
abbrev pub count_with : Function → ℕ → Insn → List Rtx → ℕ
count_with f place i sequence = instruction_count (with_sequence f place i sequence).insns

-- What a sequence in the place of an instruction comes to, by a rule: the function with it, where
-- that is not too long, and the sequence is equated with the instruction over what is live behind;
-- else the number of instructions, before any comparison, or what the comparison refuses.
pub data ReplacedComes (f : Function) (place : ℕ) (i : Insn) (rule : List ℕ) (sequence : List Rtx) : Result Function PassRefusal → Type 0 where
  long : most_made < count_with f place i sequence →
      ReplacedComes f place i rule sequence (Err (refusal.Limit Instructions (count_with f place i sequence)))
  refused : (live : List ℕ) (e : PassRefusal) → AreLiveAfter f place live →
      refused_by i.uid rule (verdict (i ∷ []) (Insns (made f i sequence)) live) ≡ Some e →
      count_with f place i sequence ≤ most_made → ReplacedComes f place i rule sequence (Err e)
  replaced : (live : List ℕ) → AreLiveAfter f place live →
      Equated (i ∷ []) (Insns (made f i sequence)) live →
      count_with f place i sequence ≤ most_made → ReplacedComes f place i rule sequence (Ok (with_sequence f place i sequence))

-- a replacement comes to one thing
abbrev pub OneReplaced : Type 0
OneReplaced =
    (f : Function) (place : ℕ) (i : Insn) (rule : List ℕ) (sequence : List Rtx) (a b : Result Function PassRefusal) →
    ReplacedComes f place i rule sequence a → ReplacedComes f place i rule sequence b → a ≡ b
