-- The steps of the code, for the contracts of private functions alone. What is still to be made
-- lies on a stack, the next part last.
use Rattle.std.specs.Prelude.{◌≡◌, ◌⊎◌, ℕ, Bool, true, false, List, [], ◌∷◌, ◌++◌, length, reverse, Some, None, Result, Ok, Err}
use Rattle.rtx_tree.specs.declared.function.Insn.{Insn}
use Rattle.rtx_tree.specs.declared.tree.Rtx.{Rtx}
use Rattle.md_forms.specs.declared.form.Entry.{Entry}
use Rattle.form_needs.specs.Needs.{needs_form}
use Rattle.pass_refusal.specs.declared.refusal.PassRefusal.{PassRefusal}
use Rattle.pass_refusal.specs.Outcome.{Gives, RefusesWith}
use Rattle.lower_insn.specs.declared.part.Part.{Part}
use Rattle.lower_insn.specs.declared.part.Lowered.{Lowered}
use Rattle.lower_insn.specs.declared.part.Plan.{Plan}
use Rattle.lower_insn.specs.declared.part.Uids.{Uids}
use Rattle.lower_insn.specs.declared.work.Work.{Work}
use Rattle.lower_insn.specs.declared.work.Progress.{Progress}
use Rattle.lower_insn.specs.declared.work.Progress.TheVariants.{On, Done}
use Rattle.lower_insn.specs.Lowered.{Answer, InsnAnswer, InsnLowers, Lowers, parts_of, uids_for, IsMatched, IsUnmatched, is_note_tree}

-- a sequence behind what has been made
abbrev pub after : List Rtx → Answer → Answer
after made (Ok sequence) = Ok (made ++ sequence)
after made (Err e) = Err e

-- what work comes to
pub record Comes (forms : List Entry) (uids : Uids) (work : Work) (answer : Answer) : Type 0 where
  pub rest : Answer
  pub lowers : Lowers forms uids (reverse work.parts) (length work.sequence) work.next rest
  pub is : answer ≡ after work.sequence rest

-- work with one part more, which is the next
abbrev pub with_part : Work → Part → Work
with_part work part = record work { parts = work.parts ++ part ∷ [] }

-- from some work other work is reached, or its refusal
abbrev pub Advances : List Entry → Uids → Work → Result Work PassRefusal → Type 0
Advances forms uids start (Ok work) =
    (answer : Answer) → Comes forms uids work answer → Comes forms uids start answer
Advances forms uids start (Err e) = RefusesWith e (Comes forms uids start)

-- other work, or all that there was to be made, or its refusal
abbrev pub Moves : List Entry → Uids → Work → Result Progress PassRefusal → Type 0
Moves forms uids start (Ok (On work)) =
    (answer : Answer) → Comes forms uids work answer → Comes forms uids start answer
Moves forms uids start (Ok (Done sequence)) = Comes forms uids start (Ok sequence)
Moves forms uids start (Err e) = RefusesWith e (Comes forms uids start)

-- whether what was emitted counts
abbrev pub Counts : List Entry → Rtx → Bool → Type 0
Counts forms x true = (is_note_tree x ≡ true) ⊎ IsMatched forms x
Counts forms x false = (is_note_tree x ≡ false) × IsUnmatched forms x

-- an instruction was made by its plan, or refused as it should
abbrev pub LowersBy : List Entry → Insn → ℕ → Plan → Result Lowered PassRefusal → Type 0
LowersBy forms i greatest plan (Ok l) =
    Lowers forms (uids_for i greatest) (parts_of false i.pattern plan) 0 plan.next (Ok l.sequence) × (l.form ≡ plan.form)
LowersBy forms i greatest plan (Err e) =
    RefusesWith e (Lowers forms (uids_for i greatest) (parts_of false i.pattern plan) 0 plan.next)

-- what an instruction was lowered to, as an answer
abbrev pub as_insn : Result Lowered PassRefusal → InsnAnswer
as_insn (Ok l) = Ok (Some l)
as_insn (Err e) = Err e

-- an instruction was made by the plan that it has, or refused as it should
abbrev pub LowersUnmatched : List Entry → Insn → ℕ → ℕ → Result Lowered PassRefusal → Type 0
LowersUnmatched forms i greatest next result =
    needs_form i ≡ true → IsUnmatched forms i.pattern → Gives (as_insn result) (InsnLowers forms i greatest next)

-- whether an instruction stays
abbrev pub Stays : List Entry → Insn → Bool → Type 0
Stays forms i true = (greatest next : ℕ) → InsnLowers forms i greatest next (Ok None)
Stays forms i false = (needs_form i ≡ true) × IsUnmatched forms i.pattern
