-- Of the hard registers what an instruction is lowered to names a0 to a7 alone, where the instruction does.
use Rattle.std.proofs.Common.{◌≡◌, ℕ, true, List, [], ◌∷◌, Some}
use Rattle.std.specs.Prelude.{Ok}
use Rattle.std.specs.List.{list_all, AllByRecursion}
use Rattle.rtx_tree.specs.declared.function.Insn.{Insn}
use Rattle.rtx_tree.specs.declared.tree.Rtx.{Rtx}
use Rattle.md_forms.specs.declared.form.Entry.{Entry}
use Rattle.law_insn_replaced.specs.md_emit.Emitted.{keeps_to_arguments}
use Rattle.sym_insns.specs.Shape.{all_natural}
use Rattle.lower_insn.specs.declared.part.Lowered.{Lowered}
use Rattle.lower_insn.specs.Lowered.{InsnLowers}
use Rattle.law_lowering.proofs.Emitting.{KeepsArguments, in_patterns, of_patterns}
use Rattle.law_lowering.proofs.Keeping.{AllKeep, each_passes, argument_keeps, keeps_argument}
use Rattle.law_lowering.proofs.Made.{IsNatural}
use Rattle.law_lowering.proofs.Sequence.{sequence_keeps}

-- ---- an instruction

both_keep : (xs : List Rtx) → AllKeep xs → AllByRecursion IsNatural xs → AllByRecursion KeepsArguments xs
both_keep [] keep natural = tt
both_keep (x ∷ xs) keep natural = (keeps_argument x natural.0 keep.0, both_keep xs keep.1 natural.1)

sequence_arguments : (forms : List Entry) (i : Insn) (greatest next : ℕ) (l : Lowered) → KeepsArguments i.pattern →
    InsnLowers forms i greatest next (Ok (Some l)) → AllByRecursion IsNatural l.sequence → AllByRecursion KeepsArguments l.sequence
sequence_arguments forms i greatest next l keeps lowers natural =
    both_keep l.sequence (sequence_keeps forms i greatest next l (argument_keeps i.pattern keeps) lowers) natural

-- What an instruction is lowered to keeps to a0 to a7, where the instruction does. The rule looks at the low 64 bits of a number, so that
-- a pseudo register past these could look like a hard one; what takes an instruction's place has none (`Made.replaced_natural`).
pub lowers_to_arguments : (forms : List Entry) (i : Insn) (greatest next : ℕ) (l : Lowered) → keeps_to_arguments (i.pattern ∷ []) ≡ true →
    InsnLowers forms i greatest next (Ok (Some l)) → list_all all_natural l.sequence ≡ true → keeps_to_arguments l.sequence ≡ true
lowers_to_arguments forms i greatest next l kept lowers natural =
    of_patterns l.sequence
    (sequence_arguments forms i greatest next l (in_patterns (i.pattern ∷ []) kept).0 lowers (each_passes all_natural l.sequence natural))
