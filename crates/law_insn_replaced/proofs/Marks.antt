-- Where an instruction is replaced, labels and barriers, the name, the locals and the result stay.
use Rattle.std.proofs.Common.{◌≡◌, ℕ, ◌+◌, Bool, true, false, List, [], ◌∷◌, Some, refl, sym, ◌∙◌}
use Rattle.std.specs.Prelude.{slice_get, if◌then◌else◌}
use Rattle.std.proofs.lemmas.Bool.{true≢false}
use Rattle.rtx_tree.specs.declared.function.Insn.{Insn}
use Rattle.rtx_tree.specs.declared.function.Function.{Function}
use Rattle.rtx_tree.specs.declared.function.Kind.{Kind}
use Rattle.rtx_tree.specs.declared.function.Kind.TheVariants as kind
use Rattle.rtx_tree.specs.declared.tree.Rtx.{Rtx}
use Rattle.rtl_step.specs.Step as step
use Rattle.rtl_func.specs.Kinds.{is_jump_tree, is_call_tree}
use Rattle.law_pass_needs.specs.form_needs.Needs.{is_kind}
use Rattle.new_insns.specs.Made.{kind_of, insns_for}
use Rattle.new_insns.specs.Replaced.{replaced}
use Rattle.law_pass_needs.specs.Left.{is_mark, marks, SameMarks}
use Rattle.law_insn_replaced.proofs.Lists.{same_filtered}

-- ---- kinds

-- an instruction is no mark
pub no_mark : (k : Kind) → is_kind k ≡ true → step.is_mark k ≡ false
no_mark kind.Plain is = refl
no_mark kind.Jump is = refl
no_mark kind.Call is = refl
no_mark kind.Label is = absurd (true≢false (sym is))
no_mark kind.Barrier is = absurd (true≢false (sym is))

-- and so is what a pattern makes
pub made_kind : (x : Rtx) → step.is_mark (kind_of x) ≡ false
made_kind x = by (is_jump_tree x) (is_call_tree x)
  where
    by : (jumps calls : Bool) → step.is_mark (if jumps then kind.Jump else (if calls then kind.Call else kind.Plain)) ≡ false
    by true calls = refl
    by false true = refl
    by false false = refl

none_marked : (old : Insn) (uid : ℕ) (xs : List Rtx) → marks (insns_for old uid xs) ≡ []
none_marked old uid [] = refl
none_marked old uid (x ∷ []) = rw (made_kind x) refl
none_marked old uid (x ∷ y ∷ more) = rw (made_kind x) (none_marked old (uid + 1) (y ∷ more))

-- ---- functions

pub replaced_same : (f : Function) (place : ℕ) (i old : Insn) (uid : ℕ) (sequence : List Rtx) → slice_get f.insns place ≡ Some i → is_kind i.kind ≡ true →
    SameMarks f (replaced f place (place + 1) (insns_for old uid sequence))
replaced_same f place i old uid sequence at is = record {
  name_is = refl;
  marks_are = same_filtered is_mark f.insns (insns_for old uid sequence) place i at (no_mark i.kind is) (none_marked old uid sequence);
  locals_are = refl;
  result_is = refl;
  result_reg_is = refl;
}

pub same_refl : (f : Function) → SameMarks f f
same_refl f = record { name_is = refl; marks_are = refl; locals_are = refl; result_is = refl; result_reg_is = refl }

pub same_trans : (f g h : Function) → SameMarks f g → SameMarks g h → SameMarks f h
same_trans f g h first second = record {
  name_is = second.name_is ∙ first.name_is;
  marks_are = second.marks_are ∙ first.marks_are;
  locals_are = second.locals_are ∙ first.locals_are;
  result_is = second.result_is ∙ first.result_is;
  result_reg_is = second.result_reg_is ∙ first.result_reg_is;
}
