-- A use or a clobber alone is no jump and no call, where an instruction has the kind of its pattern.
use Rattle.std.proofs.Common.{◌≡◌, not, true, false, List, refl, sym, ap, ◌∙◌}
use Rattle.std.proofs.lemmas.Bool.{false≢true, true≢false, and_parts}
use Rattle.rtx_tree.specs.Code.{class_of_code}
use Rattle.rtx_tree.specs.Tree.{head_of, kids_of}
use Rattle.rtx_tree.specs.declared.code.Code.{Code}
use Rattle.rtx_tree.specs.declared.code.Code.TheVariants.{Use, Clobber}
use Rattle.rtx_tree.specs.declared.function.Insn.{Insn}
use Rattle.rtx_tree.specs.declared.function.Kind.{Kind}
use Rattle.rtx_tree.specs.declared.function.Kind.TheVariants as kind
use Rattle.rtx_tree.specs.declared.tree.Rtx.{Rtx}
use Rattle.rtl_func.specs.Kinds.{is_jump_by, is_call_by, kinds_agree}
use Rattle.rtl_step.specs.Step.{is_mark}
use Rattle.split.specs.form_needs.Needs.{is_kind, is_note, needs_form}

no_jump : (c : Code) (parts : List Rtx) → is_note c ≡ true → is_jump_by (class_of_code c) parts ≡ true → ⊥
no_jump Use parts is jump = false≢true jump
no_jump Clobber parts is jump = false≢true jump
no_jump _ parts is jump = false≢true is

no_call : (c : Code) (parts : List Rtx) → is_note c ≡ true → is_call_by (class_of_code c) parts ≡ true → ⊥
no_call Use parts is call = false≢true call
no_call Clobber parts is call = false≢true call
no_call _ parts is call = false≢true is

pub note_plain : (k : Kind) (x : Rtx) → kinds_agree k x ≡ true → is_mark k ≡ false → is_note (head_of x).code ≡ true → k ≡ kind.Plain
note_plain kind.Plain x agrees none note = refl
note_plain kind.Jump x agrees none note = absurd (no_jump (head_of x).code (kids_of x) note agrees)
note_plain kind.Call x agrees none note = absurd (no_call (head_of x).code (kids_of x) note agrees)
note_plain kind.Label x agrees none note = absurd (true≢false none)
note_plain kind.Barrier x agrees none note = absurd (true≢false none)

-- ---- marks

no_mark : (k : Kind) → is_kind k ≡ true → is_mark k ≡ false
no_mark kind.Label is = absurd (false≢true is)
no_mark kind.Barrier is = absurd (false≢true is)
no_mark _ is = refl

-- what needs a form is no label and no barrier
pub form_unmarked : (i : Insn) → needs_form i ≡ true → is_mark i.kind ≡ false
form_unmarked i needs = no_mark i.kind (and_parts (is_kind i.kind) (not (is_note (head_of i.pattern).code)) needs).0

pub no_label : (k : Kind) → is_mark k ≡ false → k ≡ kind.Label → ⊥
no_label k none is = true≢false (sym (ap is_mark is) ∙ none)
