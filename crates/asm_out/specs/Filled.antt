-- The lines that a form gives for an instruction: GCC Internals, "Output Template" and "Output
-- Templates and Operand Substitution".
use Rattle.std.specs.Prelude.{ℕ, List, [], ◌∷◌, ◌++◌, Option, Some, None, Result, Ok, Err, slice_get, option_and_then}
use Rattle.rtx_tree.specs.declared.function.Insn.{Insn}
use Rattle.md_text.specs.declared.template.Template.{Template}
use Rattle.md_pattern.specs.declared.reason.Reason.{Reason}
use Rattle.md_forms.specs.declared.form.Form.{Form}
use Rattle.md_forms.specs.declared.form.Entry.{Entry}
use Rattle.md_desc.specs.declared.output.Chosen.{Chosen}
use Rattle.md_output.specs.Filled.{filled, lines_of}
use Rattle.md_output.specs.Read.{AreReadAs}
pub use Rattle.md_output.specs.Read.{no_line, IsReadAs}
use Rattle.rv_text.specs.declared.line.Line.{Line}

abbrev pub template_in : Result Form Reason → Option Template
template_in (Ok form) = Some form.template
template_in (Err reason) = None

-- the template of the form with an index, where that is accepted
abbrev pub template_at : List Entry → ℕ → Option Template
template_at forms index = option_and_then (λ e. template_in e.form) (slice_get forms index)

abbrev pub text_by : Option Template → ℕ → Insn → Chosen → List ℕ
text_by None number i c = []
text_by (Some template) number i c = filled template c.alternative number i.uid c.operands

-- the template of the chosen form, filled with the operands of an instruction of a function with a
-- number
abbrev pub text_of : List Entry → ℕ → Insn → Chosen → List ℕ
text_of forms number i c = text_by (template_at forms c.form) number i c

-- as it stands in the assembly: behind a tab, and ended; the empty text, which has no lines, leaves
-- a line of blanks
abbrev pub written : List ℕ → List ℕ
written text = 9 ∷ (text ++ 10 ∷ [])

-- each line of a text is read
abbrev pub AreLinesOf : List ℕ → List Line → Type 0
AreLinesOf text lines = AreReadAs (lines_of text) lines
