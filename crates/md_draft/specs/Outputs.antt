-- The outputs of forms: GCC Internals, "Output Templates and Operand Substitution", "C Statements
-- for Assembler Output" and, for a block of rows, "Compact Syntax". An output is text, a line for
-- each alternative, or such a block, which has the template of the form without it.
use Rattle.std.specs.Prelude.{ℕ, nat_le, ◌==◌, Bool, false, List, [], ◌∷◌, Option, Some, None, Ok, Err, if◌then◌else◌, length, option_and_then}
use Rattle.lisp_read.specs.declared.tree.Tree.{Tree, out-Tree}
use Rattle.lisp_read.specs.declared.tree.Tree.TheOpen.{Tree-F}
use Rattle.md_text.specs.declared.template.Template.TheVariants as template
use Rattle.md_text.specs.declared.template.Reading.{Reading}
use Rattle.md_text.specs.declared.template.Reading.TheVariants as reading
use Rattle.text_words.specs.Blanks.{behind_blanks}
use Rattle.md_text.specs.Template.{template_of}
use Rattle.md_compact.specs.declared.block.Block.{Block}
use Rattle.md_compact.specs.Block.{block_of}
use Rattle.md_compact.specs.Old.{old_template, has_expression}
use Rattle.md_pattern.specs.declared.reason.Reason.TheVariants as reason
use Rattle.md_draft.specs.declared.draft.Output.{Output}
use Rattle.md_draft.specs.declared.draft.Output.TheVariants as output
use Rattle.md_draft.specs.Patterns.{Judged, if_there}

-- a template has 4,096 bytes at most
abbrev pub fits : List ℕ → Bool
fits text = nat_le (length text) 4096

abbrev pub output_by : Reading → Judged Output
output_by (reading.Template t) = Ok (output.Template t)
output_by reading.Outside = Ok output.Outside
output_by reading.Code = Err reason.CCode

abbrev pub begins_with_at : List ℕ → Bool
begins_with_at [] = false
begins_with_at (b ∷ rest) = b == 64

-- what stands behind @ is in the compact syntax
abbrev pub is_compact : List ℕ → Bool
is_compact text = begins_with_at (behind_blanks text)

-- between quotes stands a template
abbrev pub quoted : List ℕ → Judged Output
quoted text = if fits text then output_by (template_of text) else Err reason.Parts

-- C code stands for any output of a block that is C code
abbrev pub unless_code : Bool → Judged Output → Judged Output
unless_code code o = if code then Err reason.CCode else o

-- a block has the template of the form without it
abbrev pub rows_output : Block → Judged Output
rows_output b = if fits (old_template b) then unless_code (has_expression b) (output_by (template_of (old_template b))) else Err reason.Parts

-- between braces stands C code; what stands behind @ there and is no block is outside
abbrev pub braced : List ℕ → Option Block → Judged Output
braced text (Some b) = rows_output b
braced text None =
    if is_compact text then Ok output.Outside
    else if fits text then Err reason.CCode
    else Err reason.Parts

-- the block that stands in the place of an output, if one does
abbrev pub block_at : Tree-F Tree → Option Block
block_at (Tree-F.Block place text) = block_of text
block_at _ = None

abbrev pub block_of_tree : Tree → Option Block
block_of_tree t = block_at (out-Tree t)

unfoldable pub block_in : Option Tree → Option Block
block_in t = option_and_then block_of_tree t

abbrev pub output_at : Option Block → Tree-F Tree → Judged Output
output_at b (Tree-F.Str place text) = quoted text
output_at b (Tree-F.Block place text) = braced text b
output_at b _ = Err reason.Parts

abbrev pub output_of_tree : Option Block → Tree → Judged Output
output_of_tree b t = output_at b (out-Tree t)

-- the output, by the block that stands there
unfoldable pub output_with : Option Block → Option Tree → Judged Output
output_with b t = if_there (output.Template (template.One [])) (output_of_tree b) t
