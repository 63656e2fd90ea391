-- Why an output sets its form aside: it is no text, it is too long, or it is C code. GCC Internals,
-- "Output Templates and Operand Substitution", "C Statements for Assembler Output" and "Compact
-- Syntax".
use Rattle.std.specs.Prelude.{◌≡◌, ℕ, Bool, true, false, ◌&&◌, ◌||◌, List, Option, Some, None}
use Rattle.std.specs.List.{list_any}
use Rattle.lisp_read.specs.declared.tree.Tree.{Tree, out-Tree}
use Rattle.lisp_read.specs.declared.tree.Tree.TheOpen.{Tree-F}
use Rattle.lisp_read.specs.Shape.{string_of}
use Rattle.md_text.specs.Template.{is_code, is_several, is_code_line, behind_first, lines}
use Rattle.md_compact.specs.declared.block.Block.{Block}
use Rattle.md_compact.specs.Block.{block_of}
use Rattle.md_compact.specs.Old.{old_template, has_expression}
use Rattle.md_pattern.specs.declared.reason.Reason.{Reason}
use Rattle.md_pattern.specs.declared.reason.Reason.TheVariants as reason
use Rattle.md_draft.specs.Conditions.{written}
use Rattle.md_draft.specs.Outputs.{fits, is_compact, block_of_tree}

-- a template is C code: it begins with a star, or a line behind its @ does
abbrev pub is_code_text : List ℕ → Bool
is_code_text text =
    is_code text || (is_several text && list_any is_code_line (lines (behind_first text)))

abbrev pub braces_at : Tree-F Tree → Option (List ℕ)
braces_at (Tree-F.Block place text) = Some text
braces_at _ = None

-- what stands between braces
abbrev pub braces_of : Tree → Option (List ℕ)
braces_of t = braces_at (out-Tree t)

-- The tree writes a template: in quotes; or by a block in the compact syntax, which has the template
-- of the form without it.
pub data IsTemplate (t : Tree) : List ℕ → Type 0 where
  quoted : (text : List ℕ) → string_of t ≡ Some text → IsTemplate t text
  rows : (block : Block) → block_of_tree t ≡ Some block → IsTemplate t (old_template block)

-- C code stands in braces: it is no such block, and doesn't begin as one.
pub record IsBraced (t : Tree) (text : List ℕ) : Type 0 where
  pub braces : braces_of t ≡ Some text
  pub no_block : block_of text ≡ None
  pub no_rows : is_compact text ≡ false

-- The tree has this reason as an output.
pub data OutputHasReason (t : Tree) : Reason → Type 0 where
  -- it stands neither in quotes nor in braces
  no_text : written t ≡ None → OutputHasReason t reason.Parts
  -- it is longer than a template may be
  long_template : (text : List ℕ) → IsTemplate t text → fits text ≡ false →
      OutputHasReason t reason.Parts
  long_code : (text : List ℕ) → IsBraced t text → fits text ≡ false →
      OutputHasReason t reason.Parts
  -- it is C code, or an output of its block is
  code_template : (text : List ℕ) → IsTemplate t text → is_code_text text ≡ true →
      OutputHasReason t reason.CCode
  code_row : (block : Block) → block_of_tree t ≡ Some block → has_expression block ≡ true →
      OutputHasReason t reason.CCode
  code : (text : List ℕ) → IsBraced t text → OutputHasReason t reason.CCode
