-- Forms with a block in the compact syntax: GCC Internals, "Compact Syntax". Such a form says what
-- the form without the block says: the block's columns give operands their constraints, its names
-- give attributes their values, and its outputs are the template.
use Rattle.std.specs.Prelude.{ℕ, ℤ, ◌+◌, ◌==◌, nat_le, Bool, true, not, ◌&&◌, List, [], ◌∷◌, ◌++◌, if◌then◌else◌, length, map}
use Rattle.std.specs.Int.{cast_unsigned, w64}
use Rattle.std.specs.List.{flat_map, list_all, list_any}
use Rattle.std.specs.Str.{bytes_eq}
use Rattle.rtx_tree.specs.declared.code.Code.{Code}
use Rattle.rtx_tree.specs.declared.code.Code.TheVariants.{MatchOperand, MatchScratch}
use Rattle.rtx_tree.specs.declared.tree.Rtx.{Rtx}
use Rattle.rtx_tree.specs.declared.tree.Rtx.TheOpen.{Rtx-F}
use Rattle.rtx_tree.specs.declared.tree.Rtx.TheFolds.{fold-Rtx}
use Rattle.text_words.specs.Blanks.{is_blank}
use Rattle.md_compact.specs.declared.block.Block.{Block}
use Rattle.md_compact.specs.declared.block.Column.{Column}
use Rattle.md_compact.specs.Old.{column_text, values_at}
use Rattle.md_pattern.specs.declared.operand.OperandText.{OperandText}
use Rattle.md_pattern.specs.declared.pattern.Patterns.{Patterns}
use Rattle.md_draft.specs.declared.draft.Attribute.{Attribute}
use Rattle.md_draft.specs.declared.draft.Output.{Output}
use Rattle.md_draft.specs.declared.draft.Output.TheVariants as output
use Rattle.md_draft.specs.declared.draft.Printed.{Printed}
use Rattle.md_draft.specs.declared.draft.Draft.{Draft}

-- ---- the operands of which a column may be

-- those that a pattern may give a constraint
abbrev pub operand_here : Code → ℤ → List ℕ
operand_here MatchOperand number = cast_unsigned w64 number ∷ []
operand_here MatchScratch number = cast_unsigned w64 number ∷ []
operand_here _ number = []

abbrev pub operands_step : Rtx-F (List ℕ) → List ℕ
operands_step x = operand_here x.code x.number ++ flat_map (λ numbers. numbers) x.kids

abbrev pub operands_in : Rtx → List ℕ
operands_in = fold-Rtx (List ℕ) operands_step

unfoldable pub operands_of : Patterns → List ℕ
operands_of ps = flat_map operands_in ps.trees

-- the pattern gives an operand a constraint; one of blanks is none
abbrev pub constrains : ℕ → OperandText → Bool
constrains n t = t.operand == n && not (list_all is_blank t.text)

-- a column is of an operand of the pattern to which that gives no constraint
abbrev pub column_fits : List ℕ → List OperandText → Column → Bool
column_fits operands texts c =
    list_any (λ n. n == c.operand) operands && not (list_any (constrains c.operand) texts)

abbrev pub is_of : ℕ → Column → Bool
is_of n c = c.operand == n

-- no two are of one operand
abbrev pub are_apart : List Column → Bool
are_apart [] = true
are_apart (c ∷ cs) = not (list_any (is_of c.operand) cs) && are_apart cs

-- there are no more than a form has operands
abbrev pub columns_fit : List ℕ → List OperandText → List Column → Bool
columns_fit operands texts columns =
    nat_le (length columns) 30 &&
    (are_apart columns && list_all (column_fits operands texts) columns)

-- ---- the attributes to which a name may give values

abbrev pub is_named : List (List ℕ) → List ℕ → Bool
is_named names name = list_any (λ other. bytes_eq other name) names

-- none of some names stands among those that are known, or twice
abbrev pub are_new : List (List ℕ) → List (List ℕ) → Bool
are_new known [] = true
are_new known (name ∷ more) = not (is_named known name) && are_new (name ∷ known) more

abbrev pub given_names : List Attribute → List (List ℕ)
given_names given = map (λ a. a.name) given

-- ---- the form without the block

-- the block fits a form with these patterns, which gives these attributes values itself
unfoldable pub is_fitting : Block → Patterns → List Attribute → Bool
is_fitting block ps given = columns_fit (operands_of ps) ps.texts block.layout.columns && are_new (given_names given) block.layout.names

-- what is made of each of some things and of its index, from this one on
abbrev pub each_from : {A B : Type 0} → (ℕ → A → B) → ℕ → List A → List B
each_from make at [] = []
each_from make at (x ∷ xs) = make at x ∷ each_from make (at + 1) xs

abbrev pub column_constraint : Block → ℕ → Column → OperandText
column_constraint block at c = record { operand = c.operand; text = column_text block at c }

-- the constraints of the columns' operands; any other operand has none
abbrev pub old_texts : Block → List OperandText
old_texts block = each_from (column_constraint block) 0 block.layout.columns

abbrev pub name_values : Block → ℕ → List ℕ → Attribute
name_values block at name = record { name = name; values = values_at block at }

abbrev pub old_attributes : Block → List Attribute
old_attributes block = each_from (name_values block) 0 block.layout.names

-- a template is outside where the block doesn't fit
abbrev pub old_output : Bool → Output → Output
old_output fitting o = if fitting then o else output.Outside

abbrev pub old_patterns : Block → Patterns → Patterns
old_patterns block ps = record { trees = ps.trees; texts = old_texts block }

-- the attributes of the block stand behind the form's own
abbrev pub old_printed : Block → Patterns → Printed → Printed
old_printed block ps p = record {
  output = old_output (is_fitting block ps p.attributes) p.output;
  attributes = p.attributes ++ old_attributes block;
}

-- what the form without the block says, by what the form says besides the block
unfoldable pub old_draft : Block → Draft → Draft
old_draft block d = record {
  head = d.head;
  matched = record { patterns = old_patterns block d.matched.patterns; condition = d.matched.condition };
  replacement = d.replacement;
  printed = old_printed block d.matched.patterns d.printed;
  defined = d.defined;
}
