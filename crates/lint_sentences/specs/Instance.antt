-- An instance and the lines that it is given, each on a line that begins with a tab: its pattern, its
-- operands, which of them are one register, and the lines.
use Rattle.std.specs.Prelude.{ℕ, ◌&&◌, Bool, true, false, List, [], ◌++◌, flat_map, codes, Option, Some, None, if◌then◌else◌}
use Rattle.std.specs.Fmt.{decimal}
use Rattle.std.specs.Ordering.{int_eq}
use Rattle.text_words.specs.Blanks.{behind_blanks}
use Rattle.rtx_tree.specs.declared.code.Code.{Code}
use Rattle.rtx_tree.specs.declared.code.Code.TheVariants.{Reg}
use Rattle.rtx_tree.specs.declared.tree.Rtx.{Rtx}
use Rattle.rtx_tree.specs.Tree.{head_of}
use Rattle.rtx_tree.specs.Operands.{operand_at}
use Rattle.rtl_print.specs.Print.{printed}
use Rattle.lint_sentences.specs.Each.{each_from}

-- operands are told whose number is below this
abbrev pub most_operands : ℕ
most_operands = 30

abbrev pub line_of : List ℕ → List ℕ
line_of text = codes "\t" ++ (text ++ codes "\n")

-- ---- operands

-- %K OPERAND, behind a tab
abbrev pub operand_text : ℕ → Option Rtx → List ℕ
operand_text k None = []
operand_text k (Some x) = codes "\t%" ++ (decimal k ++ (codes " " ++ printed x))

abbrev pub operand_text_at : List (Option Rtx) → ℕ → List ℕ
operand_text_at operands k = operand_text k (operand_at operands k)

abbrev pub operands_text : List (Option Rtx) → List ℕ
operands_text operands = each_from (operand_text_at operands) 0 most_operands ++ codes "\n"

-- ---- operands that are one register

abbrev pub is_reg : Code → Bool
is_reg Reg = true
is_reg _ = false

abbrev pub is_one_register : Option Rtx → Option Rtx → Bool
is_one_register None other = false
is_one_register (Some x) None = false
is_one_register (Some x) (Some y) =
    is_reg (head_of x).code && (is_reg (head_of y).code && int_eq (head_of x).number (head_of y).number)

abbrev pub shared_text : ℕ → ℕ → List ℕ
shared_text second first =
    codes "\toperands " ++ (decimal first ++ (codes " and " ++ (decimal second ++ codes " are one register\n")))

abbrev pub shared_by : List (Option Rtx) → ℕ → ℕ → List ℕ
shared_by operands second first =
    if is_one_register (operand_at operands second) (operand_at operands first) then shared_text second first else []

-- with each operand before it
abbrev pub shared_with : List (Option Rtx) → ℕ → List ℕ
shared_with operands second = each_from (shared_by operands second) 0 second

abbrev pub shared_texts : List (Option Rtx) → List ℕ
shared_texts operands = each_from (shared_with operands) 0 most_operands

-- ---- lines

abbrev pub line_shown : List ℕ → List ℕ
line_shown text = line_of (behind_blanks text)

-- ---- the instance

abbrev pub instance_text : Rtx → List (Option Rtx) → List (List ℕ) → List ℕ
instance_text pattern operands lines =
    line_of (printed pattern) ++ (operands_text operands ++ (shared_texts operands ++ flat_map line_shown lines))
