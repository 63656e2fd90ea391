-- The text of an expression on one line, as it is read: GCC Internals, "RTL Expressions" and
-- "Reading RTL".
use Rattle.std.specs.Prelude.{ℕ, ◌-◌, ℤ, pos, negsuc, ◌==◌, List, [], ◌∷◌, ◌++◌, flat_map, drop, codes, if◌then◌else◌}
use Rattle.std.specs.Fmt.{signed_decimal}
use Rattle.rtx_tree.specs.declared.code.Code.{Code}
use Rattle.rtx_tree.specs.declared.class.Class.{Class}
use Rattle.rtx_tree.specs.declared.class.Class.TheVariants.{Register, Constant, Symbol, Label, Lowpart, Parallel}
use Rattle.rtx_tree.specs.declared.code.Mode.{Mode}
use Rattle.rtx_tree.specs.declared.code.Mode.TheVariants.{Void}
use Rattle.rtx_tree.specs.declared.tree.Rtx.{Rtx, out-Rtx}
use Rattle.rtx_tree.specs.declared.tree.Rtx.TheOpen.{Rtx-F}
use Rattle.rtx_tree.specs.declared.tree.Rtx.TheFolds.{fold-Rtx}
use Rattle.rtx_tree.specs.Code.{class_of_code, code_name, mode_name}
use Rattle.rtx_tree.specs.Registers.{register_text}

-- the atom at the head of an expression: the code's name, and behind a colon that of the mode, if
-- there is one
abbrev pub mode_suffix : Mode → List ℕ
mode_suffix Void = []
mode_suffix m = 58 ∷ mode_name m

abbrev pub head_text : Code → Mode → List ℕ
head_text c m = code_name c ++ mode_suffix m

-- a register's text; a number below 0 is none's
abbrev pub printed_reg : ℤ → List ℕ
printed_reg (pos r) = register_text r
printed_reg (negsuc r) = []

-- a name that begins with a star has one star more
abbrev pub starred : List ℕ → List ℕ
starred [] = []
starred (b ∷ bs) = if b == 42 then 42 ∷ b ∷ bs else b ∷ bs

-- a text with a space in front
abbrev pub spaced : List ℕ → List ℕ
spaced text = 32 ∷ text

-- what stands between the head of an expression and its closing parenthesis, by its kids' texts,
-- each with a space in front; a label is shown by its bare number
abbrev pub printed_body : Class → ℤ → List ℕ → List ℕ → List ℕ → List ℕ
printed_body Register n name kids labels = spaced (printed_reg n)
printed_body Constant n name kids labels = spaced (signed_decimal n)
printed_body Symbol n name kids labels = codes " (\"" ++ (starred name ++ codes "\")")
printed_body Label n name kids labels = labels
printed_body Lowpart n name kids labels = kids ++ codes " 0"
printed_body Parallel n name kids labels = codes " [" ++ (drop 1 kids ++ codes "]")
printed_body _ n name kids labels = kids

-- an expression's text, and that of its number alone
pub record Printed : Type 0 where
  pub whole : List ℕ
  pub bare : List ℕ

abbrev pub printed_step : Rtx-F Printed → Printed
printed_step x = record {
  whole = codes "(" ++ (head_text x.code x.mode ++ (printed_body (class_of_code x.code) x.number x.name (flat_map (λ k. spaced k.whole) x.kids) (flat_map (λ k. spaced k.bare) x.kids) ++ codes ")"));
  bare = signed_decimal x.number;
}

abbrev pub text_of : Rtx → Printed
text_of = fold-Rtx Printed printed_step

-- (CODE:MODE PARTS), with single spaces and no flags
abbrev pub printed : Rtx → List ℕ
printed x = (text_of x).whole

-- an expression, and its number alone, behind a space
abbrev pub spaced_text : Rtx → List ℕ
spaced_text x = spaced (text_of x).whole

abbrev pub spaced_number : Rtx → List ℕ
spaced_number x = spaced (signed_decimal (out-Rtx x).number)
