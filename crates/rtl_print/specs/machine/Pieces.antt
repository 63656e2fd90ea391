-- Pieces of texts, as the code prints them.
use Rattle.std.specs.Prelude.{ℕ, List, flat_map, drop, replicate}
use Rattle.rtx_tree.specs.declared.tree.Rtx.{Rtx, out-Rtx}
use Rattle.rtx_tree.specs.Code.{class_of_code}
use Rattle.rtl_print.specs.Print.{printed_body, spaced_text, spaced_number}

-- expressions with a space between each two
abbrev pub separated : List Rtx → List ℕ
separated kids = drop 1 (flat_map spaced_text kids)

-- what stands behind the head of an expression
abbrev pub body_of : Rtx → List ℕ
body_of x = let o = out-Rtx x in printed_body (class_of_code o.code) o.number o.name (flat_map spaced_text o.kids) (flat_map spaced_number o.kids)

-- a number of closing parentheses
abbrev pub closed : ℕ → List ℕ
closed count = replicate count 41
