-- The atom at the head of an expression, as `mem/c:SI`: its code, its flags and its mode. GCC
-- Internals, "Reading RTL", "Flags in an RTL Expression" and "Machine Modes".
use Rattle.std.specs.Prelude.{ℕ, ◌+◌, Bool, true, false, not, ◌==◌, ◌&&◌, ◌||◌, List, [], ◌∷◌, Option, Some, None, if◌then◌else◌, option_map, option_and_then, take, drop}
use Rattle.std.specs.List.{list_any, position_from}
use Rattle.rtx_tree.specs.declared.code.Code.{Code}
use Rattle.rtx_tree.specs.declared.code.Mode.{Mode}
use Rattle.rtx_tree.specs.declared.code.Mode.TheVariants.{Void}
use Rattle.rtx_tree.specs.Code.{code_in, mode_named}
use Rattle.rtx_tree.specs.Tree.{is_memory_code}
use Rattle.lisp_read.specs.declared.head.Opening.{Opening}

-- where the first byte of a kind stands in a text
abbrev pub first_of : ℕ → List ℕ → Option ℕ
first_of b text = position_from (λ c. c == b) 0 text

-- a text at the first byte of a kind: what stands before it, and what stands behind it, if it
-- stands at all
abbrev pub cut_at : List ℕ → Option ℕ → List ℕ × Option (List ℕ)
cut_at text None = (text, None)
cut_at text (Some k) = (take k text, Some (drop (k + 1) text))

abbrev pub cut : ℕ → List ℕ → List ℕ × Option (List ℕ)
cut b text = cut_at text (first_of b text)

-- the mode behind a colon, Void where there is no colon
abbrev pub mode_in : Option (List ℕ) → Option Mode
mode_in None = Some Void
mode_in (Some name) = mode_named name

-- c, f, i, j, s, u or v
abbrev pub is_flag : ℕ → Bool
is_flag b = b == 99 || b == 102 || b == 105 || b == 106 || b == 115 || b == 117 || b == 118

-- letters with a slash between each two, where one is due next or not
abbrev pub are_flags : Bool → List ℕ → Bool
are_flags due [] = not due
are_flags due (b ∷ bs) = (if due then is_flag b else b == 47) && are_flags (not due) bs

-- v, which says that memory is volatile
abbrev pub is_volatile : List ℕ → Bool
is_volatile flags = list_any (λ b. b == 118) flags

-- flags are passed over, but volatile memory is outside the language
abbrev pub flags_pass : Code → Option (List ℕ) → Bool
flags_pass c None = true
flags_pass c (Some flags) = are_flags true flags && not (is_memory_code c && is_volatile flags)

abbrev pub flagged : Option (List ℕ) → Code → Option Code
flagged flags c = if flags_pass c flags then Some c else None

-- a code with its flags
abbrev pub flagged_code_in : List ℕ → Option Code
flagged_code_in text =
    let parts = cut 47 text in option_and_then (flagged parts.1) (code_in parts.0)

-- the code, and the mode, that the text of a head writes in a description, which has no flags
abbrev pub code_of_head : List ℕ → Option Code
code_of_head text = code_in (cut 58 text).0

abbrev pub mode_of_head : List ℕ → Option Mode
mode_of_head text = mode_in (cut 58 text).1

abbrev pub head_with : Option Mode → Code → Option Opening
head_with m c = option_map (λ mode. record { code = c; mode = mode }) m

-- a code, its flags and its mode, as functions have them
abbrev pub head_in : List ℕ → Option Opening
head_in text = let parts = cut 58 text in option_and_then (head_with (mode_in parts.1)) (flagged_code_in parts.0)
