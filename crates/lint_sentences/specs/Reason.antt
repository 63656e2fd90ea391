-- Why a form is set aside, by the number of its reason, in words.
use Rattle.std.specs.Prelude.{ℕ, ◌==◌, nat_lt, ◌&&◌, Bool, List, [], ◌∷◌, ◌++◌, map, flat_map, codes, if◌then◌else◌}
use Rattle.std.specs.Fmt.{decimal}
use Rattle.rtx_tree.specs.declared.place.Place.{Place}
use Rattle.lint_sentences.specs.Place.{place_text}

abbrev pub reason_words : ℕ → List ℕ
reason_words n =
    if n == 1 then codes "the head isn't taken"
    else if n == 2 then codes "a part is missing, too much or of the wrong kind"
    else if n == 3 then codes "a code, or a register's number, is outside"
    else if n == 4 then codes "a mode is outside"
    else if n == 5 then codes "the output is C code"
    else if n == 6 then codes "a condition is outside the grammar"
    else if n == 7 then codes "preparation statements are outside"
    else if n == 8 then codes "a predicate is unknown, set aside itself, or asks for itself"
    else if n == 9 then codes "a constraint is unknown or set aside, a digit names no operand, or two operands have lists of different lengths"
    else if n == 10 then codes "an attribute isn't right"
    else if n == 11 then codes "the operands aren't in order"
    else codes "the template is outside"

abbrev pub timing_words : Bool → List ℕ
timing_words is_timing = if is_timing then codes "it describes a pipeline, and " else []

-- the words of a reason with its number; a form of a pipeline is told as such
abbrev pub reason_text : Bool → ℕ → List ℕ
reason_text is_timing n =
    codes ": " ++ (timing_words is_timing ++ (reason_words n ++ (codes " (reason " ++ (decimal n ++ codes ")"))))

-- ---- what it is about

-- a text on one line: a byte below 32 is shown as a space
abbrev pub shown_byte : ℕ → ℕ
shown_byte b = if nat_lt b 32 then 32 else b

abbrev pub shown : List ℕ → List ℕ
shown text = map shown_byte text

-- what it is about, if that is written
abbrev pub subject_text : List ℕ → List ℕ
subject_text [] = []
subject_text (b ∷ text) = codes ": " ++ shown (b ∷ text)

abbrev pub is_same_place : Place → Place → Bool
is_same_place one other = (one.line == other.line) && (one.column == other.column)

-- where that stands, if it isn't where the form begins
abbrev pub elsewhere_text : Place → Place → List ℕ
elsewhere_text form place =
    if is_same_place place form then [] else codes ", at " ++ place_text place

abbrev pub about_text : List ℕ → Place → Place → List ℕ
about_text text place form = subject_text text ++ elsewhere_text form place

-- ---- the forms that are set aside for its sake

abbrev pub name_text : List ℕ → List ℕ
name_text name = codes ", " ++ name

-- their names with commas between them, on a line of their own, where there are some
abbrev pub so_aside_text : List (List ℕ) → List ℕ
so_aside_text [] = []
so_aside_text (name ∷ names) =
    codes "\tso are " ++ (name ++ (flat_map name_text names ++ codes "\n"))
