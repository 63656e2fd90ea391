-- The texts of constraints: GCC Internals, "Simple Constraints", "Multiple Alternative Constraints"
-- and "Constraint Modifier Characters".
use Rattle.std.specs.Prelude.{ℕ, ◌+◌, ◌-◌, ◌==◌, nat_eq, nat_lt, nat_le, Bool, true, false, ◌&&◌, ◌||◌, List, [], ◌∷◌, ◌++◌, Option, Some, None, if◌then◌else◌, length, fold, option_map}
use Rattle.std.specs.List.{find, list_all, starts_with}
use Rattle.md_text.specs.declared.constraint.Letter.{Letter}
use Rattle.md_text.specs.declared.constraint.Letter.TheVariants as letter
use Rattle.md_text.specs.declared.constraint.Member.{Member}
use Rattle.md_text.specs.declared.constraint.Member.TheVariants as member
use Rattle.md_text.specs.declared.constraint.Direction.{Direction}
use Rattle.md_text.specs.declared.constraint.Direction.TheVariants as direction
use Rattle.md_text.specs.declared.constraint.Alternative.{Alternative}
use Rattle.md_text.specs.declared.sign.Sign.{Sign}
use Rattle.md_text.specs.declared.sign.Sign.TheVariants as sign
use Rattle.text_words.specs.Blanks.{is_blank}
use Rattle.md_text.specs.Lists.{parts, each}
use Rattle.md_text.specs.Pieces.{pieces}

-- ---- letters

-- r, m, i, n, s, g, X and p
abbrev pub letters : List (ℕ × Letter)
letters = (114, letter.Register) ∷ (109, letter.Memory) ∷ (105, letter.Immediate) ∷ (110, letter.Constant) ∷ (115, letter.Symbol) ∷ (103, letter.General) ∷ (88, letter.Anything) ∷ (112, letter.Address) ∷ []

abbrev pub letter_of : ℕ → Option Letter
letter_of byte = option_map (λ e. e.1) (find (λ e. e.0 == byte) letters)

abbrev pub is_digit : ℕ → Bool
is_digit byte = nat_le 48 byte && nat_le byte 57

-- a digit is the number of another operand
abbrev pub own_member : ℕ → Option Member
own_member byte = if is_digit byte then Some (member.Same (byte - 48)) else option_map (λ l. member.Letter l) (letter_of byte)

-- ---- what an alternative is written with

-- = + & ? ! and % * #, of which the last three have no effect; the last takes with it what follows,
-- of this length
abbrev pub mark : ℕ → ℕ → Option (Sign × ℕ)
mark byte follow = if byte == 61 then Some (sign.Output, 0)
    else if byte == 43 then Some (sign.Both, 0)
    else if byte == 38 then Some (sign.Early, 0)
    else if byte == 63 then Some (sign.Slight, 0)
    else if byte == 33 then Some (sign.Severe, 0)
    else if byte == 37 || byte == 42 then Some (sign.Nothing, 0)
    else if byte == 35 then Some (sign.Nothing, follow)
    else None

abbrev pub either : {A : Type 0} → Option A → Option A → Option A
either (Some x) other = Some x
either None other = other

-- what a byte means by itself
abbrev pub own : ℕ → ℕ → Option (Sign × ℕ)
own byte follow = either (mark byte follow) (option_map (λ m. (sign.Member m, 0)) (own_member byte))

-- the name, where the text begins with it and it is the longer one
abbrev pub longer : List ℕ → List ℕ → List ℕ → List ℕ
longer text best name =
    if starts_with nat_eq text name && nat_lt (length best) (length name) then name else best

-- the longest of some names with which a text begins; the empty one where it begins with none
abbrev pub longest : List (List ℕ) → List ℕ → List ℕ
longest names text = fold (longer text) [] names

abbrev pub defined : List ℕ → Sign × ℕ
defined name = (sign.Member (member.Defined name), length name - 1)

-- A name of several bytes comes before what its first byte means, and a name of one byte behind it.
abbrev pub by_name : List ℕ → ℕ → ℕ → Option (Sign × ℕ)
by_name name byte follow = if nat_lt 1 (length name) then Some (defined name)
    else either (own byte follow) (if length name == 1 then Some (defined name) else None)

-- what stands at the front of an alternative, and how many bytes it has behind its first; blanks
-- mean nothing
abbrev pub sign_at : List (List ℕ) → List ℕ → Option (Sign × ℕ)
sign_at names [] = None
sign_at names (byte ∷ rest) = if is_blank byte then Some (sign.Nothing, 0) else by_name (longest names (byte ∷ rest)) byte (length rest)

-- ---- alternatives

abbrev pub plain : Alternative
plain = record { direction = direction.Input; early = false; slight = 0; severe = 0; members = [] }

abbrev pub written : Direction → Direction
written direction.Both = direction.Both
written _ = direction.Output

-- one sign more
abbrev pub signed : Alternative → Sign → Alternative
signed a sign.Nothing = a
signed a sign.Output = record a { direction = written a.direction }
signed a sign.Both = record a { direction = direction.Both }
signed a sign.Early = record a { early = true }
signed a sign.Slight = record a { slight = a.slight + 1 }
signed a sign.Severe = record a { severe = a.severe + 1 }
signed a (sign.Member m) = record a { members = a.members ++ m ∷ [] }

-- the alternative that a text without commas is; none where something in it is unknown
abbrev pub alternative_of : List (List ℕ) → List ℕ → Option Alternative
alternative_of names text = option_map (fold signed plain) (pieces (sign_at names) 0 text)

-- A constraint has one alternative for each part between its commas. A text of blanks is none.
abbrev pub constraint_of : List (List ℕ) → List ℕ → Option (List Alternative)
constraint_of names text =
    if list_all is_blank text then Some [] else each (alternative_of names) (parts 44 text)
