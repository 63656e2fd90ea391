-- The text of trees: a grammar.
--
-- GCC writes RTL and machine descriptions as trees in this way (GCC Internals, "RTL Object Types"
-- and "Machine Descriptions"): an expression is a list in parentheses, a vector stands in square
-- brackets, a string in double quotes, C code may stand in braces ("C Statements for Assembler
-- Output"), and comments begin with a semicolon or stand between /* and */. The manual gives no
-- grammar. This one, with the bytes that an atom may have, the escapes, the places and what is no
-- text, is the profile of this project.
use Rattle.std.specs.Prelude.{◌≡◌, ℕ, suc, Bool, true, false, List, [], ◌∷◌, ◌++◌}
use Rattle.rtx_tree.specs.declared.place.Place.{Place}
use Rattle.lisp_read.specs.declared.class.Bracket.{Bracket}
use Rattle.lisp_read.specs.declared.class.ByteClass.{ByteClass}
use Rattle.lisp_read.specs.declared.class.ByteClass.TheVariants as class
use Rattle.lisp_read.specs.declared.tree.Tree.{Tree}
use Rattle.lisp_read.specs.Bytes.{newline, quote, star, slash, semicolon, open_brace, close_brace}
use Rattle.lisp_read.specs.Class.{class_of, open_byte, close_byte, is_atom_class, is_blank, not_zero, in_line_comment, in_quotes, in_braces}
use Rattle.lisp_read.specs.Places.{start, advance, place_after}
use Rattle.lisp_read.specs.Part.{Part, Atom, Str, Block, Open, Close, parts_of_all}
use Rattle.lisp_read.specs.Nesting.{IsNested}

-- each byte is of a class that passes
abbrev pub Each : (ByteClass → Bool) → List ℕ → Type 0
Each passes [] = Unit {0}
Each passes (b ∷ bs) = (passes (class_of b) ≡ true) × Each passes bs

-- a byte of this class and the bytes behind it do not begin with */, the end of a comment
abbrev pub NotClosing : ByteClass → List ℕ → Type 0
NotClosing class.Star (b ∷ bs) = class_of b ≡ class.Slash → ⊥
NotClosing _ _ = Unit {0}

-- between /* and */: any bytes but 0 in which no */ stands
abbrev pub IsCommentBody : List ℕ → Type 0
IsCommentBody [] = Unit {0}
IsCommentBody (b ∷ bs) =
    (not_zero (class_of b) ≡ true) × NotClosing (class_of b) bs × IsCommentBody bs

-- Between the quotes of a string: a backslash takes the next byte with it. The text of a string is
-- these bytes, with their backslashes.
pub data IsQuoted : List ℕ → Type 0 where
  nothing : IsQuoted []
  byte : (b : ℕ) (bs : List ℕ) → in_quotes (class_of b) ≡ true → IsQuoted bs → IsQuoted (b ∷ bs)
  escape : (b c : ℕ) (bs : List ℕ) → class_of b ≡ class.Backslash → not_zero (class_of c) ≡ true →
      IsQuoted bs → IsQuoted (b ∷ c ∷ bs)

-- In a block, up to the brace that matches the first, where so many braces are open within it: a
-- backslash takes the next byte with it.
pub data IsBraced : ℕ → List ℕ → Type 0 where
  nothing : IsBraced 0 []
  byte : (depth b : ℕ) (bs : List ℕ) → in_braces (class_of b) ≡ true → IsBraced depth bs →
      IsBraced depth (b ∷ bs)
  escape : (depth b c : ℕ) (bs : List ℕ) → class_of b ≡ class.Backslash →
      not_zero (class_of c) ≡ true → IsBraced depth bs → IsBraced depth (b ∷ c ∷ bs)
  opens : (depth b : ℕ) (bs : List ℕ) → class_of b ≡ class.OpenBrace → IsBraced (suc depth) bs →
      IsBraced depth (b ∷ bs)
  closes : (depth b : ℕ) (bs : List ℕ) → class_of b ≡ class.CloseBrace → IsBraced depth bs →
      IsBraced (suc depth) (b ∷ bs)

abbrev pub NotStar : List ℕ → Type 0
NotStar [] = Unit {0}
NotStar (b ∷ bs) = class_of b ≡ class.Star → ⊥

-- an atom: atom bytes, at least one, that do not begin with /* as a comment does
abbrev pub IsAtom : List ℕ → Type 0
IsAtom [] = ⊥
IsAtom (b ∷ bs) =
    (is_atom_class (class_of b) ≡ true) × Each is_atom_class bs ×
    (class_of b ≡ class.Slash → NotStar bs)

-- behind an atom stands no further atom byte: the run is the longest
abbrev pub EndsAtom : List ℕ → Type 0
EndsAtom [] = Unit {0}
EndsAtom (b ∷ bs) = is_atom_class (class_of b) ≡ false

-- The bytes, the first of which stands at the place, spell the parts in order. One case for each
-- thing that may stand next: the end; a blank; a comment up to the end of the line, or of the text;
-- a comment between /* and */; an atom; a string; a block; a byte that opens or closes a list or a
-- vector.
pub data Spells : Place → List Part → List ℕ → Type 0 where
  end : (here : Place) → Spells here [] []
  blank : (here : Place) (parts : List Part) (b : ℕ) (rest : List ℕ) →
      is_blank (class_of b) ≡ true →
      Spells (advance here b) parts rest → Spells here parts (b ∷ rest)
  line : (here : Place) (parts : List Part) (body rest : List ℕ) → Each in_line_comment body →
      Spells (place_after here (semicolon ∷ body ++ newline ∷ [])) parts rest → Spells here parts ((semicolon ∷ body ++ newline ∷ []) ++ rest)
  last_line : (here : Place) (body : List ℕ) → Each in_line_comment body →
      Spells here [] (semicolon ∷ body)
  comment : (here : Place) (parts : List Part) (body rest : List ℕ) → IsCommentBody body →
      Spells (place_after here (slash ∷ star ∷ body ++ star ∷ slash ∷ [])) parts rest → Spells here parts ((slash ∷ star ∷ body ++ star ∷ slash ∷ []) ++ rest)
  atom : (here : Place) (parts : List Part) (text rest : List ℕ) → IsAtom text → EndsAtom rest →
      Spells (place_after here text) parts rest → Spells here (Atom here text ∷ parts) (text ++ rest)
  string : (here : Place) (parts : List Part) (text rest : List ℕ) → IsQuoted text →
      Spells (place_after here (quote ∷ text ++ quote ∷ [])) parts rest → Spells here (Str here text ∷ parts) ((quote ∷ text ++ quote ∷ []) ++ rest)
  block : (here : Place) (parts : List Part) (text rest : List ℕ) → IsBraced 0 text →
      Spells (place_after here (open_brace ∷ text ++ close_brace ∷ [])) parts rest → Spells here (Block here text ∷ parts) ((open_brace ∷ text ++ close_brace ∷ []) ++ rest)
  opens : (here : Place) (parts : List Part) (kind : Bracket) (rest : List ℕ) →
      Spells (advance here (open_byte kind)) parts rest → Spells here (Open kind here ∷ parts) (open_byte kind ∷ rest)
  closes : (here : Place) (parts : List Part) (kind : Bracket) (rest : List ℕ) →
      Spells (advance here (close_byte kind)) parts rest → Spells here (Close kind ∷ parts) (close_byte kind ∷ rest)

-- the bytes are a text of the trees, whose places in it are right
pub record IsText (trees : List Tree) (bytes : List ℕ) : Type 0 where
  pub nested : IsNested (parts_of_all trees)
  pub spelled : Spells start (parts_of_all trees) bytes
