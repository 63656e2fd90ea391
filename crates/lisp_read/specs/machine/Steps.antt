-- The reader's own steps, one byte after the other. Only private clauses and proofs speak of them:
-- what a text is, is said in Text.
use Rattle.std.specs.Prelude.{ℕ, suc, zero, ◌+◌, List, [], ◌∷◌, ◌++◌, Option, Some, None, if◌then◌else◌}
use Rattle.rtx_tree.specs.declared.place.Place.{Place}
use Rattle.lisp_read.specs.declared.class.Bracket.{Bracket}
use Rattle.lisp_read.specs.declared.class.ByteClass.{ByteClass}
use Rattle.lisp_read.specs.declared.class.ByteClass.TheVariants as class
use Rattle.lisp_read.specs.declared.mode.Mode.{Mode}
use Rattle.lisp_read.specs.declared.mode.Mode.TheVariants as mode
use Rattle.lisp_read.specs.Bytes.{slash}
use Rattle.lisp_read.specs.Class.{class_of, is_atom_class}
use Rattle.lisp_read.specs.Part.{Part, Atom, Str, Block, Open, Close}
use Rattle.lisp_read.specs.Nesting.{same_kind}

-- the kinds of the lists and vectors that are open, the innermost first, and the parts so far
pub record Front : Type 0 where
  pub within : List Bracket
  pub parts : List Part

pub record State : Type 0 where
  pub front : Front
  pub mode : Mode

abbrev pub at : Front → Mode → Option State
at f m = Some (record { front = f; mode = m })

abbrev pub with_part : Front → Part → Front
with_part f part = record f { parts = f.parts ++ part ∷ [] }

abbrev pub opened : Front → Bracket → Place → Front
opened f k here = record { within = k ∷ f.within; parts = f.parts ++ Open k here ∷ [] }

abbrev pub closed_in : List Bracket → List Part → Bracket → Option State
closed_in [] parts k = None
closed_in (innermost ∷ within) parts k = if same_kind innermost k then at (record { within = within; parts = parts ++ Close k ∷ [] }) mode.Between else None

abbrev pub closed : Front → Bracket → Option State
closed f k = closed_in f.within f.parts k

-- a byte where a tree may begin
abbrev pub begin : Place → Front → ℕ → ByteClass → Option State
begin here f b class.Zero = None
begin here f b class.Blank = at f mode.Between
begin here f b class.Newline = at f mode.Between
begin here f b class.Semicolon = at f mode.Line
begin here f b class.Slash = at f (mode.Slash here)
begin here f b class.Star = at f (mode.Atom here (b ∷ []))
begin here f b class.Quote = at f (mode.Str here [])
begin here f b class.Backslash = at f (mode.Atom here (b ∷ []))
begin here f b class.OpenBrace = at f (mode.Block here 0 [])
begin here f b class.CloseBrace = None
begin here f b (class.Open k) = at (opened f k here) mode.Between
begin here f b (class.Close k) = closed f k
begin here f b class.Plain = at f (mode.Atom here (b ∷ []))
begin here f b class.Other = None

-- a byte behind an atom, or in it
abbrev pub in_atom : Place → Front → ℕ → ByteClass → Place → List ℕ → Option State
in_atom here f b c p t = if is_atom_class c then at f (mode.Atom p (t ++ b ∷ [])) else begin here (with_part f (Atom p t)) b c

abbrev pub in_line : Front → ByteClass → Option State
in_line f class.Zero = None
in_line f class.Newline = at f mode.Between
in_line f _ = at f mode.Line

-- a byte behind a slash where a tree may begin
abbrev pub in_slash : Place → Front → ℕ → ByteClass → Place → Option State
in_slash here f b class.Star p = at f mode.Comment
in_slash here f b c p = in_atom here f b c p (slash ∷ [])

abbrev pub in_comment : Front → ByteClass → Option State
in_comment f class.Zero = None
in_comment f class.Star = at f mode.CommentStar
in_comment f _ = at f mode.Comment

abbrev pub in_comment_star : Front → ByteClass → Option State
in_comment_star f class.Zero = None
in_comment_star f class.Star = at f mode.CommentStar
in_comment_star f class.Slash = at f mode.Between
in_comment_star f _ = at f mode.Comment

abbrev pub in_string : Front → ℕ → ByteClass → Place → List ℕ → Option State
in_string f b class.Zero p t = None
in_string f b class.Quote p t = at (with_part f (Str p t)) mode.Between
in_string f b class.Backslash p t = at f (mode.StrEscape p (t ++ b ∷ []))
in_string f b _ p t = at f (mode.Str p (t ++ b ∷ []))

abbrev pub in_string_escape : Front → ℕ → ByteClass → Place → List ℕ → Option State
in_string_escape f b class.Zero p t = None
in_string_escape f b _ p t = at f (mode.Str p (t ++ b ∷ []))

abbrev pub closes_block : Front → ℕ → Place → ℕ → List ℕ → Option State
closes_block f b p zero t = at (with_part f (Block p t)) mode.Between
closes_block f b p (suc d) t = at f (mode.Block p d (t ++ b ∷ []))

abbrev pub in_block : Front → ℕ → ByteClass → Place → ℕ → List ℕ → Option State
in_block f b class.Zero p d t = None
in_block f b class.Backslash p d t = at f (mode.BlockEscape p d (t ++ b ∷ []))
in_block f b class.OpenBrace p d t = at f (mode.Block p (d + 1) (t ++ b ∷ []))
in_block f b class.CloseBrace p d t = closes_block f b p d t
in_block f b _ p d t = at f (mode.Block p d (t ++ b ∷ []))

abbrev pub in_block_escape : Front → ℕ → ByteClass → Place → ℕ → List ℕ → Option State
in_block_escape f b class.Zero p d t = None
in_block_escape f b _ p d t = at f (mode.Block p d (t ++ b ∷ []))

-- a byte of this class, read in this mode
abbrev pub next_in : Place → Front → ℕ → ByteClass → Mode → Option State
next_in here f b c mode.Between = begin here f b c
next_in here f b c mode.Line = in_line f c
next_in here f b c (mode.Slash p) = in_slash here f b c p
next_in here f b c mode.Comment = in_comment f c
next_in here f b c mode.CommentStar = in_comment_star f c
next_in here f b c (mode.Atom p t) = in_atom here f b c p t
next_in here f b c (mode.Str p t) = in_string f b c p t
next_in here f b c (mode.StrEscape p t) = in_string_escape f b c p t
next_in here f b c (mode.Block p d t) = in_block f b c p d t
next_in here f b c (mode.BlockEscape p d t) = in_block_escape f b c p d t

-- The state behind a byte that stands here. None where no text goes on so.
abbrev pub next : Place → State → ℕ → Option State
next here s b = next_in here s.front b (class_of b) s.mode
