-- A step after which more is open was at an opening byte, which is then the last of the parts.
use Rattle.std.proofs.Common.{◌≡◌, ℕ, zero, suc, ◌+◌, ◌<◌, ◌≤◌, Bool, true, false, cond, List, [], ◌∷◌, ◌++◌, length, Option, Some, None, sym, ap, arith}
use Rattle.rtx_tree.specs.declared.place.Place.{Place}
use Rattle.lisp_read.specs.declared.class.Bracket.{Bracket}
use Rattle.lisp_read.specs.declared.class.ByteClass.{ByteClass}
use Rattle.lisp_read.specs.declared.class.ByteClass.TheVariants as class
use Rattle.lisp_read.specs.declared.mode.Mode.{Mode}
use Rattle.lisp_read.specs.declared.mode.Mode.TheVariants as mode
use Rattle.lisp_read.specs.Class.{is_atom_class}
use Rattle.lisp_read.specs.Part.{Part, Atom, Open, Close}
use Rattle.lisp_read.specs.Nesting.{same_kind}
use Rattle.lisp_read.specs.machine.Steps.{Front, State, next_in, at, begin, in_atom, in_line, in_slash, in_comment, in_comment_star, in_string, in_string_escape, in_block, in_block_escape, closes_block, with_part, opened, closed_in}
use Rattle.lisp_read.proofs.Settles.{st, fr, some_is}

-- a byte that opens leaves its opening at the end of the parts
abbrev pub OpensAt : Place → State → Type 0
OpensAt here t = (before : List Part) × (kind : Bracket) × (t.front.parts ≡ before ++ Open kind here ∷ []) × (t.mode ≡ mode.Between)

abbrev pub Opens : Place → Front → Option State → Type 0
Opens here f o = (t : State) → o ≡ Some t → length f.within < length t.front.within → OpensAt here t

none_opens : (here : Place) (f : Front) → Opens here f None
none_opens here f t e n = cc

stays : (here : Place) (f g : Front) (m : Mode) → length g.within ≤ length f.within → Opens here f (at g m)
stays here f g m le t e n =
    let same : length t.front.within ≡ length g.within = ap (λ (s : State). length s.front.within) (sym (some_is (st g m) t e)) in
    absurd (omega arith)

closing : (here : Place) (within all : List Bracket) (parts ps : List Part) (k : Bracket) → length within ≤ length all → Opens here (fr all ps) (closed_in within parts k)
closing here [] all parts ps k le = none_opens here (fr all ps)
closing here (j ∷ within) all parts ps k le = by_test (same_kind j k)
  where
    by_test : (q : Bool) → Opens here (fr all ps) (cond q (at (fr within (parts ++ Close k ∷ [])) mode.Between) None)
    by_test true = stays here (fr all ps) (fr within (parts ++ Close k ∷ [])) mode.Between (omega arith)
    by_test false = none_opens here (fr all ps)

begin_opens : (here : Place) (f : Front) (b : ℕ) (c : ByteClass) → Opens here f (begin here f b c)
begin_opens here f b class.Zero = none_opens here f
begin_opens here f b class.CloseBrace = none_opens here f
begin_opens here f b class.Other = none_opens here f
begin_opens here f b class.Blank = stays here f f mode.Between (omega arith)
begin_opens here f b class.Newline = stays here f f mode.Between (omega arith)
begin_opens here f b class.Semicolon = stays here f f mode.Line (omega arith)
begin_opens here f b class.Slash = stays here f f (mode.Slash here) (omega arith)
begin_opens here f b class.Quote = stays here f f (mode.Str here []) (omega arith)
begin_opens here f b class.OpenBrace = stays here f f (mode.Block here 0 []) (omega arith)
begin_opens here f b (class.Open k) = λ t e n. (f.parts, k, ap (λ (s : State). s.front.parts) (sym (some_is (st (opened f k here) mode.Between) t e)), ap (λ (s : State). s.mode) (sym (some_is (st (opened f k here) mode.Between) t e)))
begin_opens here f b (class.Close k) = closing here f.within f.within f.parts f.parts k (omega arith)
begin_opens here f b _ = stays here f f (mode.Atom here (b ∷ [])) (omega arith)

atom_opens : (here : Place) (f : Front) (b : ℕ) (c : ByteClass) (p : Place) (t : List ℕ) → Opens here f (in_atom here f b c p t)
atom_opens here f b c p t = by_test (is_atom_class c)
  where
    by_test : (q : Bool) → Opens here f (cond q (at f (mode.Atom p (t ++ b ∷ []))) (begin here (with_part f (Atom p t)) b c))
    by_test true = stays here f f (mode.Atom p (t ++ b ∷ [])) (omega arith)
    by_test false = begin_opens here (with_part f (Atom p t)) b c

line_opens : (here : Place) (f : Front) (c : ByteClass) → Opens here f (in_line f c)
line_opens here f class.Zero = none_opens here f
line_opens here f class.Newline = stays here f f mode.Between (omega arith)
line_opens here f _ = stays here f f mode.Line (omega arith)

slash_opens : (here : Place) (f : Front) (b : ℕ) (c : ByteClass) (p : Place) → Opens here f (in_slash here f b c p)
slash_opens here f b class.Star p = stays here f f mode.Comment (omega arith)
slash_opens here f b c p = atom_opens here f b c p (47 ∷ [])

comment_opens : (here : Place) (f : Front) (c : ByteClass) → Opens here f (in_comment f c)
comment_opens here f class.Zero = none_opens here f
comment_opens here f class.Star = stays here f f mode.CommentStar (omega arith)
comment_opens here f _ = stays here f f mode.Comment (omega arith)

star_opens : (here : Place) (f : Front) (c : ByteClass) → Opens here f (in_comment_star f c)
star_opens here f class.Zero = none_opens here f
star_opens here f class.Star = stays here f f mode.CommentStar (omega arith)
star_opens here f class.Slash = stays here f f mode.Between (omega arith)
star_opens here f _ = stays here f f mode.Comment (omega arith)

string_opens : (here : Place) (f : Front) (b : ℕ) (c : ByteClass) (p : Place) (t : List ℕ) → Opens here f (in_string f b c p t)
string_opens here f b class.Zero p t = none_opens here f
string_opens here f b class.Quote p t = stays here f (with_part f _) mode.Between (omega arith)
string_opens here f b class.Backslash p t = stays here f f (mode.StrEscape p (t ++ b ∷ [])) (omega arith)
string_opens here f b _ p t = stays here f f (mode.Str p (t ++ b ∷ [])) (omega arith)

string_escape_opens : (here : Place) (f : Front) (b : ℕ) (c : ByteClass) (p : Place) (t : List ℕ) → Opens here f (in_string_escape f b c p t)
string_escape_opens here f b class.Zero p t = none_opens here f
string_escape_opens here f b _ p t = stays here f f (mode.Str p (t ++ b ∷ [])) (omega arith)

block_close_opens : (here : Place) (f : Front) (b : ℕ) (p : Place) (d : ℕ) (t : List ℕ) → Opens here f (closes_block f b p d t)
block_close_opens here f b p zero t = stays here f (with_part f _) mode.Between (omega arith)
block_close_opens here f b p (suc d) t = stays here f f (mode.Block p d (t ++ b ∷ [])) (omega arith)

block_opens : (here : Place) (f : Front) (b : ℕ) (c : ByteClass) (p : Place) (d : ℕ) (t : List ℕ) → Opens here f (in_block f b c p d t)
block_opens here f b class.Zero p d t = none_opens here f
block_opens here f b class.Backslash p d t = stays here f f (mode.BlockEscape p d (t ++ b ∷ [])) (omega arith)
block_opens here f b class.OpenBrace p d t = stays here f f (mode.Block p (d + 1) (t ++ b ∷ [])) (omega arith)
block_opens here f b class.CloseBrace p d t = block_close_opens here f b p d t
block_opens here f b _ p d t = stays here f f (mode.Block p d (t ++ b ∷ [])) (omega arith)

block_escape_opens : (here : Place) (f : Front) (b : ℕ) (c : ByteClass) (p : Place) (d : ℕ) (t : List ℕ) → Opens here f (in_block_escape f b c p d t)
block_escape_opens here f b class.Zero p d t = none_opens here f
block_escape_opens here f b _ p d t = stays here f f (mode.Block p d (t ++ b ∷ [])) (omega arith)

pub opens_in : (here : Place) (f : Front) (b : ℕ) (c : ByteClass) (m : Mode) → Opens here f (next_in here f b c m)
opens_in here f b c mode.Between = begin_opens here f b c
opens_in here f b c mode.Line = line_opens here f c
opens_in here f b c (mode.Slash p) = slash_opens here f b c p
opens_in here f b c mode.Comment = comment_opens here f c
opens_in here f b c mode.CommentStar = star_opens here f c
opens_in here f b c (mode.Atom p t) = atom_opens here f b c p t
opens_in here f b c (mode.Str p t) = string_opens here f b c p t
opens_in here f b c (mode.StrEscape p t) = string_escape_opens here f b c p t
opens_in here f b c (mode.Block p d t) = block_opens here f b c p d t
opens_in here f b c (mode.BlockEscape p d t) = block_escape_opens here f b c p d t
