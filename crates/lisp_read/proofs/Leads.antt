-- Reading a lexeme of the grammar leads from state to state.
use Rattle.std.proofs.Common.{◌≡◌, ℕ, suc, true, List, [], ◌∷◌, ◌++◌, Some, refl, sym, ap, ◌∙◌, append_assoc, add-one}
use Rattle.std.proofs.lemmas.List.{append-nil}
use Rattle.rtx_tree.specs.declared.place.Place.{Place}
use Rattle.lisp_read.specs.declared.class.ByteClass.{ByteClass}
use Rattle.lisp_read.specs.declared.class.ByteClass.TheVariants as class
use Rattle.lisp_read.specs.declared.mode.Mode.{Mode}
use Rattle.lisp_read.specs.declared.mode.Mode.TheVariants as mode
use Rattle.lisp_read.specs.Class.{class_of, is_atom_class, not_zero, in_line_comment, in_quotes, in_braces}
use Rattle.lisp_read.specs.Places.{advance, place_after}
use Rattle.lisp_read.specs.Text as text
use Rattle.lisp_read.specs.Text.{Each, NotClosing, IsCommentBody, IsQuoted, IsBraced}
use Rattle.lisp_read.specs.machine.Steps.{Front, State, next, at, in_line, in_comment, in_comment_star, in_atom, in_string, in_string_escape, in_block, in_block_escape}
use Rattle.lisp_read.specs.machine.Runs.{run}
use Rattle.lisp_read.proofs.Runs.{place_after-append}
use Rattle.lisp_read.proofs.Settles.{st}

-- reading these bytes leads from one state to another, whatever follows
abbrev pub Leads : Place → State → List ℕ → State → Type 0
Leads here s bytes t = (rest : List ℕ) → run here s (bytes ++ rest) ≡ run (place_after here bytes) t rest

pub run_step : (here : Place) (s t : State) (b : ℕ) (rest : List ℕ) → next here s b ≡ Some t → run here s (b ∷ rest) ≡ run (advance here b) t rest
unfolding run
run_step here s t b rest e = rw e refl

pub Leads-none : (here : Place) (s t : State) → s ≡ t → Leads here s [] t
Leads-none here s t e rest = ap (λ (u : State). run here u rest) e

pub Leads-cons : (here : Place) (s t u : State) (b : ℕ) (bs : List ℕ) → next here s b ≡ Some t → Leads (advance here b) t bs u → Leads here s (b ∷ bs) u
Leads-cons here s t u b bs e h rest = run_step here s t b (bs ++ rest) e ∙ h rest

pub Leads-append : (here : Place) (s t u : State) (a b : List ℕ) → Leads here s a t → Leads (place_after here a) t b u → Leads here s (a ++ b) u
Leads-append here s t u a b p q rest =
    ap (run here s) (append_assoc a b rest) ∙ p (b ++ rest) ∙ q rest
    ∙ ap (λ (x : Place). run x u rest) (sym (place_after-append here a b))

pub Leads-push : (here : Place) (s t u : State) (a : List ℕ) (b : ℕ) → Leads here s a t → next (place_after here a) t b ≡ Some u → Leads here s (a ++ b ∷ []) u
Leads-push here s t u a b p e = Leads-append here s t u a (b ∷ []) p (Leads-cons (place_after here a) t u u b [] e (Leads-none (advance (place_after here a) b) u u refl))

-- ---- one byte, by its class

line_byte : (f : Front) (c : ByteClass) → in_line_comment c ≡ true → in_line f c ≡ at f mode.Line
line_byte f class.Zero h = cc
line_byte f class.Newline h = cc
line_byte f _ h = refl

string_byte : (f : Front) (b : ℕ) (c : ByteClass) (p : Place) (t : List ℕ) → in_quotes c ≡ true → in_string f b c p t ≡ at f (mode.Str p (t ++ b ∷ []))
string_byte f b class.Zero p t h = cc
string_byte f b class.Quote p t h = cc
string_byte f b class.Backslash p t h = cc
string_byte f b _ p t h = refl

string_escaped : (f : Front) (b : ℕ) (c : ByteClass) (p : Place) (t : List ℕ) → not_zero c ≡ true → in_string_escape f b c p t ≡ at f (mode.Str p (t ++ b ∷ []))
string_escaped f b class.Zero p t h = cc
string_escaped f b _ p t h = refl

block_byte : (f : Front) (b : ℕ) (c : ByteClass) (p : Place) (d : ℕ) (t : List ℕ) → in_braces c ≡ true → in_block f b c p d t ≡ at f (mode.Block p d (t ++ b ∷ []))
block_byte f b class.Zero p d t h = cc
block_byte f b class.OpenBrace p d t h = cc
block_byte f b class.CloseBrace p d t h = cc
block_byte f b class.Backslash p d t h = cc
block_byte f b _ p d t h = refl

block_escaped : (f : Front) (b : ℕ) (c : ByteClass) (p : Place) (d : ℕ) (t : List ℕ) → not_zero c ≡ true → in_block_escape f b c p d t ≡ at f (mode.Block p d (t ++ b ∷ []))
block_escaped f b class.Zero p d t h = cc
block_escaped f b _ p d t h = refl

-- ---- what stands between trees

pub Leads-line : (here : Place) (f : Front) (body : List ℕ) → Each in_line_comment body → Leads here (st f mode.Line) body (st f mode.Line)
Leads-line here f [] h = Leads-none here (st f mode.Line) (st f mode.Line) refl
Leads-line here f (b ∷ bs) h = Leads-cons here (st f mode.Line) (st f mode.Line) (st f mode.Line) b bs (line_byte f (class_of b) h.0) (Leads-line (advance here b) f bs h.1)

-- ---- strings and blocks

same_str : (f : Front) (p : Place) (t u : List ℕ) → t ++ [] ≡ u → st f (mode.Str p t) ≡ st f (mode.Str p u)
same_str f p t u e = ap (λ (x : List ℕ). st f (mode.Str p x)) (sym (append-nil t) ∙ e)

pub Leads-quoted : (here : Place) (f : Front) (p : Place) (t u body : List ℕ) → IsQuoted body → t ++ body ≡ u → Leads here (st f (mode.Str p t)) body (st f (mode.Str p u))
Leads-quoted here f p t u _ text.IsQuoted.nothing e = Leads-none here _ _ (same_str f p t u e)
Leads-quoted here f p t u _ (text.IsQuoted.byte b bs h q) e =
    Leads-cons here (st f (mode.Str p t)) (st f (mode.Str p (t ++ b ∷ []))) (st f (mode.Str p u)) b bs (string_byte f b (class_of b) p t h)
    (Leads-quoted (advance here b) f p (t ++ b ∷ []) u bs q (append_assoc t (b ∷ []) bs ∙ e))
Leads-quoted here f p t u _ (text.IsQuoted.escape b c bs h z q) e =
    Leads-cons here (st f (mode.Str p t)) (st f (mode.StrEscape p (t ++ b ∷ []))) (st f (mode.Str p u)) b (c ∷ bs) (rw h refl)
    (Leads-cons (advance here b) (st f (mode.StrEscape p (t ++ b ∷ []))) (st f (mode.Str p ((t ++ b ∷ []) ++ c ∷ []))) (st f (mode.Str p u)) c bs (string_escaped f c (class_of c) p (t ++ b ∷ []) z)
    (Leads-quoted (advance (advance here b) c) f p ((t ++ b ∷ []) ++ c ∷ []) u bs q (append_assoc (t ++ b ∷ []) (c ∷ []) bs ∙ append_assoc t (b ∷ []) (c ∷ bs) ∙ e)))

same_block : (f : Front) (p : Place) (d : ℕ) (t u : List ℕ) → t ++ [] ≡ u → st f (mode.Block p d t) ≡ st f (mode.Block p d u)
same_block f p d t u e = ap (λ (x : List ℕ). st f (mode.Block p d x)) (sym (append-nil t) ∙ e)

pub Leads-braced : (here : Place) (f : Front) (p : Place) (d : ℕ) (t u body : List ℕ) → IsBraced d body → t ++ body ≡ u → Leads here (st f (mode.Block p d t)) body (st f (mode.Block p 0 u))
Leads-braced here f p _ t u _ text.IsBraced.nothing e = Leads-none here _ _ (same_block f p 0 t u e)
Leads-braced here f p _ t u _ (text.IsBraced.byte d b bs h q) e =
    Leads-cons here (st f (mode.Block p d t)) (st f (mode.Block p d (t ++ b ∷ []))) (st f (mode.Block p 0 u)) b bs (block_byte f b (class_of b) p d t h)
    (Leads-braced (advance here b) f p d (t ++ b ∷ []) u bs q (append_assoc t (b ∷ []) bs ∙ e))
Leads-braced here f p _ t u _ (text.IsBraced.escape d b c bs h z q) e =
    Leads-cons here (st f (mode.Block p d t)) (st f (mode.BlockEscape p d (t ++ b ∷ []))) (st f (mode.Block p 0 u)) b (c ∷ bs) (rw h refl)
    (Leads-cons (advance here b) (st f (mode.BlockEscape p d (t ++ b ∷ []))) (st f (mode.Block p d ((t ++ b ∷ []) ++ c ∷ []))) (st f (mode.Block p 0 u)) c bs (block_escaped f c (class_of c) p d (t ++ b ∷ []) z)
    (Leads-braced (advance (advance here b) c) f p d ((t ++ b ∷ []) ++ c ∷ []) u bs q (append_assoc (t ++ b ∷ []) (c ∷ []) bs ∙ append_assoc t (b ∷ []) (c ∷ bs) ∙ e)))
Leads-braced here f p _ t u _ (text.IsBraced.opens d b bs h q) e =
    Leads-cons here (st f (mode.Block p d t)) (st f (mode.Block p (suc d) (t ++ b ∷ []))) (st f (mode.Block p 0 u)) b bs (rw (h, add-one) refl)
    (Leads-braced (advance here b) f p (suc d) (t ++ b ∷ []) u bs q (append_assoc t (b ∷ []) bs ∙ e))
Leads-braced here f p _ t u _ (text.IsBraced.closes d b bs h q) e =
    Leads-cons here (st f (mode.Block p (suc d) t)) (st f (mode.Block p d (t ++ b ∷ []))) (st f (mode.Block p 0 u)) b bs (rw h refl)
    (Leads-braced (advance here b) f p d (t ++ b ∷ []) u bs q (append_assoc t (b ∷ []) bs ∙ e))

-- ---- comments

comment_byte : (f : Front) (c : ByteClass) → not_zero c ≡ true → (c ≡ class.Star → ⊥) → in_comment f c ≡ at f mode.Comment
comment_byte f class.Zero h n = cc
comment_byte f class.Star h n = absurd (n refl)
comment_byte f _ h n = refl

-- the mode behind a byte of a comment
abbrev pub behind : ByteClass → Mode
behind class.Star = mode.CommentStar
behind _ = mode.Comment

in_comment_is : (f : Front) (c : ByteClass) → not_zero c ≡ true → in_comment f c ≡ at f (behind c)
in_comment_is f class.Zero h = cc
in_comment_is f class.Star h = refl
in_comment_is f _ h = refl

in_comment_star_is : (f : Front) (c : ByteClass) → not_zero c ≡ true → (c ≡ class.Slash → ⊥) → in_comment_star f c ≡ at f (behind c)
in_comment_star_is f class.Zero h n = cc
in_comment_star_is f class.Slash h n = absurd (n refl)
in_comment_star_is f class.Star h n = refl
in_comment_star_is f _ h n = refl

-- a comment goes on to its end, behind a byte of this class
closing_star : (here : Place) (f : Front) (m : Mode) → next here (st f m) 42 ≡ at f mode.CommentStar → Leads here (st f m) (42 ∷ 47 ∷ []) (st f mode.Between)
closing_star here f m e =
    Leads-cons here (st f m) (st f mode.CommentStar) (st f mode.Between) 42 (47 ∷ []) e
    (Leads-cons (advance here 42) (st f mode.CommentStar) (st f mode.Between) (st f mode.Between) 47 [] refl (Leads-none _ _ _ refl))

behind_star : (here : Place) (f : Front) (c : ByteClass) → next here (st f (behind c)) 42 ≡ at f mode.CommentStar
behind_star here f class.Star = refl
behind_star here f _ = refl

behind_next : (here : Place) (f : Front) (c : ByteClass) (b : ℕ) (bs : List ℕ) → NotClosing c (b ∷ bs) → not_zero (class_of b) ≡ true → next here (st f (behind c)) b ≡ at f (behind (class_of b))
behind_next here f class.Star b bs n z = in_comment_star_is f (class_of b) z n
behind_next here f _ b bs n z = in_comment_is f (class_of b) z

pub Leads-comment : (here : Place) (f : Front) (c : ByteClass) (body : List ℕ) → NotClosing c body → IsCommentBody body → Leads here (st f (behind c)) (body ++ 42 ∷ 47 ∷ []) (st f mode.Between)
Leads-comment here f c [] n h = closing_star here f (behind c) (behind_star here f c)
Leads-comment here f c (b ∷ bs) n h =
    Leads-cons here (st f (behind c)) (st f (behind (class_of b))) (st f mode.Between) b (bs ++ 42 ∷ 47 ∷ []) (behind_next here f c b bs n h.0)
    (Leads-comment (advance here b) f (class_of b) bs h.1 h.2)

-- ---- atoms

atom_byte : (here : Place) (f : Front) (b : ℕ) (c : ByteClass) (p : Place) (t : List ℕ) → is_atom_class c ≡ true → in_atom here f b c p t ≡ at f (mode.Atom p (t ++ b ∷ []))
atom_byte here f b c p t h = rw h refl

same_atom : (f : Front) (p : Place) (t u : List ℕ) → t ++ [] ≡ u → st f (mode.Atom p t) ≡ st f (mode.Atom p u)
same_atom f p t u e = ap (λ (x : List ℕ). st f (mode.Atom p x)) (sym (append-nil t) ∙ e)

pub Leads-atom : (here : Place) (f : Front) (p : Place) (t u body : List ℕ) → Each is_atom_class body → t ++ body ≡ u → Leads here (st f (mode.Atom p t)) body (st f (mode.Atom p u))
Leads-atom here f p t u [] h e = Leads-none here _ _ (same_atom f p t u e)
Leads-atom here f p t u (b ∷ bs) h e =
    Leads-cons here (st f (mode.Atom p t)) (st f (mode.Atom p (t ++ b ∷ []))) (st f (mode.Atom p u)) b bs (atom_byte here f b (class_of b) p t h.0)
    (Leads-atom (advance here b) f p (t ++ b ∷ []) u bs h.1 (append_assoc t (b ∷ []) bs ∙ e))
