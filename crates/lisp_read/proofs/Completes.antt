-- Every state of the reader can be completed to a text, by a few bytes.
use Rattle.std.proofs.Common.{◌≡◌, ℕ, zero, suc, ◌<◌, List, [], ◌∷◌, ◌++◌, Option, Some, refl, sym, ap, subst, ◌∙◌, lit<}
use Rattle.std.specs.List.{All}
use Rattle.std.proofs.lemmas.List.Elements.{All-nil, All-cons, All-append}
use Rattle.rtx_tree.specs.declared.place.Place.{Place}
use Rattle.lisp_read.specs.declared.class.Bracket.{Bracket}
use Rattle.lisp_read.specs.declared.class.Bracket.TheVariants.{Round, Square}
use Rattle.lisp_read.specs.declared.mode.Mode.{Mode}
use Rattle.lisp_read.specs.declared.mode.Mode.TheVariants as mode
use Rattle.lisp_read.specs.declared.tree.Tree.{Tree}
use Rattle.lisp_read.specs.Class.{close_byte}
use Rattle.lisp_read.specs.Places.{start, advance, place_after}
use Rattle.lisp_read.specs.Part.{Part, Atom, Str, Block, Close, parts_of_all}
use Rattle.lisp_read.specs.Nesting.{IsNested}
use Rattle.lisp_read.specs.Text.{Spells, IsText}
use Rattle.lisp_read.specs.Reading.{Begins}
use Rattle.lisp_read.specs.machine.Steps.{Front, State, next, at, with_part}
use Rattle.lisp_read.specs.machine.Runs.{empty, run, finish, parts_in, ◌>>=◌}
use Rattle.lisp_read.proofs.Runs.{run-append}
use Rattle.lisp_read.proofs.Leads.{run_step, Leads, Leads-none, Leads-cons}
use Rattle.lisp_read.proofs.Settles.{st, fr}
use Rattle.lisp_read.proofs.Sound.{text_of_parts}
use Rattle.lisp_read.proofs.Builds.{trees_of}

abbrev AreBytes : List ℕ → Type 0
AreBytes = All (λ b. b < 256)

no_bytes : AreBytes []
no_bytes = All-nil (λ b. b < 256)

byte_more : (b : ℕ) (bs : List ℕ) → b < 256 → AreBytes bs → AreBytes (b ∷ bs)
byte_more b bs = All-cons (λ b. b < 256) b bs

-- ---- what is open is closed

record Ends (here : Place) (s : State) : Type 0 where
  more : List ℕ
  are_bytes : AreBytes more
  all : List Part
  ends : (run here s more >>= finish) ≡ Some all

closes_own : (here : Place) (k : Bracket) (within : List Bracket) (parts : List Part) → next here (st (fr (k ∷ within) parts) mode.Between) (close_byte k) ≡ at (fr within (parts ++ Close k ∷ [])) mode.Between
closes_own here Round within parts = refl
closes_own here Square within parts = refl

close_byte_is : (k : Bracket) → close_byte k < 256
close_byte_is Round = lit< tt
close_byte_is Square = lit< tt

close_up : (here : Place) (within : List Bracket) (parts : List Part) → Ends here (st (fr within parts) mode.Between)
unfolding run
close_up here [] parts = record { more = []; are_bytes = no_bytes; all = parts; ends = refl }
close_up here (k ∷ within) parts =
    let s = st (fr (k ∷ within) parts) mode.Between in
    let t = st (fr within (parts ++ Close k ∷ [])) mode.Between in
    let e = close_up (advance here (close_byte k)) within (parts ++ Close k ∷ []) in
    record {
      more = close_byte k ∷ e.more;
      are_bytes = byte_more (close_byte k) e.more (close_byte_is k) e.are_bytes;
      all = e.all;
      ends = ap (λ (o : Option State). o >>= finish) (run_step here s t (close_byte k) e.more (closes_own here k within parts)) ∙ e.ends;
    }

-- ---- a lexeme is ended: to where a tree may begin

record Returns (here : Place) (s : State) : Type 0 where
  bytes : List ℕ
  are_bytes : AreBytes bytes
  front : Front
  leads : Leads here s bytes (st front mode.Between)

one : (here : Place) (s : State) (f : Front) (b : ℕ) → b < 256 → next here s b ≡ Some (st f mode.Between) → Returns here s
one here s f b lt e = record {
  bytes = b ∷ [];
  are_bytes = byte_more b [] lt no_bytes;
  front = f;
  leads = Leads-cons here s (st f mode.Between) (st f mode.Between) b [] e (Leads-none _ _ _ refl);
}

before : (here : Place) (s t : State) (b : ℕ) → b < 256 → next here s b ≡ Some t → Returns (advance here b) t → Returns here s
before here s t b lt e r = record {
  bytes = b ∷ r.bytes;
  are_bytes = byte_more b r.bytes lt r.are_bytes;
  front = r.front;
  leads = Leads-cons here s t (st r.front mode.Between) b r.bytes e r.leads;
}

close_block : (here : Place) (f : Front) (p : Place) (d : ℕ) (t : List ℕ) → Returns here (st f (mode.Block p d t))
close_block here f p zero t = one here (st f (mode.Block p 0 t)) (with_part f (Block p t)) 125 (lit< tt) refl
close_block here f p (suc d) t = before here (st f (mode.Block p (suc d) t)) (st f (mode.Block p d (t ++ 125 ∷ []))) 125 (lit< tt) refl (close_block (advance here 125) f p d (t ++ 125 ∷ []))

returns : (here : Place) (f : Front) (m : Mode) → Returns here (st f m)
returns here f mode.Between = record { bytes = []; are_bytes = no_bytes; front = f; leads = Leads-none here _ _ refl }
returns here f mode.Line = one here (st f mode.Line) f 10 (lit< tt) refl
returns here f (mode.Slash p) = one here (st f (mode.Slash p)) (with_part f (Atom p (47 ∷ []))) 32 (lit< tt) refl
returns here f mode.Comment = before here (st f mode.Comment) (st f mode.CommentStar) 42 (lit< tt) refl (one (advance here 42) (st f mode.CommentStar) f 47 (lit< tt) refl)
returns here f mode.CommentStar = one here (st f mode.CommentStar) f 47 (lit< tt) refl
returns here f (mode.Atom p t) = one here (st f (mode.Atom p t)) (with_part f (Atom p t)) 32 (lit< tt) refl
returns here f (mode.Str p t) = one here (st f (mode.Str p t)) (with_part f (Str p t)) 34 (lit< tt) refl
returns here f (mode.StrEscape p t) =
    before here (st f (mode.StrEscape p t)) (st f (mode.Str p (t ++ 32 ∷ []))) 32 (lit< tt) refl
    (one (advance here 32) (st f (mode.Str p (t ++ 32 ∷ []))) (with_part f (Str p (t ++ 32 ∷ []))) 34 (lit< tt) refl)
returns here f (mode.Block p d t) = close_block here f p d t
returns here f (mode.BlockEscape p d t) =
    before here (st f (mode.BlockEscape p d t)) (st f (mode.Block p d (t ++ 32 ∷ []))) 32 (lit< tt) refl
    (close_block (advance here 32) f p d (t ++ 32 ∷ []))

completes : (here : Place) (s : State) → Ends here s
completes here s =
    let r = returns here s.front s.mode in
    let e = close_up (place_after here r.bytes) r.front.within r.front.parts in
    record {
      more = r.bytes ++ e.more;
      are_bytes = All-append (λ b. b < 256) r.bytes e.more r.are_bytes e.are_bytes;
      all = e.all;
      ends = ap (λ (o : Option State). o >>= finish) (r.leads e.more) ∙ e.ends;
    }

-- ---- what reading comes to begins a text

of_parts : (trees : List Tree) (parts : List Part) (bytes : List ℕ) → parts_of_all trees ≡ parts → IsNested parts × Spells start parts bytes → IsText trees bytes
of_parts trees parts bytes e h = record { nested = subst IsNested (sym e) h.0; spelled = subst (λ (ps : List Part). Spells start ps bytes) (sym e) h.1 }

pub begins_by_run : (bytes : List ℕ) (s : State) → run start empty bytes ≡ Some s → Begins bytes
begins_by_run bytes s e =
    let c = completes (place_after start bytes) s in
    let whole : parts_in (bytes ++ c.more) ≡ Some c.all = ap (λ (o : Option State). o >>= finish) (run-append start empty bytes c.more ∙ ap (λ (o : Option State). o >>= λ t. run (place_after start bytes) t c.more) e) ∙ c.ends in
    let h = text_of_parts (bytes ++ c.more) c.all whole in
    let b = trees_of c.all h.0 in
    record { more = c.more; are_bytes = c.are_bytes; trees = b.0; text = of_parts b.0 c.all (bytes ++ c.more) b.1 h }
