-- What the grammar has is read: the bytes that spell some parts lead to what these parts leave open.
use Rattle.std.proofs.Common.{◌≡◌, ℕ, Bool, true, false, cond, List, [], ◌∷◌, ◌++◌, Option, Some, None, refl, sym, ap, ◌∙◌}
use Rattle.std.proofs.lemmas.List.{append-nil}
use Rattle.rtx_tree.specs.declared.place.Place.{Place}
use Rattle.lisp_read.specs.declared.class.Bracket.{Bracket}
use Rattle.lisp_read.specs.declared.class.Bracket.TheVariants.{Round, Square}
use Rattle.lisp_read.specs.declared.class.ByteClass.{ByteClass}
use Rattle.lisp_read.specs.declared.class.ByteClass.TheVariants as class
use Rattle.lisp_read.specs.declared.mode.Mode.TheVariants as mode
use Rattle.lisp_read.specs.declared.tree.Tree.{Tree}
use Rattle.lisp_read.specs.Class.{class_of, open_byte, close_byte, is_blank}
use Rattle.lisp_read.specs.Places.{start, advance, place_after}
use Rattle.lisp_read.specs.Part.{Part, Atom, Str, Block, Open, Close, parts_of_all}
use Rattle.lisp_read.specs.Nesting.{same_kind, still_open}
use Rattle.lisp_read.specs.Text as text
use Rattle.lisp_read.specs.Text.{NotClosing, Spells, IsText}
use Rattle.lisp_read.specs.machine.Steps.{Front, State, next, at, begin, opened, closed_in, with_part}
use Rattle.lisp_read.specs.machine.Runs.{run, ◌>>=◌, parts_in, empty}
use Rattle.lisp_read.proofs.Leads.{run_step, Leads-cons, Leads-push, Leads-line, Leads-comment, Leads-quoted, Leads-braced}
use Rattle.lisp_read.proofs.Settles.{st, fr, settled, after, after_part, run_finishes}
use Rattle.lisp_read.proofs.AcceptsAtom.{then_settled, accept_atom}

begin_blank : (here : Place) (f : Front) (b : ℕ) (c : ByteClass) → is_blank c ≡ true → begin here f b c ≡ at f mode.Between
begin_blank here f b class.Blank h = refl
begin_blank here f b class.Newline h = refl
begin_blank here f b _ h = cc

-- bytes lead to what the parts leave open, whatever is open before
abbrev Accepts : Place → Front → List Part → List ℕ → Type 0
Accepts here f ps bytes = (run here (st f mode.Between) bytes >>= settled) ≡ after f ps

-- a part that opens and closes nothing
regroup : (f : Front) (part : Part) (ps : List Part) (here : Place) (bytes : List ℕ) → Accepts here (with_part f part) ps bytes →
    (run here (st (with_part f part) mode.Between) bytes >>= settled) ≡ (still_open f.within ps >>= λ w. Some (fr w (f.parts ++ part ∷ ps)))
regroup f part ps here bytes h = h ∙ after_part f.within f.parts ps part

pub begin_open : (here : Place) (f : Front) (k : Bracket) → next here (st f mode.Between) (open_byte k) ≡ at (opened f k here) mode.Between
begin_open here f Round = refl
begin_open here f Square = refl

pub begin_close : (here : Place) (k : Bracket) (within : List Bracket) (parts : List Part) → next here (st (fr within parts) mode.Between) (close_byte k) ≡ closed_in within parts k
begin_close here Round within parts = refl
begin_close here Square within parts = refl

closing : (here : Place) (k : Bracket) (within : List Bracket) (parts ps : List Part) (rest : List ℕ) →
    ((w : List Bracket) → Accepts (advance here (close_byte k)) (fr w (parts ++ Close k ∷ [])) ps rest) → Accepts here (fr within parts) (Close k ∷ ps) (close_byte k ∷ rest)
unfolding run
closing here k [] parts ps rest ih = ap (λ (o : Option State). (o >>= λ t. run (advance here (close_byte k)) t rest) >>= settled) (begin_close here k [] parts)
closing here k (j ∷ within) parts ps rest ih =
    ap (λ (o : Option State). (o >>= λ t. run (advance here (close_byte k)) t rest) >>= settled) (begin_close here k (j ∷ within) parts) ∙ by_test (same_kind j k)
  where
    by_test : (t : Bool) →
        ((cond t (at (fr within (parts ++ Close k ∷ [])) mode.Between) None >>= λ u. run (advance here (close_byte k)) u rest) >>= settled)
        ≡ (cond t (still_open within ps) None >>= λ w. Some (fr w (parts ++ Close k ∷ ps)))
    by_test true = ih within ∙ after_part within parts ps (Close k)
    by_test false = refl

pub accepts : (here : Place) (ps : List Part) (bytes : List ℕ) (f : Front) → Spells here ps bytes → Accepts here f ps bytes
unfolding run
accepts _ _ _ f (text.Spells.end here) = ap (λ (x : List Part). Some (fr f.within x)) (sym (append-nil f.parts))
accepts _ _ _ f (text.Spells.blank here ps b rest e q) =
    ap (λ (o : Option State). o >>= settled) (run_step here (st f mode.Between) (st f mode.Between) b rest (begin_blank here f b (class_of b) e))
    ∙ accepts (advance here b) ps rest f q
accepts _ _ _ f (text.Spells.line here ps body rest e q) =
    then_settled here (st f mode.Between) (st f mode.Between) (59 ∷ body ++ 10 ∷ []) rest
    (Leads-push here (st f mode.Between) (st f mode.Line) (st f mode.Between) (59 ∷ body) 10
    (Leads-cons here (st f mode.Between) (st f mode.Line) (st f mode.Line) 59 body refl (Leads-line (advance here 59) f body e)) refl)
    ∙ accepts (place_after here (59 ∷ body ++ 10 ∷ [])) ps rest f q
accepts _ _ _ f (text.Spells.last_line here body e) =
    ap (λ (x : List ℕ). run here (st f mode.Between) x >>= settled) (sym (append-nil (59 ∷ body)))
    ∙ then_settled here (st f mode.Between) (st f mode.Line) (59 ∷ body) []
    (Leads-cons here (st f mode.Between) (st f mode.Line) (st f mode.Line) 59 body refl (Leads-line (advance here 59) f body e))
    ∙ ap (λ (x : List Part). Some (fr f.within x)) (sym (append-nil f.parts))
accepts _ _ _ f (text.Spells.comment here ps body rest e q) =
    then_settled here (st f mode.Between) (st f mode.Between) (47 ∷ 42 ∷ body ++ 42 ∷ 47 ∷ []) rest
    (Leads-cons here (st f mode.Between) (st f (mode.Slash here)) (st f mode.Between) 47 (42 ∷ body ++ 42 ∷ 47 ∷ []) refl
    (Leads-cons (advance here 47) (st f (mode.Slash here)) (st f mode.Comment) (st f mode.Between) 42 (body ++ 42 ∷ 47 ∷ []) refl
    (Leads-comment (advance (advance here 47) 42) f class.Plain body (not_closing body) e)))
    ∙ accepts (place_after here (47 ∷ 42 ∷ body ++ 42 ∷ 47 ∷ [])) ps rest f q
  where
    not_closing : (bs : List ℕ) → NotClosing class.Plain bs
    not_closing bs = tt
accepts _ _ _ f (text.Spells.atom here ps bytes rest e ends q) =
    accept_atom here f bytes rest e ends
    ∙ regroup f (Atom here bytes) ps (place_after here bytes) rest (accepts (place_after here bytes) ps rest (with_part f (Atom here bytes)) q)
accepts _ _ _ f (text.Spells.string here ps bytes rest e q) =
    then_settled here (st f mode.Between) (st (with_part f (Str here bytes)) mode.Between) (34 ∷ bytes ++ 34 ∷ []) rest
    (Leads-push here (st f mode.Between) (st f (mode.Str here bytes)) (st (with_part f (Str here bytes)) mode.Between) (34 ∷ bytes) 34
    (Leads-cons here (st f mode.Between) (st f (mode.Str here [])) (st f (mode.Str here bytes)) 34 bytes refl (Leads-quoted (advance here 34) f here [] bytes bytes e refl)) refl)
    ∙ regroup f (Str here bytes) ps (place_after here (34 ∷ bytes ++ 34 ∷ [])) rest (accepts (place_after here (34 ∷ bytes ++ 34 ∷ [])) ps rest (with_part f (Str here bytes)) q)
accepts _ _ _ f (text.Spells.block here ps bytes rest e q) =
    then_settled here (st f mode.Between) (st (with_part f (Block here bytes)) mode.Between) (123 ∷ bytes ++ 125 ∷ []) rest
    (Leads-push here (st f mode.Between) (st f (mode.Block here 0 bytes)) (st (with_part f (Block here bytes)) mode.Between) (123 ∷ bytes) 125
    (Leads-cons here (st f mode.Between) (st f (mode.Block here 0 [])) (st f (mode.Block here 0 bytes)) 123 bytes refl (Leads-braced (advance here 123) f here 0 [] bytes bytes e refl)) refl)
    ∙ regroup f (Block here bytes) ps (place_after here (123 ∷ bytes ++ 125 ∷ [])) rest (accepts (place_after here (123 ∷ bytes ++ 125 ∷ [])) ps rest (with_part f (Block here bytes)) q)
accepts _ _ _ f (text.Spells.opens here ps k rest q) =
    ap (λ (o : Option State). o >>= settled) (run_step here (st f mode.Between) (st (opened f k here) mode.Between) (open_byte k) rest (begin_open here f k))
    ∙ accepts (advance here (open_byte k)) ps rest (opened f k here) q
    ∙ after_part (k ∷ f.within) f.parts ps (Open k here)
accepts _ _ _ f (text.Spells.closes here ps k rest q) =
    closing here k f.within f.parts ps rest (λ w. accepts (advance here (close_byte k)) ps rest (fr w (f.parts ++ Close k ∷ [])) q)

-- the bytes of some trees are read as their parts
pub accepts_text : (trees : List Tree) (bytes : List ℕ) → IsText trees bytes → parts_in bytes ≡ Some (parts_of_all trees)
accepts_text trees bytes h =
    run_finishes (run start empty bytes) (fr [] (parts_of_all trees))
    (accepts start (parts_of_all trees) bytes (fr [] []) h.spelled ∙ ap (λ (o : Option (List Bracket)). o >>= λ w. Some (fr w (parts_of_all trees))) h.nested) refl
