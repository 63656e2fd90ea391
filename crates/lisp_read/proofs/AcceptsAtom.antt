-- What the grammar has is read: atoms.
use Rattle.std.proofs.Common.{◌≡◌, ℕ, Bool, true, false, List, [], ◌∷◌, ◌++◌, Option, refl, sym, ap, subst, ◌∙◌}
use Rattle.rtx_tree.specs.declared.place.Place.{Place}
use Rattle.lisp_read.specs.declared.class.ByteClass.{ByteClass}
use Rattle.lisp_read.specs.declared.class.ByteClass.TheVariants as class
use Rattle.lisp_read.specs.declared.mode.Mode.TheVariants as mode
use Rattle.lisp_read.specs.Class.{class_of, is_atom_class}
use Rattle.lisp_read.specs.Places.{advance, place_after}
use Rattle.lisp_read.specs.Part.{Atom}
use Rattle.lisp_read.specs.Text.{Each, NotStar, IsAtom, EndsAtom}
use Rattle.lisp_read.specs.machine.Steps.{Front, State, at, begin, in_slash, with_part}
use Rattle.lisp_read.specs.machine.Runs.{run, ◌>>=◌}
use Rattle.lisp_read.proofs.Classes.{is_slash_class, slash_from, not_slash_from, slash_byte_is}
use Rattle.lisp_read.proofs.Leads.{Leads, Leads-none, Leads-cons, Leads-atom}
use Rattle.lisp_read.proofs.Settles.{st, settled}

slash_byte : (here : Place) (f : Front) (b : ℕ) (c : ByteClass) (p : Place) → is_atom_class c ≡ true → (c ≡ class.Star → ⊥) → in_slash here f b c p ≡ at f (mode.Atom p (47 ∷ b ∷ []))
slash_byte here f b class.Star p h n = absurd (n refl)
slash_byte here f b class.Slash p h n = refl
slash_byte here f b class.Backslash p h n = refl
slash_byte here f b class.Plain p h n = refl
slash_byte here f b _ p h n = cc

not_slash : (here : Place) (f : Front) (b : ℕ) (c : ByteClass) → is_atom_class c ≡ true → (c ≡ class.Slash → ⊥) → begin here f b c ≡ at f (mode.Atom here (b ∷ []))
not_slash here f b class.Slash h n = absurd (n refl)
not_slash here f b class.Star h n = refl
not_slash here f b class.Backslash h n = refl
not_slash here f b class.Plain h n = refl
not_slash here f b _ h n = cc

after_atom : (here p : Place) (f : Front) (t rest : List ℕ) → EndsAtom rest →
    (run here (st f (mode.Atom p t)) rest >>= settled) ≡ (run here (st (with_part f (Atom p t)) mode.Between) rest >>= settled)
unfolding run
after_atom here p f t [] h = refl
after_atom here p f t (b ∷ bs) h = rw h refl

slash_ends : (here : Place) (f : Front) (b : ℕ) (c : ByteClass) (p : Place) → is_atom_class c ≡ false → in_slash here f b c p ≡ begin here (with_part f (Atom p (47 ∷ []))) b c
slash_ends here f b class.Slash p h = cc
slash_ends here f b class.Star p h = cc
slash_ends here f b class.Backslash p h = cc
slash_ends here f b class.Plain p h = cc
slash_ends here f b _ p h = refl

after_slash : (here p : Place) (f : Front) (rest : List ℕ) → EndsAtom rest →
    (run here (st f (mode.Slash p)) rest >>= settled) ≡ (run here (st (with_part f (Atom p (47 ∷ []))) mode.Between) rest >>= settled)
unfolding run
after_slash here p f [] h = refl
after_slash here p f (b ∷ bs) h = rw (slash_ends here f b (class_of b) p h) refl

pub then_settled : (here : Place) (s t : State) (bytes rest : List ℕ) → Leads here s bytes t → (run here s (bytes ++ rest) >>= settled) ≡ (run (place_after here bytes) t rest >>= settled)
then_settled here s t bytes rest h = ap (λ (o : Option State). o >>= settled) (h rest)

accept_plain : (here : Place) (f : Front) (b : ℕ) (bs rest : List ℕ) → is_atom_class (class_of b) ≡ true → (class_of b ≡ class.Slash → ⊥) → Each is_atom_class bs → EndsAtom rest →
    (run here (st f mode.Between) ((b ∷ bs) ++ rest) >>= settled) ≡ (run (place_after here (b ∷ bs)) (st (with_part f (Atom here (b ∷ bs))) mode.Between) rest >>= settled)
accept_plain here f b bs rest h n each ends =
    then_settled here (st f mode.Between) (st f (mode.Atom here (b ∷ bs))) (b ∷ bs) rest
    (Leads-cons here (st f mode.Between) (st f (mode.Atom here (b ∷ []))) (st f (mode.Atom here (b ∷ bs))) b bs (not_slash here f b (class_of b) h n)
    (Leads-atom (advance here b) f here (b ∷ []) (b ∷ bs) bs each refl))
    ∙ after_atom (place_after here (b ∷ bs)) here f (b ∷ bs) rest ends

accept_slash : (here : Place) (f : Front) (bs rest : List ℕ) → Each is_atom_class bs → NotStar bs → EndsAtom rest →
    (run here (st f mode.Between) ((47 ∷ bs) ++ rest) >>= settled) ≡ (run (place_after here (47 ∷ bs)) (st (with_part f (Atom here (47 ∷ bs))) mode.Between) rest >>= settled)
accept_slash here f [] rest each star ends =
    then_settled here (st f mode.Between) (st f (mode.Slash here)) (47 ∷ []) rest
    (Leads-cons here (st f mode.Between) (st f (mode.Slash here)) (st f (mode.Slash here)) 47 [] refl (Leads-none _ _ _ refl))
    ∙ after_slash (advance here 47) here f rest ends
accept_slash here f (c ∷ cs) rest each star ends =
    then_settled here (st f mode.Between) (st f (mode.Atom here (47 ∷ c ∷ cs))) (47 ∷ c ∷ cs) rest
    (Leads-cons here (st f mode.Between) (st f (mode.Slash here)) (st f (mode.Atom here (47 ∷ c ∷ cs))) 47 (c ∷ cs) refl
    (Leads-cons (advance here 47) (st f (mode.Slash here)) (st f (mode.Atom here (47 ∷ c ∷ []))) (st f (mode.Atom here (47 ∷ c ∷ cs))) c cs (slash_byte (advance here 47) f c (class_of c) here each.0 star)
    (Leads-atom (advance (advance here 47) c) f here (47 ∷ c ∷ []) (47 ∷ c ∷ cs) cs each.1 refl)))
    ∙ after_atom (place_after here (47 ∷ c ∷ cs)) here f (47 ∷ c ∷ cs) rest ends

pub accept_atom : (here : Place) (f : Front) (bytes rest : List ℕ) → IsAtom bytes → EndsAtom rest →
    (run here (st f mode.Between) (bytes ++ rest) >>= settled) ≡ (run (place_after here bytes) (st (with_part f (Atom here bytes)) mode.Between) rest >>= settled)
accept_atom here f [] rest h ends = absurd h
accept_atom here f (b ∷ bs) rest h ends = by_slash (is_slash_class (class_of b)) refl
  where
    by_slash : (t : Bool) → is_slash_class (class_of b) ≡ t →
        (run here (st f mode.Between) ((b ∷ bs) ++ rest) >>= settled) ≡ (run (place_after here (b ∷ bs)) (st (with_part f (Atom here (b ∷ bs))) mode.Between) rest >>= settled)
    by_slash true e =
        let c : class_of b ≡ class.Slash = slash_from (class_of b) e in
        let n : b ≡ 47 = slash_byte_is b c in
        subst (λ (x : ℕ). (run here (st f mode.Between) ((x ∷ bs) ++ rest) >>= settled) ≡ (run (place_after here (x ∷ bs)) (st (with_part f (Atom here (x ∷ bs))) mode.Between) rest >>= settled)) (sym n) (accept_slash here f bs rest h.1 (h.2 c) ends)
    by_slash false e = accept_plain here f b bs rest h.0 (λ c. absurd (not_slash_from (class_of b) e c)) h.1 ends
