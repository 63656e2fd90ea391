-- What is read of atoms is in the grammar. In each lemma ih is what is known of the bytes behind the first.
use Rattle.std.proofs.Common.{◌≡◌, ℕ, Bool, true, false, cond, List, [], ◌∷◌, ◌++◌, refl, sym, ap, subst, ◌∙◌, append_assoc}
use Rattle.std.proofs.lemmas.List.{append-nil}
use Rattle.rtx_tree.specs.declared.place.Place.{Place}
use Rattle.lisp_read.specs.declared.class.ByteClass.{ByteClass}
use Rattle.lisp_read.specs.declared.class.ByteClass.TheVariants as class
use Rattle.lisp_read.specs.declared.mode.Mode.TheVariants as mode
use Rattle.lisp_read.specs.Class.{class_of, is_atom_class}
use Rattle.lisp_read.specs.Places.{advance}
use Rattle.lisp_read.specs.Part.{Part, Atom}
use Rattle.lisp_read.specs.Text.{NotStar}
use Rattle.lisp_read.specs.machine.Steps.{Front, at, begin, in_atom, in_slash, with_part}
use Rattle.lisp_read.proofs.Classes.{byte_of_class}
use Rattle.lisp_read.proofs.Rests.{CommentRest, AtomParts, SlashRest, Sounds, AllSound, Outcome, lift}
use Rattle.lisp_read.proofs.SoundBegins.{sound_begin}

atom_more : (here : Place) (b : ℕ) (p : Place) (t : List ℕ) (ps : List Part) (bs : List ℕ) → is_atom_class (class_of b) ≡ true → AtomParts p (t ++ b ∷ []) (advance here b) ps bs → AtomParts p t here ps (b ∷ bs)
atom_more here b p t ps bs h a = record {
  body = b ∷ a.body;
  rest = a.rest;
  others = a.others;
  each = (h, a.each);
  ends = a.ends;
  parts = a.parts ∙ ap (λ (x : List ℕ). Atom p x ∷ a.others) (append_assoc t (b ∷ []) a.body);
  cut = ap (λ (x : List ℕ). b ∷ x) a.cut;
  spelled = a.spelled;
}

module _ (here : Place) (b : ℕ) (bs : List ℕ) (ih : AllSound bs) (f g : Front) where
  pub sound_atom : (p : Place) (t : List ℕ) (c : ByteClass) → class_of b ≡ c → Outcome here b bs (in_atom here f b c p t) g → Sounds (AtomParts p t) here f g (b ∷ bs)
  sound_atom p t c e h = by_test (is_atom_class c) refl h
    where
      by_test : (q : Bool) → is_atom_class c ≡ q → Outcome here b bs (cond q (at f (mode.Atom p (t ++ b ∷ []))) (begin here (with_part f (Atom p t)) b c)) g → Sounds (AtomParts p t) here f g (b ∷ bs)
      by_test true is h =
          lift (AtomParts p (t ++ b ∷ [])) (AtomParts p t) here b bs f g (λ ps a. atom_more here b p t ps bs (ap is_atom_class e ∙ is) a) (ih (mode.Atom p (t ++ b ∷ [])) (advance here b) f g h)
      by_test false is h =
          let s = sound_begin here b bs ih g (with_part f (Atom p t)) c e h in
          record {
            ps = Atom p t ∷ s.ps;
            whole = s.whole ∙ append_assoc f.parts (Atom p t ∷ []) s.ps;
            nested = s.nested;
            spelled = record {
              body = [];
              rest = b ∷ bs;
              others = s.ps;
              each = tt;
              ends = ap is_atom_class e ∙ is;
              parts = ap (λ (x : List ℕ). Atom p x ∷ s.ps) (sym (append-nil t));
              cut = refl;
              spelled = s.spelled;
            };
          }

  no_star : (body rest : List ℕ) → (class_of b ≡ class.Star → ⊥) → b ∷ bs ≡ body ++ rest → NotStar body
  no_star [] rest n e = tt
  no_star (c ∷ cs) rest n e = subst (λ (x : ℕ). class_of x ≡ class.Star → ⊥) (heads b c bs (cs ++ rest) e) n
    where
      heads : (x y : ℕ) (xs ys : List ℕ) → x ∷ xs ≡ y ∷ ys → x ≡ y
      heads x y xs ys e = cc

  star_begins : (p : Place) (ps : List Part) → b ≡ 42 → CommentRest (advance here b) ps bs → SlashRest p here ps (b ∷ bs)
  star_begins p ps e q = subst (λ (x : ℕ). CommentRest (advance here x) ps bs → SlashRest p here ps (x ∷ bs)) (sym e) (λ r. SlashRest.comment p here ps bs r) q

  slash_from_atom : (p : Place) → (class_of b ≡ class.Star → ⊥) → Sounds (AtomParts p (47 ∷ [])) here f g (b ∷ bs) → Sounds (SlashRest p) here f g (b ∷ bs)
  slash_from_atom p n s = record { ps = s.ps; whole = s.whole; nested = s.nested; spelled = SlashRest.atom p here s.ps (b ∷ bs) s.spelled (no_star s.spelled.body s.spelled.rest n s.spelled.cut) }

  pub sound_slash : (p : Place) (c : ByteClass) → class_of b ≡ c → Outcome here b bs (in_slash here f b c p) g → Sounds (SlashRest p) here f g (b ∷ bs)
  sound_slash p class.Star e h =
      let byte : b ≡ 42 = rw e at (byte_of_class b) in
      lift CommentRest (SlashRest p) here b bs f g (λ ps q. star_begins p ps byte q) (ih mode.Comment (advance here b) f g h)
  sound_slash p c e h = slash_from_atom p (λ star. absurd (apart (sym e ∙ star))) (sound_atom p (47 ∷ []) c e h)
    where
      apart : c ≡ class.Star → ⊥
      apart g = cc
