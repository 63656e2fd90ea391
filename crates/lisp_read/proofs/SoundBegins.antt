-- What is read where a tree may begin is in the grammar. In each lemma ih is what is known of the bytes behind the first.
use Rattle.std.proofs.Common.{◌≡◌, ℕ, Bool, true, false, cond, List, [], ◌∷◌, ◌++◌, None, refl, sym, ap, subst, ◌∙◌}
use Rattle.rtx_tree.specs.declared.place.Place.{Place}
use Rattle.lisp_read.specs.declared.class.Bracket.{Bracket}
use Rattle.lisp_read.specs.declared.class.ByteClass.{ByteClass}
use Rattle.lisp_read.specs.declared.class.ByteClass.TheVariants as class
use Rattle.lisp_read.specs.declared.mode.Mode.TheVariants as mode
use Rattle.lisp_read.specs.Class.{class_of, open_byte, close_byte, is_atom_class, is_blank}
use Rattle.lisp_read.specs.Places.{advance}
use Rattle.lisp_read.specs.Part.{Part, Atom, Str, Block, Open, Close}
use Rattle.lisp_read.specs.Nesting.{same_kind, still_open}
use Rattle.lisp_read.specs.Text as text
use Rattle.lisp_read.specs.Text.{NotStar, Spells}
use Rattle.lisp_read.specs.machine.Steps.{Front, at, begin, closed_in}
use Rattle.lisp_read.proofs.Classes.{byte_of_class}
use Rattle.lisp_read.proofs.Settles.{fr}
use Rattle.lisp_read.proofs.Rests.{LineRest, CommentRest, AtomParts, StrParts, BlockParts, SlashRest, Sounds, AllSound, Outcome, lift, lift_part}

semicolon_begins : (here : Place) (b : ℕ) (ps : List Part) (bs : List ℕ) → b ≡ 59 → LineRest (advance here b) ps bs → Spells here ps (b ∷ bs)
semicolon_begins here b ps bs e q = subst (λ (x : ℕ). LineRest (advance here x) ps bs → Spells here ps (x ∷ bs)) (sym e) (by_line here ps bs) q
  where
    by_line : (here : Place) (ps : List Part) (bs : List ℕ) → LineRest (advance here 59) ps bs → Spells here ps (59 ∷ bs)
    by_line here ps _ (LineRest.closed_line _ _ body rest each s) = text.Spells.line here ps body rest each s
    by_line here _ _ (LineRest.last _ body each) = text.Spells.last_line here body each

atom_begins : (here : Place) (b : ℕ) (ps : List Part) (bs : List ℕ) (a : AtomParts here (b ∷ []) (advance here b) ps bs) → is_atom_class (class_of b) ≡ true → (class_of b ≡ class.Slash → NotStar a.body) → Spells here ps (b ∷ bs)
atom_begins here b ps bs a h n =
    subst (λ (qs : List Part). Spells here qs (b ∷ bs)) (sym a.parts)
    (subst (λ (x : List ℕ). Spells here (Atom here (b ∷ a.body) ∷ a.others) (b ∷ x)) (sym a.cut)
    (text.Spells.atom here a.others (b ∷ a.body) a.rest (h, a.each, n) a.ends a.spelled))

slash_begins : (here : Place) (b : ℕ) (ps : List Part) (bs : List ℕ) → b ≡ 47 → SlashRest here (advance here b) ps bs → Spells here ps (b ∷ bs)
slash_begins here b ps bs e q = subst (λ (x : ℕ). SlashRest here (advance here x) ps bs → Spells here ps (x ∷ bs)) (sym e) (by_slash here (advance here 47) ps bs refl) q
  where
    by_comment : (here : Place) (ps : List Part) (rest : List ℕ) → CommentRest (advance (advance here 47) 42) ps rest → Spells here ps (47 ∷ 42 ∷ rest)
    by_comment here ps _ (CommentRest.body_then _ _ body rest c s) = text.Spells.comment here ps body rest c s

    by_slash : (here there : Place) (ps : List Part) (bs : List ℕ) → there ≡ advance here 47 → SlashRest here there ps bs → Spells here ps (47 ∷ bs)
    by_slash here there ps bs e (SlashRest.atom _ _ _ _ a star) =
        subst (λ (x : Place). (a : AtomParts here (47 ∷ []) x ps bs) → NotStar a.body → Spells here ps (47 ∷ bs)) (sym e) (λ a n. atom_begins here 47 ps bs a refl (λ _. n)) a star
    by_slash here there ps _ e (SlashRest.comment _ _ _ rest q) = by_comment here ps rest (subst (λ (x : Place). CommentRest (advance x 42) ps rest) e q)

quote_begins : (here : Place) (b : ℕ) (ps : List Part) (bs : List ℕ) → b ≡ 34 → StrParts here [] (advance here b) ps bs → Spells here ps (b ∷ bs)
quote_begins here b ps bs e q = subst (λ (x : ℕ). StrParts here [] (advance here x) ps bs → Spells here ps (x ∷ bs)) (sym e) by_string q
  where
    by_string : StrParts here [] (advance here 34) ps bs → Spells here ps (34 ∷ bs)
    by_string a =
        subst (λ (qs : List Part). Spells here qs (34 ∷ bs)) (sym a.parts)
        (subst (λ (x : List ℕ). Spells here (Str here a.body ∷ a.others) (34 ∷ x)) (sym a.cut)
        (text.Spells.string here a.others a.body a.rest a.quoted a.spelled))

brace_begins : (here : Place) (b : ℕ) (ps : List Part) (bs : List ℕ) → b ≡ 123 → BlockParts here 0 [] (advance here b) ps bs → Spells here ps (b ∷ bs)
brace_begins here b ps bs e q = subst (λ (x : ℕ). BlockParts here 0 [] (advance here x) ps bs → Spells here ps (x ∷ bs)) (sym e) by_block q
  where
    by_block : BlockParts here 0 [] (advance here 123) ps bs → Spells here ps (123 ∷ bs)
    by_block a =
        subst (λ (qs : List Part). Spells here qs (123 ∷ bs)) (sym a.parts)
        (subst (λ (x : List ℕ). Spells here (Block here a.body ∷ a.others) (123 ∷ x)) (sym a.cut)
        (text.Spells.block here a.others a.body a.rest a.braced a.spelled))

open_begins : (here : Place) (b : ℕ) (k : Bracket) (ps : List Part) (bs : List ℕ) → b ≡ open_byte k → Spells (advance here b) ps bs → Spells here (Open k here ∷ ps) (b ∷ bs)
open_begins here b k ps bs e q = subst (λ (x : ℕ). Spells (advance here x) ps bs → Spells here (Open k here ∷ ps) (x ∷ bs)) (sym e) (λ s. text.Spells.opens here ps k bs s) q

close_begins : (here : Place) (b : ℕ) (k : Bracket) (ps : List Part) (bs : List ℕ) → b ≡ close_byte k → Spells (advance here b) ps bs → Spells here (Close k ∷ ps) (b ∷ bs)
close_begins here b k ps bs e q = subst (λ (x : ℕ). Spells (advance here x) ps bs → Spells here (Close k ∷ ps) (x ∷ bs)) (sym e) (λ s. text.Spells.closes here ps k bs s) q

-- what a byte that closes leaves open
closed_is : (j k : Bracket) (within : List Bracket) (ps : List Part) → same_kind j k ≡ true → still_open (j ∷ within) (Close k ∷ ps) ≡ still_open within ps
closed_is j k within ps h = rw h refl

module _ (here : Place) (b : ℕ) (bs : List ℕ) (ih : AllSound bs) (g : Front) where
  sound_close : (within : List Bracket) (parts : List Part) (k : Bracket) → b ≡ close_byte k → Outcome here b bs (closed_in within parts k) g → Sounds Spells here (fr within parts) g (b ∷ bs)
  sound_close [] parts k e h = cc
  sound_close (j ∷ within) parts k e h = by_test (same_kind j k) refl h
    where
      by_test : (t : Bool) → same_kind j k ≡ t → Outcome here b bs (cond t (at (fr within (parts ++ Close k ∷ [])) mode.Between) None) g → Sounds Spells here (fr (j ∷ within) parts) g (b ∷ bs)
      by_test true same h =
          lift_part Spells Spells here b bs (fr (j ∷ within) parts) g within (Close k) (λ ps q. close_begins here b k ps bs e q) (λ ps. closed_is j k within ps same)
          (ih mode.Between (advance here b) (fr within (parts ++ Close k ∷ [])) g h)
      by_test false same h = cc

  pub sound_begin : (f : Front) (c : ByteClass) → class_of b ≡ c → Outcome here b bs (begin here f b c) g → Sounds Spells here f g (b ∷ bs)
  sound_begin f class.Zero e h = cc
  sound_begin f class.CloseBrace e h = cc
  sound_begin f class.Other e h = cc
  sound_begin f class.Blank e h =
      lift Spells Spells here b bs f g (λ ps q. text.Spells.blank here ps b bs (ap is_blank e) q) (ih mode.Between (advance here b) f g h)
  sound_begin f class.Newline e h =
      lift Spells Spells here b bs f g (λ ps q. text.Spells.blank here ps b bs (ap is_blank e) q) (ih mode.Between (advance here b) f g h)
  sound_begin f class.Semicolon e h =
      let byte : b ≡ 59 = rw e at (byte_of_class b) in
      lift LineRest Spells here b bs f g (λ ps q. semicolon_begins here b ps bs byte q) (ih mode.Line (advance here b) f g h)
  sound_begin f class.Slash e h =
      let byte : b ≡ 47 = rw e at (byte_of_class b) in
      lift (SlashRest here) Spells here b bs f g (λ ps q. slash_begins here b ps bs byte q) (ih (mode.Slash here) (advance here b) f g h)
  sound_begin f class.Quote e h =
      let byte : b ≡ 34 = rw e at (byte_of_class b) in
      lift (StrParts here []) Spells here b bs f g (λ ps q. quote_begins here b ps bs byte q) (ih (mode.Str here []) (advance here b) f g h)
  sound_begin f class.OpenBrace e h =
      let byte : b ≡ 123 = rw e at (byte_of_class b) in
      lift (BlockParts here 0 []) Spells here b bs f g (λ ps q. brace_begins here b ps bs byte q) (ih (mode.Block here 0 []) (advance here b) f g h)
  sound_begin f (class.Open k) e h =
      let byte : b ≡ open_byte k = rw e at (byte_of_class b) in
      lift_part Spells Spells here b bs f g (k ∷ f.within) (Open k here) (λ ps q. open_begins here b k ps bs byte q) (λ ps. refl)
      (ih mode.Between (advance here b) (fr (k ∷ f.within) (f.parts ++ Open k here ∷ [])) g h)
  sound_begin f (class.Close k) e h = sound_close f.within f.parts k (rw e at (byte_of_class b)) h
  sound_begin f c e h =
      lift (AtomParts here (b ∷ [])) Spells here b bs f g (λ ps q. atom_begins here b ps bs q (ap is_atom_class e) (λ slash. absurd (apart (sym e ∙ slash)))) (ih (mode.Atom here (b ∷ [])) (advance here b) f g h)
    where
      apart : c ≡ class.Slash → ⊥
      apart e = cc
