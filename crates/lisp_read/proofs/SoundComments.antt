-- What is read of comments is in the grammar. In each lemma ih is what is known of the bytes behind the first.
use Rattle.std.proofs.Common.{◌≡◌, ℕ, true, List, [], ◌∷◌, ◌++◌, refl, sym, ap, subst, ◌∙◌}
use Rattle.rtx_tree.specs.declared.place.Place.{Place}
use Rattle.lisp_read.specs.declared.class.ByteClass.{ByteClass}
use Rattle.lisp_read.specs.declared.class.ByteClass.TheVariants as class
use Rattle.lisp_read.specs.declared.mode.Mode.TheVariants as mode
use Rattle.lisp_read.specs.Class.{class_of, not_zero, in_line_comment}
use Rattle.lisp_read.specs.Places.{advance}
use Rattle.lisp_read.specs.Part.{Part}
use Rattle.lisp_read.specs.Text.{NotClosing, Spells}
use Rattle.lisp_read.specs.machine.Steps.{Front, in_line, in_comment, in_comment_star}
use Rattle.lisp_read.proofs.Classes.{byte_of_class}
use Rattle.lisp_read.proofs.Rests.{LineRest, CommentRest, StarRest, NotSlash, Sounds, AllSound, Outcome, lift}

line_more : (here : Place) (b : ℕ) (ps : List Part) (bs : List ℕ) → in_line_comment (class_of b) ≡ true → LineRest (advance here b) ps bs → LineRest here ps (b ∷ bs)
line_more here b ps _ h (LineRest.closed_line _ _ body rest each q) = LineRest.closed_line here ps (b ∷ body) rest (h, each) q
line_more here b _ _ h (LineRest.last _ body each) = LineRest.last here (b ∷ body) (h, each)

newline_ends : (here : Place) (b : ℕ) (ps : List Part) (bs : List ℕ) → b ≡ 10 → Spells (advance here b) ps bs → LineRest here ps (b ∷ bs)
newline_ends here b ps bs e q = subst (λ (x : ℕ). Spells (advance here x) ps bs → LineRest here ps (x ∷ bs)) (sym e) (λ r. LineRest.closed_line here ps [] bs tt r) q

module _ (here : Place) (b : ℕ) (bs : List ℕ) (ih : AllSound bs) (f g : Front) where
  pub sound_line : (c : ByteClass) → class_of b ≡ c → Outcome here b bs (in_line f c) g → Sounds LineRest here f g (b ∷ bs)
  sound_line class.Zero e h = cc
  sound_line class.Newline e h =
      let byte : b ≡ 10 = rw e at (byte_of_class b) in
      lift Spells LineRest here b bs f g (λ ps q. newline_ends here b ps bs byte q) (ih mode.Between (advance here b) f g h)
  sound_line c e h =
      lift LineRest LineRest here b bs f g (λ ps q. line_more here b ps bs (ap in_line_comment e) q) (ih mode.Line (advance here b) f g h)

comment_more : (here : Place) (b : ℕ) (ps : List Part) (bs : List ℕ) → not_zero (class_of b) ≡ true → ((rest : List ℕ) → NotClosing (class_of b) rest) → CommentRest (advance here b) ps bs → CommentRest here ps (b ∷ bs)
comment_more here b ps _ h n (CommentRest.body_then _ _ body rest q s) = CommentRest.body_then here ps (b ∷ body) rest (h, n body, q) s

plain_goes_on : (b : ℕ) (c : ByteClass) → class_of b ≡ c → ((rest : List ℕ) → NotClosing c rest) → (rest : List ℕ) → NotClosing (class_of b) rest
plain_goes_on b c e n rest = subst (λ (x : ByteClass). NotClosing x rest) (sym e) (n rest)

not_closing : (c : ByteClass) (body : List ℕ) → NotSlash body → NotClosing c body
not_closing class.Star [] n = tt
not_closing class.Star (b ∷ bs) n = n
not_closing _ body n = tt

star_more : (here : Place) (b : ℕ) (ps : List Part) (bs : List ℕ) → b ≡ 42 → StarRest (advance here b) ps bs → CommentRest here ps (b ∷ bs)
star_more here b ps bs e q = subst (λ (x : ℕ). StarRest (advance here x) ps bs → CommentRest here ps (x ∷ bs)) (sym e) (by_star here ps bs) q
  where
    by_star : (here : Place) (ps : List Part) (bs : List ℕ) → StarRest (advance here 42) ps bs → CommentRest here ps (42 ∷ bs)
    by_star here ps _ (StarRest.ends_here _ _ rest s) = CommentRest.body_then here ps [] rest tt s
    by_star here ps _ (StarRest.goes_on _ _ body rest q n s) = CommentRest.body_then here ps (42 ∷ body) rest (refl, not_closing class.Star body n, q) s

slash_closes : (here : Place) (b : ℕ) (ps : List Part) (bs : List ℕ) → b ≡ 47 → Spells (advance here b) ps bs → StarRest here ps (b ∷ bs)
slash_closes here b ps bs e q = subst (λ (x : ℕ). Spells (advance here x) ps bs → StarRest here ps (x ∷ bs)) (sym e) (λ r. StarRest.ends_here here ps bs r) q

-- a comment that begins with no slash stands behind a star too
star_from_comment : (here : Place) (b : ℕ) (ps : List Part) (bs : List ℕ) → (class_of b ≡ class.Slash → ⊥) → CommentRest here ps (b ∷ bs) → StarRest here ps (b ∷ bs)
star_from_comment here b ps bs n q = of_text ps (b ∷ bs) q (λ c cs e. subst (λ (x : ℕ). class_of x ≡ class.Slash → ⊥) (first_is b c bs cs e) n)
  where
    first_is : (b c : ℕ) (bs cs : List ℕ) → b ∷ bs ≡ c ∷ cs → b ≡ c
    first_is b c bs cs e = cc

    not_slash : (body rest : List ℕ) → ((c : ℕ) (cs : List ℕ) → (body ++ 42 ∷ 47 ∷ []) ++ rest ≡ c ∷ cs → class_of c ≡ class.Slash → ⊥) → NotSlash body
    not_slash [] rest n = tt
    not_slash (c ∷ cs) rest n = n c ((cs ++ 42 ∷ 47 ∷ []) ++ rest) refl

    of_text : (ps : List Part) (text : List ℕ) → CommentRest here ps text → ((c : ℕ) (cs : List ℕ) → text ≡ c ∷ cs → class_of c ≡ class.Slash → ⊥) → StarRest here ps text
    of_text ps _ (CommentRest.body_then _ _ body rest q s) n = StarRest.goes_on here ps body rest q (not_slash body rest n) s

module _ (here : Place) (b : ℕ) (bs : List ℕ) (ih : AllSound bs) (f g : Front) where
  pub sound_comment : (c : ByteClass) → class_of b ≡ c → Outcome here b bs (in_comment f c) g → Sounds CommentRest here f g (b ∷ bs)
  sound_comment class.Zero e h = cc
  sound_comment class.Star e h =
      let byte : b ≡ 42 = rw e at (byte_of_class b) in
      lift StarRest CommentRest here b bs f g (λ ps q. star_more here b ps bs byte q) (ih mode.CommentStar (advance here b) f g h)
  sound_comment c e h =
      lift CommentRest CommentRest here b bs f g (λ ps q. comment_more here b ps bs (ap not_zero e) (plain_goes_on b c e (λ rest. tt)) q) (ih mode.Comment (advance here b) f g h)

  pub sound_star : (c : ByteClass) → class_of b ≡ c → Outcome here b bs (in_comment_star f c) g → Sounds StarRest here f g (b ∷ bs)
  sound_star class.Zero e h = cc
  sound_star class.Star e h =
      let byte : b ≡ 42 = rw e at (byte_of_class b) in
      lift StarRest StarRest here b bs f g (λ ps q. star_from_comment here b ps bs (λ f. absurd (apart (sym e ∙ f))) (star_more here b ps bs byte q)) (ih mode.CommentStar (advance here b) f g h)
    where
      apart : class.Star ≡ class.Slash → ⊥
      apart g = cc
  sound_star class.Slash e h =
      let byte : b ≡ 47 = rw e at (byte_of_class b) in
      lift Spells StarRest here b bs f g (λ ps q. slash_closes here b ps bs byte q) (ih mode.Between (advance here b) f g h)
  sound_star c e h =
      lift CommentRest StarRest here b bs f g (λ ps q. star_from_comment here b ps bs (λ f. other (sym e ∙ f)) (comment_more here b ps bs (ap not_zero e) (plain_goes_on b c e (λ rest. tt)) q)) (ih mode.Comment (advance here b) f g h)
    where
      other : c ≡ class.Slash → ⊥
      other g = cc
