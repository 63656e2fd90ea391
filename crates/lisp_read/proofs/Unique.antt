-- Bytes have one reading at most.
use Rattle.std.proofs.Common.{◌≡◌, ℕ, ◌<◌, List, take, sym, ap, ◌∙◌, ◌⊎◌, inl, inr}
use Rattle.std.proofs.lemmas.Bool.{cases_order}
use Rattle.rtx_tree.specs.declared.place.Place.{Place}
use Rattle.lisp_read.specs.declared.tree.Tree.{Tree}
use Rattle.lisp_read.specs.Places.{start, place_after}
use Rattle.lisp_read.specs.Part.{parts_of_all}
use Rattle.lisp_read.specs.Text.{IsText}
use Rattle.lisp_read.specs.Reading.{IsSyntaxPlace, IsDepthPlace, Reading, Trees, Syntax, Depth, ReadsAs}
use Rattle.lisp_read.proofs.Settles.{some_is}
use Rattle.lisp_read.proofs.Accepts.{accepts_text}
use Rattle.lisp_read.proofs.Decodes.{same_trees}

-- bytes are a text of one list of trees
pub one_text : (bytes : List ℕ) (ts us : List Tree) → IsText ts bytes → IsText us bytes → ts ≡ us
one_text bytes ts us t u = same_trees ts us (some_is (parts_of_all ts) (parts_of_all us) (sym (accepts_text ts bytes t) ∙ accepts_text us bytes u))

one_syntax : (bytes : List ℕ) (p q : Place) → IsSyntaxPlace bytes p → IsSyntaxPlace bytes q → p ≡ q
one_syntax bytes p q a b = by_order (cases_order a.k b.k)
  where
    by_order : (a.k ≡ b.k) ⊎ ((a.k < b.k) ⊎ (b.k < a.k)) → p ≡ q
    by_order (inl e) = a.place_is ∙ ap (λ (k : ℕ). place_after start (take k bytes)) e ∙ sym b.place_is
    by_order (inr (inl lt)) = absurd (a.longest b.k lt b.in_text b.begins)
    by_order (inr (inr lt)) = absurd (b.longest a.k lt a.in_text a.begins)

one_depth : (bytes : List ℕ) (p q : Place) → IsDepthPlace bytes p → IsDepthPlace bytes q → p ≡ q
one_depth bytes p q a b = by_order (cases_order a.k b.k)
  where
    by_order : (a.k ≡ b.k) ⊎ ((a.k < b.k) ⊎ (b.k < a.k)) → p ≡ q
    by_order (inl e) = a.place_is ∙ ap (λ (k : ℕ). place_after start (take k bytes)) e ∙ sym b.place_is
    by_order (inr (inl lt)) = absurd (b.first a.k lt a.deep)
    by_order (inr (inr lt)) = absurd (a.first b.k lt b.deep)

pub one_reading : (bytes : List ℕ) (a b : Reading) → ReadsAs bytes a → ReadsAs bytes b → a ≡ b
one_reading bytes (Trees ts) (Trees us) t u = ap Trees (one_text bytes ts us t.0 u.0)
one_reading bytes (Trees ts) (Syntax q) t u = absurd (u.0.no_text ts t.0)
one_reading bytes (Trees ts) (Depth q) t u = absurd (t.1 u.k u.deep)
one_reading bytes (Syntax p) (Trees us) t u = absurd (t.0.no_text us u.0)
one_reading bytes (Syntax p) (Syntax q) t u = ap Syntax (one_syntax bytes p q t.0 u.0)
one_reading bytes (Syntax p) (Depth q) t u = absurd (t.1 u.k u.deep)
one_reading bytes (Depth p) (Trees us) t u = absurd (u.1 t.k t.deep)
one_reading bytes (Depth p) (Syntax q) t u = absurd (u.1 t.k t.deep)
one_reading bytes (Depth p) (Depth q) t u = ap Depth (one_depth bytes p q t u)
