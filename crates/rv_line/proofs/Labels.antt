-- What is found under texts, with one more.
use Rattle.std.proofs.Common.{◌≡◌, ℕ, Bool, true, false, if◌then◌else◌, Option, Some, List, bytes_eq, refl, sym, ap, ◌∙◌}
use Rattle.std.specs.Prelude.{Vec}
use Rattle.std.specs.declared.alloc.Global.{Global}
use Rattle.std.specs.Map.{KeepsOthers, lookup}
use Rattle.std.proofs.lemmas.Cmp.{nat_list_eq_equiv}
use Rattle.std.proofs.lemmas.Slice.Eq.{bytes_eq-Decides}

abbrev Text : Type 0
Text = Vec ℕ Global

abbrev same : Text → Text → Bool
same a b = bytes_eq a.items b.items

abbrev found : List (Text × ℕ) → List ℕ → Option ℕ
found places target = lookup (λ (text : Text). bytes_eq target text.items) places

others : (old new : List (Text × ℕ)) (key : Text) (target : List ℕ) → KeepsOthers same (same key) old new → bytes_eq key.items target ≡ false → found new target ≡ found old target
unfolding KeepsOthers
others old new key target keeps differ =
    keeps (λ text. bytes_eq target text.items) (λ x y. nat_list_eq_equiv.congr target x.items y.items) (λ k is. nat_list_eq_equiv.symm target k.items ∙ (sym (nat_list_eq_equiv.congr key.items k.items target is) ∙ differ))

-- a text has its new place, and the others theirs
pub text_put : (old new : List (Text × ℕ)) (key : Text) (text target : List ℕ) (place : ℕ) → key.items ≡ text → found new key.items ≡ Some place → KeepsOthers same (same key) old new →
    found new target ≡ (if bytes_eq text target then Some place else found old target)
text_put old new key text target place is here keeps = by (bytes_eq text target) refl
  where
    by : (b : Bool) → bytes_eq text target ≡ b → found new target ≡ (if b then Some place else found old target)
    by true e = ap (found new) (sym ((bytes_eq-Decides text target).0 e) ∙ sym is) ∙ here
    by false e = others old new key target keeps (ap (λ t. bytes_eq t target) is ∙ e)
