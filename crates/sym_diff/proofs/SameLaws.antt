-- Whether two terms are the same is told as the definition tells it.
use Rattle.std.proofs.Common.{◌≡◌, Bool, true, false, refl}
use Rattle.std.proofs.Math.Logic.{◌↔◌}
use Rattle.std.specs.Prelude.{Result, Ok, Err, IfOk}
use Rattle.std.specs.Bool.{IsTrue}
use Rattle.term_tree.specs.Tree.{Tree}
use Rattle.sym_term.proofs.Steps.{same-is}
use Rattle.sym_diff.specs.Registers.{same_tree}

both-flags : (r s : Bool) → (IsTrue r → IsTrue s) → (IsTrue s → IsTrue r) → r ≡ s
both-flags true true on back = refl
both-flags false false on back = refl
both-flags true false on back = let h : false ≡ true = on refl in cc
both-flags false true on back = let h : false ≡ true = back refl in cc

same-flag : (t u : Tree) (r : Bool) → IsTrue r ↔ (t ≡ u) → r ≡ same_tree t u
same-flag t u r told = both-flags r (same_tree t u) (λ h. (same-is t u).1 (told.0 h)) (λ h. told.1 ((same-is t u).0 h))

pub same_told : {E : Type 0} (r : Result Bool E) (t u : Tree) → IfOk r (λ same. IsTrue same ↔ (t ≡ u)) → IfOk r (λ same. same ≡ same_tree t u)
same_told (Ok same) t u h = same-flag t u same h
same_told (Err e) t u h = tt
