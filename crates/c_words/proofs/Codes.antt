-- Nothing is found by a test that nothing passes.
use Rattle.std.proofs.Common.{◌≡◌, Bool, false, List, [], ◌∷◌, None, find, refl}

pub none_that : {A : Type 0} (test : A → Bool) (xs : List A) → ((x : A) → test x ≡ false) → find test xs ≡ None
none_that test [] h = refl
none_that test (x ∷ xs) h = rw (h x) (none_that test xs h)
