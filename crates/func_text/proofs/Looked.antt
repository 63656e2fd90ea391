-- Things that were looked at, one behind the other, and of which none was refused.
use Rattle.std.proofs.Common.{◌≡◌, ℕ, ◌+◌, ◌<◌, List, [], ◌∷◌, ◌++◌, length, drop, get_or, Ok, Err, refl}
use Rattle.run_refusal.specs.declared.refusal.Refusal.{Refusal}
use Rattle.func_input.specs.Input.{RefusesWith}
use Rattle.func_input.specs.Outcome.{Outcome}
use Rattle.func_after.specs.Each.{EachComes}
use Rattle.func_after.proofs.Each.{Makes, makes_start, makes_on, makes_wrong, makes_all}

module _ {A : Type 0} (comes : A → Outcome → Type 0) (xs : List A) where
  -- those that were looked at come to a text, and the rest is left
  pub record Looked (rest : List A) : Type 0 where
    pub text : List ℕ
    pub makes : Makes comes xs [] text rest

  pub looked_start : Looked xs
  looked_start = record { text = []; makes = makes_start comes xs [] }

  -- one more comes to a text
  pub looked_on : (i : ℕ) (x : A) → i < length xs → x ≡ get_or xs i x → (text : List ℕ) × comes x (Ok text) → Looked (drop i xs) → Looked (drop (i + 1) xs)
  looked_on i x within is text so_far = record {
    text = so_far.text ++ text.0;
    makes = makes_on comes xs [] so_far.text (so_far.text ++ text.0) i x within is (text.0, text.1, refl) so_far.makes;
  }

  -- one is refused
  pub looked_wrong : (i : ℕ) (x : A) (e : Refusal) → i < length xs → x ≡ get_or xs i x → RefusesWith e (comes x) → Looked (drop i xs) → RefusesWith e (EachComes comes xs)
  looked_wrong i x e within is r so_far = makes_wrong comes xs [] so_far.text i x e within is r so_far.makes

  -- none is left
  pub looked_all : Looked [] → (text : List ℕ) × EachComes comes xs (Ok text)
  looked_all so_far = let whole = makes_all comes xs [] so_far.text so_far.makes in (whole.0, whole.1)
