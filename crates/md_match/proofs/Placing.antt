-- The operand that a placeholder gives, put in its place.
use Rattle.std.proofs.Common.{◌≡◌, ◌≢◌, ◌⊎◌, inl, inr, ℕ, pos, Bool, true, false, ◌&&◌, Some, None, refl, sym, ap, subst, ◌∙◌}
use Rattle.std.specs.Prelude.{is_some, IsSome}
use Rattle.std.specs.Ordering.{int_eq}
use Rattle.std.proofs.lemmas.Bool.{cases_eq}
use Rattle.std.proofs.lemmas.Bool.Decides.{Decides-int_eq}
use Rattle.rtx_tree.specs.declared.tree.Rtx.{Rtx}
use Rattle.rtx_tree.specs.Tree.{head_of}
use Rattle.rtx_tree.specs.Operands.{operand_at, put_at}
use Rattle.rtx_tree.proofs.OperandLaws.{read_placed, read_other}
use Rattle.md_match.specs.Pattern.{Ops, gives, gives_number, operand_numbered}
use Rattle.md_match.specs.machine.Collected.{NamesGiven, Grows, Collected}
use Rattle.md_match.proofs.Short.{put_short}

and_first : (a b : Bool) → (a && b) ≡ true → a ≡ true
and_first true b e = refl
and_first false b e = e

and_second : (a b : Bool) → (a && b) ≡ true → b ≡ true
and_second true b e = e
and_second false b e = absurd (let none : ⊥ = cc in none)

-- a placeholder gives the operand with its number, and no other
number_is : (p : Rtx) (k j : ℕ) → (head_of p).number ≡ pos k → gives_number j p ≡ true → j ≡ k
number_is p k j n e =
    let same : (head_of p).number ≡ pos j = (Decides-int_eq (head_of p).number (pos j)).0 (and_second (gives (head_of p).code) (int_eq (head_of p).number (pos j)) e) in
    let equal : pos j ≡ pos k = sym same ∙ n in
    cc

gives_it : (p : Rtx) (k : ℕ) → (head_of p).number ≡ pos k → gives (head_of p).code ≡ true → gives_number k p ≡ true
gives_it p k n g = ap (λ b. b && int_eq (head_of p).number (pos k)) g ∙ (Decides-int_eq (head_of p).number (pos k)).1 n

module _ (p x y : Rtx) (old : Ops) (k : ℕ) (n : (head_of p).number ≡ pos k) (g : gives (head_of p).code ≡ true) (free : operand_at old k ≡ None) (copied : y ≡ x) where
  put_grows : Grows old (put_at old k y)
  put_grows = record { keeps = λ j z e. go j z e (cases_eq j k) }
    where
      go : (j : ℕ) (z : Rtx) → operand_at old j ≡ Some z → (j ≡ k) ⊎ (j ≢ k) → operand_at (put_at old k y) j ≡ Some z
      go j z e (inl same) = absurd (let f : operand_at old k ≡ Some z = subst (λ i. operand_at old i ≡ Some z) same e in let none : ⊥ = cc in none)
      go j z e (inr other) = read_other old k y j other ∙ e

  put_below : (o : Ops) → Grows old o → NamesGiven p x o → Grows (put_at old k y) o
  put_below o grows given = record { keeps = λ j z e. go j z e (cases_eq j k) }
    where
      named : operand_at o k ≡ Some x
      named = sym (ap (operand_numbered o) n) ∙ given g

      go : (j : ℕ) (z : Rtx) → operand_at (put_at old k y) j ≡ Some z → (j ≡ k) ⊎ (j ≢ k) → operand_at o j ≡ Some z
      go j z e (inl same) =
          let f : Some y ≡ Some z = sym (read_placed old k y) ∙ subst (λ i. operand_at (put_at old k y) i ≡ Some z) same e in
          ap (operand_at o) same ∙ (named ∙ (ap Some (sym copied) ∙ f))
      go j z e (inr other) = grows.keeps j z (sym (read_other old k y j other) ∙ e)

  put_there : (j : ℕ) → gives_number j p ≡ true → IsSome (operand_at (put_at old k y) j)
  put_there j e = ap (λ i. is_some (operand_at (put_at old k y) i)) (number_is p k j n e) ∙ ap is_some (read_placed old k y)

  put_only : (j : ℕ) → IsSome (operand_at (put_at old k y) j) → (j ≡ k) ⊎ (j ≢ k) → IsSome (operand_at old j) ⊎ (gives_number j p ≡ true)
  put_only j s (inl same) = inr (ap (λ i. gives_number i p) same ∙ gives_it p k n g)
  put_only j s (inr other) = inl (ap is_some (sym (read_other old k y j other)) ∙ s)

  collected : Collected (λ j. gives_number j p) (NamesGiven p x) old (put_at old k y)
  collected = record {
    keeps = put_grows;
    below = put_below;
    there = put_there;
    only = λ j s. put_only j s (cases_eq j k);
    short = put_short old k y;
  }

pub collected_put : (p x y : Rtx) (old new : Ops) (k : ℕ) → (head_of p).number ≡ pos k → gives (head_of p).code ≡ true → operand_at old k ≡ None → y ≡ x → new ≡ put_at old k y → Collected (λ j. gives_number j p) (NamesGiven p x) old new
collected_put p x y old new k n g free copied e = subst (Collected (λ j. gives_number j p) (NamesGiven p x) old) (sym e) (collected p x y old k n g free copied)
