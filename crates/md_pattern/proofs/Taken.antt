-- The trees behind a code, by what is read of them: they are those that the code takes exactly where something is read.
use Rattle.std.proofs.Common.{◌≡◌, ℕ, zero, suc, ◌==◌, Bool, true, false, ◌&&◌, true≢false, List, [], ◌∷◌, replicate, Option, Some, None, option_map, option_and_then, length, refl, sym, ap, ◌∙◌, arith}
use Rattle.std.specs.Prelude.{is_some}
use Rattle.std.proofs.Math.Bool.{and-true, and-false}
use Rattle.std.proofs.lemmas.Bool.Decides.{nat_tests}
use Rattle.rtx_tree.specs.declared.constants.Constant.{Constant}
use Rattle.rtx_tree.specs.declared.class.Parts.TheVariants as parts
use Rattle.lisp_read.specs.declared.tree.Tree.{Tree}
use Rattle.lisp_read.specs.Shape.{atom_of, string_of}
use Rattle.md_pattern.specs.Word.{number_of}
use Rattle.md_pattern.specs.Operand.{number_in, operand_with, constrained, numbered, predicated, operand_in, scratch_in, dup_in}
use Rattle.md_pattern.specs.Pattern.{word_in, symbol_in, is_lowpart}
use Rattle.md_pattern.specs.HasReason.{PartKind, is_kind, kinds_of, are_kinds, expressions_at, expressions_among}

-- ---- expressions

abbrev pub is_plain : PartKind → Bool
is_plain PartKind.Expression = false
is_plain PartKind.Vector = false
is_plain _ = true

nothing_at : (k : PartKind) (t : Tree) → is_plain k ≡ true → expressions_at k t ≡ []
nothing_at PartKind.Word t e = refl
nothing_at PartKind.Number t e = refl
nothing_at PartKind.Symbol t e = refl
nothing_at PartKind.Zero t e = refl
nothing_at PartKind.Operand t e = refl
nothing_at PartKind.Text t e = refl
nothing_at PartKind.Constraint t e = refl
nothing_at PartKind.Expression t e = absurd (true≢false (sym e))
nothing_at PartKind.Vector t e = absurd (true≢false (sym e))

-- the kinds of words have no expressions
abbrev pub ArePlain : List PartKind → Type 0
ArePlain [] = Unit {0}
ArePlain (k ∷ ks) = (is_plain k ≡ true) × ArePlain ks

pub nothing_among : (ks : List PartKind) (ts : List Tree) → ArePlain ks → expressions_among ks ts ≡ []
nothing_among [] [] plain = refl
nothing_among [] (t ∷ ts) plain = refl
nothing_among (k ∷ ks) [] plain = refl
nothing_among (k ∷ ks) (t ∷ ts) plain = rw (nothing_at k t plain.0) (nothing_among ks ts plain.1)

module _ (cs : List Constant) where
  pub many : (n : ℕ) (ts : List Tree) → are_kinds cs (replicate n PartKind.Expression) ts ≡ (length ts == n)
  many zero [] = refl
  many zero (t ∷ ts) = grind (arith, nat_tests)
  many (suc n) [] = grind (arith, nat_tests)
  many (suc n) (t ∷ ts) = many n ts ∙ grind (arith, nat_tests)

  pub all_expressions : (n : ℕ) (ts : List Tree) → are_kinds cs (replicate n PartKind.Expression) ts ≡ true → expressions_among (replicate n PartKind.Expression) ts ≡ ts
  all_expressions zero [] e = refl
  all_expressions zero (t ∷ ts) e = absurd (true≢false (sym e))
  all_expressions (suc n) [] e = absurd (true≢false (sym e))
  all_expressions (suc n) (t ∷ ts) e = ap (λ (us : List Tree). t ∷ us) (all_expressions n ts e)

  -- ---- words

  pub one_word : (ts : List Tree) → are_kinds cs (kinds_of parts.Register) ts ≡ is_some (word_in ts)
  one_word [] = refl
  one_word (w ∷ []) = and-true (is_some (atom_of w))
  one_word (w ∷ x ∷ ts) = and-false (is_some (atom_of w))

  pub one_number : (ts : List Tree) → are_kinds cs (kinds_of parts.Number) ts ≡ is_some (option_and_then (number_of cs) (word_in ts))
  one_number [] = refl
  one_number (w ∷ []) = and-true (is_kind cs PartKind.Number w)
  one_number (w ∷ x ∷ ts) = and-false (is_kind cs PartKind.Number w)

  pub one_symbol : (ts : List Tree) → are_kinds cs (kinds_of parts.Symbol) ts ≡ is_some (symbol_in ts)
  one_symbol [] = refl
  one_symbol (l ∷ []) = and-true (is_kind cs PartKind.Symbol l)
  one_symbol (l ∷ x ∷ ts) = and-false (is_kind cs PartKind.Symbol l)

  pub lowpart : (ts : List Tree) → are_kinds cs (kinds_of parts.Lowpart) ts ≡ is_lowpart ts
  lowpart [] = refl
  lowpart (x ∷ []) = refl
  lowpart (x ∷ offset ∷ []) = and-true (is_kind cs PartKind.Zero offset)
  lowpart (x ∷ offset ∷ y ∷ ts) = and-false (is_kind cs PartKind.Zero offset)

  -- ---- operands

  of_number : (n : Option ℕ) → is_some (option_map (λ k. operand_with k []) n) ≡ is_some n
  of_number None = refl
  of_number (Some k) = refl

  of_two : (n : Option ℕ) (p : Option (List ℕ)) → is_some (option_and_then (λ k. option_map (operand_with k) p) n) ≡ (is_some n && is_some p)
  of_two None p = refl
  of_two (Some k) None = refl
  of_two (Some k) (Some name) = refl

  of_three : (n : Option ℕ) (p c : Option (List ℕ)) → is_some (option_and_then (λ x. option_map (constrained x) c) (option_and_then (λ k. option_map (operand_with k) p) n)) ≡ (is_some n && (is_some p && is_some c))
  of_three None p c = refl
  of_three (Some k) None c = refl
  of_three (Some k) (Some name) None = refl
  of_three (Some k) (Some name) (Some text) = refl

  of_again : (n : Option ℕ) (c : Option (List ℕ)) → is_some (option_and_then (λ x. option_map (constrained x) c) (option_map (λ k. operand_with k []) n)) ≡ (is_some n && is_some c)
  of_again None c = refl
  of_again (Some k) None = refl
  of_again (Some k) (Some text) = refl

  pub numbered_is : (n : Tree) → is_some (numbered n) ≡ is_some (number_in n)
  numbered_is n = of_number (number_in n)

  pub predicated_is : (n p : Tree) → is_some (predicated n p) ≡ (is_some (number_in n) && is_some (string_of p))
  predicated_is n p = of_two (number_in n) (string_of p)

  pub dup : (ts : List Tree) → are_kinds cs (kinds_of parts.Dup) ts ≡ is_some (dup_in ts)
  dup [] = refl
  dup (n ∷ []) = and-true (is_some (number_in n)) ∙ sym (numbered_is n)
  dup (n ∷ x ∷ ts) = and-false (is_some (number_in n))

  pub scratch : (ts : List Tree) → are_kinds cs (kinds_of parts.Scratch) ts ≡ is_some (scratch_in ts)
  scratch [] = refl
  scratch (n ∷ []) = and-true (is_some (number_in n)) ∙ sym (numbered_is n)
  scratch (n ∷ c ∷ []) = ap (λ b. is_some (number_in n) && b) (and-true (is_some (string_of c))) ∙ sym (of_again (number_in n) (string_of c))
  scratch (n ∷ c ∷ x ∷ ts) = ap (λ b. is_some (number_in n) && b) (and-false (is_some (string_of c))) ∙ and-false (is_some (number_in n))

  pub operand : (ts : List Tree) → are_kinds cs (kinds_of parts.Operand) ts ≡ is_some (operand_in ts)
  operand [] = refl
  operand (n ∷ []) = and-false (is_some (number_in n))
  operand (n ∷ p ∷ []) = ap (λ b. is_some (number_in n) && b) (and-true (is_some (string_of p))) ∙ sym (predicated_is n p)
  operand (n ∷ p ∷ c ∷ []) = ap (λ b. is_some (number_in n) && (is_some (string_of p) && b)) (and-true (is_some (string_of c))) ∙ sym (of_three (number_in n) (string_of p) (string_of c))
  operand (n ∷ p ∷ c ∷ x ∷ ts) =
      ap (λ b. is_some (number_in n) && (is_some (string_of p) && b)) (and-false (is_some (string_of c)))
      ∙ ap (λ b. is_some (number_in n) && b) (and-false (is_some (string_of p))) ∙ and-false (is_some (number_in n))
