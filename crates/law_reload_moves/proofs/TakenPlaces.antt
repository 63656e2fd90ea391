-- The numbers of the operands that stand in a tree beside a pattern are among those that the pattern takes, or are those of scratches.
use Rattle.std.proofs.Common.{◌≡◌, ◌≢◌, ◌⊎◌, inl, inr, ℕ, ◌==◌, ◌&&◌, ◌||◌, Bool, true, false, List, [], ◌∷◌, ◌++◌, Option, Some, None, refl, sym, ap, subst, ◌∙◌, arith}
use Rattle.std.proofs.lemmas.Bool.{or_left, or_right}
use Rattle.std.proofs.lemmas.Bool.Decides.{nat_tests}
use Rattle.std.proofs.lemmas.List.Folds.{flat_map-map}
use Rattle.std.specs.Int.{cast_unsigned, w64}
use Rattle.std.specs.List.{flat_map, list_any}
use Rattle.std.specs.Prelude.{ℤ, pos}
use Rattle.law_operands_fetched.specs.rtx_tree.Tree.{head_of, kids_of}
use Rattle.law_operands_fetched.specs.rtx_tree.declared.code.Code.{Code}
use Rattle.law_operands_fetched.specs.rtx_tree.declared.code.Code.TheVariants as code
use Rattle.law_operands_fetched.specs.rtx_tree.declared.tree.Rtx.{Rtx}
use Rattle.law_operands_fetched.specs.rtx_tree.declared.tree.Rtx.TheFolds.{fold_out-Rtx}
use Rattle.law_operands_fetched.specs.md_constr.Inputs.{operand_here, taken_in, taken_at_by, taken_at, taken_by_parts, taken_by, effects_of}
use Rattle.law_operands_fetched.specs.md_match.Pattern.{role_of}
use Rattle.law_operands_fetched.specs.md_match.declared.role.Role.TheVariants.{Operand}
use Rattle.law_operands_fetched.specs.reload_operands.Directions.{has_number, is_input, is_hidden, is_operator_code, scratch_here, scratch_step, scratches_in, reads_scratch, hides}
use Rattle.law_operands_fetched.proofs.reload_operands.NumberLaws.{has_in_both, has_in_each, takes_out}
use Rattle.law_operands_fetched.specs.law_operands_replaced.Places.{AtOnePlace, first, later, StandsFor, itself, part}

scratches_out : (x : Rtx) → scratches_in x ≡ scratch_here (head_of x).code (head_of x).number ++ flat_map scratches_in (kids_of x)
scratches_out x = fold_out-Rtx (List ℕ) scratch_step x ∙
    ap (λ (rest : List ℕ). scratch_here (head_of x).code (head_of x).number ++ rest) (flat_map-map (λ (numbers : List ℕ). numbers) scratches_in (kids_of x))

-- an expression has its own scratch, and those of its parts
pub scratch_out : (k : ℕ) (x : Rtx) → has_number k (scratches_in x) ≡
    (has_number k (scratch_here (head_of x).code (head_of x).number) || list_any (λ part. has_number k (scratches_in part)) (kids_of x))
scratch_out k x =
    ap (has_number k) (scratches_out x) ∙
    (has_in_both k (scratch_here (head_of x).code (head_of x).number) (flat_map scratches_in (kids_of x)) ∙
    ap (λ b. has_number k (scratch_here (head_of x).code (head_of x).number) || b) (has_in_each k scratches_in (kids_of x)))

-- what one part has the list has
pub any_place : (test : Rtx → Bool) (ps xs : List Rtx) (q y : Rtx) → AtOnePlace ps xs q y → test q ≡ true → list_any test ps ≡ true
any_place test _ _ _ _ (first p x ps xs) is = or_left (test p) _ is
any_place test _ _ _ _ (later p x q y ps xs more) is = or_right (test q) _ (any_place test ps xs p x more is)

pub itself_number : (k : ℕ) → has_number k (cast_unsigned w64 (pos k) ∷ []) ≡ true
itself_number k = or_left (cast_unsigned w64 (pos k) == k) false (let same : (k == k) ≡ true = grind (arith, nat_tests) in same)

-- it is taken, or a scratch has it
abbrev pub IsTaken : ℕ → Rtx → Type 0
IsTaken k p = (has_number k (taken_in p) ≡ true) ⊎ (has_number k (scratches_in p) ≡ true)

operand_taken : (c : Code) (k : ℕ) → role_of c ≡ Operand →
    (has_number k (operand_here c (pos k)) ≡ true) ⊎ (has_number k (scratch_here c (pos k)) ≡ true)
operand_taken code.MatchOperand k is = inl (itself_number k)
operand_taken code.MatchDup k is = inl (itself_number k)
operand_taken code.MatchScratch k is = inr (itself_number k)
operand_taken _ k is = absurd (let no : ⊥ = cc in no)

pub stands_taken : (p x : Rtx) (number : ℤ) (z : Rtx) (k : ℕ) → StandsFor p x number z → number ≡ pos k → IsTaken k p
stands_taken _ _ _ _ k (itself p x is) same = elim (operand_taken (head_of p).code k is) [
  | inl taken ↦ inl (takes_out k p ∙ or_left (has_number k (operand_here (head_of p).code (head_of p).number)) _
      (ap (λ n. has_number k (operand_here (head_of p).code n)) same ∙ taken))
  | inr scratch ↦ inr (scratch_out k p ∙ or_left (has_number k (scratch_here (head_of p).code (head_of p).number)) _
      (ap (λ n. has_number k (scratch_here (head_of p).code n)) same ∙ scratch))
]
stands_taken _ _ _ _ k (part p x q y z number other long at more) same = elim (stands_taken q y number z k more same) [
  | inl taken ↦ inl (takes_out k p ∙ or_right (has_number k (operand_here (head_of p).code (head_of p).number)) _
      (any_place (λ part. has_number k (taken_in part)) (kids_of p) (kids_of x) q y at taken))
  | inr scratch ↦ inr (scratch_out k p ∙ or_right (has_number k (scratch_here (head_of p).code (head_of p).number)) _
      (any_place (λ part. has_number k (scratches_in part)) (kids_of p) (kids_of x) q y at scratch))
]

-- ---- what a set reads

-- inside a target that is no low part
pub target_taken : (a t : Rtx) (number : ℤ) (z : Rtx) (k : ℕ) → StandsFor a t number z → role_of (head_of a).code ≢ Operand → number ≡ pos k →
    ((q : Rtx) → (head_of a).code ≡ code.Subreg → kids_of a ≡ q ∷ [] → ⊥) → (has_number k (taken_at a) ≡ true) ⊎ (has_number k (scratches_in a) ≡ true)
target_taken _ _ _ _ k (itself a t is) other same low = absurd (other is)
target_taken _ _ _ _ k (part a t q y z number other' long at more) other same low = elim (stands_taken q y number z k more same) [
  | inl taken ↦ inl (ap (has_number k) (not_low (head_of a).code (kids_of a) (λ q. low q)) ∙ has_in_each k taken_in (kids_of a) ∙
      any_place (λ part. has_number k (taken_in part)) (kids_of a) (kids_of t) q y at taken)
  | inr scratch ↦ inr (scratch_out k a ∙ or_right (has_number k (scratch_here (head_of a).code (head_of a).number)) _
      (any_place (λ part. has_number k (scratches_in part)) (kids_of a) (kids_of t) q y at scratch))
]
  where
    not_low : (c : Code) (kids : List Rtx) → ((q : Rtx) → c ≡ code.Subreg → kids ≡ q ∷ [] → ⊥) → taken_at_by c kids ≡ flat_map taken_in kids
    not_low code.Subreg [] low = refl
    not_low code.Subreg (q ∷ []) low = absurd (low q refl refl)
    not_low code.Subreg (q ∷ r ∷ kids) low = refl
    not_low _ kids low = refl

-- ---- effects of a pattern

-- a place among the effects of a pattern
abbrev pub IsEffectOf : Rtx → Rtx → Type 0
IsEffectOf pattern q = (test : Rtx → Bool) → test q ≡ true → list_any test (effects_of pattern) ≡ true

-- an operand that is read is an input, or it is hidden
abbrev pub IsRead : Rtx → ℕ → Type 0
IsRead pattern k = (is_input pattern k ≡ true) ⊎ (is_hidden pattern k ≡ true)

pub input_of : (pattern q : Rtx) (k : ℕ) → IsEffectOf pattern q → has_number k (taken_by q) ≡ true → is_input pattern k ≡ true
input_of pattern q k is has = has_in_each k taken_by (effects_of pattern) ∙ is (λ q. has_number k (taken_by q)) has

pub hidden_of : (pattern q : Rtx) (k : ℕ) → IsEffectOf pattern q → hides k q ≡ true → is_hidden pattern k ≡ true
hidden_of pattern q k is has = is (hides k) has

no_clobber : (c : Code) (k : ℕ) (q : Rtx) → c ≢ code.Clobber → has_number k (scratches_in q) ≡ true → reads_scratch k c q ≡ true
no_clobber code.Clobber k q other has = absurd (other refl)
no_clobber _ k q other has = has

-- a scratch of an effect that is no clobber
pub scratch_hidden : (pattern q : Rtx) (k : ℕ) → IsEffectOf pattern q → (head_of q).code ≢ code.Clobber → has_number k (scratches_in q) ≡ true →
    is_hidden pattern k ≡ true
scratch_hidden pattern q k is other has =
    hidden_of pattern q k is (or_right (is_operator_code (head_of q).code && has_number k (taken_in q)) _ (no_clobber (head_of q).code k q other has))

set_taken : (q a b : Rtx) → (head_of q).code ≡ code.Set → kids_of q ≡ a ∷ b ∷ [] → taken_by q ≡ taken_at a ++ taken_in b
set_taken q a b is are = ap (λ c. taken_by_parts c q (kids_of q)) is ∙ ap (taken_by_parts code.Set q) are

set_no_clobber : (q : Rtx) → (head_of q).code ≡ code.Set → (head_of q).code ≢ code.Clobber
set_no_clobber q is other = let never : code.Set ≡ code.Clobber = sym is ∙ other in let none : ⊥ = cc in none

-- the source of a set
pub source_read : (pattern q a b s z : Rtx) (number : ℤ) (k : ℕ) → IsEffectOf pattern q → (head_of q).code ≡ code.Set → kids_of q ≡ a ∷ b ∷ [] →
    StandsFor b s number z → number ≡ pos k → IsRead pattern k
source_read pattern q a b s z number k effect is are stands same = elim (stands_taken b s number z k stands same) [
  | inl taken ↦ inl (input_of pattern q k effect (ap (has_number k) (set_taken q a b is are) ∙ has_in_both k (taken_at a) (taken_in b) ∙
      or_right (has_number k (taken_at a)) _ taken))
  | inr scratch ↦ inr (scratch_hidden pattern q k effect (set_no_clobber q is)
      (scratch_out k q ∙ or_right (has_number k (scratch_here (head_of q).code (head_of q).number)) _
      (ap (list_any (λ part. has_number k (scratches_in part))) are ∙ or_right (has_number k (scratches_in a)) _ (or_left (has_number k (scratches_in b)) _ scratch))))
]

-- the inside of its target
pub target_read : (pattern q a b t z : Rtx) (number : ℤ) (k : ℕ) → IsEffectOf pattern q → (head_of q).code ≡ code.Set → kids_of q ≡ a ∷ b ∷ [] →
    StandsFor a t number z → role_of (head_of a).code ≢ Operand → number ≡ pos k →
    ((r : Rtx) → (head_of a).code ≡ code.Subreg → kids_of a ≡ r ∷ [] → ⊥) → IsRead pattern k
target_read pattern q a b t z number k effect is are stands other same low = elim (target_taken a t number z k stands other same low) [
  | inl taken ↦ inl (input_of pattern q k effect (ap (has_number k) (set_taken q a b is are) ∙ has_in_both k (taken_at a) (taken_in b) ∙
      or_left (has_number k (taken_at a)) _ taken))
  | inr scratch ↦ inr (scratch_hidden pattern q k effect (set_no_clobber q is)
      (scratch_out k q ∙ or_right (has_number k (scratch_here (head_of q).code (head_of q).number)) _
      (ap (list_any (λ part. has_number k (scratches_in part))) are ∙ or_left (has_number k (scratches_in a)) _ scratch)))
]

-- of an operator everything is hidden
pub operator_hidden : (pattern q x z : Rtx) (number : ℤ) (k : ℕ) → IsEffectOf pattern q → is_operator_code (head_of q).code ≡ true →
    StandsFor q x number z → number ≡ pos k → is_hidden pattern k ≡ true
operator_hidden pattern q x z number k effect is stands same = elim (stands_taken q x number z k stands same) [
  | inl taken ↦ hidden_of pattern q k effect (or_left (is_operator_code (head_of q).code && has_number k (taken_in q)) _
      (ap (λ b. b && has_number k (taken_in q)) is ∙ taken))
  | inr scratch ↦ scratch_hidden pattern q k effect (not_clobber (head_of q).code is) scratch
]
  where
    not_clobber : (c : Code) → is_operator_code c ≡ true → c ≢ code.Clobber
    not_clobber code.MatchOperator is other = let never : ⊥ = cc in never
    not_clobber code.MatchOpDup is other = let never : ⊥ = cc in never
    not_clobber _ is other = let never : ⊥ = cc in never
