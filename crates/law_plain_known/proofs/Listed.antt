-- The operands that patterns of a few placeholders find, in their order.
use Rattle.std.proofs.Common.{◌≡◌, ℕ, pos, Bool, true, false, ◌&&◌, List, [], ◌∷◌, ◌++◌, Option, Some, None, refl, ap, ◌∙◌}
use Rattle.std.specs.Prelude.{ℤ, if◌then◌else◌}
use Rattle.std.specs.List.{find, flat_map}
use Rattle.std.specs.Ordering.{int_eq}
use Rattle.rtx_tree.specs.declared.code.Mode.{Mode}
use Rattle.rtx_tree.specs.declared.tree.Rtx.{Rtx}
use Rattle.rtx_tree.specs.Operands.{operand_at}
use Rattle.md_match.specs.Pattern.{Ops, gives, gives_number, placeholders}
use Rattle.rtx_open.proofs.Expressions.{rtx, outside_is}
use Rattle.assign.specs.declared.home.HomeOf.{HomeOf}
use Rattle.assign.specs.declared.places.Layout.{Layout}
use Rattle.reload_operands.specs.declared.operand.Operand.{Operand}
use Rattle.reload_operands.specs.Operands.{with_natural, with_given, with_all_given, numbers_of, giver, operand_for, at_both, operand_with, operands_of}
use Rattle.law_plain_matches.proofs.Patterns.{operand}

-- ---- a placeholder that gives the operand with a number

pub record Gives (k : ℕ) (p : Rtx) : Type 0 where
  pub numbers : (ns : List ℕ) → with_given ns p ≡ with_natural ns (pos k)
  pub gives : (j : ℕ) → gives_number j p ≡ int_eq (pos k) (pos j)

pub given : (name : List ℕ) (k : ℕ) (m : Mode) → Gives k (rtx (operand name k m))
given name k m = record {
  numbers = λ ns. ap (λ o. if gives o.code then with_natural ns o.number else ns) (outside_is (operand name k m));
  gives = λ j. ap (λ o. gives o.code && int_eq o.number (pos j)) (outside_is (operand name k m));
}

-- the first of some that passes a test
finds_first : (f : Rtx → Bool) (x : Rtx) (xs : List Rtx) → f x ≡ true → find f (x ∷ xs) ≡ Some x
finds_first f x xs is = ap (λ b. if b then Some x else find f xs) is

finds_later : (f : Rtx → Bool) (x : Rtx) (xs : List Rtx) (o : Option Rtx) → f x ≡ false → find f xs ≡ o → find f (x ∷ xs) ≡ o
finds_later f x xs o other is = ap (λ b. if b then Some x else find f xs) other ∙ is

module _ (pattern : Rtx) (found : Ops) (placed with_homes : Rtx) (homes : List HomeOf) (layout : Layout) where
  abbrev pub known : ℕ → Rtx → Rtx → Operand
  known k p x = operand_for pattern placed with_homes homes layout k p x

  abbrev pub listed : List Operand
  listed = operands_of pattern found placed with_homes homes layout

  abbrev pub At : ℕ → Rtx → Type 0
  At k x = operand_at found k ≡ Some x

  there : (k : ℕ) (p x : Rtx) → giver pattern k ≡ Some p → At k x → operand_with pattern found placed with_homes homes layout k ≡ known k p x ∷ []
  there k p x gives at =
      ap (λ o. at_both (operand_for pattern placed with_homes homes layout k) o (operand_at found k)) gives ∙
      ap (λ o. at_both (operand_for pattern placed with_homes homes layout k) (Some p) o) at

  abbrev each : List ℕ → List Operand
  each ns = flat_map (operand_with pattern found placed with_homes homes layout) ns

  of_numbers : (ns : List ℕ) → numbers_of pattern ≡ ns → listed ≡ each ns
  of_numbers ns is = ap each is

  -- one operand more in front
  in_front : (k : ℕ) (ns : List ℕ) (p x : Rtx) (rest : List Operand) → giver pattern k ≡ Some p → At k x → each ns ≡ rest → each (k ∷ ns) ≡ known k p x ∷ rest
  in_front k ns p x rest gives at is = ap (λ xs. xs ++ each ns) (there k p x gives at) ∙ ap (λ xs. known k p x ∷ xs) is

  giver_in : (ps : List Rtx) (k : ℕ) (o : Option Rtx) → placeholders pattern ≡ ps → find (gives_number k) ps ≡ o → giver pattern k ≡ o
  giver_in ps k o are is = ap (find (gives_number k)) are ∙ is

  numbers_in : (ps : List Rtx) (ns : List ℕ) → placeholders pattern ≡ ps → with_all_given [] ps ≡ ns → numbers_of pattern ≡ ns
  numbers_in ps ns are is = ap (with_all_given []) are ∙ is

  -- ---- none, one, two, three and four of them

  pub none_listed : placeholders pattern ≡ [] → listed ≡ []
  none_listed are = of_numbers [] (numbers_in [] [] are refl)

  pub one_listed : (p a : Rtx) → placeholders pattern ≡ p ∷ [] → Gives 0 p → At 0 a → listed ≡ known 0 p a ∷ []
  one_listed p a are g at =
      of_numbers (0 ∷ []) (numbers_in (p ∷ []) (0 ∷ []) are (g.numbers [])) ∙
      in_front 0 [] p a [] (giver_in (p ∷ []) 0 (Some p) are (finds_first (gives_number 0) p [] (g.gives 0))) at refl

  module _ (p q a b : Rtx) (are : placeholders pattern ≡ p ∷ q ∷ []) (g : Gives 0 p) (h : Gives 1 q) (at : At 0 a) (bt : At 1 b) where
    pub two_listed : listed ≡ known 0 p a ∷ known 1 q b ∷ []
    two_listed =
        let ps = p ∷ q ∷ [] in
        of_numbers (0 ∷ 1 ∷ []) (numbers_in ps (0 ∷ 1 ∷ []) are (ap (λ ns. with_given ns q) (g.numbers []) ∙ h.numbers (0 ∷ []))) ∙
        in_front 0 (1 ∷ []) p a (known 1 q b ∷ []) (giver_in ps 0 (Some p) are (finds_first (gives_number 0) p (q ∷ []) (g.gives 0))) at
        (in_front 1 [] q b [] (giver_in ps 1 (Some q) are (finds_later (gives_number 1) p (q ∷ []) (Some q) (g.gives 1) (finds_first (gives_number 1) q [] (h.gives 1)))) bt refl)

  module _ (p q r a b c : Rtx) (are : placeholders pattern ≡ p ∷ q ∷ r ∷ []) (g : Gives 0 p) (h : Gives 1 q) (i : Gives 2 r) (at : At 0 a) (bt : At 1 b) (ct : At 2 c) where
    pub three_listed : listed ≡ known 0 p a ∷ known 1 q b ∷ known 2 r c ∷ []
    three_listed =
        let ps = p ∷ q ∷ r ∷ [] in
        of_numbers (0 ∷ 1 ∷ 2 ∷ []) (numbers_in ps (0 ∷ 1 ∷ 2 ∷ []) are (ap (λ ns. with_given (with_given ns q) r) (g.numbers []) ∙ (ap (λ ns. with_given ns r) (h.numbers (0 ∷ [])) ∙ i.numbers (0 ∷ 1 ∷ [])))) ∙
        in_front 0 (1 ∷ 2 ∷ []) p a (known 1 q b ∷ known 2 r c ∷ []) (giver_in ps 0 (Some p) are (finds_first (gives_number 0) p (q ∷ r ∷ []) (g.gives 0))) at
        (in_front 1 (2 ∷ []) q b (known 2 r c ∷ []) (giver_in ps 1 (Some q) are (finds_later (gives_number 1) p (q ∷ r ∷ []) (Some q) (g.gives 1) (finds_first (gives_number 1) q (r ∷ []) (h.gives 1)))) bt
        (in_front 2 [] r c [] (giver_in ps 2 (Some r) are (finds_later (gives_number 2) p (q ∷ r ∷ []) (Some r) (g.gives 2)
        (finds_later (gives_number 2) q (r ∷ []) (Some r) (h.gives 2) (finds_first (gives_number 2) r [] (i.gives 2))))) ct refl))

  module _ (p q r s a b c d : Rtx) (are : placeholders pattern ≡ p ∷ q ∷ r ∷ s ∷ []) (g : Gives 0 p) (h : Gives 1 q) (i : Gives 2 r) (j : Gives 3 s) (at : At 0 a) (bt : At 1 b) (ct : At 2 c) (dt : At 3 d) where
    pub four_listed : listed ≡ known 0 p a ∷ known 1 q b ∷ known 2 r c ∷ known 3 s d ∷ []
    four_listed =
        let ps = p ∷ q ∷ r ∷ s ∷ [] in
        of_numbers (0 ∷ 1 ∷ 2 ∷ 3 ∷ []) (numbers_in ps (0 ∷ 1 ∷ 2 ∷ 3 ∷ []) are
        (ap (λ ns. with_given (with_given (with_given ns q) r) s) (g.numbers []) ∙ (ap (λ ns. with_given (with_given ns r) s) (h.numbers (0 ∷ [])) ∙ (ap (λ ns. with_given ns s) (i.numbers (0 ∷ 1 ∷ [])) ∙ j.numbers (0 ∷ 1 ∷ 2 ∷ []))))) ∙
        in_front 0 (1 ∷ 2 ∷ 3 ∷ []) p a (known 1 q b ∷ known 2 r c ∷ known 3 s d ∷ []) (giver_in ps 0 (Some p) are (finds_first (gives_number 0) p (q ∷ r ∷ s ∷ []) (g.gives 0))) at
        (in_front 1 (2 ∷ 3 ∷ []) q b (known 2 r c ∷ known 3 s d ∷ []) (giver_in ps 1 (Some q) are (finds_later (gives_number 1) p (q ∷ r ∷ s ∷ []) (Some q) (g.gives 1) (finds_first (gives_number 1) q (r ∷ s ∷ []) (h.gives 1)))) bt
        (in_front 2 (3 ∷ []) r c (known 3 s d ∷ []) (giver_in ps 2 (Some r) are (finds_later (gives_number 2) p (q ∷ r ∷ s ∷ []) (Some r) (g.gives 2)
        (finds_later (gives_number 2) q (r ∷ s ∷ []) (Some r) (h.gives 2) (finds_first (gives_number 2) r (s ∷ []) (i.gives 2))))) ct
        (in_front 3 [] s d [] (giver_in ps 3 (Some s) are (finds_later (gives_number 3) p (q ∷ r ∷ s ∷ []) (Some s) (g.gives 3)
        (finds_later (gives_number 3) q (r ∷ s ∷ []) (Some s) (h.gives 3) (finds_later (gives_number 3) r (s ∷ []) (Some s) (i.gives 3) (finds_first (gives_number 3) s [] (j.gives 3)))))) dt refl)))
