-- Some ways with some others: what was joined so far, and what is left.
use Rattle.std.proofs.Common.{◌≡◌, ℕ, suc, ◌+◌, ◌-◌, ◌<◌, ◌≤◌, ◌∷◌, ◌++◌, Option, Some, None, option_map, length, drop, get_or, refl, sym, ap, ◌∙◌, append_assoc, arith}
use Rattle.std.proofs.lemmas.List.{append-nil, at_drop_more, at_drop_all}
use Rattle.md_text.proofs.Each.{with_front}
use Rattle.dfa_ways.specs.declared.way.Joint.{Joint}
use Rattle.dfa_ways.specs.declared.way.Joint.TheVariants as joint
use Rattle.dfa_ways.specs.Ways.{Way, Ways, with_each, product, all_joined, repeated}

with_front-append : (front ws : Ways) (p : Option Ways) → with_front front (option_map (λ more. ws ++ more) p) ≡ with_front (front ++ ws) p
with_front-append front ws (Some more) = ap (λ (all : Ways). Some all) (sym (append_assoc front ws more))
with_front-append front ws None = refl

module _ (how : Joint) (b front a : Ways) (i : ℕ) (x : Way) (all : Option Ways) (within : i < length a) (is : x ≡ get_or a i x) (so_far : with_front front (product how (drop i a) b) ≡ all) where
  here : with_front front (product how (x ∷ drop (i + 1) a) b) ≡ all
  here = sym (at_drop_more (λ xs. with_front front (product how xs b)) a i x within ∙ ap (λ (y : Way). with_front front (product how (y ∷ drop (i + 1) a) b)) (sym is)) ∙ so_far

  -- one way more, with each of the others
  pub product_next : (ws : Ways) → with_each how b x ≡ Some ws → with_front (front ++ ws) (product how (drop (i + 1) a) b) ≡ all
  product_next ws e = sym (with_front-append front ws (product how (drop (i + 1) a) b)) ∙ sym (rw e refl) ∙ here

  -- one that can't be joined
  pub product_stops : with_each how b x ≡ None → all ≡ None
  product_stops e = sym here ∙ rw e refl

-- all ways
pub product_ends : (how : Joint) (b front a : Ways) (i : ℕ) (all : Option Ways) → length a ≤ i → with_front front (product how (drop i a) b) ≡ all → all ≡ Some front
product_ends how b front a i all end so_far =
    sym so_far ∙ at_drop_all (λ xs. with_front front (product how xs b)) a i end ∙ ap (λ (ws : Ways). Some ws) (append-nil front)

-- ---- the same ways again

module _ (n i : ℕ) (front ws : Ways) (all : Option Ways) (within : i < n) (so_far : repeated (n - i) front ws ≡ all) where
  again : repeated (suc (n - (i + 1))) front ws ≡ all
  again =
      let more : suc (n - (i + 1)) ≡ n - i = omega arith in
      ap (λ k. repeated k front ws) more ∙ so_far

  pub repeated_next : (longer : Ways) → all_joined joint.Behind front ws ≡ Some longer → repeated (n - (i + 1)) longer ws ≡ all
  repeated_next longer e = sym (rw e refl) ∙ again

  pub repeated_stops : all_joined joint.Behind front ws ≡ None → all ≡ None
  repeated_stops e = sym again ∙ rw e refl

pub repeated_ends : (n i : ℕ) (front ws : Ways) (all : Option Ways) → n ≤ i → repeated (n - i) front ws ≡ all → all ≡ Some front
repeated_ends n i front ws all end so_far =
    let none : n - i ≡ 0 = omega arith in
    sym so_far ∙ ap (λ k. repeated k front ws) none
