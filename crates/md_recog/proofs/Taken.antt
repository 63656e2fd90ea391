-- Whether predicates accept the operands of patterns that make expressions, one each, found by looking at one after the other.
use Rattle.std.proofs.Common.{◌≡◌, ◌≤◌, ◌<◌, ◌+◌, ℕ, get_or, Bool, true, false, ◌&&◌, List, [], ◌∷◌, length, drop, refl, sym, ap, subst, ◌∙◌}
use Rattle.std.specs.List.{list_all}
use Rattle.std.proofs.lemmas.List.{drop_all}
use Rattle.rtx_tree.specs.declared.tree.Rtx.{Rtx}
use Rattle.md_match.specs.Pattern.{Ops}
use Rattle.md_match.specs.machine.Collected.{MakesAll}
use Rattle.md_match.proofs.Parts.{makes_first, as_many, opened}
use Rattle.md_recog.specs.Match.{Accepts, all_accepted}
use Rattle.md_recog.proofs.Placed.{Tells, TellsAll}

module _ (a : Accepts) (ps xs : List Rtx) where
  -- what is left from a place on is made too, and decides of all
  pub record Left (i : ℕ) (o : Ops) : Type 0 where
    pub made : MakesAll (drop i ps) (drop i xs) o
    pub decides : all_accepted a o (drop i ps) ≡ all_accepted a o ps

  pub record Taken (i : ℕ) : Type 0 where
    pub left : (o : Ops) → MakesAll ps xs o → Left i o

  pub taken_start : Taken 0
  taken_start = record { left = λ o m. record { made = m; decides = refl } }

  opened_made : (i : ℕ) (p x : Rtx) (o : Ops) → drop i ps ≡ p ∷ drop (i + 1) ps → drop i xs ≡ x ∷ drop (i + 1) xs → MakesAll (drop i ps) (drop i xs) o → MakesAll (p ∷ drop (i + 1) ps) (x ∷ drop (i + 1) xs) o
  opened_made i p x o e f m = subst (λ qs. MakesAll qs (x ∷ drop (i + 1) xs) o) e (subst (λ ys. MakesAll (drop i ps) ys o) f m)

  pub taken_next : (i : ℕ) (p x : Rtx) → i < length ps → i < length xs → p ≡ get_or ps i p → x ≡ get_or xs i x → Tells a p x true → Taken i → Taken (i + 1)
  taken_next i p x h k e f tells t = record { left = λ o m. next o (t.left o m) }
    where
      next : (o : Ops) → Left i o → Left (i + 1) o
      next o l =
          let both = makes_first p x (drop (i + 1) ps) (drop (i + 1) xs) o (opened_made i p x o (opened ps i p h e) (opened xs i x k f) l.made) in
          record {
            made = both.1;
            decides =
                ap (λ b. b && all_accepted a o (drop (i + 1) ps)) (tells o both.0) ∙
                (sym (ap (all_accepted a o) (opened ps i p h e)) ∙ l.decides);
          }

  pub taken_not : (i : ℕ) (p x : Rtx) → i < length ps → i < length xs → p ≡ get_or ps i p → x ≡ get_or xs i x → Tells a p x false → Taken i → TellsAll a ps xs false
  taken_not i p x h k e f tells t o m =
      let l = t.left o m in
      let both = makes_first p x (drop (i + 1) ps) (drop (i + 1) xs) o (opened_made i p x o (opened ps i p h e) (opened xs i x k f) l.made) in
      ap (λ b. b && all_accepted a o (drop (i + 1) ps)) (tells o both.0) ∙ (sym (ap (all_accepted a o) (opened ps i p h e)) ∙ l.decides)

  pub taken_end : (i : ℕ) → length ps ≤ i → Taken i → TellsAll a ps xs true
  taken_end i h t o m = sym (ap (all_accepted a o) (drop_all i ps h)) ∙ (t.left o m).decides

  pub other_number : (length ps ≡ length xs → ⊥) → TellsAll a ps xs false
  other_number never o m = absurd (never (as_many ps xs o m))
