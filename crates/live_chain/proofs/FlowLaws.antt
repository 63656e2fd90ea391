-- Where instructions lead, where one window of a chain is in the place of another.
use Rattle.std.proofs.Common.{◌≡◌, ℕ, ◌+◌, Bool, true, false, ◌||◌, ◌&&◌, not, List, [], ◌∷◌, ◌++◌, length, Option, Some, None, inl, inr, ◌⊎◌, refl, sym, ap, subst, ◌∙◌, eqb, eq-eqb}
use Rattle.std.specs.Prelude.{slice_get}
use Rattle.std.specs.List.{list_any}
use Rattle.std.specs.Option.{option_to_list}
use Rattle.std.proofs.lemmas.Bool.{or_cases, or_left, or_right, eqb-true, false≢true}
use Rattle.rtx_tree.specs.declared.function.Kind.{Kind}
use Rattle.rtx_tree.specs.declared.function.Kind.TheVariants as kind
use Rattle.rtx_tree.specs.declared.function.Insn.{Insn}
use Rattle.rtx_tree.specs.declared.tree.Rtx.{Rtx}
use Rattle.rtx_tree.specs.Patterns.{is_label, is_label_kind, place_of}
use Rattle.rtl_func.specs.declared.flow.Flow.{Flow}
use Rattle.rtl_func.specs.declared.flow.Flow.TheVariants.{Falls, Goes, Branches, Stops}
use Rattle.rtl_func.specs.Blocks.{is_jump_kind}
use Rattle.rtl_func.specs.Successors.{flow_by, flow_of, flow_places, label_places, successors_by, successors_of}
use Rattle.rtl_func.specs.Paths.{has_place}
use Rattle.reg_uses.specs.Uses.{is_return}
use Rattle.live_chain.specs.machine.Window.{is_inner, leads_last}
use Rattle.live_chain.proofs.MoveLaws.{IsMoved, first_moved}

-- the places to which a flow leads, where the next place is this
abbrev pub flows_to : List Insn → ℕ → Flow → List ℕ
flows_to insns next Falls = next ∷ []
flows_to insns next (Goes uid) = label_places insns uid
flows_to insns next (Branches uid) = next ∷ label_places insns uid
flows_to insns next Stops = []

flows_same : (insns : List Insn) (p : ℕ) (flow : Flow) → flow_places insns p flow ≡ flows_to insns (p + 1) flow
flows_same insns p Falls = refl
flows_same insns p (Goes uid) = refl
flows_same insns p (Branches uid) = refl
flows_same insns p Stops = refl

-- where the instruction at a place leads
pub flows_at : (insns : List Insn) (p : ℕ) (i : Insn) → slice_get insns p ≡ Some i → successors_of insns p ≡ flows_to insns (p + 1) (flow_of i)
flows_at insns p i at = ap (successors_by insns p) at ∙ flows_same insns p (flow_of i)

pub falls_by : (k : Kind) (x : Rtx) → is_jump_kind k ≡ false → flow_by k x ≡ Falls
falls_by kind.Plain x e = refl
falls_by kind.Jump x e = absurd (false≢true (sym e))
falls_by kind.Call x e = refl
falls_by kind.Label x e = refl
falls_by kind.Barrier x e = refl

pub not_false : (b : Bool) → not b ≡ true → b ≡ false
not_false true e = absurd (false≢true e)
not_false false e = refl

pub both_left : (a b : Bool) → (a && b) ≡ true → a ≡ true
both_left true b e = refl
both_left false b e = absurd (false≢true e)

pub both_right : (a b : Bool) → (a && b) ≡ true → b ≡ true
both_right true b e = e
both_right false b e = absurd (false≢true e)

-- ---- windows

-- the first of several falls through, and the others lead on from their last
pub falls_first : (i j : Insn) (window : List Insn) → leads_last (i ∷ j ∷ window) ≡ true → flow_of i ≡ Falls
falls_first i j window e =
    falls_by i.kind i.pattern (not_false (is_jump_kind i.kind) (both_right (is_inner i) (not (is_jump_kind i.kind)) (both_left (is_inner i && not (is_jump_kind i.kind)) (leads_last (j ∷ window)) e)))

pub leads_rest : (i j : Insn) (window : List Insn) → leads_last (i ∷ j ∷ window) ≡ true → leads_last (j ∷ window) ≡ true
leads_rest i j window e = both_right (is_inner i && not (is_jump_kind i.kind)) (leads_last (j ∷ window)) e

pub inner_first : (i : Insn) (window : List Insn) → leads_last (i ∷ window) ≡ true → is_inner i ≡ true
inner_first i [] e = e
inner_first i (j ∷ window) e = both_left (is_inner i) (not (is_jump_kind i.kind)) (both_left (is_inner i && not (is_jump_kind i.kind)) (leads_last (j ∷ window)) e)

pub returns_not : (i : Insn) → is_inner i ≡ true → is_return i ≡ false
returns_not i e = not_false (is_return i) (both_right (not (is_label_kind i.kind)) (not (is_return i)) e)

label_not : (i : Insn) (uid : ℕ) → is_inner i ≡ true → is_label uid i ≡ false
label_not i uid e = ap (λ b. b && (eqb i.uid uid)) (not_false (is_label_kind i.kind) (both_left (not (is_label_kind i.kind)) (not (is_return i)) e))

pub labels_none : (window : List Insn) (uid : ℕ) → leads_last window ≡ true → list_any (is_label uid) window ≡ false
labels_none [] uid e = refl
labels_none (i ∷ []) uid e = ap (λ b. b || false) (label_not i uid e)
labels_none (i ∷ j ∷ window) uid e =
    ap (λ b. b || list_any (is_label uid) (j ∷ window)) (label_not i uid (inner_first i (j ∷ window) e)) ∙ labels_none (j ∷ window) uid (leads_rest i j window e)

-- ---- places that moved

has_option : (o : Option ℕ) (q : ℕ) → has_place (option_to_list o) q ≡ true → o ≡ Some q
has_option None q e = absurd (false≢true e)
has_option (Some p) q e =
    elim (or_cases (eqb p q) false e) [
      | inl is ↦ ap Some (eqb-true p q is)
      | inr never ↦ absurd (false≢true never)
    ]

option_has : (o : Option ℕ) (q : ℕ) → o ≡ Some q → has_place (option_to_list o) q ≡ true
option_has o q e = subst (λ o. has_place (option_to_list o) q ≡ true) (sym e) (or_left (eqb q q) false (eq-eqb q q refl))

pub has_first : (p : ℕ) (places : List ℕ) → has_place (p ∷ places) p ≡ true
has_first p places = or_left (eqb p p) (has_place places p) (eq-eqb p p refl)

module _ (front old new back : List Insn) (old_leads : leads_last old ≡ true) (new_leads : leads_last new ≡ true) where
  label_moved : (uid q : ℕ) → has_place (label_places (front ++ (old ++ back)) uid) q ≡ true →
      (r : ℕ) × IsMoved (length front) (length old) (length new) q r × (has_place (label_places (front ++ (new ++ back)) uid) r ≡ true)
  label_moved uid q h =
      let moved = first_moved (is_label uid) front old new back q (labels_none old uid old_leads) (labels_none new uid new_leads) (has_option (place_of uid (front ++ (old ++ back))) q h) in
      (moved.0, moved.1, option_has (place_of uid (front ++ (new ++ back))) moved.0 moved.2)

  -- a flow leads to the next place, or to a place that moved
  pub flow_moved : (flow : Flow) (next there q : ℕ) → has_place (flows_to (front ++ (old ++ back)) next flow) q ≡ true →
      ((q ≡ next) × (has_place (flows_to (front ++ (new ++ back)) there flow) there ≡ true)) ⊎
      ((r : ℕ) × IsMoved (length front) (length old) (length new) q r × (has_place (flows_to (front ++ (new ++ back)) there flow) r ≡ true))
  flow_moved Falls next there q h =
      elim (or_cases (eqb next q) false h) [
        | inl is ↦ inl (sym (eqb-true next q is), has_first there [])
        | inr never ↦ absurd (false≢true never)
      ]
  flow_moved (Goes uid) next there q h = inr (label_moved uid q h)
  flow_moved (Branches uid) next there q h =
      elim (or_cases (eqb next q) (has_place (label_places (front ++ (old ++ back)) uid) q) h) [
        | inl is ↦ inl (sym (eqb-true next q is), has_first there (label_places (front ++ (new ++ back)) uid))
        | inr label ↦
            let moved = label_moved uid q label in
            inr (moved.0, moved.1, or_right (eqb there moved.0) (has_place (label_places (front ++ (new ++ back)) uid) moved.0) moved.2)
      ]
  flow_moved Stops next there q h = absurd (false≢true h)
