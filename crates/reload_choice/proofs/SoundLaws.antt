-- A plan of an alternative is sound: each fact is one of the tests that the alternative has passed,
-- or stands by how its parts are made.
use Rattle.std.proofs.Common.{◌≡◌, ℕ, ◌≤◌, Bool, true, false, List, length, Some, None, slice_get, refl, subst}
use Rattle.std.specs.Prelude.{if◌then◌else◌}
use Rattle.std.proofs.lemmas.Option.{same_Some}
use Rattle.md_forms.specs.declared.form.OperandConstraint.{OperandConstraint}
use Rattle.md_forms.specs.declared.form.Entry.{Entry}
use Rattle.reload_fit.specs.md_desc.md_attr.Values.{is_enabled}
use Rattle.reload_operands.specs.declared.operand.Operand.{Operand}
use Rattle.reload_moves.specs.declared.part.Part.{Part}
use Rattle.reload_moves.specs.Moved.{parts_of}
use Rattle.reload_moves.specs.Registers.{asks_of, is_result}
use Rattle.reload_fit.specs.Fitting.{Asks, asks_by, constraints_of, fittings_of}
use Rattle.reload_choice.specs.declared.given.Given.{Given}
use Rattle.reload_choice.specs.declared.given.Plan.{Plan}
use Rattle.reload_choice.specs.Movable.{formed_of, may_end, is_clear, part_may_end, is_reachable}
use Rattle.reload_choice.specs.Choice.{plan_with, plan_if, plan_by, plan_at}
use Rattle.reload_choice.specs.Sound.{IsSoundPlan}
use Rattle.reload_moves.proofs.AskLaws.{at_most, at_first, are_apart}
use Rattle.reload_choice.proofs.PartLaws.{parts_cover, part_in_order, part_says, parts_together, parts_kept}
use Rattle.reload_choice.proofs.ReachedLaws.{CanBeReplaced, second_of, few, shared, replaced, well, stays_whole}

-- an alternative can be reached
abbrev IsReached : Asks → Given → Type 0
IsReached asks given =
    is_reachable asks given.operands given (fittings_of asks given.operands) (formed_of given)
    (parts_of (fittings_of asks given.operands)) ≡ true

module _ (asks : Asks) (given : Given) (reached : IsReached asks given) where
  abbrev parts_here : List Part
  parts_here = parts_of (fittings_of asks given.operands)

  moves_well : (i : ℕ) (p : Part) (x : Operand) → slice_get parts_here i ≡ Some p →
      slice_get given.operands p.place ≡ Some x → p.is_moved ≡ true → CanBeReplaced given x
  moves_well i p x at of moved =
      replaced asks given (fittings_of asks given.operands) parts_here reached i p x at of moved

  stays_well : (i : ℕ) (p : Part) (x : Operand) → slice_get parts_here i ≡ Some p →
      slice_get given.operands p.place ≡ Some x →
      (is_clear p x ≡ true) × (part_may_end given p x ≡ true)
  stays_well i p x at of =
      well asks given (fittings_of asks given.operands) parts_here reached i p x at of

  few_ask : length (asks_of parts_here) ≤ 4
  few_ask = few asks given (fittings_of asks given.operands) parts_here reached

  sound_parts : (cost : ℕ) → IsSoundPlan given (record { cost = cost; parts = parts_here })
  sound_parts cost = record {
    covers = parts_cover asks given.operands;
    in_order = λ i p at. part_in_order asks given.operands i p at;
    says = λ i p x of_p. part_says asks given.operands i p x of_p.stands of_p.of;
    together = λ i j p q x y of_p of_q one. parts_together asks given.operands i j p q of_p.stands
        of_q.stands one;
    kept = λ i j p q x y of_p of_q one stays. parts_kept asks given.operands i j p q x y of_p.stands
        of_p.of of_q.stands of_q.of one stays;
    few = few_ask;
    least = λ a asked. at_first (asks_of parts_here) a;
    greatest = λ a asked. at_most (asks_of parts_here) a few_ask asked;
    apart = λ a b asked_a asked_b same. are_apart (asks_of parts_here) a b asked_a asked_b same;
    shared = λ i j p q x y of_p of_q shares. shared asks given (fittings_of asks given.operands)
        parts_here reached i j p q x y of_p.stands of_p.of of_q.stands of_q.of shares;
    operator = λ i p x of_p moved. (moves_well i p x of_p.stands of_p.of moved).no_operator;
    shown = λ i p x of_p moved. (moves_well i p x of_p.stands of_p.of moved).not_hidden;
    moded = λ i p x of_p moved. (moves_well i p x of_p.stands of_p.of moved).has_mode;
    whole = stays_whole asks given (fittings_of asks given.operands) parts_here reached;
    formed = λ i p x of_p moved. (moves_well i p x of_p.stands of_p.of moved).well_formed;
    results = λ i p x of_p result. second_of (is_result p) (may_end given x)
        (stays_well i p x of_p.stands of_p.of).1 result;
    moved_clear = λ i p x of_p moved. (moves_well i p x of_p.stands of_p.of moved).no_lowpart;
    clear = λ i p x of_p. (stays_well i p x of_p.stands of_p.of).0;
  }

sound_if : (asks : Asks) (given : Given) (constraints : List OperandConstraint) (alternative : ℕ)
    (t : Bool) (plan : Plan) →
    is_reachable asks given.operands given (fittings_of asks given.operands) (formed_of given)
    (parts_of (fittings_of asks given.operands)) ≡ t →
    plan_if t constraints alternative (parts_of (fittings_of asks given.operands)) ≡ Some plan →
    IsSoundPlan given plan
sound_if asks given constraints alternative true plan reached is =
    let made = plan_with constraints alternative (parts_of (fittings_of asks given.operands)) in
    subst (IsSoundPlan given) (same_Some made plan is) (sound_parts asks given reached made.cost)
sound_if asks given constraints alternative false plan reached is =
    absurd (let never : ⊥ = cc in never)

sound_by : (asks : Asks) (given : Given) (constraints : List OperandConstraint) (alternative : ℕ)
    (plan : Plan) →
    plan_by asks constraints given.operands given (formed_of given) alternative ≡ Some plan →
    IsSoundPlan given plan
sound_by asks given constraints alternative plan is =
    sound_if asks given constraints alternative
    (is_reachable asks given.operands given (fittings_of asks given.operands) (formed_of given)
    (parts_of (fittings_of asks given.operands)))
    plan refl is

-- the plan of an alternative is sound
pub sound_at : (forms : List Entry) (form : ℕ) (given : Given) (alternative : ℕ) (plan : Plan) →
    plan_at forms form given alternative ≡ Some plan → IsSoundPlan given plan
sound_at forms form given alternative plan is = split (is_enabled forms form alternative) is
  where
    asks : Asks
    asks = asks_by forms form (constraints_of forms form) alternative

    split : (t : Bool) → (if t then plan_by asks (constraints_of forms form) given.operands given
        (formed_of given) alternative else None) ≡ Some plan → IsSoundPlan given plan
    split true is = sound_by asks given (constraints_of forms form) alternative plan is
    split false is = absurd (let never : ⊥ = cc in never)
