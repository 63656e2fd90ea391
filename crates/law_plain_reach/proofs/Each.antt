-- What is asked of one operand: that it shares a register with itself alone, and may be moved.
use Rattle.std.proofs.Common.{◌≡◌, ℕ, Bool, true, false, not, ◌&&◌, ◌||◌, ◌==◌, List, Some, refl, ap, ◌∙◌}
use Rattle.std.specs.Prelude.{slice_get}
use Rattle.std.specs.Option.{option_map_or}
use Rattle.rtx_tree.specs.declared.function.Kind.TheVariants.{Plain}
use Rattle.c_eval.specs.Value.{same_mode, same_tree}
use Rattle.reload_operands.specs.declared.operand.Operand.{Operand}
use Rattle.reload_operands.specs.declared.whole.Whole.{Whole}
use Rattle.reload_moves.specs.declared.fitting.Fitting.{Fitting}
use Rattle.reload_moves.specs.declared.fitting.Needs.{Needs}
use Rattle.reload_moves.specs.declared.part.Part.{Part}
use Rattle.reload_moves.specs.Moved.{is_marked, led_from}
use Rattle.reload_moves.specs.Registers.{is_result}
use Rattle.reload_fit.specs.Fitting.{Asks}
use Rattle.reload_fit.specs.Taken.{takes, takes_register}
use Rattle.reload_choice.specs.declared.given.Given.{Given}
use Rattle.reload_choice.specs.Movable.{is_mode, may_land, may_have_results, may_end, may_share, at_both, share, shares_well, part_may_end, part_at_is_good, part_is_good, can_be_replaced, may_move, part_may_move}
use Rattle.law_plain_untied.proofs.Parts.{part, settled}
use Rattle.law_plain_known.proofs.Plainly.{Told, plainly}
use Rattle.law_plain_reach.proofs.Tests.{both_true, first_true, second_true, or_not, not_false}

-- ---- it shares with itself alone

-- two parts with other holders
pub apart : (operands : List Operand) (p q : Part) → (p.holder == q.holder) ≡ false → shares_well operands p q ≡ true
apart operands p q other = go p.is_moved q.is_moved
  where
    go : (a b : Bool) → (not (a && (b && (p.holder == q.holder))) || at_both operands p.place q.place may_share) ≡ true
    go false b = refl
    go true false = refl
    go true true = or_not (p.holder == q.holder) (at_both operands p.place q.place may_share) other

-- one with itself
pub with_itself : (operands : List Operand) (p : Part) (x : Operand) → slice_get operands p.place ≡ Some x → may_share x x ≡ true → shares_well operands p p ≡ true
with_itself operands p x at is =
    second_true (not (share p p)) (at_both operands p.place p.place may_share)
    (ap (λ o. option_map_or (λ x. option_map_or (may_share x) o false) o false) at ∙ is)

-- what it is moved as is the same as itself
abbrev pub IsSelf : Operand → Type 0
IsSelf x = may_share x x ≡ true

self_as : (input output tree mode : Bool) → tree ≡ true → mode ≡ true → ((not (input && input) || (tree && mode)) && ((not (output && output) || tree) && (not output || not (false || false)))) ≡ true
self_as input output false mode one other = cc
self_as input output true false one other = cc
self_as true true true true one other = refl
self_as true false true true one other = refl
self_as false true true true one other = refl
self_as false false true true one other = refl

pub plain_self : (k : ℕ) (t : Told) → same_tree t.tree t.tree ≡ true → same_mode t.mode t.mode ≡ true → IsSelf (plainly k t)
plain_self k t tree mode = self_as t.is_input t.is_output (same_tree t.tree t.tree) (same_mode t.mode t.mode) tree mode

-- ---- it is good: none is in a low part, and a result that is moved lives in a slot

pub input_good : (given : Given) (place k : ℕ) (moved : Bool) (n : Needs) (t : Told) → slice_get given.operands place ≡ Some (plainly k t) → n.is_output ≡ false → part_is_good given (part place (settled moved) n) ≡ true
input_good given place k moved n t at input =
    ap (λ o. option_map_or (part_at_is_good given (part place (settled moved) n)) o false) at ∙ or_not (is_result (part place (settled moved) n)) (may_end given (plainly k t)) (no_result moved n.is_output input)
  where
    no_result : (b output : Bool) → output ≡ false → ((part place (settled b) n).is_moved && output) ≡ false
    no_result true output is = is
    no_result false output is = refl

-- the instruction changes no register twice
pub record IsOnce (w : Whole) : Type 0 where
  pub before : w.twice_before ≡ false
  pub after : w.twice_after ≡ false

may_have : (w : Whole) → IsOnce w → may_have_results Plain w ≡ true
may_have w once = both_true (not w.twice_before) (not w.twice_after) (not_false w.twice_before once.before) (not_false w.twice_after once.after)

pub result_good : (given : Given) (place k : ℕ) (moved : Bool) (n : Needs) (t : Told) → slice_get given.operands place ≡ Some (plainly k t) → given.kind ≡ Plain → IsOnce given.whole → (moved ≡ true → t.in_slot ≡ true) →
    part_is_good given (part place (settled moved) n) ≡ true
result_good given place k moved n t at kind once slot =
    ap (λ o. option_map_or (part_at_is_good given (part place (settled moved) n)) o false) at ∙ by_moved moved slot
  where
    ends : t.in_slot ≡ true → may_end given (plainly k t) ≡ true
    ends is =
        both_true (may_have_results given.kind given.whole) (may_land (plainly k t)) (ap (λ kind. may_have_results kind given.whole) kind ∙ may_have given.whole once)
        (first_true t.in_slot _ is)

    by_moved : (b : Bool) → (b ≡ true → t.in_slot ≡ true) → part_may_end given (part place (settled b) n) (plainly k t) ≡ true
    by_moved true slot = second_true (not (is_result (part place (settled true) n))) (may_end given (plainly k t)) (ends (slot refl))
    by_moved false slot = refl

-- ---- it may be moved

module _ (asks : Asks) (operands : List Operand) (fits : List Fitting) (formed : List Bool) (place k : ℕ) (t : Told) where
  -- by what takes one of t3 to t6, and by whether the instruction can have a register there
  pub record MayMove : Type 0 where
    pub at : slice_get operands place ≡ Some (plainly k t)
    pub no_operator : t.is_operator ≡ false
    pub moded : is_mode t.mode ≡ true
    pub replaced : is_marked formed place ≡ true
    pub taken : takes asks operands fits (led_from fits place) t.mode 28 ≡ true

  takes_any : MayMove → takes_register asks operands fits place t.mode ≡ true
  takes_any m = first_true (takes asks operands fits (led_from fits place) t.mode 28) _ m.taken

  replaces : MayMove → can_be_replaced formed place (plainly k t) ≡ true
  replaces m =
      both_true (not t.is_operator) (is_mode t.mode && is_marked formed place) (not_false t.is_operator m.no_operator) (both_true (is_mode t.mode) (is_marked formed place) m.moded m.replaced)

  pub movable : (moved : Bool) (n : Needs) → (moved ≡ true → MayMove) → part_may_move asks operands fits formed (part place (settled moved) n) ≡ true
  movable false n may = refl
  movable true n may =
      let m = may refl in
      ap (λ o. option_map_or (may_move asks operands fits formed place) o false) m.at ∙
      both_true (can_be_replaced formed place (plainly k t)) (takes_register asks operands fits place t.mode) (replaces m) (takes_any m)
