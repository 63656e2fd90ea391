-- The moves of a plan name registers of the machine alone.
use Rattle.std.proofs.Common.{◌≡◌, ℕ, ◌≤◌, ◌&&◌, ◌||◌, not, if◌then◌else◌, Bool, true, false, List, [], ◌∷◌, ◌++◌, Option, Some, None, refl, arith}
use Rattle.std.specs.List.{AllByRecursion}
use Rattle.std.specs.Ordering.{int_eq}
use Rattle.std.specs.Prelude.{ℤ, pos, is_some, flat_map, slice_get}
use Rattle.std.specs.Option.{option_map_or}
use Rattle.std.proofs.lemmas.Bool.{false≢true, true≢false, and_parts, and_from}
use Rattle.rtx_tree.specs.Tree.{head_of, node_of, reg_of, const_of}
use Rattle.rtx_tree.specs.declared.code.Code.{Code}
use Rattle.rtx_tree.specs.declared.code.Code.TheVariants as code
use Rattle.rtx_tree.specs.declared.code.Mode.{Mode}
use Rattle.rtx_tree.specs.declared.code.Mode.TheVariants.{Void, DI}
use Rattle.rtx_tree.specs.declared.tree.Rtx.{Rtx}
use Rattle.rv_regs.specs.Registers.{stack_pointer}
use Rattle.law_reload_moves.specs.reload_operands.declared.operand.Base as operands
use Rattle.law_reload_moves.specs.reload_operands.declared.operand.Operand as operand
use Rattle.reload_moves.specs.declared.part.Part.{Part}
use Rattle.reload_moves.specs.declared.ask.Ask.{Ask}
use Rattle.reload_moves.specs.declared.ask.What.TheVariants.{Own, StayingFar, ResultFar}
use Rattle.reload_moves.specs.declared.moves.Move.{Move}
use Rattle.reload_moves.specs.declared.moves.Move.TheVariants.{Far, Base, In, Out}
use Rattle.reload_moves.specs.Registers.{asks_of, ask, is_asked, base_ask, holds_base, is_result, stays_far, register_for}
use Rattle.reload_moves.specs.Moves.{own_of, base_of, far_of, end_far_of, far_to, base_load, base_moves, in_load, in_moves, far_moves, out_store, out_moves, turn_moves, moves_before, moves_after, loads_base, comes_in, comes_in_first, stays_far_first}
use Rattle.reload_moves.proofs.AskLaws.{own_asked, base_asked, far_asked, end_far_asked}
use Rattle.law_reload_moves.specs.reload_fit.Addressed.{address_on, addressed_by, address_in, on_register, slot_offset, slot_far}
use Rattle.law_reload_moves.specs.reload_choice.Insns.{set_of, set_reg, far_sum, slot_address, base_insns, reached, insns_at, insns_of, all_insns, insns_before, insns_after}
use Rattle.reload.proofs.law_pass_needs.Places.{all_at}
use Rattle.law_emitted_hard.specs.Hard.{IsHard, AreHard}
use Rattle.law_emitted_hard.proofs.Trees.{all_hard, hard_tree, hard_here, reg_hard, const_hard, node_hard, pair_hard}

abbrev pub IsFew : ℕ → Type 0
IsFew reg = reg ≤ 31

-- ---- addresses

on_by : (reg : ℕ) (n : ℤ) (b : Bool) → IsFew reg → IsHard (if b then reg_of DI reg else node_of code.Plus DI (reg_of DI reg ∷ const_of n ∷ []))
on_by reg n true few = reg_hard DI reg few
on_by reg n false few = pair_hard code.Plus DI (reg_of DI reg) (const_of n) (reg_hard DI reg few) (const_hard n)

on_hard : (reg : ℕ) (n : ℤ) → IsFew reg → IsHard (address_on reg n)
on_hard reg n few = on_by reg n (int_eq n (pos 0)) few

in_hard : (reg : ℕ) (base : Option operands.Base) → IsFew reg → IsHard (address_in reg base)
in_hard reg None few = reg_hard DI reg few
in_hard reg (Some b) few = on_hard reg b.added few

addressed_hard : (c : Code) (address x : Rtx) → (head_of x).code ≡ c → IsHard address → IsHard x → IsHard (addressed_by c address x)
addressed_hard code.Mem address x is there hard = hard_tree (head_of x) (address ∷ []) (hard_here x hard) (there, tt)
addressed_hard _ address x is there hard = there

pub register_hard : (reg : ℕ) (x : operand.Operand) → IsFew reg → IsHard x.tree → IsHard (on_register reg x)
register_hard reg x few hard = addressed_hard (head_of x.tree).code (address_in reg x.base) x.tree refl (in_hard reg x.base few) hard

-- ---- moves

abbrev FewOption : Option ℕ → Type 0
FewOption None = Unit {0}
FewOption (Some reg) = IsFew reg

abbrev FewMove : Move → Type 0
FewMove (Far into offset) = IsFew into
FewMove (Base into place) = IsFew into
FewMove (In into place base) = IsFew into × FewOption base
FewMove (Out from place base) = IsFew from × FewOption base

abbrev AllFew : List Move → Type 0
AllFew [] = Unit {0}
AllFew (m ∷ ms) = FewMove m × AllFew ms

few_both : (ms ns : List Move) → AllFew ms → AllFew ns → AllFew (ms ++ ns)
few_both [] ns few more = more
few_both (m ∷ ms) ns few more = (few.0, few_both ms ns few.1 more)

few_flat : (P : Part → Type 0) (f : Part → List Move) (ps : List Part) → ((p : Part) → P p → AllFew (f p)) → AllByRecursion P ps → AllFew (flat_map f ps)
few_flat P f [] each all = tt
few_flat P f (p ∷ ps) each all = few_both (f p) (flat_map f ps) (each p all.0) (few_flat P f ps each all.1)

far_few : (into : ℕ) (o : Option ℤ) → (is_some o ≡ true → IsFew into) → AllFew (far_to into o)
far_few into None few = tt
far_few into (Some n) few = (few refl, tt)

if_few : (b : Bool) (ms : List Move) → (b ≡ true → AllFew ms) → AllFew (if b then ms else [])
if_few true ms few = few refl
if_few false ms few = tt

option_few : (far based : Bool) (a b : ℕ) → (far ≡ true → IsFew a) → (based ≡ true → IsFew b) →
    FewOption (if far then Some a else (if based then Some b else None))
option_few true based a b few more = few refl
option_few false true a b few more = more refl
option_few false false a b few more = tt

-- what has a base, and does not hold it, is moved
moved_if : (has moved out : Bool) → has ≡ true → (has && (not moved || out)) ≡ false → moved ≡ true
moved_if true true out is none = refl
moved_if true false out is none = absurd (true≢false none)
moved_if false moved out is none = absurd (false≢true is)

module _ (parts : List Part) (most : (a : Ask) → is_asked (asks_of parts) a ≡ true → register_for (asks_of parts) a ≤ 31) where
  abbrev asks : List Ask
  asks = asks_of parts

  abbrev pub IsOne : Part → Type 0
  IsOne p = (i : ℕ) × (slice_get parts i ≡ Some p)

  pub all_one : AllByRecursion IsOne parts
  all_one = all_at IsOne parts (λ i p at. (i, at))

  pub own_few : (p : Part) → IsOne p → p.is_moved ≡ true → IsFew (own_of asks p)
  own_few p one moved = most (ask Own p.holder) (own_asked parts one.0 p one.1 moved)

  pub staying_few : (p : Part) → IsOne p → stays_far p ≡ true → IsFew (far_of asks p)
  staying_few p one stays = most (ask StayingFar p.holder) (far_asked parts one.0 p one.1 stays)

  ending_few : (p : Part) → IsOne p → is_result p ≡ true → is_some p.needs.far ≡ true → IsFew (end_far_of asks p)
  ending_few p one result far = most (ask ResultFar p.place) (end_far_asked parts one.0 p one.1 (and_from (is_result p) (is_some p.needs.far) result far))

  pub base_few : (p : Part) → IsOne p → p.needs.has_base ≡ true → IsFew (base_of asks p)
  base_few p one has = by (holds_base p) refl
    where
      by : (b : Bool) → holds_base p ≡ b → IsFew (if b then register_for asks (base_ask p) else own_of asks p)
      by true holds = most (base_ask p) (base_asked parts one.0 p one.1 holds)
      by false none = own_few p one (moved_if p.needs.has_base p.is_moved p.needs.is_output has none)

  based_few : (p : Part) → IsOne p → AllFew (base_moves asks parts p)
  based_few p one = if_few (loads_base parts p) (base_load asks p) (λ loads.
      let few = base_few p one (and_parts p.needs.has_base _ loads).0 in
      few_both (far_to (base_of asks p) p.needs.slot_far) (Base (base_of asks p) p.place ∷ []) (far_few (base_of asks p) p.needs.slot_far (λ far. few)) (few, tt))

  input_few : (p : Part) → IsOne p → AllFew (in_moves asks parts p)
  input_few p one = if_few (comes_in_first parts p) (in_load asks p) (λ comes.
      let few = own_few p one (and_parts p.is_moved p.needs.is_input (and_parts (comes_in p) _ comes).0).0 in
      few_both (far_to (own_of asks p) p.needs.far) _ (far_few (own_of asks p) p.needs.far (λ far. few)) (
        (few, option_few (is_some p.needs.far) p.needs.has_base (own_of asks p) (base_of asks p) (λ far. few) (base_few p one)),
        tt,
      ))

  stays_few : (p : Part) → IsOne p → AllFew (far_moves asks parts p)
  stays_few p one = if_few (stays_far_first parts p) (far_to (far_of asks p) p.needs.far) (λ first.
      far_few (far_of asks p) p.needs.far (λ far. staying_few p one (and_parts (stays_far p) _ first).0))

  result_few : (p : Part) → IsOne p → AllFew (out_moves asks p)
  result_few p one = if_few (is_result p) (out_store asks p) (λ result.
      let few = own_few p one (and_parts p.is_moved p.needs.is_output result).0 in
      few_both (far_to (end_far_of asks p) p.needs.far) _ (far_few (end_far_of asks p) p.needs.far (ending_few p one result)) (
        (few, option_few (is_some p.needs.far) p.needs.has_base (end_far_of asks p) (base_of asks p) (ending_few p one result) (base_few p one)),
        tt,
      ))

  before_few : AllFew (moves_before asks parts)
  before_few = few_both (flat_map (turn_moves asks parts) parts) (flat_map (far_moves asks parts) parts)
      (few_flat IsOne (turn_moves asks parts) parts (λ p one. few_both (base_moves asks parts p) (in_moves asks parts p) (based_few p one) (input_few p one)) all_one)
      (few_flat IsOne (far_moves asks parts) parts stays_few all_one)

  after_few : AllFew (moves_after asks parts)
  after_few = few_flat IsOne (out_moves asks) parts result_few all_one

-- ---- their instructions

-- the tree of each operand names registers of the machine alone
abbrev pub OperandsAreHard : List operand.Operand → Type 0
OperandsAreHard xs = (i : ℕ) (x : operand.Operand) → slice_get xs i ≡ Some x → IsHard x.tree

set_of_hard : (a b : Rtx) → IsHard a → IsHard b → IsHard (set_of a b)
set_of_hard a b is more = pair_hard code.Set Void a b is more

set_reg_hard : (mode : Mode) (reg : ℕ) (source : Rtx) → IsFew reg → IsHard source → IsHard (set_reg mode reg source)
set_reg_hard mode reg source few hard = set_of_hard (reg_of mode reg) source (reg_hard mode reg few) hard

sp_few : IsFew stack_pointer
sp_few = omega arith

slot_by : (into : ℕ) (base : operands.Base) (b : Bool) → IsFew into → IsHard (if b then reg_of DI into else address_on stack_pointer (slot_offset base))
slot_by into base true few = reg_hard DI into few
slot_by into base false few = on_hard stack_pointer (slot_offset base) sp_few

base_hard : (into : ℕ) (base : Option operands.Base) → IsFew into → AreHard (base_insns into base)
base_hard into None few = tt
base_hard into (Some base) few = (
  set_reg_hard DI into (node_of code.Mem DI (slot_address into base ∷ [])) few
      (node_hard code.Mem DI (slot_address into base ∷ []) (slot_by into base (is_some (slot_far base)) few, tt)),
  tt,
)

reached_hard : (base : Option ℕ) (x : operand.Operand) → FewOption base → IsHard x.tree → IsHard (reached base x)
reached_hard None x few hard = hard
reached_hard (Some reg) x few hard = register_hard reg x few hard

insns_hard : (m : Move) (x : operand.Operand) → FewMove m → IsHard x.tree → AreHard (insns_at m x)
insns_hard (Far into n) x few hard = tt
insns_hard (Base into place) x few hard = base_hard into x.base few
insns_hard (In into place base) x few hard = (set_reg_hard x.mode into (reached base x) few.0 (reached_hard base x few.1 hard), tt)
insns_hard (Out from place base) x few hard =
    (set_of_hard (reached base x) (reg_of x.mode from) (reached_hard base x few.1 hard) (reg_hard x.mode from few.0), tt)

module _ (xs : List operand.Operand) (operands_hard : OperandsAreHard xs) where
  at_hard : (m : Move) (place : ℕ) (o : Option operand.Operand) → slice_get xs place ≡ o → FewMove m → AreHard (option_map_or (insns_at m) o [])
  at_hard m place None is few = tt
  at_hard m place (Some x) is few = insns_hard m x few (operands_hard place x is)

  move_hard : (m : Move) → FewMove m → AreHard (insns_of xs m)
  move_hard (Far into n) few = (
    set_reg_hard DI into (const_of n) few (const_hard n),
    (
      set_reg_hard DI into (far_sum into) few (pair_hard code.Plus DI (reg_of DI into) (reg_of DI stack_pointer) (reg_hard DI into few) (reg_hard DI stack_pointer sp_few)),
      tt,
    ),
  )
  move_hard (Base into place) few = at_hard (Base into place) place (slice_get xs place) refl few
  move_hard (In into place base) few = at_hard (In into place base) place (slice_get xs place) refl few
  move_hard (Out from place base) few = at_hard (Out from place base) place (slice_get xs place) refl few

  moves_hard : (ms : List Move) → AllFew ms → AreHard (all_insns xs ms)
  moves_hard [] few = tt
  moves_hard (m ∷ ms) few = all_hard (insns_of xs m) (all_insns xs ms) (move_hard m few.0) (moves_hard ms few.1)

  module _ (parts : List Part) (most : (a : Ask) → is_asked (asks_of parts) a ≡ true → register_for (asks_of parts) a ≤ 31) where
    pub before_hard : AreHard (insns_before xs parts)
    before_hard = moves_hard (moves_before (asks_of parts) parts) (before_few parts most)

    pub after_hard : AreHard (insns_after xs parts)
    after_hard = moves_hard (moves_after (asks_of parts) parts) (after_few parts most)
