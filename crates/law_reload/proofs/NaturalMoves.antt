-- The registers of moves have natural numbers, and so do those of an instruction in which new trees
-- stand.
use Rattle.std.proofs.Common.{◌≡◌, ℕ, suc, ◌+◌, ◌<◌, ◌≤◌, ◌^◌, ◌&&◌, cond, if◌then◌else◌, Bool, true, false, List, [], ◌∷◌, ◌++◌, map, length, Option, Some, None, refl, ap, ◌∙◌, arith}
use Rattle.std.specs.List.{list_all, position_from}
use Rattle.std.specs.Ordering.{int_eq}
use Rattle.std.specs.Prelude.{ℤ, pos, nat_lt, is_some, flat_map, slice_get, unwrap_or}
use Rattle.std.specs.Option.{option_map_or}
use Rattle.std.proofs.lemmas.Bool.{and_parts}
use Rattle.std.proofs.lemmas.Bool.Decides.{nat_tests}
use Rattle.rtx_tree.specs.Tree.{RtxHead, head_of, kids_of, tree_of, node_of, reg_of, const_of}
use Rattle.rtx_tree.specs.declared.code.Code.{Code}
use Rattle.rtx_tree.specs.declared.code.Code.TheVariants as code
use Rattle.rtx_tree.specs.declared.code.Mode.{Mode}
use Rattle.rtx_tree.specs.declared.code.Mode.TheVariants.{Void, DI}
use Rattle.rtx_tree.specs.declared.tree.Rtx.{Rtx}
use Rattle.rtx_tree.specs.declared.tree.Rtx.TheFolds.{fold_out-Rtx}
use Rattle.rtx_tree.proofs.Trees.{head_of-tree, kids_of-tree}
use Rattle.rv_regs.specs.Registers.{stack_pointer}
use Rattle.law_reload_moves.specs.sym_insns.Shape.{is_natural, natural_step, all_natural}
use Rattle.law_reload_moves.proofs.law_window_replaced.Trees.{natural_here}
use Rattle.law_reload_moves.specs.reload_operands.declared.operand.Base as operands
use Rattle.law_reload_moves.specs.reload_operands.declared.operand.Operand as operand
use Rattle.reload_moves.specs.declared.part.Part.{Part}
use Rattle.reload_moves.specs.declared.ask.Ask.{Ask}
use Rattle.reload_moves.specs.declared.ask.What.TheVariants.{Own, StayingFar, ResultFar}
use Rattle.reload_moves.specs.declared.moves.Move.{Move}
use Rattle.reload_moves.specs.declared.moves.Move.TheVariants.{Far, Base, In, Out}
use Rattle.reload_moves.specs.Registers.{asks_of, ask, base_ask, holds_base, is_result, register_for, same_ask}
use Rattle.reload_moves.specs.Moves.{own_of, base_of, far_of, end_far_of, far_to, base_load, base_moves, in_load, in_moves, far_moves, out_store, out_moves, turn_moves, moves_before, moves_after, loads_base, comes_in_first, stays_far_first}
use Rattle.law_reload_moves.specs.reload_fit.Addressed.{address_on, addressed_by, address_in, on_register, slot_offset, slot_far}
use Rattle.law_reload_moves.specs.reload_choice.Insns.{set_of, set_reg, far_sum, slot_address, base_insn, base_insns, reached, in_insn, out_insn, insns_at, insns_of, all_insns, insns_before, insns_after}
pub use Rattle.law_reload.proofs.KeepsVars.{both}

-- ---- trees

pub natural_tree : (h : RtxHead) (kids : List Rtx) → is_natural h.code h.number ≡ true →
    list_all all_natural kids ≡ true → all_natural (tree_of h kids) ≡ true
natural_tree h kids here all =
    fold_out-Rtx Bool natural_step (tree_of h kids) ∙
    ap (λ (j : RtxHead). is_natural j.code j.number && list_all (λ here. here)
    (map all_natural (kids_of (tree_of h kids)))) (head_of-tree h kids) ∙
    ap (λ b. b && list_all (λ here. here) (map all_natural (kids_of (tree_of h kids)))) here ∙
    ap (λ ks. list_all (λ here. here) (map all_natural ks)) (kids_of-tree h kids) ∙ each kids ∙ all
  where
    each : (ks : List Rtx) → list_all (λ here. here) (map all_natural ks) ≡ list_all all_natural ks
    each [] = refl
    each (k ∷ ks) = ap (λ rest. all_natural k && rest) (each ks)

abbrev pub IsSmall : ℕ → Type 0
IsSmall reg = reg < 2 ^ 63

pub reg_natural : (mode : Mode) (r : ℕ) → IsSmall r → all_natural (reg_of mode r) ≡ true
reg_natural mode r few =
    let test : nat_lt r (2 ^ 63) ≡ true = grind (arith, nat_tests, few) in
    natural_tree (record { code = code.Reg; mode = mode; number = pos r; name = [] }) [] test refl

pub const_natural : (n : ℤ) → all_natural (const_of n) ≡ true
const_natural n = natural_tree (record { code = code.ConstInt; mode = Void; number = n; name = [] })
    [] refl refl

pair : (a b : Rtx) → all_natural a ≡ true → all_natural b ≡ true →
    list_all all_natural (a ∷ b ∷ []) ≡ true
pair a b is more = both (all_natural a) _ is (both (all_natural b) true more refl)

pub sum_natural : (a b : Rtx) → all_natural a ≡ true → all_natural b ≡ true →
    all_natural (node_of code.Plus DI (a ∷ b ∷ [])) ≡ true
sum_natural a b is more = natural_tree (record {
  code = code.Plus;
  mode = DI;
  number = pos 0;
  name =
      [];
}) (a ∷ b ∷ []) refl (pair a b is more)

pub set_natural : (a b : Rtx) → all_natural a ≡ true → all_natural b ≡ true →
    all_natural (set_of a b) ≡ true
set_natural a b is more = natural_tree (record {
  code = code.Set;
  mode = Void;
  number = pos 0;
  name = [];
}) (a ∷ b ∷ []) refl (pair a b is more)

-- ---- addresses

on_by : (reg : ℕ) (n : ℤ) (b : Bool) → IsSmall reg →
    all_natural (if b then reg_of DI reg else node_of code.Plus DI
    (reg_of DI reg ∷ const_of n ∷ [])) ≡ true
on_by reg n true few = reg_natural DI reg few
on_by reg n false few = sum_natural (reg_of DI reg) (const_of n) (reg_natural DI reg few)
    (const_natural n)

on_natural : (reg : ℕ) (n : ℤ) → IsSmall reg → all_natural (address_on reg n) ≡ true
on_natural reg n few = on_by reg n (int_eq n (pos 0)) few

in_natural : (reg : ℕ) (base : Option operands.Base) → IsSmall reg →
    all_natural (address_in reg base) ≡ true
in_natural reg None few = reg_natural DI reg few
in_natural reg (Some b) few = on_natural reg b.added few

addressed_natural : (c : Code) (address x : Rtx) → (head_of x).code ≡ c →
    all_natural address ≡ true → all_natural x ≡ true →
    all_natural (addressed_by c address x) ≡ true
addressed_natural code.Mem address x is there natural =
    natural_tree (head_of x) (address ∷ []) (natural_here x natural)
    (both (all_natural address) true there refl)
addressed_natural _ address x is there natural = there

pub register_natural : (reg : ℕ) (x : operand.Operand) → IsSmall reg → all_natural x.tree ≡ true →
    all_natural (on_register reg x) ≡ true
register_natural reg x few natural =
    addressed_natural (head_of x.tree).code (address_in reg x.base) x.tree refl
    (in_natural reg x.base few) natural

-- ---- the registers of moves

position_small : {A : Type 0} (p : A → Bool) (n d : ℕ) (xs : List A) →
    unwrap_or (position_from p n xs) d ≤ n + length xs + d
position_small p n d [] = omega arith
position_small p n d (x ∷ xs) = by (p x) (position_small p (n + 1) d xs)
  where
    by : (b : Bool) → unwrap_or (position_from p (n + 1) xs) d ≤ n + 1 + length xs + d →
        unwrap_or (cond b (Some n) (position_from p (n + 1) xs)) d ≤ n + suc (length xs) + d
    by true later = omega arith
    by false later = omega (arith, later)

pub small_for : (asks : List Ask) (a : Ask) → length asks ≤ 4 → IsSmall (register_for asks a)
small_for asks a few = let most = position_small (same_ask a) 0 4 asks in omega (arith, most, few)

-- ---- moves

abbrev SmallOption : Option ℕ → Type 0
SmallOption None = Unit {0}
SmallOption (Some reg) = IsSmall reg

abbrev SmallMove : Move → Type 0
SmallMove (Far into offset) = IsSmall into
SmallMove (Base into place) = IsSmall into
SmallMove (In into place base) = IsSmall into × SmallOption base
SmallMove (Out from place base) = IsSmall from × SmallOption base

abbrev AllSmall : List Move → Type 0
AllSmall [] = Unit {0}
AllSmall (m ∷ ms) = SmallMove m × AllSmall ms

small_both : (ms ns : List Move) → AllSmall ms → AllSmall ns → AllSmall (ms ++ ns)
small_both [] ns small more = more
small_both (m ∷ ms) ns small more = (small.0, small_both ms ns small.1 more)

small_flat : (f : Part → List Move) (ps : List Part) → ((p : Part) → AllSmall (f p)) →
    AllSmall (flat_map f ps)
small_flat f [] each = tt
small_flat f (p ∷ ps) each = small_both (f p) (flat_map f ps) (each p) (small_flat f ps each)

far_small : (into : ℕ) (o : Option ℤ) → IsSmall into → AllSmall (far_to into o)
far_small into None few = tt
far_small into (Some n) few = (few, tt)

if_small : (b : Bool) (ms : List Move) → AllSmall ms → AllSmall (if b then ms else [])
if_small true ms small = small
if_small false ms small = tt

option_small : (far based : Bool) (a b : ℕ) → IsSmall a → IsSmall b →
    SmallOption (if far then Some a else (if based then Some b else None))
option_small true based a b few more = few
option_small false true a b few more = more
option_small false false a b few more = tt

module _ (asks : List Ask) (few : length asks ≤ 4) where
  pub own_small : (p : Part) → IsSmall (own_of asks p)
  own_small p = small_for asks (ask Own p.holder) few

  pub staying_small : (p : Part) → IsSmall (far_of asks p)
  staying_small p = small_for asks (ask StayingFar p.holder) few

  ending_small : (p : Part) → IsSmall (end_far_of asks p)
  ending_small p = small_for asks (ask ResultFar p.place) few

  base_by : (p : Part) (b : Bool) → IsSmall (if b then register_for asks (base_ask p) else own_of
      asks p)
  base_by p true = small_for asks (base_ask p) few
  base_by p false = own_small p

  pub base_small : (p : Part) → IsSmall (base_of asks p)
  base_small p = base_by p (holds_base p)

  before_small : (parts : List Part) → AllSmall (moves_before asks parts)
  before_small parts = small_both (flat_map (turn_moves asks parts) parts)
      (flat_map (far_moves asks parts) parts)
      (small_flat (turn_moves asks parts) parts (λ p. small_both (base_moves asks parts p)
      (in_moves asks parts p)
      (if_small (loads_base parts p) (base_load asks p)
      (small_both (far_to (base_of asks p) p.needs.slot_far) _
      (far_small (base_of asks p) p.needs.slot_far (base_small p)) (base_small p, tt)))
      (if_small (comes_in_first parts p) (in_load asks p)
      (small_both (far_to (own_of asks p) p.needs.far) _
      (far_small (own_of asks p) p.needs.far (own_small p)) (
        (
          own_small p,
          option_small (is_some p.needs.far) p.needs.has_base (own_of asks p)
              (base_of asks p) (own_small p) (base_small p),
        ),
        tt,
      )))))
      (small_flat (far_moves asks parts) parts (λ p. if_small (stays_far_first parts p)
      (far_to (far_of asks p) p.needs.far)
      (far_small (far_of asks p) p.needs.far (staying_small p))))

  after_small : (parts : List Part) → AllSmall (moves_after asks parts)
  after_small parts = small_flat (out_moves asks) parts (λ p.
      if_small (is_result p) (out_store asks p)
      (small_both (far_to (end_far_of asks p) p.needs.far) _
      (far_small (end_far_of asks p) p.needs.far (ending_small p)) (
        (
          own_small p,
          option_small (is_some p.needs.far) p.needs.has_base (end_far_of asks p)
              (base_of asks p) (ending_small p) (base_small p),
        ),
        tt,
      )))

-- ---- their instructions

-- the tree of each operand has natural numbers
abbrev pub OperandsNatural : List operand.Operand → Type 0
OperandsNatural xs = (i : ℕ) (x : operand.Operand) → slice_get xs i ≡ Some x →
    all_natural x.tree ≡ true

abbrev NaturalList : List Rtx → Type 0
NaturalList xs = list_all all_natural xs ≡ true

list_both : (xs ys : List Rtx) → NaturalList xs → NaturalList ys → NaturalList (xs ++ ys)
list_both [] ys natural more = more
list_both (x ∷ xs) ys natural more =
    let parts = and_parts (all_natural x) _ natural in both (all_natural x) _ parts.0
    (list_both xs ys parts.1 more)

set_reg_natural : (mode : Mode) (reg : ℕ) (source : Rtx) → IsSmall reg → all_natural source ≡ true →
    all_natural (set_reg mode reg source) ≡ true
set_reg_natural mode reg source few natural = set_natural (reg_of mode reg) source
    (reg_natural mode reg few) natural

sp_small : IsSmall stack_pointer
sp_small = omega arith

slot_by : (into : ℕ) (base : operands.Base) (b : Bool) → IsSmall into →
    all_natural (if b then reg_of DI into else address_on stack_pointer (slot_offset base)) ≡ true
slot_by into base true few = reg_natural DI into few
slot_by into base false few = on_natural stack_pointer (slot_offset base) sp_small

base_natural : (into : ℕ) (base : Option operands.Base) → IsSmall into →
    NaturalList (base_insns into base)
base_natural into None few = refl
base_natural into (Some base) few = both (all_natural (base_insn into base)) true
    (set_reg_natural DI into (node_of code.Mem DI (slot_address into base ∷ [])) few
    (natural_tree (record { code = code.Mem; mode = DI; number = pos 0; name = [] })
    (slot_address into base ∷ []) refl
    (both (all_natural (slot_address into base)) true (slot_by into base (is_some (slot_far base))
    few) refl))) refl

reached_natural : (base : Option ℕ) (x : operand.Operand) → SmallOption base →
    all_natural x.tree ≡ true → all_natural (reached base x) ≡ true
reached_natural None x small natural = natural
reached_natural (Some reg) x small natural = register_natural reg x small natural

insns_natural : (m : Move) (x : operand.Operand) → SmallMove m → all_natural x.tree ≡ true →
    NaturalList (insns_at m x)
insns_natural (Far into n) x small natural = refl
insns_natural (Base into place) x small natural = base_natural into x.base small
insns_natural (In into place base) x small natural = both (all_natural (in_insn into base x)) true
    (set_reg_natural x.mode into (reached base x) small.0 (reached_natural base x small.1 natural))
    refl
insns_natural (Out from place base) x small natural = both (all_natural (out_insn from base x)) true
    (set_natural (reached base x) (reg_of x.mode from) (reached_natural base x small.1 natural)
    (reg_natural x.mode from small.0)) refl

module _ (xs : List operand.Operand) (naturals : OperandsNatural xs) where
  at_natural : (m : Move) (place : ℕ) (o : Option operand.Operand) → slice_get xs place ≡ o →
      SmallMove m →
      NaturalList (option_map_or (insns_at m) o [])
  at_natural m place None is small = refl
  at_natural m place (Some x) is small = insns_natural m x small (naturals place x is)

  move_natural : (m : Move) → SmallMove m → NaturalList (insns_of xs m)
  move_natural (Far into n) small = pair (set_reg DI into (const_of n))
      (set_reg DI into (far_sum into))
      (set_reg_natural DI into (const_of n) small (const_natural n))
      (set_reg_natural DI into (far_sum into) small (sum_natural (reg_of DI into)
      (reg_of DI stack_pointer) (reg_natural DI into small)
      (reg_natural DI stack_pointer sp_small)))
  move_natural (Base into place) small = at_natural (Base into place) place (slice_get xs place)
      refl small
  move_natural (In into place base) small = at_natural (In into place base) place
      (slice_get xs place) refl small
  move_natural (Out from place base) small = at_natural (Out from place base) place
      (slice_get xs place) refl small

  moves_natural : (ms : List Move) → AllSmall ms → NaturalList (all_insns xs ms)
  moves_natural [] small = refl
  moves_natural (m ∷ ms) small = list_both (insns_of xs m) (all_insns xs ms)
      (move_natural m small.0) (moves_natural ms small.1)

  pub before_natural : (parts : List Part) → length (asks_of parts) ≤ 4 →
      list_all all_natural (insns_before xs parts) ≡ true
  before_natural parts few = moves_natural (moves_before (asks_of parts) parts)
      (before_small (asks_of parts) few parts)

  pub after_natural : (parts : List Part) → length (asks_of parts) ≤ 4 →
      list_all all_natural (insns_after xs parts) ≡ true
  after_natural parts few = moves_natural (moves_after (asks_of parts) parts)
      (after_small (asks_of parts) few parts)
