-- A call with homes put in calls the same address, with the same arguments.
use Rattle.std.proofs.Common.{◌≡◌, ℕ, ◌<◌, ◌==◌, ◌&&◌, ◌⊎◌, Bool, true, false, List, [], ◌∷◌, map, Option, Some, None, refl, sym, ap, ◌∙◌, arith, eq-eqb}
use Rattle.std.proofs.lemmas.Bool.{false≢true, and_parts, or_left, or_right, eqb-true}
use Rattle.std.specs.Int.{cast_unsigned, w64}
use Rattle.std.specs.List.{list_all, list_any}
use Rattle.std.specs.Prelude.{ℤ, pos, negsuc, option_and_then, if◌then◌else◌}
use Rattle.bits64.specs.declared.Width.{Width}
use Rattle.bits64.specs.declared.Width.TheVariants.{W64}
use Rattle.rtx_tree.specs.Tree.{head_of, kids_of, tree_of, reg_of, mentions_reg}
use Rattle.rtx_tree.specs.declared.code.Code.{Code}
use Rattle.rtx_tree.specs.declared.code.Code.TheVariants.{Reg, Set, Call}
use Rattle.rtx_tree.specs.declared.function.ArgUse.{ArgUse}
use Rattle.rtx_tree.specs.declared.machine.RangeAt.{RangeAt}
use Rattle.rtx_tree.specs.declared.tree.Rtx.{Rtx, out-roll-Rtx}
use Rattle.rtx_tree.specs.declared.tree.Rtx.TheOpen.{Rtx-F}
use Rattle.run_memory.specs.RunMemory.{visible}
use Rattle.rtl_step.specs.Call.{target_by, target_of, is_result, is_result_by, call_by, call_part, result_width_by, result_width, arg_of, args_of, aligned_target, target_value, event_of}
use Rattle.rtl_step.specs.Effect.{address_of}
use Rattle.rtl_step.specs.Regs.{Regs, reg_value}
use Rattle.rtl_step.specs.Value.{width_of, value_of, of_two}
use Rattle.rtl_step.specs.declared.call.ArgValue.{ArgValue}
use Rattle.rtl_step.proofs.Too.{Too, too_then, too_map, too_two}
use Rattle.reg_uses.specs.Effects.{reads, place_reads, effect_uses, effect_uses_by, effects_by, pattern_uses}
use Rattle.reg_uses.specs.Uses.{has_argument}
use Rattle.assign.specs.declared.home.Home.TheVariants.{Hard}
use Rattle.assign.specs.declared.home.HomeOf.{HomeOf}
use Rattle.assign.specs.declared.places.Layout.{Layout}
use Rattle.reload_homes.specs.Homes.{home_of, place_by}
use Rattle.law_homes.specs.Placed.{is_sized, all_sized, placed}
use Rattle.law_homes.proofs.Becoming.{is_over, over, positive_test, is_reg, target_put, place_code, memory_address}
use Rattle.law_homes.proofs.Placing.{Machines, AreHomed, placed_stays}
use Rattle.law_homes.proofs.Trees.{sized_here, sized_kids, mentions_kid}

-- ---- arguments

module _ (regs others : Regs) where
  abbrev one_arg : ArgUse → ℕ → ArgValue
  one_arg arg value = record { reg = arg.reg; mode = arg.mode; value = value }

  arg_known : (reg : ℕ) (w : Option Width) → ((w : Width) → Too (reg_value regs reg w) (reg_value others reg w)) →
      Too (option_and_then (reg_value regs reg) w) (option_and_then (reg_value others reg) w)
  arg_known reg None known = λ v is. absurd (let no : ⊥ = cc in no)
  arg_known reg (Some w) known = known w

  -- each argument that is known is known in the other
  pub args_too : (uses : List ArgUse) → ((reg : ℕ) → has_argument reg uses ≡ true → (w : Width) → Too (reg_value regs reg w) (reg_value others reg w)) →
      Too (args_of regs uses) (args_of others uses)
  args_too [] known = λ v is. is
  args_too (arg ∷ uses) known =
      too_two (λ value args. Some (value ∷ args)) (arg_of regs arg) (arg_of others arg) (args_of regs uses) (args_of others uses)
      (too_map (one_arg arg) (option_and_then (reg_value regs arg.reg) (width_of arg.mode)) (option_and_then (reg_value others arg.reg) (width_of arg.mode))
      (arg_known arg.reg (width_of arg.mode) (known arg.reg (or_left (arg.reg == arg.reg) _ (eq-eqb arg.reg arg.reg refl)))))
      (args_too uses (λ reg has. known reg (or_right (arg.reg == reg) _ has)))

-- ---- the target of a call

-- a call, or a set of a0 to one
pub data IsCallTree (x : Rtx) : Rtx → Type 0 where
  alone : (head_of x).code ≡ Call → IsCallTree x x
  setting : (place source : Rtx) → (head_of x).code ≡ Set → kids_of x ≡ place ∷ source ∷ [] → is_result place ≡ true → IsCallTree x source

call_code : (c : Code) (kids : List Rtx) (t : Rtx) → target_by c kids ≡ Some t → (c ≡ Call) × (place : Rtx) × (size : Rtx) × (kids ≡ place ∷ size ∷ []) × (address_of place ≡ Some t)
call_code Call (place ∷ size ∷ []) t is = (refl, place, size, refl, is)
call_code _ kids t is = absurd (let no : ⊥ = cc in no)

call_tree_by : (c : Code) (kids : List Rtx) (x t : Rtx) → (head_of x).code ≡ c → kids_of x ≡ kids → target_of (call_by c kids x) ≡ Some t → IsCallTree x (call_by c kids x)
call_tree_by Set (place ∷ source ∷ []) x t is are_kids has = by (is_result place) refl has
  where
    by : (b : Bool) → is_result place ≡ b → target_of (if b then source else x) ≡ Some t → IsCallTree x (if b then source else x)
    by true result has = setting place source is are_kids result
    by false result has = absurd (let no : Set ≡ Call = sym is ∙ (call_code (head_of x).code (kids_of x) t has).0 in let never : ⊥ = cc in never)
call_tree_by _ kids x t is are_kids has = alone (call_code (head_of x).code (kids_of x) t has).0

pub call_tree : (x t : Rtx) → target_of (call_part x) ≡ Some t → IsCallTree x (call_part x)
call_tree x t has = call_tree_by (head_of x).code (kids_of x) x t refl refl has

-- a register that stands in the target stands in the pattern, which uses it
target_stands : (y t : Rtx) (reg : ℕ) → target_of y ≡ Some t → mentions_reg reg t ≡ true → mentions_reg reg y ≡ true
target_stands y t reg at has =
    let parts = call_code (head_of y).code (kids_of y) t at in
    let inner = place_code (head_of parts.1).code (kids_of parts.1) t parts.4 in
    mentions_kid y reg (ap (list_any (mentions_reg reg)) parts.3 ∙ or_left (mentions_reg reg parts.1) _
    (mentions_kid parts.1 reg (ap (list_any (mentions_reg reg)) inner.1 ∙ or_left (mentions_reg reg t) false has)))

call_stands : (x y : Rtx) (reg : ℕ) → IsCallTree x y → mentions_reg reg y ≡ true → mentions_reg reg x ≡ true
call_stands x _ reg (alone is) has = has
call_stands x source reg (setting place _ is are_kids result) has =
    mentions_kid x reg (ap (list_any (mentions_reg reg)) are_kids ∙ or_right (mentions_reg reg place) _ (or_left (mentions_reg reg source) false has))

read_it : (reg : ℕ) (y : Rtx) → 0 < reg → mentions_reg reg y ≡ true → reads reg y ≡ true
read_it reg y some has = ap (λ b. b && mentions_reg reg y) (positive_test reg some) ∙ has

call_uses : (x y : Rtx) (reg : ℕ) → IsCallTree x y → 0 < reg → mentions_reg reg y ≡ true → pattern_uses reg x ≡ true
call_uses x _ reg (alone is) some has =
    ap (λ c. list_any (effect_uses reg) (effects_by c (kids_of x) x)) is
    ∙ or_left (effect_uses reg x) false (ap (λ c. effect_uses_by reg c (kids_of x) x) is ∙ read_it reg x some has)
call_uses x source reg (setting place _ is are_kids result) some has =
    ap (λ c. list_any (effect_uses reg) (effects_by c (kids_of x) x)) is
    ∙ or_left (effect_uses reg x) false
    (ap (λ c. effect_uses_by reg c (kids_of x) x) is ∙ ap (λ kids. effect_uses_by reg Set kids x) are_kids ∙ or_right (place_reads reg place) _ (read_it reg source some has))

pub target_used : (x t : Rtx) (reg : ℕ) → target_of (call_part x) ≡ Some t → mentions_reg reg t ≡ true →
    (mentions_reg reg x ≡ true) × (0 < reg → pattern_uses reg x ≡ true)
target_used x t reg at has =
    let tree = call_tree x t at in
    let inside = target_stands (call_part x) t reg at has in
    (call_stands x (call_part x) reg tree inside, λ some. call_uses x (call_part x) reg tree some inside)

-- the numbers in the target
target_sized : (y t : Rtx) → target_of y ≡ Some t → all_sized y ≡ true → all_sized t ≡ true
target_sized y t at sized =
    let parts = call_code (head_of y).code (kids_of y) t at in
    let inner = place_code (head_of parts.1).code (kids_of parts.1) t parts.4 in
    let place_sized = (and_parts (all_sized parts.1) (all_sized parts.2 && true) (sym (ap (list_all all_sized) parts.3) ∙ sized_kids y sized)).0 in
    (and_parts (all_sized t) true (sym (ap (list_all all_sized) inner.1) ∙ sized_kids parts.1 place_sized)).0

part_sized : (x y : Rtx) → IsCallTree x y → all_sized x ≡ true → all_sized y ≡ true
part_sized x _ (alone is) sized = sized
part_sized x source (setting place _ is are_kids result) sized =
    let both = and_parts (all_sized place) (all_sized source && true) (sym (ap (list_all all_sized) are_kids) ∙ sized_kids x sized) in
    (and_parts (all_sized source) true both.1).0

result_is : (c : Code) (n : ℤ) → is_sized c n ≡ true → is_result_by c (cast_unsigned w64 n) ≡ true → (c ≡ Reg) × (n ≡ pos 10)
result_is Reg (pos k) sized is = (refl, ap pos (eqb-true k 10 is))
result_is Reg (negsuc k) sized is = absurd (false≢true sized)
result_is _ n sized is = absurd (false≢true is)

module _ (homes : List HomeOf) (layout : Layout) (m : Machines) (are : AreHomed homes layout m) (a0_home : home_of homes 10 ≡ Hard 10) where
  abbrev put : Rtx → Rtx
  put = placed homes layout

  target_in : (y t : Rtx) → target_of y ≡ Some t → target_of (put y) ≡ Some (put t)
  target_in y t at =
      let parts = call_code (head_of y).code (kids_of y) t at in
      ap target_of (over homes layout m are y (ap is_over parts.0))
      ∙ ap (λ (o : Rtx-F Rtx). target_by o.code o.kids) (out-roll-Rtx _)
      ∙ ap (λ c. target_by c (map put (kids_of y))) parts.0
      ∙ ap (λ kids. target_by Call (map put kids)) parts.3
      ∙ memory_address homes layout m are parts.1 t parts.4

  -- a0 lives in itself
  result_put : (place : Rtx) → all_sized place ≡ true → is_result place ≡ true → put place ≡ reg_of (head_of place).mode 10
  result_put place sized is =
      let here = result_is (head_of place).code (head_of place).number (sized_here place sized) is in
      target_put homes layout m are place 10 (λ same. let no : ⊥ = omega (arith, same) in no) (is_reg here.0 here.1)
      ∙ ap (λ home. place_by layout (head_of place).mode 10 home) a0_home

  part_put : (x y : Rtx) → IsCallTree x y → all_sized x ≡ true → call_part (put x) ≡ put y
  part_put x _ (alone is) sized =
      let heads = over homes layout m are x (ap is_over is) in
      ap call_part heads
      ∙ ap (λ (o : Rtx-F Rtx). call_by o.code o.kids (tree_of (head_of x) (map put (kids_of x)))) (out-roll-Rtx _)
      ∙ ap (λ c. call_by c (map put (kids_of x)) (tree_of (head_of x) (map put (kids_of x)))) is
      ∙ sym heads
  part_put x source (setting place _ is are_kids result) sized =
      let heads = over homes layout m are x (ap is_over is) in
      let place_sized = (and_parts (all_sized place) (all_sized source && true) (sym (ap (list_all all_sized) are_kids) ∙ sized_kids x sized)).0 in
      ap call_part heads
      ∙ ap (λ (o : Rtx-F Rtx). call_by o.code o.kids (tree_of (head_of x) (map put (kids_of x)))) (out-roll-Rtx _)
      ∙ ap (λ c. call_by c (map put (kids_of x)) (tree_of (head_of x) (map put (kids_of x)))) is
      ∙ ap (λ kids. call_by Set (map put kids) (tree_of (head_of x) (map put (kids_of x)))) are_kids
      ∙ ap (λ p. if is_result p then put source else tree_of (head_of x) (map put (kids_of x))) (result_put place place_sized result)
      ∙ ap (λ (o : Rtx-F Rtx). if is_result_by o.code (cast_unsigned w64 o.number) then put source else tree_of (head_of x) (map put (kids_of x))) (out-roll-Rtx _)

  -- the width in which a result is known
  pub width_put : (x y : Rtx) → IsCallTree x y → all_sized x ≡ true → result_width (put x) ≡ result_width x
  width_put x _ (alone is) sized =
      ap result_width (over homes layout m are x (ap is_over is))
      ∙ ap (λ (o : Rtx-F Rtx). result_width_by o.code o.kids) (out-roll-Rtx _)
      ∙ ap (λ c. result_width_by c (map put (kids_of x))) is
      ∙ sym (ap (λ c. result_width_by c (kids_of x)) is)
  width_put x source (setting place _ is are_kids result) sized =
      let place_sized = (and_parts (all_sized place) (all_sized source && true) (sym (ap (list_all all_sized) are_kids) ∙ sized_kids x sized)).0 in
      ap result_width (over homes layout m are x (ap is_over is))
      ∙ ap (λ (o : Rtx-F Rtx). result_width_by o.code o.kids) (out-roll-Rtx _)
      ∙ ap (λ c. result_width_by c (map put (kids_of x))) is
      ∙ ap (λ kids. result_width_by Set (map put kids)) are_kids
      ∙ ap (λ p. width_of (head_of p).mode) (result_put place place_sized result)
      ∙ ap (λ (o : Rtx-F Rtx). width_of o.mode) (out-roll-Rtx _)
      ∙ sym (ap (λ c. result_width_by c (kids_of x)) is ∙ ap (λ kids. result_width_by Set kids) are_kids)

  abbrev KnownIn : Rtx → Type 0
  KnownIn x = (reg : ℕ) → mentions_reg reg x ≡ true → (reg ≡ 32) ⊎ m.Counts reg

  target_by_part : (x : Rtx) (o : Option Rtx) → target_of (call_part x) ≡ o → all_sized x ≡ true → ((t : Rtx) → o ≡ Some t → KnownIn t) →
      Too (option_and_then (λ target. option_and_then aligned_target (value_of m.symbols m.regs m.memory target W64)) o)
      (target_value m.symbols m.others m.other (put x))
  target_by_part x None at sized known = λ v is. absurd (let no : ⊥ = cc in no)
  target_by_part x (Some t) at sized known =
      let tree = call_tree x t at in
      let part : target_of (call_part (put x)) ≡ Some (put t) = ap target_of (part_put x (call_part x) tree sized) ∙ target_in (call_part x) t at in
      let stays = placed_stays homes layout m are t (target_sized (call_part x) t at (part_sized x (call_part x) tree sized)) (known t refl) in
      λ v is. ap (λ o. option_and_then (λ target. option_and_then aligned_target (value_of m.symbols m.others m.other target W64)) o) part
      ∙ too_then aligned_target (value_of m.symbols m.regs m.memory t W64) (value_of m.symbols m.others m.other (put t) W64) (stays.values W64) v is

  -- what the called function sees
  pub event_put : (ranges ranges' : List RangeAt) (x : Rtx) (uses : List ArgUse) → all_sized x ≡ true →
      ((t : Rtx) → target_of (call_part x) ≡ Some t → KnownIn t) →
      ((reg : ℕ) → has_argument reg uses ≡ true → (w : Width) → Too (reg_value m.regs reg w) (reg_value m.others reg w)) →
      visible ranges' m.other ≡ visible ranges m.memory →
      Too (event_of m.symbols m.regs m.memory ranges x uses) (event_of m.symbols m.others m.other ranges' (put x) uses)
  event_put ranges ranges' x uses sized known arguments seen event is =
      ap (λ memory. of_two (λ target args. Some (record { target = target; args = args; memory = memory })) (target_value m.symbols m.others m.other (put x)) (args_of m.others uses)) seen
      ∙ too_two (λ target args. Some (record { target = target; args = args; memory = visible ranges m.memory }))
      (target_value m.symbols m.regs m.memory x) (target_value m.symbols m.others m.other (put x)) (args_of m.regs uses) (args_of m.others uses)
      (target_by_part x (target_of (call_part x)) refl sized known) (args_too m.regs m.others uses arguments) event is
