-- The address of a result that has neither a base nor a far one: that of a slot is the same behind the effects of its instruction; and of one in other
-- memory the instruction leaves the registers.
use Rattle.std.proofs.Common.{◌≡◌, ◌≢◌, inl, inr, ℕ, ◌&&◌, ◌||◌, not, if◌then◌else◌, Bool, true, false, List, [], ◌∷◌, map, Option, Some, None, refl, sym, ap, subst, ◌∙◌}
use Rattle.std.proofs.lemmas.Bool.{and_parts}
use Rattle.std.specs.FinMap.{get}
use Rattle.std.specs.Int.{int_wrap, w64}
use Rattle.std.specs.List.{filter_map, list_all, list_any}
use Rattle.std.specs.Option.{option_map_or}
use Rattle.std.specs.Ordering.{int_eq}
use Rattle.std.specs.Prelude.{ℤ, pos, is_some, option_map, option_and_then}
use Rattle.law_operands_fetched.specs.bits64.declared.Width.TheVariants.{W64}
use Rattle.law_operands_fetched.specs.rtx_tree.Code.{class_of_code}
use Rattle.law_operands_fetched.specs.rtx_tree.Operands.{operand_at}
use Rattle.law_operands_fetched.specs.rtx_tree.Tree.{head_of, kids_of, mentions_reg, node_of, reg_of, const_of}
use Rattle.law_operands_fetched.specs.rtx_tree.declared.code.Code.{Code}
use Rattle.law_operands_fetched.specs.rtx_tree.declared.code.Code.TheVariants as code
use Rattle.law_operands_fetched.specs.rtx_tree.declared.code.Mode.TheVariants.{DI}
use Rattle.law_operands_fetched.specs.rtx_tree.declared.function.Kind.{Kind}
use Rattle.law_operands_fetched.specs.rtx_tree.declared.machine.SymbolAt.{SymbolAt}
use Rattle.law_operands_fetched.specs.rtx_tree.declared.memories.MemByte.{MemByte}
use Rattle.law_operands_fetched.specs.rtx_tree.declared.tree.Rtx.{Rtx, out-roll-Rtx}
use Rattle.law_operands_fetched.specs.rtx_tree.declared.tree.Rtx.TheOpen.{Rtx-F}
use Rattle.law_operands_fetched.proofs.rtl_func.AllPass.{all_pass, pass_out}
use Rattle.law_operands_fetched.specs.rtl_step.Effect.{address_part, address_of, effect_of, effects_by, effects_of, one_effect}
use Rattle.law_operands_fetched.specs.rtl_step.Regs.{Regs}
use Rattle.law_operands_fetched.specs.rtl_step.Value.{value_of}
use Rattle.law_operands_fetched.specs.rtl_step.declared.effect.Effect.{Effect}
use Rattle.law_operands_fetched.specs.sym_insns.Shape.{all_natural}
use Rattle.law_operands_fetched.proofs.law_frame.law_window_replaced.Trees.{mentions_kid, natural_kids}
use Rattle.law_operands_fetched.specs.md_constr.Inputs as inputs
use Rattle.law_operands_fetched.specs.md_match.Pattern.{Ops}
use Rattle.law_operands_fetched.specs.assign.declared.home.Home.{Home}
use Rattle.law_operands_fetched.specs.assign.declared.home.Home.TheVariants.{Hard, Slot}
use Rattle.law_operands_fetched.specs.assign.declared.home.HomeOf.{HomeOf}
use Rattle.law_operands_fetched.specs.assign.declared.places.Layout.{Layout}
use Rattle.law_operands_fetched.specs.reload_homes.Homes.{home_of, homed, place_by, register_at, slot_address, slot_offset}
use Rattle.law_operands_fetched.proofs.reload_homes.Rewrites.{homed_register, homed_over}
use Rattle.law_operands_fetched.specs.reload_operands.Bases.{is_slot, in_slot, lives_in_slot}
use Rattle.law_operands_fetched.specs.reload_operands.Changes as changes
use Rattle.law_operands_fetched.specs.reload_operands.Changes.{changed_register, changes_in, is_hard, is_memory_code, other_memory}
use Rattle.law_operands_fetched.specs.reload_operands.declared.operand.Operand.{Operand}
use Rattle.law_operands_fetched.specs.reload_moves.Registers.{is_result}
use Rattle.law_operands_fetched.specs.reload_moves.declared.part.Part.{Part}
use Rattle.law_operands_fetched.specs.reload_choice.reload_fit.Fitting as fits
use Rattle.law_operands_fetched.specs.reload_choice.Movable.{may_land, is_plain}
use Rattle.law_operands_fetched.specs.reload_choice.Sound.{IsPart, IsSoundPlan}
use Rattle.law_operands_fetched.specs.reload_choice.declared.given.Plan.{Plan}
use Rattle.law_operands_fetched.proofs.law_homes.Becoming.{place_code}
use Rattle.law_operands_fetched.specs.law_operands_replaced.Spare.{NamesNoSpare, KnowsRest}
use Rattle.law_reload_moves.proofs.AllSoles.{landed, end_parts}
use Rattle.law_reload_moves.proofs.Chosen.{given}
use Rattle.law_operands_fetched.proofs.law_operands_replaced.ElementTurns.{memory_code_of}
use Rattle.law_reload_moves.proofs.LeftRegisters.{AreOnHard, lists_leave}
use Rattle.law_reload_moves.proofs.NewsLaws.{operand_of_match}
use Rattle.law_operands_fetched.proofs.OnRegister.{IsOperand}
use Rattle.law_reload_moves.proofs.ResultsEnd.{Among, AllAmong, Reached}
use Rattle.law_reload_moves.proofs.RowsThere.{alone_front}
use Rattle.law_operands_fetched.proofs.SmallTrees.{in_sp}
use Rattle.law_reload_moves.proofs.SoleRows.{none_other}
use Rattle.law_reload_moves.proofs.SteadyAddress.{Leaves, AllLeave, all_leave, IsSteady, no_memory_class, is_no_memory, steady}
use Rattle.law_reload_moves.proofs.Touches.{one_kid}
use Rattle.law_operands_fetched.proofs.law_operands_replaced.WholeTurns.{is_parallel}

-- ---- the elements of an instruction

parallel_list : (x : Rtx) → (head_of x).code ≡ code.Parallel → inputs.effects_of x ≡ kids_of x
parallel_list x is = ap (λ c. inputs.effects_by c x (kids_of x)) is

pub other_list : (c : Code) (x : Rtx) → (head_of x).code ≡ c → c ≢ code.Parallel → inputs.effects_of x ≡ x ∷ []
other_list code.Parallel x is other = absurd (other refl)
other_list _ x is other = ap (λ c. inputs.effects_by c x (kids_of x)) is

pub other_effects : (symbols : List SymbolAt) (regs : Regs) (m : List MemByte) (c : Code) (x : Rtx) → (head_of x).code ≡ c → c ≢ code.Parallel →
    effects_of symbols regs m x ≡ one_effect symbols regs m x
other_effects symbols regs m code.Parallel x is other = absurd (other refl)
other_effects symbols regs m _ x is other = ap (λ c. effects_by c x symbols regs m) is

-- it leaves the registers of an address of which it changes none
pub insn_leaves : (symbols : List SymbolAt) (regs : Regs) (m : List MemByte) (x a : Rtx) (es : List Effect) → all_natural x ≡ true →
    effects_of symbols regs m x ≡ Some es → AreOnHard es → changes_in is_hard x a ≡ false → (q : ℕ) → mentions_reg q a ≡ true → AllLeave q es
insn_leaves symbols regs m x a es natural does hard none q has = elim (is_parallel (head_of x).code) [
  | inl is ↦ lists_leave symbols regs m a q has (kids_of x) es (natural_kids x natural) (sym (ap (λ c. effects_by c x symbols regs m) is) ∙ does) hard
      (ap (λ ys. list_any (λ reg. is_hard reg && mentions_reg reg a) (filter_map changed_register ys)) (sym (parallel_list x is)) ∙ none)
  | inr other ↦
      let f = alone_front (effect_of symbols regs m x) es (sym (other_effects symbols regs m (head_of x).code x refl other) ∙ does) in
      lists_leave symbols regs m a q has (x ∷ []) es (ap (λ b. b && true) natural)
      (ap (option_and_then (λ e. option_map (λ es. e ∷ es) (Some []))) f.1.1 ∙ ap Some (sym f.1.0)) hard
      (ap (λ ys. list_any (λ reg. is_hard reg && mentions_reg reg a) (filter_map changed_register ys)) (sym (other_list (head_of x).code x refl other)) ∙ none)
]

-- ---- effects among others

one_of : (q : ℕ) (e : Effect) (es : List Effect) → Among e es → AllLeave q es → Leaves q e
one_of q e [] among leave = absurd among
one_of q e (o ∷ es) (inl same) leave = subst (Leaves q) (sym same) leave.0
one_of q e (o ∷ es) (inr more) leave = one_of q e es more leave.1

pub some_leave : (q : ℕ) (ds es : List Effect) → AllAmong ds es → AllLeave q es → AllLeave q ds
some_leave q [] es among leave = tt
some_leave q (d ∷ ds) es among leave = (one_of q d es among.0 leave, some_leave q ds es among.1 leave)

-- ---- a slot

pub leaf_free : (x : Rtx) → is_no_memory x ≡ true → kids_of x ≡ [] → all_pass is_no_memory x ≡ true
leaf_free x here none = pass_out is_no_memory x ∙ ap (λ b. b && list_all (all_pass is_no_memory) (kids_of x)) here ∙ ap (list_all (all_pass is_no_memory)) none

pub reg_free : (r : ℕ) → all_pass is_no_memory (reg_of DI r) ≡ true
reg_free r = leaf_free (reg_of DI r) (ap (λ (o : Rtx-F Rtx). no_memory_class (class_of_code o.code)) (out-roll-Rtx _)) (ap (λ (o : Rtx-F Rtx). o.kids) (out-roll-Rtx _))

pub const_free : (n : ℤ) → all_pass is_no_memory (const_of n) ≡ true
const_free n = leaf_free (const_of n) (ap (λ (o : Rtx-F Rtx). no_memory_class (class_of_code o.code)) (out-roll-Rtx _)) (ap (λ (o : Rtx-F Rtx). o.kids) (out-roll-Rtx _))

sp_free : (none : Bool) (n : ℤ) → all_pass is_no_memory (if none then reg_of DI 2 else node_of code.Plus DI (reg_of DI 2 ∷ const_of n ∷ [])) ≡ true
sp_free true n = reg_free 2
sp_free false n =
    let x = node_of code.Plus DI (reg_of DI 2 ∷ const_of n ∷ []) in
    pass_out is_no_memory x ∙
    ap (λ (o : Rtx-F Rtx). no_memory_class (class_of_code o.code) && list_all (all_pass is_no_memory) o.kids) (out-roll-Rtx _) ∙
    ap (λ b. b && (all_pass is_no_memory (const_of n) && true)) (reg_free 2) ∙ ap (λ b. b && true) (const_free n)

is_slot_home : (h : Home) → is_slot h ≡ true → h ≡ Slot
is_slot_home Slot is = refl
is_slot_home (Hard h) is = absurd (let no : ⊥ = cc in no)

slot_register : (homes : List HomeOf) (o : Option ℕ) → option_map_or (lives_in_slot homes) o false ≡ true → (reg : ℕ) × ((o ≡ Some reg) × (home_of homes reg ≡ Slot))
slot_register homes None is = absurd (let no : ⊥ = cc in no)
slot_register homes (Some reg) is = (reg, (refl, is_slot_home (home_of homes reg) is))

address_alike : (c : Code) (kids : List Rtx) → changes.address_by c kids ≡ address_part c kids
address_alike code.Mem [] = refl
address_alike code.Mem (a ∷ []) = refl
address_alike code.Mem (a ∷ b ∷ kids) = refl
address_alike _ kids = refl

-- ---- the address of an operand

address_kid : (x : Operand) (a : Rtx) → address_of x.tree ≡ Some a → kids_of x.tree ≡ a ∷ []
address_kid x a is = (place_code (head_of x.tree).code (kids_of x.tree) a is).1

pub address_natural : (x : Operand) (a : Rtx) → IsOperand x → address_of x.tree ≡ Some a → all_natural a ≡ true
address_natural x a good is = (and_parts (all_natural a) true (ap (list_all all_natural) (sym (address_kid x a is)) ∙ natural_kids x.tree good.natural)).0

pub address_quiet : (x : Operand) (a : Rtx) → IsOperand x → address_of x.tree ≡ Some a → NamesNoSpare a
address_quiet x a good is reg has =
    good.quiet reg (mentions_kid x.tree reg (ap (list_any (mentions_reg reg)) (address_kid x a is) ∙ ap (λ b. b || false) has))

module _ (homes : List HomeOf) (layout : Layout) (kind : Kind) (w pattern : Rtx) (found : Ops) (plan : Plan)
    (sound : IsSoundPlan (given homes layout kind w pattern found plan) plan) (symbols : List SymbolAt) (regs : Regs) (m : List MemByte) (es : List Effect)
    (natural : all_natural (homed homes layout w) ≡ true) (does : effects_of symbols regs m (homed homes layout w) ≡ Some es)
    (hard : AreOnHard es) (pointer : AllLeave 2 es) where
  abbrev hm : Rtx → Rtx
  hm = homed homes layout

  -- ---- a result that is a slot

  slot_steady : (was a : Rtx) (reg : ℕ) → register_at was ≡ Some reg → home_of homes reg ≡ Slot → address_of (hm was) ≡ Some a → IsSteady es a
  slot_steady was a reg at home is =
      let tree : hm was ≡ place_by layout (head_of was).mode reg Slot = homed_register homes layout was reg at ∙ ap (place_by layout (head_of was).mode reg) home in
      let there : Some (slot_address layout reg) ≡ Some a =
      sym (ap (λ (o : Rtx-F Rtx). address_part o.code o.kids) (out-roll-Rtx _)) ∙ sym (ap address_of tree) ∙ is in
      let same : slot_address layout reg ≡ a = cc in
      let n = int_wrap w64 (pos (slot_offset layout reg)) in
      subst (IsSteady es) same (record {
        no_memory = sp_free (int_eq n (pos 0)) n;
        left = λ q has. subst (λ q. AllLeave q es) (in_sp DI (int_eq n (pos 0)) n q has) pointer;
      })

  -- its address has its value behind some of the effects
  pub slot_there : (i : ℕ) (p : Part) (x : Operand) (a : Rtx) (at : ℕ) → IsPart (given homes layout kind w pattern found plan) plan i p x → IsOperand x → x.in_slot ≡ true →
      address_of x.tree ≡ Some a → value_of symbols regs m a W64 ≡ Some at → (r0 r : Regs) (n : List MemByte) → Reached es regs m r0 n → KnowsRest r0 r →
      value_of symbols r n a W64 ≡ Some at
  slot_there i p x a at part good in_slot' is there r0 r n reached knows =
      let o = operand_of_match pattern found w (hm w) homes layout p.place x part.of in
      let reg = slot_register homes (register_at o.was) (sym (ap (λ (x : Operand). x.in_slot) o.operand_is) ∙ in_slot') in
      steady symbols regs m es r0 r n (λ q leave. ap (λ r. get r q) reached.regs_are ∙ all_leave q reached.made regs (some_leave q reached.made es reached.among leave))
      knows a W64 at (slot_steady o.was a reg.0 reg.1.0 reg.1.1 (ap address_of (sym (ap (λ (x : Operand). x.tree) o.operand_is)) ∙ is))
      (address_natural x a good is) (address_quiet x a good is) there

  -- ---- a result in other memory

  -- its address before homes were put in, and what the instruction leaves of it
  pub record IsElsewhere (x : Operand) (a : Rtx) : Type 0 where
    pub was : Rtx
    pub found_is : operand_at found x.number ≡ Some was
    pub address : Rtx
    pub memory : (head_of was).code ≡ code.Mem
    pub kid : kids_of was ≡ address ∷ []
    pub homed_is : homed homes layout address ≡ a
    pub left : (q : ℕ) → mentions_reg q a ≡ true → AllLeave q es
    pub slots : changes_in (lives_in_slot homes) w address ≡ false
    pub alone : other_memory pattern w x.number ≡ false

  hard_none : (was a : Rtx) (reg : ℕ) (h : Home) → register_at was ≡ Some reg → home_of homes reg ≡ h → in_slot homes was ≡ false → address_of (hm was) ≡ Some a → ⊥
  hard_none was a reg Slot at home none is =
      let e : true ≡ false = sym (ap is_slot home) ∙ sym (ap (λ o. option_map_or (lives_in_slot homes) o false) at) ∙ none in let no : ⊥ = cc in no
  hard_none was a reg (Hard h) at home none is =
      let tree : hm was ≡ place_by layout (head_of was).mode reg (Hard h) = homed_register homes layout was reg at ∙ ap (place_by layout (head_of was).mode reg) home in
      let e : ◌≡◌ {A = Option Rtx} None (Some a) =
      sym (ap (λ (o : Rtx-F Rtx). address_part o.code o.kids) (out-roll-Rtx _)) ∙ sym (ap address_of tree) ∙ is in let no : ⊥ = cc in no

  memory_was : (was a : Rtx) (o : Option ℕ) → register_at was ≡ o → in_slot homes was ≡ false → address_of (hm was) ≡ Some a →
      ((head_of was).code ≡ code.Mem) × ((b : Rtx) × ((kids_of was ≡ b ∷ []) × (hm b ≡ a)))
  memory_was was a (Some reg) at none is = absurd (hard_none was a reg (home_of homes reg) at refl none is)
  memory_was was a None at none is =
      let tree = homed_over homes layout was at in
      let parts = place_code (head_of was).code (map hm (kids_of was)) a
      (sym (ap address_of tree ∙ ap (λ (o : Rtx-F Rtx). address_part o.code o.kids) (out-roll-Rtx _)) ∙ is) in
      (parts.0, one_kid hm (kids_of was) a parts.1)

  elsewhere_by : (x : Operand) (was a : Rtx) → operand_at found x.number ≡ Some was → x.tree ≡ hm was → x.in_slot ≡ in_slot homes was → x.other_memory ≡ other_memory pattern w x.number →
      x.changed_address ≡ changes.changes_address homes w (hm w) (is_some x.base) was (hm was) → is_some x.base ≡ false →
      may_land x ≡ true → x.in_slot ≡ false → address_of x.tree ≡ Some a → IsElsewhere x a
  elsewhere_by x was a found_is tree slot_is other_is changed based lands no_slot is =
      let t = memory_was was a (register_at was) refl (sym slot_is ∙ no_slot) (ap address_of (sym tree) ∙ is) in
      let memory : (head_of x.tree).code ≡ code.Mem = memory_code_of (head_of x.tree).code (kids_of x.tree) a is in
      let land = landed x.in_slot (is_memory_code (head_of x.tree).code) x.other_memory x.changed_address lands no_slot (ap is_memory_code memory) in
      let none = none_other _ _ (sym changed ∙ land.1) in
      let there : changes.address_of (hm was) ≡ Some a = address_alike (head_of (hm was)).code (kids_of (hm was)) ∙ ap address_of (sym tree) ∙ is in
      let before : changes.address_of was ≡ Some t.1.0 = ap (λ c. changes.address_by c (kids_of was)) t.0 ∙ ap (changes.address_by code.Mem) t.1.1.0 in record {
        was = was;
        found_is = found_is;
        address = t.1.0;
        memory = t.0;
        kid = t.1.1.0;
        homed_is = t.1.1.1;
        left = insn_leaves symbols regs m (hm w) a es natural does hard
            (sym (ap (λ o. option_map_or (changes_in is_hard (hm w)) o false) there) ∙ none.0);
        slots = sym (ap (λ b. not b && option_map_or (changes_in (lives_in_slot homes) w) (changes.address_of was) false) based ∙
            ap (λ o. option_map_or (changes_in (lives_in_slot homes) w) o false) before) ∙ none.1;
        alone = sym other_is ∙ land.0;
      }

  pub elsewhere : (i : ℕ) (p : Part) (x : Operand) (a : Rtx) → IsPart (given homes layout kind w pattern found plan) plan i p x → is_result p ≡ true →
      p.needs.has_base ≡ false → x.in_slot ≡ false → address_of x.tree ≡ Some a → IsElsewhere x a
  elsewhere i p x a part result no_base no_slot is =
      let o = operand_of_match pattern found w (hm w) homes layout p.place x part.of in
      let g = given homes layout kind w pattern found plan in
      let moved = (and_parts p.is_moved p.needs.is_output result).0 in
      let memory : (head_of x.tree).code ≡ code.Mem = memory_code_of (head_of x.tree).code (kids_of x.tree) a is in
      elsewhere_by x o.was a o.found_is (ap (λ (x : Operand). x.tree) o.operand_is) (ap (λ (x : Operand). x.in_slot) o.operand_is)
      (ap (λ (x : Operand). x.other_memory) o.operand_is)
      (ap (λ (x : Operand). x.changed_address) o.operand_is ∙
      ap (λ b. changes.changes_address homes w (hm w) (is_some b) o.was (hm o.was)) (sym (ap (λ (x : Operand). x.base) o.operand_is)))
      ((sound.says i p x part).unbased no_base (sound.operator i p x part moved) (ap fits.is_memory_code memory))
      (end_parts (is_plain kind) g.whole.twice_before g.whole.twice_after x.is_clobbered (may_land x) (sound.results i p x part result)).lands no_slot is
