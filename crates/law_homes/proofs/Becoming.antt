-- What an effect of an instruction becomes where its registers have homes.
use Rattle.std.proofs.Common.{◌≡◌, ℕ, zero, suc, ◌<◌, ◌+◌, ◌==◌, ◌&&◌, ◌||◌, not, ◌⊎◌, inl, inr, Bool, true, false, List, [], ◌∷◌, map, Option, Some, None, refl, sym, ap, subst, ◌∙◌, arith}
use Rattle.std.proofs.lemmas.Bool.{false≢true, and_parts, or_left, or_right, false_from_ne_true}
use Rattle.std.proofs.lemmas.Bool.Decides.{Decides-int_eq, nat_tests}
use Rattle.std.specs.Int.{cast_unsigned, w64}
use Rattle.std.specs.List.{list_all, list_any}
use Rattle.std.specs.Prelude.{ℤ, pos, negsuc, is_some, option_map, option_and_then, if◌then◌else◌}
use Rattle.bits64.specs.declared.Width.{Width}
use Rattle.bits64.specs.declared.Width.TheVariants.{W64}
use Rattle.rtx_tree.specs.Tree.{head_of, kids_of, tree_of, reg_of, is_reg_numbered, mentions_reg}
use Rattle.rtx_tree.specs.declared.code.Code.{Code}
use Rattle.rtx_tree.specs.declared.code.Code.TheVariants.{Reg, Subreg, Plus, Mem, Scratch, Set, Use, Clobber}
use Rattle.rtx_tree.specs.declared.code.Mode.{Mode}
use Rattle.rtx_tree.specs.declared.tree.Rtx.{Rtx, out-Rtx, out-roll-Rtx}
use Rattle.rtx_tree.specs.declared.tree.Rtx.TheOpen.{Rtx-F}
use Rattle.rtx_tree.proofs.Trees.{head_of-tree}
use Rattle.run_memory.specs.RunMemory.{load}
use Rattle.rtl_step.specs.Effect as step
use Rattle.rtl_step.specs.Effect.{inner_number, register_of, address_part, address_of, set_register, set_memory, set_place, set_effect, clobber_by, clobber_effect, effect_by, effect_of}
use Rattle.rtl_step.specs.Regs.{known_of}
use Rattle.rtl_step.specs.Value.{width_of, of_two, value_of}
use Rattle.rtl_step.specs.declared.effect.Effect.{Effect}
use Rattle.rtl_step.specs.declared.effect.Effect.TheVariants.{Nothing, Sets, Unsets, Stores}
use Rattle.reg_uses.specs.Effects.{is_register, reads, place_is, place_is_by, place_reads, place_reads_by, effect_uses, effect_uses_by, effect_defines, effect_defines_by}
use Rattle.md_operand.specs.Addresses.{is_stack_vars}
use Rattle.assign.specs.declared.home.Home.{Home}
use Rattle.assign.specs.declared.home.Home.TheVariants.{Hard, Slot}
use Rattle.assign.specs.declared.home.HomeOf.{HomeOf}
use Rattle.assign.specs.declared.places.Layout.{Layout}
use Rattle.reload_homes.specs.FrameRefs.{offset_by, frame_offset, framed}
use Rattle.reload_homes.specs.Homes.{home_of, slot_offset, place_by, place_for, register_numbered}
use Rattle.reload_homes.proofs.Rewrites.{framed_over}
use Rattle.law_homes.specs.Placed.{is_sized, all_sized, placed, BecomesInHomes}
use Rattle.law_homes.specs.Placed as placed_effect
use Rattle.law_homes.proofs.Grows.{load_too}
use Rattle.law_homes.proofs.Placing.{Machines, AreHomed, Stays, parts_register, placed_register, placed_over, placed_stays, mode_of_place, slot_at, mentions_itself}
use Rattle.law_homes.proofs.Trees.{sized_here, sized_kids, mentions_kid}

-- the register that an effect changes
abbrev pub changed_by : Effect → Option ℕ
changed_by (Sets reg known) = Some reg
changed_by (Unsets reg) = Some reg
changed_by _ = None

-- a code whose trees are rewritten part by part
abbrev pub is_over : Code → Bool
is_over Reg = false
is_over Subreg = false
is_over Plus = false
is_over _ = true

no_offset : (c : Code) (x : Rtx) (kids : List Rtx) (n : ℤ) → is_over c ≡ true → is_stack_vars x ≡ is_reg_numbered c n 32 → offset_by c x kids ≡ None
no_offset Reg x kids n over is = absurd (false≢true over)
no_offset Plus x kids n over is = absurd (false≢true over)
no_offset _ x kids n over is = ap (λ b. if b then Some (pos 0) else None) is

no_part : (c : Code) (n : ℤ) (kids : List Rtx) → is_over c ≡ true → parts_register c n kids ≡ None
no_part Reg n kids over = absurd (false≢true over)
no_part Subreg n kids over = absurd (false≢true over)
no_part _ n kids over = refl

pub positive_test : (reg : ℕ) → 0 < reg → not (reg == 0) ≡ true
positive_test zero some = absurd (omega (arith, some))
positive_test (suc reg) some = grind (arith, nat_tests)

-- the address of a place in memory
pub place_code : (c : Code) (kids : List Rtx) (a : Rtx) → address_part c kids ≡ Some a → (c ≡ Mem) × (kids ≡ a ∷ [])
place_code Mem (b ∷ []) a is = (refl, let same : b ≡ a = cc in ap (λ x. x ∷ []) same)
place_code _ kids a is = absurd (let no : ⊥ = cc in no)

module _ (homes : List HomeOf) (layout : Layout) (m : Machines) (are : AreHomed homes layout m) where
  abbrev put : Rtx → Rtx
  put = placed homes layout

  -- a tree of such a code
  pub over : (x : Rtx) → is_over (head_of x).code ≡ true → put x ≡ tree_of (head_of x) (map put (kids_of x))
  over x is = placed_over homes layout m are x (no_offset (head_of x).code x (kids_of x) (head_of x).number is refl)
      (no_part (head_of x).code (head_of x).number (map (framed layout.size) (kids_of x)) is)

  -- ---- a register that is a target

  no_vars : (x : Rtx) (reg : ℕ) → (head_of x).code ≡ Reg → (head_of x).number ≡ pos reg → (reg ≡ 32 → ⊥) → frame_offset x ≡ None
  no_vars x reg is number other =
      ap (λ c. offset_by c x (kids_of x)) is
      ∙ ap (λ b. if b then Some (pos 0) else None)
      (ap (λ c. is_reg_numbered c (head_of x).number 32) is
      ∙ ap (λ (n : ℤ). is_reg_numbered Reg n 32) number
      ∙ false_from_ne_true (is_reg_numbered Reg (pos reg) 32) (λ yes. let same = (Decides-int_eq (pos reg) (pos 32)).0 yes in other (let e : reg ≡ 32 = cc in e)))

  -- a register, by its number; or the low part of one
  pub data Target (x : Rtx) (reg : ℕ) : Type 0 where
    is_reg : (head_of x).code ≡ Reg → (head_of x).number ≡ pos reg → Target x reg
    is_part : (inner : Rtx) → (head_of x).code ≡ Subreg → kids_of x ≡ inner ∷ [] → (head_of inner).code ≡ Reg → (head_of inner).number ≡ pos reg → Target x reg

  number_is : (n : ℤ) (reg : ℕ) → is_sized Reg n ≡ true → Some (cast_unsigned w64 n) ≡ Some reg → n ≡ pos reg
  number_is (pos k) reg sized is =
      let same : k ≡ reg = cc in ap pos same
  number_is (negsuc k) reg sized is = absurd (false≢true sized)

  inner_is : (c : Code) (n : ℤ) (reg : ℕ) → is_sized c n ≡ true → inner_number c n ≡ Some reg → (c ≡ Reg) × (n ≡ pos reg)
  inner_is Reg n reg sized is = (refl, number_is n reg sized is)
  inner_is _ n reg sized is = absurd (let no : ⊥ = cc in no)

  inner_sized : (x inner : Rtx) → kids_of x ≡ inner ∷ [] → all_sized x ≡ true → all_sized inner ≡ true
  inner_sized x inner is sized = (and_parts (all_sized inner) _ (sym (ap (list_all all_sized) is) ∙ sized_kids x sized)).0

  target_by : (c : Code) (x : Rtx) (kids : List Rtx) (reg : ℕ) → (head_of x).code ≡ c → kids_of x ≡ kids → all_sized x ≡ true →
      step.register_by c (head_of x).number kids ≡ Some reg → Target x reg
  target_by Reg x kids reg is are_kids sized has =
      is_reg is (number_is (head_of x).number reg (sym (ap (λ c. is_sized c (head_of x).number) is) ∙ sized_here x sized) has)
  target_by Subreg x (inner ∷ []) reg is are_kids sized has =
      let here = inner_is (head_of inner).code (head_of inner).number reg (sized_here inner (inner_sized x inner are_kids sized)) has in
      is_part inner is are_kids here.0 here.1
  target_by _ x kids reg is are_kids sized has = absurd (let no : ⊥ = cc in no)

  pub target : (x : Rtx) (reg : ℕ) → all_sized x ≡ true → register_of x ≡ Some reg → Target x reg
  target x reg sized has = target_by (head_of x).code x (kids_of x) reg refl refl sized has

  target_mentioned : (x : Rtx) (reg : ℕ) → Target x reg → mentions_reg reg x ≡ true
  target_mentioned x reg (is_reg is number) = mentions_itself x reg is number
  target_mentioned x reg (is_part inner is are_kids inner_code number) =
      mentions_kid x reg (ap (list_any (mentions_reg reg)) are_kids ∙ or_left (mentions_reg reg inner) false (mentions_itself inner reg inner_code number))

  registered : (x : Rtx) (reg : ℕ) → 0 < reg → (head_of x).code ≡ Reg → (head_of x).number ≡ pos reg → is_register reg x ≡ true
  registered x reg some is number =
      ap (λ b. b && is_reg_numbered (head_of x).code (head_of x).number reg) (positive_test reg some)
      ∙ ap (λ c. is_reg_numbered c (head_of x).number reg) is
      ∙ ap (λ (n : ℤ). is_reg_numbered Reg n reg) number
      ∙ (Decides-int_eq (pos reg) (pos reg)).1 refl

  target_defined : (x : Rtx) (reg : ℕ) → 0 < reg → Target x reg → place_is reg x ≡ true
  target_defined x reg some (is_reg is number) = ap (λ c. place_is_by reg c (kids_of x) x) is ∙ registered x reg some is number
  target_defined x reg some (is_part inner is are_kids inner_code number) =
      ap (λ c. place_is_by reg c (kids_of x) x) is ∙ ap (λ kids. place_is_by reg Subreg kids x) are_kids ∙ registered inner reg some inner_code number

  same_target : (x : Rtx) (reg other : ℕ) → (head_of x).code ≡ Reg → (head_of x).number ≡ pos reg → is_register other x ≡ true → reg ≡ other
  same_target x reg other is number here =
      let test : is_reg_numbered Reg (pos reg) other ≡ true =
      sym (ap (λ c. is_reg_numbered c (head_of x).number other) is ∙ ap (λ (n : ℤ). is_reg_numbered Reg n other) number)
      ∙ (and_parts (not (other == 0)) (is_reg_numbered (head_of x).code (head_of x).number other) here).1 in
      let same = (Decides-int_eq (pos reg) (pos other)).0 test in
      (let e : reg ≡ other = cc in e)

  -- it is the only one that the place is
  target_only : (x : Rtx) (reg other : ℕ) → Target x reg → place_is other x ≡ true → reg ≡ other
  target_only x reg other (is_reg is number) here =
      same_target x reg other is number (sym (ap (λ c. place_is_by other c (kids_of x) x) is) ∙ here)
  target_only x reg other (is_part inner is are_kids inner_code number) here =
      same_target inner reg other inner_code number
      (sym (ap (λ c. place_is_by other c (kids_of x) x) is ∙ ap (λ kids. place_is_by other Subreg kids x) are_kids) ∙ here)

  -- a tree of another code is no register
  no_target : (c : Code) (x : Rtx) (reg : ℕ) → (head_of x).code ≡ c → is_over c ≡ true → place_is reg x ≡ true → ⊥
  no_target c x reg is over here =
      no_register_by c (head_of x).number reg over
      (ap (λ c. is_reg_numbered c (head_of x).number reg) (sym is) ∙ (and_parts (not (reg == 0)) (is_reg_numbered (head_of x).code (head_of x).number reg)
      (sym (ap (λ c. place_is_by reg c (kids_of x) x) is ∙ itself_by c (kids_of x) reg x over) ∙ here)).1)
    where
      itself_by : (c : Code) (kids : List Rtx) (reg : ℕ) (x : Rtx) → is_over c ≡ true → place_is_by reg c kids x ≡ is_register reg x
      itself_by Subreg kids reg x over = absurd (false≢true over)
      itself_by _ kids reg x over = refl

      no_register_by : (c : Code) (n : ℤ) (reg : ℕ) → is_over c ≡ true → is_reg_numbered c n reg ≡ true → ⊥
      no_register_by Reg n reg over is = false≢true over
      no_register_by _ n reg over is = false≢true is

  -- it becomes what stands for it
  pub target_put : (x : Rtx) (reg : ℕ) → (reg ≡ 32 → ⊥) → Target x reg → put x ≡ place_for homes layout (head_of x).mode reg
  target_put x reg other (is_reg is number) =
      placed_register homes layout m are x reg (no_vars x reg is number other)
      (ap (λ c. parts_register c (head_of x).number (map (framed layout.size) (kids_of x))) is ∙ ap (λ (n : ℤ). register_numbered Reg n) number)
  target_put x reg other (is_part inner is are_kids inner_code number) =
      let inside : framed layout.size inner ≡ tree_of (head_of inner) (map (framed layout.size) (kids_of inner)) =
      framed_over layout.size inner (no_vars inner reg inner_code number other) in
      let heads = ap head_of inside ∙ head_of-tree (head_of inner) (map (framed layout.size) (kids_of inner)) in
      placed_register homes layout m are x reg (ap (λ c. offset_by c x (kids_of x)) is ∙ ap (λ b. if b then Some (pos 0) else None) (ap (λ c. is_reg_numbered c (head_of x).number 32) is))
      (ap (λ c. parts_register c (head_of x).number (map (framed layout.size) (kids_of x))) is
      ∙ ap (λ kids. parts_register Subreg (head_of x).number (map (framed layout.size) kids)) are_kids
      ∙ ap (λ h. register_numbered h.code h.number) heads
      ∙ ap (λ c. register_numbered c (head_of inner).number) inner_code
      ∙ ap (λ (n : ℤ). register_numbered Reg n) number)

  -- ---- one effect

  -- what is asked of an element
  pub record Fits (x : Rtx) : Type 0 where
    pub sized : all_sized x ≡ true
    pub named : (reg : ℕ) → mentions_reg reg x ≡ true → (reg ≡ 32) ⊎ m.Named reg
    pub used : (reg : ℕ) → m.Named reg → effect_uses reg x ≡ true → m.Counts reg
    pub vars : effect_defines 32 x ≡ false

  -- what it becomes
  pub record Becomes (x : Rtx) (e : Effect) (o : Option Effect) : Type 0 where
    pub effect : Effect
    pub is : o ≡ Some effect
    pub becomes : BecomesInHomes homes layout m.base e effect
    pub named : (reg : ℕ) → changed_by e ≡ Some reg → m.Named reg
    pub defines : (reg : ℕ) → changed_by e ≡ Some reg → effect_defines reg x ≡ true
    pub mentioned : (reg : ℕ) → changed_by e ≡ Some reg → mentions_reg reg x ≡ true
    pub stored : (w : Width) (at value : ℕ) → e ≡ Stores w at value → is_some (load w m.memory at) ≡ true
    -- it changes each register that the element defines
    pub only : (reg : ℕ) → effect_defines reg x ≡ true → changed_by e ≡ Some reg

  -- ---- a `set` of a register

  -- the effect of a `set` of what stands for a register
  set_in : (mode : Mode) (source : Rtx) (w : Width) (reg value : ℕ) (home : Home) → home_of homes reg ≡ home → m.Named reg →
      value_of m.symbols m.others m.other source w ≡ Some value →
      (e : Effect) × (set_place (address_of (place_by layout mode reg home)) m.symbols m.others m.other (place_by layout mode reg home) source w ≡ Some e)
      × BecomesInHomes homes layout m.base (Sets reg (known_of w value)) e
  set_in mode source w reg value (Hard hard) home named has = (
    Sets hard (known_of w value),
    ap (λ (o : Rtx-F Rtx). set_place (address_part o.code o.kids) m.symbols m.others m.other (reg_of mode hard) source w) (out-roll-Rtx _)
        ∙ ap (λ (o : Rtx-F Rtx). of_two (λ reg value. Some (Sets reg (known_of w value))) (step.register_by o.code o.number o.kids) (value_of m.symbols m.others m.other source w)) (out-roll-Rtx _)
        ∙ ap (λ o. of_two (λ reg value. Some (Sets reg (known_of w value))) (Some hard) o) has,
    placed_effect.sets reg hard (known_of w value) home,
  )
  set_in mode source w reg value Slot home named has = (
    Stores w (m.base + slot_offset layout reg) value,
    ap (λ (o : Rtx-F Rtx). set_place (address_part o.code o.kids) m.symbols m.others m.other (place_by layout mode reg Slot) source w) (out-roll-Rtx _)
        ∙ ap (λ o. of_two (λ at value. if is_some (load w m.other at) then Some (Stores w at value) else None) o (value_of m.symbols m.others m.other source w))
        (slot_at homes layout m are reg (are.slot reg named home))
        ∙ ap (λ o. of_two (λ at value. if is_some (load w m.other at) then Some (Stores w at value) else None) (Some (m.base + slot_offset layout reg)) o) has
        ∙ ap (λ b. if b then Some (Stores w (m.base + slot_offset layout reg) value) else None) (are.there reg named home w),
    placed_effect.fills reg w value home,
  )

  -- what the old effect is
  sets_is : (target value : Option ℕ) (w : Width) (e : Effect) → of_two (λ reg value. Some (Sets reg (known_of w value))) target value ≡ Some e →
      (reg : ℕ) × (v : ℕ) × (target ≡ Some reg) × (value ≡ Some v) × (Sets reg (known_of w v) ≡ e)
  sets_is None value w e is = absurd (let no : ⊥ = cc in no)
  sets_is (Some reg) None w e is = absurd (let no : ⊥ = cc in no)
  sets_is (Some reg) (Some v) w e is = (reg, v, refl, refl, let same : Sets reg (known_of w v) ≡ e = cc in same)

  changed_one : (reg other : ℕ) → ◌≡◌ {A = Option ℕ} (Some reg) (Some other) → reg ≡ other
  changed_one reg other is = cc

  memory_put : (place a : Rtx) → address_of place ≡ Some a → put place ≡ tree_of (head_of place) (put a ∷ [])
  memory_put place a is =
      let parts = place_code (out-Rtx place).code (out-Rtx place).kids a is in
      over place (ap is_over parts.0) ∙ ap (λ kids. tree_of (head_of place) (map put kids)) parts.1

  pub memory_address : (place a : Rtx) → address_of place ≡ Some a → address_of (put place) ≡ Some (put a)
  memory_address place a is =
      let parts = place_code (out-Rtx place).code (out-Rtx place).kids a is in
      ap address_of (memory_put place a is)
      ∙ ap (λ (o : Rtx-F Rtx). address_part o.code o.kids) (out-roll-Rtx _)
      ∙ ap (λ c. address_part c (put a ∷ [])) parts.0

  -- the width in which a place is set stays
  mode_put : (place a : Rtx) → address_of place ≡ Some a → (head_of (put place)).mode ≡ (head_of place).mode
  mode_put place a is = ap (λ y. (head_of y).mode) (memory_put place a is) ∙ ap (λ h. h.mode) (head_of-tree (head_of place) (put a ∷ []))

  stores_is : (at value : Option ℕ) (w : Width) (e : Effect) →
      of_two (λ at value. if is_some (load w m.memory at) then Some (Stores w at value) else None) at value ≡ Some e →
      (a : ℕ) × (v : ℕ) × (at ≡ Some a) × (value ≡ Some v) × (is_some (load w m.memory a) ≡ true) × (Stores w a v ≡ e)
  stores_is None value w e is = absurd (let no : ⊥ = cc in no)
  stores_is (Some a) None w e is = absurd (let no : ⊥ = cc in no)
  stores_is (Some a) (Some v) w e is = by (is_some (load w m.memory a)) refl is
    where
      by : (b : Bool) → is_some (load w m.memory a) ≡ b → (if b then Some (Stores w a v) else None) ≡ Some e →
          (a' : ℕ) × (v' : ℕ) × (Some a ≡ Some a') × (Some v ≡ Some v') × (is_some (load w m.memory a') ≡ true) × (Stores w a' v' ≡ e)
      by true there same = (a, v, refl, refl, there, let here : Stores w a v ≡ e = cc in here)
      by false there same = absurd (let no : ⊥ = cc in no)

  loads_too : (w : Width) (a : ℕ) (o : Option ℕ) → load w m.memory a ≡ o → is_some o ≡ true → is_some (load w m.other a) ≡ true
  loads_too w a None is there = absurd (false≢true there)
  loads_too w a (Some v) is there = ap is_some (load_too m.memory m.other are.within w a v is)

  stored_there : (w v : Width) (a at value number : ℕ) → Stores w a value ≡ Stores v at number → is_some (load w m.memory a) ≡ true →
      is_some (load v m.memory at) ≡ true
  stored_there w v a at value number same there =
      let widths : w ≡ v = cc in let places : a ≡ at = cc in
      subst (λ v. is_some (load v m.memory at) ≡ true) widths (subst (λ a. is_some (load w m.memory a) ≡ true) places there)

  -- ---- what the parts of an element read

  pub reads_it : (reg : ℕ) (x : Rtx) → 0 < reg → mentions_reg reg x ≡ true → reads reg x ≡ true
  reads_it reg x some is = ap (λ b. b && mentions_reg reg x) (positive_test reg some) ∙ is

  abbrev KnownIn : Rtx → Type 0
  KnownIn x = (reg : ℕ) → mentions_reg reg x ≡ true → (reg ≡ 32) ⊎ m.Counts reg

  -- an element that is a `set`
  record IsSet (x place source : Rtx) : Type 0 where
    code : (head_of x).code ≡ Set
    kids : kids_of x ≡ place ∷ source ∷ []

  module _ (x place source : Rtx) (is : IsSet x place source) (fits : Fits x) where
    in_place : (reg : ℕ) → mentions_reg reg place ≡ true → mentions_reg reg x ≡ true
    in_place reg has = mentions_kid x reg (ap (list_any (mentions_reg reg)) is.kids ∙ or_left (mentions_reg reg place) _ has)

    in_source : (reg : ℕ) → mentions_reg reg source ≡ true → mentions_reg reg x ≡ true
    in_source reg has = mentions_kid x reg (ap (list_any (mentions_reg reg)) is.kids ∙ or_right (mentions_reg reg place) _ (or_left (mentions_reg reg source) _ has))

    uses_is : (reg : ℕ) → effect_uses reg x ≡ (place_reads reg place || reads reg source)
    uses_is reg = ap (λ c. effect_uses_by reg c (kids_of x) x) is.code ∙ ap (λ kids. effect_uses_by reg Set kids x) is.kids

    source_known : KnownIn source
    source_known reg has = elim (fits.named reg (in_source reg has)) [
      | inl vars ↦ inl vars
      | inr named ↦ inr (fits.used reg named (uses_is reg ∙ or_right (place_reads reg place) _ (reads_it reg source (are.positive reg named) has)))
    ]

    sized_parts : (all_sized place ≡ true) × (all_sized source ≡ true)
    sized_parts =
        let both = and_parts (all_sized place) _ (sym (ap (list_all all_sized) is.kids) ∙ sized_kids x fits.sized) in
        (both.0, (and_parts (all_sized source) _ both.1).0)

    source_stays : Stays homes layout m are source
    source_stays = placed_stays homes layout m are source sized_parts.1 source_known

    defines_is : (reg : ℕ) → effect_defines reg x ≡ place_is reg place
    defines_is reg = ap (λ c. effect_defines_by reg c (kids_of x)) is.code ∙ ap (λ kids. effect_defines_by reg Set kids) is.kids

    -- of a register that is a target
    target_named : (reg : ℕ) → Target place reg → (reg ≡ 32 → ⊥) × m.Named reg
    target_named reg t =
        let other : reg ≡ 32 → ⊥ = λ same. false≢true (sym fits.vars ∙ defines_is 32 ∙ target_defined place 32 (omega arith) (subst (Target place) same t)) in (
          other,
          elim (fits.named reg (in_place reg (target_mentioned place reg t))) [
            | inl vars ↦ absurd (other vars)
            | inr named ↦ named
          ],
        )

    address_known : (a : Rtx) → address_of place ≡ Some a → KnownIn a
    address_known a at reg has =
        let parts = place_code (out-Rtx place).code (out-Rtx place).kids a at in
        let stands = mentions_kid place reg (ap (list_any (mentions_reg reg)) parts.1 ∙ or_left (mentions_reg reg a) false has) in
        elim (fits.named reg (in_place reg stands)) [
          | inl vars ↦ inl vars
          | inr named ↦ inr (fits.used reg named (uses_is reg ∙ or_left (place_reads reg place) _
              (ap (λ c. place_reads_by reg c place) parts.0 ∙ reads_it reg place (are.positive reg named) stands)))
        ]

    address_sized : (a : Rtx) → address_of place ≡ Some a → all_sized a ≡ true
    address_sized a at =
        let parts = place_code (out-Rtx place).code (out-Rtx place).kids a at in
        (and_parts (all_sized a) _ (sym (ap (list_all all_sized) parts.1) ∙ sized_kids place sized_parts.0)).0

    -- the element with homes put in
    set_put : effect_of m.symbols m.others m.other (put x) ≡ set_effect m.symbols m.others m.other (put place) (put source)
    set_put =
        ap (effect_of m.symbols m.others m.other) (over x (ap is_over is.code) ∙ ap (λ kids. tree_of (head_of x) (map put kids)) is.kids)
        ∙ ap (λ (o : Rtx-F Rtx). effect_by o.code o.kids m.symbols m.others m.other) (out-roll-Rtx _)
        ∙ ap (λ c. effect_by c (put place ∷ put source ∷ []) m.symbols m.others m.other) is.code

    register_becomes : (w : Width) (e : Effect) → width_of (head_of place).mode ≡ Some w →
        set_register m.symbols m.regs m.memory place source w ≡ Some e → Becomes x e (effect_of m.symbols m.others m.other (put x))
    register_becomes w e wide has =
        let parts = sets_is (register_of place) (value_of m.symbols m.regs m.memory source w) w e has in
        let reg = parts.0 in
        let t = target place reg sized_parts.0 parts.2 in
        let named = target_named reg t in
        let mode = (head_of place).mode in
        let inside = set_in mode (put source) w reg parts.1 (home_of homes reg) refl named.1 (source_stays.values w parts.1 parts.3) in
        let there : set_effect m.symbols m.others m.other (put place) (put source) ≡ Some inside.0 =
        ap (λ p. set_effect m.symbols m.others m.other p (put source)) (target_put place reg named.0 t)
        ∙ ap (λ w. option_and_then (set_place (address_of (place_for homes layout mode reg)) m.symbols m.others m.other (place_for homes layout mode reg) (put source)) w)
        (ap width_of (mode_of_place homes layout m are mode reg (home_of homes reg)) ∙ wide)
        ∙ inside.1 in
        subst (λ e. Becomes x e (effect_of m.symbols m.others m.other (put x))) parts.4 (record {
          effect = inside.0;
          is = set_put ∙ there;
          becomes = inside.2;
          named = λ other same. subst m.Named (changed_one reg other same) named.1;
          defines = λ other same. subst (λ r. effect_defines r x ≡ true) (changed_one reg other same)
              (defines_is reg ∙ target_defined place reg (are.positive reg named.1) t);
          mentioned = λ other same. subst (λ r. mentions_reg r x ≡ true) (changed_one reg other same) (in_place reg (target_mentioned place reg t));
          stored = λ w at value same. absurd (let no : ⊥ = cc in no);
          only = λ other is_it. ap (λ r. Some r) (target_only place reg other t (sym (defines_is other) ∙ is_it));
        })

    memory_becomes : (a : Rtx) (w : Width) (e : Effect) → address_of place ≡ Some a → width_of (head_of place).mode ≡ Some w →
        set_memory m.symbols m.regs m.memory a source w ≡ Some e → Becomes x e (effect_of m.symbols m.others m.other (put x))
    memory_becomes a w e at wide has =
        let parts = stores_is (value_of m.symbols m.regs m.memory a W64) (value_of m.symbols m.regs m.memory source w) w e has in
        let address_stays = placed_stays homes layout m are a (address_sized a at) (address_known a at) in
        let there : set_effect m.symbols m.others m.other (put place) (put source) ≡ Some (Stores w parts.0 parts.1) =
        ap (λ o. option_and_then (set_place o m.symbols m.others m.other (put place) (put source)) (width_of (head_of (put place)).mode)) (memory_address place a at)
        ∙ ap (option_and_then (set_memory m.symbols m.others m.other (put a) (put source))) (ap width_of (mode_put place a at) ∙ wide)
        ∙ ap (λ o. of_two (λ at value. if is_some (load w m.other at) then Some (Stores w at value) else None) o (value_of m.symbols m.others m.other (put source) w))
        (address_stays.values W64 parts.0 parts.2)
        ∙ ap (λ o. of_two (λ at value. if is_some (load w m.other at) then Some (Stores w at value) else None) (Some parts.0) o)
        (source_stays.values w parts.1 parts.3)
        ∙ ap (λ b. if b then Some (Stores w parts.0 parts.1) else None) (loads_too w parts.0 (load w m.memory parts.0) refl parts.4) in
        subst (λ e. Becomes x e (effect_of m.symbols m.others m.other (put x))) parts.5 (record {
          effect = Stores w parts.0 parts.1;
          is = set_put ∙ there;
          becomes = placed_effect.stores w parts.0 parts.1;
          named = λ other same. absurd (let no : ⊥ = cc in no);
          defines = λ other same. absurd (let no : ⊥ = cc in no);
          mentioned = λ other same. absurd (let no : ⊥ = cc in no);
          stored = λ v at value same. stored_there w v parts.0 at parts.1 value same parts.4;
          only = λ other is_it. absurd (no_target Mem place other (place_code (out-Rtx place).code (out-Rtx place).kids a at).0 refl (sym (defines_is other) ∙ is_it));
        })

    place_becomes : (o : Option Rtx) (w : Width) (e : Effect) → address_of place ≡ o → width_of (head_of place).mode ≡ Some w →
        set_place o m.symbols m.regs m.memory place source w ≡ Some e → Becomes x e (effect_of m.symbols m.others m.other (put x))
    place_becomes None w e at wide has = register_becomes w e wide has
    place_becomes (Some a) w e at wide has = memory_becomes a w e at wide has

    wide_becomes : (o : Option Width) (e : Effect) → width_of (head_of place).mode ≡ o →
        option_and_then (set_place (address_of place) m.symbols m.regs m.memory place source) o ≡ Some e →
        Becomes x e (effect_of m.symbols m.others m.other (put x))
    wide_becomes None e wide has = absurd (let no : ⊥ = cc in no)
    wide_becomes (Some w) e wide has = place_becomes (address_of place) w e refl wide has

  -- ---- a clobber

  clobbers_nothing : (mode : Mode) (reg : ℕ) (home : Home) → home_of homes reg ≡ home → m.Named reg →
      (e : Effect) × (clobber_effect (place_by layout mode reg home) ≡ Some e) × BecomesInHomes homes layout m.base (Unsets reg) e
  clobbers_nothing mode reg (Hard hard) home named = (
    Unsets hard,
    ap (λ (o : Rtx-F Rtx). clobber_by o.code (register_of (reg_of mode hard))) (out-roll-Rtx _)
        ∙ ap (λ (o : Rtx-F Rtx). option_map Unsets (step.register_by o.code o.number o.kids)) (out-roll-Rtx _),
    placed_effect.unsets reg hard home,
  )
  clobbers_nothing mode reg Slot home named = (
    Nothing,
    ap (λ (o : Rtx-F Rtx). clobber_by o.code (register_of (place_by layout mode reg Slot))) (out-roll-Rtx _),
    placed_effect.leaves reg home,
  )

  unsets_is : (o : Option ℕ) (e : Effect) → option_map Unsets o ≡ Some e → (reg : ℕ) × (o ≡ Some reg) × (Unsets reg ≡ e)
  unsets_is None e is = absurd (let no : ⊥ = cc in no)
  unsets_is (Some reg) e is = (reg, refl, let same : Unsets reg ≡ e = cc in same)

  -- an element of one part
  record IsOne (c : Code) (x part : Rtx) : Type 0 where
    code : (head_of x).code ≡ c
    kids : kids_of x ≡ part ∷ []

  one_put : (c : Code) (x part : Rtx) → is_over c ≡ true → IsOne c x part →
      effect_of m.symbols m.others m.other (put x) ≡ effect_by c (put part ∷ []) m.symbols m.others m.other
  one_put c x part is_one is =
      ap (effect_of m.symbols m.others m.other) (over x (ap is_over is.code ∙ is_one) ∙ ap (λ kids. tree_of (head_of x) (map put kids)) is.kids)
      ∙ ap (λ (o : Rtx-F Rtx). effect_by o.code o.kids m.symbols m.others m.other) (out-roll-Rtx _)
      ∙ ap (λ c. effect_by c (put part ∷ []) m.symbols m.others m.other) is.code

  nothing_becomes : (x : Rtx) (e : Effect) (o : Option Effect) → ((reg : ℕ) → effect_defines reg x ≡ true → ⊥) →
      ◌≡◌ {A = Option Effect} (Some Nothing) (Some e) → o ≡ Some Nothing → Becomes x e o
  nothing_becomes x e o none same is =
      let here : Nothing ≡ e = cc in
      subst (λ e. Becomes x e o) here (record {
        effect = Nothing;
        is = is;
        becomes = placed_effect.nothing;
        named = λ other changed. absurd (let no : ⊥ = cc in no);
        defines = λ other changed. absurd (let no : ⊥ = cc in no);
        mentioned = λ other changed. absurd (let no : ⊥ = cc in no);
        stored = λ w at value same. absurd (let no : ⊥ = cc in no);
        only = λ other is_it. absurd (none other is_it);
      })

  module _ (x place : Rtx) (is : IsOne Clobber x place) (fits : Fits x) where
    defines_place : (reg : ℕ) → effect_defines reg x ≡ place_is reg place
    defines_place reg = ap (λ c. effect_defines_by reg c (kids_of x)) is.code ∙ ap (λ kids. effect_defines_by reg Clobber kids) is.kids

    clobbered_named : (reg : ℕ) → Target place reg → (reg ≡ 32 → ⊥) × m.Named reg
    clobbered_named reg t =
        let other : reg ≡ 32 → ⊥ = λ same. false≢true (sym fits.vars ∙ defines_place 32 ∙ target_defined place 32 (omega arith) (subst (Target place) same t)) in
        let stands : mentions_reg reg x ≡ true = mentions_kid x reg (ap (list_any (mentions_reg reg)) is.kids ∙ or_left (mentions_reg reg place) false (target_mentioned place reg t)) in (
          other,
          elim (fits.named reg stands) [
            | inl vars ↦ absurd (other vars)
            | inr named ↦ named
          ],
        )

    unset_becomes : (e : Effect) → option_map Unsets (register_of place) ≡ Some e → Becomes x e (effect_of m.symbols m.others m.other (put x))
    unset_becomes e has =
        let parts = unsets_is (register_of place) e has in
        let reg = parts.0 in
        let sized : all_sized place ≡ true = (and_parts (all_sized place) _ (sym (ap (list_all all_sized) is.kids) ∙ sized_kids x fits.sized)).0 in
        let t = target place reg sized parts.1 in
        let named = clobbered_named reg t in
        let inside = clobbers_nothing (head_of place).mode reg (home_of homes reg) refl named.1 in
        subst (λ e. Becomes x e (effect_of m.symbols m.others m.other (put x))) parts.2 (record {
          effect = inside.0;
          is = one_put Clobber x place refl is ∙ ap clobber_effect (target_put place reg named.0 t) ∙ inside.1;
          becomes = inside.2;
          named = λ other same. subst m.Named (changed_one reg other same) named.1;
          defines = λ other same. subst (λ r. effect_defines r x ≡ true) (changed_one reg other same)
              (defines_place reg ∙ target_defined place reg (are.positive reg named.1) t);
          mentioned = λ other same. subst (λ r. mentions_reg r x ≡ true) (changed_one reg other same)
              (mentions_kid x reg (ap (list_any (mentions_reg reg)) is.kids ∙ or_left (mentions_reg reg place) false (target_mentioned place reg t)));
          stored = λ w at value same. absurd (let no : ⊥ = cc in no);
          only = λ other is_it. ap (λ r. Some r) (target_only place reg other t (sym (defines_place other) ∙ is_it));
        })

    -- memory and a scratch are left
    left_becomes : (c : Code) (e : Effect) → (head_of place).code ≡ c → is_over c ≡ true → ((reg : Option ℕ) → clobber_by c reg ≡ Some Nothing) →
        ◌≡◌ {A = Option Effect} (Some Nothing) (Some e) → Becomes x e (effect_of m.symbols m.others m.other (put x))
    left_becomes c e code over_code leaves same = nothing_becomes x e _
        (λ reg is_it. no_target c place reg code over_code (sym (defines_place reg) ∙ is_it)) same
        (one_put Clobber x place refl is
        ∙ ap (λ c. clobber_by c (register_of (put place)))
        (ap (λ y. (head_of y).code) (over place (ap is_over code ∙ over_code)) ∙ ap (λ h. h.code) (head_of-tree (head_of place) (map put (kids_of place))) ∙ code)
        ∙ leaves (register_of (put place)))

    clobber_becomes : (c : Code) (e : Effect) → (head_of place).code ≡ c → clobber_by c (register_of place) ≡ Some e →
        Becomes x e (effect_of m.symbols m.others m.other (put x))
    clobber_becomes Mem e code has = left_becomes Mem e code refl (λ reg. refl) has
    clobber_becomes Scratch e code has = left_becomes Scratch e code refl (λ reg. refl) has
    clobber_becomes _ e code has = unset_becomes e has

  -- ---- each element

  element_by : (c : Code) (x : Rtx) (kids : List Rtx) (e : Effect) → (head_of x).code ≡ c → kids_of x ≡ kids → Fits x →
      effect_by c kids m.symbols m.regs m.memory ≡ Some e → Becomes x e (effect_of m.symbols m.others m.other (put x))
  element_by Set x (place ∷ source ∷ []) e code are_kids fits has =
      wide_becomes x place source (record { code = code; kids = are_kids }) fits (width_of (head_of place).mode) e refl has
  element_by Use x (part ∷ []) e code are_kids fits has =
      nothing_becomes x e _ (λ reg is_it. false≢true (sym (ap (λ c. effect_defines_by reg c (kids_of x)) code) ∙ is_it)) has
      (one_put Use x part refl (record { code = code; kids = are_kids }))
  element_by Clobber x (place ∷ []) e code are_kids fits has =
      clobber_becomes x place (record { code = code; kids = are_kids }) fits (head_of place).code e refl has
  element_by _ x kids e code are_kids fits has = absurd (let no : ⊥ = cc in no)

  -- the effect of an element becomes one of the element with homes put in
  pub element_becomes : (x : Rtx) (e : Effect) → Fits x → effect_of m.symbols m.regs m.memory x ≡ Some e →
      Becomes x e (effect_of m.symbols m.others m.other (put x))
  element_becomes x e fits has = element_by (head_of x).code x (kids_of x) e refl refl fits has
