-- The base that reload knows of an operand stands in its slot, once homes are put in.
use Rattle.std.proofs.Common.{◌≡◌, ℕ, ◌<◌, ◌^◌, Bool, true, false, if◌then◌else◌, List, [], ◌∷◌, map, Option, Some, None, refl, sym, ap, subst, ◌∙◌}
use Rattle.std.specs.Prelude.{ℤ, pos, negsuc, option_and_then}
use Rattle.law_operands_replaced.specs.rtx_tree.Tree.{RtxHead, head_of, kids_of, node_of}
use Rattle.law_operands_replaced.specs.rtx_tree.declared.code.Code.{Code}
use Rattle.law_operands_replaced.specs.rtx_tree.declared.code.Code.TheVariants as code
use Rattle.law_operands_replaced.specs.rtx_tree.declared.code.Mode.{Mode}
use Rattle.law_operands_replaced.specs.rtx_tree.declared.code.Mode.TheVariants.{Void, QI, HI, SI, DI}
use Rattle.law_operands_replaced.specs.rtx_tree.declared.tree.Rtx.{Rtx}
use Rattle.law_operands_replaced.proofs.rtx_tree.Trees.{head_of-tree, kids_of-tree}
use Rattle.law_operands_replaced.specs.rtl_func.Shapes.{mode_at}
use Rattle.md_operand.specs.Operand.{is_constant, is_constant_code}
use Rattle.assign.specs.declared.home.Home.{Home}
use Rattle.assign.specs.declared.home.Home.TheVariants.{Hard, Slot}
use Rattle.assign.specs.declared.home.HomeOf.{HomeOf}
use Rattle.assign.specs.declared.places.Layout.{Layout}
use Rattle.reload_homes.specs.Homes.{home_of, register_in, register_numbered, register_by, register_at, place_by, homed}
use Rattle.reload_homes.specs.Homes as place_homes
use Rattle.reload_homes.proofs.Rewrites.{homed_register, homed_over}
use Rattle.reload_homes.proofs.Wrapping.{number_wraps}
use Rattle.law_operands_replaced.specs.reload_operands.Bases.{is_slot, lives_in_slot, base_in, base_with, base_of_sum, base_at, base_in_mode, base_of_address, base_by, base_of}
use Rattle.law_operands_replaced.specs.reload_operands.declared.operand.Base.{Base}
use Rattle.reload_choice.specs.reload_fit.Addressed.{address_on}
use Rattle.law_operands_fetched.proofs.Based.{slot_of, OnSlot, added, IsBased, place}
use Rattle.law_operands_fetched.proofs.Based as based

pub numbered_is : (c : Code) (n : ℤ) (reg : ℕ) → register_numbered c n ≡ Some reg → (c ≡ code.Reg) × (n ≡ pos reg)
numbered_is code.Reg (pos n) reg is = (refl, (let e : n ≡ reg = cc in ap pos e))
numbered_is code.Reg (negsuc n) reg is = absurd (let no : ⊥ = cc in no)
numbered_is _ n reg is = absurd (let no : ⊥ = cc in no)

constant_is : (c : Code) → is_constant_code c ≡ true → c ≡ code.ConstInt
constant_is code.ConstInt is = refl
constant_is _ is = absurd (let no : ⊥ = cc in no)

-- ---- trees that are no register and no low part

abbrev is_whole_code : Code → Bool
is_whole_code code.Reg = false
is_whole_code code.Subreg = false
is_whole_code _ = true

no_register : (c : Code) (x : Rtx) (kids : List Rtx) → (head_of x).code ≡ c → is_whole_code c ≡ true → register_by c x kids ≡ None
no_register code.Reg x kids is whole = absurd (let no : ⊥ = cc in no)
no_register code.Subreg x kids is whole = absurd (let no : ⊥ = cc in no)
no_register c x kids is whole = by c whole ∙ nothing c (head_of x).number whole is
  where
    by : (c : Code) → is_whole_code c ≡ true → register_by c x kids ≡ register_in x
    by code.Reg whole = refl
    by code.Subreg whole = absurd (let no : ⊥ = cc in no)
    by _ whole = refl

    none : (c : Code) (n : ℤ) → is_whole_code c ≡ true → register_numbered c n ≡ None
    none code.Reg n whole = absurd (let no : ⊥ = cc in no)
    none _ n whole = refl

    nothing : (c : Code) (n : ℤ) → is_whole_code c ≡ true → (head_of x).code ≡ c → register_in x ≡ None
    nothing c n whole is = ap (λ c. register_numbered c (head_of x).number) is ∙ none c (head_of x).number whole

-- ---- what a base is

record IsBaseOf (homes : List HomeOf) (layout : Layout) (n : ℤ) (x : Rtx) (b : Base) : Type 0 where
  reg : ℕ
  register_is : register_in x ≡ Some reg
  home_is : home_of homes reg ≡ Slot
  base_is : record { slot = place_homes.slot_offset layout reg; added = n } ≡ b

slot_home : (h : Home) → is_slot h ≡ true → h ≡ Slot
slot_home Slot is = refl
slot_home (Hard hard) is = absurd (let no : ⊥ = cc in no)

base_of_by : (homes' : List HomeOf) (layout : Layout) (n : ℤ) (x : Rtx) (b : Base) (o : Option ℕ) → register_in x ≡ o →
    option_and_then (base_in homes' layout n) o ≡ Some b → IsBaseOf homes' layout n x b
base_of_by homes' layout n x b None is at = absurd (let no : ⊥ = cc in no)
base_of_by homes' layout n x b (Some reg) is at = by (lives_in_slot homes' reg) refl at
  where
    by : (lives : Bool) → lives_in_slot homes' reg ≡ lives → (if lives then Some
        (let b : Base = record { slot = place_homes.slot_offset layout reg; added = n } in b) else None) ≡ Some b →
        IsBaseOf homes' layout n x b
    by true lives at = record {
      reg = reg;
      register_is = is;
      home_is = slot_home (home_of homes' reg) lives;
      base_is = let same : record { slot = place_homes.slot_offset layout reg; added = n } ≡ b = cc in same;
    }
    by false lives at = absurd (let no : ⊥ = cc in no)

module _ (all : List HomeOf) (layout : Layout) (few : (reg : ℕ) → home_of all reg ≡ Slot →
    place_homes.slot_offset layout reg < 2 ^ 64) where
  abbrev hm : Rtx → Rtx
  hm = homed all layout

  -- a register in a slot becomes the memory of its slot
  slot_there : (x : Rtx) (n : ℤ) (b : Base) → IsBaseOf all layout n x b → hm x ≡ slot_of (head_of x).mode b
  slot_there x n b is =
      let r = numbered_is (head_of x).code (head_of x).number is.reg is.register_is in
      let at : register_at x ≡ Some is.reg = ap (λ c. register_by c x (kids_of x)) r.0 ∙ is.register_is in
      homed_register all layout x is.reg at ∙ ap (place_by layout (head_of x).mode is.reg) is.home_is ∙
      ap (λ m. node_of code.Mem (head_of x).mode (address_on 2 m ∷ []))
      (sym (number_wraps (place_homes.slot_offset layout is.reg) (few is.reg is.home_is))) ∙
      ap (slot_of (head_of x).mode) is.base_is

  constant_there : (c : Rtx) → (head_of c).code ≡ code.ConstInt → head_of (hm c) ≡ head_of c
  constant_there c is =
      ap head_of (homed_over all layout c (no_register (head_of c).code c (kids_of c) refl (ap is_whole_code is))) ∙
      head_of-tree (head_of c) (map hm (kids_of c))

  over_there : (x : Rtx) → is_whole_code (head_of x).code ≡ true → (head_of (hm x) ≡ head_of x) × (kids_of (hm x) ≡ map hm (kids_of x))
  over_there x is =
      let e = homed_over all layout x (no_register (head_of x).code x (kids_of x) refl is) in
      (ap head_of e ∙ head_of-tree (head_of x) (map hm (kids_of x)), ap kids_of e ∙ kids_of-tree (head_of x) (map hm (kids_of x)))

  added_is : (b : Base) (n : ℤ) (x : Rtx) → IsBaseOf all layout n x b → n ≡ b.added
  added_is b n x is = ap (λ (b : Base). b.added) is.base_is

  sum_by : (a : Rtx) (b : Base) (kids : List Rtx) → (head_of a).code ≡ code.Plus → kids_of a ≡ kids →
      base_of_sum all layout kids ≡ Some b → OnSlot b (hm a)
  sum_by a b [] is are at = absurd (let no : ⊥ = cc in no)
  sum_by a b (x ∷ []) is are at = absurd (let no : ⊥ = cc in no)
  sum_by a b (x ∷ c ∷ d ∷ kids) is are at = absurd (let no : ⊥ = cc in no)
  sum_by a b (x ∷ c ∷ []) is are at = by (is_constant c) refl at
    where
      by : (constant : Bool) → is_constant c ≡ constant → (if constant then base_with all layout (head_of c).number x
          else None) ≡ Some b → OnSlot b (hm a)
      by false constant at = absurd (let no : ⊥ = cc in no)
      by true constant at =
          let base = base_of_by all layout (head_of c).number x b (register_in x) refl at in
          let k = constant_is (head_of c).code constant in
          let over = over_there a (ap is_whole_code is) in
          let same = constant_there c k in
          added (hm a) (hm c) (head_of x).mode (ap (λ (h : RtxHead). h.code) over.0 ∙ is)
          (over.1 ∙ ap (map hm) are ∙ ap (λ (y : Rtx). y ∷ hm c ∷ []) (slot_there x (head_of c).number b base))
          (ap (λ (h : RtxHead). h.code) same ∙ k) (ap (λ (h : RtxHead). h.number) same ∙ added_is b (head_of c).number x base)

  alone_by : (a : Rtx) (b : Base) → base_with all layout (pos 0) a ≡ Some b → OnSlot b (hm a)
  alone_by a b at =
      let base = base_of_by all layout (pos 0) a b (register_in a) refl at in
      subst (OnSlot b) (sym (slot_there a (pos 0) b base)) (based.alone (head_of a).mode (sym (added_is b (pos 0) a base)))

  at_by : (c : Code) (a : Rtx) (b : Base) → (head_of a).code ≡ c → base_at all layout c a ≡ Some b → OnSlot b (hm a)
  at_by code.Plus a b is at = sum_by a b (kids_of a) is refl at
  at_by _ a b is at = alone_by a b at

  in_mode : (m : Mode) (o : Option Base) (b : Base) → base_in_mode m o ≡ Some b → (m ≡ DI) × (o ≡ Some b)
  in_mode DI o b at = (refl, at)
  in_mode Void o b at = absurd (let no : ⊥ = cc in no)
  in_mode QI o b at = absurd (let no : ⊥ = cc in no)
  in_mode HI o b at = absurd (let no : ⊥ = cc in no)
  in_mode SI o b at = absurd (let no : ⊥ = cc in no)

  address_is : (a : Rtx) (b : Base) → base_of_address all layout a ≡ Some b → ((head_of a).mode ≡ DI) × OnSlot b (hm a)
  address_is a b at = let m = in_mode (head_of a).mode (base_at all layout (head_of a).code a) b at in
      (m.0, at_by (head_of a).code a b refl m.1)

  kinds_by : (c : Code) (x : Rtx) (kids : List Rtx) (b : Base) → (head_of x).code ≡ c → kids_of x ≡ kids →
      base_by all layout c x kids ≡ Some b → IsBased b (hm x)
  kinds_by code.Mem x (a ∷ []) b is are at =
      let over = over_there x (ap is_whole_code is) in
      place (hm x) (hm a) (ap (λ (h : RtxHead). h.code) over.0 ∙ is) (over.1 ∙ ap (map hm) are) (address_is a b at).1
  kinds_by code.Mem x [] b is are at = absurd (let no : ⊥ = cc in no)
  kinds_by code.Mem x (a ∷ a' ∷ kids) b is are at = absurd (let no : ⊥ = cc in no)
  kinds_by code.Plus x kids b is are at =
      let over = over_there x (ap is_whole_code is) in
      let m = address_is x b at in
      based.alone (hm x) (ap (λ (h : RtxHead). h.code) over.0 ∙ is) (ap (λ (h : RtxHead). h.mode) over.0 ∙ m.0) m.1
  kinds_by _ x kids b is are at = absurd (let no : ⊥ = cc in no)

  -- the base of an operand stands in its slot
  pub based_there : (x : Rtx) (b : Base) → base_of all layout x ≡ Some b → IsBased b (hm x)
  based_there x b at = kinds_by (head_of x).code x (kids_of x) b refl refl at

  -- ---- its slot

  -- the register whose slot it is
  pub record HasSlot (b : Base) : Type 0 where
    pub reg : ℕ
    pub home_is : home_of all reg ≡ Slot
    pub slot_is : b.slot ≡ place_homes.slot_offset layout reg

  slot_by : (n : ℤ) (x : Rtx) (b : Base) → base_with all layout n x ≡ Some b → HasSlot b
  slot_by n x b at = let base = base_of_by all layout n x b (register_in x) refl at in
      record { reg = base.reg; home_is = base.home_is; slot_is = sym (ap (λ (b : Base). b.slot) base.base_is) }

  sum_slot : (kids : List Rtx) (b : Base) → base_of_sum all layout kids ≡ Some b → HasSlot b
  sum_slot [] b at = absurd (let no : ⊥ = cc in no)
  sum_slot (x ∷ []) b at = absurd (let no : ⊥ = cc in no)
  sum_slot (x ∷ c ∷ d ∷ kids) b at = absurd (let no : ⊥ = cc in no)
  sum_slot (x ∷ c ∷ []) b at = by (is_constant c) at
    where
      by : (constant : Bool) → (if constant then base_with all layout (head_of c).number x else None) ≡ Some b → HasSlot b
      by false at = absurd (let no : ⊥ = cc in no)
      by true at = slot_by (head_of c).number x b at

  at_slot : (c : Code) (a : Rtx) (b : Base) → base_at all layout c a ≡ Some b → HasSlot b
  at_slot code.Plus a b at = sum_slot (kids_of a) b at
  at_slot _ a b at = slot_by (pos 0) a b at

  address_slot : (a : Rtx) (b : Base) → base_of_address all layout a ≡ Some b → HasSlot b
  address_slot a b at = at_slot (head_of a).code a b (in_mode (head_of a).mode (base_at all layout (head_of a).code a) b at).1

  kinds_slot : (c : Code) (x : Rtx) (kids : List Rtx) (b : Base) → base_by all layout c x kids ≡ Some b → HasSlot b
  kinds_slot code.Mem x (a ∷ []) b at = address_slot a b at
  kinds_slot code.Mem x [] b at = absurd (let no : ⊥ = cc in no)
  kinds_slot code.Mem x (a ∷ a' ∷ kids) b at = absurd (let no : ⊥ = cc in no)
  kinds_slot code.Plus x kids b at = address_slot x b at
  kinds_slot _ x kids b at = absurd (let no : ⊥ = cc in no)

  pub slot_there_is : (x : Rtx) (b : Base) → base_of all layout x ≡ Some b → HasSlot b
  slot_there_is x b at = kinds_slot (head_of x).code x (kids_of x) b at

  -- ---- its mode

  mode_by : (x : Rtx) (o : Option ℕ) → register_at x ≡ o → mode_at (hm x) ≡ mode_at x
  mode_by x None at = ap mode_at (homed_over all layout x at) ∙ ap (λ (h : RtxHead). h.mode) (head_of-tree (head_of x) (map hm (kids_of x)))
  mode_by x (Some reg) at = ap mode_at (homed_register all layout x reg at) ∙ by (home_of all reg)
    where
      by : (h : Home) → mode_at (place_by layout (head_of x).mode reg h) ≡ mode_at x
      by (Hard hard) = ap (λ (h : RtxHead). h.mode) (head_of-tree _ _)
      by Slot = ap (λ (h : RtxHead). h.mode) (head_of-tree _ _)

  pub mode_there : (x : Rtx) → mode_at (hm x) ≡ mode_at x
  mode_there x = mode_by x (register_at x) refl
