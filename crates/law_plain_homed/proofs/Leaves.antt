-- What an operand is once registers have homes.
use Rattle.std.proofs.Common.{◌≡◌, ℕ, ℤ, pos, Bool, true, false, List, [], ◌∷◌, map, Option, Some, None, refl, sym, ap, ◌∙◌}
use Rattle.std.specs.Option.{option_map_or}
use Rattle.rtx_tree.specs.declared.code.Code.{Code}
use Rattle.rtx_tree.specs.declared.code.Code.TheVariants as code
use Rattle.rtx_tree.specs.declared.code.Mode.{Mode}
use Rattle.rtx_tree.specs.declared.code.Mode.TheVariants.{Void, DI}
use Rattle.rtx_tree.specs.declared.tree.Rtx.{Rtx, out-roll-Rtx}
use Rattle.rtx_tree.specs.Tree.{RtxHead, head_of, kids_of, tree_of, node_of, const_of}
use Rattle.assign.specs.declared.home.Home.{Home}
use Rattle.assign.specs.declared.home.Home.TheVariants.{Hard, Slot}
use Rattle.assign.specs.declared.home.HomeOf.{HomeOf}
use Rattle.assign.specs.declared.places.Layout.{Layout}
use Rattle.reload_homes.specs.Homes.{home_of, slot_address, place_by, place_for, register_numbered, register_in, register_by, register_at, homed}
use Rattle.reload_homes.proofs.Rewrites.{homed_register}
use Rattle.reload_operands.specs.declared.operand.Base.{Base}
use Rattle.reload_operands.specs.Bases.{is_slot, lives_in_slot, in_slot, base_by, base_of}
use Rattle.reload_operands.specs.Operands.{is_scratch_code}
use Rattle.law_plain_standing.proofs.Sorts as sorts
use Rattle.law_plain_standing.proofs.Sorts.{Sort}
use Rattle.law_plain_homed.proofs.Nodes.{no_register, over}

module _ (homes : List HomeOf) (layout : Layout) where
  -- a tree is an operand of a sort
  pub record HasSort (x : Rtx) (s : Sort) : Type 0 where
    pub tree_is : homed homes layout x ≡ sorts.tree s
    pub slot_is : in_slot homes x ≡ sorts.in_slot s
    pub base_is : base_of homes layout x ≡ sorts.base s
    pub unscratched : is_scratch_code (head_of x).code ≡ false

  -- ---- a register, or the low part of one

  abbrev pub sort_of : Mode → ℕ → Home → Sort
  sort_of m reg (Hard hard) = sorts.register m hard
  sort_of m reg Slot = sorts.slot m (slot_address layout reg)

  baseless : (c : Code) (x : Rtx) (kids : List Rtx) (reg : ℕ) → (head_of x).code ≡ c → register_by c x kids ≡ Some reg → (base_by homes layout c x kids ≡ None) × (is_scratch_code c ≡ false)
  baseless code.Reg x kids reg is at = (refl, refl)
  baseless code.Subreg x kids reg is at = (refl, refl)
  baseless code.Mem x kids reg is at = absurd (refuted (ap (λ c. register_numbered c (head_of x).number) (sym is) ∙ at))
    where
      refuted : None ≡ Some reg → ⊥
      refuted same = let no : ⊥ = cc in no
  baseless code.Plus x kids reg is at = absurd (refuted (ap (λ c. register_numbered c (head_of x).number) (sym is) ∙ at))
    where
      refuted : None ≡ Some reg → ⊥
      refuted same = let no : ⊥ = cc in no
  baseless code.Scratch x kids reg is at = absurd (refuted (ap (λ c. register_numbered c (head_of x).number) (sym is) ∙ at))
    where
      refuted : None ≡ Some reg → ⊥
      refuted same = let no : ⊥ = cc in no
  baseless _ x kids reg is at = (refl, refl)

  module _ (x : Rtx) (m : Mode) (reg : ℕ) (at : register_at x ≡ Some reg) (moded : (head_of x).mode ≡ m) where
    abbrev free : (base_of homes layout x ≡ None) × (is_scratch_code (head_of x).code ≡ false)
    free = baseless (head_of x).code x (kids_of x) reg refl at

    placed : (h : Home) → home_of homes reg ≡ h → homed homes layout x ≡ place_by layout m reg h
    placed h home = homed_register homes layout x reg at ∙ (ap (λ m. place_for homes layout m reg) moded ∙ ap (place_by layout m reg) home)

    slotted : (h : Home) → home_of homes reg ≡ h → in_slot homes x ≡ is_slot h
    slotted h home = ap (λ o. option_map_or (lives_in_slot homes) o false) at ∙ ap is_slot home

    pub register_sort : (h : Home) → home_of homes reg ≡ h → HasSort x (sort_of m reg h)
    register_sort (Hard hard) home = record { tree_is = placed (Hard hard) home; slot_is = slotted (Hard hard) home; base_is = free.0; unscratched = free.1 }
    register_sort Slot home = record { tree_is = placed Slot home; slot_is = slotted Slot home; base_is = free.0; unscratched = free.1 }

  -- ---- what is no register

  unslotted : (x : Rtx) → register_at x ≡ None → in_slot homes x ≡ false
  unslotted x none = ap (λ o. option_map_or (lives_in_slot homes) o false) none

  pub number_sort : (z : ℤ) → HasSort (const_of z) (sorts.number z)
  number_sort z =
      let h : RtxHead = record { code = code.ConstInt; mode = Void; number = z; name = [] } in
      let out = out-roll-Rtx (record { code = code.ConstInt; mode = Void; number = z; name = []; kids = [] }) in
      record {
        tree_is = over homes layout h [] refl;
        slot_is = unslotted (const_of z) (no_register (const_of z) code.ConstInt (ap (λ o. o.code) out) refl);
        base_is = ap (λ o. base_by homes layout o.code (const_of z) o.kids) out;
        unscratched = ap (λ o. is_scratch_code o.code) out;
      }

  pub symbol_sort : (z : ℤ) (name : List ℕ) → HasSort (sorts.tree (sorts.symbol z name)) (sorts.symbol z name)
  symbol_sort z name =
      let h : RtxHead = record { code = code.SymbolRef; mode = DI; number = z; name = name } in
      let x = tree_of h [] in
      let out = out-roll-Rtx (record { code = code.SymbolRef; mode = DI; number = z; name = name; kids = [] }) in
      record {
        tree_is = over homes layout h [] refl;
        slot_is = unslotted x (no_register x code.SymbolRef (ap (λ o. o.code) out) refl);
        base_is = ap (λ o. base_by homes layout o.code x o.kids) out;
        unscratched = ap (λ o. is_scratch_code o.code) out;
      }

  pub memory_sort : (m : Mode) (address : Rtx) → HasSort (node_of code.Mem m (address ∷ [])) (sorts.memory m (homed homes layout address) (base_of homes layout (node_of code.Mem m (address ∷ []))))
  memory_sort m address =
      let h : RtxHead = record { code = code.Mem; mode = m; number = pos 0; name = [] } in
      let x = node_of code.Mem m (address ∷ []) in
      let out = out-roll-Rtx (record { code = code.Mem; mode = m; number = pos 0; name = []; kids = address ∷ [] }) in
      record {
        tree_is = over homes layout h (address ∷ []) refl;
        slot_is = unslotted x (no_register x code.Mem (ap (λ o. o.code) out) refl);
        base_is = refl;
        unscratched = ap (λ o. is_scratch_code o.code) out;
      }
