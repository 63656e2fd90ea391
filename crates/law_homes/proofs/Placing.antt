-- Where what is known of registers stands in their homes, a tree with homes put in has the value of the tree.
use Rattle.std.proofs.Common.{◌≡◌, ℕ, ◌+◌, ◌<◌, ◌≤◌, ◌^◌, ◌&&◌, ◌⊎◌, inl, inr, Bool, true, false, List, [], ◌∷◌, map, Option, Some, None, refl, sym, ap, subst, ◌∙◌, arith, ◌%◌}
use Rattle.std.proofs.lemmas.Bool.{false≢true, and_parts, or_left, or_right}
use Rattle.std.proofs.lemmas.Bool.Decides.{Decides-int_eq}
use Rattle.std.specs.Int.{cast_unsigned, int_wrap, w64}
use Rattle.std.specs.List.{AllByRecursion, list_all, list_any}
use Rattle.std.specs.Ordering.{int_eq}
use Rattle.std.specs.Prelude.{ℤ, pos, negsuc, ◌+ℤ◌, is_some, if◌then◌else◌}
use Rattle.bits64.specs.Words.{low, sum_of}
use Rattle.bits64.specs.declared.Width.{Width}
use Rattle.bits64.specs.declared.Width.TheVariants.{W64}
use Rattle.rtx_tree.specs.Code.{class_of_code}
use Rattle.rtx_tree.specs.Tree.{head_of, kids_of, tree_of, node_of, reg_of, const_of, is_reg_numbered, mentions_reg}
use Rattle.rtx_tree.specs.declared.code.Code.{Code}
use Rattle.rtx_tree.specs.declared.code.Code.TheVariants.{Reg, Subreg, Plus}
use Rattle.rtx_tree.specs.declared.code.Mode.{Mode}
use Rattle.rtx_tree.specs.declared.code.Mode.TheVariants.{DI}
use Rattle.rtx_tree.specs.declared.machine.SymbolAt.{SymbolAt}
use Rattle.rtx_tree.specs.declared.memories.MemByte.{MemByte}
use Rattle.rtx_tree.specs.declared.tree.Rtx.{Rtx, out-Rtx, out-roll-Rtx}
use Rattle.rtx_tree.specs.declared.tree.Rtx.TheOpen.{Rtx-F}
use Rattle.rtx_tree.proofs.Trees.{head_of-tree, kids_of-tree, mentions_out}
use Rattle.run_memory.specs.RunMemory.{load}
use Rattle.rtl_step.specs.Regs.{Regs, reg_value}
use Rattle.rtl_step.specs.Value.{Reading, width_of, value_of, of_one}
use Rattle.rtl_step.proofs.Too.{Too, too_two}
use Rattle.rtl_step.proofs.Readings.{AllRead}
use Rattle.md_operand.specs.Addresses.{is_stack_vars, is_constant, is_any}
use Rattle.law_window_runs.specs.Beside.{Within}
use Rattle.assign.specs.declared.home.Home.{Home}
use Rattle.assign.specs.declared.home.Home.TheVariants.{Hard, Slot}
use Rattle.assign.specs.declared.home.HomeOf.{HomeOf}
use Rattle.assign.specs.declared.places.Layout.{Layout}
use Rattle.reload_homes.specs.FrameRefs.{in_bits, from_sp, offset_by, frame_offset, framed}
use Rattle.reload_homes.specs.Homes.{home_of, slot_offset, slot_address, place_by, place_for, register_numbered, register_in, register_by, register_at, homed}
use Rattle.reload_homes.proofs.Rewrites.{framed_reference, framed_over, homed_register, homed_over}
use Rattle.law_homes.specs.Stands.{content_in}
use Rattle.law_homes.specs.Placed.{is_sized, all_sized, placed}
use Rattle.law_homes.proofs.Grows.{leaf_too, value_grows}
use Rattle.law_homes.proofs.Offsets.{wrap_natural, wrap_sum, low_all, low_cut, from_sp_is, known_each, sum_low}
use Rattle.law_homes.proofs.Trees.{constant_code, tree_induction, sized_here, sized_kids, register_code, numbered, as_read, value_at, reg_is, mem_is, reg_alone, const_alone, lowpart_is, plus_is, mentions_kid}

-- ---- two machines of which the second has the registers of the first in their homes

-- the registers and the memory of each, the frame's lowest address and the address past it; which registers have homes, and which count
pub record Machines : Type 1 where
  pub symbols : List SymbolAt
  pub regs : Regs
  pub others : Regs
  pub memory : List MemByte
  pub other : List MemByte
  pub base : ℕ
  pub top : ℕ
  pub Named : ℕ → Type 0
  pub Counts : ℕ → Type 0

pub record AreHomed (homes : List HomeOf) (layout : Layout) (m : Machines) : Type 0 where
  pub within : Within m.memory m.other
  pub vars : reg_value m.regs 32 W64 ≡ Some m.top
  pub pointer : reg_value m.others 2 W64 ≡ Some m.base
  pub frame : m.base + layout.size ≡ m.top
  pub word : m.top < 2 ^ 64
  -- sp lives in itself
  pub sp_home : home_of homes 2 ≡ Hard 2
  pub values : (reg : ℕ) → m.Counts reg → (w : Width) →
      Too (reg_value m.regs reg w) (content_in layout m.base m.others m.other reg (home_of homes reg) w)
  pub named : (reg : ℕ) → m.Counts reg → m.Named reg
  pub positive : (reg : ℕ) → m.Named reg → 0 < reg
  pub slot : (reg : ℕ) → m.Named reg → home_of homes reg ≡ Slot → slot_offset layout reg ≤ layout.size
  -- a slot has room for a store in each width
  pub there : (reg : ℕ) → m.Named reg → home_of homes reg ≡ Slot → (w : Width) →
      is_some (load w m.other (m.base + slot_offset layout reg)) ≡ true

-- ---- trees, and which registers they are

-- the register that a tree with these parts is, or of which it is the low part
abbrev pub parts_register : Code → ℤ → List Rtx → Option ℕ
parts_register Subreg n (inner ∷ []) = register_in inner
parts_register c n kids = register_numbered c n

register_by_parts : (c : Code) (x : Rtx) (kids : List Rtx) (n : ℤ) → register_in x ≡ register_numbered c n → register_by c x kids ≡ parts_register c n kids
register_by_parts Subreg x (inner ∷ []) n is = refl
register_by_parts c x kids n is = is

register_tree : (x : Rtx) (kids : List Rtx) → register_at (tree_of (head_of x) kids) ≡ parts_register (head_of x).code (head_of x).number kids
register_tree x kids =
    ap (λ h. register_by h.code (tree_of (head_of x) kids) (kids_of (tree_of (head_of x) kids))) (head_of-tree (head_of x) kids)
    ∙ ap (register_by (head_of x).code (tree_of (head_of x) kids)) (kids_of-tree (head_of x) kids)
    ∙ register_by_parts (head_of x).code (tree_of (head_of x) kids) kids (head_of x).number
    (ap (λ h. register_numbered h.code h.number) (head_of-tree (head_of x) kids))

pub maps : {A B C : Type 0} (f : B → C) (g : A → B) (xs : List A) → map f (map g xs) ≡ map (λ x. f (g x)) xs
maps f g [] = refl
maps f g (x ∷ xs) = ap (λ rest. f (g x) ∷ rest) (maps f g xs)

pub numbered_reg : (c : Code) (n : ℤ) (reg : ℕ) → register_numbered c n ≡ Some reg → (c ≡ Reg) × (n ≡ pos reg)
numbered_reg Reg (pos k) reg is = (refl, let same : k ≡ reg = cc in ap pos same)
numbered_reg Reg (negsuc k) reg is = absurd (let no : ⊥ = cc in no)
numbered_reg _ n reg is = absurd (let no : ⊥ = cc in no)

-- a register by itself
pub register_itself : (x : Rtx) (reg : ℕ) → register_in x ≡ Some reg → register_at x ≡ Some reg
register_itself x reg is = by (head_of x).code ((numbered_reg (head_of x).code (head_of x).number reg is).0) ∙ is
  where
    by : (c : Code) → c ≡ Reg → register_by c x (kids_of x) ≡ register_in x
    by Reg same = refl
    by _ same = absurd (let no : ⊥ = cc in no)

pub same_itself : (reg : ℕ) → is_reg_numbered Reg (pos reg) reg ≡ true
same_itself reg = (Decides-int_eq (pos reg) (pos reg)).1 refl

pub mentions_itself : (x : Rtx) (reg : ℕ) → (head_of x).code ≡ Reg → (head_of x).number ≡ pos reg → mentions_reg reg x ≡ true
mentions_itself x reg is number =
    mentions_out reg x
    ∙ or_left (is_reg_numbered (head_of x).code (head_of x).number reg) _
    (ap (λ c. is_reg_numbered c (head_of x).number reg) is ∙ ap (λ (n : ℤ). is_reg_numbered Reg n reg) number ∙ same_itself reg)

module _ (homes : List HomeOf) (layout : Layout) (m : Machines) (are : AreHomed homes layout m) where
  abbrev pub fr : Rtx → Rtx
  fr = framed layout.size

  abbrev pub hm : Rtx → Rtx
  hm = homed homes layout

  abbrev pub value : Rtx → Width → Option ℕ
  value x w = value_of m.symbols m.regs m.memory x w

  abbrev pub value_too : Rtx → Width → Option ℕ
  value_too x w = value_of m.symbols m.others m.other x w

  -- with homes put in a tree has its mode and its values
  pub record Stays (x : Rtx) : Type 0 where
    pub mode_is : (head_of (placed homes layout x)).mode ≡ (head_of x).mode
    pub values : (w : Width) → Too (value x w) (value_too (placed homes layout x) w)

  -- ---- what stands for a register

  pub mode_of_place : (mode : Mode) (reg : ℕ) (home : Home) → (head_of (place_by layout mode reg home)).mode ≡ mode
  mode_of_place mode reg (Hard hard) = ap (λ (o : Rtx-F Rtx). o.mode) (out-roll-Rtx _)
  mode_of_place mode reg Slot = ap (λ (o : Rtx-F Rtx). o.mode) (out-roll-Rtx _)

  -- its value asks no mode
  any_mode : (mode other : Mode) (reg : ℕ) (home : Home) (w : Width) →
      value_too (place_by layout mode reg home) w ≡ value_too (place_by layout other reg home) w
  any_mode mode other reg (Hard hard) w = reg_is m.symbols m.others m.other mode hard w ∙ sym (reg_is m.symbols m.others m.other other hard w)
  any_mode mode other reg Slot w =
      mem_is m.symbols m.others m.other mode (slot_address layout reg) w ∙ sym (mem_is m.symbols m.others m.other other (slot_address layout reg) w)

  pub slot_at : (reg : ℕ) → slot_offset layout reg ≤ layout.size → value_too (slot_address layout reg) W64 ≡ Some (m.base + slot_offset layout reg)
  slot_at reg fits =
      from_sp_is m.symbols m.others m.other m.base are.pointer DI (pos (slot_offset layout reg)) W64
      ∙ ap (λ a. Some (low W64 (m.base + a))) (wrap_natural (slot_offset layout reg))
      ∙ ap Some (omega (arith, fits, are.frame, are.word))

  -- it is what stands in the home
  place_is : (mode : Mode) (reg : ℕ) (home : Home) (w : Width) → (home ≡ Slot → slot_offset layout reg ≤ layout.size) →
      value_too (place_by layout mode reg home) w ≡ content_in layout m.base m.others m.other reg home w
  place_is mode reg (Hard hard) w fits = reg_is m.symbols m.others m.other mode hard w
  place_is mode reg Slot w fits =
      mem_is m.symbols m.others m.other mode (slot_address layout reg) w ∙ ap (of_one (load w m.other)) (slot_at reg (fits refl))

  pub place_counts : (mode : Mode) (reg : ℕ) (w : Width) → m.Named reg →
      value_too (place_for homes layout mode reg) w ≡ content_in layout m.base m.others m.other reg (home_of homes reg) w
  place_counts mode reg w named =
      place_is mode reg (home_of homes reg) w (λ is. are.slot reg named is)

  -- ---- references to the frame

  homed_sp : (mode : Mode) → hm (reg_of mode 2) ≡ reg_of mode 2
  homed_sp mode =
      homed_register homes layout (reg_of mode 2) 2 (ap (λ (o : Rtx-F Rtx). register_by o.code (reg_of mode 2) o.kids) (out-roll-Rtx _) ∙ ap (λ (o : Rtx-F Rtx). register_numbered o.code o.number) (out-roll-Rtx _))
      ∙ ap (λ home. place_by layout (head_of (reg_of mode 2)).mode 2 home) are.sp_home
      ∙ ap (λ (o : Rtx-F Rtx). reg_of o.mode 2) (out-roll-Rtx _)

  homed_const : (n : ℤ) → hm (const_of n) ≡ const_of n
  homed_const n =
      homed_over homes layout (const_of n) (ap (λ (o : Rtx-F Rtx). register_by o.code (const_of n) o.kids) (out-roll-Rtx _) ∙ ap (λ (o : Rtx-F Rtx). register_numbered o.code o.number) (out-roll-Rtx _))
      ∙ ap (λ (o : Rtx-F Rtx). tree_of (record { code = o.code; mode = o.mode; number = o.number; name = o.name }) (map hm o.kids)) (out-roll-Rtx _)

  abbrev sum_with : Mode → ℤ → Rtx
  sum_with mode n = node_of Plus mode (reg_of mode 2 ∷ const_of n ∷ [])

  homed_sum : (mode : Mode) (n : ℤ) → hm (sum_with mode n) ≡ sum_with mode n
  homed_sum mode n =
      homed_over homes layout (sum_with mode n) (ap (λ (o : Rtx-F Rtx). register_by o.code (sum_with mode n) o.kids) (out-roll-Rtx _) ∙ ap (λ (o : Rtx-F Rtx). register_numbered o.code o.number) (out-roll-Rtx _))
      ∙ ap (λ (o : Rtx-F Rtx). tree_of (record { code = o.code; mode = o.mode; number = o.number; name = o.name }) (map hm o.kids)) (out-roll-Rtx _)
      ∙ ap (λ x. node_of Plus mode (x ∷ hm (const_of n) ∷ [])) (homed_sp mode)
      ∙ ap (λ x. node_of Plus mode (reg_of mode 2 ∷ x ∷ [])) (homed_const n)

  homed_by : (mode : Mode) (n : ℤ) (b : Bool) → hm (if b then reg_of mode 2 else sum_with mode n) ≡ (if b then reg_of mode 2 else sum_with mode n)
  homed_by mode n true = homed_sp mode
  homed_by mode n false = homed_sum mode n

  homed_from_sp : (mode : Mode) (n : ℤ) → hm (from_sp mode n) ≡ from_sp mode n
  homed_from_sp mode n = homed_by mode (int_wrap w64 n) (int_eq (int_wrap w64 n) (pos 0))

  mode_by : (mode : Mode) (n : ℤ) (b : Bool) → (head_of (if b then reg_of mode 2 else sum_with mode n)).mode ≡ mode
  mode_by mode n true = ap (λ (o : Rtx-F Rtx). o.mode) (out-roll-Rtx _)
  mode_by mode n false = ap (λ (o : Rtx-F Rtx). o.mode) (out-roll-Rtx _)

  pub placed_reference : (x : Rtx) (c : ℤ) → frame_offset x ≡ Some c → placed homes layout x ≡ from_sp (head_of x).mode (pos layout.size +ℤ c)
  placed_reference x c is = ap hm (framed_reference layout.size x c is) ∙ homed_from_sp (head_of x).mode (pos layout.size +ℤ c)

  vars_alone : (x : Rtx) (w : Width) → is_stack_vars x ≡ true → Too (value x w) (Some (low w m.top))
  vars_alone x w is =
      let here = numbered (out-Rtx x).code (out-Rtx x).number 32 is in
      λ v has. sym (known_each m.regs 32 m.top w are.vars) ∙ reg_alone m.symbols m.regs m.memory x (pos 32) w here.0 here.1 v has

  added : (b : Bool) (n c : ℤ) → (if b then Some n else None) ≡ Some c → (b ≡ true) × (n ≡ c)
  added true n c is = (refl, let same : n ≡ c = cc in same)
  added false n c is = absurd (let no : ⊥ = cc in no)

  plus_nothing : (w : Width) → Some (low w m.top) ≡ Some (low w (m.top + cast_unsigned w64 (pos 0)))
  plus_nothing w = let same : m.top ≡ m.top + cast_unsigned w64 (pos 0) = omega arith in ap (λ a. Some (low w a)) same

  -- the low bits of a constant, as it wraps
  low_bits : (w : Width) (n c : ℤ) → in_bits n ≡ c → low w (cast_unsigned w64 n) ≡ low w (cast_unsigned w64 c)
  low_bits w n c is =
      sym (low_all w (cast_unsigned w64 n)) ∙ ap (low w) (sym (wrap_natural (cast_unsigned w64 n)) ∙ ap (cast_unsigned w64) is)

  -- what a reference to the frame is worth
  reference_by : (code : Code) (x : Rtx) (kids : List Rtx) (c : ℤ) (w : Width) → (out-Rtx x).code ≡ code → (out-Rtx x).kids ≡ kids →
      offset_by code x kids ≡ Some c → Too (value x w) (Some (low w (m.top + cast_unsigned w64 c)))
  reference_by Plus x (a ∷ b ∷ []) c w is are_kids off =
      let both = added (is_stack_vars a && is_constant is_any b) (in_bits (head_of b).number) c off in
      let tests = and_parts (is_stack_vars a) (is_constant is_any b) both.0 in
      let sums = too_two (λ m n. Some (sum_of w m n)) (value a w) (Some (low w m.top)) (value b w) (Some (low w (cast_unsigned w64 c)))
      (vars_alone a w tests.0)
      (subst (λ bits. Too (value b w) (Some bits)) (low_bits w (head_of b).number c both.1)
      (const_alone m.symbols m.regs m.memory b (head_of b).number w (constant_code (out-Rtx b).code (out-Rtx b).number tests.1) refl)) in
      λ v has. ap Some (sym (sum_low w m.top (cast_unsigned w64 c))) ∙ sums v (sym (plus_is m.symbols m.regs m.memory x a b w is are_kids) ∙ has)
  reference_by _ x kids c w is are_kids off =
      let both = added (is_stack_vars x) (pos 0) c off in
      λ v has. ap (λ (z : ℤ). Some (low w (m.top + cast_unsigned w64 z))) (sym both.1) ∙ sym (plus_nothing w) ∙ vars_alone x w both.0 v has

  wrap_nothing : int_wrap w64 (pos 0) ≡ pos 0
  unfolding int_wrap
  wrap_nothing = refl

  -- what it adds has wrapped
  offset_wraps : (code : Code) (x : Rtx) (kids : List Rtx) (c : ℤ) → offset_by code x kids ≡ Some c → (bits : ℕ) × (c ≡ int_wrap w64 (pos bits))
  offset_wraps Plus x (a ∷ b ∷ []) c off =
      (cast_unsigned w64 (head_of b).number, sym (added (is_stack_vars a && is_constant is_any b) (in_bits (head_of b).number) c off).1)
  offset_wraps _ x kids c off = (0, sym (added (is_stack_vars x) (pos 0) c off).1 ∙ sym wrap_nothing)

  offset_sum : (x : Rtx) (c : ℤ) → frame_offset x ≡ Some c →
      cast_unsigned w64 (int_wrap w64 (pos layout.size +ℤ c)) ≡ (layout.size + cast_unsigned w64 c) % 2 ^ 64
  offset_sum x c is =
      let wraps = offset_wraps (out-Rtx x).code x (out-Rtx x).kids c is in
      subst (λ (z : ℤ). cast_unsigned w64 (int_wrap w64 (pos layout.size +ℤ z)) ≡ (layout.size + cast_unsigned w64 z) % 2 ^ 64) (sym wraps.1)
      (wrap_sum layout.size wraps.0)

  reference_stays : (x : Rtx) (c : ℤ) → frame_offset x ≡ Some c → Stays x
  reference_stays x c is = record {
    mode_is = ap (λ y. (head_of y).mode) (placed_reference x c is) ∙ mode_by (head_of x).mode (int_wrap w64 (pos layout.size +ℤ c)) (int_eq (int_wrap w64 (pos layout.size +ℤ c)) (pos 0));
    values = λ w v has.
        ap (λ y. value_too y w) (placed_reference x c is)
        ∙ from_sp_is m.symbols m.others m.other m.base are.pointer (head_of x).mode (pos layout.size +ℤ c) w
        ∙ ap (λ a. Some (low w (m.base + a))) (offset_sum x c is)
        ∙ ap Some (low_cut w m.base (layout.size + cast_unsigned w64 c))
        ∙ ap (λ a. Some (low w a)) (let frame = are.frame in omega (arith, frame))
        ∙ reference_by (out-Rtx x).code x (out-Rtx x).kids c w refl refl is v has;
  }

  -- ---- any other tree

  abbrev pub framed_kids : Rtx → List Rtx
  framed_kids x = map fr (kids_of x)

  placed_other : (x : Rtx) → frame_offset x ≡ None → placed homes layout x ≡ hm (tree_of (head_of x) (framed_kids x))
  placed_other x none = ap hm (framed_over layout.size x none)

  pub placed_register : (x : Rtx) (reg : ℕ) → frame_offset x ≡ None → parts_register (head_of x).code (head_of x).number (framed_kids x) ≡ Some reg →
      placed homes layout x ≡ place_for homes layout (head_of x).mode reg
  placed_register x reg none is =
      placed_other x none
      ∙ homed_register homes layout (tree_of (head_of x) (framed_kids x)) reg (register_tree x (framed_kids x) ∙ is)
      ∙ ap (λ h. place_for homes layout h.mode reg) (head_of-tree (head_of x) (framed_kids x))

  pub placed_over : (x : Rtx) → frame_offset x ≡ None → parts_register (head_of x).code (head_of x).number (framed_kids x) ≡ None →
      placed homes layout x ≡ tree_of (head_of x) (map (placed homes layout) (kids_of x))
  placed_over x none is =
      placed_other x none
      ∙ homed_over homes layout (tree_of (head_of x) (framed_kids x)) (register_tree x (framed_kids x) ∙ is)
      ∙ ap (λ h. tree_of h (map hm (kids_of (tree_of (head_of x) (framed_kids x))))) (head_of-tree (head_of x) (framed_kids x))
      ∙ ap (λ kids. tree_of (head_of x) (map hm kids)) (kids_of-tree (head_of x) (framed_kids x))
      ∙ ap (tree_of (head_of x)) (maps hm fr (kids_of x))

  -- a register
  abbrev pub IsKnown : Rtx → Type 0
  IsKnown x = (reg : ℕ) → mentions_reg reg x ≡ true → (reg ≡ 32) ⊎ m.Counts reg

  pub is_vars : (x : Rtx) → (head_of x).code ≡ Reg → (head_of x).number ≡ pos 32 → frame_offset x ≡ Some (pos 0)
  is_vars x is number =
      ap (λ c. offset_by c x (kids_of x)) is
      ∙ ap (λ b. if b then Some (pos 0) else None) (ap (λ c. is_reg_numbered c (head_of x).number 32) is ∙ ap (λ (n : ℤ). is_reg_numbered Reg n 32) number)

  which_counts : (x : Rtx) (reg : ℕ) → frame_offset x ≡ None → (head_of x).code ≡ Reg → (head_of x).number ≡ pos reg → (reg ≡ 32) ⊎ m.Counts reg → m.Counts reg
  which_counts x reg none is number (inl vars) =
      absurd (let no : Some (pos 0) ≡ None = sym (is_vars x is (number ∙ ap pos vars)) ∙ none in let never : ⊥ = cc in never)
  which_counts x reg none is number (inr counts) = counts

  register_stays : (x : Rtx) (reg : ℕ) → frame_offset x ≡ None → (head_of x).code ≡ Reg → (head_of x).number ≡ pos reg →
      placed homes layout x ≡ place_for homes layout (head_of x).mode reg → m.Counts reg → Stays x
  register_stays x reg none is number becomes counts = record {
    mode_is = ap (λ y. (head_of y).mode) becomes ∙ mode_of_place (head_of x).mode reg (home_of homes reg);
    values = λ w v has.
        ap (λ y. value_too y w) becomes
        ∙ place_counts (head_of x).mode reg w (are.named reg counts)
        ∙ are.values reg counts w v (reg_alone m.symbols m.regs m.memory x (pos reg) w is number v has);
  }

  -- the low part of one
  lowpart_stays : (x inner : Rtx) (reg : ℕ) → (head_of x).code ≡ Subreg → kids_of x ≡ inner ∷ [] → register_in (fr inner) ≡ Some reg →
      placed homes layout x ≡ place_for homes layout (head_of x).mode reg → Stays inner → Stays x
  lowpart_stays x inner reg is are_kids has_reg becomes stays =
      let inside : placed homes layout inner ≡ place_for homes layout (head_of (fr inner)).mode reg =
      homed_register homes layout (fr inner) reg (register_itself (fr inner) reg has_reg) in
      record {
        mode_is = ap (λ y. (head_of y).mode) becomes ∙ mode_of_place (head_of x).mode reg (home_of homes reg);
        values = λ w v has.
            ap (λ y. value_too y w) becomes
            ∙ any_mode (head_of x).mode (head_of (fr inner)).mode reg (home_of homes reg) w
            ∙ ap (λ y. value_too y w) (sym inside)
            ∙ stays.values w v (sym (lowpart_is m.symbols m.regs m.memory x inner w is are_kids) ∙ has);
      }

  -- a tree with its parts
  abbrev read_in : Rtx → Reading
  read_in = as_read m.symbols m.regs m.memory

  abbrev read_too : Rtx → Reading
  read_too = as_read m.symbols m.others m.other

  all_read : (kids : List Rtx) → AllByRecursion Stays kids → AllRead (map read_in kids) (map read_too (map (placed homes layout) kids))
  all_read [] stay = tt
  all_read (x ∷ kids) stay = (record { widths = ap width_of stay.0.mode_is; values = stay.0.values }, all_read kids stay.1)

  over_stays : (x : Rtx) → ((head_of x).code ≡ Reg → ⊥) → placed homes layout x ≡ tree_of (head_of x) (map (placed homes layout) (kids_of x)) →
      AllByRecursion Stays (kids_of x) → Stays x
  over_stays x none becomes stay = record {
    mode_is = ap (λ y. (head_of y).mode) becomes ∙ ap (λ h. h.mode) (head_of-tree (head_of x) (map (placed homes layout) (kids_of x)));
    values = λ w v has.
        ap (λ y. value_too y w) becomes
        ∙ value_at m.symbols m.others m.other (tree_of (head_of x) (map (placed homes layout) (kids_of x))) _ w (out-roll-Rtx _)
        ∙ value_grows m.symbols m.regs m.others m.memory m.other are.within
        (class_of_code (head_of x).code) (head_of x).code (head_of x).number (head_of x).name (map read_in (kids_of x))
        (map read_too (map (placed homes layout) (kids_of x))) w
        (leaf_too m.symbols m.regs m.others m.memory m.other are.within (class_of_code (head_of x).code) (head_of x).number (head_of x).name w (λ is. none (register_code (head_of x).code is)))
        (all_read (kids_of x) stay) v
        (sym (value_at m.symbols m.regs m.memory x (out-Rtx x) w refl) ∙ has);
  }

  -- ---- each tree

  pub which : (c : Code) (n : ℤ) (kids : List Rtx) (reg : ℕ) → parts_register c n (map fr kids) ≡ Some reg →
      ((c ≡ Reg) × (n ≡ pos reg)) ⊎ ((inner : Rtx) × (c ≡ Subreg) × (kids ≡ inner ∷ []) × (register_in (fr inner) ≡ Some reg))
  which Subreg n (inner ∷ []) reg is = inr (inner, refl, refl, is)
  which Reg n kids reg is = inl (numbered_reg Reg n reg is)
  which _ n kids reg is = absurd (let no : ⊥ = cc in no)

  pub no_register : (c : Code) (n : ℤ) (kids : List Rtx) → parts_register c n kids ≡ None → is_sized c n ≡ true → c ≡ Reg → ⊥
  no_register Reg (pos k) kids none sized same = let no : ⊥ = cc in no
  no_register Reg (negsuc k) kids none sized same = false≢true sized
  no_register _ n kids none sized same = let no : ⊥ = cc in no

  abbrev P : Rtx → Type 0
  P x = all_sized x ≡ true → IsKnown x → Stays x

  kids_stay : (kids : List Rtx) → AllByRecursion P kids → list_all all_sized kids ≡ true →
      ((reg : ℕ) → list_any (mentions_reg reg) kids ≡ true → (reg ≡ 32) ⊎ m.Counts reg) → AllByRecursion Stays kids
  kids_stay [] all sized known = tt
  kids_stay (x ∷ kids) all sized known =
      let both = and_parts (all_sized x) (list_all all_sized kids) sized in (
        all.0 both.0 (λ reg is. known reg (or_left (mentions_reg reg x) _ is)),
        kids_stay kids all.1 both.1 (λ reg is. known reg (or_right (mentions_reg reg x) _ is)),
      )

  only_kid : (x inner : Rtx) → kids_of x ≡ inner ∷ [] → AllByRecursion Stays (kids_of x) → Stays inner
  only_kid x inner is all = (subst (AllByRecursion Stays) is all).0

  found_stays : (x : Rtx) (reg : ℕ) → frame_offset x ≡ None → IsKnown x → AllByRecursion Stays (kids_of x) →
      parts_register (head_of x).code (head_of x).number (framed_kids x) ≡ Some reg → Stays x
  found_stays x reg none known kids is = elim (which (head_of x).code (head_of x).number (kids_of x) reg is) [
    | inl here ↦ register_stays x reg none here.0 here.1 (placed_register x reg none is)
        (which_counts x reg none here.0 here.1 (known reg (mentions_itself x reg here.0 here.1)))
    | inr low ↦ lowpart_stays x low.0 reg low.1 low.2 low.3 (placed_register x reg none is) (only_kid x low.0 low.2 kids)
  ]

  step : (x : Rtx) → AllByRecursion P (kids_of x) → P x
  step x all sized known = by (frame_offset x) (parts_register (head_of x).code (head_of x).number (framed_kids x)) refl refl
    where
      kids : AllByRecursion Stays (kids_of x)
      kids = kids_stay (kids_of x) all (sized_kids x sized) (λ reg is. known reg (mentions_kid x reg is))

      by : (offset : Option ℤ) (register : Option ℕ) → frame_offset x ≡ offset →
          parts_register (head_of x).code (head_of x).number (framed_kids x) ≡ register → Stays x
      by (Some c) register is reg = reference_stays x c is
      by None (Some reg) none is = found_stays x reg none known kids is
      by None None none is = over_stays x (no_register (head_of x).code (head_of x).number (framed_kids x) is (sized_here x sized)) (placed_over x none is) kids

  -- with homes put in a tree keeps its mode and its values
  pub placed_stays : (x : Rtx) → all_sized x ≡ true → IsKnown x → Stays x
  placed_stays = tree_induction P step
