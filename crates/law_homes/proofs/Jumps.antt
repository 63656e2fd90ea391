-- A jump with homes put in goes the same way.
use Rattle.std.proofs.Common.{◌≡◌, ℕ, ◌⊎◌, Bool, true, false, List, [], ◌∷◌, map, Option, Some, None, refl, sym, ap, ◌∙◌}
use Rattle.std.proofs.lemmas.Bool.{false≢true, and_parts, or_left}
use Rattle.std.specs.Int.{cast_unsigned, w64}
use Rattle.std.specs.List.{list_all, list_any}
use Rattle.std.specs.Prelude.{option_map, if◌then◌else◌}
use Rattle.bits64.specs.declared.Width.TheVariants.{W64}
use Rattle.rtx_tree.specs.Patterns.{is_pc, is_pc_code, label_uid, label_of}
use Rattle.rtx_tree.specs.Tree.{head_of, kids_of, tree_of, mentions_reg}
use Rattle.rtx_tree.specs.declared.code.Code.{Code}
use Rattle.rtx_tree.specs.declared.code.Code.TheVariants.{Pc, LabelRef, ConstInt, IfThenElse, Set, Return}
use Rattle.rtx_tree.specs.declared.machine.SymbolAt.{SymbolAt}
use Rattle.rtx_tree.specs.declared.memories.MemByte.{MemByte}
use Rattle.rtx_tree.specs.declared.tree.Rtx.{Rtx, out-roll-Rtx}
use Rattle.rtx_tree.specs.declared.tree.Rtx.TheOpen.{Rtx-F}
use Rattle.rtx_tree.proofs.Trees.{head_of-tree}
use Rattle.rtl_step.specs.Jump.{goes_to, chosen, branch, way_by, way_of, jump_by, jump_of}
use Rattle.rtl_step.specs.Regs.{Regs}
use Rattle.rtl_step.specs.Value.{value_of, of_two}
use Rattle.rtl_step.specs.declared.jump.Way.{Way}
use Rattle.rtl_step.specs.declared.jump.Way.TheVariants.{Goes}
use Rattle.md_operand.specs.Addresses.{is_constant, is_any}
use Rattle.assign.specs.declared.home.HomeOf.{HomeOf}
use Rattle.assign.specs.declared.places.Layout.{Layout}
use Rattle.law_homes.specs.Placed.{all_sized, placed, source_label, label_by, names_constant}
use Rattle.law_homes.proofs.Becoming.{is_over, over}
use Rattle.law_homes.proofs.Trees.{constant_code, sized_kids, mentions_kid}
use Rattle.law_homes.proofs.Placing.{Machines, AreHomed, placed_stays}

pc_code : (c : Code) → is_pc_code c ≡ true → c ≡ Pc
pc_code Pc is = refl
pc_code _ is = absurd (false≢true is)

label_parts : (c : Code) (kids : List Rtx) (uid : ℕ) → label_uid c kids ≡ Some uid →
    (k : Rtx) × (c ≡ LabelRef) × (kids ≡ k ∷ []) × (cast_unsigned w64 (head_of k).number ≡ uid)
label_parts LabelRef (k ∷ []) uid is = (k, refl, refl, let same : cast_unsigned w64 (head_of k).number ≡ uid = cc in same)
label_parts _ kids uid is = absurd (let no : ⊥ = cc in no)

module _ (homes : List HomeOf) (layout : Layout) (m : Machines) (are : AreHomed homes layout m) where
  abbrev put : Rtx → Rtx
  put = placed homes layout

  head_put : (x : Rtx) → is_over (head_of x).code ≡ true → head_of (put x) ≡ head_of x
  head_put x is = ap head_of (over homes layout m are x is) ∙ head_of-tree (head_of x) (map put (kids_of x))

  pc_put : (x : Rtx) → is_pc x ≡ true → is_pc (put x) ≡ true
  pc_put x is =
      let code = pc_code (head_of x).code is in
      ap (λ h. is_pc_code h.code) (head_put x (ap is_over code)) ∙ is

  -- a label, whose part is a constant
  label_put : (x : Rtx) (uid : ℕ) → names_constant x ≡ true → label_of x ≡ Some uid → label_of (put x) ≡ Some uid
  label_put x uid constant is =
      let parts = label_parts (head_of x).code (kids_of x) uid is in
      let k = parts.0 in
      let code : (head_of k).code ≡ ConstInt =
      constant_code (head_of k).code (head_of k).number (and_parts (is_constant is_any k) true (sym (ap (list_all (is_constant is_any)) parts.2) ∙ constant)).0 in
      ap label_of (over homes layout m are x (ap is_over parts.1))
      ∙ ap (λ (o : Rtx-F Rtx). label_uid o.code o.kids) (out-roll-Rtx _)
      ∙ ap (λ c. label_uid c (map put (kids_of x))) parts.1
      ∙ ap (λ kids. label_uid LabelRef (map put kids)) parts.2
      ∙ ap (λ h. Some (cast_unsigned w64 h.number)) (head_put k (ap is_over code))
      ∙ ap (λ n. Some n) parts.3

  -- ---- where the pc is set to

  abbrev pub KnownIn : Rtx → Type 0
  KnownIn x = (reg : ℕ) → mentions_reg reg x ≡ true → (reg ≡ 32) ⊎ m.Counts reg

  goes_parts : (o : Option ℕ) (w : Way) → option_map Goes o ≡ Some w → (uid : ℕ) × (o ≡ Some uid) × (Goes uid ≡ w)
  goes_parts None w is = absurd (let no : ⊥ = cc in no)
  goes_parts (Some uid) w is = (uid, refl, let same : Goes uid ≡ w = cc in same)

  label_way : (symbols : List SymbolAt) (regs : Regs) (memory : List MemByte) (x : Rtx) (c : Code) → (head_of x).code ≡ c → c ≡ LabelRef →
      way_of symbols regs memory x ≡ goes_to x
  label_way symbols regs memory x LabelRef is same = ap (λ c. way_by c (kids_of x) x symbols regs memory) is
  label_way symbols regs memory x _ is same = absurd (let no : ⊥ = cc in no)

  label_goes : (source : Rtx) (w : Way) → names_constant source ≡ true → goes_to source ≡ Some w →
      way_of m.symbols m.others m.other (put source) ≡ Some w
  label_goes source w constant is =
      let parts = goes_parts (label_of source) w is in
      let code = (label_parts (head_of source).code (kids_of source) parts.0 parts.1).1 in
      let same = ap (λ h. h.code) (head_put source (ap is_over code)) ∙ code in
      label_way m.symbols m.others m.other (put source) LabelRef same refl
      ∙ ap (option_map Goes) (label_put source parts.0 constant parts.1)
      ∙ ap (λ w. Some w) parts.2

  -- a branch
  record IsBranch (source test label other : Rtx) : Type 0 where
    code : (head_of source).code ≡ IfThenElse
    kids : kids_of source ≡ test ∷ label ∷ other ∷ []

  branch_parts : (holds uid : Option ℕ) (w : Way) → of_two (λ holds uid. Some (chosen holds uid)) holds uid ≡ Some w →
      (h : ℕ) × (l : ℕ) × (holds ≡ Some h) × (uid ≡ Some l) × (chosen h l ≡ w)
  branch_parts None uid w is = absurd (let no : ⊥ = cc in no)
  branch_parts (Some h) None w is = absurd (let no : ⊥ = cc in no)
  branch_parts (Some h) (Some l) w is = (h, l, refl, refl, let same : chosen h l ≡ w = cc in same)

  branch_goes : (source test label other : Rtx) (w : Way) → IsBranch source test label other → all_sized source ≡ true → KnownIn source →
      names_constant label ≡ true → is_pc other ≡ true → branch m.symbols m.regs m.memory test label ≡ Some w →
      way_of m.symbols m.others m.other (put source) ≡ Some w
  branch_goes source test label other w is sized known constant pc has =
      let parts = branch_parts (value_of m.symbols m.regs m.memory test W64) (label_of label) w has in
      let sizes : list_all all_sized (test ∷ label ∷ other ∷ []) ≡ true = sym (ap (list_all all_sized) is.kids) ∙ sized_kids source sized in
      let test_sized : all_sized test ≡ true = (and_parts (all_sized test) _ sizes).0 in
      let stays = placed_stays homes layout m are test test_sized
      (λ reg stands. known reg (mentions_kid source reg (ap (list_any (mentions_reg reg)) is.kids ∙ or_left (mentions_reg reg test) _ stands))) in
      ap (way_of m.symbols m.others m.other) (over homes layout m are source (ap is_over is.code))
      ∙ ap (λ (o : Rtx-F Rtx). way_by o.code o.kids (tree_of (head_of source) (map put (kids_of source))) m.symbols m.others m.other) (out-roll-Rtx _)
      ∙ ap (λ c. way_by c (map put (kids_of source)) (tree_of (head_of source) (map put (kids_of source))) m.symbols m.others m.other) is.code
      ∙ ap (λ kids. way_by IfThenElse (map put kids) (tree_of (head_of source) (map put (kids_of source))) m.symbols m.others m.other) is.kids
      ∙ ap (λ b. if b then branch m.symbols m.others m.other (put test) (put label) else None) (pc_put other pc)
      ∙ ap (λ o. of_two (λ holds uid. Some (chosen holds uid)) o (label_of (put label))) (stays.values W64 parts.0 parts.2)
      ∙ ap (λ o. of_two (λ holds uid. Some (chosen holds uid)) (Some parts.0) o) (label_put label parts.1 constant parts.3)
      ∙ ap (λ w. Some w) parts.4

  if_some : (b : Bool) (o : Option Way) (w : Way) → (if b then o else None) ≡ Some w → (b ≡ true) × (o ≡ Some w)
  if_some true o w is = (refl, is)
  if_some false o w is = absurd (let no : ⊥ = cc in no)

  source_by : (c : Code) (kids : List Rtx) (source : Rtx) (w : Way) → (head_of source).code ≡ c → kids_of source ≡ kids → all_sized source ≡ true →
      KnownIn source → names_constant (source_label c kids source) ≡ true → way_by c kids source m.symbols m.regs m.memory ≡ Some w →
      way_of m.symbols m.others m.other (put source) ≡ Some w
  source_by IfThenElse (test ∷ label ∷ other ∷ []) source w is are_kids sized known constant has =
      let parts = if_some (is_pc other) (branch m.symbols m.regs m.memory test label) w has in
      branch_goes source test label other w (record { code = is; kids = are_kids }) sized known constant parts.0 parts.1
  source_by _ kids source w is are_kids sized known constant has = label_goes source w constant has

  -- ---- jumps

  record IsSetPc (x place source : Rtx) : Type 0 where
    code : (head_of x).code ≡ Set
    kids : kids_of x ≡ place ∷ source ∷ []

  set_goes : (x place source : Rtx) (w : Way) → IsSetPc x place source → all_sized x ≡ true → KnownIn source →
      names_constant (source_label (head_of source).code (kids_of source) source) ≡ true →
      is_pc place ≡ true → way_of m.symbols m.regs m.memory source ≡ Some w → jump_of m.symbols m.others m.other (put x) ≡ Some w
  set_goes x place source w is sized known constant pc has =
      let sizes : list_all all_sized (place ∷ source ∷ []) ≡ true = sym (ap (list_all all_sized) is.kids) ∙ sized_kids x sized in
      let source_sized : all_sized source ≡ true = (and_parts (all_sized source) _ (and_parts (all_sized place) _ sizes).1).0 in
      ap (jump_of m.symbols m.others m.other) (over homes layout m are x (ap is_over is.code))
      ∙ ap (λ (o : Rtx-F Rtx). jump_by o.code o.kids m.symbols m.others m.other) (out-roll-Rtx _)
      ∙ ap (λ c. jump_by c (map put (kids_of x)) m.symbols m.others m.other) is.code
      ∙ ap (λ kids. jump_by Set (map put kids) m.symbols m.others m.other) is.kids
      ∙ ap (λ b. if b then way_of m.symbols m.others m.other (put source) else None) (pc_put place pc)
      ∙ source_by (head_of source).code (kids_of source) source w refl refl source_sized known constant has

  -- what the pc is set to has to be known
  abbrev pub SourceKnown : Code → List Rtx → Type 0
  SourceKnown Set (place ∷ source ∷ []) = KnownIn source
  SourceKnown _ kids = Unit {0}

  jump_goes : (c : Code) (kids : List Rtx) (x : Rtx) (w : Way) → (head_of x).code ≡ c → kids_of x ≡ kids → all_sized x ≡ true →
      SourceKnown c kids → names_constant (label_by c kids x) ≡ true → jump_by c kids m.symbols m.regs m.memory ≡ Some w →
      jump_of m.symbols m.others m.other (put x) ≡ Some w
  jump_goes Return kids x w is are_kids sized known constant has =
      ap (jump_of m.symbols m.others m.other) (over homes layout m are x (ap is_over is))
      ∙ ap (λ (o : Rtx-F Rtx). jump_by o.code o.kids m.symbols m.others m.other) (out-roll-Rtx _)
      ∙ ap (λ c. jump_by c (map put (kids_of x)) m.symbols m.others m.other) is
      ∙ has
  jump_goes Set (place ∷ source ∷ []) x w is are_kids sized known constant has =
      let parts = if_some (is_pc place) (way_of m.symbols m.regs m.memory source) w has in
      set_goes x place source w (record { code = is; kids = are_kids }) sized known constant parts.0 parts.1
  jump_goes _ kids x w is are_kids sized known constant has = absurd (let no : ⊥ = cc in no)

  -- a jump with homes put in goes the same way
  pub jump_put : (x : Rtx) (w : Way) → all_sized x ≡ true → SourceKnown (head_of x).code (kids_of x) →
      names_constant (label_by (head_of x).code (kids_of x) x) ≡ true →
      jump_of m.symbols m.regs m.memory x ≡ Some w → jump_of m.symbols m.others m.other (put x) ≡ Some w
  jump_put x w sized known constant has = jump_goes (head_of x).code (kids_of x) x w refl refl sized known constant has
