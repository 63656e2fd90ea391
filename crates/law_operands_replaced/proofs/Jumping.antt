-- A jump in which new trees stand goes the same way.
use Rattle.std.proofs.Common.{◌≡◌, ℕ, ◌&&◌, ◌||◌, not, if◌then◌else◌, Bool, true, false, List, [], ◌∷◌, map, Some, None, refl, sym, ap, ◌∙◌}
use Rattle.std.specs.Int.{cast_unsigned, w64}
use Rattle.std.specs.List.{list_all}
use Rattle.std.proofs.lemmas.Bool.{and_parts}
use Rattle.bits64.specs.declared.Width.{Width}
use Rattle.bits64.specs.declared.Width.TheVariants.{W64}
use Rattle.rtx_tree.specs.Code.{class_of_code, is_place_class}
use Rattle.rtx_tree.specs.Patterns.{is_pc, is_pc_code, label_uid, label_of}
use Rattle.rtx_tree.specs.Tree.{RtxHead, head_of, kids_of, mentions_reg}
use Rattle.rtx_tree.specs.declared.class.Class.{Class}
use Rattle.rtx_tree.specs.declared.class.Class.TheVariants as class
use Rattle.rtx_tree.specs.declared.code.Code.{Code}
use Rattle.rtx_tree.specs.declared.code.Code.TheVariants as code
use Rattle.rtx_tree.specs.declared.code.Mode.{Mode}
use Rattle.rtx_tree.specs.declared.machine.SymbolAt.{SymbolAt}
use Rattle.rtx_tree.specs.declared.memories.MemByte.{MemByte}
use Rattle.rtx_tree.specs.declared.tree.Rtx.{Rtx}
use Rattle.rtl_func.specs.Kinds.{is_jump_by, is_jump_tree}
use Rattle.rtl_func.specs.Shapes.{class_at, mode_at, number_at, has_mode, is_counter_class, is_jump_source_class, is_comparison_class, is_label_class, is_constant, is_constant_class, is_set_to, is_choice, is_bare, fits_row, is_shaped}
use Rattle.rtl_func.proofs.AllPass.{all_pass, itself, within}
use Rattle.rtl_step.specs.Jump as jump
use Rattle.rtl_step.specs.Jump.{jump_of}
use Rattle.rtl_step.specs.Regs.{Regs}
use Rattle.rtl_step.specs.Value.{value_by, value_of}
use Rattle.rtl_step.specs.declared.jump.Way.TheVariants as way
use Rattle.rtl_step.proofs.Too.{Too, too_map, too_two}
use Rattle.sym_insns.specs.Shape.{all_natural}
use Rattle.law_frame.proofs.law_window_replaced.Known.{both_of, or_first, or_later}
use Rattle.law_frame.proofs.law_window_replaced.Trees.{natural_kids, mentions_kid}
use Rattle.law_operands_replaced.specs.Spare.{KnowsRest, NamesNoSpare}
use Rattle.law_operands_replaced.proofs.NewTrees.{Becomes, AllBecome, none, next}
use Rattle.law_operands_replaced.proofs.ReadTrees.{read_in, NameNoSpare}
use Rattle.law_operands_replaced.proofs.Valued.{by_row, some_width}
use Rattle.law_operands_replaced.proofs.Addresses.{is_new_class, IsNewTree, IsOver, is_over, becomes_reads}
use Rattle.law_operands_replaced.proofs.JumpTrees.{pc_class, counter_source, label_row}

source_class : (k : Class) → is_jump_source_class k ≡ true → is_new_class k ≡ false
source_class class.Label is = refl
source_class class.Branch is = refl
source_class _ is = absurd (let no : ⊥ = cc in no)

jump_class : (k : Class) (kids : List Rtx) → is_jump_by k kids ≡ true → is_new_class k ≡ false
jump_class class.Return kids is = refl
jump_class class.Setting kids is = refl
jump_class _ kids is = absurd (let no : ⊥ = cc in no)

constant_class : (k : Class) → is_constant_class k ≡ true → is_new_class k ≡ false
constant_class class.Constant is = refl
constant_class _ is = absurd (let no : ⊥ = cc in no)

comparison_class : (k : Class) → is_comparison_class k ≡ true → (k ≡ class.Comparison) × (is_new_class k ≡ false)
comparison_class class.Comparison is = (refl, refl)
comparison_class _ is = absurd (let no : ⊥ = cc in no)

label_class : (k : Class) → is_label_class k ≡ true → is_new_class k ≡ false
label_class class.Label is = refl
label_class _ is = absurd (let no : ⊥ = cc in no)

counter_class : (k : Class) → is_counter_class k ≡ true → is_new_class k ≡ false
counter_class class.Counter is = refl
counter_class _ is = absurd (let no : ⊥ = cc in no)

pub row_of : (x : Rtx) → all_pass is_shaped x ≡ true → fits_row (class_at x) (mode_at x) (number_at x) (kids_of x) ≡ true
row_of x shaped = (and_parts (is_bare (class_at x) (number_at x) (head_of x).name) _ (itself is_shaped x shaped)).1

label_too : (c : Code) (uid uid' : Rtx) → head_of uid' ≡ head_of uid → Too (label_uid c (uid ∷ [])) (label_uid c (uid' ∷ []))
label_too code.LabelRef uid uid' head = λ v is. ap (λ (h : RtxHead). Some (cast_unsigned w64 h.number)) head ∙ is
label_too _ uid uid' head = λ v none. absurd (let no : ⊥ = cc in no)

-- a comparison is read alike in each width
pub comparison_any : (symbols : List SymbolAt) (regs : Regs) (memory : List MemByte) (x : Rtx) (kids : List Rtx) (w u : Width) →
    class_at x ≡ class.Comparison → kids_of x ≡ kids → value_of symbols regs memory x w ≡ value_of symbols regs memory x u
comparison_any symbols regs memory x kids w u is are =
    by_row symbols regs memory x class.Comparison kids w is are ∙ by kids ∙ sym (by_row symbols regs memory x class.Comparison kids u is are)
  where
    by : (kids : List Rtx) → value_by symbols regs memory class.Comparison (head_of x).code (head_of x).number (head_of x).name (map (read_in symbols regs memory) kids) w ≡
        value_by symbols regs memory class.Comparison (head_of x).code (head_of x).number (head_of x).name (map (read_in symbols regs memory) kids) u
    by [] = refl
    by (a ∷ []) = refl
    by (a ∷ b ∷ []) = refl
    by (a ∷ b ∷ c ∷ kids) = refl

module _ (symbols : List SymbolAt) (regs other : Regs) (memory : List MemByte) (known : KnowsRest regs other) (New : Rtx → Rtx → Type 0)
    (news : (x y : Rtx) → New x y → IsNewTree symbols regs other memory x y) where
  -- what is asked of trees of which the second becomes of the first
  pub record Good (x y : Rtx) : Type 0 where
    pub natural : all_natural x ≡ true
    pub quiet : NamesNoSpare x
    pub shaped : all_pass is_shaped y ≡ true

  pub record AllGood (xs ys : List Rtx) : Type 0 where
    pub natural : list_all all_natural xs ≡ true
    pub quiet : NameNoSpare xs
    pub shaped : list_all (all_pass is_shaped) ys ≡ true

  pub good_kids : (x y : Rtx) → Good x y → AllGood (kids_of x) (kids_of y)
  good_kids x y good = record {
    natural = natural_kids x good.natural;
    quiet = λ reg is. good.quiet reg (mentions_kid x reg is);
    shaped = within is_shaped y good.shaped;
  }

  pub good_first : (x y : Rtx) (xs ys : List Rtx) → AllGood (x ∷ xs) (y ∷ ys) → Good x y
  good_first x y xs ys good = record {
    natural = (both_of (all_natural x) _ good.natural).0;
    quiet = λ reg is. good.quiet reg (or_first (mentions_reg reg x) _ is);
    shaped = (both_of (all_pass is_shaped y) _ good.shaped).0;
  }

  pub good_rest : (x y : Rtx) (xs ys : List Rtx) → AllGood (x ∷ xs) (y ∷ ys) → AllGood xs ys
  good_rest x y xs ys good = record {
    natural = (both_of (all_natural x) _ good.natural).1;
    quiet = λ reg is. good.quiet reg (or_later (mentions_reg reg x) _ is);
    shaped = (both_of (all_pass is_shaped y) _ good.shaped).1;
  }

  pub over_of : (x y : Rtx) → Becomes New x y → is_new_class (class_at y) ≡ false → IsOver symbols regs other memory known New news x y
  over_of = is_over symbols regs other memory known New news

  -- ---- labels

  label_by : (x y : Rtx) (c : Code) (xs ys : List Rtx) → (head_of y).code ≡ c → kids_of y ≡ ys → AllBecome New xs ys → all_pass is_shaped y ≡ true →
      Too (label_uid c xs) (label_uid c ys)
  label_by x y code.LabelRef _ _ is are (next uid uid' _ _ becomes none) shaped =
      let row = ap (λ c. fits_row (class_of_code c) (mode_at y) (number_at y) (uid' ∷ [])) (sym is) ∙
      ap (fits_row (class_at y) (mode_at y) (number_at y)) (sym are) ∙ row_of y shaped in
      let constant = label_row code.LabelRef (mode_at y) (number_at y) uid' refl row in
      label_too code.LabelRef uid uid' (over_of uid uid' becomes (constant_class (class_at uid') constant)).head
  label_by x y code.LabelRef _ _ is are none shaped = λ v no. no
  label_by x y code.LabelRef _ _ is are (next uid uid' _ _ becomes (next a b xs ys more all)) shaped = λ v no. absurd (let never : ⊥ = cc in never)
  label_by x y _ xs ys is are all shaped = λ v no. absurd (let never : ⊥ = cc in never)

  label_becomes : (x y : Rtx) → IsOver symbols regs other memory known New news x y → all_pass is_shaped y ≡ true → Too (label_of x) (label_of y)
  label_becomes x y o shaped v is =
      label_by x y (head_of y).code (kids_of x) (kids_of y) refl refl o.parts shaped v
      (ap (λ (h : RtxHead). label_uid h.code (kids_of x)) o.head ∙ is)

  -- ---- choices

  test_becomes : (x y : Rtx) → Becomes New x y → Good x y → is_comparison_class (class_at y) ≡ true →
      Too (value_of symbols regs memory x W64) (value_of symbols other memory y W64)
  test_becomes x y becomes good is v at =
      let k = comparison_class (class_at y) is in
      let o = over_of x y becomes k.1 in
      let w = some_width symbols regs memory (mode_at y) in
      comparison_any symbols other memory y (kids_of y) W64 w.0 k.0 refl ∙
      (becomes_reads symbols regs other memory known New news x y becomes good.natural good.quiet good.shaped).values w.0 w.1.0 v
      (comparison_any symbols regs memory x (kids_of x) w.0 W64 (ap (λ (h : RtxHead). class_of_code h.code) (sym o.head) ∙ k.0) refl ∙ at)

  branch_by : (b b' : Bool) (test test' label label' : Rtx) → b' ≡ b → Too (value_of symbols regs memory test W64) (value_of symbols other memory test' W64) →
      Too (label_of label) (label_of label') →
      Too (if b then jump.branch symbols regs memory test label else None) (if b' then jump.branch symbols other memory test' label' else None)
  branch_by false b' test test' label label' e too too' = λ v no. absurd (let never : ⊥ = cc in never)
  branch_by true true test test' label label' e too too' =
      too_two (λ holds uid. Some (jump.chosen holds uid)) (value_of symbols regs memory test W64) (value_of symbols other memory test' W64)
      (label_of label) (label_of label') too too'
  branch_by true false test test' label label' e too too' = absurd (let never : ⊥ = cc in never)

  choice_row : (c : Code) (mode : Mode) (number : ℕ) (a b d : Rtx) → c ≡ code.IfThenElse → fits_row (class_of_code c) mode number (a ∷ b ∷ d ∷ []) ≡ true →
      is_choice a b d ≡ true
  choice_row code.IfThenElse mode number a b d is fits = (and_parts (not (has_mode mode)) (is_choice a b d) fits).1
  choice_row _ mode number a b d is fits = absurd (let no : ⊥ = cc in no)

  goes_too : (x y : Rtx) → Too (label_of x) (label_of y) → Too (jump.goes_to x) (jump.goes_to y)
  goes_too x y too = too_map way.Goes (label_of x) (label_of y) too

  ways_by : (x y : Rtx) (c : Code) (xs ys : List Rtx) → (head_of y).code ≡ c → kids_of y ≡ ys → AllBecome New xs ys → AllGood xs ys →
      all_pass is_shaped y ≡ true → Too (label_of x) (label_of y) →
      Too (jump.way_by c xs x symbols regs memory) (jump.way_by c ys y symbols other memory)
  ways_by x y code.IfThenElse _ _ is are (next a a' _ _ b (next l l' _ _ b' (next d d' _ _ b'' none))) good shaped label =
      let row = ap (λ c. fits_row (class_of_code c) (mode_at y) (number_at y) (a' ∷ l' ∷ d' ∷ [])) (sym is) ∙
      ap (fits_row (class_at y) (mode_at y) (number_at y)) (sym are) ∙ row_of y shaped in
      let choice = choice_row code.IfThenElse (mode_at y) (number_at y) a' l' d' refl row in
      let test = and_parts (is_comparison_class (class_at a')) _ choice in
      let both = and_parts (is_label_class (class_at l')) (is_counter_class (class_at d')) test.1 in
      let rest = good_rest a a' (l ∷ d ∷ []) (l' ∷ d' ∷ []) good in
      branch_by (is_pc d) (is_pc d') a a' l l'
      (ap (λ (h : RtxHead). is_pc_code h.code) (over_of d d' b'' (counter_class (class_at d') both.1)).head)
      (test_becomes a a' b (good_first a a' (l ∷ d ∷ []) (l' ∷ d' ∷ []) good) test.0)
      (label_becomes l l' (over_of l l' b' (label_class (class_at l') both.0)) (good_first l l' (d ∷ []) (d' ∷ []) rest).shaped)
  ways_by x y code.IfThenElse _ _ is are none good shaped label = goes_too x y label
  ways_by x y code.IfThenElse _ _ is are (next a a' _ _ b none) good shaped label = goes_too x y label
  ways_by x y code.IfThenElse _ _ is are (next a a' _ _ b (next l l' _ _ b' none)) good shaped label = goes_too x y label
  ways_by x y code.IfThenElse _ _ is are (next a a' _ _ b (next l l' _ _ b' (next d d' _ _ b'' (next e e' _ _ b''' all)))) good shaped label =
      goes_too x y label
  ways_by x y _ xs ys is are all good shaped label = goes_too x y label

  source_becomes : (x y : Rtx) → Becomes New x y → Good x y → is_jump_source_class (class_at y) ≡ true →
      Too (jump.way_of symbols regs memory x) (jump.way_of symbols other memory y)
  source_becomes x y becomes good is v at =
      let o = over_of x y becomes (source_class (class_at y) is) in
      ways_by x y (head_of y).code (kids_of x) (kids_of y) refl refl o.parts (good_kids x y good) good.shaped (label_becomes x y o good.shaped) v
      (ap (λ (h : RtxHead). jump.way_by h.code (kids_of x) x symbols regs memory) o.head ∙ at)

  -- ---- jumps

  pc_by : (b b' : Bool) (s s' : Rtx) → b' ≡ true → Too (jump.way_of symbols regs memory s) (jump.way_of symbols other memory s') →
      Too (if b then jump.way_of symbols regs memory s else None) (if b' then jump.way_of symbols other memory s' else None)
  pc_by false b' s s' is too = λ v no. absurd (let never : ⊥ = cc in never)
  pc_by true true s s' is too = too
  pc_by true false s s' is too = absurd (let never : ⊥ = cc in never)

  set_row : (c : Code) (mode : Mode) (number : ℕ) (a b : Rtx) → c ≡ code.Set → fits_row (class_of_code c) mode number (a ∷ b ∷ []) ≡ true → is_set_to a b ≡ true
  set_row code.Set mode number a b is fits = (and_parts (not (has_mode mode)) (is_set_to a b) fits).1
  set_row _ mode number a b is fits = absurd (let no : ⊥ = cc in no)

  jumps_by : (y : Rtx) (c : Code) (xs ys : List Rtx) → (head_of y).code ≡ c → kids_of y ≡ ys → AllBecome New xs ys → AllGood xs ys →
      all_pass is_shaped y ≡ true → is_jump_by (class_of_code c) ys ≡ true →
      Too (jump.jump_by c xs symbols regs memory) (jump.jump_by c ys symbols other memory)
  jumps_by y code.Return xs ys is are all good shaped jumps = λ v at. at
  jumps_by y code.Set _ _ is are (next p p' _ _ b (next s s' _ _ b' none)) good shaped jumps =
      let row = ap (λ c. fits_row (class_of_code c) (mode_at y) (number_at y) (p' ∷ s' ∷ [])) (sym is) ∙
      ap (fits_row (class_at y) (mode_at y) (number_at y)) (sym are) ∙ row_of y shaped in
      let source = counter_source (class_at p') _ (is_jump_source_class (class_at s')) (pc_class (head_of p').code jumps)
      (set_row code.Set (mode_at y) (number_at y) p' s' refl row) in
      pc_by (is_pc p) (is_pc p') s s' jumps
      (source_becomes s s' b' (good_first s s' [] [] (good_rest p p' (s ∷ []) (s' ∷ []) good)) source)
  jumps_by y code.Set _ _ is are none good shaped jumps = λ v no. absurd (let never : ⊥ = cc in never)
  jumps_by y code.Set _ _ is are (next p p' _ _ b none) good shaped jumps = λ v no. absurd (let never : ⊥ = cc in never)
  jumps_by y code.Set _ _ is are (next p p' _ _ b (next s s' _ _ b' (next q q' _ _ b'' all))) good shaped jumps =
      λ v no. absurd (let never : ⊥ = cc in never)
  jumps_by y _ xs ys is are all good shaped jumps = λ v no. absurd (let never : ⊥ = cc in never)

  -- a jump that becomes a jump goes the same way
  pub jump_becomes : (x y : Rtx) → Becomes New x y → Good x y → is_jump_tree y ≡ true → Too (jump_of symbols regs memory x) (jump_of symbols other memory y)
  jump_becomes x y becomes good is v at =
      let o = over_of x y becomes (jump_class (class_at y) (kids_of y) is) in
      jumps_by y (head_of y).code (kids_of x) (kids_of y) refl refl o.parts (good_kids x y good) good.shaped is v
      (ap (λ (h : RtxHead). jump.jump_by h.code (kids_of x) symbols regs memory) o.head ∙ at)
