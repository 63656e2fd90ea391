-- Where an expression has a value, each operand that stands in it has one in its own mode.
use Rattle.std.proofs.Common.{◌≡◌, ℕ, ◌&&◌, ◌||◌, Bool, true, false, List, [], ◌∷◌, map, Option, Some, None, refl, sym, ap, subst, ◌∙◌}
use Rattle.std.specs.Prelude.{ℤ, option_and_then, nat_lt}
use Rattle.std.specs.Int.{cast_unsigned, w64}
use Rattle.std.specs.List.{list_all}
use Rattle.std.proofs.lemmas.Bool.{and_parts}
use Rattle.bits64.specs.Words.{low}
use Rattle.bits64.specs.declared.Width.{Width}
use Rattle.bits64.specs.declared.Width.TheVariants.{W64}
use Rattle.rtx_tree.specs.Tree.{head_of, kids_of}
use Rattle.rtx_tree.specs.declared.class.Class.{Class}
use Rattle.rtx_tree.specs.declared.class.Class.TheVariants as class
use Rattle.rtx_tree.specs.declared.code.Code.{Code}
use Rattle.rtx_tree.specs.declared.code.Mode.{Mode}
use Rattle.rtx_tree.specs.declared.code.Mode.TheVariants.{DI}
use Rattle.rtx_tree.specs.declared.machine.SymbolAt.{SymbolAt}
use Rattle.rtx_tree.specs.declared.memories.MemByte.{MemByte}
use Rattle.rtx_tree.specs.declared.tree.Rtx.{Rtx, out-Rtx}
use Rattle.run_memory.specs.RunMemory.{load}
use Rattle.rtl_func.specs.Shapes.{class_at, mode_at, number_at, has_mode, same_mode, is_constant, is_constant_class, is_value, is_operand, is_some_operand, is_moded, are_compared, is_narrower, is_bare, fits_row, fits_one, fits_two, is_shaped}
use Rattle.rtl_func.proofs.AllPass as nodes
use Rattle.rtl_func.proofs.AllPass.{all_pass}
use Rattle.rtl_step.specs.Regs.{Regs}
use Rattle.rtl_step.specs.Value.{Reading, width_of, unary, binary, shifted, compared, converted, of_one, of_two, of_converted, of_compared, first_width, count_width, value_by, value_of, value_of_one, value_of_two}
use Rattle.rtl_step.proofs.Values.{value_read}
use Rattle.law_operands_replaced.specs.Places.{AtOnePlace, first, later, StandsFor, itself, part}
use Rattle.law_operands_replaced.proofs.NewTrees.{is_lowpart_class, is_lowpart, is_whole, whole_low}
use Rattle.law_operands_replaced.proofs.Readings.{IsOwn, same_width, moded, constant_modeless, own_here}
use Rattle.law_operands_replaced.proofs.ReadTrees.{read_in}
use Rattle.rtx_tree.specs.Code.{mode_bits}

-- ---- options

abbrev pub IsThere : Option ℕ → Type 0
IsThere o = (v : ℕ) × (o ≡ Some v)

there_one : (f : ℕ → Option ℕ) (o : Option ℕ) → IsThere (of_one f o) → IsThere o
there_one f None there = absurd (let e : ◌≡◌ {A = Option ℕ} None (Some there.0) = there.1 in let no : ⊥ = cc in no)
there_one f (Some v) there = (v, refl)

there_two : (f : ℕ → ℕ → Option ℕ) (a b : Option ℕ) → IsThere (of_two f a b) → IsThere a × IsThere b
there_two f None b there = absurd (let e : ◌≡◌ {A = Option ℕ} None (Some there.0) = there.1 in let no : ⊥ = cc in no)
there_two f (Some a) None there = absurd (let e : ◌≡◌ {A = Option ℕ} None (Some there.0) = there.1 in let no : ⊥ = cc in no)
there_two f (Some a) (Some b) there = ((a, refl), (b, refl))

constant_kids : (k : Class) (mode : Mode) (number : ℕ) (kids : List Rtx) → is_constant_class k ≡ true → fits_row k mode number kids ≡ true →
    (k ≡ class.Constant) × (kids ≡ [])
constant_kids class.Constant mode number [] is fits = (refl, refl)
constant_kids class.Constant mode number (a ∷ []) is fits = absurd (let no : ⊥ = cc in no)
constant_kids class.Constant mode number (a ∷ b ∷ []) is fits = absurd (let no : ⊥ = cc in no)
constant_kids class.Constant mode number (a ∷ b ∷ c ∷ []) is fits = absurd (let no : ⊥ = cc in no)
constant_kids class.Constant mode number (a ∷ b ∷ c ∷ d ∷ kids) is fits = absurd (let no : ⊥ = cc in no)
constant_kids _ mode number kids is fits = absurd (let no : ⊥ = cc in no)

narrower_moded : (a b : Mode) → is_narrower a b ≡ true → has_mode a ≡ true
narrower_moded a b is = (and_parts (has_mode a) (nat_lt (mode_bits a) (mode_bits b)) is).0

module _ (symbols : List SymbolAt) (regs : Regs) (memory : List MemByte) where
  -- an expression has a value in its own mode; one without a mode in each width
  abbrev pub HasValue : Rtx → Type 0
  HasValue x = (w : Width) → IsOwn (width_of (mode_at x)) w → IsThere (value_of symbols regs memory x w)

  abbrev read : Rtx → Reading
  read = read_in symbols regs memory

  pub by_row : (x : Rtx) (k : Class) (kids : List Rtx) (w : Width) → class_at x ≡ k → kids_of x ≡ kids →
      value_of symbols regs memory x w ≡ value_by symbols regs memory k (head_of x).code (head_of x).number (head_of x).name (map read kids) w
  by_row x k kids w is are = value_read symbols regs memory x w ∙
      ap (λ (ks : List Rtx). value_by symbols regs memory (class_at x) (head_of x).code (head_of x).number (head_of x).name (map read ks) w) are ∙
      ap (λ k. value_by symbols regs memory k (head_of x).code (head_of x).number (head_of x).name (map read kids) w) is

  row_of : (x : Rtx) → is_shaped x ≡ true → fits_row (class_at x) (mode_at x) (number_at x) (kids_of x) ≡ true
  row_of x shaped = (and_parts (is_bare (class_at x) (number_at x) (out-Rtx x).name) _ shaped).1

  -- a constant has one
  pub constant_valued : (x : Rtx) → is_shaped x ≡ true → is_constant x ≡ true → HasValue x
  constant_valued x shaped is w own =
      let row = constant_kids (class_at x) (mode_at x) (number_at x) (kids_of x) is (row_of x shaped) in
      (low w (cast_unsigned w64 (head_of x).number), by_row x class.Constant [] w row.0 row.1)

  one_width : (x : Rtx) (w : Width) → width_of (mode_at x) ≡ Some w → IsThere (value_of symbols regs memory x w) → HasValue x
  one_width x w is there u own = subst (λ u. IsThere (value_of symbols regs memory x u)) (own w is) there

  operand_by : (constant : Bool) (mode : Mode) (x : Rtx) (w : Width) → is_constant x ≡ constant → is_shaped x ≡ true →
      constant || same_mode mode (mode_at x) ≡ true → width_of mode ≡ Some w → IsThere (value_of symbols regs memory x w) → HasValue x
  operand_by true mode x w is shaped fits wide there = constant_valued x shaped is
  operand_by false mode x w is shaped fits wide there = one_width x w (sym (same_width mode (mode_at x) fits) ∙ wide) there

  -- an operand of a mode that has a value in the mode's width
  pub operand_valued : (mode : Mode) (x : Rtx) (w : Width) → is_shaped x ≡ true → is_operand mode x ≡ true → width_of mode ≡ Some w →
      IsThere (value_of symbols regs memory x w) → HasValue x
  operand_valued mode x w shaped fits wide there =
      operand_by (is_constant x) mode x w refl shaped (and_parts (is_value x) _ fits).1 wide there

  count_by : (constant : Bool) (x : Rtx) → is_constant x ≡ constant → is_shaped x ≡ true → constant || has_mode (mode_at x) ≡ true →
      IsThere (value_of symbols regs memory x (count_width (width_of (mode_at x)))) → HasValue x
  count_by true x is shaped fits there = constant_valued x shaped is
  count_by false x is shaped fits there =
      let m = moded (mode_at x) fits in
      one_width x m.0 m.1 (subst (λ o. IsThere (value_of symbols regs memory x (count_width o))) m.1 there)

  converted_valued : (c : Code) (x : Rtx) (w : Width) → has_mode (mode_at x) ≡ true → IsThere (of_converted c (read x) w) → HasValue x
  converted_valued c x w has there =
      let m = moded (mode_at x) has in
      one_width x m.0 m.1 (there_one (converted c m.0 w) (value_of symbols regs memory x m.0)
      (subst (λ o. IsThere (option_and_then (λ own. of_one (converted c own w) (value_of symbols regs memory x own)) o)) m.1 there))

  compared_by : (ordered : Bool) (c : Code) (x y : Rtx) → is_moded x && is_operand (mode_at x) y ≡ ordered → is_shaped x ≡ true → is_shaped y ≡ true →
      ordered || (is_constant x && is_moded y) ≡ true → IsThere (of_compared c (read x) (read y)) → HasValue x × HasValue y
  compared_by true c x y is shaped shaped' fits there =
      let both = and_parts (is_moded x) (is_operand (mode_at x) y) is in
      let m = moded (mode_at x) (and_parts (is_value x) (has_mode (mode_at x)) both.0).1 in
      let t = there_two (compared c m.0) (value_of symbols regs memory x m.0) (value_of symbols regs memory y m.0)
      (subst (λ o. IsThere (option_and_then (λ own. of_two (compared c own) (value_of symbols regs memory x own) (value_of symbols regs memory y own))
      (first_width o (width_of (mode_at y))))) m.1 there) in
      (one_width x m.0 m.1 t.0, operand_valued (mode_at x) y m.0 shaped' both.1 m.1 t.1)
  compared_by false c x y is shaped shaped' fits there =
      let both = and_parts (is_constant x) (is_moded y) fits in
      let m = moded (mode_at y) (and_parts (is_value y) (has_mode (mode_at y)) both.1).1 in
      let t = there_two (compared c m.0) (value_of symbols regs memory x m.0) (value_of symbols regs memory y m.0)
      (subst (λ o. IsThere (option_and_then (λ own. of_two (compared c own) (value_of symbols regs memory x own) (value_of symbols regs memory y own)) o))
      (ap (λ o. first_width o (width_of (mode_at y))) (constant_modeless x shaped both.0) ∙ m.1) there) in
      (constant_valued x shaped both.0, one_width y m.0 m.1 t.1)

  -- ---- parts

  one_valued : (k : Class) (c : Code) (mode : Mode) (x : Rtx) (w : Width) → is_lowpart_class k ≡ false → is_shaped x ≡ true →
      fits_one k mode x ≡ true → (has_mode mode ≡ true → width_of mode ≡ Some w) → IsThere (value_of_one memory k c (read x) w) → HasValue x
  one_valued class.Memory c mode x w low shaped fits wide there =
      operand_valued DI x W64 shaped (and_parts (has_mode mode) (is_operand DI x) fits).1 refl (there_one (load w memory) (value_of symbols regs memory x W64) there)
  one_valued class.Lowpart c mode x w low shaped fits wide there = absurd (let no : ⊥ = cc in no)
  one_valued class.Unary c mode x w low shaped fits wide there =
      let both = and_parts (has_mode mode) (is_operand mode x) fits in
      operand_valued mode x w shaped both.1 (wide both.0) (there_one (unary c w) (value_of symbols regs memory x w) there)
  one_valued class.Extension c mode x w low shaped fits wide there =
      converted_valued c x w (narrower_moded (mode_at x) mode (and_parts (is_value x) (is_narrower (mode_at x) mode) fits).1) there
  one_valued class.Truncation c mode x w low shaped fits wide there = by (width_of (mode_at x)) refl there
    where
      by : (o : Option Width) → width_of (mode_at x) ≡ o → IsThere (option_and_then (λ own. of_one (converted c own w) (value_of symbols regs memory x own)) o) →
          HasValue x
      by None is there = absurd (let e : ◌≡◌ {A = Option ℕ} None (Some there.0) = there.1 in let no : ⊥ = cc in no)
      by (Some own) is there = one_width x own is (there_one (converted c own w) (value_of symbols regs memory x own) there)
  one_valued k c mode x w low shaped fits wide there = absurd (let e : ◌≡◌ {A = Option ℕ} None (Some there.0) = there.1 in let no : ⊥ = cc in no)

  two_valued : (k : Class) (c : Code) (mode : Mode) (x y : Rtx) (w : Width) → is_shaped x ≡ true → is_shaped y ≡ true →
      fits_two k mode x y ≡ true → (has_mode mode ≡ true → width_of mode ≡ Some w) → IsThere (value_of_two k c (read x) (read y) w) →
      HasValue x × HasValue y
  two_valued class.Binary c mode x y w shaped shaped' fits wide there =
      let moded' = and_parts (has_mode mode) _ fits in
      let both = and_parts (is_operand mode x) (is_operand mode y) moded'.1 in
      let t = there_two (binary c w) (value_of symbols regs memory x w) (value_of symbols regs memory y w) there in
      (operand_valued mode x w shaped both.0 (wide moded'.0) t.0, operand_valued mode y w shaped' both.1 (wide moded'.0) t.1)
  two_valued class.Shift c mode x y w shaped shaped' fits wide there =
      let moded' = and_parts (has_mode mode) _ fits in
      let both = and_parts (is_operand mode x) (is_some_operand y) moded'.1 in
      let t = there_two (shifted c w) (value_of symbols regs memory x w) (value_of symbols regs memory y (count_width (width_of (mode_at y)))) there in
      (operand_valued mode x w shaped both.0 (wide moded'.0) t.0, count_by (is_constant y) y refl shaped' (and_parts (is_value y) _ both.1).1 t.1)
  two_valued class.Comparison c mode x y w shaped shaped' fits wide there =
      compared_by (is_moded x && is_operand (mode_at x) y) c x y refl shaped shaped' (and_parts _ (are_compared x y) fits).1 there
  two_valued k c mode x y w shaped shaped' fits wide there = absurd (let e : ◌≡◌ {A = Option ℕ} None (Some there.0) = there.1 in let no : ⊥ = cc in no)

  one_row : (k : Class) (c : Code) (mode : Mode) (number : ℕ) (x : Rtx) (w : Width) → is_lowpart_class k ≡ false → is_shaped x ≡ true →
      fits_row k mode number (x ∷ []) ≡ true → (has_mode mode ≡ true → width_of mode ≡ Some w) → IsThere (value_of_one memory k c (read x) w) → HasValue x
  one_row class.Parallel c mode number x w low shaped fits wide there = absurd (let e : ◌≡◌ {A = Option ℕ} None (Some there.0) = there.1 in let no : ⊥ = cc in no)
  one_row k c mode number x w low shaped fits wide there = one_valued k c mode x w low shaped fits wide there

  two_row : (k : Class) (c : Code) (mode : Mode) (number : ℕ) (x y : Rtx) (w : Width) → is_shaped x ≡ true → is_shaped y ≡ true →
      fits_row k mode number (x ∷ y ∷ []) ≡ true → (has_mode mode ≡ true → width_of mode ≡ Some w) →
      IsThere (value_of_two k c (read x) (read y) w) → HasValue x × HasValue y
  two_row class.Parallel c mode number x y w shaped shaped' fits wide there =
      absurd (let e : ◌≡◌ {A = Option ℕ} None (Some there.0) = there.1 in let no : ⊥ = cc in no)
  two_row k c mode number x y w shaped shaped' fits wide there = two_valued k c mode x y w shaped shaped' fits wide there

  abbrev pub AllValued : List Rtx → Type 0
  AllValued [] = Unit {0}
  AllValued (x ∷ xs) = HasValue x × AllValued xs

  parts_valued : (k : Class) (c : Code) (n : ℤ) (name : List ℕ) (mode : Mode) (number : ℕ) (kids : List Rtx) (w : Width) →
      is_lowpart_class k ≡ false → list_all (all_pass is_shaped) kids ≡ true → fits_row k mode number kids ≡ true →
      (has_mode mode ≡ true → width_of mode ≡ Some w) → IsThere (value_by symbols regs memory k c n name (map read kids) w) → AllValued kids
  parts_valued k c n name mode number [] w low shaped fits wide there = tt
  parts_valued k c n name mode number (x ∷ []) w low shaped fits wide there =
      (one_row k c mode number x w low (nodes.itself is_shaped x (and_parts (all_pass is_shaped x) _ shaped).0) fits wide there, tt)
  parts_valued k c n name mode number (x ∷ y ∷ []) w low shaped fits wide there =
      let both = and_parts (all_pass is_shaped x) _ shaped in
      let t = two_row k c mode number x y w (nodes.itself is_shaped x both.0)
      (nodes.itself is_shaped y (and_parts (all_pass is_shaped y) _ both.1).0) fits wide there in (t.0, (t.1, tt))
  parts_valued k c n name mode number (x ∷ y ∷ z ∷ kids) w low shaped fits wide there =
      absurd (let e : ◌≡◌ {A = Option ℕ} None (Some there.0) = there.1 in let no : ⊥ = cc in no)

  pub some_width : (mode : Mode) → (w : Width) × (IsOwn (width_of mode) w × (has_mode mode ≡ true → width_of mode ≡ Some w))
  some_width mode = by (width_of mode) refl
    where
      by : (o : Option Width) → width_of mode ≡ o → (w : Width) × (IsOwn o w × (has_mode mode ≡ true → o ≡ Some w))
      by None is = (W64, ((λ own at. absurd (let no : ⊥ = cc in no)), (λ has. let m = moded mode has in sym is ∙ m.1 ∙ never (m.0) (sym is ∙ m.1))))
        where
          never : (w : Width) → ◌≡◌ {A = Option Width} None (Some w) → ◌≡◌ {A = Option Width} (Some w) (Some W64)
          never w e = absurd (let no : ⊥ = cc in no)
      by (Some w) is = (w, (own_here w, (λ has. refl)))

  -- the parts of an expression that has a value have values
  pub kids_valued : (x : Rtx) → is_lowpart x ≡ false → all_pass is_shaped x ≡ true → HasValue x → AllValued (kids_of x)
  kids_valued x low shaped has =
      let w = some_width (mode_at x) in
      let t = has w.0 w.1.0 in
      parts_valued (class_at x) (head_of x).code (head_of x).number (head_of x).name (mode_at x) (number_at x) (kids_of x) w.0 low
      (nodes.within is_shaped x shaped) (row_of x (nodes.itself is_shaped x shaped)) w.1.1 (t.0, sym (value_read symbols regs memory x w.0) ∙ t.1)

  at_place : (ps xs : List Rtx) (q y : Rtx) → AtOnePlace ps xs q y → AllValued xs → list_all (all_pass is_shaped) xs ≡ true →
      list_all (all_pass is_whole) xs ≡ true → HasValue y × ((all_pass is_shaped y ≡ true) × (all_pass is_whole y ≡ true))
  at_place _ _ _ _ (first p x ps xs) valued shaped whole =
      (valued.0, ((and_parts (all_pass is_shaped x) _ shaped).0, (and_parts (all_pass is_whole x) _ whole).0))
  at_place _ _ _ _ (later p x q y ps xs more) valued shaped whole =
      at_place ps xs p x more valued.1 (and_parts (all_pass is_shaped y) _ shaped).1 (and_parts (all_pass is_whole y) _ whole).1

  -- each operand that stands in it has a value in its own mode
  pub stands_valued : (p x : Rtx) (number : ℤ) (z : Rtx) → StandsFor p x number z → all_pass is_shaped x ≡ true → all_pass is_whole x ≡ true →
      HasValue x → HasValue z
  stands_valued _ _ _ _ (itself p x is) shaped whole has = has
  stands_valued _ _ _ _ (part p x q y z number other as_many at more) shaped whole has =
      let k = at_place (kids_of p) (kids_of x) q y at (kids_valued x (whole_low (is_lowpart x) (nodes.itself is_whole x whole)) shaped has)
      (nodes.within is_shaped x shaped) (nodes.within is_whole x whole) in
      stands_valued q y number z more k.1.0 k.1.1 k.0
