-- Laws of values.
use Rattle.std.proofs.Common.{◌≡◌, ◌<◌, ◌≤◌, ℕ, List, [], ◌∷◌, length, map, get_or, sym, ap, ◌∙◌, refl, arith}
use Rattle.std.specs.Prelude.{ℤ, Option, Some, None, option_map, option_and_then}
use Rattle.rtx_tree.specs.declared.code.Code.{Code}
use Rattle.rtx_tree.specs.declared.class.Class.{Class}
use Rattle.rtx_tree.specs.declared.class.Class.TheVariants as class
use Rattle.rtx_tree.specs.Code.{class_of_code}
use Rattle.bits64.specs.declared.Width.{Width}
use Rattle.rtx_tree.specs.declared.memories.MemByte.{MemByte}
use Rattle.rtx_tree.specs.declared.machine.SymbolAt.{SymbolAt}
use Rattle.rtx_tree.specs.declared.tree.Rtx.{Rtx, out-Rtx}
use Rattle.rtx_tree.specs.declared.tree.Rtx.TheFolds.{fold_out-Rtx}
use Rattle.rtl_step.specs.Regs.{Regs}
use Rattle.rtl_step.specs.Value.{Reading, width_of, value_by, value_of_one, value_of_two, value_of_parts, of_one, of_two, first_width, converted, compared, reading_step, reading_of, value_of}
use Rattle.rtl_step.specs.machine.Parts.{part_width, with_part, read_one, alike, part_widths, with_parts, read_two}

-- ---- by the values of the parts

its_value : (v : Option ℕ) → v ≡ of_one (λ x. Some x) v
its_value None = refl
its_value (Some x) = refl

one_by : (memory : List MemByte) (class : Class) (code : Code) (a : Reading) (w : Width) → value_of_one memory class code a w ≡ read_one memory class code a w (part_width class a.width w)
one_by memory class.Memory code a w = refl
one_by memory class.Lowpart code a w = its_value (a.value w)
one_by memory class.Unary code a w = refl
one_by memory class.Extension code a w = in_own a.width
  where
    in_own : (own : Option Width) → option_and_then (λ own. of_one (converted code own w) (a.value own)) own ≡ read_one memory class.Extension code a w own
    in_own None = refl
    in_own (Some own) = refl
one_by memory class.Truncation code a w = in_own a.width
  where
    in_own : (own : Option Width) → option_and_then (λ own. of_one (converted code own w) (a.value own)) own ≡ read_one memory class.Truncation code a w own
    in_own None = refl
    in_own (Some own) = refl
one_by memory class code a w = refl

two_by : (class : Class) (code : Code) (a b : Reading) (w : Width) → value_of_two class code a b w ≡ read_two class code a b (part_widths class a.width b.width w)
two_by class.Binary code a b w = refl
two_by class.Shift code a b w = refl
two_by class.Comparison code a b w = in_own (first_width a.width b.width)
  where
    in_own : (own : Option Width) → option_and_then (λ own. of_two (compared code own) (a.value own) (b.value own)) own ≡ read_two class.Comparison code a b (option_map alike own)
    in_own None = refl
    in_own (Some own) = refl
two_by class code a b w = refl

-- ---- by the outside

module _ (symbols : List SymbolAt) (regs : Regs) (memory : List MemByte) where
  reading_out : (x : Rtx) → reading_of symbols regs memory x ≡ record { width = width_of (out-Rtx x).mode; value = value_by symbols regs memory (class_of_code (out-Rtx x).code) (out-Rtx x).code (out-Rtx x).number (out-Rtx x).name (map (reading_of symbols regs memory) (out-Rtx x).kids) }
  reading_out = fold_out-Rtx Reading (reading_step symbols regs memory)

  -- an expression as its outside reads it, by its own mode and its value
  pub reading_is : (x : Rtx) → reading_of symbols regs memory x ≡ record { width = width_of (out-Rtx x).mode; value = value_of symbols regs memory x }
  reading_is x i = record { width = (reading_out x i).width; value = (reading_of symbols regs memory x).value }

  -- the width and the value of an expression, by its outside
  pub width_in : (x : Rtx) → (reading_of symbols regs memory x).width ≡ width_of (out-Rtx x).mode
  width_in x = ap (λ (r : Reading). r.width) (reading_out x)

  pub value_in : (x : Rtx) (w : Width) →
      value_of symbols regs memory x w
      ≡ value_by symbols regs memory (class_of_code (out-Rtx x).code) (out-Rtx x).code (out-Rtx x).number (out-Rtx x).name
      (map (reading_of symbols regs memory) (out-Rtx x).kids) w
  value_in x w = ap (λ (r : Reading). r.value w) (reading_out x)

  -- the same, each part as its outside is read
  pub value_read : (x : Rtx) (w : Width) →
      value_of symbols regs memory x w
      ≡ value_by symbols regs memory (class_of_code (out-Rtx x).code) (out-Rtx x).code (out-Rtx x).number (out-Rtx x).name
      (map (λ kid. record { width = width_of (out-Rtx kid).mode; value = value_of symbols regs memory kid }) (out-Rtx x).kids) w
  value_read x w =
      value_in x w
      ∙ ap (λ (f : Rtx → Reading). value_by symbols regs memory (class_of_code (out-Rtx x).code) (out-Rtx x).code (out-Rtx x).number (out-Rtx x).name (map f (out-Rtx x).kids) w)
      (λ i kid. reading_is kid i)

  more_parts : (class : Class) (code : Code) (number : ℤ) (name : List ℕ) (w : Width) (kids : List Rtx) → 2 ≤ length kids →
      value_of_parts class code (map (reading_of symbols regs memory) kids) w
      ≡ value_by symbols regs memory class code number name (map (reading_of symbols regs memory) kids) w
  more_parts class code number name w [] more = absurd (omega (arith, more))
  more_parts class code number name w (a ∷ []) more = absurd (omega (arith, more))
  more_parts class code number name w (a ∷ b ∷ kids) more = refl

  -- the value of an expression of two parts or more
  pub value_of_more : (x : Rtx) (w : Width) (kids : List Rtx) → kids ≡ (out-Rtx x).kids → 2 ≤ length kids →
      value_of_parts (class_of_code (out-Rtx x).code) (out-Rtx x).code (map (reading_of symbols regs memory) kids) w
      ≡ value_of symbols regs memory x w
  value_of_more x w kids are more =
      more_parts (class_of_code (out-Rtx x).code) (out-Rtx x).code (out-Rtx x).number (out-Rtx x).name w kids more
      ∙ ap (λ (ks : List Rtx). value_by symbols regs memory (class_of_code (out-Rtx x).code) (out-Rtx x).code (out-Rtx x).number (out-Rtx x).name (map (reading_of symbols regs memory) ks) w) are
      ∙ sym (value_in x w)

  -- ---- as the code reads the parts

  one_read : (class : Class) (code : Code) (a : Rtx) (w : Width) (o : Option Width) → o ≡ part_width class (width_of (out-Rtx a).mode) w →
      read_one memory class code (reading_of symbols regs memory a) w o ≡ value_of_one memory class code (reading_of symbols regs memory a) w
  one_read class code a w o is =
      ap (read_one memory class code (reading_of symbols regs memory a) w) (is ∙ ap (λ (own : Option Width). part_width class own w) (sym (width_in a)))
      ∙ sym (one_by memory class code (reading_of symbols regs memory a) w)

  -- the part has no width
  pub one_wide : (class : Class) (code : Code) (a : Rtx) (w : Width) → None ≡ part_width class (width_of (out-Rtx a).mode) w → None ≡ value_of_one memory class code (reading_of symbols regs memory a) w
  one_wide class code a w none = one_read class code a w None none

  -- the part was read in its width
  pub one_part : (class : Class) (code : Code) (a : Rtx) (w own : Width) (v : Option ℕ) → Some own ≡ part_width class (width_of (out-Rtx a).mode) w → v ≡ value_of symbols regs memory a own →
      of_one (with_part memory class code own w) v ≡ value_of_one memory class code (reading_of symbols regs memory a) w
  one_part class code a w own v wide is = ap (of_one (with_part memory class code own w)) is ∙ one_read class code a w (Some own) wide

  both_parts : (class : Class) (code : Code) (parts : List Rtx) (a b : Rtx) (w : Width) → 2 ≤ length parts → length parts < 3 → a ≡ get_or parts 0 a → b ≡ get_or parts 1 b →
      value_of_two class code (reading_of symbols regs memory a) (reading_of symbols regs memory b) w ≡ value_of_parts class code (map (reading_of symbols regs memory) parts) w
  both_parts class code [] a b w least below first second = absurd (omega (arith, least))
  both_parts class code (x ∷ []) a b w least below first second = absurd (omega (arith, least))
  both_parts class code (x ∷ y ∷ []) a b w least below first second = rw first (rw second refl)
  both_parts class code (x ∷ y ∷ z ∷ parts) a b w least below first second = absurd (omega (arith, below))

  module _ (class : Class) (code : Code) (parts : List Rtx) (a b : Rtx) (w : Width) (least : 2 ≤ length parts) (below : length parts < 3) (first : a ≡ get_or parts 0 a) (second : b ≡ get_or parts 1 b) where
    two_read : (o : Option (Width × Width)) → o ≡ part_widths class (width_of (out-Rtx a).mode) (width_of (out-Rtx b).mode) w →
        read_two class code (reading_of symbols regs memory a) (reading_of symbols regs memory b) o ≡ value_of_parts class code (map (reading_of symbols regs memory) parts) w
    two_read o is =
        ap (read_two class code (reading_of symbols regs memory a) (reading_of symbols regs memory b))
        (is ∙ ap (λ (own : Option Width). part_widths class own (width_of (out-Rtx b).mode) w) (sym (width_in a)) ∙ ap (λ (own : Option Width). part_widths class (reading_of symbols regs memory a).width own w) (sym (width_in b)))
        ∙ sym (two_by class code (reading_of symbols regs memory a) (reading_of symbols regs memory b) w)
        ∙ both_parts class code parts a b w least below first second

    -- the parts have no widths
    pub two_wide : None ≡ part_widths class (width_of (out-Rtx a).mode) (width_of (out-Rtx b).mode) w → None ≡ value_of_parts class code (map (reading_of symbols regs memory) parts) w
    two_wide none = two_read None none

    -- the parts were read in their widths
    pub two_parts : (own other : Width) (u v : Option ℕ) → Some (own, other) ≡ part_widths class (width_of (out-Rtx a).mode) (width_of (out-Rtx b).mode) w → u ≡ value_of symbols regs memory a own → v ≡ value_of symbols regs memory b other →
        of_two (with_parts class code own) u v ≡ value_of_parts class code (map (reading_of symbols regs memory) parts) w
    two_parts own other u v wide is and = rw is (rw and (two_read (Some (own, other)) wide))

  -- an expression by as many parts as it has
  by_kids : (x : Rtx) (w : Width) (kids : List Rtx) → kids ≡ (out-Rtx x).kids →
      value_by symbols regs memory (class_of_code (out-Rtx x).code) (out-Rtx x).code (out-Rtx x).number (out-Rtx x).name (map (reading_of symbols regs memory) kids) w ≡ value_of symbols regs memory x w
  by_kids x w kids is =
      ap (λ (ks : List Rtx). value_by symbols regs memory (class_of_code (out-Rtx x).code) (out-Rtx x).code (out-Rtx x).number (out-Rtx x).name (map (reading_of symbols regs memory) ks) w) is
      ∙ sym (value_in x w)

  one_kid : (class : Class) (code : Code) (number : ℤ) (name : List ℕ) (w : Width) (kids : List Rtx) (a : Rtx) → 1 ≤ length kids → length kids < 2 → a ≡ get_or kids 0 a →
      value_of_one memory class code (reading_of symbols regs memory a) w ≡ value_by symbols regs memory class code number name (map (reading_of symbols regs memory) kids) w
  one_kid class code number name w [] a least below is = absurd (omega (arith, least))
  one_kid class code number name w (x ∷ []) a least below is = rw is refl
  one_kid class code number name w (x ∷ y ∷ kids) a least below is = absurd (omega (arith, below))

  pub value_of_kid : (x : Rtx) (w : Width) (kids : List Rtx) (a : Rtx) → kids ≡ (out-Rtx x).kids → 1 ≤ length kids → length kids < 2 → a ≡ get_or kids 0 a →
      value_of_one memory (class_of_code (out-Rtx x).code) (out-Rtx x).code (reading_of symbols regs memory a) w ≡ value_of symbols regs memory x w
  value_of_kid x w kids a is least below first = one_kid (class_of_code (out-Rtx x).code) (out-Rtx x).code (out-Rtx x).number (out-Rtx x).name w kids a least below first ∙ by_kids x w kids is
