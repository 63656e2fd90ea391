-- What a tree becomes with references to the frame put in, as a part of another: but for virtual-stack-vars and its sums it keeps its head, and
-- these become sp or a sum.
use Rattle.std.proofs.Common.{◌≡◌, inr, ℕ, ◌==◌, not, Bool, true, false, if◌then◌else◌, List, [], ◌∷◌, map, Option, Some, None, refl, sym, ap, subst, ◌∙◌}
use Rattle.std.proofs.lemmas.Bool.{and_parts}
use Rattle.std.specs.Int.{cast_unsigned, int_wrap, w64}
use Rattle.std.specs.Ordering.{int_eq}
use Rattle.std.specs.Prelude.{ℤ, pos, ◌+ℤ◌}
use Rattle.law_operands_fetched.specs.rtx_tree.Code.{class_of_code, is_value_class, is_place_class}
use Rattle.law_operands_fetched.specs.rtx_tree.Tree.{RtxHead, head_of, kids_of, node_of, reg_of, const_of}
use Rattle.law_operands_fetched.specs.rtx_tree.declared.class.Class.{Class}
use Rattle.law_operands_fetched.specs.rtx_tree.declared.class.Class.TheVariants as class
use Rattle.law_operands_fetched.specs.rtx_tree.declared.code.Code.{Code}
use Rattle.law_operands_fetched.specs.rtx_tree.declared.code.Code.TheVariants as code
use Rattle.law_operands_fetched.specs.rtx_tree.declared.code.Mode.{Mode}
use Rattle.law_operands_fetched.specs.rtx_tree.declared.tree.Rtx.{Rtx}
use Rattle.law_operands_fetched.proofs.rtx_tree.Trees.{head_of-tree}
use Rattle.law_operands_fetched.specs.rtl_func.Modes.{register_by}
use Rattle.law_operands_fetched.specs.rtl_func.Effects.{place_register_by, place_register, changed_by, changed_register, is_stack_register}
use Rattle.law_operands_fetched.specs.rtl_func.Shapes.{class_at, mode_at, number_at, has_mode, is_constant_class, is_place, is_bare, fits_row, is_shaped}
use Rattle.law_operands_fetched.specs.md_operand.Addresses.{is_stack_vars}
use Rattle.law_operands_fetched.specs.reload_homes.FrameRefs.{from_sp, offset_by, frame_offset, framed}
use Rattle.law_operands_fetched.proofs.reload_homes.Rewrites.{framed_reference, framed_over}
use Rattle.law_operands_fetched.proofs.Based.{leaf_alone}
use Rattle.law_reload_moves.proofs.Shaping.{Alike, PlaceToo, AllAlike, FirstPlace, IsOfOthers, is_changing}
use Rattle.law_operands_fetched.proofs.SmallTrees.{no_number}

-- ---- references

pub data FrameCase (x : Rtx) : Type 0 where
  alone : (head_of x).code ≡ code.Reg → (head_of x).number ≡ pos 32 → FrameCase x
  sum : (base constant : Rtx) → (head_of x).code ≡ code.Plus → kids_of x ≡ base ∷ constant ∷ [] → FrameCase x

alone_case : (b : Bool) (x : Rtx) (n : ℤ) → is_stack_vars x ≡ b → (if b then Some (pos 0) else None) ≡ Some n → FrameCase x
alone_case true x n is at = let r = no_number (head_of x).code (head_of x).number 32 is in alone r.0 r.1
alone_case false x n is at = absurd (let no : ⊥ = cc in no)

pub offset_case : (x : Rtx) (n : ℤ) (c : Code) (kids : List Rtx) → (head_of x).code ≡ c → kids_of x ≡ kids →
    offset_by c x kids ≡ Some n → FrameCase x
offset_case x n code.Plus (a ∷ b ∷ []) is are at = sum a b is are
offset_case x n code.Plus [] is are at = alone_case (is_stack_vars x) x n refl at
offset_case x n code.Plus (a ∷ []) is are at = alone_case (is_stack_vars x) x n refl at
offset_case x n code.Plus (a ∷ b ∷ c ∷ kids) is are at = alone_case (is_stack_vars x) x n refl at
offset_case x n _ kids is are at = alone_case (is_stack_vars x) x n refl at

pub frame_case : (x : Rtx) (n : ℤ) → frame_offset x ≡ Some n → FrameCase x
frame_case x n at = offset_case x n (head_of x).code (kids_of x) refl refl at

pub row_of : (x : Rtx) → is_shaped x ≡ true → fits_row (class_at x) (mode_at x) (number_at x) (kids_of x) ≡ true
row_of x shaped = (and_parts (is_bare (class_at x) (number_at x) (head_of x).name) _ shaped).1

-- it has a mode
pub case_mode : (x : Rtx) → FrameCase x → is_shaped x ≡ true → has_mode (mode_at x) ≡ true
case_mode x (alone is number) shaped =
    let k : class_at x ≡ class.Register = ap class_of_code is in
    (and_parts (has_mode (mode_at x)) _ (ap (λ k. fits_row k (mode_at x) (number_at x) []) (sym k) ∙
    ap (fits_row (class_at x) (mode_at x) (number_at x)) (sym (leaf_alone x (inr k) shaped)) ∙ row_of x shaped)).0
case_mode x (sum base constant is are) shaped =
    (and_parts (has_mode (mode_at x)) _ (ap (λ k. fits_row k (mode_at x) (number_at x) (base ∷ constant ∷ [])) (sym (ap class_of_code is)) ∙
    ap (fits_row (class_at x) (mode_at x) (number_at x)) (sym are) ∙ row_of x shaped)).0

abbrev is_frame_class : Class → Bool
is_frame_class class.Register = true
is_frame_class class.Binary = true
is_frame_class _ = false

case_class : (x : Rtx) → FrameCase x → is_frame_class (class_at x) ≡ true
case_class x (alone is number) = ap (λ c. is_frame_class (class_of_code c)) is
case_class x (sum base constant is are) = ap (λ c. is_frame_class (class_of_code c)) is

frame_value : (k : Class) → is_frame_class k ≡ true → (is_value_class k ≡ true) × (is_constant_class k ≡ false)
frame_value class.Register is = (refl, refl)
frame_value class.Binary is = (refl, refl)
frame_value _ is = absurd (let no : ⊥ = cc in no)

no_other : (f : Class → Bool) (k : Class) → IsOfOthers f → is_frame_class k ≡ true → f k ≡ true → ⊥
no_other f class.Register of is passes = let e : true ≡ false = sym passes ∙ of.0 in let no : ⊥ = cc in no
no_other f class.Binary of is passes = let e : true ≡ false = sym passes ∙ of.1.1 in let no : ⊥ = cc in no
no_other f _ of is passes = let no : ⊥ = cc in no

sp_head : (mode : Mode) (none : Bool) (n : ℤ) → let y = if none then reg_of mode 2 else node_of code.Plus mode
    (reg_of mode 2 ∷ const_of n ∷ []) in
    (is_frame_class (class_at y) ≡ true) × (mode_at y ≡ mode)
sp_head mode true n = (
  ap (λ (h : RtxHead). is_frame_class (class_of_code h.code)) (head_of-tree _ _),
  ap (λ (h : RtxHead). h.mode) (head_of-tree _ _),
)
sp_head mode false n = (
  ap (λ (h : RtxHead). is_frame_class (class_of_code h.code)) (head_of-tree _ _),
  ap (λ (h : RtxHead). h.mode) (head_of-tree _ _),
)

frame_alike : (a b : Rtx) → is_frame_class (class_at a) ≡ true → is_frame_class (class_at b) ≡ true → mode_at b ≡ mode_at a → Alike a b
frame_alike a b is is' mode =
    let first = frame_value (class_at a) is in
    let second = frame_value (class_at b) is' in record {
      mode = mode;
      value = second.0 ∙ sym first.0;
      constant = second.1 ∙ sym first.1;
      others = λ f of passes. absurd (no_other f (class_at a) of is passes);
    }

head_alike : (a b : Rtx) → head_of b ≡ head_of a → Alike a b
head_alike a b head = record {
  mode = ap (λ (h : RtxHead). h.mode) head;
  value = ap (λ (h : RtxHead). is_value_class (class_of_code h.code)) head;
  constant = ap (λ (h : RtxHead). is_constant_class (class_of_code h.code)) head;
  others = λ f of passes. ap (λ (h : RtxHead). f (class_of_code h.code)) head ∙ passes;
}

-- virtual-stack-vars is not what it changes
abbrev pub keeps_vars : Rtx → Bool
keeps_vars x = not (is_stack_register (changed_register x))

changing_code : (k : Class) (t : Rtx) (rest : List Rtx) → is_changing k ≡ true → changed_by k (t ∷ rest) ≡ place_register t
changing_code class.Setting t rest is = refl
changing_code class.Clobber t rest is = refl
changing_code _ t rest is = absurd (let no : ⊥ = cc in no)

vars_place : (t : Rtx) → (head_of t).code ≡ code.Reg → (head_of t).number ≡ pos 32 → is_stack_register (place_register t) ≡ true
vars_place t is number =
    ap (λ c. is_stack_register (place_register_by (class_of_code c) (kids_of t) t)) is ∙
    ap (λ c. is_stack_register (register_by (class_of_code c) (number_at t))) is ∙ ap (λ n. cast_unsigned w64 n == 32) number

module _ (size : ℕ) where
  abbrev fr : Rtx → Rtx
  fr = framed size

  alike_by : (x : Rtx) (o : Option ℤ) → frame_offset x ≡ o → Alike x (fr x)
  alike_by x (Some n) at =
      let m : ℤ = int_wrap w64 (pos size +ℤ n) in
      let h = sp_head (head_of x).mode (int_eq m (pos 0)) m in
      subst (Alike x) (sym (framed_reference size x n at)) (frame_alike x (from_sp (head_of x).mode (pos size +ℤ n))
      (case_class x (frame_case x n at)) h.0 h.1)
  alike_by x None at = subst (Alike x) (sym (framed_over size x at)) (head_alike x _ (head_of-tree (head_of x) (map fr (kids_of x))))

  pub all_alike : (xs : List Rtx) → AllAlike xs (map fr xs)
  all_alike [] = tt
  all_alike (x ∷ xs) = (alike_by x (frame_offset x) refl, all_alike xs)

  sum_no_place : (k : Class) → k ≡ class.Binary → is_place_class k ≡ true → ⊥
  sum_no_place k is place = let e : true ≡ false = sym place ∙ ap is_place_class is in let no : ⊥ = cc in no

  place_by : (x : Rtx) (o : Option ℤ) → frame_offset x ≡ o → ((head_of x).code ≡ code.Reg →
      (head_of x).number ≡ pos 32 → ⊥) → PlaceToo x (fr x)
  place_by x None at none place = subst (λ (y : Rtx). is_place y ≡ true) (sym (framed_over size x at))
      (ap (λ (h : RtxHead). is_place_class (class_of_code h.code)) (head_of-tree (head_of x) (map fr (kids_of x))) ∙ place)
  place_by x (Some n) at none place = by (frame_case x n at)
    where
      by : FrameCase x → is_place (fr x) ≡ true
      by (alone is number) = absurd (none is number)
      by (sum base constant is are) = absurd (sum_no_place (class_at x) (ap class_of_code is) place)

  pub first_by : (x : Rtx) (kids : List Rtx) → kids_of x ≡ kids → keeps_vars x ≡ true →
      is_changing (class_at x) ≡ true → FirstPlace kids (map fr kids)
  first_by x [] are keeps changing = tt
  first_by x (t ∷ rest) are keeps changing = place_by t (frame_offset t) refl (λ is number.
      let e : false ≡ true = sym (ap not (vars_place t is number)) ∙ sym
      (ap (λ r. not (is_stack_register r)) (changing_code (class_at x) t rest changing)) ∙
      sym (ap (λ ks. not (is_stack_register (changed_by (class_at x) ks))) are) ∙ keeps in let no : ⊥ = cc in no)
