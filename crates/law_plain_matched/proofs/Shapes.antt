-- What it says of a well-formed pattern that it has a plain shape: its parts, and what each is.
use Rattle.std.proofs.Common.{◌≡◌, ℕ, pos, true, false, ◌&&◌, List, [], ◌∷◌, Some, refl, sym, ap, subst, ◌∙◌}
use Rattle.std.proofs.lemmas.Slice.Eq.{bytes_eq-Decides}
use Rattle.rtx_tree.specs.declared.code.Code.{Code}
use Rattle.rtx_tree.specs.declared.code.Code.TheVariants as code
use Rattle.rtx_tree.specs.declared.code.Mode.{Mode}
use Rattle.rtx_tree.specs.declared.code.Mode.TheVariants.{Void, SI}
use Rattle.rtx_tree.specs.declared.tree.Rtx.{Rtx, out-Rtx}
use Rattle.rtx_tree.specs.Code.{class_of_code, code_name, code_named, same_code}
use Rattle.rtx_tree.proofs.Codes.{named_again}
use Rattle.rtx_tree.specs.Patterns.{set_rtx, is_pc}
use Rattle.rtx_tree.specs.Tree.{head_of, tree_of, leaf_of, node_of, const_of, kids_of}
use Rattle.rtl_func.specs.Shapes as shapes
use Rattle.md_operand.specs.Operand.{is_constant, is_comparison, has_mode, accepts_mode, is_extended, const_int_operand, accepts}
use Rattle.md_operand.specs.declared.built_in.BuiltIn.TheVariants as own
use Rattle.plain_shape.specs.Plain.{is_part, is_one, are_two, is_source, is_operation, is_test, is_target, is_target_by, is_call, is_call_by, is_uid, is_label, is_label_by, are_ways, are_choice, is_choice, is_choice_by, is_set_by, is_jump_by, is_branch_by, is_return_by}
use Rattle.plain_shape.specs.declared.shape.Part.{Part}
use Rattle.plain_shape.specs.declared.shape.Part.TheVariants.{Register, RegisterOrConstant}
use Rattle.plain_shape.specs.declared.shape.Source.{Source}
use Rattle.law_plain_leaves.specs.Machine.{is_printable, AreShaped, ArePrintable}
use Rattle.law_plain_leaves.proofs.Shaped.{Each, tree_is, two_of, itself, parts}
use Rattle.law_plain_leaves.proofs.Leaves.{IsMode, mode_is, constant_is, number}
use Rattle.law_plain_matches.proofs.Leads.{label_of, call_of}
use Rattle.rtx_open.proofs.Expressions.{rtx}
use Rattle.law_plain_matched.specs.Matched.{IsConstantOf, choice}
use Rattle.law_plain_taken.proofs.Nodes.{IsOperation, operation_is, set_is, label_is, choice_is, call_is, pc_is}

-- ---- well-formed trees, and their parts

pub record IsWell (x : Rtx) : Type 0 where
  pub shaped : AreShaped x
  pub printable : ArePrintable x

part_of : (x a b : Rtx) → kids_of x ≡ a ∷ b ∷ [] → IsWell x → IsWell a × IsWell b
part_of x a b are w =
    let shaped = subst (Each shapes.is_shaped) are (parts shapes.is_shaped x w.shaped) in
    let printable = subst (Each is_printable) are (parts is_printable x w.printable) in
    (record { shaped = shaped.0; printable = printable.0 }, record { shaped = shaped.1.0; printable = printable.1.0 })

only_part_of : (x a : Rtx) → kids_of x ≡ a ∷ [] → IsWell x → IsWell a
only_part_of x a are w =
    let shaped = subst (Each shapes.is_shaped) are (parts shapes.is_shaped x w.shaped) in
    let printable = subst (Each is_printable) are (parts is_printable x w.printable) in
    record { shaped = shaped.0; printable = printable.0 }

three_parts_of : (x a b c : Rtx) → kids_of x ≡ a ∷ b ∷ c ∷ [] → IsWell x → IsWell a × IsWell b × IsWell c
three_parts_of x a b c are w =
    let shaped = subst (Each shapes.is_shaped) are (parts shapes.is_shaped x w.shaped) in
    let printable = subst (Each is_printable) are (parts is_printable x w.printable) in
    (record { shaped = shaped.0; printable = printable.0 }, record { shaped = shaped.1.0; printable = printable.1.0 }, record { shaped = shaped.1.1.0; printable = printable.1.1.0 })

-- ---- a set

pub record IsSetOf (target : Part) (from : Source) (x : Rtx) : Type 0 where
  pub place : Rtx
  pub source : Rtx
  pub well_place : IsWell place
  pub well_source : IsWell source
  pub is_target : is_part target place ≡ true
  pub is_from : is_source from source ≡ true
  pub is : x ≡ set_rtx place source

abbrev SetParts : Part → Source → Code → List Rtx → Type 0
SetParts target from c kids = (a : Rtx) × (b : Rtx) × (c ≡ code.Set) × (kids ≡ a ∷ b ∷ []) × (is_part target a ≡ true) × (is_source from b ≡ true)

set_parts : (target : Part) (from : Source) (c : Code) (kids : List Rtx) → is_set_by target from c kids ≡ true → SetParts target from c kids
set_parts target from code.Set (a ∷ b ∷ []) is = let two = two_of (is_part target a) (is_source from b) is in (a, b, refl, refl, two.0, two.1)
set_parts target from _ kids is = absurd (let no : ⊥ = cc in no)

pub is_set : (target : Part) (from : Source) (x : Rtx) → is_set_by target from (out-Rtx x).code (kids_of x) ≡ true → IsWell x → IsSetOf target from x
is_set target from x is w =
    let s = set_parts target from (out-Rtx x).code (kids_of x) is in
    let wells = part_of x s.0 s.1 s.3 w in
    record { place = s.0; source = s.1; well_place = wells.0; well_source = wells.1; is_target = s.4; is_from = s.5; is = set_is x s.0 s.1 w.shaped w.printable s.2 s.3 }

-- ---- operations

-- codes are told apart by their names
apart : (a b : Code) → same_code a b ≡ true → a ≡ b
apart a b is =
    let names = (bytes_eq-Decides (code_name a) (code_name b)).0 is in
    let one : Some a ≡ Some b = sym (named_again a) ∙ (ap code_named names ∙ named_again b) in
    cc

pub record IsUnary (c : Code) (m : Mode) (a : Part) (x : Rtx) : Type 0 where
  pub inner : Rtx
  pub well : IsWell inner
  pub is_inner : is_part a inner ≡ true
  pub is : x ≡ node_of c m (inner ∷ [])

one_part : (a : Part) (kids : List Rtx) → is_one a kids ≡ true → (y : Rtx) × (kids ≡ y ∷ []) × (is_part a y ≡ true)
one_part a (y ∷ []) is = (y, refl, is)
one_part a [] is = absurd (let no : ⊥ = cc in no)
one_part a (y ∷ z ∷ kids) is = absurd (let no : ⊥ = cc in no)

two_parts : (a b : Part) (kids : List Rtx) → are_two a b kids ≡ true → (y : Rtx) × (z : Rtx) × (kids ≡ y ∷ z ∷ []) × (is_part a y ≡ true) × (is_part b z ≡ true)
two_parts a b (y ∷ z ∷ []) is = let two = two_of (is_part a y) (is_part b z) is in (y, z, refl, two.0, two.1)
two_parts a b [] is = absurd (let no : ⊥ = cc in no)
two_parts a b (y ∷ []) is = absurd (let no : ⊥ = cc in no)
two_parts a b (y ∷ z ∷ u ∷ kids) is = absurd (let no : ⊥ = cc in no)

module _ (c : Code) (m : Mode) (moded : IsMode m) (plain : IsOperation (class_of_code c)) (x : Rtx) (w : IsWell x) where
  node_is : (kids : List Rtx) → is_operation c m x ≡ true → kids_of x ≡ kids → x ≡ node_of c m kids
  node_is kids is are =
      let two = two_of (same_code (out-Rtx x).code c) (has_mode m x) is in
      operation_is x c m kids plain (itself shapes.is_shaped x w.shaped) (itself is_printable x w.printable) (apart (out-Rtx x).code c two.0) (mode_is m (out-Rtx x).mode moded two.1) are

  pub is_unary : (a : Part) → (is_operation c m x && is_one a (kids_of x)) ≡ true → IsUnary c m a x
  is_unary a is =
      let two = two_of (is_operation c m x) (is_one a (kids_of x)) is in
      let y = one_part a (kids_of x) two.1 in
      record { inner = y.0; well = only_part_of x y.0 y.1 w; is_inner = y.2; is = node_is (y.0 ∷ []) two.0 y.1 }

pub record IsBinary (c : Code) (m : Mode) (a b : Part) (x : Rtx) : Type 0 where
  pub left : Rtx
  pub right : Rtx
  pub well_left : IsWell left
  pub well_right : IsWell right
  pub is_left : is_part a left ≡ true
  pub is_right : is_part b right ≡ true
  pub is : x ≡ node_of c m (left ∷ right ∷ [])

module _ (c : Code) (m : Mode) (moded : IsMode m) (plain : IsOperation (class_of_code c)) (x : Rtx) (w : IsWell x) where
  pub is_binary : (a b : Part) → (is_operation c m x && are_two a b (kids_of x)) ≡ true → IsBinary c m a b x
  is_binary a b is =
      let two = two_of (is_operation c m x) (are_two a b (kids_of x)) is in
      let s = two_parts a b (kids_of x) two.1 in
      let wells = part_of x s.0 s.1 s.2 w in
      record { left = s.0; right = s.1; well_left = wells.0; well_right = wells.1; is_left = s.3; is_right = s.4; is = node_is c m moded plain x w (s.0 ∷ s.1 ∷ []) two.0 s.2 }

-- ---- comparisons

pub record IsTestOf (to from : Mode) (x : Rtx) : Type 0 where
  pub left : Rtx
  pub right : Rtx
  pub accepted : accepts own.Comparison to x ≡ true
  pub is_left : is_part (Register from) left ≡ true
  pub is_right : is_part (RegisterOrConstant from) right ≡ true
  pub well_right : IsWell right
  pub kids_are : kids_of x ≡ left ∷ right ∷ []
  pub whole : x ≡ tree_of (head_of x) (left ∷ right ∷ [])

pub is_test_of : (to from : Mode) (x : Rtx) → is_test to from x ≡ true → IsWell x → IsTestOf to from x
is_test_of to from x is w =
    let two = two_of (accepts own.Comparison to x) (are_two (Register from) (RegisterOrConstant from) (kids_of x)) is in
    let s = two_parts (Register from) (RegisterOrConstant from) (kids_of x) two.1 in
    record {
      left = s.0;
      right = s.1;
      accepted = two.0;
      is_left = s.3;
      is_right = s.4;
      well_right = (part_of x s.0 s.1 s.2 w).1;
      kids_are = s.2;
      whole = tree_is x (out-Rtx x).code (out-Rtx x).mode (out-Rtx x).number (out-Rtx x).name (s.0 ∷ s.1 ∷ []) (record { code = refl; mode = refl; number = refl; name = refl; kids_are = s.2 });
    }

-- ---- constants

pub constant_of : (m : Mode) (x : Rtx) → const_int_operand m x ≡ true → IsWell x → IsConstantOf m x
constant_of m x is w =
    let two = two_of (is_constant x) (is_extended m (out-Rtx x).number) is in
    record { value = (out-Rtx x).number; within = two.1; is = constant_is x (itself shapes.is_shaped x w.shaped) two.0 }

-- ---- jumps and branches

label_parts : (c : Code) (kids : List Rtx) → is_label_by c kids ≡ true → (u : Rtx) × (c ≡ code.LabelRef) × (kids ≡ u ∷ []) × (is_constant u ≡ true)
label_parts code.LabelRef (u ∷ []) is = (u, refl, refl, is)
label_parts code.LabelRef [] is = absurd (let no : ⊥ = cc in no)
label_parts code.LabelRef (u ∷ v ∷ kids) is = absurd (let no : ⊥ = cc in no)
label_parts _ kids is = absurd (let no : ⊥ = cc in no)

pub record IsLabelOf (x : Rtx) : Type 0 where
  pub uid : Rtx
  pub is : x ≡ label_of uid
  pub constant : is_constant uid ≡ true

pub is_label_of : (x : Rtx) → is_label x ≡ true → IsWell x → IsLabelOf x
is_label_of x is w =
    let s = label_parts (out-Rtx x).code (kids_of x) is in
    record { uid = s.0; is = label_is x s.0 w.shaped w.printable s.1 s.2; constant = s.3 }

jump_parts : (c : Code) (kids : List Rtx) → is_jump_by c kids ≡ true → (a : Rtx) × (b : Rtx) × (c ≡ code.Set) × (kids ≡ a ∷ b ∷ []) × (is_pc a ≡ true) × (is_label b ≡ true)
jump_parts code.Set (a ∷ b ∷ []) is = let two = two_of (is_pc a) (is_label b) is in (a, b, refl, refl, two.0, two.1)
jump_parts _ kids is = absurd (let no : ⊥ = cc in no)

pub record IsJumpTo (x : Rtx) : Type 0 where
  pub uid : Rtx
  pub is : x ≡ set_rtx (leaf_of code.Pc Void (pos 0)) (label_of uid)

pub is_jump_to : (x : Rtx) → is_jump_by (out-Rtx x).code (kids_of x) ≡ true → IsWell x → IsJumpTo x
is_jump_to x is w =
    let s = jump_parts (out-Rtx x).code (kids_of x) is in
    let wells = part_of x s.0 s.1 s.3 w in
    let label = is_label_of s.1 s.5 wells.1 in
    let pc = pc_is s.0 wells.0.shaped wells.0.printable s.4 in
    record { uid = label.uid; is = set_is x s.0 s.1 w.shaped w.printable s.2 s.3 ∙ (ap (λ a. set_rtx a s.1) pc ∙ ap (λ b. set_rtx (leaf_of code.Pc Void (pos 0)) b) label.is) }

branch_parts : (m : Mode) (c : Code) (kids : List Rtx) → is_branch_by m c kids ≡ true → (a : Rtx) × (b : Rtx) × (c ≡ code.Set) × (kids ≡ a ∷ b ∷ []) × (is_pc a ≡ true) × (is_choice m b ≡ true)
branch_parts m code.Set (a ∷ b ∷ []) is = let two = two_of (is_pc a) (is_choice m b) is in (a, b, refl, refl, two.0, two.1)
branch_parts m _ kids is = absurd (let no : ⊥ = cc in no)

abbrev ChoiceParts : Mode → Code → List Rtx → Type 0
ChoiceParts m c kids = (a : Rtx) × (b : Rtx) × (d : Rtx) × (c ≡ code.IfThenElse) × (kids ≡ a ∷ b ∷ d ∷ []) × (is_test Void m a ≡ true) × (is_label b ≡ true) × (is_pc d ≡ true)

choice_parts : (m : Mode) (c : Code) (kids : List Rtx) → is_choice_by m c kids ≡ true → ChoiceParts m c kids
choice_parts m code.IfThenElse (a ∷ b ∷ d ∷ []) is =
    let two = two_of (is_test Void m a) (are_ways b d) is in
    let ways = two_of (is_label b) (is_pc d) two.1 in
    (a, b, d, refl, refl, two.0, ways.0, ways.1)
choice_parts m code.IfThenElse [] is = absurd (let no : ⊥ = cc in no)
choice_parts m code.IfThenElse (a ∷ []) is = absurd (let no : ⊥ = cc in no)
choice_parts m code.IfThenElse (a ∷ b ∷ []) is = absurd (let no : ⊥ = cc in no)
choice_parts m code.IfThenElse (a ∷ b ∷ d ∷ e ∷ kids) is = absurd (let no : ⊥ = cc in no)
choice_parts m _ kids is = absurd (let no : ⊥ = cc in no)

pub record IsBranchOn (m : Mode) (x : Rtx) : Type 0 where
  pub test : Rtx
  pub of : IsTestOf Void m test
  pub uid : Rtx
  pub constant : is_constant uid ≡ true
  pub is : x ≡ set_rtx (leaf_of code.Pc Void (pos 0)) (choice test uid)

pub is_branch_on : (m : Mode) (x : Rtx) → is_branch_by m (out-Rtx x).code (kids_of x) ≡ true → IsWell x → IsBranchOn m x
is_branch_on m x is w =
    let s = branch_parts m (out-Rtx x).code (kids_of x) is in
    let wells = part_of x s.0 s.1 s.3 w in
    let c = choice_parts m (out-Rtx s.1).code (kids_of s.1) s.5 in
    let inner = three_parts_of s.1 c.0 c.1 c.2 c.4 wells.1 in
    let label = is_label_of c.1 c.6 inner.1 in
    let pc = leaf_of code.Pc Void (pos 0) in
    let here = pc_is s.0 wells.0.shaped wells.0.printable s.4 in
    let next = pc_is c.2 inner.2.shaped inner.2.printable c.7 in
    record {
      test = c.0;
      of = is_test_of Void m c.0 c.5 inner.0;
      uid = label.uid;
      constant = label.constant;
      is =
          set_is x s.0 s.1 w.shaped w.printable s.2 s.3 ∙ (ap (λ a. set_rtx a s.1) here ∙ (ap (λ b. set_rtx pc b) (choice_is s.1 c.0 c.1 c.2 wells.1.shaped wells.1.printable c.3 c.4) ∙
          (ap (λ l. set_rtx pc (node_of code.IfThenElse Void (c.0 ∷ l ∷ c.2 ∷ []))) label.is ∙ ap (λ n. set_rtx pc (node_of code.IfThenElse Void (c.0 ∷ label_of label.uid ∷ n ∷ []))) next)));
    }

-- ---- calls

abbrev CallParts : Part → Code → List Rtx → Type 0
CallParts part c kids = (a : Rtx) × (b : Rtx) × (c ≡ code.Call) × (kids ≡ a ∷ b ∷ []) × (is_target part a ≡ true)

call_parts : (part : Part) (c : Code) (kids : List Rtx) → is_call_by part c kids ≡ true → CallParts part c kids
call_parts part code.Call (a ∷ b ∷ []) is = let two = two_of (is_target part a) (is_constant b) is in (a, b, refl, refl, two.0)
call_parts part _ kids is = absurd (let no : ⊥ = cc in no)

target_parts : (part : Part) (c : Code) (kids : List Rtx) → is_target_by part c kids ≡ true → (y : Rtx) × (c ≡ code.Mem) × (kids ≡ y ∷ []) × (is_part part y ≡ true)
target_parts part code.Mem kids is = let y = one_part part kids is in (y.0, refl, y.1, y.2)
target_parts part _ kids is = absurd (let no : ⊥ = cc in no)

pub record IsCallOf (part : Part) (x : Rtx) : Type 0 where
  pub at : Rtx
  pub size : Rtx
  pub well_at : IsWell at
  pub is_at : is_part part at ≡ true
  pub is : x ≡ call_of at size

pub is_call_to : (part : Part) (x : Rtx) → is_call part x ≡ true → IsWell x → IsCallOf part x
is_call_to part x is w =
    let s = call_parts part (out-Rtx x).code (kids_of x) is in
    let wells = part_of x s.0 s.1 s.3 w in
    let two = two_of (has_mode SI s.0) (is_target_by part (out-Rtx s.0).code (kids_of s.0)) s.4 in
    let y = target_parts part (out-Rtx s.0).code (kids_of s.0) two.1 in
    let memory = operation_is s.0 code.Mem SI (y.0 ∷ []) (refl, refl) (itself shapes.is_shaped s.0 wells.0.shaped) (itself is_printable s.0 wells.0.printable) y.1 (mode_is SI (out-Rtx s.0).mode refl two.0) y.2 in
    record {
      at = y.0;
      size = s.1;
      well_at = only_part_of s.0 y.0 y.2 wells.0;
      is_at = y.3;
      is = call_is x s.0 s.1 w.shaped w.printable s.2 s.3 ∙ ap (λ a. node_of code.Call Void (a ∷ s.1 ∷ [])) memory;
    }
