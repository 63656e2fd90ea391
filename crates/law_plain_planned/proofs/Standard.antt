-- The standard name of an operation on a register and a constant.
use Rattle.std.proofs.Common.{◌≡◌, ℕ, pos, Bool, true, false, not, ◌&&◌, List, [], ◌∷◌, ◌++◌, codes, Option, Some, None, refl, sym, ap, ◌∙◌}
use Rattle.std.proofs.lemmas.Bool.{and_from}
use Rattle.std.specs.Prelude.{if◌then◌else◌}
use Rattle.std.specs.List.{list_all, flat_map}
use Rattle.rtx_tree.specs.declared.class.Class.TheVariants as class
use Rattle.rtx_tree.specs.declared.code.Code.{Code}
use Rattle.rtx_tree.specs.declared.code.Code.TheVariants as code
use Rattle.rtx_tree.specs.declared.code.Mode.{Mode}
use Rattle.rtx_tree.specs.declared.tree.Rtx.{Rtx, out-Rtx, out-roll-Rtx}
use Rattle.rtx_tree.specs.Code.{class_of_code}
use Rattle.rtx_tree.specs.Patterns.{set_rtx, is_pc, is_pc_code}
use Rattle.rtx_tree.specs.Tree.{node_of, kids_of}
use Rattle.rtl_func.specs.Shapes.{has_mode, is_place}
use Rattle.md_operand.specs.Operand.{is_register, is_register_by, is_memory, is_memory_by, is_constant, is_constant_code}
use Rattle.std_name.specs.declared.standard.Standard.{Standard}
use Rattle.std_name.specs.declared.standard.StandardOperand.{StandardOperand}
use Rattle.std_name.specs.Names.{standard_of, pattern_row, set_row, go_row, value_row, row, word_of, letters}
use Rattle.std_name.specs.Operands.{is_vars, is_leaf, is_leaf_class, fits, target, input}

-- ---- what is set is not the pc

register_by : (c : Code) (x : Rtx) (kids : List Rtx) → is_register_by c x kids ≡ true → is_pc_code c ≡ false
register_by code.Reg x kids is = refl
register_by code.Subreg x kids is = refl
register_by _ x kids is = absurd (let no : ⊥ = cc in no)

pub register_no_pc : (x : Rtx) → is_register x ≡ true → is_pc x ≡ false
register_no_pc x is = register_by (out-Rtx x).code x (out-Rtx x).kids is

memory_by : (c : Code) (kids : List Rtx) → is_memory_by c kids ≡ true → is_pc_code c ≡ false
memory_by code.Mem kids is = refl
memory_by _ kids is = absurd (let no : ⊥ = cc in no)

pub memory_no_pc : (x : Rtx) → is_memory x ≡ true → is_pc x ≡ false
memory_no_pc x is = memory_by (out-Rtx x).code (out-Rtx x).kids is

-- ---- operands

leaf_by : (c : Code) (x : Rtx) (kids : List Rtx) → is_register_by c x kids ≡ true → is_leaf_class (class_of_code c) ≡ true
leaf_by code.Reg x kids is = refl
leaf_by code.Subreg x kids is = refl
leaf_by _ x kids is = absurd (let no : ⊥ = cc in no)

pub register_leaf : (x : Rtx) → is_register x ≡ true → is_leaf x ≡ true
register_leaf x is = leaf_by (out-Rtx x).code x (out-Rtx x).kids is

constant_by : (c : Code) → is_constant_code c ≡ true → is_leaf_class (class_of_code c) ≡ true
constant_by code.ConstInt is = refl
constant_by _ is = absurd (let no : ⊥ = cc in no)

pub constant_leaf : (x : Rtx) → is_constant x ≡ true → is_leaf x ≡ true
constant_leaf x is = constant_by (out-Rtx x).code is

-- ---- (set X SOURCE)

pub set_is : (x source : Rtx) → is_pc x ≡ false → standard_of (set_rtx x source) ≡ value_row (class_of_code (out-Rtx source).code) x source (kids_of source)
set_is x source no_pc =
    ap (λ o. pattern_row (class_of_code o.code) o.kids) (out-roll-Rtx _) ∙
    ap (λ b. if b then go_row (class_of_code (out-Rtx source).code) (kids_of source) else value_row (class_of_code (out-Rtx source).code) x source (kids_of source)) no_pc

-- a row whose operands are such
pub row_is : (word : List ℕ) (modes : List Mode) (count : List ℕ) (operands : List StandardOperand) → list_all has_mode modes ≡ true → list_all fits operands ≡ true →
    row word modes count operands ≡ Some (record { name = word ++ (flat_map letters modes ++ count); operands = operands })
row_is word modes count operands moded fit =
    ap (λ b. if b then Some (record { name = word ++ (flat_map letters modes ++ count); operands = operands }) else None) (and_from (list_all has_mode modes) (list_all fits operands) moded fit)

-- ---- (set X (CODE:MODE A K))

abbrev pub binary_name : Code → Mode → List ℕ
binary_name c m = word_of c ++ (flat_map letters (m ∷ []) ++ codes "3")

abbrev pub binary_operands : Mode → Rtx → Rtx → Rtx → List StandardOperand
binary_operands m x a k = target x ∷ input m a ∷ input m k ∷ []

pub binary_is : (c : Code) (m : Mode) (x a k : Rtx) → class_of_code c ≡ class.Binary → is_pc x ≡ false → list_all has_mode (m ∷ []) ≡ true → list_all fits (binary_operands m x a k) ≡ true →
    standard_of (set_rtx x (node_of c m (a ∷ k ∷ []))) ≡ Some (record { name = binary_name c m; operands = binary_operands m x a k })
binary_is c m x a k binary no_pc moded fit =
    let source = node_of c m (a ∷ k ∷ []) in
    set_is x source no_pc ∙ (ap (λ o. value_row (class_of_code o.code) x source o.kids) (out-roll-Rtx _) ∙ (ap (λ r. value_row r x source (a ∷ k ∷ [])) binary ∙
    (ap (λ o. row (word_of o.code) (o.mode ∷ []) (codes "3") (target x ∷ input o.mode a ∷ input o.mode k ∷ [])) (out-roll-Rtx _) ∙ row_is (word_of c) (m ∷ []) (codes "3") (binary_operands m x a k) moded fit)))
