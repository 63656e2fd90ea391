-- The operands of an instruction that has a standard name are parts of its pattern.
use Rattle.std.proofs.Common.{ℕ, ◌&&◌, not, Bool, true, false, List, [], ◌∷◌, ◌++◌, Option, Some, None}
use Rattle.std.specs.Prelude.{if◌then◌else◌, codes, IfSome}
use Rattle.std.specs.List.{list_all, flat_map, AllByRecursion}
use Rattle.rtx_tree.specs.declared.class.Class.{Class}
use Rattle.rtx_tree.specs.declared.class.Class.TheVariants as class
use Rattle.rtx_tree.specs.declared.code.Mode.{Mode}
use Rattle.rtx_tree.specs.declared.code.Mode.TheVariants.{Void}
use Rattle.rtx_tree.specs.declared.tree.Rtx.{Rtx}
use Rattle.rtx_tree.specs.Tree.{kids_of}
use Rattle.rtx_tree.specs.Patterns.{is_pc}
use Rattle.rtl_func.specs.Shapes.{class_at, mode_at, has_mode, is_constant, is_called}
use Rattle.std_name.specs.declared.standard.StandardOperand.{StandardOperand}
use Rattle.std_name.specs.declared.standard.Standard.{Standard}
use Rattle.std_name.specs.Names.{letters, row, row_where, call_row, call_value_row, move_row, compared_mode, compared, binary_row, unary_row, conversion_row, compare_row, value_row, label_row, jump_row, compared_branch, branch_by, branch_row, go_row, set_row, pattern_row, standard_of, word_of, code_at}
use Rattle.std_name.specs.Operands.{is_vars, fits, target, input, fixed}
use Rattle.law_lowering.proofs.Keeping.{Keeps, AllKeep, parts_keep}

abbrev pub Good : StandardOperand → Type 0
Good operand = Keeps operand.tree

abbrev pub AllGood : List StandardOperand → Type 0
AllGood = AllByRecursion Good

abbrev pub GoodStandard : Standard → Type 0
GoodStandard standard = AllGood standard.operands

abbrev GoodRow : Option Standard → Type 0
GoodRow found = IfSome found GoodStandard

good_row : (word : List ℕ) (modes : List Mode) (count : List ℕ) (operands : List StandardOperand) → AllGood operands → GoodRow (row word modes count operands)
good_row word modes count operands good = by (list_all has_mode modes && list_all fits operands)
  where
    named : Standard
    named = record { name = word ++ (flat_map letters modes ++ count); operands = operands }

    by : (b : Bool) → GoodRow (if b then Some named else None)
    by true = good
    by false = tt

good_where : (holds : Bool) (found : Option Standard) → GoodRow found → GoodRow (row_where holds found)
good_where true found good = good
good_where false found good = tt

-- ---- values

good_call : (place size : Rtx) → Keeps place → Keeps size → GoodRow (call_row place size)
good_call place size p s =
    good_where (is_called place size) _ (good_row (codes "call") [] [] (input Void place ∷ fixed size ∷ []) (p, (s, tt)))

good_call_value : (result place size : Rtx) → Keeps result → Keeps place → Keeps size → GoodRow (call_value_row result place size)
good_call_value result place size r p s =
    good_where (is_called place size) _ (good_row (codes "call_value") [] [] (target result ∷ input Void place ∷ fixed size ∷ []) (r, (p, (s, tt))))

good_move : (x source : Rtx) → Keeps x → Keeps source → GoodRow (move_row x source)
good_move x source k s =
    good_where (not (is_vars source)) _ (good_row (codes "mov") (mode_at x ∷ []) [] (target x ∷ input (mode_at x) source ∷ []) (k, (s, tt)))

good_binary : (x source a : Rtx) (other : Mode) (b : Rtx) → Keeps x → Keeps a → Keeps b → GoodRow (binary_row x source a other b)
good_binary x source a other b k first second =
    good_row (word_of (code_at source)) (mode_at source ∷ []) (codes "3") (target x ∷ input (mode_at source) a ∷ input other b ∷ []) (k, (first, (second, tt)))

good_unary : (x source a : Rtx) → Keeps x → Keeps a → GoodRow (unary_row x source a)
good_unary x source a k first =
    good_row (word_of (code_at source)) (mode_at source ∷ []) (codes "2") (target x ∷ input (mode_at source) a ∷ []) (k, (first, tt))

good_conversion : (x source a : Rtx) → Keeps x → Keeps a → GoodRow (conversion_row x source a)
good_conversion x source a k first =
    good_row (word_of (code_at source)) (mode_at a ∷ mode_at source ∷ []) (codes "2") (target x ∷ input Void a ∷ []) (k, (first, tt))

good_compare : (x test a b : Rtx) → Keeps x → Keeps test → Keeps a → Keeps b → GoodRow (compare_row x test a b)
good_compare x test a b k t first second =
    good_row (codes "cstore") (compared_mode a b ∷ []) (codes "4") (target x ∷ compared (compared_mode a b) test a b []) (k, (t, (first, (second, tt))))

good_value : (c : Class) (x source : Rtx) (parts : List Rtx) → Keeps x → Keeps source → AllKeep parts → GoodRow (value_row c x source parts)
good_value class.Binary x source (a ∷ b ∷ []) k s keep = good_binary x source a (mode_at source) b k keep.0 keep.1.0
good_value class.Shift x source (a ∷ count ∷ []) k s keep = good_binary x source a Void count k keep.0 keep.1.0
good_value class.Unary x source (a ∷ []) k s keep = good_unary x source a k keep.0
good_value class.Extension x source (a ∷ []) k s keep = good_conversion x source a k keep.0
good_value class.Truncation x source (a ∷ []) k s keep = good_conversion x source a k keep.0
good_value class.Comparison x source (a ∷ b ∷ []) k s keep = good_compare x source a b k s keep.0 keep.1.0
good_value class.Call x source (place ∷ size ∷ []) k s keep = good_call_value x place size k keep.0 keep.1.0
good_value _ x source parts k s keep = good_move x source k s

-- ---- jumps

good_label : (uid : Rtx) → Keeps uid → GoodRow (label_row uid)
good_label uid u = good_where (is_constant uid) _ (good_row (codes "jump") [] [] (fixed uid ∷ []) (u, tt))

good_jump : (c : Class) (parts : List Rtx) → AllKeep parts → GoodRow (jump_row c parts)
good_jump class.Label (uid ∷ []) keep = good_label uid keep.0
good_jump _ parts keep = tt

good_compared_branch : (test a b uid : Rtx) → Keeps test → Keeps a → Keeps b → Keeps uid → GoodRow (compared_branch test a b uid)
good_compared_branch test a b uid t first second u =
    good_where (is_constant uid) _
    (good_row (codes "cbranch") (compared_mode a b ∷ []) (codes "4") (compared (compared_mode a b) test a b (fixed uid ∷ [])) (t, (first, (second, (u, tt)))))

good_branch_by : (c : Class) (test : Rtx) (operands : List Rtx) (d : Class) (parts : List Rtx) → Keeps test → AllKeep operands → AllKeep parts →
    GoodRow (branch_by c test operands d parts)
good_branch_by class.Comparison test (a ∷ b ∷ []) class.Label (uid ∷ []) t keep more = good_compared_branch test a b uid t keep.0 keep.1.0 more.0
good_branch_by _ test operands _ parts t keep more = tt

good_branch : (test label next : Rtx) → Keeps test → Keeps label → GoodRow (branch_row test label next)
good_branch test label next t l =
    good_where (is_pc next) _ (good_branch_by (class_at test) test (kids_of test) (class_at label) (kids_of label) t (parts_keep test t) (parts_keep label l))

good_go : (c : Class) (parts : List Rtx) → AllKeep parts → GoodRow (go_row c parts)
good_go class.Branch (test ∷ label ∷ next ∷ []) keep = good_branch test label next keep.0 keep.1.0
good_go c parts keep = good_jump c parts keep

-- ---- instructions

good_set : (x source : Rtx) → Keeps x → Keeps source → GoodRow (set_row x source)
good_set x source k s = by (is_pc x)
  where
    by : (b : Bool) → GoodRow (if b then go_row (class_at source) (kids_of source) else value_row (class_at source) x source (kids_of source))
    by true = good_go (class_at source) (kids_of source) (parts_keep source s)
    by false = good_value (class_at source) x source (kids_of source) k s (parts_keep source s)

good_pattern : (c : Class) (parts : List Rtx) → AllKeep parts → GoodRow (pattern_row c parts)
good_pattern class.Setting (x ∷ source ∷ []) keep = good_set x source keep.0 keep.1.0
good_pattern class.Call (place ∷ size ∷ []) keep = good_call place size keep.0 keep.1.0
good_pattern _ parts keep = tt

pub good_standard : (x : Rtx) → Keeps x → IfSome (standard_of x) GoodStandard
good_standard x keeps = good_pattern (class_at x) (kids_of x) (parts_keep x keeps)
