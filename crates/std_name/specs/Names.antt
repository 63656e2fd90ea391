-- The standard names of instructions: GCC Internals, "Standard Pattern Names For Generation"
-- (`mov`, `add`, `ashl`, `neg`, `extend`, `cstore`, `cbranch`, `jump`, `call`, `call_value`, ..).
use Rattle.std.specs.Prelude.{ℕ, ◌&&◌, not, Bool, if◌then◌else◌, List, [], ◌∷◌, ◌++◌, codes, Option, Some, None}
use Rattle.std.specs.List.{list_all, flat_map}
use Rattle.rtx_tree.specs.declared.class.Class.{Class}
use Rattle.rtx_tree.specs.declared.class.Class.TheVariants as class
use Rattle.rtx_tree.specs.declared.code.Code.{Code}
use Rattle.rtx_tree.specs.declared.code.Code.TheVariants as code
use Rattle.rtx_tree.specs.declared.code.Mode.{Mode}
use Rattle.rtx_tree.specs.declared.code.Mode.TheVariants.{Void, QI, HI, SI, DI}
use Rattle.rtx_tree.specs.declared.tree.Rtx.{Rtx, out-Rtx}
use Rattle.rtx_tree.specs.Tree.{kids_of}
use Rattle.rtx_tree.specs.Patterns.{is_pc}
use Rattle.rtl_func.specs.Shapes.{class_at, mode_at, has_mode, is_constant, is_called}
use Rattle.std_name.specs.declared.standard.StandardOperand.{StandardOperand}
use Rattle.std_name.specs.declared.standard.Standard.{Standard}
use Rattle.std_name.specs.Operands.{is_vars, fits, target, input, comparison, fixed}

-- ---- the words of names

-- what stands for a mode
abbrev pub letters : Mode → List ℕ
letters QI = codes "qi"
letters HI = codes "hi"
letters SI = codes "si"
letters DI = codes "di"
letters Void = []

-- the word of an operation; any other source of a value is moved
abbrev pub word_of : Code → List ℕ
word_of code.Plus = codes "add"
word_of code.Minus = codes "sub"
word_of code.Mult = codes "mul"
word_of code.Div = codes "div"
word_of code.Udiv = codes "udiv"
word_of code.Mod = codes "mod"
word_of code.Umod = codes "umod"
word_of code.And = codes "and"
word_of code.Ior = codes "ior"
word_of code.Xor = codes "xor"
word_of code.Ashift = codes "ashl"
word_of code.Ashiftrt = codes "ashr"
word_of code.Lshiftrt = codes "lshr"
word_of code.Neg = codes "neg"
word_of code.Not = codes "one_cmpl"
word_of code.SignExtend = codes "extend"
word_of code.ZeroExtend = codes "zero_extend"
word_of code.Truncate = codes "trunc"
word_of _ = codes "mov"

-- A row: a word, the modes that the name tells, a count of operands, and the operands. There is
-- none where a mode is wanting, or where what stands as an operand is none.
abbrev pub row : List ℕ → List Mode → List ℕ → List StandardOperand → Option Standard
row word modes count operands =
    if list_all has_mode modes && list_all fits operands
    then Some (record { name = word ++ (flat_map letters modes ++ count); operands = operands })
    else None

-- a row that asks for more
abbrev pub row_where : Bool → Option Standard → Option Standard
row_where holds standard = if holds then standard else None

-- ---- calls

-- (call (mem ADDRESS) (const_int SIZE))
abbrev pub call_row : Rtx → Rtx → Option Standard
call_row place size =
    row_where (is_called place size) (row (codes "call") [] [] (input Void place ∷ fixed size ∷ []))

abbrev pub call_value_row : Rtx → Rtx → Rtx → Option Standard
call_value_row result place size =
    row_where (is_called place size) (row (codes "call_value") [] [] (target result ∷ input Void place ∷ fixed size ∷ []))

-- ---- values

abbrev pub code_at : Rtx → Code
code_at x = (out-Rtx x).code

abbrev pub move_row : Rtx → Rtx → Option Standard
move_row x source =
    row_where (not (is_vars source)) (row (codes "mov") (mode_at x ∷ []) [] (target x ∷ input (mode_at x) source ∷ []))

-- the mode of a comparison's operands, of which one may be a constant
abbrev pub compared_mode : Rtx → Rtx → Mode
compared_mode a b = if is_constant a then mode_at b else mode_at a

-- the operands of a comparison, behind it
abbrev pub compared : Mode → Rtx → Rtx → Rtx → List StandardOperand → List StandardOperand
compared mode test a b more = comparison test ∷ input mode a ∷ input mode b ∷ more

-- an operation on two values, of which the second has a mode where it is a constant
abbrev pub binary_row : Rtx → Rtx → Rtx → Mode → Rtx → Option Standard
binary_row x source a other b =
    row (word_of (code_at source)) (mode_at source ∷ []) (codes "3")
    (target x ∷ input (mode_at source) a ∷ input other b ∷ [])

abbrev pub unary_row : Rtx → Rtx → Rtx → Option Standard
unary_row x source a =
    row (word_of (code_at source)) (mode_at source ∷ []) (codes "2") (target x ∷ input (mode_at source) a ∷ [])

-- from the mode of the operand to that of the source
abbrev pub conversion_row : Rtx → Rtx → Rtx → Option Standard
conversion_row x source a =
    row (word_of (code_at source)) (mode_at a ∷ mode_at source ∷ []) (codes "2") (target x ∷ input Void a ∷ [])

abbrev pub compare_row : Rtx → Rtx → Rtx → Rtx → Option Standard
compare_row x test a b =
    row (codes "cstore") (compared_mode a b ∷ []) (codes "4") (target x ∷ compared (compared_mode a b) test a b [])

-- (set X SOURCE), by the class and the parts of the source; the mode of a shift's count is its own
abbrev pub value_row : Class → Rtx → Rtx → List Rtx → Option Standard
value_row class.Binary x source (a ∷ b ∷ []) = binary_row x source a (mode_at source) b
value_row class.Shift x source (a ∷ count ∷ []) = binary_row x source a Void count
value_row class.Unary x source (a ∷ []) = unary_row x source a
value_row class.Extension x source (a ∷ []) = conversion_row x source a
value_row class.Truncation x source (a ∷ []) = conversion_row x source a
value_row class.Comparison x source (a ∷ b ∷ []) = compare_row x source a b
value_row class.Call x source (place ∷ size ∷ []) = call_value_row x place size
value_row _ x source parts = move_row x source

-- ---- jumps

abbrev pub label_row : Rtx → Option Standard
label_row uid = row_where (is_constant uid) (row (codes "jump") [] [] (fixed uid ∷ []))

-- (label_ref UID), by its class and its parts
abbrev pub jump_row : Class → List Rtx → Option Standard
jump_row class.Label (uid ∷ []) = label_row uid
jump_row _ parts = None

abbrev pub compared_branch : Rtx → Rtx → Rtx → Rtx → Option Standard
compared_branch test a b uid =
    row_where (is_constant uid)
    (row (codes "cbranch") (compared_mode a b ∷ []) (codes "4") (compared (compared_mode a b) test a b (fixed uid ∷ [])))

-- by the classes and the parts of the test and of the label
abbrev pub branch_by : Class → Rtx → List Rtx → Class → List Rtx → Option Standard
branch_by class.Comparison test (a ∷ b ∷ []) class.Label (uid ∷ []) = compared_branch test a b uid
branch_by _ test operands _ parts = None

-- (if_then_else TEST (label_ref UID) (pc))
abbrev pub branch_row : Rtx → Rtx → Rtx → Option Standard
branch_row test label next =
    row_where (is_pc next) (branch_by (class_at test) test (kids_of test) (class_at label) (kids_of label))

-- what the pc is set to, by its class and its parts
abbrev pub go_row : Class → List Rtx → Option Standard
go_row class.Branch (test ∷ label ∷ next ∷ []) = branch_row test label next
go_row row parts = jump_row row parts

-- ---- instructions

abbrev pub set_row : Rtx → Rtx → Option Standard
set_row x source =
    if is_pc x then go_row (class_at source) (kids_of source)
    else value_row (class_at source) x source (kids_of source)

-- a pattern, by its class and its parts
abbrev pub pattern_row : Class → List Rtx → Option Standard
pattern_row class.Setting (x ∷ source ∷ []) = set_row x source
pattern_row class.Call (place ∷ size ∷ []) = call_row place size
pattern_row _ parts = None

-- the standard name of an instruction's pattern, with its operands, where it has one
abbrev pub standard_of : Rtx → Option Standard
standard_of pattern = pattern_row (class_at pattern) (kids_of pattern)
