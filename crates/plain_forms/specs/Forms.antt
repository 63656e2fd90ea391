-- The plain forms: those of the shipped description, each as what it says. The list is written out,
-- so that who speaks of these forms need not read the description's text.
use Rattle.std.specs.Prelude.{ℕ, pos, List, [], ◌∷◌, ◌++◌, map, codes}
use Rattle.std.specs.List.{flat_map}
use Rattle.rtx_tree.specs.declared.code.Code.{Code}
use Rattle.rtx_tree.specs.declared.code.Code.TheVariants as code
use Rattle.rtx_tree.specs.declared.code.Mode.{Mode}
use Rattle.rtx_tree.specs.declared.code.Mode.TheVariants.{Void, QI, HI, SI, DI}
use Rattle.rtx_tree.specs.declared.tree.Rtx.{Rtx}
use Rattle.rtx_tree.specs.Patterns.{set_rtx, return_rtx}
use Rattle.rtx_tree.specs.Tree.{leaf_of, node_of, const_of}
use Rattle.pred_expr.specs.Texts.{always, nothing}
use Rattle.md_text.specs.declared.template.Print.TheVariants as print
use Rattle.md_text.specs.declared.template.Piece.{Piece}
use Rattle.md_text.specs.declared.template.Piece.TheVariants.{Operand}
use Rattle.md_text.specs.declared.template.Template.TheVariants.{One, Each, Split}
use Rattle.md_forms.specs.declared.form.Entry.{Entry}
use Rattle.plain_forms.specs.Parts.{register, register_or_0, register_or_int, constant, nonimmediate, general, frame, called, anything, again, comparison, label, r, m, n, s, rJ, takes, gives, unary, binary, with_zero, from_zero, or_constant, extended, text, o, z, tab, comma, line, two, three, two_and, same, same_and, and_then, on_two, on_three, immediate}
use Rattle.plain_forms.specs.Conditions as condition
use Rattle.plain_forms.specs.Makers.{constraint, predicate, expand, insn, insn_where, insn_and_split, peephole, sets, of_one, of_two, extends, set_insn, set_insn_each}

-- ---- the texts of modes and codes in names and templates

-- a mode in a name
abbrev pub small : Mode → List ℕ
small Void = []
small QI = codes "qi"
small HI = codes "hi"
small SI = codes "si"
small DI = codes "di"

-- the width in the name of a line
abbrev pub w : Mode → List ℕ
w SI = codes "w"
w _ = []

abbrev pub load : Mode → List ℕ
load QI = codes "lbu"
load HI = codes "lhu"
load _ = codes "lw"

abbrev pub store : Mode → List ℕ
store QI = codes "sb"
store HI = codes "sh"
store _ = codes "sw"

-- a load that extends the sign
abbrev pub signed_load : Mode → List ℕ
signed_load QI = codes "lb"
signed_load _ = codes "lh"

-- by how much a value of the mode is shifted to the left end
abbrev pub left : Mode → List ℕ
left QI = codes "56"
left _ = codes "48"

-- the constraint of a constant count
abbrev pub count : Mode → List ℕ
count SI = codes "K"
count _ = codes "L"

-- a code in a standard name
abbrev pub standard : Code → List ℕ
standard code.And = codes "and"
standard code.Ior = codes "ior"
standard code.Xor = codes "xor"
standard code.Ashift = codes "ashl"
standard code.Ashiftrt = codes "ashr"
standard code.Lshiftrt = codes "lshr"
standard code.Div = codes "div"
standard code.Udiv = codes "udiv"
standard code.Mod = codes "mod"
standard code.Umod = codes "umod"
standard _ = []

-- a code in the name of a line
abbrev pub ins : Code → List ℕ
ins code.And = codes "and"
ins code.Ior = codes "or"
ins code.Xor = codes "xor"
ins code.Ashift = codes "sll"
ins code.Ashiftrt = codes "sra"
ins code.Lshiftrt = codes "srl"
ins code.Div = codes "div"
ins code.Udiv = codes "divu"
ins code.Mod = codes "rem"
ins code.Umod = codes "remu"
ins code.Eq = codes "seqz"
ins code.Ne = codes "snez"
ins _ = []

-- the end of the name of a comparison's line
abbrev pub u : Code → List ℕ
u code.Ltu = codes "u"
u code.Gtu = codes "u"
u code.Geu = codes "u"
u code.Leu = codes "u"
u _ = []

-- ---- constraints and predicates

abbrev pub range : List ℕ → ℕ → Entry
range name greatest =
    constraint name (condition.constant_with (condition.ranges (condition.number 0) (condition.number greatest)))

abbrev pub constraints : List Entry
constraints =
    constraint (codes "I") (condition.constant_with (condition.ranges (condition.minus 2048) (condition.number 2047))) ∷
    constraint (codes "J") (condition.constant_with (condition.is_zero condition.ival)) ∷
    range (codes "K") 31 ∷ range (codes "L") 63 ∷ []

abbrev pub predicates : List Entry
predicates =
    predicate (codes "reg_or_0_operand") condition.register_or_zero ∷
    predicate (codes "reg_or_int_operand") condition.register_or_int ∷
    predicate (codes "call_operand") condition.register_or_symbol ∷ []

-- ---- moves

-- mov<mode>
abbrev pub moved : Mode → Entry
moved k =
    expand (codes "mov" ++ small k) (set_rtx (nonimmediate 0 k) (general 1 k) ∷ []) (condition.forces k)

-- *frame
abbrev pub framed : Entry
framed =
    insn (codes "*frame") (sets DI (frame 1 DI)) (gives 0 (r ∷ []) ∷ takes 1 [] ∷ []) Split

-- <st>\t%z1,%0
abbrev pub stores : List ℕ → List Piece
stores name = line (text name) (z 1 ∷ comma ∷ o 0 ∷ [])

-- *movdi
abbrev pub moves_di : Entry
moves_di =
    insn_where (codes "*movdi") (set_rtx (nonimmediate 0 DI) (general 1 DI)) (condition.moves DI)
    (gives 0 (r ∷ r ∷ r ∷ r ∷ m ∷ []) ∷ takes 1 (r ∷ n ∷ s ∷ m ∷ rJ ∷ []) ∷ [])
    (Each (on_two (codes "mv") ∷ on_two (codes "li") ∷ on_two (codes "la") ∷ on_two (codes "ld") ∷ stores (codes "sd") ∷ []))

-- *mov<mode>
abbrev pub moves_narrow : Mode → Entry
moves_narrow k =
    insn_where (codes "*mov" ++ small k) (set_rtx (nonimmediate 0 k) (general 1 k)) (condition.moves k)
    (gives 0 (r ∷ r ∷ r ∷ m ∷ []) ∷ takes 1 (r ∷ n ∷ m ∷ rJ ∷ []) ∷ [])
    (Each (on_two (codes "mv") ∷ on_two (codes "li") ∷ on_two (load k) ∷ stores (store k) ∷ []))

abbrev pub moves : List Entry
moves =
    map moved (QI ∷ HI ∷ SI ∷ DI ∷ []) ++
    framed ∷ moves_di ∷ map moves_narrow (QI ∷ HI ∷ SI ∷ [])

-- ---- sums, differences, products and quotients

abbrev pub gpr : List Mode
gpr = SI ∷ DI ∷ []

abbrev pub sum : Mode → Rtx
sum k = of_two code.Plus k (register 1 k) (register_or_int 2 k)

-- add<mode>3
abbrev pub adds : Mode → Entry
adds k =
    set_insn (codes "add" ++ (small k ++ codes "3")) k (sum k) (or_constant (codes "I")) (immediate (codes "add") (w k))

abbrev pub difference : Mode → Rtx
difference k = of_two code.Minus k (register_or_0 1 k) (register 2 k)

-- sub<w>\t%0,%z1,%2
abbrev pub subtracts : Mode → List Piece
subtracts k = line (text (codes "sub" ++ w k)) (o 0 ∷ comma ∷ z 1 ∷ comma ∷ o 2 ∷ [])

-- sub<mode>3
abbrev pub subs : Mode → Entry
subs k = set_insn (codes "sub" ++ (small k ++ codes "3")) k (difference k) from_zero (subtracts k)

-- mul<mode>3
abbrev pub muls : Mode → Entry
muls k =
    set_insn (codes "mul" ++ (small k ++ codes "3")) k (of_two code.Mult k (register 1 k) (register 2 k)) binary (on_three (codes "mul" ++ w k))

-- <code><mode>3
abbrev pub divides : Mode → Code → Entry
divides k c =
    set_insn (standard c ++ (small k ++ codes "3")) k (of_two c k (register 1 k) (register 2 k)) binary (on_three (ins c ++ w k))

abbrev pub divisions_in : Mode → List Entry
divisions_in k = map (divides k) (code.Div ∷ code.Udiv ∷ code.Mod ∷ code.Umod ∷ [])

-- neg<mode>2
abbrev pub negs : Mode → Entry
negs k =
    set_insn (codes "neg" ++ (small k ++ codes "2")) k (of_one code.Neg k (register 1 k)) unary (on_two (codes "neg" ++ w k))

abbrev pub arithmetic : List Entry
arithmetic =
    map adds gpr ++
    set_insn (codes "*addsi3_x") DI (extends (sum SI)) (or_constant (codes "I")) (immediate (codes "add") (codes "w")) ∷
    (map subs gpr ++
    set_insn (codes "*subsi3_x") DI (extends (difference SI)) from_zero (subtracts SI) ∷
    (map muls gpr ++ (flat_map divisions_in gpr ++ map negs gpr)))

-- ---- bits and shifts

-- one_cmpl<mode>2
abbrev pub nots : Mode → Entry
nots k =
    set_insn (codes "one_cmpl" ++ (small k ++ codes "2")) k (of_one code.Not k (register 1 k)) unary (on_two (codes "not"))

-- *and_mask
abbrev pub masks : Entry
masks =
    insn_and_split (codes "*and_mask") (sets DI (of_two code.And DI (register 1 DI) (constant 2 DI))) condition.is_mask
    (gives 0 (r ∷ []) ∷ takes 1 (r ∷ []) ∷ takes 2 (n ∷ []) ∷ [])
    condition.is_split
    (set_rtx (again 0) (of_two code.Ashift DI (again 1) (again 3)) ∷ set_rtx (again 0) (of_two code.Lshiftrt DI (again 0) (again 3)) ∷ [])
    condition.makes_count

-- <std><mode>3 of and, ior and xor
abbrev pub logic : Mode → Code → Entry
logic k c =
    set_insn (standard c ++ (small k ++ codes "3")) k (of_two c k (register 1 k) (register_or_int 2 k)) (or_constant (codes "I")) (immediate (ins c) [])

abbrev pub logic_in : Mode → List Entry
logic_in k = map (logic k) (code.And ∷ code.Ior ∷ code.Xor ∷ [])

abbrev pub shift : Mode → Code → Rtx
shift k c = of_two c k (register 1 k) (register_or_int 2 QI)

abbrev pub shift_codes : List Code
shift_codes = code.Ashift ∷ code.Ashiftrt ∷ code.Lshiftrt ∷ []

-- <std><mode>3 of the shifts
abbrev pub shifts : Mode → Code → Entry
shifts k c =
    set_insn (standard c ++ (small k ++ codes "3")) k (shift k c) (or_constant (count k)) (immediate (ins c) (w k))

abbrev pub shifts_in : Mode → List Entry
shifts_in k = map (shifts k) shift_codes

-- *<std>si3_x
abbrev pub shifts_extended : Code → Entry
shifts_extended c =
    set_insn (codes "*" ++ (standard c ++ codes "si3_x")) DI (extends (shift SI c)) (or_constant (codes "K")) (immediate (ins c) (codes "w"))

abbrev pub bits : List Entry
bits =
    map nots gpr ++
    masks ∷ (flat_map logic_in gpr ++ (flat_map shifts_in gpr ++ map shifts_extended shift_codes))

-- ---- extensions and truncations

-- slli\t%0,%1,COUNT\n\tRIGHT\t%0,%0,COUNT
abbrev pub shifted : List ℕ → List ℕ → List Piece
shifted by right =
    and_then (line (text (codes "slli")) (two_and by)) (line (text right) (same_and by))

abbrev pub extension : List ℕ → Code → Mode → Mode → List Piece → List Piece → Entry
extension name c to from registers memory =
    set_insn_each name to (of_one c to (nonimmediate 1 from)) extended registers memory

-- extend<SHORT:mode><GPR:mode>2
abbrev pub signs : Mode → Mode → Entry
signs to from =
    extension (codes "extend" ++ (small from ++ (small to ++ codes "2"))) code.SignExtend to from (shifted (left from) (codes "srai")) (on_two (signed_load from))

abbrev pub signs_to : Mode → List Entry
signs_to to = map (signs to) (QI ∷ HI ∷ [])

-- zero_extendqi<mode>2, zero_extendhi<mode>2
abbrev pub zeros_from_qi : Mode → Entry
zeros_from_qi to =
    extension (codes "zero_extendqi" ++ (small to ++ codes "2")) code.ZeroExtend to QI (line (text (codes "andi")) (two_and (codes "255"))) (on_two (codes "lbu"))

abbrev pub zeros_from_hi : Mode → Entry
zeros_from_hi to =
    extension (codes "zero_extendhi" ++ (small to ++ codes "2")) code.ZeroExtend to HI (shifted (codes "48") (codes "srli")) (on_two (codes "lhu"))

abbrev pub extensions : List Entry
extensions =
    extension (codes "extendsidi2") code.SignExtend DI SI (on_two (codes "sext.w")) (on_two (codes "lw")) ∷
    extension (codes "zero_extendsidi2") code.ZeroExtend DI SI (shifted (codes "32") (codes "srli")) (on_two (codes "lwu")) ∷
    (flat_map signs_to gpr ++ (map zeros_from_qi gpr ++ map zeros_from_hi gpr))

-- truncdi<mode>2, truncsi<mode>2
abbrev pub truncates : Mode → Mode → Entry
truncates from to =
    set_insn (codes "trunc" ++ (small from ++ (small to ++ codes "2"))) to (of_one code.Truncate to (register 1 from)) unary (on_two (codes "mv"))

abbrev pub truncations : List Entry
truncations = map (truncates DI) (QI ∷ HI ∷ SI ∷ []) ++ map (truncates SI) (QI ∷ HI ∷ [])

-- ---- comparisons

abbrev pub compared : Mode → Code → Rtx
compared k c = of_two c k (register 1 DI) (register_or_int 2 DI)

-- xori\t%0,%0,1
abbrev pub reverses : List Piece
reverses = line (text (codes "xori")) (same_and (codes "1"))

-- slt<u>\t%0,%z2,%1
abbrev pub less_than : Code → List Piece
less_than c = line (text (codes "slt" ++ u c)) (o 0 ∷ comma ∷ z 2 ∷ comma ∷ o 1 ∷ [])

abbrev pub less : Mode → Code → Entry
less k c =
    set_insn (codes "*less") k (compared k c) (or_constant (codes "I")) (immediate (codes "slt") (u c))

abbrev pub more : Mode → Code → Entry
more k c = set_insn (codes "*more") k (compared k c) with_zero (less_than c)

abbrev pub at_least : Mode → Code → Entry
at_least k c =
    set_insn (codes "*atleast") k (compared k c) (or_constant (codes "I")) (and_then (immediate (codes "slt") (u c)) reverses)

abbrev pub at_most : Mode → Code → Entry
at_most k c =
    set_insn (codes "*atmost") k (compared k c) with_zero (and_then (less_than c) reverses)

abbrev pub equals_zero : Mode → Code → Entry
equals_zero k c =
    set_insn (codes "*eqs0") k (of_two c k (register 1 DI) (const_of (pos 0))) unary (on_two (ins c))

abbrev pub equals : Mode → Code → Entry
equals k c =
    set_insn (codes "*eqs") k (compared k c) binary (and_then (on_three (codes "sub")) (line (text (ins c)) same))

-- in each mode by each of two codes
abbrev pub by_codes : (Mode → Code → Entry) → Code → Code → List Entry
by_codes make a b = make SI a ∷ make SI b ∷ make DI a ∷ make DI b ∷ []

abbrev pub comparisons : List Entry
comparisons =
    by_codes less code.Lt code.Ltu ++
    (by_codes more code.Gt code.Gtu ++
    (by_codes at_least code.Ge code.Geu ++
    (by_codes at_most code.Le code.Leu ++
    (by_codes equals_zero code.Eq code.Ne ++ by_codes equals code.Eq code.Ne))))

-- (set (match_dup K) (sign_extend:DI (match_operand:SI J "register_operand")))
abbrev pub extends_operand : ℕ → ℕ → Rtx
extends_operand k j = set_rtx (again k) (of_one code.SignExtend DI (register j SI))

-- (set (match_operand 0 "register_operand") COMPARISON)
abbrev pub stores_flag : Rtx → Rtx
stores_flag test = sets Void test

abbrev pub standard_comparisons : List Entry
standard_comparisons =
    expand (codes "cstoredi4") (stores_flag (comparison 1 (register 2 DI) (register_or_int 3 DI)) ∷ []) nothing ∷
    expand (codes "cstoresi4") (extends_operand 4 2 ∷ extends_operand 5 3 ∷ stores_flag (comparison 1 (again 4) (again 5)) ∷ []) condition.makes_registers ∷ []

-- ---- branches, jumps, calls and returns

abbrev pub pc : Rtx
pc = leaf_of code.Pc Void (pos 0)

-- (set (pc) (if_then_else TEST (label_ref (match_operand 3 "")) (pc)))
abbrev pub branches : Rtx → Rtx
branches test = set_rtx pc (node_of code.IfThenElse Void (test ∷ label 3 ∷ pc ∷ []))

-- b%C0\t%1,%z2,%l3
abbrev pub branch_line : List Piece
branch_line =
    line (text (codes "b") ++ Operand print.Comparison 0 ∷ []) (o 1 ∷ comma ∷ z 2 ∷ comma ∷ Operand print.Label 3 ∷ [])

-- (call (mem:SI (match_operand:DI K "call_operand")) (match_operand J ""))
abbrev pub call_of : ℕ → ℕ → Rtx
call_of k j = node_of code.Call Void (node_of code.Mem SI (called k DI ∷ []) ∷ anything j ∷ [])

-- call\t%K; jalr\tra,0(%K)
abbrev pub call_lines : ℕ → List (List Piece)
call_lines k =
    line (text (codes "call")) (o k ∷ []) ∷
    line (text (codes "jalr")) (text (codes "ra,0(") ++ o k ∷ text (codes ")")) ∷ []

abbrev pub jumps : List Entry
jumps =
    insn (codes "cbranchdi4") (branches (comparison 0 (register 1 DI) (register_or_0 2 DI))) (takes 1 (r ∷ []) ∷ takes 2 (rJ ∷ []) ∷ takes 3 [] ∷ []) (One branch_line) ∷
    expand (codes "cbranchsi4") (extends_operand 4 1 ∷ extends_operand 5 2 ∷ branches (comparison 0 (again 4) (again 5)) ∷ []) condition.makes_registers ∷
    insn (codes "jump") (set_rtx pc (label 0)) (takes 0 [] ∷ []) (One (line (text (codes "j")) (Operand print.Label 0 ∷ []))) ∷
    insn (codes "call") (call_of 0 1) (takes 0 (s ∷ r ∷ []) ∷ takes 1 [] ∷ []) (Each (call_lines 0)) ∷
    insn (codes "call_value") (sets Void (call_of 1 2)) (gives 0 (r ∷ r ∷ []) ∷ takes 1 (s ∷ r ∷ []) ∷ takes 2 [] ∷ []) (Each (call_lines 1)) ∷
    insn (codes "return") return_rtx [] (One (text (codes "ret"))) ∷ []

-- ---- two constants that are added to a register, one after the other

-- (set X (plus:DI (match_dup 0) B))
abbrev pub added : Rtx → Rtx → Rtx
added x b = set_rtx x (of_two code.Plus DI (again 0) b)

abbrev pub sums_joined : Entry
sums_joined =
    peephole (added (register 0 DI) (constant 1 DI) ∷ added (again 0) (constant 2 DI) ∷ []) condition.are_added
    (added (again 0) (again 3) ∷ []) condition.makes_sum

-- ---- all of them, in their order

unfoldable pub plain_forms : List Entry
plain_forms =
    constraints ++ (predicates ++ (moves ++ (arithmetic ++ (bits ++ (extensions ++ (truncations ++ (comparisons ++
    (standard_comparisons ++ (jumps ++ sums_joined ∷ [])))))))))
