-- What the plain forms are made of: operands in patterns, their constraints, and templates. GCC
-- Internals, "RTL Template", "Simple Constraints", "Multiple Alternative Constraints" and "Output
-- Templates and Operand Substitution".
use Rattle.std.specs.Prelude.{ℕ, pos, false, List, [], ◌∷◌, ◌++◌, map, codes}
use Rattle.rtx_tree.specs.declared.code.Code.{Code}
use Rattle.rtx_tree.specs.declared.code.Code.TheVariants.{MatchOperand, MatchOperator, MatchDup, LabelRef}
use Rattle.rtx_tree.specs.declared.code.Mode.{Mode}
use Rattle.rtx_tree.specs.declared.code.Mode.TheVariants.{Void, QI, HI, SI, DI}
use Rattle.rtx_tree.specs.declared.tree.Rtx.{Rtx}
use Rattle.rtx_tree.specs.Tree.{tree_of, leaf_of, node_of}
use Rattle.md_text.specs.declared.constraint.Letter.TheVariants as letter
use Rattle.md_text.specs.declared.constraint.Member.{Member}
use Rattle.md_text.specs.declared.constraint.Member.TheVariants.{Letter, Defined}
use Rattle.md_text.specs.declared.constraint.Direction.{Direction}
use Rattle.md_text.specs.declared.constraint.Direction.TheVariants.{Input, Output}
use Rattle.md_text.specs.declared.constraint.Alternative.{Alternative}
use Rattle.md_text.specs.declared.template.Print.TheVariants as print
use Rattle.md_text.specs.declared.template.Piece.{Piece}
use Rattle.md_text.specs.declared.template.Piece.TheVariants.{Byte, Operand}
use Rattle.md_text.specs.declared.template.Template.{Template}
use Rattle.md_text.specs.declared.template.Template.TheVariants.{One, Each}
use Rattle.md_forms.specs.declared.form.OperandConstraint.{OperandConstraint}

-- ---- operands

-- (match_operand:MODE NUMBER PREDICATE)
abbrev pub operand : List ℕ → ℕ → Mode → Rtx
operand predicate k m = tree_of (record { code = MatchOperand; mode = m; number = pos k; name = predicate }) []

abbrev pub register : ℕ → Mode → Rtx
register = operand (codes "register_operand")

abbrev pub register_or_0 : ℕ → Mode → Rtx
register_or_0 = operand (codes "reg_or_0_operand")

abbrev pub register_or_int : ℕ → Mode → Rtx
register_or_int = operand (codes "reg_or_int_operand")

abbrev pub constant : ℕ → Mode → Rtx
constant = operand (codes "const_int_operand")

abbrev pub nonimmediate : ℕ → Mode → Rtx
nonimmediate = operand (codes "nonimmediate_operand")

abbrev pub general : ℕ → Mode → Rtx
general = operand (codes "general_operand")

abbrev pub frame : ℕ → Mode → Rtx
frame = operand (codes "frame_operand")

abbrev pub called : ℕ → Mode → Rtx
called = operand (codes "call_operand")

abbrev pub anything : ℕ → Rtx
anything k = operand [] k Void

-- (match_dup NUMBER)
abbrev pub again : ℕ → Rtx
again k = leaf_of MatchDup Void (pos k)

-- (match_operator NUMBER "ordered_comparison_operator" [A B])
abbrev pub comparison : ℕ → Rtx → Rtx → Rtx
comparison k a b =
    tree_of (record { code = MatchOperator; mode = Void; number = pos k; name = codes "ordered_comparison_operator" }) (a ∷ b ∷ [])

-- (label_ref (match_operand NUMBER ""))
abbrev pub label : ℕ → Rtx
label k = node_of LabelRef Void (anything k ∷ [])

-- ---- constraints

-- the members of alternatives, by the letters of the text
abbrev pub r : List Member
r = Letter letter.Register ∷ []

abbrev pub m : List Member
m = Letter letter.Memory ∷ []

abbrev pub n : List Member
n = Letter letter.Constant ∷ []

abbrev pub s : List Member
s = Letter letter.Symbol ∷ []

-- a name that the description defines
abbrev pub defined : List ℕ → List Member
defined name = Defined name ∷ []

abbrev pub rJ : List Member
rJ = r ++ defined (codes "J")

abbrev pub alternative : Direction → List Member → Alternative
alternative direction members = record { direction = direction; early = false; slight = 0; severe = 0; members = members }

-- an operand that is read, with its alternatives; none at all accept anything
abbrev pub takes : ℕ → List (List Member) → OperandConstraint
takes k alternatives = record { operand = k; constraint = map (alternative Input) alternatives }

-- the mark of what is written stands in front of the first alternative
abbrev pub marked : List (List Member) → List Alternative
marked [] = []
marked (first ∷ more) = alternative Output first ∷ map (alternative Input) more

-- an operand that is written
abbrev pub gives : ℕ → List (List Member) → OperandConstraint
gives k alternatives = record { operand = k; constraint = marked alternatives }

-- ---- the constraints of operands 0, 1 and so on

-- =r
abbrev pub result : OperandConstraint
result = gives 0 (r ∷ [])

-- =r,r
abbrev pub result_of_two : OperandConstraint
result_of_two = gives 0 (r ∷ r ∷ [])

-- =r  r
abbrev pub unary : List OperandConstraint
unary = result ∷ takes 1 (r ∷ []) ∷ []

-- =r  r  r
abbrev pub binary : List OperandConstraint
binary = result ∷ takes 1 (r ∷ []) ∷ takes 2 (r ∷ []) ∷ []

-- =r  r  rJ
abbrev pub with_zero : List OperandConstraint
with_zero = result ∷ takes 1 (r ∷ []) ∷ takes 2 (rJ ∷ []) ∷ []

-- =r  rJ  r
abbrev pub from_zero : List OperandConstraint
from_zero = result ∷ takes 1 (rJ ∷ []) ∷ takes 2 (r ∷ []) ∷ []

-- =r,r  r,r  r,NAME
abbrev pub or_constant : List ℕ → List OperandConstraint
or_constant name =
    result_of_two ∷ takes 1 (r ∷ r ∷ []) ∷ takes 2 (r ∷ defined name ∷ []) ∷ []

-- =r,r  r,m
abbrev pub extended : List OperandConstraint
extended = result_of_two ∷ takes 1 (r ∷ m ∷ []) ∷ []

-- ---- templates

-- a text as it is
abbrev pub text : List ℕ → List Piece
text bytes = map Byte bytes

-- %k
abbrev pub o : ℕ → Piece
o k = Operand print.Plain k

-- %ik: an i where it is no register
abbrev pub i : ℕ → Piece
i k = Operand print.Immediate k

-- %zk: zero where it is 0
abbrev pub z : ℕ → Piece
z k = Operand print.OrZero k

abbrev pub tab : Piece
tab = Byte 9

abbrev pub comma : Piece
comma = Byte 44

-- NAME<tab>OPERANDS
abbrev pub line : List Piece → List Piece → List Piece
line name operands = name ++ tab ∷ operands

-- %0,%1
abbrev pub two : List Piece
two = o 0 ∷ comma ∷ o 1 ∷ []

-- %0,%1,%2
abbrev pub three : List Piece
three = o 0 ∷ comma ∷ o 1 ∷ comma ∷ o 2 ∷ []

-- %0,%1,TEXT
abbrev pub two_and : List ℕ → List Piece
two_and bytes = two ++ comma ∷ text bytes

-- %0,%0
abbrev pub same : List Piece
same = o 0 ∷ comma ∷ o 0 ∷ []

-- %0,%0,TEXT
abbrev pub same_and : List ℕ → List Piece
same_and bytes = same ++ comma ∷ text bytes

-- one line behind another
abbrev pub and_then : List Piece → List Piece → List Piece
and_then a b = a ++ Byte 10 ∷ tab ∷ b

-- NAME<tab>%0,%1 and NAME<tab>%0,%1,%2
abbrev pub on_two : List ℕ → List Piece
on_two name = line (text name) two

abbrev pub on_three : List ℕ → List Piece
on_three name = line (text name) three

-- NAME%i2WIDTH<tab>%0,%1,%2
abbrev pub immediate : List ℕ → List ℕ → List Piece
immediate name width = line (text name ++ i 2 ∷ text width) three
