-- What a word means in a condition or in statements: GCC Internals, "Defining RTL Patterns" (the
-- condition of define_insn), "Defining Machine-Specific Predicates" and "Defining RTL Sequences".
-- Which words there are is the profile of this project.
use Rattle.std.specs.Prelude.{ℕ, List, [], ◌∷◌, Bool, Option, Some, None, if◌then◌else◌, codes, take, find, map, nat_le, ◌+◌, ◌&&◌, ◌||◌, not}
use Rattle.std.specs.Str.{bytes_eq}
use Rattle.std.specs.List.{list_all}
use Rattle.rtx_tree.specs.declared.code.Code.{Code}
use Rattle.rtx_tree.specs.declared.code.Mode.{Mode}
use Rattle.rtx_tree.specs.declared.code.Mode.TheVariants as mode
use Rattle.rtx_tree.specs.Code.{code_in}
use Rattle.c_words.specs.declared.head.Call.{Call}
use Rattle.c_words.specs.declared.head.Call.TheVariants as call
use Rattle.c_words.specs.declared.keyword.Keyword.{Keyword}
use Rattle.c_words.specs.declared.keyword.Keyword.TheVariants as keyword

abbrev pub call_name : Call → List ℕ
call_name call.CanCreatePseudo = codes "can_create_pseudo_p"
call_name call.Intval = codes "INTVAL"
call_name call.Regno = codes "REGNO"
call_name call.RegP = codes "REG_P"
call_name call.MemP = codes "MEM_P"
call_name call.ConstIntP = codes "CONST_INT_P"
call_name call.SymbolRefP = codes "SYMBOL_REF_P"
call_name call.RtxEqual = codes "rtx_equal_p"
call_name call.InRange = codes "IN_RANGE"
call_name call.SmallOperand = codes "SMALL_OPERAND"
call_name call.RegDead = codes "peep2_reg_dead_p"
call_name call.GenInt = codes "GEN_INT"
call_name call.GenIntMode = codes "gen_int_mode"
call_name call.GenReg = codes "gen_reg_rtx"
call_name call.ForceReg = codes "force_reg"
call_name call.GenLowpart = codes "gen_lowpart"
call_name call.EmitMove = codes "emit_move_insn"

abbrev pub keyword_name : Keyword → List ℕ
keyword_name (keyword.Call c) = call_name c
keyword_name keyword.GetCode = codes "GET_CODE"
keyword_name keyword.GetMode = codes "GET_MODE"
keyword_name keyword.ReloadCompleted = codes "reload_completed"
keyword_name keyword.Operands = codes "operands"
keyword_name keyword.Op = codes "op"
keyword_name keyword.Ival = codes "ival"
keyword_name keyword.If = codes "if"
keyword_name keyword.Else = codes "else"
keyword_name keyword.Done = codes "DONE"
keyword_name keyword.Fail = codes "FAIL"

abbrev pub all_keywords : List Keyword
all_keywords =
    keyword.Call call.CanCreatePseudo ∷ keyword.Call call.Intval ∷ keyword.Call call.Regno ∷ keyword.Call call.RegP ∷
    keyword.Call call.MemP ∷ keyword.Call call.ConstIntP ∷ keyword.Call call.SymbolRefP ∷ keyword.Call call.RtxEqual ∷
    keyword.Call call.InRange ∷ keyword.Call call.SmallOperand ∷ keyword.Call call.RegDead ∷ keyword.Call call.GenInt ∷
    keyword.Call call.GenIntMode ∷ keyword.Call call.GenReg ∷ keyword.Call call.ForceReg ∷ keyword.Call call.GenLowpart ∷
    keyword.Call call.EmitMove ∷ keyword.GetCode ∷ keyword.GetMode ∷ keyword.ReloadCompleted ∷ keyword.Operands ∷
    keyword.Op ∷ keyword.Ival ∷ keyword.If ∷ keyword.Else ∷ keyword.Done ∷ keyword.Fail ∷ []

-- the keyword that a word is
abbrev pub keyword_named : List ℕ → Option Keyword
keyword_named word = find (λ k. bytes_eq (keyword_name k) word) all_keywords

-- the mode that a word is in C: QImode for QI, and so on; VOIDmode for none
abbrev pub mode_named : List ℕ → Option Mode
mode_named word =
    if bytes_eq word (codes "VOIDmode") then Some mode.Void else
    (if bytes_eq word (codes "QImode") then Some mode.QI else
    (if bytes_eq word (codes "HImode") then Some mode.HI else
    (if bytes_eq word (codes "SImode") then Some mode.SI else
    (if bytes_eq word (codes "DImode") then Some mode.DI else None))))

abbrev pub is_capital : ℕ → Bool
is_capital b = nat_le 65 b && nat_le b 90

abbrev pub is_small : ℕ → Bool
is_small b = nat_le 97 b && nat_le b 122

-- a letter in its small form, any other byte as it is
abbrev pub small : ℕ → ℕ
small b = if is_capital b then b + 32 else b

-- the code that a word is in C: its name in capitals
abbrev pub code_in_capitals : List ℕ → Option Code
code_in_capitals word =
    if list_all (λ b. not (is_small b)) word then code_in (map small word) else None

-- a name of a fact of the target
abbrev pub is_target : List ℕ → Bool
is_target word = bytes_eq (take 7 word) (codes "TARGET_")

-- the facts of the target that hold
abbrev pub target_holds : List ℕ → Bool
target_holds word =
    bytes_eq word (codes "TARGET_64BIT") ||
    (bytes_eq word (codes "TARGET_MUL") || bytes_eq word (codes "TARGET_DIV"))
