-- The canonical text of a function: GCC Internals, "RTL Function Units" and "Insns", in the compact
-- form that is read, with one instruction on a line and without blocks and notes.
use Rattle.std.specs.Prelude.{ℕ, List, [], ◌∷◌, ◌++◌, flat_map, Option, Some, None, codes}
use Rattle.std.specs.Fmt.{decimal}
use Rattle.rtx_tree.specs.declared.code.Code.TheVariants.{Reg}
use Rattle.rtx_tree.specs.declared.code.Mode.{Mode}
use Rattle.rtx_tree.specs.declared.function.ArgUse.{ArgUse}
use Rattle.rtx_tree.specs.declared.function.Kind.{Kind}
use Rattle.rtx_tree.specs.declared.function.Kind.TheVariants.{Plain, Jump, Call, Label, Barrier}
use Rattle.rtx_tree.specs.declared.function.Insn.{Insn}
use Rattle.rtx_tree.specs.declared.function.Function.{Function}
use Rattle.rtl_print.specs.Print.{head_text, printed, spaced}
use Rattle.rtx_tree.specs.Registers.{register_text}

-- (reg:MODE R)
unfoldable pub printed_register : Mode → ℕ → List ℕ
printed_register mode reg =
    codes "(" ++ (head_text Reg mode ++ (spaced (register_text reg) ++ codes ")"))

-- what stands in front of the rest of a chain of uses
unfoldable pub printed_link : ArgUse → List ℕ
printed_link u = codes "(expr_list (use " ++ (printed_register u.mode u.reg ++ codes ") ")

-- (nil), or (expr_list (use (reg:MODE R)) CHAIN)
abbrev pub printed_uses : List ArgUse → List ℕ
printed_uses [] = codes "(nil)"
printed_uses (u ∷ us) = printed_link u ++ (printed_uses us ++ codes ")")

-- a word and the number of an instruction
abbrev pub numbered : List ℕ → Insn → List ℕ
numbered word i = word ++ spaced (decimal i.uid)

-- a word, and the number and the pattern of an instruction
abbrev pub doing : List ℕ → Insn → List ℕ
doing word i = numbered word i ++ spaced (printed i.pattern)

abbrev pub calling : Insn → List ℕ
calling i = doing (codes "ccall_insn") i ++ spaced (printed_uses i.uses)

-- what stands between the parentheses of a line of the chain
abbrev pub insn_body : Kind → Insn → List ℕ
insn_body Plain i = doing (codes "cinsn") i
insn_body Jump i = doing (codes "cjump_insn") i
insn_body Call i = calling i
insn_body Label i = numbered (codes "clabel") i
insn_body Barrier i = codes "cbarrier"

unfoldable pub printed_insn : Insn → List ℕ
printed_insn i = codes "    (" ++ (insn_body i.kind i ++ codes ")\n")

-- the lines of the result, if there is one
abbrev pub printed_result : Option Mode → ℕ → List ℕ
printed_result None reg = []
printed_result (Some mode) reg =
    codes "  (crtl\n    (return_rtx " ++ (printed_register mode reg ++ codes ")\n  )\n")

abbrev pub printed_locals : ℕ → List ℕ
printed_locals locals = codes "  (locals " ++ (decimal locals ++ codes ")\n")

-- the name of a function, and the beginning of its chain
unfoldable pub printed_name : List ℕ → List ℕ
printed_name name = codes "(function \"" ++ (name ++ codes "\"\n  (insn-chain\n")

abbrev pub printed_front : Function → List ℕ
printed_front f = printed_name f.name ++ (flat_map printed_insn f.insns ++ codes "  )\n")

abbrev pub printed_function : Function → List ℕ
printed_function f = printed_front f ++ (printed_locals f.locals ++ (printed_result f.result f.result_reg ++ codes ")\n"))
