-- The table of the lines of RV64I and M that are read and written: each mnemonic with its operands,
-- as the assembler takes them, and with what a line of it does. Names of sections are those of "The
-- RISC-V Instruction Set Manual, Volume I: Unprivileged ISA"; the assembly manual is the "RISC-V
-- Assembly Programmer's Manual", whose pseudo-instructions are given by the instructions that they
-- stand for.
use Rattle.std.specs.Prelude.{◌≡◌, ℕ, pos, negsuc, List, [], ◌∷◌, Option, Some, None, if◌then◌else◌, bytes_eq, codes, map}
use Rattle.bits64.specs.declared.Width.TheVariants.{W8, W16, W32, W64}
use Rattle.bits64.specs.declared.operator.Operator.TheVariants.{Add, Sub, Not, Mul, And, Ior, Xor, Shl, Shr, Sar, Test, Opaque}
use Rattle.bits64.specs.declared.operator.Opaque.TheVariants.{Mulh, Mulhu, Mulhsu, Div, Udiv, Rem, Urem}
use Rattle.bits64.specs.declared.operator.Relation.TheVariants.{Eq, Ne, Lt, Ge, Ltu, Geu}
use Rattle.rv_text.specs.declared.table.Row as code
use Rattle.rv_text.specs.declared.action.Action.{Action}
use Rattle.rv_text.specs.declared.action.Action.TheVariants.{Compute, Load, Store, SymbolAddress, Branch, Jump, Call, CallRegister, Return}
use Rattle.rv_text.specs.declared.action.Source.TheVariants.{First, Second, ReturnAddress, Immediate, Constant}
use Rattle.rv_text.specs.declared.action.Extension.TheVariants.{Sign, Zero}
use Rattle.rv_text.specs.declared.mnemonic.Mnemonic.{Mnemonic}
use Rattle.rv_text.specs.declared.mnemonic.Mnemonic.TheVariants as mnemonic
use Rattle.rv_text.specs.declared.operand.Operand.{Operand}
use Rattle.rv_text.specs.declared.operand.Operand.TheVariants.{Rd, Rs, Rt, Number, Place, Target, Ra}

-- a mnemonic with its operands and with what a line of it does
pub record Row : Type 0 where
  pub name : List ℕ
  pub operands : List Operand
  pub action : Action

-- a row of the code
abbrev pub row_view : code.Row → Row
row_view row = record { name = row.name.now; operands = row.operands.now; action = row.action }

abbrev row : List ℕ → List Operand → Action → Row
row name operands action = record { name = name; operands = operands; action = action }

-- the operands

-- an immediate of 12 bits, sign-extended
abbrev short : Operand
short = Number (negsuc 2047) (pos 2047)

-- imm(rs), the immediate as above
abbrev memory : Operand
memory = Place (negsuc 2047) (pos 2047)

abbrev rd_rs_rt : List Operand
rd_rs_rt = Rd ∷ Rs ∷ Rt ∷ []

abbrev rd_rs_short : List Operand
rd_rs_short = Rd ∷ Rs ∷ short ∷ []

-- a shift count of 6 bits
abbrev rd_rs_count64 : List Operand
rd_rs_count64 = Rd ∷ Rs ∷ Number (pos 0) (pos 63) ∷ []

-- a shift count of 5 bits
abbrev rd_rs_count32 : List Operand
rd_rs_count32 = Rd ∷ Rs ∷ Number (pos 0) (pos 31) ∷ []

-- an immediate of 20 bits
abbrev rd_upper : List Operand
rd_upper = Rd ∷ Number (pos 0) (pos 1048575) ∷ []

abbrev rd_memory : List Operand
rd_memory = Rd ∷ memory ∷ []

abbrev rt_memory : List Operand
rt_memory = Rt ∷ memory ∷ []

abbrev rs_rt_label : List Operand
rs_rt_label = Rs ∷ Rt ∷ Target ∷ []

abbrev rs_label : List Operand
rs_label = Rs ∷ Target ∷ []

-- any signed number of 64 bits
abbrev rd_long : List Operand
rd_long = Rd ∷ Number (negsuc 9223372036854775807) (pos 9223372036854775807) ∷ []

abbrev rd_symbol : List Operand
rd_symbol = Rd ∷ Target ∷ []

abbrev rd_rs : List Operand
rd_rs = Rd ∷ Rs ∷ []

abbrev label : List Operand
label = Target ∷ []

-- ra,0(rs)
abbrev ra_rs : List Operand
ra_rs = Ra ∷ Place (pos 0) (pos 0) ∷ []

abbrev rs : List Operand
rs = Rs ∷ []

-- the row of each mnemonic
abbrev pub row_of : Mnemonic → Row
-- RV32I "Integer Register-Register Operations"
row_of mnemonic.Add = row (codes "add") rd_rs_rt (Compute Add W64 First Second)
row_of mnemonic.Sub = row (codes "sub") rd_rs_rt (Compute Sub W64 First Second)
row_of mnemonic.And = row (codes "and") rd_rs_rt (Compute And W64 First Second)
row_of mnemonic.Or = row (codes "or") rd_rs_rt (Compute Ior W64 First Second)
row_of mnemonic.Xor = row (codes "xor") rd_rs_rt (Compute Xor W64 First Second)
row_of mnemonic.Sll = row (codes "sll") rd_rs_rt (Compute Shl W64 First Second)
row_of mnemonic.Srl = row (codes "srl") rd_rs_rt (Compute Shr W64 First Second)
row_of mnemonic.Sra = row (codes "sra") rd_rs_rt (Compute Sar W64 First Second)
row_of mnemonic.Slt = row (codes "slt") rd_rs_rt (Compute (Test Lt) W64 First Second)
row_of mnemonic.Sltu = row (codes "sltu") rd_rs_rt (Compute (Test Ltu) W64 First Second)
-- RV64I "Integer Register-Register Operations": the same on 32 bits
row_of mnemonic.Addw = row (codes "addw") rd_rs_rt (Compute Add W32 First Second)
row_of mnemonic.Subw = row (codes "subw") rd_rs_rt (Compute Sub W32 First Second)
row_of mnemonic.Sllw = row (codes "sllw") rd_rs_rt (Compute Shl W32 First Second)
row_of mnemonic.Srlw = row (codes "srlw") rd_rs_rt (Compute Shr W32 First Second)
row_of mnemonic.Sraw = row (codes "sraw") rd_rs_rt (Compute Sar W32 First Second)
-- M "Multiplication Operations" and "Division Operations"
row_of mnemonic.Mul = row (codes "mul") rd_rs_rt (Compute Mul W64 First Second)
row_of mnemonic.Mulh = row (codes "mulh") rd_rs_rt (Compute (Opaque Mulh) W64 First Second)
row_of mnemonic.Mulhsu = row (codes "mulhsu") rd_rs_rt (Compute (Opaque Mulhsu) W64 First Second)
row_of mnemonic.Mulhu = row (codes "mulhu") rd_rs_rt (Compute (Opaque Mulhu) W64 First Second)
row_of mnemonic.Div = row (codes "div") rd_rs_rt (Compute (Opaque Div) W64 First Second)
row_of mnemonic.Divu = row (codes "divu") rd_rs_rt (Compute (Opaque Udiv) W64 First Second)
row_of mnemonic.Rem = row (codes "rem") rd_rs_rt (Compute (Opaque Rem) W64 First Second)
row_of mnemonic.Remu = row (codes "remu") rd_rs_rt (Compute (Opaque Urem) W64 First Second)
row_of mnemonic.Mulw = row (codes "mulw") rd_rs_rt (Compute Mul W32 First Second)
row_of mnemonic.Divw = row (codes "divw") rd_rs_rt (Compute (Opaque Div) W32 First Second)
row_of mnemonic.Divuw = row (codes "divuw") rd_rs_rt (Compute (Opaque Udiv) W32 First Second)
row_of mnemonic.Remw = row (codes "remw") rd_rs_rt (Compute (Opaque Rem) W32 First Second)
row_of mnemonic.Remuw = row (codes "remuw") rd_rs_rt (Compute (Opaque Urem) W32 First Second)
-- RV32I and RV64I "Integer Register-Immediate Instructions"
row_of mnemonic.Addi = row (codes "addi") rd_rs_short (Compute Add W64 First Immediate)
row_of mnemonic.Andi = row (codes "andi") rd_rs_short (Compute And W64 First Immediate)
row_of mnemonic.Ori = row (codes "ori") rd_rs_short (Compute Ior W64 First Immediate)
row_of mnemonic.Xori = row (codes "xori") rd_rs_short (Compute Xor W64 First Immediate)
row_of mnemonic.Slti = row (codes "slti") rd_rs_short (Compute (Test Lt) W64 First Immediate)
row_of mnemonic.Sltiu = row (codes "sltiu") rd_rs_short (Compute (Test Ltu) W64 First Immediate)
row_of mnemonic.Addiw = row (codes "addiw") rd_rs_short (Compute Add W32 First Immediate)
row_of mnemonic.Slli = row (codes "slli") rd_rs_count64 (Compute Shl W64 First Immediate)
row_of mnemonic.Srli = row (codes "srli") rd_rs_count64 (Compute Shr W64 First Immediate)
row_of mnemonic.Srai = row (codes "srai") rd_rs_count64 (Compute Sar W64 First Immediate)
row_of mnemonic.Slliw = row (codes "slliw") rd_rs_count32 (Compute Shl W32 First Immediate)
row_of mnemonic.Srliw = row (codes "srliw") rd_rs_count32 (Compute Shr W32 First Immediate)
row_of mnemonic.Sraiw = row (codes "sraiw") rd_rs_count32 (Compute Sar W32 First Immediate)
-- RV64I "Integer Register-Immediate Instructions": the 20-bit immediate, 12 zeros below it,
-- sign-extended from 32 bits
row_of mnemonic.Lui = row (codes "lui") rd_upper (Compute Shl W32 Immediate (Constant (pos 12)))
-- RV32I and RV64I "Load and Store Instructions"
row_of mnemonic.Lb = row (codes "lb") rd_memory (Load W8 Sign)
row_of mnemonic.Lbu = row (codes "lbu") rd_memory (Load W8 Zero)
row_of mnemonic.Lh = row (codes "lh") rd_memory (Load W16 Sign)
row_of mnemonic.Lhu = row (codes "lhu") rd_memory (Load W16 Zero)
row_of mnemonic.Lw = row (codes "lw") rd_memory (Load W32 Sign)
row_of mnemonic.Lwu = row (codes "lwu") rd_memory (Load W32 Zero)
row_of mnemonic.Ld = row (codes "ld") rd_memory (Load W64 Sign)
row_of mnemonic.Sb = row (codes "sb") rt_memory (Store W8)
row_of mnemonic.Sh = row (codes "sh") rt_memory (Store W16)
row_of mnemonic.Sw = row (codes "sw") rt_memory (Store W32)
row_of mnemonic.Sd = row (codes "sd") rt_memory (Store W64)
-- RV32I "Conditional Branches", and the assembly manual's branches with their registers exchanged
row_of mnemonic.Beq = row (codes "beq") rs_rt_label (Branch Eq First Second)
row_of mnemonic.Bne = row (codes "bne") rs_rt_label (Branch Ne First Second)
row_of mnemonic.Blt = row (codes "blt") rs_rt_label (Branch Lt First Second)
row_of mnemonic.Bge = row (codes "bge") rs_rt_label (Branch Ge First Second)
row_of mnemonic.Bltu = row (codes "bltu") rs_rt_label (Branch Ltu First Second)
row_of mnemonic.Bgeu = row (codes "bgeu") rs_rt_label (Branch Geu First Second)
row_of mnemonic.Bgt = row (codes "bgt") rs_rt_label (Branch Lt Second First)
row_of mnemonic.Ble = row (codes "ble") rs_rt_label (Branch Ge Second First)
row_of mnemonic.Bgtu = row (codes "bgtu") rs_rt_label (Branch Ltu Second First)
row_of mnemonic.Bleu = row (codes "bleu") rs_rt_label (Branch Geu Second First)
row_of mnemonic.Beqz = row (codes "beqz") rs_label (Branch Eq First (Constant (pos 0)))
row_of mnemonic.Bnez = row (codes "bnez") rs_label (Branch Ne First (Constant (pos 0)))
row_of mnemonic.Blez = row (codes "blez") rs_label (Branch Ge (Constant (pos 0)) First)
row_of mnemonic.Bgez = row (codes "bgez") rs_label (Branch Ge First (Constant (pos 0)))
row_of mnemonic.Bltz = row (codes "bltz") rs_label (Branch Lt First (Constant (pos 0)))
row_of mnemonic.Bgtz = row (codes "bgtz") rs_label (Branch Lt (Constant (pos 0)) First)
-- pseudo-instructions of the assembly manual that set a register
row_of mnemonic.Li = row (codes "li") rd_long (Compute Add W64 Immediate (Constant (pos 0)))
row_of mnemonic.La = row (codes "la") rd_symbol SymbolAddress
row_of mnemonic.Mv = row (codes "mv") rd_rs (Compute Add W64 First (Constant (pos 0)))
row_of mnemonic.Not = row (codes "not") rd_rs (Compute Not W64 First (Constant (pos 0)))
row_of mnemonic.Neg = row (codes "neg") rd_rs (Compute Sub W64 (Constant (pos 0)) First)
row_of mnemonic.Negw = row (codes "negw") rd_rs (Compute Sub W32 (Constant (pos 0)) First)
row_of mnemonic.SextW = row (codes "sext.w") rd_rs (Compute Add W32 First (Constant (pos 0)))
row_of mnemonic.Seqz = row (codes "seqz") rd_rs (Compute (Test Ltu) W64 First (Constant (pos 1)))
row_of mnemonic.Snez = row (codes "snez") rd_rs (Compute (Test Ltu) W64 (Constant (pos 0)) First)
row_of mnemonic.Sltz = row (codes "sltz") rd_rs (Compute (Test Lt) W64 First (Constant (pos 0)))
row_of mnemonic.Sgtz = row (codes "sgtz") rd_rs (Compute (Test Lt) W64 (Constant (pos 0)) First)
-- RV32I "Unconditional Jumps", and pseudo-instructions made of them
row_of mnemonic.J = row (codes "j") label Jump
row_of mnemonic.Call = row (codes "call") label Call
row_of mnemonic.Jalr = row (codes "jalr") ra_rs CallRegister
row_of mnemonic.Jr = row (codes "jr") rs (Return First)
row_of mnemonic.Ret = row (codes "ret") [] (Return ReturnAddress)
-- RV32I "NOP Instruction": a sum into register zero
row_of mnemonic.Nop = row (codes "nop") [] (Compute Add W64 (Constant (pos 0)) (Constant (pos 0)))

-- every mnemonic, once
abbrev pub all_mnemonics : List Mnemonic
all_mnemonics =
    mnemonic.Add ∷ mnemonic.Sub ∷ mnemonic.And ∷ mnemonic.Or ∷ mnemonic.Xor ∷ mnemonic.Sll ∷
    mnemonic.Srl ∷ mnemonic.Sra ∷ mnemonic.Slt ∷ mnemonic.Sltu ∷ mnemonic.Addw ∷ mnemonic.Subw ∷
    mnemonic.Sllw ∷ mnemonic.Srlw ∷ mnemonic.Sraw ∷ mnemonic.Mul ∷ mnemonic.Mulh ∷ mnemonic.Mulhsu ∷
    mnemonic.Mulhu ∷ mnemonic.Div ∷ mnemonic.Divu ∷ mnemonic.Rem ∷ mnemonic.Remu ∷ mnemonic.Mulw ∷
    mnemonic.Divw ∷ mnemonic.Divuw ∷ mnemonic.Remw ∷ mnemonic.Remuw ∷ mnemonic.Addi ∷
    mnemonic.Andi ∷ mnemonic.Ori ∷ mnemonic.Xori ∷ mnemonic.Slti ∷ mnemonic.Sltiu ∷ mnemonic.Addiw ∷
    mnemonic.Slli ∷ mnemonic.Srli ∷ mnemonic.Srai ∷ mnemonic.Slliw ∷ mnemonic.Srliw ∷
    mnemonic.Sraiw ∷ mnemonic.Lui ∷ mnemonic.Lb ∷ mnemonic.Lbu ∷ mnemonic.Lh ∷ mnemonic.Lhu ∷
    mnemonic.Lw ∷ mnemonic.Lwu ∷ mnemonic.Ld ∷ mnemonic.Sb ∷ mnemonic.Sh ∷ mnemonic.Sw ∷
    mnemonic.Sd ∷ mnemonic.Beq ∷ mnemonic.Bne ∷ mnemonic.Blt ∷ mnemonic.Bge ∷ mnemonic.Bltu ∷
    mnemonic.Bgeu ∷ mnemonic.Bgt ∷ mnemonic.Ble ∷ mnemonic.Bgtu ∷ mnemonic.Bleu ∷ mnemonic.Beqz ∷
    mnemonic.Bnez ∷ mnemonic.Blez ∷ mnemonic.Bgez ∷ mnemonic.Bltz ∷ mnemonic.Bgtz ∷ mnemonic.Li ∷
    mnemonic.La ∷ mnemonic.Mv ∷ mnemonic.Not ∷ mnemonic.Neg ∷ mnemonic.Negw ∷ mnemonic.SextW ∷
    mnemonic.Seqz ∷ mnemonic.Snez ∷ mnemonic.Sltz ∷ mnemonic.Sgtz ∷ mnemonic.J ∷ mnemonic.Call ∷
    mnemonic.Jalr ∷ mnemonic.Jr ∷ mnemonic.Ret ∷ mnemonic.Nop ∷ []

-- all rows
unfoldable pub table : List Row
table = map row_of all_mnemonics

-- the first of some rows that has a name
abbrev pub find_row : List ℕ → List Row → Option Row
find_row name [] = None
find_row name (row ∷ rows) = if bytes_eq row.name name then Some row else find_row name rows

-- the row with a name
abbrev pub row_named : List ℕ → Option Row
row_named name = find_row name table

-- the table has the row of every mnemonic, under its name
abbrev pub HasEvery : Type 0
HasEvery = (m : Mnemonic) → row_named (row_of m).name ≡ Some (row_of m)
