-- The base instructions, each with its format, its codes and its meaning: "The RISC-V Instruction
-- Set Manual, Volume I: Unprivileged ISA", "RV32/64G Instruction Set Listings"; the names of
-- opcodes are those of "RISC-V base opcode map".
use Rattle.std.specs.Prelude.{ℕ, List, [], ◌∷◌}
use Rattle.rv_text.specs.declared.mnemonic.Mnemonic.{Mnemonic}
use Rattle.rv_text.specs.declared.mnemonic.Mnemonic.TheVariants as mnemonic
use Rattle.rv_word.specs.declared.base.BaseOp.{BaseOp}
use Rattle.rv_word.specs.declared.base.BaseOp.TheVariants as base
use Rattle.rv_word.specs.declared.base.Codes.{Codes}
use Rattle.rv_word.specs.declared.base.Format.{Format}
use Rattle.rv_word.specs.declared.base.Format.TheVariants.{Register, Immediate, Count6, Count5, Store, Branch, Upper, Jump}

-- what a base instruction does: what a line of a mnemonic does, or it jumps and leaves the place
-- behind it in a register, to where its number or a register leads
pub data Meaning : Type 0 where
  As : Mnemonic → Meaning
  Link : Meaning
  LinkRegister : Meaning

pub record Row : Type 0 where
  pub codes : Codes
  pub meaning : Meaning

-- the opcodes

abbrev load : ℕ
load = 3

abbrev op_imm : ℕ
op_imm = 19

abbrev op_imm_32 : ℕ
op_imm_32 = 27

abbrev store : ℕ
store = 35

abbrev op : ℕ
op = 51

abbrev lui : ℕ
lui = 55

abbrev op_32 : ℕ
op_32 = 59

abbrev branch : ℕ
branch = 99

abbrev jalr : ℕ
jalr = 103

abbrev jal : ℕ
jal = 111

abbrev row : Format → ℕ → ℕ → ℕ → Meaning → Row
row format opcode funct3 funct7 meaning = record { codes = record { format = format; opcode = opcode; funct3 = funct3; funct7 = funct7 }; meaning = meaning }

-- the row of each base instruction
abbrev pub base_row : BaseOp → Row
-- RV32I
base_row base.Lui = row Upper lui 0 0 (As mnemonic.Lui)
base_row base.Jal = row Jump jal 0 0 Link
base_row base.Jalr = row Immediate jalr 0 0 LinkRegister
base_row base.Beq = row Branch branch 0 0 (As mnemonic.Beq)
base_row base.Bne = row Branch branch 1 0 (As mnemonic.Bne)
base_row base.Blt = row Branch branch 4 0 (As mnemonic.Blt)
base_row base.Bge = row Branch branch 5 0 (As mnemonic.Bge)
base_row base.Bltu = row Branch branch 6 0 (As mnemonic.Bltu)
base_row base.Bgeu = row Branch branch 7 0 (As mnemonic.Bgeu)
base_row base.Lb = row Immediate load 0 0 (As mnemonic.Lb)
base_row base.Lh = row Immediate load 1 0 (As mnemonic.Lh)
base_row base.Lw = row Immediate load 2 0 (As mnemonic.Lw)
base_row base.Lbu = row Immediate load 4 0 (As mnemonic.Lbu)
base_row base.Lhu = row Immediate load 5 0 (As mnemonic.Lhu)
base_row base.Sb = row Store store 0 0 (As mnemonic.Sb)
base_row base.Sh = row Store store 1 0 (As mnemonic.Sh)
base_row base.Sw = row Store store 2 0 (As mnemonic.Sw)
base_row base.Addi = row Immediate op_imm 0 0 (As mnemonic.Addi)
base_row base.Slti = row Immediate op_imm 2 0 (As mnemonic.Slti)
base_row base.Sltiu = row Immediate op_imm 3 0 (As mnemonic.Sltiu)
base_row base.Xori = row Immediate op_imm 4 0 (As mnemonic.Xori)
base_row base.Ori = row Immediate op_imm 6 0 (As mnemonic.Ori)
base_row base.Andi = row Immediate op_imm 7 0 (As mnemonic.Andi)
base_row base.Add = row Register op 0 0 (As mnemonic.Add)
base_row base.Sub = row Register op 0 32 (As mnemonic.Sub)
base_row base.Sll = row Register op 1 0 (As mnemonic.Sll)
base_row base.Slt = row Register op 2 0 (As mnemonic.Slt)
base_row base.Sltu = row Register op 3 0 (As mnemonic.Sltu)
base_row base.Xor = row Register op 4 0 (As mnemonic.Xor)
base_row base.Srl = row Register op 5 0 (As mnemonic.Srl)
base_row base.Sra = row Register op 5 32 (As mnemonic.Sra)
base_row base.Or = row Register op 6 0 (As mnemonic.Or)
base_row base.And = row Register op 7 0 (As mnemonic.And)
-- RV64I: the counts of shifts have six bits
base_row base.Lwu = row Immediate load 6 0 (As mnemonic.Lwu)
base_row base.Ld = row Immediate load 3 0 (As mnemonic.Ld)
base_row base.Sd = row Store store 3 0 (As mnemonic.Sd)
base_row base.Slli = row Count6 op_imm 1 0 (As mnemonic.Slli)
base_row base.Srli = row Count6 op_imm 5 0 (As mnemonic.Srli)
base_row base.Srai = row Count6 op_imm 5 32 (As mnemonic.Srai)
base_row base.Addiw = row Immediate op_imm_32 0 0 (As mnemonic.Addiw)
base_row base.Slliw = row Count5 op_imm_32 1 0 (As mnemonic.Slliw)
base_row base.Srliw = row Count5 op_imm_32 5 0 (As mnemonic.Srliw)
base_row base.Sraiw = row Count5 op_imm_32 5 32 (As mnemonic.Sraiw)
base_row base.Addw = row Register op_32 0 0 (As mnemonic.Addw)
base_row base.Subw = row Register op_32 0 32 (As mnemonic.Subw)
base_row base.Sllw = row Register op_32 1 0 (As mnemonic.Sllw)
base_row base.Srlw = row Register op_32 5 0 (As mnemonic.Srlw)
base_row base.Sraw = row Register op_32 5 32 (As mnemonic.Sraw)
-- RV32M
base_row base.Mul = row Register op 0 1 (As mnemonic.Mul)
base_row base.Mulh = row Register op 1 1 (As mnemonic.Mulh)
base_row base.Mulhsu = row Register op 2 1 (As mnemonic.Mulhsu)
base_row base.Mulhu = row Register op 3 1 (As mnemonic.Mulhu)
base_row base.Div = row Register op 4 1 (As mnemonic.Div)
base_row base.Divu = row Register op 5 1 (As mnemonic.Divu)
base_row base.Rem = row Register op 6 1 (As mnemonic.Rem)
base_row base.Remu = row Register op 7 1 (As mnemonic.Remu)
-- RV64M
base_row base.Mulw = row Register op_32 0 1 (As mnemonic.Mulw)
base_row base.Divw = row Register op_32 4 1 (As mnemonic.Divw)
base_row base.Divuw = row Register op_32 5 1 (As mnemonic.Divuw)
base_row base.Remw = row Register op_32 6 1 (As mnemonic.Remw)
base_row base.Remuw = row Register op_32 7 1 (As mnemonic.Remuw)

abbrev pub codes_of : BaseOp → Codes
codes_of op = (base_row op).codes

-- every base instruction, once
abbrev pub all_ops : List BaseOp
all_ops =
    base.Lui ∷ base.Jal ∷ base.Jalr ∷ base.Beq ∷ base.Bne ∷ base.Blt ∷ base.Bge ∷ base.Bltu ∷
    base.Bgeu ∷ base.Lb ∷ base.Lh ∷ base.Lw ∷ base.Lbu ∷ base.Lhu ∷ base.Sb ∷ base.Sh ∷ base.Sw ∷
    base.Addi ∷ base.Slti ∷ base.Sltiu ∷ base.Xori ∷ base.Ori ∷ base.Andi ∷ base.Add ∷ base.Sub ∷
    base.Sll ∷ base.Slt ∷ base.Sltu ∷ base.Xor ∷ base.Srl ∷ base.Sra ∷ base.Or ∷ base.And ∷
    base.Lwu ∷ base.Ld ∷ base.Sd ∷ base.Slli ∷ base.Srli ∷ base.Srai ∷ base.Addiw ∷ base.Slliw ∷
    base.Srliw ∷ base.Sraiw ∷ base.Addw ∷ base.Subw ∷ base.Sllw ∷ base.Srlw ∷ base.Sraw ∷
    base.Mul ∷ base.Mulh ∷ base.Mulhsu ∷ base.Mulhu ∷ base.Div ∷ base.Divu ∷ base.Rem ∷ base.Remu ∷
    base.Mulw ∷ base.Divw ∷ base.Divuw ∷ base.Remw ∷ base.Remuw ∷ []
