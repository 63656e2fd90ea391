-- Which words a line has: the assembly manual ("RISC-V Assembly Programmer's Manual",
-- "Pseudoinstructions for RISC-V") gives each pseudo-instruction by the instructions that it stands
-- for, and RISC-V unprivileged manual, "RISC-V Assembly Programmer's Handbook", has the same table.
use Rattle.std.specs.Prelude.{ℕ, ℤ, pos, negsuc, Option, Some, None}
use Rattle.rv_text.specs.declared.line.Line.{Line}
use Rattle.rv_text.specs.declared.mnemonic.Mnemonic.{Mnemonic}
use Rattle.rv_text.specs.declared.mnemonic.Mnemonic.TheVariants as mnemonic
use Rattle.rv_word.specs.declared.base.Base.{Base}
use Rattle.rv_word.specs.declared.base.BaseOp.{BaseOp}
use Rattle.rv_word.specs.declared.base.BaseOp.TheVariants as base
use Rattle.rv_word.specs.declared.spelling.Spelling.{Spelling}
use Rattle.rv_word.specs.declared.spelling.Spelling.TheVariants.{One, Near, Leap, Long, Far}
use Rattle.rv_word.specs.declared.spelling.Place.{Place}
use Rattle.rv_word.specs.declared.spelling.Place.TheVariants.{Rd, Rs, Rt, Zero, Ra}
use Rattle.rv_word.specs.declared.spelling.Number.{Number}
use Rattle.rv_word.specs.declared.spelling.Number.TheVariants.{Given, Fixed}

-- the words of each mnemonic
abbrev pub spelling_of : Mnemonic → Spelling
spelling_of mnemonic.Add = One base.Add Rd Rs Rt (Fixed (pos 0))
spelling_of mnemonic.Sub = One base.Sub Rd Rs Rt (Fixed (pos 0))
spelling_of mnemonic.And = One base.And Rd Rs Rt (Fixed (pos 0))
spelling_of mnemonic.Or = One base.Or Rd Rs Rt (Fixed (pos 0))
spelling_of mnemonic.Xor = One base.Xor Rd Rs Rt (Fixed (pos 0))
spelling_of mnemonic.Sll = One base.Sll Rd Rs Rt (Fixed (pos 0))
spelling_of mnemonic.Srl = One base.Srl Rd Rs Rt (Fixed (pos 0))
spelling_of mnemonic.Sra = One base.Sra Rd Rs Rt (Fixed (pos 0))
spelling_of mnemonic.Slt = One base.Slt Rd Rs Rt (Fixed (pos 0))
spelling_of mnemonic.Sltu = One base.Sltu Rd Rs Rt (Fixed (pos 0))
spelling_of mnemonic.Addw = One base.Addw Rd Rs Rt (Fixed (pos 0))
spelling_of mnemonic.Subw = One base.Subw Rd Rs Rt (Fixed (pos 0))
spelling_of mnemonic.Sllw = One base.Sllw Rd Rs Rt (Fixed (pos 0))
spelling_of mnemonic.Srlw = One base.Srlw Rd Rs Rt (Fixed (pos 0))
spelling_of mnemonic.Sraw = One base.Sraw Rd Rs Rt (Fixed (pos 0))
spelling_of mnemonic.Mul = One base.Mul Rd Rs Rt (Fixed (pos 0))
spelling_of mnemonic.Mulh = One base.Mulh Rd Rs Rt (Fixed (pos 0))
spelling_of mnemonic.Mulhsu = One base.Mulhsu Rd Rs Rt (Fixed (pos 0))
spelling_of mnemonic.Mulhu = One base.Mulhu Rd Rs Rt (Fixed (pos 0))
spelling_of mnemonic.Div = One base.Div Rd Rs Rt (Fixed (pos 0))
spelling_of mnemonic.Divu = One base.Divu Rd Rs Rt (Fixed (pos 0))
spelling_of mnemonic.Rem = One base.Rem Rd Rs Rt (Fixed (pos 0))
spelling_of mnemonic.Remu = One base.Remu Rd Rs Rt (Fixed (pos 0))
spelling_of mnemonic.Mulw = One base.Mulw Rd Rs Rt (Fixed (pos 0))
spelling_of mnemonic.Divw = One base.Divw Rd Rs Rt (Fixed (pos 0))
spelling_of mnemonic.Divuw = One base.Divuw Rd Rs Rt (Fixed (pos 0))
spelling_of mnemonic.Remw = One base.Remw Rd Rs Rt (Fixed (pos 0))
spelling_of mnemonic.Remuw = One base.Remuw Rd Rs Rt (Fixed (pos 0))
spelling_of mnemonic.Addi = One base.Addi Rd Rs Zero Given
spelling_of mnemonic.Andi = One base.Andi Rd Rs Zero Given
spelling_of mnemonic.Ori = One base.Ori Rd Rs Zero Given
spelling_of mnemonic.Xori = One base.Xori Rd Rs Zero Given
spelling_of mnemonic.Slti = One base.Slti Rd Rs Zero Given
spelling_of mnemonic.Sltiu = One base.Sltiu Rd Rs Zero Given
spelling_of mnemonic.Addiw = One base.Addiw Rd Rs Zero Given
spelling_of mnemonic.Slli = One base.Slli Rd Rs Zero Given
spelling_of mnemonic.Srli = One base.Srli Rd Rs Zero Given
spelling_of mnemonic.Srai = One base.Srai Rd Rs Zero Given
spelling_of mnemonic.Slliw = One base.Slliw Rd Rs Zero Given
spelling_of mnemonic.Srliw = One base.Srliw Rd Rs Zero Given
spelling_of mnemonic.Sraiw = One base.Sraiw Rd Rs Zero Given
spelling_of mnemonic.Lui = One base.Lui Rd Zero Zero Given
spelling_of mnemonic.Lb = One base.Lb Rd Rs Zero Given
spelling_of mnemonic.Lbu = One base.Lbu Rd Rs Zero Given
spelling_of mnemonic.Lh = One base.Lh Rd Rs Zero Given
spelling_of mnemonic.Lhu = One base.Lhu Rd Rs Zero Given
spelling_of mnemonic.Lw = One base.Lw Rd Rs Zero Given
spelling_of mnemonic.Lwu = One base.Lwu Rd Rs Zero Given
spelling_of mnemonic.Ld = One base.Ld Rd Rs Zero Given
spelling_of mnemonic.Sb = One base.Sb Zero Rs Rt Given
spelling_of mnemonic.Sh = One base.Sh Zero Rs Rt Given
spelling_of mnemonic.Sw = One base.Sw Zero Rs Rt Given
spelling_of mnemonic.Sd = One base.Sd Zero Rs Rt Given
spelling_of mnemonic.Beq = Near base.Beq Rs Rt
spelling_of mnemonic.Bne = Near base.Bne Rs Rt
spelling_of mnemonic.Blt = Near base.Blt Rs Rt
spelling_of mnemonic.Bge = Near base.Bge Rs Rt
spelling_of mnemonic.Bltu = Near base.Bltu Rs Rt
spelling_of mnemonic.Bgeu = Near base.Bgeu Rs Rt
spelling_of mnemonic.Bgt = Near base.Blt Rt Rs
spelling_of mnemonic.Ble = Near base.Bge Rt Rs
spelling_of mnemonic.Bgtu = Near base.Bltu Rt Rs
spelling_of mnemonic.Bleu = Near base.Bgeu Rt Rs
spelling_of mnemonic.Beqz = Near base.Beq Rs Zero
spelling_of mnemonic.Bnez = Near base.Bne Rs Zero
spelling_of mnemonic.Blez = Near base.Bge Zero Rs
spelling_of mnemonic.Bgez = Near base.Bge Rs Zero
spelling_of mnemonic.Bltz = Near base.Blt Rs Zero
spelling_of mnemonic.Bgtz = Near base.Blt Zero Rs
spelling_of mnemonic.Li = Long
spelling_of mnemonic.La = Far base.Addi Rd
spelling_of mnemonic.Mv = One base.Addi Rd Rs Zero (Fixed (pos 0))
spelling_of mnemonic.Not = One base.Xori Rd Rs Zero (Fixed (negsuc 0))
spelling_of mnemonic.Neg = One base.Sub Rd Zero Rs (Fixed (pos 0))
spelling_of mnemonic.Negw = One base.Subw Rd Zero Rs (Fixed (pos 0))
spelling_of mnemonic.SextW = One base.Addiw Rd Rs Zero (Fixed (pos 0))
spelling_of mnemonic.Seqz = One base.Sltiu Rd Rs Zero (Fixed (pos 1))
spelling_of mnemonic.Snez = One base.Sltu Rd Zero Rs (Fixed (pos 0))
spelling_of mnemonic.Sltz = One base.Slt Rd Rs Zero (Fixed (pos 0))
spelling_of mnemonic.Sgtz = One base.Slt Rd Zero Rs (Fixed (pos 0))
spelling_of mnemonic.J = Leap
spelling_of mnemonic.Call = Far base.Jalr Ra
spelling_of mnemonic.Jalr = One base.Jalr Ra Rs Zero (Fixed (pos 0))
spelling_of mnemonic.Jr = One base.Jalr Zero Rs Zero (Fixed (pos 0))
spelling_of mnemonic.Ret = One base.Jalr Zero Ra Zero (Fixed (pos 0))
spelling_of mnemonic.Nop = One base.Addi Zero Zero Zero (Fixed (pos 0))

-- a register of a line's word
abbrev pub register_at : Place → Line → ℕ
register_at Rd line = line.rd
register_at Rs line = line.rs
register_at Rt line = line.rt
register_at Zero line = 0
register_at Ra line = 1

abbrev pub number_at : Number → Line → ℤ
number_at Given line = line.imm
number_at (Fixed number) line = number

abbrev pub base_of : BaseOp → ℕ → ℕ → ℕ → ℤ → Base
base_of op rd rs1 rs2 imm = record { op = op; rd = rd; rs1 = rs1; rs2 = rs2; imm = imm }

-- the branch that is taken where another one isn't
abbrev pub opposite : BaseOp → BaseOp
opposite base.Beq = base.Bne
opposite base.Bne = base.Beq
opposite base.Blt = base.Bge
opposite base.Bge = base.Blt
opposite base.Bltu = base.Bgeu
opposite base.Bgeu = base.Bltu
opposite op = op

-- the word of a line that has one, where its label stands so many bytes further
abbrev pub one_word : Spelling → Line → ℤ → Option Base
one_word (One op rd rs1 rs2 number) line further = Some (base_of op (register_at rd line) (register_at rs1 line) (register_at rs2 line) (number_at number line))
one_word (Near op rs1 rs2) line further =
    Some (base_of op 0 (register_at rs1 line) (register_at rs2 line) further)
one_word Leap line further = Some (base_of base.Jal 0 0 0 further)
one_word Long line further = None
one_word (Far op through) line further = None
