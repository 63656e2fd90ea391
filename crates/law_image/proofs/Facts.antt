-- What each mnemonic's words need.
use Rattle.std.proofs.Common.{◌≡◌, ℤ, pos, negsuc, ◌%◌, ◌<◌, Bool, true, false, refl, arith, ◌⊎◌, inl, inr}
use Rattle.std.specs.Int.{cast_unsigned, w64}
use Rattle.std.proofs.lemmas.Int.{ints}
use Rattle.rv_text.specs.Lines.{is_of_row}
use Rattle.rv_text.specs.Table.{row_of}
use Rattle.rv_text.specs.declared.line.Line.{Line}
use Rattle.rv_text.specs.declared.action.Action.{Action}
use Rattle.rv_text.specs.declared.action.Action.TheVariants.{Compute, Load, Store, SymbolAddress, Branch, Jump, Call, CallRegister, Return}
use Rattle.rv_text.specs.declared.mnemonic.Mnemonic.{Mnemonic}
use Rattle.rv_text.specs.declared.mnemonic.Mnemonic.TheVariants as mnemonic
use Rattle.rv_text.specs.declared.operand.Operand.TheVariants.{Rd, Rs, Rt}
use Rattle.rv_word.specs.Word.{FitsBase, IsWithin}
use Rattle.rv_word.specs.Spelling.{spelling_of, register_at, number_at, base_of, opposite}
use Rattle.rv_word.specs.declared.spelling.Spelling.{Spelling}
use Rattle.rv_word.specs.declared.spelling.Spelling.TheVariants.{One, Near, Leap, Long, Far}
use Rattle.law_image.proofs.Fits.{low_line, all_of, third_number, second_number, second_place}

-- whether a line of an action is a branch, or reads a symbol, or neither leads to a label nor does
abbrev pub is_branch : Action → Bool
is_branch (Compute operation w left right) = false
is_branch (Load w extension) = false
is_branch (Store w) = false
is_branch SymbolAddress = false
is_branch (Branch comparison left right) = true
is_branch Jump = false
is_branch Call = false
is_branch CallRegister = false
is_branch (Return through) = false

abbrev pub is_plain : Action → Bool
is_plain (Compute operation w left right) = true
is_plain (Load w extension) = true
is_plain (Store w) = true
is_plain SymbolAddress = false
is_plain (Branch comparison left right) = false
is_plain Jump = false
is_plain Call = false
is_plain CallRegister = true
is_plain (Return through) = true

-- a mnemonic's words fit, and its action is one that they can do
abbrev pub Facts : Mnemonic → Spelling → Line → Type 0
Facts m (One op rd rs1 rs2 number) line =
    FitsBase (base_of op (register_at rd line) (register_at rs1 line) (register_at rs2 line) (number_at number line)) × (is_plain (row_of m).action ≡ true)
Facts m (Near op rs1 rs2) line =
    ((further : ℤ) → cast_unsigned w64 further % 2 ≡ 0 → IsWithin (negsuc 4095) (pos 4094) further →
    FitsBase (base_of op 0 (register_at rs1 line) (register_at rs2 line) further) × FitsBase (base_of (opposite op) 0 (register_at rs1 line) (register_at rs2 line) further)) × (is_branch (row_of m).action ≡ true)
Facts m Leap line = (row_of m).action ≡ Jump
Facts m Long line = m ≡ mnemonic.Li
Facts m (Far op through) line = (m ≡ mnemonic.La) ⊎ (m ≡ mnemonic.Call)

pub zero_low : 0 < 32
zero_low = omega arith

one_low : 1 < 32
one_low = omega arith

pub facts : (m : Mnemonic) (line : Line) → is_of_row (row_of m) line ≡ true → Facts m (spelling_of m) line
facts mnemonic.Add line of_row = (((low_line (row_of mnemonic.Add) line of_row).rd, (low_line (row_of mnemonic.Add) line of_row).rs, (low_line (row_of mnemonic.Add) line of_row).rt, refl), refl)
facts mnemonic.Sub line of_row = (((low_line (row_of mnemonic.Sub) line of_row).rd, (low_line (row_of mnemonic.Sub) line of_row).rs, (low_line (row_of mnemonic.Sub) line of_row).rt, refl), refl)
facts mnemonic.And line of_row = (((low_line (row_of mnemonic.And) line of_row).rd, (low_line (row_of mnemonic.And) line of_row).rs, (low_line (row_of mnemonic.And) line of_row).rt, refl), refl)
facts mnemonic.Or line of_row = (((low_line (row_of mnemonic.Or) line of_row).rd, (low_line (row_of mnemonic.Or) line of_row).rs, (low_line (row_of mnemonic.Or) line of_row).rt, refl), refl)
facts mnemonic.Xor line of_row = (((low_line (row_of mnemonic.Xor) line of_row).rd, (low_line (row_of mnemonic.Xor) line of_row).rs, (low_line (row_of mnemonic.Xor) line of_row).rt, refl), refl)
facts mnemonic.Sll line of_row = (((low_line (row_of mnemonic.Sll) line of_row).rd, (low_line (row_of mnemonic.Sll) line of_row).rs, (low_line (row_of mnemonic.Sll) line of_row).rt, refl), refl)
facts mnemonic.Srl line of_row = (((low_line (row_of mnemonic.Srl) line of_row).rd, (low_line (row_of mnemonic.Srl) line of_row).rs, (low_line (row_of mnemonic.Srl) line of_row).rt, refl), refl)
facts mnemonic.Sra line of_row = (((low_line (row_of mnemonic.Sra) line of_row).rd, (low_line (row_of mnemonic.Sra) line of_row).rs, (low_line (row_of mnemonic.Sra) line of_row).rt, refl), refl)
facts mnemonic.Slt line of_row = (((low_line (row_of mnemonic.Slt) line of_row).rd, (low_line (row_of mnemonic.Slt) line of_row).rs, (low_line (row_of mnemonic.Slt) line of_row).rt, refl), refl)
facts mnemonic.Sltu line of_row = (((low_line (row_of mnemonic.Sltu) line of_row).rd, (low_line (row_of mnemonic.Sltu) line of_row).rs, (low_line (row_of mnemonic.Sltu) line of_row).rt, refl), refl)
facts mnemonic.Addw line of_row = (((low_line (row_of mnemonic.Addw) line of_row).rd, (low_line (row_of mnemonic.Addw) line of_row).rs, (low_line (row_of mnemonic.Addw) line of_row).rt, refl), refl)
facts mnemonic.Subw line of_row = (((low_line (row_of mnemonic.Subw) line of_row).rd, (low_line (row_of mnemonic.Subw) line of_row).rs, (low_line (row_of mnemonic.Subw) line of_row).rt, refl), refl)
facts mnemonic.Sllw line of_row = (((low_line (row_of mnemonic.Sllw) line of_row).rd, (low_line (row_of mnemonic.Sllw) line of_row).rs, (low_line (row_of mnemonic.Sllw) line of_row).rt, refl), refl)
facts mnemonic.Srlw line of_row = (((low_line (row_of mnemonic.Srlw) line of_row).rd, (low_line (row_of mnemonic.Srlw) line of_row).rs, (low_line (row_of mnemonic.Srlw) line of_row).rt, refl), refl)
facts mnemonic.Sraw line of_row = (((low_line (row_of mnemonic.Sraw) line of_row).rd, (low_line (row_of mnemonic.Sraw) line of_row).rs, (low_line (row_of mnemonic.Sraw) line of_row).rt, refl), refl)
facts mnemonic.Mul line of_row = (((low_line (row_of mnemonic.Mul) line of_row).rd, (low_line (row_of mnemonic.Mul) line of_row).rs, (low_line (row_of mnemonic.Mul) line of_row).rt, refl), refl)
facts mnemonic.Mulh line of_row = (((low_line (row_of mnemonic.Mulh) line of_row).rd, (low_line (row_of mnemonic.Mulh) line of_row).rs, (low_line (row_of mnemonic.Mulh) line of_row).rt, refl), refl)
facts mnemonic.Mulhsu line of_row = (((low_line (row_of mnemonic.Mulhsu) line of_row).rd, (low_line (row_of mnemonic.Mulhsu) line of_row).rs, (low_line (row_of mnemonic.Mulhsu) line of_row).rt, refl), refl)
facts mnemonic.Mulhu line of_row = (((low_line (row_of mnemonic.Mulhu) line of_row).rd, (low_line (row_of mnemonic.Mulhu) line of_row).rs, (low_line (row_of mnemonic.Mulhu) line of_row).rt, refl), refl)
facts mnemonic.Div line of_row = (((low_line (row_of mnemonic.Div) line of_row).rd, (low_line (row_of mnemonic.Div) line of_row).rs, (low_line (row_of mnemonic.Div) line of_row).rt, refl), refl)
facts mnemonic.Divu line of_row = (((low_line (row_of mnemonic.Divu) line of_row).rd, (low_line (row_of mnemonic.Divu) line of_row).rs, (low_line (row_of mnemonic.Divu) line of_row).rt, refl), refl)
facts mnemonic.Rem line of_row = (((low_line (row_of mnemonic.Rem) line of_row).rd, (low_line (row_of mnemonic.Rem) line of_row).rs, (low_line (row_of mnemonic.Rem) line of_row).rt, refl), refl)
facts mnemonic.Remu line of_row = (((low_line (row_of mnemonic.Remu) line of_row).rd, (low_line (row_of mnemonic.Remu) line of_row).rs, (low_line (row_of mnemonic.Remu) line of_row).rt, refl), refl)
facts mnemonic.Mulw line of_row = (((low_line (row_of mnemonic.Mulw) line of_row).rd, (low_line (row_of mnemonic.Mulw) line of_row).rs, (low_line (row_of mnemonic.Mulw) line of_row).rt, refl), refl)
facts mnemonic.Divw line of_row = (((low_line (row_of mnemonic.Divw) line of_row).rd, (low_line (row_of mnemonic.Divw) line of_row).rs, (low_line (row_of mnemonic.Divw) line of_row).rt, refl), refl)
facts mnemonic.Divuw line of_row = (((low_line (row_of mnemonic.Divuw) line of_row).rd, (low_line (row_of mnemonic.Divuw) line of_row).rs, (low_line (row_of mnemonic.Divuw) line of_row).rt, refl), refl)
facts mnemonic.Remw line of_row = (((low_line (row_of mnemonic.Remw) line of_row).rd, (low_line (row_of mnemonic.Remw) line of_row).rs, (low_line (row_of mnemonic.Remw) line of_row).rt, refl), refl)
facts mnemonic.Remuw line of_row = (((low_line (row_of mnemonic.Remuw) line of_row).rd, (low_line (row_of mnemonic.Remuw) line of_row).rs, (low_line (row_of mnemonic.Remuw) line of_row).rt, refl), refl)
facts mnemonic.Addi line of_row = (((low_line (row_of mnemonic.Addi) line of_row).rd, (low_line (row_of mnemonic.Addi) line of_row).rs, refl, third_number Rd Rs (negsuc 2047) (pos 2047) line (all_of (row_of mnemonic.Addi) line of_row)), refl)
facts mnemonic.Andi line of_row = (((low_line (row_of mnemonic.Andi) line of_row).rd, (low_line (row_of mnemonic.Andi) line of_row).rs, refl, third_number Rd Rs (negsuc 2047) (pos 2047) line (all_of (row_of mnemonic.Andi) line of_row)), refl)
facts mnemonic.Ori line of_row = (((low_line (row_of mnemonic.Ori) line of_row).rd, (low_line (row_of mnemonic.Ori) line of_row).rs, refl, third_number Rd Rs (negsuc 2047) (pos 2047) line (all_of (row_of mnemonic.Ori) line of_row)), refl)
facts mnemonic.Xori line of_row = (((low_line (row_of mnemonic.Xori) line of_row).rd, (low_line (row_of mnemonic.Xori) line of_row).rs, refl, third_number Rd Rs (negsuc 2047) (pos 2047) line (all_of (row_of mnemonic.Xori) line of_row)), refl)
facts mnemonic.Slti line of_row = (((low_line (row_of mnemonic.Slti) line of_row).rd, (low_line (row_of mnemonic.Slti) line of_row).rs, refl, third_number Rd Rs (negsuc 2047) (pos 2047) line (all_of (row_of mnemonic.Slti) line of_row)), refl)
facts mnemonic.Sltiu line of_row = (((low_line (row_of mnemonic.Sltiu) line of_row).rd, (low_line (row_of mnemonic.Sltiu) line of_row).rs, refl, third_number Rd Rs (negsuc 2047) (pos 2047) line (all_of (row_of mnemonic.Sltiu) line of_row)), refl)
facts mnemonic.Addiw line of_row = (((low_line (row_of mnemonic.Addiw) line of_row).rd, (low_line (row_of mnemonic.Addiw) line of_row).rs, refl, third_number Rd Rs (negsuc 2047) (pos 2047) line (all_of (row_of mnemonic.Addiw) line of_row)), refl)
facts mnemonic.Slli line of_row = (((low_line (row_of mnemonic.Slli) line of_row).rd, (low_line (row_of mnemonic.Slli) line of_row).rs, refl, third_number Rd Rs (pos 0) (pos 63) line (all_of (row_of mnemonic.Slli) line of_row)), refl)
facts mnemonic.Srli line of_row = (((low_line (row_of mnemonic.Srli) line of_row).rd, (low_line (row_of mnemonic.Srli) line of_row).rs, refl, third_number Rd Rs (pos 0) (pos 63) line (all_of (row_of mnemonic.Srli) line of_row)), refl)
facts mnemonic.Srai line of_row = (((low_line (row_of mnemonic.Srai) line of_row).rd, (low_line (row_of mnemonic.Srai) line of_row).rs, refl, third_number Rd Rs (pos 0) (pos 63) line (all_of (row_of mnemonic.Srai) line of_row)), refl)
facts mnemonic.Slliw line of_row = (((low_line (row_of mnemonic.Slliw) line of_row).rd, (low_line (row_of mnemonic.Slliw) line of_row).rs, refl, third_number Rd Rs (pos 0) (pos 31) line (all_of (row_of mnemonic.Slliw) line of_row)), refl)
facts mnemonic.Srliw line of_row = (((low_line (row_of mnemonic.Srliw) line of_row).rd, (low_line (row_of mnemonic.Srliw) line of_row).rs, refl, third_number Rd Rs (pos 0) (pos 31) line (all_of (row_of mnemonic.Srliw) line of_row)), refl)
facts mnemonic.Sraiw line of_row = (((low_line (row_of mnemonic.Sraiw) line of_row).rd, (low_line (row_of mnemonic.Sraiw) line of_row).rs, refl, third_number Rd Rs (pos 0) (pos 31) line (all_of (row_of mnemonic.Sraiw) line of_row)), refl)
facts mnemonic.Lui line of_row = (((low_line (row_of mnemonic.Lui) line of_row).rd, refl, refl, second_number Rd (pos 0) (pos 1048575) line (all_of (row_of mnemonic.Lui) line of_row)), refl)
facts mnemonic.Lb line of_row = (((low_line (row_of mnemonic.Lb) line of_row).rd, (low_line (row_of mnemonic.Lb) line of_row).rs, refl, second_place Rd (negsuc 2047) (pos 2047) line (all_of (row_of mnemonic.Lb) line of_row)), refl)
facts mnemonic.Lbu line of_row = (((low_line (row_of mnemonic.Lbu) line of_row).rd, (low_line (row_of mnemonic.Lbu) line of_row).rs, refl, second_place Rd (negsuc 2047) (pos 2047) line (all_of (row_of mnemonic.Lbu) line of_row)), refl)
facts mnemonic.Lh line of_row = (((low_line (row_of mnemonic.Lh) line of_row).rd, (low_line (row_of mnemonic.Lh) line of_row).rs, refl, second_place Rd (negsuc 2047) (pos 2047) line (all_of (row_of mnemonic.Lh) line of_row)), refl)
facts mnemonic.Lhu line of_row = (((low_line (row_of mnemonic.Lhu) line of_row).rd, (low_line (row_of mnemonic.Lhu) line of_row).rs, refl, second_place Rd (negsuc 2047) (pos 2047) line (all_of (row_of mnemonic.Lhu) line of_row)), refl)
facts mnemonic.Lw line of_row = (((low_line (row_of mnemonic.Lw) line of_row).rd, (low_line (row_of mnemonic.Lw) line of_row).rs, refl, second_place Rd (negsuc 2047) (pos 2047) line (all_of (row_of mnemonic.Lw) line of_row)), refl)
facts mnemonic.Lwu line of_row = (((low_line (row_of mnemonic.Lwu) line of_row).rd, (low_line (row_of mnemonic.Lwu) line of_row).rs, refl, second_place Rd (negsuc 2047) (pos 2047) line (all_of (row_of mnemonic.Lwu) line of_row)), refl)
facts mnemonic.Ld line of_row = (((low_line (row_of mnemonic.Ld) line of_row).rd, (low_line (row_of mnemonic.Ld) line of_row).rs, refl, second_place Rd (negsuc 2047) (pos 2047) line (all_of (row_of mnemonic.Ld) line of_row)), refl)
facts mnemonic.Sb line of_row = ((refl, (low_line (row_of mnemonic.Sb) line of_row).rs, (low_line (row_of mnemonic.Sb) line of_row).rt, second_place Rt (negsuc 2047) (pos 2047) line (all_of (row_of mnemonic.Sb) line of_row)), refl)
facts mnemonic.Sh line of_row = ((refl, (low_line (row_of mnemonic.Sh) line of_row).rs, (low_line (row_of mnemonic.Sh) line of_row).rt, second_place Rt (negsuc 2047) (pos 2047) line (all_of (row_of mnemonic.Sh) line of_row)), refl)
facts mnemonic.Sw line of_row = ((refl, (low_line (row_of mnemonic.Sw) line of_row).rs, (low_line (row_of mnemonic.Sw) line of_row).rt, second_place Rt (negsuc 2047) (pos 2047) line (all_of (row_of mnemonic.Sw) line of_row)), refl)
facts mnemonic.Sd line of_row = ((refl, (low_line (row_of mnemonic.Sd) line of_row).rs, (low_line (row_of mnemonic.Sd) line of_row).rt, second_place Rt (negsuc 2047) (pos 2047) line (all_of (row_of mnemonic.Sd) line of_row)), refl)
facts mnemonic.Beq line of_row = (λ further even range. ((refl, (low_line (row_of mnemonic.Beq) line of_row).rs, (low_line (row_of mnemonic.Beq) line of_row).rt, even, range), (refl, (low_line (row_of mnemonic.Beq) line of_row).rs, (low_line (row_of mnemonic.Beq) line of_row).rt, even, range)), refl)
facts mnemonic.Bne line of_row = (λ further even range. ((refl, (low_line (row_of mnemonic.Bne) line of_row).rs, (low_line (row_of mnemonic.Bne) line of_row).rt, even, range), (refl, (low_line (row_of mnemonic.Bne) line of_row).rs, (low_line (row_of mnemonic.Bne) line of_row).rt, even, range)), refl)
facts mnemonic.Blt line of_row = (λ further even range. ((refl, (low_line (row_of mnemonic.Blt) line of_row).rs, (low_line (row_of mnemonic.Blt) line of_row).rt, even, range), (refl, (low_line (row_of mnemonic.Blt) line of_row).rs, (low_line (row_of mnemonic.Blt) line of_row).rt, even, range)), refl)
facts mnemonic.Bge line of_row = (λ further even range. ((refl, (low_line (row_of mnemonic.Bge) line of_row).rs, (low_line (row_of mnemonic.Bge) line of_row).rt, even, range), (refl, (low_line (row_of mnemonic.Bge) line of_row).rs, (low_line (row_of mnemonic.Bge) line of_row).rt, even, range)), refl)
facts mnemonic.Bltu line of_row = (λ further even range. ((refl, (low_line (row_of mnemonic.Bltu) line of_row).rs, (low_line (row_of mnemonic.Bltu) line of_row).rt, even, range), (refl, (low_line (row_of mnemonic.Bltu) line of_row).rs, (low_line (row_of mnemonic.Bltu) line of_row).rt, even, range)), refl)
facts mnemonic.Bgeu line of_row = (λ further even range. ((refl, (low_line (row_of mnemonic.Bgeu) line of_row).rs, (low_line (row_of mnemonic.Bgeu) line of_row).rt, even, range), (refl, (low_line (row_of mnemonic.Bgeu) line of_row).rs, (low_line (row_of mnemonic.Bgeu) line of_row).rt, even, range)), refl)
facts mnemonic.Bgt line of_row = (λ further even range. ((refl, (low_line (row_of mnemonic.Bgt) line of_row).rt, (low_line (row_of mnemonic.Bgt) line of_row).rs, even, range), (refl, (low_line (row_of mnemonic.Bgt) line of_row).rt, (low_line (row_of mnemonic.Bgt) line of_row).rs, even, range)), refl)
facts mnemonic.Ble line of_row = (λ further even range. ((refl, (low_line (row_of mnemonic.Ble) line of_row).rt, (low_line (row_of mnemonic.Ble) line of_row).rs, even, range), (refl, (low_line (row_of mnemonic.Ble) line of_row).rt, (low_line (row_of mnemonic.Ble) line of_row).rs, even, range)), refl)
facts mnemonic.Bgtu line of_row = (λ further even range. ((refl, (low_line (row_of mnemonic.Bgtu) line of_row).rt, (low_line (row_of mnemonic.Bgtu) line of_row).rs, even, range), (refl, (low_line (row_of mnemonic.Bgtu) line of_row).rt, (low_line (row_of mnemonic.Bgtu) line of_row).rs, even, range)), refl)
facts mnemonic.Bleu line of_row = (λ further even range. ((refl, (low_line (row_of mnemonic.Bleu) line of_row).rt, (low_line (row_of mnemonic.Bleu) line of_row).rs, even, range), (refl, (low_line (row_of mnemonic.Bleu) line of_row).rt, (low_line (row_of mnemonic.Bleu) line of_row).rs, even, range)), refl)
facts mnemonic.Beqz line of_row = (λ further even range. ((refl, (low_line (row_of mnemonic.Beqz) line of_row).rs, zero_low, even, range), (refl, (low_line (row_of mnemonic.Beqz) line of_row).rs, zero_low, even, range)), refl)
facts mnemonic.Bnez line of_row = (λ further even range. ((refl, (low_line (row_of mnemonic.Bnez) line of_row).rs, zero_low, even, range), (refl, (low_line (row_of mnemonic.Bnez) line of_row).rs, zero_low, even, range)), refl)
facts mnemonic.Blez line of_row = (λ further even range. ((refl, zero_low, (low_line (row_of mnemonic.Blez) line of_row).rs, even, range), (refl, zero_low, (low_line (row_of mnemonic.Blez) line of_row).rs, even, range)), refl)
facts mnemonic.Bgez line of_row = (λ further even range. ((refl, (low_line (row_of mnemonic.Bgez) line of_row).rs, zero_low, even, range), (refl, (low_line (row_of mnemonic.Bgez) line of_row).rs, zero_low, even, range)), refl)
facts mnemonic.Bltz line of_row = (λ further even range. ((refl, (low_line (row_of mnemonic.Bltz) line of_row).rs, zero_low, even, range), (refl, (low_line (row_of mnemonic.Bltz) line of_row).rs, zero_low, even, range)), refl)
facts mnemonic.Bgtz line of_row = (λ further even range. ((refl, zero_low, (low_line (row_of mnemonic.Bgtz) line of_row).rs, even, range), (refl, zero_low, (low_line (row_of mnemonic.Bgtz) line of_row).rs, even, range)), refl)
facts mnemonic.Li line of_row = refl
facts mnemonic.La line of_row = inl refl
facts mnemonic.Mv line of_row = (((low_line (row_of mnemonic.Mv) line of_row).rd, (low_line (row_of mnemonic.Mv) line of_row).rs, refl, (omega (arith, ints), omega (arith, ints))), refl)
facts mnemonic.Not line of_row = (((low_line (row_of mnemonic.Not) line of_row).rd, (low_line (row_of mnemonic.Not) line of_row).rs, refl, (omega (arith, ints), omega (arith, ints))), refl)
facts mnemonic.Neg line of_row = (((low_line (row_of mnemonic.Neg) line of_row).rd, zero_low, (low_line (row_of mnemonic.Neg) line of_row).rs, refl), refl)
facts mnemonic.Negw line of_row = (((low_line (row_of mnemonic.Negw) line of_row).rd, zero_low, (low_line (row_of mnemonic.Negw) line of_row).rs, refl), refl)
facts mnemonic.SextW line of_row = (((low_line (row_of mnemonic.SextW) line of_row).rd, (low_line (row_of mnemonic.SextW) line of_row).rs, refl, (omega (arith, ints), omega (arith, ints))), refl)
facts mnemonic.Seqz line of_row = (((low_line (row_of mnemonic.Seqz) line of_row).rd, (low_line (row_of mnemonic.Seqz) line of_row).rs, refl, (omega (arith, ints), omega (arith, ints))), refl)
facts mnemonic.Snez line of_row = (((low_line (row_of mnemonic.Snez) line of_row).rd, zero_low, (low_line (row_of mnemonic.Snez) line of_row).rs, refl), refl)
facts mnemonic.Sltz line of_row = (((low_line (row_of mnemonic.Sltz) line of_row).rd, (low_line (row_of mnemonic.Sltz) line of_row).rs, zero_low, refl), refl)
facts mnemonic.Sgtz line of_row = (((low_line (row_of mnemonic.Sgtz) line of_row).rd, zero_low, (low_line (row_of mnemonic.Sgtz) line of_row).rs, refl), refl)
facts mnemonic.J line of_row = refl
facts mnemonic.Call line of_row = inr refl
facts mnemonic.Jalr line of_row = ((one_low, (low_line (row_of mnemonic.Jalr) line of_row).rs, refl, (omega (arith, ints), omega (arith, ints))), refl)
facts mnemonic.Jr line of_row = ((zero_low, (low_line (row_of mnemonic.Jr) line of_row).rs, refl, (omega (arith, ints), omega (arith, ints))), refl)
facts mnemonic.Ret line of_row = ((zero_low, one_low, refl, (omega (arith, ints), omega (arith, ints))), refl)
facts mnemonic.Nop line of_row = ((zero_low, zero_low, refl, (omega (arith, ints), omega (arith, ints))), refl)
