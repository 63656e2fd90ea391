-- The codes of each base instruction are its own: who looks them up finds it.
use Rattle.std.proofs.Common.{◌≡◌, ℕ, ◌%◌, ◌==◌, ◌&&◌, nat_lt, Bool, true, if◌then◌else◌, List, [], ◌∷◌, Option, Some, None, refl, ◌∙◌, ap}
use Rattle.rv_word.specs.Table.{codes_of, all_ops}
use Rattle.rv_word.specs.Word.{moved, find_op}
use Rattle.rv_word.specs.declared.base.BaseOp.{BaseOp}
use Rattle.rv_word.specs.declared.base.BaseOp.TheVariants as base
use Rattle.rv_word.specs.declared.base.Codes.{Codes}
use Rattle.rv_word.specs.declared.base.Format.{Format}
use Rattle.rv_word.specs.declared.base.Format.TheVariants.{Register, Immediate, Count6, Count5, Store, Branch, Upper, Jump}

-- the codes behind the opcode are those of a row: funct3, funct7, and funct7 but its lowest bit
abbrev functs_are : Format → Codes → ℕ → ℕ → ℕ → Bool
functs_are Register c f3 f7 f6 = (f3 == c.funct3) && (f7 == c.funct7)
functs_are Immediate c f3 f7 f6 = f3 == c.funct3
functs_are Count6 c f3 f7 f6 = (f3 == c.funct3) && (f6 == c.funct7)
functs_are Count5 c f3 f7 f6 = (f3 == c.funct3) && (f7 == c.funct7)
functs_are Store c f3 f7 f6 = f3 == c.funct3
functs_are Branch c f3 f7 f6 = f3 == c.funct3
functs_are Upper c f3 f7 f6 = true
functs_are Jump c f3 f7 f6 = true

abbrev first : ℕ → ℕ → ℕ → ℕ → List BaseOp → Option BaseOp
first o f3 f7 f6 [] = None
first o f3 f7 f6 (op ∷ ops) = if (o == (codes_of op).opcode) && functs_are (codes_of op).format (codes_of op) f3 f7 f6 then Some op else first o f3 f7 f6 ops

-- the row's codes where its format has them, else what is given
abbrev pub third : Format → Codes → ℕ → ℕ
third Upper c n = n
third Jump c n = n
third Register c n = c.funct3
third Immediate c n = c.funct3
third Count6 c n = c.funct3
third Count5 c n = c.funct3
third Store c n = c.funct3
third Branch c n = c.funct3

abbrev pub seventh : Format → Codes → ℕ → ℕ
seventh Register c n = c.funct7
seventh Count5 c n = c.funct7
seventh Immediate c n = n
seventh Count6 c n = n
seventh Store c n = n
seventh Branch c n = n
seventh Upper c n = n
seventh Jump c n = n

abbrev pub sixth : Format → Codes → ℕ → ℕ
sixth Count6 c n = c.funct7
sixth Register c n = n
sixth Immediate c n = n
sixth Count5 c n = n
sixth Store c n = n
sixth Branch c n = n
sixth Upper c n = n
sixth Jump c n = n

looked : (op : BaseOp) (f3 f7 f6 : ℕ) → first (codes_of op).opcode (third (codes_of op).format (codes_of op) f3) (seventh (codes_of op).format (codes_of op) f7) (sixth (codes_of op).format (codes_of op) f6) all_ops ≡ Some op
looked base.Lui f3 f7 f6 = refl
looked base.Jal f3 f7 f6 = refl
looked base.Jalr f3 f7 f6 = refl
looked base.Beq f3 f7 f6 = refl
looked base.Bne f3 f7 f6 = refl
looked base.Blt f3 f7 f6 = refl
looked base.Bge f3 f7 f6 = refl
looked base.Bltu f3 f7 f6 = refl
looked base.Bgeu f3 f7 f6 = refl
looked base.Lb f3 f7 f6 = refl
looked base.Lh f3 f7 f6 = refl
looked base.Lw f3 f7 f6 = refl
looked base.Lbu f3 f7 f6 = refl
looked base.Lhu f3 f7 f6 = refl
looked base.Sb f3 f7 f6 = refl
looked base.Sh f3 f7 f6 = refl
looked base.Sw f3 f7 f6 = refl
looked base.Addi f3 f7 f6 = refl
looked base.Slti f3 f7 f6 = refl
looked base.Sltiu f3 f7 f6 = refl
looked base.Xori f3 f7 f6 = refl
looked base.Ori f3 f7 f6 = refl
looked base.Andi f3 f7 f6 = refl
looked base.Add f3 f7 f6 = refl
looked base.Sub f3 f7 f6 = refl
looked base.Sll f3 f7 f6 = refl
looked base.Slt f3 f7 f6 = refl
looked base.Sltu f3 f7 f6 = refl
looked base.Xor f3 f7 f6 = refl
looked base.Srl f3 f7 f6 = refl
looked base.Sra f3 f7 f6 = refl
looked base.Or f3 f7 f6 = refl
looked base.And f3 f7 f6 = refl
looked base.Lwu f3 f7 f6 = refl
looked base.Ld f3 f7 f6 = refl
looked base.Sd f3 f7 f6 = refl
looked base.Slli f3 f7 f6 = refl
looked base.Srli f3 f7 f6 = refl
looked base.Srai f3 f7 f6 = refl
looked base.Addiw f3 f7 f6 = refl
looked base.Slliw f3 f7 f6 = refl
looked base.Srliw f3 f7 f6 = refl
looked base.Sraiw f3 f7 f6 = refl
looked base.Addw f3 f7 f6 = refl
looked base.Subw f3 f7 f6 = refl
looked base.Sllw f3 f7 f6 = refl
looked base.Srlw f3 f7 f6 = refl
looked base.Sraw f3 f7 f6 = refl
looked base.Mul f3 f7 f6 = refl
looked base.Mulh f3 f7 f6 = refl
looked base.Mulhsu f3 f7 f6 = refl
looked base.Mulhu f3 f7 f6 = refl
looked base.Div f3 f7 f6 = refl
looked base.Divu f3 f7 f6 = refl
looked base.Rem f3 f7 f6 = refl
looked base.Remu f3 f7 f6 = refl
looked base.Mulw f3 f7 f6 = refl
looked base.Divw f3 f7 f6 = refl
looked base.Divuw f3 f7 f6 = refl
looked base.Remw f3 f7 f6 = refl
looked base.Remuw f3 f7 f6 = refl

as_numbers : (word : ℕ) → find_op word all_ops ≡ first (moved 0 7 0 word) (moved 12 3 0 word) (moved 25 7 0 word) (moved 26 6 1 word) all_ops
as_numbers word = refl

-- a word with the codes of an instruction is found to be that instruction's
pub found : (op : BaseOp) (word : ℕ) → moved 0 7 0 word ≡ (codes_of op).opcode → moved 12 3 0 word ≡ third (codes_of op).format (codes_of op) (moved 12 3 0 word) →
    moved 25 7 0 word ≡ seventh (codes_of op).format (codes_of op) (moved 25 7 0 word) → moved 26 6 1 word ≡ sixth (codes_of op).format (codes_of op) (moved 26 6 1 word) → find_op word all_ops ≡ Some op
found op word o three seven six =
    as_numbers word ∙ (ap (λ n. first n (moved 12 3 0 word) (moved 25 7 0 word) (moved 26 6 1 word) all_ops) o
    ∙ (ap (λ n. first (codes_of op).opcode n (moved 25 7 0 word) (moved 26 6 1 word) all_ops) three
    ∙ (ap (λ n. first (codes_of op).opcode (third (codes_of op).format (codes_of op) (moved 12 3 0 word)) n (moved 26 6 1 word) all_ops) seven
    ∙ (ap (λ n. first (codes_of op).opcode (third (codes_of op).format (codes_of op) (moved 12 3 0 word)) (seventh (codes_of op).format (codes_of op) (moved 25 7 0 word)) n all_ops) six
    ∙ looked op (moved 12 3 0 word) (moved 25 7 0 word) (moved 26 6 1 word)))))

-- codes have as many bits as they have in a word; those of a count of 6 bits leave it the lowest bit
-- of funct7
abbrev pub is_even_at : Format → ℕ → Bool
is_even_at Count6 n = n % 2 == 0
is_even_at Register n = true
is_even_at Immediate n = true
is_even_at Count5 n = true
is_even_at Store n = true
is_even_at Branch n = true
is_even_at Upper n = true
is_even_at Jump n = true

abbrev pub is_small : Codes → Bool
is_small c = nat_lt c.opcode 128 && (nat_lt c.funct3 8 && (nat_lt c.funct7 128 && is_even_at c.format c.funct7))

pub small : (op : BaseOp) → is_small (codes_of op) ≡ true
small base.Lui = refl
small base.Jal = refl
small base.Jalr = refl
small base.Beq = refl
small base.Bne = refl
small base.Blt = refl
small base.Bge = refl
small base.Bltu = refl
small base.Bgeu = refl
small base.Lb = refl
small base.Lh = refl
small base.Lw = refl
small base.Lbu = refl
small base.Lhu = refl
small base.Sb = refl
small base.Sh = refl
small base.Sw = refl
small base.Addi = refl
small base.Slti = refl
small base.Sltiu = refl
small base.Xori = refl
small base.Ori = refl
small base.Andi = refl
small base.Add = refl
small base.Sub = refl
small base.Sll = refl
small base.Slt = refl
small base.Sltu = refl
small base.Xor = refl
small base.Srl = refl
small base.Sra = refl
small base.Or = refl
small base.And = refl
small base.Lwu = refl
small base.Ld = refl
small base.Sd = refl
small base.Slli = refl
small base.Srli = refl
small base.Srai = refl
small base.Addiw = refl
small base.Slliw = refl
small base.Srliw = refl
small base.Sraiw = refl
small base.Addw = refl
small base.Subw = refl
small base.Sllw = refl
small base.Srlw = refl
small base.Sraw = refl
small base.Mul = refl
small base.Mulh = refl
small base.Mulhsu = refl
small base.Mulhu = refl
small base.Div = refl
small base.Divu = refl
small base.Rem = refl
small base.Remu = refl
small base.Mulw = refl
small base.Divw = refl
small base.Divuw = refl
small base.Remw = refl
small base.Remuw = refl
