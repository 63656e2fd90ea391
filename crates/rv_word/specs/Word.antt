-- The word of a base instruction, and the base instruction of a word: RISC-V unprivileged manual,
-- "Base Instruction Formats" and "Immediate Encoding Variants".
use Rattle.std.specs.Prelude.{◌≡◌, ℕ, ℤ, pos, negsuc, ◌-ℤ◌, ◌≤ℤ◌, ◌+◌, ◌*◌, ◌/◌, ◌%◌, ◌^◌, ◌<◌, ◌==◌, ◌&&◌, nat_lt, Bool, true, false, if◌then◌else◌, List, [], ◌∷◌, Option, Some, None, option_map}
use Rattle.std.specs.Int.{cast_unsigned, w64}
use Rattle.rv_word.specs.Table.{codes_of, all_ops}
use Rattle.rv_word.specs.declared.base.Base.{Base}
use Rattle.rv_word.specs.declared.base.BaseOp.{BaseOp}
use Rattle.rv_word.specs.declared.base.Codes.{Codes}
use Rattle.rv_word.specs.declared.base.Format.{Format}
use Rattle.rv_word.specs.declared.base.Format.TheVariants.{Register, Immediate, Count6, Count5, Store, Branch, Upper, Jump}

-- so many bits of a number, from one place on, moved to another place
abbrev pub moved : ℕ → ℕ → ℕ → ℕ → ℕ
moved from width to n = 2 ^ to * (n / 2 ^ from % 2 ^ width)

-- ---- the word of an instruction

-- which formats have a register; it stands at the same place in each of them
abbrev pub has_rd : Format → Bool
has_rd Store = false
has_rd Branch = false
has_rd Register = true
has_rd Immediate = true
has_rd Count6 = true
has_rd Count5 = true
has_rd Upper = true
has_rd Jump = true

abbrev pub has_rs1 : Format → Bool
has_rs1 Upper = false
has_rs1 Jump = false
has_rs1 Register = true
has_rs1 Immediate = true
has_rs1 Count6 = true
has_rs1 Count5 = true
has_rs1 Store = true
has_rs1 Branch = true

abbrev pub has_rs2 : Format → Bool
has_rs2 Register = true
has_rs2 Store = true
has_rs2 Branch = true
has_rs2 Immediate = false
has_rs2 Count6 = false
has_rs2 Count5 = false
has_rs2 Upper = false
has_rs2 Jump = false

abbrev pub part : Bool → ℕ → ℕ
part has bits = if has then bits else 0

abbrev pub register_bits : Format → Base → ℕ
register_bits format b = part (has_rd format) (moved 0 5 7 b.rd) + part (has_rs1 format) (moved 0 5 15 b.rs1) + part (has_rs2 format) (moved 0 5 20 b.rs2)

-- the codes behind the opcode; a count of 6 bits takes the lowest bit of funct7
abbrev pub funct_bits : Format → Codes → ℕ
funct_bits Register c = moved 0 3 12 c.funct3 + moved 0 7 25 c.funct7
funct_bits Immediate c = moved 0 3 12 c.funct3
funct_bits Count6 c = moved 0 3 12 c.funct3 + moved 1 6 26 c.funct7
funct_bits Count5 c = moved 0 3 12 c.funct3 + moved 0 7 25 c.funct7
funct_bits Store c = moved 0 3 12 c.funct3
funct_bits Branch c = moved 0 3 12 c.funct3
funct_bits Upper c = 0
funct_bits Jump c = 0

-- the bits of a number, which is given in 64 bits, at their places
abbrev pub number_bits : Format → ℕ → ℕ
number_bits Register n = 0
number_bits Immediate n = moved 0 12 20 n
number_bits Count6 n = moved 0 6 20 n
number_bits Count5 n = moved 0 5 20 n
number_bits Store n = moved 0 5 7 n + moved 5 7 25 n
number_bits Branch n = moved 11 1 7 n + moved 1 4 8 n + moved 5 6 25 n + moved 12 1 31 n
number_bits Upper n = moved 0 20 12 n
number_bits Jump n = moved 12 8 12 n + moved 11 1 20 n + moved 1 10 21 n + moved 20 1 31 n

abbrev pub encode_as : Format → Codes → Base → ℕ → ℕ
encode_as format c b n =
    moved 0 7 0 c.opcode + register_bits format b + funct_bits format c + number_bits format n

abbrev pub encode : Base → ℕ
encode b = encode_as (codes_of b.op).format (codes_of b.op) b (cast_unsigned w64 b.imm)

-- ---- the instruction of a word

-- two's complement: a number that is at least half of the numbers there are stands for a negative one
abbrev pub signed_from : ℕ → ℕ → ℤ
signed_from half n = if nat_lt n half then pos n else pos n -ℤ pos (2 * half)

-- the number of a word in a format
abbrev pub number_in : Format → ℕ → ℤ
number_in Register word = pos 0
number_in Immediate word = signed_from (2 ^ 11) (moved 20 12 0 word)
number_in Count6 word = pos (moved 20 6 0 word)
number_in Count5 word = pos (moved 20 5 0 word)
number_in Store word = signed_from (2 ^ 11) (moved 7 5 0 word + moved 25 7 5 word)
number_in Branch word =
    signed_from (2 ^ 12) (moved 7 1 11 word + moved 8 4 1 word + moved 25 6 5 word + moved 31 1 12 word)
number_in Upper word = pos (moved 12 20 0 word)
number_in Jump word =
    signed_from (2 ^ 20) (moved 12 8 12 word + moved 20 1 11 word + moved 21 10 1 word + moved 31 1 20 word)

abbrev pub base_in : BaseOp → Format → ℕ → Base
base_in op format word = record {
  op = op;
  rd = part (has_rd format) (moved 7 5 0 word);
  rs1 = part (has_rs1 format) (moved 15 5 0 word);
  rs2 = part (has_rs2 format) (moved 20 5 0 word);
  imm = number_in format word;
}

-- the codes behind the opcode are those of a word
abbrev pub has_functs : Format → Codes → ℕ → Bool
has_functs Register c word = (moved 12 3 0 word == c.funct3) && (moved 25 7 0 word == c.funct7)
has_functs Immediate c word = moved 12 3 0 word == c.funct3
has_functs Count6 c word = (moved 12 3 0 word == c.funct3) && (moved 26 6 1 word == c.funct7)
has_functs Count5 c word = (moved 12 3 0 word == c.funct3) && (moved 25 7 0 word == c.funct7)
has_functs Store c word = moved 12 3 0 word == c.funct3
has_functs Branch c word = moved 12 3 0 word == c.funct3
has_functs Upper c word = true
has_functs Jump c word = true

abbrev pub has_codes : Codes → ℕ → Bool
has_codes c word = (moved 0 7 0 word == c.opcode) && has_functs c.format c word

-- the first instruction of some whose codes a word has
abbrev pub find_op : ℕ → List BaseOp → Option BaseOp
find_op word [] = None
find_op word (op ∷ ops) = if has_codes (codes_of op) word then Some op else find_op word ops

-- the base instruction of a word, or none where it is none of them
abbrev pub decode : ℕ → Option Base
decode word = option_map (λ op. base_in op (codes_of op).format word) (find_op word all_ops)

-- ---- which words are those of instructions

abbrev pub IsRegister : ℕ → Type 0
IsRegister reg = reg < 32

abbrev pub IsWithin : ℤ → ℤ → ℤ → Type 0
IsWithin least most number = (least ≤ℤ number) × (number ≤ℤ most)

-- an instruction's parts fit its format; a part that the format doesn't have is 0
abbrev pub Fits : Format → Base → Type 0
Fits Register b = IsRegister b.rd × IsRegister b.rs1 × IsRegister b.rs2 × (b.imm ≡ pos 0)
Fits Immediate b =
    IsRegister b.rd × IsRegister b.rs1 × (b.rs2 ≡ 0) × IsWithin (negsuc 2047) (pos 2047) b.imm
Fits Count6 b = IsRegister b.rd × IsRegister b.rs1 × (b.rs2 ≡ 0) × IsWithin (pos 0) (pos 63) b.imm
Fits Count5 b = IsRegister b.rd × IsRegister b.rs1 × (b.rs2 ≡ 0) × IsWithin (pos 0) (pos 31) b.imm
Fits Store b =
    (b.rd ≡ 0) × IsRegister b.rs1 × IsRegister b.rs2 × IsWithin (negsuc 2047) (pos 2047) b.imm
Fits Branch b =
    (b.rd ≡ 0) × IsRegister b.rs1 × IsRegister b.rs2 × (cast_unsigned w64 b.imm % 2 ≡ 0) × IsWithin (negsuc 4095) (pos 4094) b.imm
Fits Upper b = IsRegister b.rd × (b.rs1 ≡ 0) × (b.rs2 ≡ 0) × IsWithin (pos 0) (pos 1048575) b.imm
Fits Jump b =
    IsRegister b.rd × (b.rs1 ≡ 0) × (b.rs2 ≡ 0) × (cast_unsigned w64 b.imm % 2 ≡ 0) × IsWithin (negsuc 1048575) (pos 1048574) b.imm

abbrev pub FitsBase : Base → Type 0
FitsBase b = Fits (codes_of b.op).format b

-- a word is that of an instruction whose parts fit
pub record IsWordOf (word : ℕ) (b : Base) : Type 0 where
  pub fits : FitsBase b
  pub word_is : encode b ≡ word
