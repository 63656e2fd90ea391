-- What the word of an instruction has at the places of its parts.
use Rattle.std.proofs.Common.{◌≡◌, ℕ, ℤ, pos, negsuc, ◌+◌, ◌*◌, ◌%◌, ◌<◌, ◌≤◌, nat_lt, Bool, true, false, if◌then◌else◌, refl, sym, ◌∙◌, ap, arith}
use Rattle.std.specs.Prelude.{◌-ℤ◌, ◌≤ℤ◌}
use Rattle.std.specs.Int.{cast_unsigned, w64}
use Rattle.std.proofs.lemmas.Int.{ints}
use Rattle.std.proofs.lemmas.Bool.Decides.{nat_tests}
use Rattle.std.proofs.Math.Nat.{mod-eq_of_lt}
use Rattle.rv_word.specs.Word.{moved, has_rd, has_rs1, has_rs2, part, encode_as, signed_from, number_in, base_in, Fits, IsWithin}
use Rattle.rv_word.specs.declared.base.Base.{Base}
use Rattle.rv_word.specs.declared.base.Codes.{Codes}
use Rattle.rv_word.specs.declared.base.Format.{Format}
use Rattle.rv_word.specs.declared.base.Format.TheVariants.{Register, Immediate, Count6, Count5, Store, Branch, Upper, Jump}
use Rattle.rv_word.proofs.Looked.{third, seventh, sixth}

-- ---- the codes

pub opcode_back : (f : Format) (c : Codes) (b : Base) (n : ℕ) → c.opcode < 128 → moved 0 7 0 (encode_as f c b n) ≡ c.opcode
opcode_back Register c b n small = omega arith
opcode_back Immediate c b n small = omega arith
opcode_back Count6 c b n small = omega arith
opcode_back Count5 c b n small = omega arith
opcode_back Store c b n small = omega arith
opcode_back Branch c b n small = omega arith
opcode_back Upper c b n small = omega arith
opcode_back Jump c b n small = omega arith

pub funct3_back : (f : Format) (c : Codes) (b : Base) (n : ℕ) → c.funct3 < 8 → moved 12 3 0 (encode_as f c b n) ≡ third f c (moved 12 3 0 (encode_as f c b n))
funct3_back Register c b n small = omega arith
funct3_back Immediate c b n small = omega arith
funct3_back Count6 c b n small = omega arith
funct3_back Count5 c b n small = omega arith
funct3_back Store c b n small = omega arith
funct3_back Branch c b n small = omega arith
funct3_back Upper c b n small = refl
funct3_back Jump c b n small = refl

pub funct7_back : (f : Format) (c : Codes) (b : Base) (n : ℕ) → c.funct7 < 128 → moved 25 7 0 (encode_as f c b n) ≡ seventh f c (moved 25 7 0 (encode_as f c b n))
funct7_back Register c b n small = omega arith
funct7_back Immediate c b n small = refl
funct7_back Count6 c b n small = refl
funct7_back Count5 c b n small = omega arith
funct7_back Store c b n small = refl
funct7_back Branch c b n small = refl
funct7_back Upper c b n small = refl
funct7_back Jump c b n small = refl

pub funct6_back : (f : Format) (c : Codes) (b : Base) (n : ℕ) → c.funct7 < 128 → (f ≡ Count6 → c.funct7 % 2 ≡ 0) → moved 26 6 1 (encode_as f c b n) ≡ sixth f c (moved 26 6 1 (encode_as f c b n))
funct6_back Register c b n small even = refl
funct6_back Immediate c b n small even = refl
funct6_back Count6 c b n small even = (let twice : c.funct7 % 2 ≡ 0 = even refl in omega arith)
funct6_back Count5 c b n small even = refl
funct6_back Store c b n small even = refl
funct6_back Branch c b n small even = refl
funct6_back Upper c b n small even = refl
funct6_back Jump c b n small even = refl

-- ---- the registers

rd_back : (f : Format) (c : Codes) (b : Base) (n : ℕ) → Fits f b → part (has_rd f) (moved 7 5 0 (encode_as f c b n)) ≡ b.rd
rd_back Register c b n fits = (let small : b.rd < 32 = fits.0 in omega arith)
rd_back Immediate c b n fits = (let small : b.rd < 32 = fits.0 in omega arith)
rd_back Count6 c b n fits = (let small : b.rd < 32 = fits.0 in omega arith)
rd_back Count5 c b n fits = (let small : b.rd < 32 = fits.0 in omega arith)
rd_back Store c b n fits = sym fits.0
rd_back Branch c b n fits = sym fits.0
rd_back Upper c b n fits = (let small : b.rd < 32 = fits.0 in omega arith)
rd_back Jump c b n fits = (let small : b.rd < 32 = fits.0 in omega arith)

rs1_back : (f : Format) (c : Codes) (b : Base) (n : ℕ) → Fits f b → part (has_rs1 f) (moved 15 5 0 (encode_as f c b n)) ≡ b.rs1
rs1_back Register c b n fits = (let small : b.rs1 < 32 = fits.1 in omega arith)
rs1_back Immediate c b n fits = (let small : b.rs1 < 32 = fits.1 in omega arith)
rs1_back Count6 c b n fits = (let small : b.rs1 < 32 = fits.1 in omega arith)
rs1_back Count5 c b n fits = (let small : b.rs1 < 32 = fits.1 in omega arith)
rs1_back Store c b n fits = (let small : b.rs1 < 32 = fits.1 in omega arith)
rs1_back Branch c b n fits = (let small : b.rs1 < 32 = fits.1 in omega arith)
rs1_back Upper c b n fits = sym fits.1
rs1_back Jump c b n fits = sym fits.1

rs2_back : (f : Format) (c : Codes) (b : Base) (n : ℕ) → Fits f b → part (has_rs2 f) (moved 20 5 0 (encode_as f c b n)) ≡ b.rs2
rs2_back Register c b n fits = (let small : b.rs2 < 32 = fits.2 in omega arith)
rs2_back Immediate c b n fits = sym fits.2
rs2_back Count6 c b n fits = sym fits.2
rs2_back Count5 c b n fits = sym fits.2
rs2_back Store c b n fits = (let small : b.rs2 < 32 = fits.2 in omega arith)
rs2_back Branch c b n fits = (let small : b.rs2 < 32 = fits.2 in omega arith)
rs2_back Upper c b n fits = sym fits.2
rs2_back Jump c b n fits = sym fits.2

-- ---- the number

signed_pos : (half a : ℕ) → a < half → signed_from half a ≡ pos a
signed_pos half a less = grind (arith, nat_tests)

signed_neg : (half a m : ℕ) → a < half → m + a + 1 ≡ 2 * half → signed_from half m ≡ negsuc a
signed_neg half a m less is = by (nat_lt m half) refl
  where
    by : (t : Bool) → nat_lt m half ≡ t → (if t then pos m else pos m -ℤ pos (2 * half)) ≡ negsuc a
    by true e = absurd (grind (arith, nat_tests))
    by false e = omega (arith, ints)

residue12 : (imm : ℤ) (m : ℕ) → IsWithin (negsuc 2047) (pos 2047) imm → m ≡ cast_unsigned w64 imm % 4096 → signed_from 2048 m ≡ imm
residue12 (pos a) m within is =
    let most : a < 2048 = omega (arith, ints, within.1) in
    let same : m ≡ a = omega arith in
    ap (signed_from 2048) same ∙ signed_pos 2048 a most
residue12 (negsuc a) m within is =
    let least : a < 2048 = omega (arith, ints, within.0) in
    signed_neg 2048 a m least (omega arith)

residue13 : (imm : ℤ) (m : ℕ) → IsWithin (negsuc 4095) (pos 4095) imm → m ≡ cast_unsigned w64 imm % 8192 → signed_from 4096 m ≡ imm
residue13 (pos a) m within is =
    let most : a < 4096 = omega (arith, ints, within.1) in
    let same : m ≡ a = omega arith in
    ap (signed_from 4096) same ∙ signed_pos 4096 a most
residue13 (negsuc a) m within is =
    let least : a < 4096 = omega (arith, ints, within.0) in
    signed_neg 4096 a m least (omega arith)

residue21 : (imm : ℤ) (m : ℕ) → IsWithin (negsuc 1048575) (pos 1048575) imm → m ≡ cast_unsigned w64 imm % 2097152 → signed_from 1048576 m ≡ imm
residue21 (pos a) m within is =
    let most : a < 1048576 = omega (arith, ints, within.1) in
    let same : m ≡ a = omega arith in
    ap (signed_from 1048576) same ∙ signed_pos 1048576 a most
residue21 (negsuc a) m within is =
    let least : a < 1048576 = omega (arith, ints, within.0) in
    signed_neg 1048576 a m least (omega arith)

plain : (most : ℕ) (imm : ℤ) (m : ℕ) → IsWithin (pos 0) (pos most) imm → m ≡ cast_unsigned w64 imm % (most + 1) → pos m ≡ imm
plain most (pos a) m within is =
    let less : a < most + 1 = omega (arith, ints, within.1) in
    let same : m ≡ a = is ∙ mod-eq_of_lt less in
    ap pos same
plain most (negsuc a) m within is = absurd (omega (arith, ints, within.0))

abbrev pub gathered : Format → ℕ → ℕ
gathered Register word = 0
gathered Immediate word = moved 20 12 0 word
gathered Count6 word = moved 20 6 0 word
gathered Count5 word = moved 20 5 0 word
gathered Store word = moved 7 5 0 word + moved 25 7 5 word
gathered Branch word = moved 7 1 11 word + moved 8 4 1 word + moved 25 6 5 word + moved 31 1 12 word
gathered Upper word = moved 12 20 0 word
gathered Jump word = moved 12 8 12 word + moved 20 1 11 word + moved 21 10 1 word + moved 31 1 20 word

gathered_immediate : (c : Codes) (b : Base) (n : ℕ) → gathered Immediate (encode_as Immediate c b n) ≡ n % 4096
gathered_immediate c b n = omega arith

gathered_count6 : (c : Codes) (b : Base) (n : ℕ) → gathered Count6 (encode_as Count6 c b n) ≡ n % 64
gathered_count6 c b n = omega arith

gathered_count5 : (c : Codes) (b : Base) (n : ℕ) → gathered Count5 (encode_as Count5 c b n) ≡ n % 32
gathered_count5 c b n = omega arith

gathered_store : (c : Codes) (b : Base) (n : ℕ) → gathered Store (encode_as Store c b n) ≡ n % 4096
gathered_store c b n = omega arith

gathered_branch : (c : Codes) (b : Base) (n : ℕ) → n % 2 ≡ 0 → gathered Branch (encode_as Branch c b n) ≡ n % 8192
gathered_branch c b n even = omega arith

gathered_upper : (c : Codes) (b : Base) (n : ℕ) → gathered Upper (encode_as Upper c b n) ≡ n % 1048576
gathered_upper c b n = omega arith

gathered_jump : (c : Codes) (b : Base) (n : ℕ) → n % 2 ≡ 0 → gathered Jump (encode_as Jump c b n) ≡ n % 2097152
gathered_jump c b n even = omega arith

within_more : (a b : ℕ) (imm : ℤ) → imm ≤ℤ pos a → a ≤ b → imm ≤ℤ pos b
within_more a b imm most less = omega (arith, ints)

pub number_back : (f : Format) (c : Codes) (b : Base) → Fits f b → number_in f (encode_as f c b (cast_unsigned w64 b.imm)) ≡ b.imm
number_back Register c b fits = sym fits.3
number_back Immediate c b fits = residue12 b.imm _ fits.3 (gathered_immediate c b (cast_unsigned w64 b.imm))
number_back Count6 c b fits = plain 63 b.imm _ fits.3 (gathered_count6 c b (cast_unsigned w64 b.imm))
number_back Count5 c b fits = plain 31 b.imm _ fits.3 (gathered_count5 c b (cast_unsigned w64 b.imm))
number_back Store c b fits = residue12 b.imm _ fits.3 (gathered_store c b (cast_unsigned w64 b.imm))
number_back Branch c b fits = residue13 b.imm _ (fits.4.0, within_more 4094 4095 b.imm fits.4.1 (omega arith)) (gathered_branch c b (cast_unsigned w64 b.imm) fits.3)
number_back Upper c b fits = plain 1048575 b.imm _ fits.3 (gathered_upper c b (cast_unsigned w64 b.imm))
number_back Jump c b fits = residue21 b.imm _ (fits.4.0, within_more 1048574 1048575 b.imm fits.4.1 (omega arith)) (gathered_jump c b (cast_unsigned w64 b.imm) fits.3)

-- an instruction whose parts fit is that of its word
pub parts_back : (f : Format) (c : Codes) (b : Base) → Fits f b → base_in b.op f (encode_as f c b (cast_unsigned w64 b.imm)) ≡ b
parts_back f c b fits =
    let n = cast_unsigned w64 b.imm in
    let rd = rd_back f c b n fits in
    let rs1 = rs1_back f c b n fits in
    let rs2 = rs2_back f c b n fits in
    let imm = number_back f c b fits in
    λ i. record { op = b.op; rd = rd i; rs1 = rs1 i; rs2 = rs2 i; imm = imm i }
