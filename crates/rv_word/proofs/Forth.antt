-- A word has the codes and the parts of the instruction that it is found to be, and no bits beside them.
use Rattle.std.proofs.Common.{◌≡◌, ℕ, pos, negsuc, ◌+◌, ◌-◌, ◌*◌, ◌/◌, ◌%◌, ◌^◌, ◌<◌, ◌≤◌, ◌==◌, ◌&&◌, nat_lt, Bool, true, false, if◌then◌else◌, List, [], ◌∷◌, Some, refl, sym, ◌∙◌, ap, arith}
use Rattle.std.specs.Prelude.{◌-ℤ◌, ◌≤ℤ◌}
use Rattle.std.specs.Int.{cast_unsigned, w64}
use Rattle.std.proofs.lemmas.Int.{ints}
use Rattle.std.proofs.lemmas.Bool.Decides.{nat_tests}
use Rattle.std.proofs.lemmas.Nat.{mod_below}
use Rattle.std.specs.Cmp.{unsigned_Decides}
use Rattle.rv_word.specs.Table.{codes_of}
use Rattle.rv_word.specs.Word.{moved, number_bits, encode_as, signed_from, number_in, base_in, has_functs, has_codes, find_op, Fits, IsWithin}
use Rattle.rv_word.specs.declared.base.BaseOp.{BaseOp}
use Rattle.rv_word.specs.declared.base.Codes.{Codes}
use Rattle.rv_word.specs.declared.base.Format.{Format}
use Rattle.rv_word.specs.declared.base.Format.TheVariants.{Register, Immediate, Count6, Count5, Store, Branch, Upper, Jump}
use Rattle.rv_word.proofs.Back.{gathered}

-- ---- what is found has the word's codes

by_codes : (word : ℕ) (next : BaseOp) (ops : List BaseOp) (op : BaseOp) → (find_op word ops ≡ Some op → has_codes (codes_of op) word ≡ true) → (t : Bool) → has_codes (codes_of next) word ≡ t →
    (if t then Some next else find_op word ops) ≡ Some op → has_codes (codes_of op) word ≡ true
by_codes word next ops op behind true e same = let is_next : next ≡ op = cc in ap (λ o. has_codes (codes_of o) word) (sym is_next) ∙ e
by_codes word next ops op behind false e more = behind more

pub found_has : (word : ℕ) (ops : List BaseOp) (op : BaseOp) → find_op word ops ≡ Some op → has_codes (codes_of op) word ≡ true
found_has word [] op is = cc
found_has word (next ∷ ops) op is = by_codes word next ops op (found_has word ops op) (has_codes (codes_of next) word) refl is

pub both : (a b : Bool) → (a && b) ≡ true → (a ≡ true) × (b ≡ true)
both true true is = (refl, refl)
both true false is = cc
both false b is = cc

pub equal : (a b : ℕ) → (a == b) ≡ true → a ≡ b
equal a b is = (unsigned_Decides a b).0 is

-- ---- the number

signed_is : (half m : ℕ) → m < 2 * half → 2 * half ≤ 2 ^ 21 → IsWithin (negsuc (half - 1)) (pos (half - 1)) (signed_from half m) × (signed_from half m ≡ (if nat_lt m half then pos m else negsuc (2 * half - m - 1)))
signed_is half m less bound = by (nat_lt m half) refl
  where
    by : (t : Bool) → nat_lt m half ≡ t → IsWithin (negsuc (half - 1)) (pos (half - 1)) (if t then pos m else pos m -ℤ pos (2 * half)) × ((if t then pos m else pos m -ℤ pos (2 * half)) ≡ (if t then pos m else negsuc (2 * half - m - 1)))
    by true e =
        let under : m < half = grind (arith, nat_tests) in
        ((omega (arith, ints), omega (arith, ints)), refl)
    by false e =
        let over : half ≤ m = grind (arith, nat_tests) in
        ((omega (arith, ints), omega (arith, ints)), omega (arith, ints))

bits12 : (m : ℕ) → m < 4096 → cast_unsigned w64 (signed_from 2048 m) % 4096 ≡ m
bits12 m less = ap (λ z. cast_unsigned w64 z % 4096) (signed_is 2048 m less (omega arith)).1 ∙ by (nat_lt m 2048) refl
  where
    by : (t : Bool) → nat_lt m 2048 ≡ t → cast_unsigned w64 (if t then pos m else negsuc (2 * 2048 - m - 1)) % 4096 ≡ m
    by true e = omega arith
    by false e = let over : 2048 ≤ m = grind (arith, nat_tests) in omega arith

bits13 : (m : ℕ) → m < 8192 → cast_unsigned w64 (signed_from 4096 m) % 8192 ≡ m
bits13 m less = ap (λ z. cast_unsigned w64 z % 8192) (signed_is 4096 m less (omega arith)).1 ∙ by (nat_lt m 4096) refl
  where
    by : (t : Bool) → nat_lt m 4096 ≡ t → cast_unsigned w64 (if t then pos m else negsuc (2 * 4096 - m - 1)) % 8192 ≡ m
    by true e = omega arith
    by false e = let over : 4096 ≤ m = grind (arith, nat_tests) in omega arith

bits21 : (m : ℕ) → m < 2097152 → cast_unsigned w64 (signed_from 1048576 m) % 2097152 ≡ m
bits21 m less = ap (λ z. cast_unsigned w64 z % 2097152) (signed_is 1048576 m less (omega arith)).1 ∙ by (nat_lt m 1048576) refl
  where
    by : (t : Bool) → nat_lt m 1048576 ≡ t → cast_unsigned w64 (if t then pos m else negsuc (2 * 1048576 - m - 1)) % 2097152 ≡ m
    by true e = omega arith
    by false e = let over : 1048576 ≤ m = grind (arith, nat_tests) in omega arith

only_immediate : (n m : ℕ) → n % 4096 ≡ m → number_bits Immediate n ≡ number_bits Immediate m
only_immediate n m is = omega arith

only_count6 : (n m : ℕ) → n % 64 ≡ m → number_bits Count6 n ≡ number_bits Count6 m
only_count6 n m is = omega arith

only_count5 : (n m : ℕ) → n % 32 ≡ m → number_bits Count5 n ≡ number_bits Count5 m
only_count5 n m is = omega arith

only_store : (n m : ℕ) → n % 4096 ≡ m → number_bits Store n ≡ number_bits Store m
only_store n m is = omega arith

only_branch : (n m : ℕ) → n % 8192 ≡ m → number_bits Branch n ≡ number_bits Branch m
only_branch n m is = omega arith

only_upper : (n m : ℕ) → n % 1048576 ≡ m → number_bits Upper n ≡ number_bits Upper m
only_upper n m is = omega arith

only_jump : (n m : ℕ) → n % 2097152 ≡ m → number_bits Jump n ≡ number_bits Jump m
only_jump n m is = omega arith

-- the bits of a word's number are those of the word
number_immediate : (word : ℕ) → number_bits Immediate (cast_unsigned w64 (number_in Immediate word)) ≡ number_bits Immediate (gathered Immediate word)
number_immediate word = only_immediate (cast_unsigned w64 (number_in Immediate word)) (gathered Immediate word) (bits12 (gathered Immediate word) (omega arith))

number_count6 : (word : ℕ) → number_bits Count6 (cast_unsigned w64 (number_in Count6 word)) ≡ number_bits Count6 (gathered Count6 word)
number_count6 word = refl

number_count5 : (word : ℕ) → number_bits Count5 (cast_unsigned w64 (number_in Count5 word)) ≡ number_bits Count5 (gathered Count5 word)
number_count5 word = refl

number_store : (word : ℕ) → number_bits Store (cast_unsigned w64 (number_in Store word)) ≡ number_bits Store (gathered Store word)
number_store word = only_store (cast_unsigned w64 (number_in Store word)) (gathered Store word) (bits12 (gathered Store word) (omega arith))

number_branch : (word : ℕ) → number_bits Branch (cast_unsigned w64 (number_in Branch word)) ≡ number_bits Branch (gathered Branch word)
number_branch word = only_branch (cast_unsigned w64 (number_in Branch word)) (gathered Branch word) (bits13 (gathered Branch word) (omega arith))

number_upper : (word : ℕ) → number_bits Upper (cast_unsigned w64 (number_in Upper word)) ≡ number_bits Upper (gathered Upper word)
number_upper word = refl

number_jump : (word : ℕ) → number_bits Jump (cast_unsigned w64 (number_in Jump word)) ≡ number_bits Jump (gathered Jump word)
number_jump word = only_jump (cast_unsigned w64 (number_in Jump word)) (gathered Jump word) (bits21 (gathered Jump word) (omega arith))

again_branch : (word : ℕ) → number_bits Branch (gathered Branch word) ≡ moved 7 1 7 word + moved 8 4 8 word + moved 25 6 25 word + moved 31 1 31 word
again_branch word = omega arith

again_jump : (word : ℕ) → number_bits Jump (gathered Jump word) ≡ moved 12 8 12 word + moved 20 1 20 word + moved 21 10 21 word + moved 31 1 31 word
again_jump word = omega arith

-- ---- the word

pub word_forth : (f : Format) (c : Codes) (op : BaseOp) (word : ℕ) → word < 2 ^ 32 → moved 0 7 0 word ≡ c.opcode → has_functs f c word ≡ true → encode_as f c (base_in op f word) (cast_unsigned w64 (number_in f word)) ≡ word
word_forth Register c op word fits o has =
    let parts = both (moved 12 3 0 word == c.funct3) (moved 25 7 0 word == c.funct7) has in
    let three = equal (moved 12 3 0 word) c.funct3 parts.0 in
    let seven = equal (moved 25 7 0 word) c.funct7 parts.1 in
    omega arith
word_forth Immediate c op word fits o has =
    let three = equal (moved 12 3 0 word) c.funct3 has in
    let number = number_immediate word in
    omega arith
word_forth Count6 c op word fits o has =
    let parts = both (moved 12 3 0 word == c.funct3) (moved 26 6 1 word == c.funct7) has in
    let three = equal (moved 12 3 0 word) c.funct3 parts.0 in
    let seven = equal (moved 26 6 1 word) c.funct7 parts.1 in
    let number = number_count6 word in
    omega arith
word_forth Count5 c op word fits o has =
    let parts = both (moved 12 3 0 word == c.funct3) (moved 25 7 0 word == c.funct7) has in
    let three = equal (moved 12 3 0 word) c.funct3 parts.0 in
    let seven = equal (moved 25 7 0 word) c.funct7 parts.1 in
    let number = number_count5 word in
    omega arith
word_forth Store c op word fits o has =
    let three = equal (moved 12 3 0 word) c.funct3 has in
    let number = number_store word in
    omega arith
word_forth Branch c op word fits o has =
    let three = equal (moved 12 3 0 word) c.funct3 has in
    let number = number_branch word ∙ again_branch word in
    omega arith
word_forth Upper c op word fits o has =
    let number = number_upper word in
    omega arith
word_forth Jump c op word fits o has =
    let number = number_jump word ∙ again_jump word in
    omega arith

-- ---- its parts fit

registers_fit : (place word : ℕ) → moved place 5 0 word < 32
registers_fit place word = omega (arith, mod_below (word / 2 ^ place) 32 (omega arith))

even13 : (m : ℕ) → m < 8192 → m % 2 ≡ 0 → (cast_unsigned w64 (signed_from 4096 m) % 2 ≡ 0) × IsWithin (negsuc 4095) (pos 4094) (signed_from 4096 m)
even13 m less even =
    let same = bits13 m less in
    let within = (signed_is 4096 m less (omega arith)).0 in
    (omega arith, (within.0, by (nat_lt m 4096) refl))
  where
    by : (t : Bool) → nat_lt m 4096 ≡ t → (if t then pos m else pos m -ℤ pos (2 * 4096)) ≤ℤ pos 4094
    by true e = let under : m < 4096 = grind (arith, nat_tests) in omega (arith, ints)
    by false e = omega (arith, ints)

even21 : (m : ℕ) → m < 2097152 → m % 2 ≡ 0 → (cast_unsigned w64 (signed_from 1048576 m) % 2 ≡ 0) × IsWithin (negsuc 1048575) (pos 1048574) (signed_from 1048576 m)
even21 m less even =
    let same = bits21 m less in
    let within = (signed_is 1048576 m less (omega arith)).0 in
    (omega arith, (within.0, by (nat_lt m 1048576) refl))
  where
    by : (t : Bool) → nat_lt m 1048576 ≡ t → (if t then pos m else pos m -ℤ pos (2 * 1048576)) ≤ℤ pos 1048574
    by true e = let under : m < 1048576 = grind (arith, nat_tests) in omega (arith, ints)
    by false e = omega (arith, ints)

pub parts_fit : (f : Format) (op : BaseOp) (word : ℕ) → Fits f (base_in op f word)
parts_fit Register op word = (registers_fit 7 word, registers_fit 15 word, registers_fit 20 word, refl)
parts_fit Immediate op word = (registers_fit 7 word, registers_fit 15 word, refl, (signed_is 2048 (gathered Immediate word) (omega arith) (omega arith)).0)
parts_fit Count6 op word = (registers_fit 7 word, registers_fit 15 word, refl, (omega (arith, ints), omega (arith, ints)))
parts_fit Count5 op word = (registers_fit 7 word, registers_fit 15 word, refl, (omega (arith, ints), omega (arith, ints)))
parts_fit Store op word = (refl, registers_fit 15 word, registers_fit 20 word, (signed_is 2048 (gathered Store word) (omega arith) (omega arith)).0)
parts_fit Branch op word =
    let even = even13 (gathered Branch word) (omega arith) (omega arith) in
    (refl, registers_fit 15 word, registers_fit 20 word, even.0, even.1)
parts_fit Upper op word = (registers_fit 7 word, refl, refl, (omega (arith, ints), omega (arith, ints)))
parts_fit Jump op word =
    let even = even21 (gathered Jump word) (omega arith) (omega arith) in
    (registers_fit 7 word, refl, refl, even.0, even.1)
