-- `decode` is the inverse of `encode`.
use Rattle.std.proofs.Common.{◌≡◌, ℕ, ◌%◌, ◌^◌, ◌<◌, ◌==◌, nat_lt, true, Option, Some, None, option_map, refl, sym, ◌∙◌, ap, subst, arith}
use Rattle.std.specs.Int.{cast_unsigned, w64}
use Rattle.std.proofs.lemmas.Bool.Decides.{nat_tests}
use Rattle.rv_text.specs.Text.{Finds}
use Rattle.rv_word.specs.Table.{codes_of, all_ops}
use Rattle.rv_word.specs.Word.{moved, encode, decode, find_op, base_in, has_functs, FitsBase, IsWordOf}
use Rattle.rv_word.specs.declared.base.Base.{Base}
use Rattle.rv_word.specs.declared.base.BaseOp.{BaseOp}
use Rattle.rv_word.specs.declared.base.Codes.{Codes}
use Rattle.rv_word.specs.declared.base.Format.TheVariants.{Count6}
use Rattle.rv_word.proofs.Looked.{found, small, is_small, is_even_at}
use Rattle.rv_word.proofs.Back.{opcode_back, funct3_back, funct7_back, funct6_back, parts_back}
use Rattle.rv_word.proofs.Forth.{found_has, word_forth, parts_fit, both, equal}

less : (a b : ℕ) → nat_lt a b ≡ true → a < b
less a b is = grind (arith, nat_tests)

even : (c : Codes) → is_small c ≡ true → c.format ≡ Count6 → c.funct7 % 2 ≡ 0
even c is format =
    let behind = (both (nat_lt c.funct7 128) _ (both (nat_lt c.funct3 8) _ (both (nat_lt c.opcode 128) _ is).1).1).1 in
    equal (c.funct7 % 2) 0 (ap (λ f. is_even_at f c.funct7) (sym format) ∙ behind)

pub decode_encode : (b : Base) → FitsBase b → decode (encode b) ≡ Some b
decode_encode b fits =
    let c = codes_of b.op in
    let n = cast_unsigned w64 b.imm in
    let one = both (nat_lt c.opcode 128) _ (small b.op) in
    let two = both (nat_lt c.funct3 8) _ one.1 in
    let three = both (nat_lt c.funct7 128) _ two.1 in
    let op = found b.op (encode b) (opcode_back c.format c b n (less c.opcode 128 one.0)) (funct3_back c.format c b n (less c.funct3 8 two.0))
    (funct7_back c.format c b n (less c.funct7 128 three.0)) (funct6_back c.format c b n (less c.funct7 128 three.0) (even c (small b.op))) in
    ap (option_map (λ o. base_in o (codes_of o).format (encode b))) op ∙ ap Some (parts_back c.format c b fits)

abbrev base_of : ℕ → BaseOp → Base
base_of word op = base_in op (codes_of op).format word

is_word : (word : ℕ) (op : BaseOp) → word < 2 ^ 32 → find_op word all_ops ≡ Some op → IsWordOf word (base_of word op)
is_word word op fits is =
    let c = codes_of op in
    let has = both (moved 0 7 0 word == c.opcode) (has_functs c.format c word) (found_has word all_ops op is) in
    record { fits = parts_fit c.format op word; word_is = word_forth c.format c op word fits (equal (moved 0 7 0 word) c.opcode has.0) has.1 }

pub encode_decode : (word : ℕ) (b : Base) → word < 2 ^ 32 → decode word ≡ Some b → IsWordOf word b
encode_decode word b fits is = by (find_op word all_ops) refl is
  where
    by : (found : Option BaseOp) → find_op word all_ops ≡ found → option_map (base_of word) found ≡ Some b → IsWordOf word b
    by None e none = cc
    by (Some op) e some =
        let same : base_of word op ≡ b = cc in
        let P : Base → Type 0 = λ x. IsWordOf word x in
        subst P same (is_word word op fits e)

decodes : (word : ℕ) (b : Base) → IsWordOf word b → decode word ≡ Some b
decodes word b is = ap decode (sym is.word_is) ∙ decode_encode b is.fits

-- what decode gives is the one instruction whose word it is, and it gives none where there is none
pub decode_finds : (word : ℕ) (result : Option Base) → word < 2 ^ 32 → result ≡ decode word → Finds (IsWordOf word) result
decode_finds word None fits is = λ b of_word. let some = decodes word b of_word in cc
decode_finds word (Some b) fits is = (
  encode_decode word b fits (sym is),
  λ other of_word. let some = decodes word other of_word in cc,
)
