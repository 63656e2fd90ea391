-- Extensions go into operators on bits.
use Rattle.std.proofs.Common.{◌≡◌, ℕ, zero, suc, ◌+◌, ◌-◌, ◌*◌, ◌/◌, ◌%◌, ◌^◌, ◌<◌, sym, ◌∙◌, ap, arith, rules, bit_and, bit_or, bit_xor}
use Rattle.std.proofs.Math.Nat.{mod-lt}
use Rattle.std.proofs.lemmas.Nat.{and_block, or_block, xor_block, and_shr, or_shr, xor_shr, pow_pos}
use Rattle.std.specs.Int.Bits.{and_self, and_zero_l, or_self, xor_self, xor_zero_l}
use Rattle.bits64.specs.declared.Width.{Width}
use Rattle.bits64.specs.declared.Width.TheVariants.{W8, W16, W32, W64}
use Rattle.bits64.specs.Words.{sign_extended}
use Rattle.term_tree.specs.declared.head.Joint.{Joint}
use Rattle.term_tree.specs.declared.head.Joint.TheVariants.{Mul, And, Ior, Xor}
use Rattle.term_mean.specs.Joints.{join}
use Rattle.term_mean.proofs.JoinLaws.{OnBits, join-cut, join-comm}

join-block : (o : Joint) → OnBits o → (k a b r s : ℕ) → r < 2 ^ k → s < 2 ^ k → join o (a * 2 ^ k + r) (b * 2 ^ k + s) ≡ join o a b * 2 ^ k + join o r s
join-block Mul h = absurd h
join-block And h = and_block
join-block Ior h = or_block
join-block Xor h = xor_block

join-shr : (o : Joint) → OnBits o → (a b k : ℕ) → join o a b / 2 ^ k ≡ join o (a / 2 ^ k) (b / 2 ^ k)
join-shr Mul h = absurd h
join-shr And h = and_shr
join-shr Ior h = or_shr
join-shr Xor h = xor_shr

or_zero_l : (a : ℕ) → bit_or 0 a ≡ a
or_zero_l a = search rules

times_zero : (m : ℕ) → 0 * m ≡ 0
times_zero m = omega arith

spread_zero : (o : Joint) → OnBits o → (m u : ℕ) → join o (0 * m) (u * m) ≡ join o 0 u * m
spread_zero Mul h m u = absurd h
spread_zero And h m u = ap (λ x. bit_and x (u * m)) (times_zero m) ∙ and_zero_l (u * m) ∙ sym (times_zero m) ∙ ap (λ x. x * m) (sym (and_zero_l u))
spread_zero Ior h m u = ap (λ x. bit_or x (u * m)) (times_zero m) ∙ or_zero_l (u * m) ∙ ap (λ x. x * m) (sym (or_zero_l u))
spread_zero Xor h m u = ap (λ x. bit_xor x (u * m)) (times_zero m) ∙ xor_zero_l (u * m) ∙ ap (λ x. x * m) (sym (xor_zero_l u))

spread_one : (o : Joint) → OnBits o → (m : ℕ) → join o (1 * m) (1 * m) ≡ join o 1 1 * m
spread_one Mul h m = absurd h
spread_one And h m = and_self (1 * m) ∙ ap (λ x. x * m) (sym (and_self 1))
spread_one Ior h m = or_self (1 * m) ∙ ap (λ x. x * m) (sym (or_self 1))
spread_one Xor h m = xor_self (1 * m) ∙ sym (times_zero m) ∙ ap (λ x. x * m) (sym (xor_self 1))

-- numbers of one bit, spread over the same ones
join-spread : (o : Joint) → OnBits o → (m t u : ℕ) → t < 2 → u < 2 → join o (t * m) (u * m) ≡ join o t u * m
join-spread o b m zero u h g = spread_zero o b m u
join-spread o b m (suc zero) zero h g = join-comm o (1 * m) (0 * m) ∙ spread_zero o b m 1 ∙ ap (λ x. x * m) (join-comm o 0 1)
join-spread o b m (suc zero) (suc zero) h g = spread_one o b m
join-spread o b m (suc zero) (suc (suc u)) h g = absurd (omega arith)
join-spread o b m (suc (suc t)) u h g = absurd (omega arith)

-- the sign above, and the number below
abbrev extended_bits : ℕ → ℕ → ℕ → ℕ
extended_bits j k n = n / 2 ^ k % 2 * (2 ^ j - 1) * 2 ^ (k + 1) + n % 2 ^ (k + 1)

join-bit : (o : Joint) → OnBits o → (a b k : ℕ) → join o a b / 2 ^ k % 2 ≡ join o (a / 2 ^ k % 2) (b / 2 ^ k % 2)
join-bit o h a b k = ap (λ x. x % 2) (join-shr o h a b k) ∙ join-cut o h (a / 2 ^ k) (b / 2 ^ k) 1

join-extended : (o : Joint) → OnBits o → (j k a b : ℕ) → extended_bits j k (join o a b) ≡ join o (extended_bits j k a) (extended_bits j k b)
join-extended o h j k a b =
    let m : ℕ = 2 ^ j - 1 in
    let p : ℕ = a / 2 ^ k % 2 in
    let q : ℕ = b / 2 ^ k % 2 in
    let small = pow_pos (k + 1) in
    ap (λ x. x * m * 2 ^ (k + 1) + join o a b % 2 ^ (k + 1)) (join-bit o h a b k)
    ∙ ap (λ x. join o p q * m * 2 ^ (k + 1) + x) (join-cut o h a b (k + 1))
    ∙ ap (λ x. x * 2 ^ (k + 1) + join o (a % 2 ^ (k + 1)) (b % 2 ^ (k + 1))) (sym (join-spread o h m p q (omega arith) (omega arith)))
    ∙ sym (join-block o h (k + 1) (p * m) (q * m) (a % 2 ^ (k + 1)) (b % 2 ^ (k + 1)) (mod-lt a small) (mod-lt b small))

sign_extended-8 : (n : ℕ) → sign_extended W8 n ≡ n / 2 ^ 7 % 2 * (2 ^ 56 - 1) * 2 ^ 8 + n % 2 ^ 8
sign_extended-8 n = grind arith

sign_extended-16 : (n : ℕ) → sign_extended W16 n ≡ n / 2 ^ 15 % 2 * (2 ^ 48 - 1) * 2 ^ 16 + n % 2 ^ 16
sign_extended-16 n = grind arith

sign_extended-32 : (n : ℕ) → sign_extended W32 n ≡ n / 2 ^ 31 % 2 * (2 ^ 32 - 1) * 2 ^ 32 + n % 2 ^ 32
sign_extended-32 n = grind arith

sign_extended-64 : (n : ℕ) → sign_extended W64 n ≡ n % 2 ^ 64
sign_extended-64 n = grind arith

pub sign_extended-join : (v : Width) (o : Joint) → OnBits o → (a b : ℕ) → sign_extended v (join o a b) ≡ join o (sign_extended v a) (sign_extended v b)
sign_extended-join W8 o h a b = sign_extended-8 (join o a b) ∙ join-extended o h 56 7 a b ∙ ap (λ x. join o x (extended_bits 56 7 b)) (sym (sign_extended-8 a)) ∙ ap (join o (sign_extended W8 a)) (sym (sign_extended-8 b))
sign_extended-join W16 o h a b = sign_extended-16 (join o a b) ∙ join-extended o h 48 15 a b ∙ ap (λ x. join o x (extended_bits 48 15 b)) (sym (sign_extended-16 a)) ∙ ap (join o (sign_extended W16 a)) (sym (sign_extended-16 b))
sign_extended-join W32 o h a b = sign_extended-32 (join o a b) ∙ join-extended o h 32 31 a b ∙ ap (λ x. join o x (extended_bits 32 31 b)) (sym (sign_extended-32 a)) ∙ ap (join o (sign_extended W32 a)) (sym (sign_extended-32 b))
sign_extended-join W64 o h a b = sign_extended-64 (join o a b) ∙ join-cut o h a b 64 ∙ ap (λ x. join o x (b % 2 ^ 64)) (sym (sign_extended-64 a)) ∙ ap (join o (sign_extended W64 a)) (sym (sign_extended-64 b))
