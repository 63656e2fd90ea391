-- What and, or and exclusive or mean.
use Rattle.std.proofs.Common.{◌≡◌, ℕ, ◌+◌, ◌%◌, ◌^◌, refl, sym, ◌∙◌, ap, arith, List, [], ◌∷◌, bit_and, bit_or, bit_xor}
use Rattle.std.proofs.lemmas.Nat.{and_comm, or_comm, xor_comm, and_assoc, and_mod, or_mod, xor_mod}
use Rattle.std.proofs.lemmas.Nat.Bits.{same_from_bits, bit_at_or, bit_at_and}
use Rattle.std.specs.Int.Bits.{xor_assoc, xor_self, xor_zero_l}
use Rattle.std.specs.declared.cmp.Ordering.{Ordering}
use Rattle.std.specs.declared.cmp.Ordering.TheVariants.{Less, Equal, Greater}
use Rattle.bits64.specs.declared.Width.{Width}
use Rattle.bits64.specs.Words.{bits_of, low}
use Rattle.term_tree.specs.declared.head.Joint.{Joint}
use Rattle.term_tree.specs.declared.head.Joint.TheVariants.{Mul, And, Ior, Xor}
use Rattle.term_tree.specs.Tree.{Tree, trees_of}
use Rattle.term_mean.specs.Meaning.{Valuation, mean, values, over_all}
use Rattle.term_tree.specs.Order.{tree_cmp}
use Rattle.term_mean.specs.Joints.{join, start, met, put, with_part, Joined}
use Rattle.term_tree.proofs.OrderLaws.{tree_cmp-equal}

pub join-comm : (o : Joint) (a b : ℕ) → join o a b ≡ join o b a
join-comm Mul a b = omega arith
join-comm And a b = and_comm a b
join-comm Ior a b = or_comm a b
join-comm Xor a b = xor_comm a b

or_assoc : (a b c : ℕ) → bit_or (bit_or a b) c ≡ bit_or a (bit_or b c)
or_assoc a b c = same_from_bits _ _ (λ i.
    let p = bit_at_or (bit_or a b) c i in
    let q = bit_at_or a b i in
    let r = bit_at_or a (bit_or b c) i in
    let s = bit_at_or b c i in
    omega arith)

pub join-assoc : (o : Joint) (a b c : ℕ) → join o (join o a b) c ≡ join o a (join o b c)
join-assoc Mul a b c = omega arith
join-assoc And a b c = and_assoc c a b
join-assoc Ior a b c = or_assoc a b c
join-assoc Xor a b c = xor_assoc a b c

and_self : (a : ℕ) → bit_and a a ≡ a
and_self a = same_from_bits _ _ (λ i. omega (arith, bit_at_and a a i))

or_self : (a : ℕ) → bit_or a a ≡ a
or_self a = same_from_bits _ _ (λ i. omega (arith, bit_at_or a a i))

-- an operator on bits
abbrev pub OnBits : Joint → Type 0
OnBits Mul = ⊥
OnBits And = Unit {0}
OnBits Ior = Unit {0}
OnBits Xor = Unit {0}

pub join-cut : (o : Joint) → OnBits o → (a b k : ℕ) → join o a b % 2 ^ k ≡ join o (a % 2 ^ k) (b % 2 ^ k)
join-cut Mul h a b k = absurd h
join-cut And h a b k = and_mod a b k
join-cut Ior h a b k = or_mod a b k
join-cut Xor h a b k = xor_mod a b k

-- the number of parts joined, before it is cut
abbrev pub folded : Valuation → Joint → List Tree → ℕ
folded v o ts = over_all (join o) (start o) (values v (trees_of ts))

-- two numbers and a rest, in the other order
pub join-swap : (o : Joint) (a b c : ℕ) → join o a (join o b c) ≡ join o b (join o a c)
join-swap o a b c = sym (join-assoc o a b c) ∙ ap (λ n. join o n c) (join-comm o a b) ∙ join-assoc o b a c

-- the same part again
folded-met : (v : Valuation) (o : Joint) (t u : Tree) (ts : List Tree) → t ≡ u → folded v o (met o t u ts) ≡ join o (mean v t) (folded v o (u ∷ ts))
folded-met v Mul t u ts e = refl
folded-met v And t u ts e =
    ap (λ n. bit_and n (folded v And ts)) (sym (and_self (mean v u))) ∙ join-assoc And (mean v u) (mean v u) (folded v And ts) ∙ ap (λ x. bit_and (mean v x) (folded v And (u ∷ ts))) (sym e)
folded-met v Ior t u ts e =
    ap (λ n. bit_or n (folded v Ior ts)) (sym (or_self (mean v u))) ∙ join-assoc Ior (mean v u) (mean v u) (folded v Ior ts) ∙ ap (λ x. bit_or (mean v x) (folded v Ior (u ∷ ts))) (sym e)
folded-met v Xor t u ts e =
    sym (xor_zero_l (folded v Xor ts)) ∙ ap (λ n. bit_xor n (folded v Xor ts)) (sym (xor_self (mean v u))) ∙ join-assoc Xor (mean v u) (mean v u) (folded v Xor ts) ∙ ap (λ x. bit_xor (mean v x) (folded v Xor (u ∷ ts))) (sym e)

pub folded-with_part : (v : Valuation) (o : Joint) (t : Tree) (ts : List Tree) → folded v o (with_part o t ts) ≡ join o (mean v t) (folded v o ts)
folded-with_part v o t [] = refl
folded-with_part v o t (u ∷ ts) = go (tree_cmp t u) refl (folded-with_part v o t ts)
  where
    go : (r : Ordering) → tree_cmp t u ≡ r → folded v o (with_part o t ts) ≡ join o (mean v t) (folded v o ts) → folded v o (put o r t u ts (with_part o t ts)) ≡ join o (mean v t) (join o (mean v u) (folded v o ts))
    go Less e ih = refl
    go Equal e ih = folded-met v o t u ts (tree_cmp-equal t u e)
    go Greater e ih = ap (join o (mean v u)) ih ∙ join-swap o (mean v u) (mean v t) (folded v o ts)

-- the number of a constant and parts
abbrev pub total : Valuation → Joint → Joined → ℕ
total v o j = join o j.constant (folded v o j.parts)

pub low_plus_zero : (w : Width) (c : ℕ) → low w (c + 0) ≡ low w c
low_plus_zero w c = ap (λ n. n % 2 ^ bits_of w) (omega arith)

-- all parts, onto a number
abbrev pub onto : Valuation → Joint → List Tree → ℕ → ℕ
onto v o ts n = over_all (join o) n (values v (trees_of ts))

pub onto-swap : (v : Valuation) (o : Joint) (a : ℕ) (ts : List Tree) (n : ℕ) → onto v o ts (join o a n) ≡ join o a (onto v o ts n)
onto-swap v o a [] n = refl
onto-swap v o a (t ∷ ts) n = ap (join o (mean v t)) (onto-swap v o a ts n) ∙ join-swap o (mean v t) a (onto v o ts n)
