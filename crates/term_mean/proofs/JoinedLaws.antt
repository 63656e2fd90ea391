-- What a flattened, sorted and joined operator means.
use Rattle.std.proofs.Common.{◌≡◌, ℕ, ◌+◌, ◌-◌, ◌*◌, ◌%◌, ◌^◌, ◌<◌, refl, sym, ◌∙◌, ap, arith, rules, cond, eqb, Bool, true, false, ◌&&◌, List, [], ◌∷◌, ◌++◌, bit_and, bit_or}
use Rattle.std.proofs.Math.Nat.{mod-mod, mod-lt, mod-eq_of_lt}
use Rattle.std.proofs.lemmas.Nat.{and_comm, and_mask, pow_pos}
use Rattle.std.proofs.lemmas.Nat.Bits.{same_from_bits_below, bit_at_or, bit_at_ones, bit_at-lt}
use Rattle.std.proofs.lemmas.Nat.{or_lt, and_mod, or_mod, xor_mod}
use Rattle.term_mean.proofs.Modulo.{same-mul}
use Rattle.std.specs.Int.Bits.{xor_zero_l, and_zero_l}
use Rattle.bits64.specs.declared.Width.{Width}
use Rattle.bits64.specs.declared.Width.TheVariants.{W8, W16, W32, W64}
use Rattle.bits64.specs.Words.{bits_of, low}
use Rattle.term_tree.specs.declared.head.Joint.{Joint}
use Rattle.term_tree.specs.declared.head.Joint.TheVariants.{Mul, And, Ior, Xor}
use Rattle.term_tree.specs.Tree.{Tree, Trees, Sum, Node, no_atoms, atom, no_trees, tree, width_of, list_of, trees_of}
use Rattle.term_mean.specs.Meaning.{Valuation, mean, values, over_all, Value}
use Rattle.term_tree.specs.Order.{head_index}
use Rattle.term_mean.specs.Sums.{constant}
use Rattle.term_tree.specs.Form.{same_width}
use Rattle.term_mean.specs.Joints.{head_of, join, start, absorbs, with_part, join_constants, Joined, take_part, take_parts, take_all, flat, node_of, plain, with_constant, finished, joined, flat_node, flat_factor}
use Rattle.term_tree.proofs.OrderLaws.{same_width-true, same_head, eqb-true}
use Rattle.term_mean.proofs.SumLaws.{mean-constant, mean-cut, mean-times}
use Rattle.term_mean.proofs.JoinLaws.{join-comm, join-assoc, folded, onto, onto-swap, folded-with_part, join-swap, low_plus_zero, total}

pub same-join : (o : Joint) (k a a' b b' : ℕ) → a % 2 ^ k ≡ a' % 2 ^ k → b % 2 ^ k ≡ b' % 2 ^ k → join o a b % 2 ^ k ≡ join o a' b' % 2 ^ k
same-join Mul k a a' b b' p q = same-mul (2 ^ k) a a' b b' p q
same-join And k a a' b b' p q =
    let e = and_mod a b k in
    let f = and_mod a' b' k in
    cc
same-join Ior k a a' b b' p q =
    let e = or_mod a b k in
    let f = or_mod a' b' k in
    cc
same-join Xor k a a' b b' p q =
    let e = xor_mod a b k in
    let f = xor_mod a' b' k in
    cc

-- 64 bits cut to a width, cut again
cut_twice : (w : Width) (n : ℕ) → n % 2 ^ 64 % 2 ^ bits_of w ≡ n % 2 ^ bits_of w
cut_twice W8 n = omega arith
cut_twice W16 n = omega arith
cut_twice W32 n = omega arith
cut_twice W64 n = mod-mod n (2 ^ 64)

pub join-start : (o : Joint) (w : Width) (n : ℕ) → low w (join o (start o) n) ≡ low w n
join-start Mul w n = ap (low w) (one n)
  where
    one : (a : ℕ) → 1 * a ≡ a
    one a = omega arith
join-start And w n = ap (low w) (and_comm (2 ^ 64 - 1) n ∙ and_mask n 64) ∙ cut_twice w n
join-start Ior w n = ap (low w) (or_zero n)
  where
    or_zero : (a : ℕ) → bit_or 0 a ≡ a
    or_zero a = search rules
join-start Xor w n = ap (low w) (xor_zero_l n)

-- onto any number is onto the start, and that number
pub onto-start : (o : Joint) (w : Width) (n : ℕ) (xs : List Value) → low w (over_all (join o) n xs) ≡ low w (join o (over_all (join o) (start o) xs) n)
onto-start o w n [] = sym (join-start o w n)
onto-start o w n (x ∷ xs) =
    same-join o (bits_of w) x.1 x.1 (over_all (join o) n xs) (join o (over_all (join o) (start o) xs) n) refl (onto-start o w n xs)
    ∙ ap (low w) (sym (join-assoc o x.1 (over_all (join o) (start o) xs) n))

onto-append : (v : Valuation) (o : Joint) (xs ys : List Tree) (n : ℕ) → onto v o (xs ++ ys) n ≡ onto v o xs (onto v o ys n)
onto-append v o [] ys n = refl
onto-append v o (x ∷ xs) ys n = ap (join o (mean v x)) (onto-append v o xs ys n)

pub trees_of-list_of : (ps : Trees) → trees_of (list_of ps) ≡ ps
trees_of-list_of no_trees = refl
trees_of-list_of (tree p ps) = ap (tree p) (trees_of-list_of ps)

pub mean-head : (v : Valuation) (o : Joint) (w : Width) (n : ℕ) (s : List ℕ) (ps : Trees) → mean v (Node (head_of o) w n s ps) ≡ low w (over_all (join o) (start o) (values v ps))
mean-head v Mul w n s ps = refl
mean-head v And w n s ps = refl
mean-head v Ior w n s ps = refl
mean-head v Xor w n s ps = refl

pub and-true : (a b : Bool) → (a && b) ≡ true → (a ≡ true) × (b ≡ true)
and-true true true e = (refl, refl)
and-true true false e = cc
and-true false b e = cc

onto-flat_node : (v : Valuation) (o : Joint) (w : Width) (t : Tree) (n : ℕ) → low w (onto v o (flat_node o w t) n) ≡ low w (join o (mean v t) n)
onto-flat_node v o w (Sum u c xs) n = refl
onto-flat_node v o w (Node h u k s ps) n = go ((eqb (head_index h) (head_index (head_of o))) && same_width u w) refl
  where
    go : (b : Bool) → ((eqb (head_index h) (head_index (head_of o))) && same_width u w) ≡ b → low w (onto v o (cond b (list_of ps) (Node h u k s ps ∷ [])) n) ≡ low w (join o (mean v (Node h u k s ps)) n)
    go true e =
        let p = and-true _ _ e in
        let hh : h ≡ head_of o = same_head h (head_of o) (eqb-true _ _ p.0) in
        let uw : u ≡ w = same_width-true u w p.1 in
        let inner : mean v (Node h u k s ps) ≡ low w (over_all (join o) (start o) (values v ps)) = ap (λ x. mean v (Node x u k s ps)) hh ∙ mean-head v o u k s ps ∙ ap (λ x. low x (over_all (join o) (start o) (values v ps))) uw in
        let cut : mean v (Node h u k s ps) % 2 ^ bits_of w ≡ over_all (join o) (start o) (values v ps) % 2 ^ bits_of w = ap (low w) inner ∙ mod-mod (over_all (join o) (start o) (values v ps)) (2 ^ bits_of w) in
        ap (λ x. low w (over_all (join o) n (values v x))) (trees_of-list_of ps)
        ∙ onto-start o w n (values v ps)
        ∙ same-join o (bits_of w) (over_all (join o) (start o) (values v ps)) (mean v (Node h u k s ps)) n n (sym cut) refl
    go false e = refl

-- an atom with its coefficient is a product
onto-scaled : (v : Valuation) (w u : Width) (c k : ℕ) (t : Tree) (n : ℕ) → (b : Bool) → (same_width u w && eqb c 0) ≡ b → low w (onto v Mul (cond b (constant w k ∷ flat_node Mul w t) (Sum u c (atom k t no_atoms) ∷ [])) n) ≡ low w (mean v (Sum u c (atom k t no_atoms)) * n)
onto-scaled v w u c k t n true e =
    let p = and-true (same_width u w) (eqb c 0) e in
    let m : ℕ = 2 ^ bits_of w in
    let x : ℕ = mean v t in
    let front : mean v (constant w k) % m ≡ k % m = ap (low w) (mean-constant v w k) ∙ mod-mod k m in
    let whole : mean v (Sum u c (atom k t no_atoms)) % m ≡ (0 + (k * x + 0)) % m = ap (λ z. (c + (k * x + 0)) % 2 ^ bits_of z % m) (same_width-true u w p.0) ∙ mod-mod (c + (k * x + 0)) m ∙ ap (λ z. (z + (k * x + 0)) % m) (eqb-true c 0 p.1) in
    let all : k * (x * n) ≡ (0 + (k * x + 0)) * n = omega arith in
    same-join Mul (bits_of w) (mean v (constant w k)) k (onto v Mul (flat_node Mul w t) n) (x * n) front (onto-flat_node v Mul w t n)
    ∙ ap (low w) all
    ∙ sym (same-join Mul (bits_of w) (mean v (Sum u c (atom k t no_atoms))) (0 + (k * x + 0)) n n whole refl)
onto-scaled v w u c k t n false e = refl

onto-factor : (v : Valuation) (w : Width) (t : Tree) (n : ℕ) → low w (onto v Mul (flat_factor w t) n) ≡ low w (mean v t * n)
onto-factor v w (Sum u c (atom k t no_atoms)) n = onto-scaled v w u c k t n (same_width u w && eqb c 0) refl
onto-factor v w t n = onto-flat_node v Mul w t n

onto-flat : (v : Valuation) (o : Joint) (w : Width) (t : Tree) (n : ℕ) → low w (onto v o (flat o w t) n) ≡ low w (join o (mean v t) n)
onto-flat v Mul w t n = onto-factor v w t n
onto-flat v And w t n = onto-flat_node v And w t n
onto-flat v Ior w t n = onto-flat_node v Ior w t n
onto-flat v Xor w t n = onto-flat_node v Xor w t n

-- onto numbers that agree
onto-same : (v : Valuation) (o : Joint) (w : Width) (ts : List Tree) (m n : ℕ) → low w m ≡ low w n → low w (onto v o ts m) ≡ low w (onto v o ts n)
onto-same v o w [] m n e = e
onto-same v o w (t ∷ ts) m n e = same-join o (bits_of w) (mean v t) (mean v t) (onto v o ts m) (onto v o ts n) refl (onto-same v o w ts m n e)

-- constants are joined modulo 2 ^ 64
join-constants : (o : Joint) (w : Width) (c d n : ℕ) → low w (join o (join_constants o c d) n) ≡ low w (join o (join o c d) n)
join-constants Mul w c d n = same-join Mul (bits_of w) (c * d % 2 ^ 64) (c * d) n n (cut_twice w (c * d)) refl
join-constants And w c d n = refl
join-constants Ior w c d n = refl
join-constants Xor w c d n = refl

total-part : (v : Valuation) (o : Joint) (t : Tree) (j : Joined) → join o j.constant (folded v o (with_part o t j.parts)) ≡ join o (mean v t) (total v o j)
total-part v o t j = ap (join o j.constant) (folded-with_part v o t j.parts) ∙ join-swap o j.constant (mean v t) (folded v o j.parts)

total-take_part : (v : Valuation) (o : Joint) (w : Width) (t : Tree) (j : Joined) → low w (total v o (take_part o t j)) ≡ low w (join o (mean v t) (total v o j))
total-take_part v o w (Sum u c no_atoms) j =
    join-constants o w (low u c) j.constant (folded v o j.parts) ∙ ap (low w) (join-assoc o (low u c) j.constant (folded v o j.parts) ∙ ap (λ n. join o n (total v o j)) (sym (low_plus_zero u c)))
total-take_part v o w (Sum u c (atom k t xs)) j = ap (low w) (total-part v o (Sum u c (atom k t xs)) j)
total-take_part v o w (Node h u n s ps) j = ap (low w) (total-part v o (Node h u n s ps) j)

total-take_parts : (v : Valuation) (o : Joint) (w : Width) (ts : List Tree) (j : Joined) → low w (total v o (take_parts o ts j)) ≡ low w (onto v o ts (total v o j))
total-take_parts v o w [] j = refl
total-take_parts v o w (t ∷ ts) j =
    total-take_parts v o w ts (take_part o t j)
    ∙ onto-same v o w ts (total v o (take_part o t j)) (join o (mean v t) (total v o j)) (total-take_part v o w t j)
    ∙ ap (low w) (onto-swap v o (mean v t) ts (total v o j))

pub total-take_all : (v : Valuation) (o : Joint) (w : Width) (ts : List Tree) (j : Joined) → low w (total v o (take_all o w ts j)) ≡ low w (onto v o ts (total v o j))
total-take_all v o w [] j = refl
total-take_all v o w (t ∷ ts) j =
    let mid : Joined = take_parts o (flat o w t) j in
    let here : low w (total v o mid) ≡ low w (join o (mean v t) (total v o j)) = total-take_parts v o w (flat o w t) j ∙ onto-flat v o w t (total v o j) in
    total-take_all v o w ts mid
    ∙ onto-same v o w ts (total v o mid) (join o (mean v t) (total v o j)) here
    ∙ ap (low w) (onto-swap v o (mean v t) ts (total v o j))

or_ones : (k a : ℕ) → a < 2 ^ k → bit_or (2 ^ k - 1) a ≡ 2 ^ k - 1
or_ones k a h =
    let p : 2 ^ k - 1 < 2 ^ k = omega (arith, pow_pos k) in
    same_from_bits_below k _ _ (or_lt k (2 ^ k - 1) a p h) p (λ i q. omega (arith, bit_at_or (2 ^ k - 1) a i, bit_at_ones k i q, bit_at-lt a i))

-- an absorbing constant
absorbed : (o : Joint) (w : Width) (c n : ℕ) → absorbs o w c ≡ true → low w (join o c n) ≡ low w c
absorbed Mul w c n e = ap (λ x. low w (x * n)) (eqb-true c 0 e) ∙ ap (low w) none ∙ ap (low w) (sym (eqb-true c 0 e))
  where
    none : 0 * n ≡ 0
    none = omega arith
absorbed And w c n e = ap (λ x. low w (bit_and x n)) (eqb-true c 0 e) ∙ ap (low w) (and_zero_l n) ∙ ap (low w) (sym (eqb-true c 0 e))
absorbed Ior w c n e =
    let k : ℕ = bits_of w in
    let m : ℕ = 2 ^ k in
    let small : m - 1 < m = omega (arith, pow_pos k) in
    let ones : c % m ≡ m - 1 = ap (λ x. x % m) (eqb-true c (m - 1) e) ∙ mod-eq_of_lt small in
    let cut = or_mod c n k in
    let full = or_ones k (n % m) (mod-lt n (pow_pos k)) in
    cut ∙ ap (λ x. bit_or x (n % m)) ones ∙ full ∙ sym ones
absorbed Xor w c n e = cc

pub join-start_right : (o : Joint) (w : Width) (n : ℕ) → low w (join o n (start o)) ≡ low w n
join-start_right o w n = ap (low w) (join-comm o n (start o)) ∙ join-start o w n

mean-node_of : (v : Valuation) (o : Joint) (w : Width) (ts : List Tree) → mean v (node_of o w ts) ≡ low w (folded v o ts)
mean-node_of v o w ts = mean-head v o w 0 [] (trees_of ts)

pub mean-plain : (v : Valuation) (o : Joint) (w : Width) (ts : List Tree) → mean v (plain o w ts) ≡ low w (folded v o ts)
mean-plain v o w [] = mean-constant v w (start o)
mean-plain v o w (t ∷ []) = go (same_width (width_of t) w) refl
  where
    go : (b : Bool) → same_width (width_of t) w ≡ b → mean v (cond b t (node_of o w (t ∷ []))) ≡ low w (join o (mean v t) (start o))
    go true e = sym (mean-cut v t) ∙ ap (λ x. low x (mean v t)) (same_width-true (width_of t) w e) ∙ sym (join-start_right o w (mean v t))
    go false e = mean-node_of v o w (t ∷ [])
mean-plain v o w (t ∷ u ∷ ts) = mean-node_of v o w (t ∷ u ∷ ts)

mean-with_constant : (v : Valuation) (o : Joint) (w : Width) (c : ℕ) (ts : List Tree) → mean v (with_constant o w c ts) ≡ low w (join o c (folded v o ts))
mean-with_constant v Mul w c (t ∷ ts) =
    let m : ℕ = 2 ^ bits_of w in
    let inner : mean v (plain Mul w (t ∷ ts)) % m ≡ folded v Mul (t ∷ ts) % m = ap (low w) (mean-plain v Mul w (t ∷ ts)) ∙ mod-mod (folded v Mul (t ∷ ts)) m in
    mean-times v w c (plain Mul w (t ∷ ts)) ∙ same-join Mul (bits_of w) c c (mean v (plain Mul w (t ∷ ts))) (folded v Mul (t ∷ ts)) refl inner
mean-with_constant v o w c [] = mean-constant v w c ∙ sym (join-start_right o w c)
mean-with_constant v o w c (t ∷ ts) =
    let cut : mean v (constant w c) % 2 ^ bits_of w ≡ c % 2 ^ bits_of w = ap (low w) (mean-constant v w c) ∙ mod-mod c (2 ^ bits_of w) in
    mean-node_of v o w (with_part o (constant w c) (t ∷ ts))
    ∙ ap (low w) (folded-with_part v o (constant w c) (t ∷ ts))
    ∙ same-join o (bits_of w) (mean v (constant w c)) c (folded v o (t ∷ ts)) (folded v o (t ∷ ts)) cut refl

pub mean-finished : (v : Valuation) (o : Joint) (w : Width) (c : ℕ) (ts : List Tree) → mean v (finished o w c ts) ≡ low w (join o c (folded v o ts))
mean-finished v o w c ts = go (absorbs o w c) refl (eqb c (low w (start o))) refl
  where
    go : (a : Bool) → absorbs o w c ≡ a → (b : Bool) → eqb c (low w (start o)) ≡ b → mean v (cond a (constant w c) (cond b (plain o w ts) (with_constant o w c ts))) ≡ low w (join o c (folded v o ts))
    go true e b f = mean-constant v w c ∙ sym (absorbed o w c (folded v o ts) e)
    go false e true f =
        let cut : c % 2 ^ bits_of w ≡ start o % 2 ^ bits_of w = ap (low w) (eqb-true c (low w (start o)) f) ∙ mod-mod (start o) (2 ^ bits_of w) in
        mean-plain v o w ts
        ∙ sym (join-start o w (folded v o ts))
        ∙ same-join o (bits_of w) (start o) c (folded v o ts) (folded v o ts) (sym cut) refl
    go false e false f = mean-with_constant v o w c ts

pub mean-joined : (v : Valuation) (o : Joint) (w : Width) (ts : List Tree) → mean v (joined o w ts) ≡ low w (folded v o ts)
mean-joined v o w ts =
    let j0 : Joined = record { constant = start o; parts = [] } in
    let j : Joined = take_all o w ts j0 in
    let n : ℕ = join o (start o) (start o) in
    mean-finished v o w (low w j.constant) j.parts
    ∙ same-join o (bits_of w) (low w j.constant) j.constant (folded v o j.parts) (folded v o j.parts) (mod-mod j.constant (2 ^ bits_of w)) refl
    ∙ total-take_all v o w ts j0
    ∙ onto-start o w n (values v (trees_of ts))
    ∙ same-join o (bits_of w) (folded v o ts) (folded v o ts) n (start o) refl (join-start o w (start o))
    ∙ join-start_right o w (folded v o ts)
