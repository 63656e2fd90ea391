-- What sums mean.
use Rattle.std.proofs.Common.{◌≡◌, ℕ, zero, suc, ◌+◌, ◌*◌, ◌%◌, ◌^◌, refl, sym, ◌∙◌, ap, arith, cond, Bool, true, false, List, [], ◌∷◌, ◌++◌}
use Rattle.std.proofs.Math.Nat.{mod-mod}
use Rattle.std.specs.declared.cmp.Ordering.{Ordering}
use Rattle.std.specs.declared.cmp.Ordering.TheVariants.{Less, Equal, Greater}
use Rattle.bits64.specs.declared.Width.{Width}
use Rattle.bits64.specs.declared.Width.TheVariants.{W8, W16, W32, W64}
use Rattle.bits64.specs.Words.{bits_of, low, sum_of, product_of}
use Rattle.term_tree.specs.Tree.{Tree, Atoms, Sum, Node, no_atoms, atom, width_of, own_width, AtomTree, atoms_of, list_of_atoms}
use Rattle.term_mean.specs.Meaning.{Valuation, mean, weighed, applied, values}
use Rattle.term_tree.specs.Order.{tree_cmp}
use Rattle.term_mean.specs.Sums.{with_atom, placed, insert, in_order, scaled, constants_at, all_atoms, constant_at, atoms_at, sum, constant, plus_times, summed, times}
use Rattle.term_tree.specs.Form.{same_width}
use Rattle.term_mean.proofs.Modulo.{same-add, same-mul, same-cut}
use Rattle.term_tree.proofs.OrderLaws.{tree_cmp-equal, same_width-true}

-- the sum of what a function gives for each term, as often as its coefficient says
abbrev pub weigh : (Tree → ℕ) → List AtomTree → ℕ
weigh g [] = 0
weigh g (x ∷ xs) = x.0 * g x.1 + weigh g xs

pub weigh-with_atom : (g : Tree → ℕ) (k : ℕ) (t : Tree) (xs : List AtomTree) → weigh g (with_atom k t xs) ≡ k * g t + weigh g xs
weigh-with_atom g zero t xs = omega arith
weigh-with_atom g (suc k) t xs = refl

weigh-with_cut : (g : Tree → ℕ) (w : Width) (k : ℕ) (t : Tree) (xs : List AtomTree) → weigh g (with_atom (low w k) t xs) % 2 ^ bits_of w ≡ (k * g t + weigh g xs) % 2 ^ bits_of w
weigh-with_cut g w k t xs =
    let m : ℕ = 2 ^ bits_of w in
    ap (λ n. n % m) (weigh-with_atom g (low w k) t xs)
    ∙ same-add m (low w k * g t) (k * g t) (weigh g xs) (weigh g xs) (same-mul m (low w k) k (g t) (g t) (same-cut m k) refl) refl

pub weigh-insert : (g : Tree → ℕ) (w : Width) (k : ℕ) (t : Tree) (xs : List AtomTree) → weigh g (insert w k t xs) % 2 ^ bits_of w ≡ (k * g t + weigh g xs) % 2 ^ bits_of w
weigh-insert g w k t [] = weigh-with_cut g w k t []
weigh-insert g w k t (x ∷ xs) = go (tree_cmp t x.1) refl (weigh-insert g w k t xs)
  where
    go : (o : Ordering) → tree_cmp t x.1 ≡ o → weigh g (insert w k t xs) % 2 ^ bits_of w ≡ (k * g t + weigh g xs) % 2 ^ bits_of w → weigh g (placed o w k t x xs (insert w k t xs)) % 2 ^ bits_of w ≡ (k * g t + (x.0 * g x.1 + weigh g xs)) % 2 ^ bits_of w
    go Less e ih = weigh-with_cut g w k t (x ∷ xs)
    go Equal e ih =
        let m : ℕ = 2 ^ bits_of w in
        let same = tree_cmp-equal t x.1 e in
        let both : (k + x.0) * g x.1 + weigh g xs ≡ k * g x.1 + (x.0 * g x.1 + weigh g xs) = omega arith in
        weigh-with_cut g w (k + x.0) x.1 xs
        ∙ ap (λ n. n % m) both
        ∙ ap (λ y. (k * g y + (x.0 * g x.1 + weigh g xs)) % m) (sym same)
    go Greater e ih =
        let m : ℕ = 2 ^ bits_of w in
        let swap : x.0 * g x.1 + (k * g t + weigh g xs) ≡ k * g t + (x.0 * g x.1 + weigh g xs) = omega arith in
        same-add m (x.0 * g x.1) (x.0 * g x.1) (weigh g (insert w k t xs)) (k * g t + weigh g xs) refl ih ∙ ap (λ n. n % m) swap

pub weigh-in_order : (g : Tree → ℕ) (w : Width) (xs ys : List AtomTree) → weigh g (in_order w xs ys) % 2 ^ bits_of w ≡ (weigh g xs + weigh g ys) % 2 ^ bits_of w
weigh-in_order g w [] ys = ap (λ n. n % 2 ^ bits_of w) (omega arith)
weigh-in_order g w (x ∷ xs) ys =
    let m : ℕ = 2 ^ bits_of w in
    let one = weigh-insert g w x.0 x.1 ys in
    let all : weigh g xs + (x.0 * g x.1 + weigh g ys) ≡ x.0 * g x.1 + weigh g xs + weigh g ys = omega arith in
    weigh-in_order g w xs (insert w x.0 x.1 ys)
    ∙ same-add m (weigh g xs) (weigh g xs) (weigh g (insert w x.0 x.1 ys)) (x.0 * g x.1 + weigh g ys) refl one
    ∙ ap (λ n. n % m) all

-- the weighed sum of a list of atoms
abbrev pub weight : Valuation → List AtomTree → ℕ
weight v xs = weighed v (atoms_of xs)

weight-is : (v : Valuation) (xs : List AtomTree) → weigh (mean v) xs ≡ weight v xs
weight-is v [] = refl
weight-is v (x ∷ xs) = ap (λ n. x.0 * mean v x.1 + n) (weight-is v xs)

weight-in_order : (v : Valuation) (w : Width) (xs ys : List AtomTree) → weight v (in_order w xs ys) % 2 ^ bits_of w ≡ (weight v xs + weight v ys) % 2 ^ bits_of w
weight-in_order v w xs ys =
    let m : ℕ = 2 ^ bits_of w in
    ap (λ n. n % m) (sym (weight-is v (in_order w xs ys)))
    ∙ weigh-in_order (mean v) w xs ys
    ∙ ap (λ n. (n + weigh (mean v) ys) % m) (weight-is v xs)
    ∙ ap (λ n. (weight v xs + n) % m) (weight-is v ys)

weight-append : (v : Valuation) (xs ys : List AtomTree) → weight v (xs ++ ys) ≡ weight v xs + weight v ys
weight-append v [] ys = omega arith
weight-append v (x ∷ xs) ys = let rest = weight-append v xs ys in omega arith

weight-scaled : (v : Valuation) (w : Width) (f : ℕ) (xs : List AtomTree) → weight v (scaled w f xs) % 2 ^ bits_of w ≡ (f * weight v xs) % 2 ^ bits_of w
weight-scaled v w f [] = ap (λ n. n % 2 ^ bits_of w) (omega arith)
weight-scaled v w f (x ∷ xs) =
    let m : ℕ = 2 ^ bits_of w in
    let cut : (low w (f * x.0) * mean v x.1) % m ≡ (f * x.0 * mean v x.1) % m = same-mul m (low w (f * x.0)) (f * x.0) (mean v x.1) (mean v x.1) (same-cut m (f * x.0)) refl in
    let all : f * x.0 * mean v x.1 + f * weight v xs ≡ f * (x.0 * mean v x.1 + weight v xs) = omega arith in
    same-add m (low w (f * x.0) * mean v x.1) (f * x.0 * mean v x.1) (weight v (scaled w f xs)) (f * weight v xs) cut (weight-scaled v w f xs)
    ∙ ap (λ n. n % m) all

pub atoms_of-list_of : (xs : Atoms) → atoms_of (list_of_atoms xs) ≡ xs
atoms_of-list_of no_atoms = refl
atoms_of-list_of (atom k t xs) = ap (atom k t) (atoms_of-list_of xs)

-- a term's number is below 2 ^ its width
pub mean-cut : (v : Valuation) (t : Tree) → mean v t % 2 ^ bits_of (width_of t) ≡ mean v t
mean-cut v (Sum w c xs) = mod-mod (c + weighed v xs) (2 ^ bits_of w)
mean-cut v (Node h w n s ps) = mod-mod (applied v h w n s (values v ps)) (2 ^ bits_of (own_width h w))

-- a term as a constant and atoms
pub parts-mean : (v : Valuation) (w : Width) (t : Tree) → (constant_at w t + weight v (atoms_at w t)) % 2 ^ bits_of w ≡ mean v t % 2 ^ bits_of w
parts-mean v w (Sum u c xs) = go (same_width u w) refl
  where
    go : (b : Bool) → same_width u w ≡ b → ((cond b c 0) + weight v (cond b (list_of_atoms xs) ((1, Sum u c xs) ∷ []))) % 2 ^ bits_of w ≡ mean v (Sum u c xs) % 2 ^ bits_of w
    go true e =
        let r = ap (λ x. (c + weighed v xs) % 2 ^ bits_of x % 2 ^ bits_of w) (same_width-true u w e) in
        ap (λ ys. (c + weighed v ys) % 2 ^ bits_of w) (atoms_of-list_of xs) ∙ sym (mod-mod (c + weighed v xs) (2 ^ bits_of w)) ∙ sym r
    go false e = ap (λ n. n % 2 ^ bits_of w) (omega arith)
parts-mean v w (Node h u n s ps) = ap (λ n. n % 2 ^ bits_of w) (omega arith)

pub mean-sum : (v : Valuation) (w : Width) (c : ℕ) (xs : List AtomTree) → mean v (sum w c xs) ≡ low w (c + weight v xs)
mean-sum v w zero ((suc zero, t) ∷ []) = go (same_width (width_of t) w) refl
  where
    go : (b : Bool) → same_width (width_of t) w ≡ b → mean v (cond b t (Sum w 0 (atom 1 t no_atoms))) ≡ low w (0 + (1 * mean v t + 0))
    go true e =
        let r = ap (λ x. mean v t % 2 ^ bits_of x) (same_width-true (width_of t) w e) in
        sym (mean-cut v t) ∙ r ∙ ap (λ n. n % 2 ^ bits_of w) (omega arith)
    go false e = refl
mean-sum v w c xs = refl

pub mean-constant : (v : Valuation) (w : Width) (c : ℕ) → mean v (constant w c) ≡ low w c
mean-constant v w c = ap (λ n. n % 2 ^ bits_of w) (omega arith) ∙ mod-mod c (2 ^ bits_of w)

pub mean-plus_times : (v : Valuation) (w : Width) (a : Tree) (f : ℕ) (b : Tree) → mean v (plus_times w a f b) ≡ low w (mean v a + f * mean v b)
mean-plus_times v w a f b =
    let m : ℕ = 2 ^ bits_of w in
    let ca : ℕ = constant_at w a in
    let cb : ℕ = constant_at w b in
    let wa : ℕ = weight v (atoms_at w a) in
    let wb : ℕ = weight v (atoms_at w b) in
    let more : List AtomTree = scaled w f (atoms_at w b) in
    let ys : List AtomTree = in_order w (atoms_at w a ++ more) [] in
    let k : ℕ = sum_of w ca (product_of w f cb) in
    let cut : k % m ≡ (ca + f * cb) % m = same-cut m (ca + product_of w f cb) ∙ same-add m ca ca (product_of w f cb) (f * cb) refl (same-cut m (f * cb)) in
    let none : weight v (atoms_at w a ++ more) + 0 ≡ wa + weight v more = omega (arith, weight-append v (atoms_at w a) more) in
    let put : weight v ys % m ≡ (wa + f * wb) % m = weight-in_order v w (atoms_at w a ++ more) [] ∙ ap (λ n. n % m) none ∙ same-add m wa wa (weight v more) (f * wb) refl (weight-scaled v w f (atoms_at w b)) in
    let all : ca + f * cb + (wa + f * wb) ≡ ca + wa + f * (cb + wb) = omega arith in
    let times : (f * (cb + wb)) % m ≡ (f * mean v b) % m = same-mul m f f (cb + wb) (mean v b) refl (parts-mean v w b) in
    mean-sum v w k ys
    ∙ same-add m k (ca + f * cb) (weight v ys) (wa + f * wb) cut put
    ∙ ap (λ n. n % m) all
    ∙ same-add m (ca + wa) (mean v a) (f * (cb + wb)) (f * mean v b) (parts-mean v w a) times

-- the constants and the atoms of all summands
all-summands : (v : Valuation) (w : Width) (c : ℕ) (xs : List AtomTree) → (constants_at w c xs + weight v (all_atoms w xs)) % 2 ^ bits_of w ≡ (c + weight v xs) % 2 ^ bits_of w
all-summands v w c [] = refl
all-summands v w c (x ∷ xs) =
    let m : ℕ = 2 ^ bits_of w in
    let f : ℕ = x.0 in
    let cb : ℕ = constant_at w x.1 in
    let wb : ℕ = weight v (atoms_at w x.1) in
    let more : List AtomTree = scaled w f (atoms_at w x.1) in
    let d : ℕ = sum_of w c (product_of w f cb) in
    let cut : d % m ≡ (c + f * cb) % m = same-cut m (c + product_of w f cb) ∙ same-add m c c (product_of w f cb) (f * cb) refl (same-cut m (f * cb)) in
    let apart : constants_at w d xs + weight v (more ++ all_atoms w xs) ≡ weight v more + (constants_at w d xs + weight v (all_atoms w xs)) = omega (arith, weight-append v more (all_atoms w xs)) in
    let rest : (constants_at w d xs + weight v (all_atoms w xs)) % m ≡ (c + f * cb + weight v xs) % m = all-summands v w d xs ∙ same-add m d (c + f * cb) (weight v xs) (weight v xs) cut refl in
    let times : (f * (cb + wb)) % m ≡ (f * mean v x.1) % m = same-mul m f f (cb + wb) (mean v x.1) refl (parts-mean v w x.1) in
    let joined : f * wb + (c + f * cb + weight v xs) ≡ f * (cb + wb) + (c + weight v xs) = omega arith in
    let last : f * mean v x.1 + (c + weight v xs) ≡ c + (f * mean v x.1 + weight v xs) = omega arith in
    ap (λ n. n % m) apart
    ∙ same-add m (weight v more) (f * wb) (constants_at w d xs + weight v (all_atoms w xs)) (c + f * cb + weight v xs) (weight-scaled v w f (atoms_at w x.1)) rest
    ∙ ap (λ n. n % m) joined
    ∙ same-add m (f * (cb + wb)) (f * mean v x.1) (c + weight v xs) (c + weight v xs) times refl
    ∙ ap (λ n. n % m) last

pub mean-summed : (v : Valuation) (w : Width) (c : ℕ) (xs : List AtomTree) → mean v (summed w c xs) ≡ low w (c + weight v xs)
mean-summed v w c xs =
    let m : ℕ = 2 ^ bits_of w in
    let d : ℕ = constants_at w (low w c) xs in
    let ys : List AtomTree = in_order w (all_atoms w xs) [] in
    let none : weight v (all_atoms w xs) + 0 ≡ weight v (all_atoms w xs) = omega arith in
    let put : weight v ys % m ≡ weight v (all_atoms w xs) % m = weight-in_order v w (all_atoms w xs) [] ∙ ap (λ n. n % m) none in
    mean-sum v w d ys
    ∙ same-add m d d (weight v ys) (weight v (all_atoms w xs)) refl put
    ∙ all-summands v w (low w c) xs
    ∙ same-add m (low w c) c (weight v xs) (weight v xs) (same-cut m c) refl

pub mean-times : (v : Valuation) (w : Width) (f : ℕ) (a : Tree) → mean v (times w f a) ≡ low w (f * mean v a)
mean-times v w f a =
    let m : ℕ = 2 ^ bits_of w in
    let none : mean v (constant w 0) ≡ 0 = mean-constant v w 0 ∙ low-zero w in
    let drop : 0 + f * mean v a ≡ f * mean v a = omega arith in
    mean-plus_times v w (constant w 0) f a ∙ ap (λ n. low w (n + f * mean v a)) none ∙ ap (low w) drop
  where
    low-zero : (w : Width) → low w 0 ≡ 0
    low-zero W8 = refl
    low-zero W16 = refl
    low-zero W32 = refl
    low-zero W64 = refl
