-- Loads over stores: a load that lies apart from a store reads the same before it.
use Rattle.std.proofs.Common.{◌≡◌, ℕ, zero, suc, ◌+◌, ◌*◌, ◌-◌, ◌%◌, ◌^◌, ◌<◌, ◌≤◌, refl, sym, ◌∙◌, ap, subst, arith, tests, cond, nat_lt, Bool, true, false, List, [], ◌∷◌, Option, Some, None, slice_get}
use Rattle.bits64.specs.declared.Width.{Width}
use Rattle.bits64.specs.declared.Width.TheVariants.{W64}
use Rattle.bits64.specs.Words.{bytes_of, low}
use Rattle.term_tree.specs.Tree.{Tree, width_of}
use Rattle.term_mean.specs.Meaning.{Valuation, mean, bytes_at}
use Rattle.term_mean.specs.Stores.{Store, byte_of, written, Follow, Stored}
use Rattle.term_mean.specs.Sums.{constant_in, minus}
use Rattle.term_mean.specs.Loads.{is_apart, lies_apart, source, loaded}
use Rattle.term_mean.proofs.SumLaws.{mean-plus_times}
use Rattle.term_mean.proofs.JoinedLaws.{and-true}
use Rattle.term_mean.proofs.ShiftLaws.{constant-is}

-- memories that agree on the bytes
same-bytes : (m l : ℕ → ℕ) (p a : ℕ) → ((i : ℕ) → i < p → m ((a + i) % 2 ^ 64) ≡ l ((a + i) % 2 ^ 64)) → bytes_at m p a ≡ bytes_at l p a
same-bytes m l zero a h = refl
same-bytes m l (suc p) a h =
    let here : m (a % 2 ^ 64) ≡ l (a % 2 ^ 64) = subst (λ n. m (n % 2 ^ 64) ≡ l (n % 2 ^ 64)) (plus_zero a) (h 0 (omega arith)) in
    let rest = same-bytes m l p (a + 1) (λ i less. subst (λ n. m (n % 2 ^ 64) ≡ l (n % 2 ^ 64)) (step a i) (h (suc i) (omega arith))) in
    ap (λ n. n % 256 + 256 * bytes_at m p (a + 1)) here ∙ ap (λ n. l (a % 2 ^ 64) % 256 + 256 * n) rest
  where
    plus_zero : (a : ℕ) → a + 0 ≡ a
    plus_zero a = omega arith

    step : (a i : ℕ) → a + suc i ≡ a + 1 + i
    step a i = omega arith

-- memory k + n + 1 is memory k + n with store n + 1 written
follow-at : (v : Valuation) (k : ℕ) (stores : List Store) (n : ℕ) (s : Store) → Follow v k stores → slice_get stores n ≡ Some s → (c : ℕ) → c < 2 ^ 64 → v.memory (suc (k + n)) c ≡ written (v.memory (k + n)) (bytes_of (width_of s.1)) (mean v s.0) (mean v s.1) c
follow-at v k [] n s f e c h = absurd (let no_case : ⊥ = cc in no_case)
follow-at v k (t ∷ ts) zero s f e c h =
    let is : t ≡ s = cc in
    subst (λ j. v.memory (suc j) c ≡ written (v.memory j) (bytes_of (width_of s.1)) (mean v s.0) (mean v s.1) c) (plus k) (subst (λ r. v.memory (suc k) c ≡ written (v.memory k) (bytes_of (width_of r.1)) (mean v r.0) (mean v r.1) c) is (f.0 c h))
  where
    plus : (k : ℕ) → k ≡ k + 0
    plus k = omega arith
follow-at v k (t ∷ ts) (suc n) s f e c h =
    subst (λ j. v.memory (suc j) c ≡ written (v.memory j) (bytes_of (width_of s.1)) (mean v s.0) (mean v s.1) c) (plus k n) (follow-at v (suc k) ts n s f.1 e c h)
  where
    plus : (k n : ℕ) → suc k + n ≡ k + suc n
    plus k n = omega arith

-- a byte outside of what was written
outside : (m : ℕ → ℕ) (q a n c : ℕ) → q ≤ (c + (2 ^ 64 - a % 2 ^ 64)) % 2 ^ 64 → written m q a n c ≡ m c
outside m q a n c h = go (nat_lt ((c + (2 ^ 64 - a % 2 ^ 64)) % 2 ^ 64) q) refl
  where
    go : (b : Bool) → nat_lt ((c + (2 ^ 64 - a % 2 ^ 64)) % 2 ^ 64) q ≡ b → cond b (byte_of n ((c + (2 ^ 64 - a % 2 ^ 64)) % 2 ^ 64)) (m c) ≡ m c
    go true e = absurd (grind (arith, tests))
    go false e = refl

apart : (a b d p q i : ℕ) → d ≡ (a + (2 ^ 64 - 1) * b) % 2 ^ 64 → q < d + 1 → p + d < 2 ^ 64 + 1 → i < p → q ≤ ((a + i) % 2 ^ 64 + (2 ^ 64 - b % 2 ^ 64)) % 2 ^ 64
apart a b d p q i e hq hp hi = omega arith

lt-true : (a b : ℕ) → nat_lt a b ≡ true → a < b
lt-true a b e = grind (arith, tests)

-- one store passed
passed : (v : Valuation) (stores : List Store) (w : Width) (a : Tree) (n : ℕ) → Stored v stores → (o : Option Store) → slice_get stores n ≡ o → lies_apart w a o ≡ true → bytes_at (v.memory (suc n)) (bytes_of w) (mean v a) ≡ bytes_at (v.memory n) (bytes_of w) (mean v a)
passed v stores w a n f None e = λ g. absurd (let no_case : ⊥ = cc in no_case)
passed v stores w a n f (Some s) e = go (constant_in (minus W64 a s.0)) refl
  where
    none : (n : ℕ) → 0 + n ≡ n
    none n = omega arith

    go : (o : Option ℕ) → constant_in (minus W64 a s.0) ≡ o → is_apart (bytes_of w) (bytes_of (width_of s.1)) o ≡ true → bytes_at (v.memory (suc n)) (bytes_of w) (mean v a) ≡ bytes_at (v.memory n) (bytes_of w) (mean v a)
    go None h g = absurd (let no_case : ⊥ = cc in no_case)
    go (Some d) h g =
        let x : ℕ = mean v a in
        let y : ℕ = mean v s.0 in
        let p : ℕ = bytes_of w in
        let q : ℕ = bytes_of (width_of s.1) in
        let t = and-true (nat_lt q (d + 1)) (nat_lt (p + d) (2 ^ 64 + 1)) g in
        let is : d ≡ (x + (2 ^ 64 - 1) * y) % 2 ^ 64 = sym (constant-is v (minus W64 a s.0) d h) ∙ mean-plus_times v W64 a (2 ^ 64 - 1) s.0 in
        same-bytes (v.memory (suc n)) (v.memory n) p x (λ i less.
        subst (λ j. v.memory (suc j) ((x + i) % 2 ^ 64) ≡ written (v.memory j) q y (mean v s.1) ((x + i) % 2 ^ 64)) (none n) (follow-at v 0 stores n s f e ((x + i) % 2 ^ 64) (omega arith))
        ∙ outside (v.memory n) q y (mean v s.1) ((x + i) % 2 ^ 64) (apart x y d p q i is (lt-true q (d + 1) t.0) (lt-true (p + d) (2 ^ 64 + 1) t.1) less))

source-reads : (v : Valuation) (stores : List Store) (w : Width) (a : Tree) (n : ℕ) → Stored v stores → bytes_at (v.memory (source stores w a n)) (bytes_of w) (mean v a) ≡ bytes_at (v.memory n) (bytes_of w) (mean v a)
source-reads v stores w a zero f = refl
source-reads v stores w a (suc n) f = go (lies_apart w a (slice_get stores n)) refl (source-reads v stores w a n f)
  where
    go : (b : Bool) → lies_apart w a (slice_get stores n) ≡ b → bytes_at (v.memory (source stores w a n)) (bytes_of w) (mean v a) ≡ bytes_at (v.memory n) (bytes_of w) (mean v a) → bytes_at (v.memory (cond b (source stores w a n) (suc n))) (bytes_of w) (mean v a) ≡ bytes_at (v.memory (suc n)) (bytes_of w) (mean v a)
    go true e ih = ih ∙ sym (passed v stores w a n f (slice_get stores n) refl e)
    go false e ih = refl

pub mean-loaded : (v : Valuation) (stores : List Store) (w : Width) (n : ℕ) (a : Tree) → Stored v stores → mean v (loaded stores w n a) ≡ low w (bytes_at (v.memory n) (bytes_of w) (mean v a))
mean-loaded v stores w n a f = ap (low w) (source-reads v stores w a n f)
