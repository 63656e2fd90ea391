-- Whether a number is less than another: what the rules make of the comparison has its number, in any number of rounds.
use Rattle.std.proofs.Common.{◌≡◌, ℕ, zero, suc, ◌-◌, ◌%◌, ◌^◌, ◌<◌, refl, sym, ◌∙◌, ap, subst, arith, tests, cond, eqb, nat_lt, Bool, true, false, ℤ, pos, int_lt, Option, Some, None}
use Rattle.std.specs.declared.cmp.Ordering.{Ordering}
use Rattle.std.specs.declared.cmp.Ordering.TheVariants.{Less, Equal, Greater}
use Rattle.bits64.specs.declared.Width.{Width}
use Rattle.bits64.specs.declared.Width.TheVariants.{W8, W16, W32, W64}
use Rattle.bits64.specs.Words.{bits_of, low, signed, sign_extended, less_signed, less_unsigned}
use Rattle.term_tree.specs.declared.head.Head.TheVariants as heads
use Rattle.term_tree.specs.declared.head.Extension.{Extension}
use Rattle.term_tree.specs.declared.head.Extension.TheVariants.{Zero, Sign}
use Rattle.term_tree.specs.Tree.{Tree, own_width}
use Rattle.term_tree.specs.Order.{tree_cmp}
use Rattle.term_tree.proofs.OrderLaws.{eqb-true, tree_cmp-equal}
use Rattle.term_mean.specs.Meaning.{Valuation, mean, truth}
use Rattle.term_mean.specs.Sums.{constant_in}
use Rattle.term_mean.specs.Extensions.{extended_by}
use Rattle.term_mean.specs.Shifts.{two_parts, binary_number}
use Rattle.term_mean.specs.Truths.{opposite}
use Rattle.term_mean.specs.Zero.{Operands, operands_in, equals_zero}
use Rattle.term_mean.specs.Less.{less_head, is_number, less_bounds_unsigned, less_bounds, less_kind, less_extended, less_unless, less_step, less_test, less_than}
use Rattle.term_mean.proofs.Modulo.{same-cut}
use Rattle.term_mean.proofs.SumLaws.{mean-constant}
use Rattle.term_mean.proofs.ExtendedLaws.{low-within}
use Rattle.term_mean.proofs.RuleLaws.{signed-sign_extended, below-one}
use Rattle.term_mean.proofs.ShiftLaws.{constant-is, mean-on_constants}
use Rattle.term_mean.proofs.TruthLaws.{small_truth, mean-opposite}
use Rattle.term_mean.proofs.OperandLaws.{operands-are}
use Rattle.term_mean.proofs.ZeroLaws.{mean-equals_zero}

-- a comparison of numbers, signed or not
abbrev pub less_number : Extension → Width → ℕ → ℕ → Bool
less_number Sign w a b = less_signed w a b
less_number Zero w a b = less_unsigned w a b

abbrev pub is_less : Valuation → Extension → Width → Tree → Tree → ℕ
is_less v e w a b = truth (less_number e w (mean v a) (mean v b))

abbrev pub IsLess : Valuation → (Extension → Width → Tree → Tree → Tree) → Type 0
IsLess v f = (e : Extension) (w : Width) (a b : Tree) → mean v (f e w a b) ≡ is_less v e w a b

mean-less_parts : (v : Valuation) (e : Extension) (w : Width) (a b : Tree) → mean v (two_parts (less_head e) w a b) ≡ is_less v e w a b
mean-less_parts v Sign w a b = small_truth W8 (less_signed w (mean v a) (mean v b))
mean-less_parts v Zero w a b = small_truth W8 (less_unsigned w (mean v a) (mean v b))

-- ---- unsigned bounds
above-none : (n : ℕ) → truth (nat_lt 0 n) ≡ truth (eqb (truth (eqb n 0)) 0)
above-none n = grind (arith, tests)

above-zero : (w : Width) (b : ℕ) → truth (nat_lt (low w 0) (low w b)) ≡ truth (eqb (truth (eqb (low w b) 0)) 0)
above-zero W8 b = above-none (b % 2 ^ 8)
above-zero W16 b = above-none (b % 2 ^ 16)
above-zero W32 b = above-none (b % 2 ^ 32)
above-zero W64 b = above-none (b % 2 ^ 64)

truth-small : (b : Bool) → truth b < 2
truth-small true = omega arith
truth-small false = omega arith

number-is : (v : Valuation) (t : Tree) (n : ℕ) → is_number (constant_in t) n ≡ true → mean v t ≡ n
number-is v t n = go (constant_in t) refl
  where
    go : (o : Option ℕ) → constant_in t ≡ o → is_number o n ≡ true → mean v t ≡ n
    go (Some c) e f = constant-is v t c e ∙ eqb-true c n f
    go None e f = cc

mean-less_bounds_unsigned : (v : Valuation) (w : Width) (a b : Tree) → mean v (less_bounds_unsigned w a b) ≡ is_less v Zero w a b
mean-less_bounds_unsigned v w a b = go (is_number (constant_in b) 1) refl (is_number (constant_in a) 0) refl
  where
    go : (p : Bool) → is_number (constant_in b) 1 ≡ p → (q : Bool) → is_number (constant_in a) 0 ≡ q → mean v (cond p (equals_zero w a) (cond q (opposite (equals_zero w b)) (two_parts heads.Ltu w a b))) ≡ is_less v Zero w a b
    go true e q f =
        mean-equals_zero v w a ∙ ap truth (sym (below-one w (mean v a))) ∙ ap (λ n. truth (less_unsigned w (mean v a) n)) (sym (number-is v b 1 e))
    go false e true f =
        let test = mean-equals_zero v w b in
        mean-opposite v (equals_zero w b) (subst (λ n. n < 2) (sym test) (truth-small (eqb (low w (mean v b)) 0)))
        ∙ ap (λ n. truth (eqb n 0)) test
        ∙ sym (above-zero w (mean v b))
        ∙ ap (λ n. truth (less_unsigned w n (mean v b))) (sym (number-is v a 0 f))
    go false e false f = mean-less_parts v Zero w a b

mean-less_bounds : (v : Valuation) (e : Extension) (w : Width) (a b : Tree) → mean v (less_bounds e w a b) ≡ is_less v e w a b
mean-less_bounds v Sign w a b = mean-less_parts v Sign w a b
mean-less_bounds v Zero w a b = mean-less_bounds_unsigned v w a b

-- ---- compared extensions
signed-zeros : (v w : Width) (n : ℕ) → bits_of v < bits_of w → signed w (low w (low v n)) ≡ pos (low v n)
signed-zeros W8 W8 n h = absurd (omega arith)
signed-zeros W8 W16 n h = grind arith
signed-zeros W8 W32 n h = grind arith
signed-zeros W8 W64 n h = grind arith
signed-zeros W16 W8 n h = absurd (omega arith)
signed-zeros W16 W16 n h = absurd (omega arith)
signed-zeros W16 W32 n h = grind arith
signed-zeros W16 W64 n h = grind arith
signed-zeros W32 W8 n h = absurd (omega arith)
signed-zeros W32 W16 n h = absurd (omega arith)
signed-zeros W32 W32 n h = absurd (omega arith)
signed-zeros W32 W64 n h = grind arith
signed-zeros W64 W8 n h = absurd (omega arith)
signed-zeros W64 W16 n h = absurd (omega arith)
signed-zeros W64 W32 n h = absurd (omega arith)
signed-zeros W64 W64 n h = absurd (omega arith)

unsigned-signs : (v w : Width) (a b : ℕ) → bits_of v < bits_of w → nat_lt (low w (low w (sign_extended v a))) (low w (low w (sign_extended v b))) ≡ nat_lt (low v a) (low v b)
unsigned-signs W8 W8 a b h = absurd (omega arith)
unsigned-signs W8 W16 a b h = grind (arith, tests)
unsigned-signs W8 W32 a b h = grind (arith, tests)
unsigned-signs W8 W64 a b h = grind (arith, tests)
unsigned-signs W16 W8 a b h = absurd (omega arith)
unsigned-signs W16 W16 a b h = absurd (omega arith)
unsigned-signs W16 W32 a b h = grind (arith, tests)
unsigned-signs W16 W64 a b h = grind (arith, tests)
unsigned-signs W32 W8 a b h = absurd (omega arith)
unsigned-signs W32 W16 a b h = absurd (omega arith)
unsigned-signs W32 W32 a b h = absurd (omega arith)
unsigned-signs W32 W64 a b h = grind (arith, tests)
unsigned-signs W64 W8 a b h = absurd (omega arith)
unsigned-signs W64 W16 a b h = absurd (omega arith)
unsigned-signs W64 W32 a b h = absurd (omega arith)
unsigned-signs W64 W64 a b h = absurd (omega arith)

extended-less : (e k : Extension) (v w : Width) (a b : ℕ) → bits_of v < bits_of w → less_number e w (low w (extended_by k v a)) (low w (extended_by k v b)) ≡ less_number (less_kind e k) v a b
extended-less Sign Sign v w a b h =
    ap (λ x. int_lt x (signed w (low w (sign_extended v b)))) (signed-sign_extended v w a (omega arith)) ∙ ap (int_lt (signed v a)) (signed-sign_extended v w b (omega arith))
extended-less Sign Zero v w a b h =
    ap (λ x. int_lt x (signed w (low w (low v b)))) (signed-zeros v w a h) ∙ ap (int_lt (pos (low v a))) (signed-zeros v w b h)
extended-less Zero Sign v w a b h = unsigned-signs v w a b h
extended-less Zero Zero v w a b h =
    let p : low w (low w (low v a)) ≡ low v a = same-cut (2 ^ bits_of w) (low v a) ∙ low-within v w a (omega arith) in
    let q : low w (low w (low v b)) ≡ low v b = same-cut (2 ^ bits_of w) (low v b) ∙ low-within v w b (omega arith) in
    ap (λ x. nat_lt x (low w (low w (low v b)))) p ∙ ap (nat_lt (low v a)) q

mean-less_extended : (v : Valuation) (again : Extension → Width → Tree → Tree → Tree) (e : Extension) (w : Width) (a b : Tree) (o : Option Operands) → IsLess v again → operands_in w a b ≡ o → mean v (less_extended o again e w a b) ≡ is_less v e w a b
mean-less_extended v again e w a b (Some x) ih f =
    let are = operands-are v w a b x f in
    let l : ℕ = mean v x.left in
    let r : ℕ = mean v x.right in
    ih (less_kind e x.kind) x.width x.left x.right
    ∙ ap truth (sym (extended-less e x.kind x.width w l r are.0))
    ∙ ap (λ n. truth (less_number e w n (low w (extended_by x.kind x.width r)))) (sym are.1)
    ∙ ap (λ n. truth (less_number e w (mean v a) n)) (sym are.2)
mean-less_extended v again e w a b None ih f = mean-less_bounds v e w a b

-- ---- nothing is less than itself
not-below : (n : ℕ) → nat_lt n n ≡ false
not-below n = grind (arith, tests)

not-below_signed : (z : ℤ) → int_lt z z ≡ false
not-below_signed z = grind (arith, tests)

less-self : (e : Extension) (w : Width) (n : ℕ) → less_number e w n n ≡ false
less-self Sign w n = not-below_signed (signed w n)
less-self Zero w n = not-below (low w n)

mean-less_unless : (v : Valuation) (again : Extension → Width → Tree → Tree → Tree) (e : Extension) (w : Width) (a b : Tree) (o : Ordering) → IsLess v again → tree_cmp a b ≡ o → mean v (less_unless o again e w a b) ≡ is_less v e w a b
mean-less_unless v again e w a b Equal ih f =
    mean-constant v W8 0 ∙ ap truth (sym (less-self e w (mean v a))) ∙ ap (λ t. truth (less_number e w (mean v a) (mean v t))) (tree_cmp-equal a b f)
mean-less_unless v again e w a b Less ih f = mean-less_extended v again e w a b (operands_in w a b) ih refl
mean-less_unless v again e w a b Greater ih f = mean-less_extended v again e w a b (operands_in w a b) ih refl

mean-less_step : (v : Valuation) (again : Extension → Width → Tree → Tree → Tree) → IsLess v again → IsLess v (less_step again)
mean-less_step v again ih e w a b =
    mean-on_constants v (less_head e) w a b (less_unless (tree_cmp a b) again e w a b) (is_less v e w a b) (mean-less_unless v again e w a b (tree_cmp a b) ih refl) (number e)
  where
    number : (e : Extension) → is_less v e w a b ≡ low (own_width (less_head e) w) (binary_number (less_head e) w (mean v a) (mean v b))
    number Sign = sym (small_truth W8 (less_signed w (mean v a) (mean v b)))
    number Zero = sym (small_truth W8 (less_unsigned w (mean v a) (mean v b)))

pub mean-less_test : (v : Valuation) (n : ℕ) → IsLess v (less_test n)
unfolding less_test
mean-less_test v zero e w a b = mean-less_parts v e w a b
mean-less_test v (suc n) e w a b = mean-less_step v (less_test n) (mean-less_test v n) e w a b

pub mean-less_than : (v : Valuation) → IsLess v less_than
mean-less_than v e w a b = mean-less_test v 4 e w a b

-- one round
pub less_test-step : (n : ℕ) (e : Extension) (w : Width) (a b : Tree) → 0 < n → less_test n e w a b ≡ less_step (less_test (n - 1)) e w a b
unfolding less_test
less_test-step zero e w a b h = absurd (omega arith)
less_test-step (suc n) e w a b h = ap (λ k. less_step (less_test k) e w a b) (less n)
  where
    less : (n : ℕ) → n ≡ suc n - 1
    less n = omega arith

pub less_test-none : (e : Extension) (w : Width) (a b : Tree) → less_test 0 e w a b ≡ two_parts (less_head e) w a b
unfolding less_test
less_test-none e w a b = refl
