-- A comparison comes to its end in four rounds: each that goes on is at a narrower width.
use Rattle.std.proofs.Common.{◌≡◌, ℕ, zero, suc, ◌<◌, ◌≤◌, refl, ap, arith, Option, Some, None}
use Rattle.std.specs.declared.cmp.Ordering.{Ordering}
use Rattle.std.specs.declared.cmp.Ordering.TheVariants.{Less, Equal, Greater}
use Rattle.bits64.specs.declared.Width.{Width}
use Rattle.bits64.specs.declared.Width.TheVariants.{W8, W16, W32, W64}
use Rattle.bits64.specs.Words.{bits_of}
use Rattle.term_tree.specs.declared.head.Extension.{Extension}
use Rattle.term_tree.specs.Tree.{Tree}
use Rattle.term_tree.specs.Order.{tree_cmp}
use Rattle.term_cuts.specs.term_mean.Meaning.{Valuation}
use Rattle.term_cuts.specs.term_mean.Sums.{constant_in}
use Rattle.term_cuts.specs.term_mean.Shifts.{on_constants}
use Rattle.term_cuts.specs.term_mean.Zero.{Operands, operands_in}
use Rattle.term_cuts.specs.term_mean.Less.{less_head, less_kind, less_extended, less_unless, less_step, less_test, less_than}
use Rattle.term_cuts.proofs.term_mean.OperandLaws.{operands-are}

-- how many widths there are up to one
abbrev depth : Width → ℕ
depth W8 = 1
depth W16 = 2
depth W32 = 3
depth W64 = 4

depth-below : (v w : Width) → bits_of v < bits_of w → depth v < depth w
depth-below W8 W8 h = absurd (omega arith)
depth-below W8 W16 h = omega arith
depth-below W8 W32 h = omega arith
depth-below W8 W64 h = omega arith
depth-below W16 W8 h = absurd (omega arith)
depth-below W16 W16 h = absurd (omega arith)
depth-below W16 W32 h = omega arith
depth-below W16 W64 h = omega arith
depth-below W32 W8 h = absurd (omega arith)
depth-below W32 W16 h = absurd (omega arith)
depth-below W32 W32 h = absurd (omega arith)
depth-below W32 W64 h = omega arith
depth-below W64 W8 h = absurd (omega arith)
depth-below W64 W16 h = absurd (omega arith)
depth-below W64 W32 h = absurd (omega arith)
depth-below W64 W64 h = absurd (omega arith)

depth-some : (w : Width) → 0 < depth w
depth-some W8 = omega arith
depth-some W16 = omega arith
depth-some W32 = omega arith
depth-some W64 = omega arith

depth-four : (w : Width) → depth w ≤ 4
depth-four W8 = omega arith
depth-four W16 = omega arith
depth-four W32 = omega arith
depth-four W64 = omega arith

-- what two terms extend is narrower, whatever they mean
operands-narrower : (w : Width) (a b : Tree) (x : Operands) → operands_in w a b ≡ Some x → depth x.width < depth w
operands-narrower w a b x e =
    let v : Valuation = record { reg = λ n. 0; sym = λ s. 0; memory = λ n i. 0 } in
    depth-below x.width w (operands-are v w a b x e).0

abbrev Comparison : Type 0
Comparison = Extension → Width → Tree → Tree → Tree

abbrev Agree : ℕ → Comparison → Comparison → Type 0
Agree m f g = (e : Extension) (w : Width) (a b : Tree) → depth w < m → f e w a b ≡ g e w a b

same-extended : (f g : Comparison) (e : Extension) (w : Width) (a b : Tree) (o : Option Operands) → Agree (depth w) f g → operands_in w a b ≡ o → less_extended o f e w a b ≡ less_extended o g e w a b
same-extended f g e w a b (Some x) h is = h (less_kind e x.kind) x.width x.left x.right (operands-narrower w a b x is)
same-extended f g e w a b None h is = refl

same-unless : (f g : Comparison) (e : Extension) (w : Width) (a b : Tree) (o : Ordering) → Agree (depth w) f g → less_unless o f e w a b ≡ less_unless o g e w a b
same-unless f g e w a b Equal h = refl
same-unless f g e w a b Less h = same-extended f g e w a b (operands_in w a b) h refl
same-unless f g e w a b Greater h = same-extended f g e w a b (operands_in w a b) h refl

same-step : (f g : Comparison) (e : Extension) (w : Width) (a b : Tree) → Agree (depth w) f g → less_step f e w a b ≡ less_step g e w a b
same-step f g e w a b h = ap (on_constants (constant_in a) (constant_in b) (less_head e) w) (same-unless f g e w a b (tree_cmp a b) h)

-- any two numbers of rounds that reach the narrowest width come to the same
depth-same : (m n : ℕ) (e : Extension) (w : Width) (a b : Tree) → depth w ≤ m → depth w ≤ n → less_test m e w a b ≡ less_test n e w a b
unfolding less_test
depth-same zero n e w a b p q = let some = depth-some w in absurd (omega arith)
depth-same (suc m) zero e w a b p q = let some = depth-some w in absurd (omega arith)
depth-same (suc m) (suc n) e w a b p q =
    same-step (less_test m) (less_test n) e w a b (λ k v s t h. depth-same m n k v s t (omega arith) (omega arith))

pub less_than-enough : (n : ℕ) (e : Extension) (w : Width) (a b : Tree) → 4 ≤ n → less_than e w a b ≡ less_test n e w a b
less_than-enough n e w a b h = let four = depth-four w in depth-same 4 n e w a b four (omega arith)
