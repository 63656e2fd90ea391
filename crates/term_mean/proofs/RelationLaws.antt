-- Comparisons: a relation as a term is 1 exactly where the relation holds.
use Rattle.std.proofs.Common.{◌≡◌, ℕ, ◌+◌, ◌*◌, ◌-◌, ◌^◌, refl, ◌∙◌, ap, arith, eqb, Bool, true, false, not, bit_xor}
use Rattle.bits64.specs.declared.Width.{Width}
use Rattle.bits64.specs.declared.Width.TheVariants.{W8}
use Rattle.bits64.specs.Words.{bits_of, low, less_signed, less_unsigned}
use Rattle.bits64.specs.Operators.{holds}
use Rattle.term_tree.specs.declared.head.Head.TheVariants as heads
use Rattle.bits64.specs.declared.operator.Relation.{Relation}
use Rattle.bits64.specs.declared.operator.Relation.TheVariants.{Eq, Ne, Lt, Gt, Le, Ge, Ltu, Gtu, Leu, Geu}
use Rattle.term_tree.specs.Tree.{Tree}
use Rattle.term_mean.specs.Meaning.{Valuation, mean, truth}
use Rattle.term_mean.specs.Cuts.{one_part}
use Rattle.term_mean.specs.Shifts.{two_parts}
use Rattle.term_mean.specs.Relations.{difference, opposite_of, related}
use Rattle.term_mean.proofs.Modulo.{same-cut}
use Rattle.term_mean.proofs.RuleLaws.{difference-zero}
use Rattle.term_mean.proofs.TruthLaws.{small_truth}

mean-opposite_of : (v : Valuation) (t : Tree) (b : Bool) → mean v t ≡ truth b → mean v (opposite_of t) ≡ truth (not b)
mean-opposite_of v t b e = ap (λ n. low W8 (bit_xor 1 (bit_xor n 0))) e ∙ flip b
  where
    flip : (b : Bool) → low W8 (bit_xor 1 (bit_xor (truth b) 0)) ≡ truth (not b)
    flip true = refl
    flip false = refl

mean-same : (v : Valuation) (w : Width) (a b : Tree) → mean v (one_part heads.Eq w (difference w a b)) ≡ truth (eqb (low w (mean v a)) (low w (mean v b)))
mean-same v w a b =
    let x : ℕ = mean v a in
    let y : ℕ = mean v b in
    let m : ℕ = 2 ^ bits_of w in
    let plain : 0 + (1 * x + ((m - 1) * y + 0)) ≡ x + (m - 1) * y = omega arith in
    small_truth W8 _ ∙ ap (λ n. truth (eqb n 0)) (same-cut m (0 + (1 * x + ((m - 1) * y + 0))) ∙ ap (low w) plain) ∙ ap truth (difference-zero w x y)

pub mean-related : (v : Valuation) (r : Relation) (w : Width) (a b : Tree) → mean v (related r w a b) ≡ truth (holds r w (mean v a) (mean v b))
mean-related v Eq w a b = mean-same v w a b
mean-related v Ne w a b = mean-opposite_of v (one_part heads.Eq w (difference w a b)) _ (mean-same v w a b)
mean-related v Lt w a b = small_truth W8 (less_signed w (mean v a) (mean v b))
mean-related v Gt w a b = small_truth W8 (less_signed w (mean v b) (mean v a))
mean-related v Le w a b = mean-opposite_of v (two_parts heads.Lt w b a) _ (small_truth W8 (less_signed w (mean v b) (mean v a)))
mean-related v Ge w a b = mean-opposite_of v (two_parts heads.Lt w a b) _ (small_truth W8 (less_signed w (mean v a) (mean v b)))
mean-related v Ltu w a b = small_truth W8 (less_unsigned w (mean v a) (mean v b))
mean-related v Gtu w a b = small_truth W8 (less_unsigned w (mean v b) (mean v a))
mean-related v Leu w a b = mean-opposite_of v (two_parts heads.Ltu w b a) _ (small_truth W8 (less_unsigned w (mean v b) (mean v a)))
mean-related v Geu w a b = mean-opposite_of v (two_parts heads.Ltu w a b) _ (small_truth W8 (less_unsigned w (mean v a) (mean v b)))
