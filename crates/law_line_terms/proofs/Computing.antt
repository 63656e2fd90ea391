-- What a line computes: the number of the term is what the line writes.
use Rattle.std.proofs.Common.{◌≡◌, ℕ, ◌^◌, ◌<◌, Bool, true, false, [], ◌∷◌, refl, sym, ◌∙◌, ap, arith}
use Rattle.std.specs.Prelude.{if◌then◌else◌}
use Rattle.std.proofs.Math.Nat.{mod-mod, mod-eq_of_lt}
use Rattle.bits64.specs.declared.Width.{Width}
use Rattle.bits64.specs.declared.Width.TheVariants.{W8, W16, W32, W64}
use Rattle.bits64.specs.declared.operator.Operator.{Operator}
use Rattle.bits64.specs.Words.{bits_of, low, signed, wrapped, sign_extended}
use Rattle.bits64.proofs.Operators.{wrapped_below, number_same}
use Rattle.rv_line.specs.Step as line
use Rattle.term_tree.specs.declared.head.Head.TheVariants as heads
use Rattle.term_tree.specs.Tree.{Tree}
use Rattle.term_tree.specs.Form.{same_width}
use Rattle.term_mean.specs.Meaning.{Valuation, mean}
use Rattle.term_mean.specs.Compared.{low_bits}
use Rattle.term_mean.proofs.CutLaws.{low-low}
use Rattle.term_mean.proofs.NormalLaws.{mean-built}
use Rattle.term_mean.proofs.ComparedLaws.{mean-low_bits}
use Rattle.bits64.proofs.Readings.{by_half}
use Rattle.sym_lines.specs.sym_state.Makers as makers
use Rattle.sym_lines.specs.sym_state.Makers.{term_of}
use Rattle.sym_lines.specs.Compute as spec
use Rattle.law_insn_terms.proofs.Operations.{Makes, mean_below, made}
use Rattle.law_insn_terms.proofs.Parts.{at_most_64}

-- all 64 bits with their sign above are themselves
pub extended_whole : (a : ℕ) → a < 2 ^ 64 → sign_extended W64 a ≡ a
extended_whole a fits = by_half (λ z. wrapped W64 z ≡ a) W64 a (λ low_half. omega (arith, fits)) (λ high_half. omega (arith, fits, high_half))

-- a width is 64 where it is as wide
pub is_64 : (w : Width) → same_width w W64 ≡ true → w ≡ W64
is_64 W8 e = absurd (let no : ⊥ = cc in no)
is_64 W16 e = absurd (let no : ⊥ = cc in no)
is_64 W32 e = absurd (let no : ⊥ = cc in no)
is_64 W64 e = refl

signed_made : (v : Valuation) (w : Width) (t : Tree) (n : ℕ) (whole : Bool) → same_width w W64 ≡ whole → Makes v n t w →
    mean v (if whole then t else makers.one [] heads.Sext W64 t) ≡ sign_extended w n
signed_made v w t n true is makes =
    let less : mean v t < 2 ^ 64 = mean_below v W64 t (makes.width_is ∙ is_64 w is) in
    sym (extended_whole (mean v t) less) ∙ ap (sign_extended W64) (sym makes.number_is) ∙ ap (λ u. sign_extended u n) (sym (is_64 w is))
signed_made v w t n false is makes =
    mean-built v [] heads.Sext W64 0 [] (t ∷ []) tt
    ∙ ap (λ u. low W64 (sign_extended u (mean v t))) makes.width_is
    ∙ ap (λ n. low W64 (sign_extended w n)) (sym makes.number_is)
    ∙ mod-eq_of_lt (wrapped_below W64 (signed w n))

-- what a line computes of two terms of 64 bits that have the low bits of what the line reads
pub computed_made : (v : Valuation) (o : Operator) (w : Width) (a b : Tree) (m n : ℕ) → low W64 m ≡ mean v a → low W64 n ≡ mean v b →
    mean v (spec.computed o w a b) ≡ line.computed o w m n
computed_made v o w a b m n left right =
    signed_made v w (term_of [] o w (low_bits w a) (low_bits w b)) _ (same_width w W64) refl (made v [] o w (low_bits w a) (low_bits w b) tt)
    ∙ ap (sign_extended w) (number_same o w _ m _ n (part a m left) (part b n right))
  where
    part : (t : Tree) (k : ℕ) → low W64 k ≡ mean v t → low w (mean v (low_bits w t)) ≡ low w k
    part t k is = ap (low w) (mean-low_bits v w t ∙ ap (low w) (sym is) ∙ low-low w W64 k (at_most_64 w)) ∙ mod-mod k (2 ^ bits_of w)
