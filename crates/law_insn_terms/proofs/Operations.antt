-- What operators make of terms: the number of the term is the operator's on the numbers of its parts.
use Rattle.std.proofs.Common.{◌≡◌, ℕ, ◌-◌, ◌%◌, ◌^◌, ◌<◌, Bool, true, false, List, [], ◌∷◌, refl, sym, ◌∙◌, ap, arith}
use Rattle.std.specs.Prelude.{if◌then◌else◌, bit_and, bit_or, bit_xor}
use Rattle.std.proofs.Math.Nat.{mod-lt}
use Rattle.std.proofs.lemmas.Nat.{pow_pos, and_mask, and_mod, or_comm}
use lib.Bits.{xor_zero_r}
use Rattle.bits64.specs.declared.Width.{Width}
use Rattle.bits64.specs.declared.Width.TheVariants.{W8, W16, W32, W64}
use Rattle.bits64.specs.declared.operator.Opaque.{Opaque}
use Rattle.bits64.specs.declared.operator.Operator.{Operator}
use Rattle.bits64.specs.declared.operator.Operator.TheVariants as op
use Rattle.bits64.specs.declared.operator.Relation.{Relation}
use Rattle.bits64.specs.declared.operator.Relation.TheVariants as relation
use Rattle.bits64.specs.declared.operator.Taking.{Taking}
use Rattle.bits64.specs.declared.operator.Taking.TheVariants.{Alone, Pair, Counted}
use Rattle.bits64.specs.Words.{bits_of, low, sign_extended, zero_extended}
use Rattle.bits64.specs.Operators.{number, holds, opaque_number, opaque_taking}
use Rattle.bits64.proofs.Operators.{number_is_low, opaque_alone}
use Rattle.term_tree.specs.declared.head.Head.{Head}
use Rattle.term_tree.specs.declared.head.Head.TheVariants as heads
use Rattle.term_tree.specs.Tree.{Tree, width_of, own_width}
use Rattle.term_tree.specs.Form.{same_width}
use Rattle.term_mean.specs.Meaning.{Valuation, mean, truth, applied}
use Rattle.term_mean.specs.Stores.{Store, Stored}
use Rattle.term_mean.specs.Sums.{constant}
use Rattle.term_mean.specs.Less.{less_than}
use Rattle.term_tree.specs.declared.head.Extension.TheVariants.{Zero, Sign}
use Rattle.term_mean.specs.Compared.{compared}
use Rattle.term_mean.proofs.SumLaws.{mean-summed, mean-cut}
use Rattle.term_mean.proofs.NormalLaws.{mean-built}
use Rattle.term_mean.proofs.NormalWidths.{width-built, width-equals_zero}
use Rattle.term_mean.proofs.Widths.{width-summed}
use Rattle.term_mean.proofs.ComparedLaws.{mean-compared}
use Rattle.term_mean.proofs.CutLaws.{low-low}
use Rattle.term_mean.proofs.TruthLaws.{small_truth}
use Rattle.term_mean.specs.Truths.{opposite}
use Rattle.sym_insns.specs.sym_state.Makers as makers
use Rattle.sym_insns.specs.sym_state.Makers.{minus_one, term_of, opaque_term}
use Rattle.law_insn_terms.proofs.Numbers.{negated, complemented, added, subtracted, multiplied}
use Rattle.law_insn_terms.proofs.Parts.{at_most_64}

-- a term that an operation makes: its number, and its width
pub record Makes (v : Valuation) (number : ℕ) (t : Tree) (w : Width) : Type 0 where
  pub number_is : number ≡ mean v t
  pub width_is : width_of t ≡ w

-- a term of a width has a number of that width
pub mean_below : (v : Valuation) (w : Width) (t : Tree) → width_of t ≡ w → mean v t < 2 ^ bits_of w
mean_below v w t is =
    let cut : mean v t % 2 ^ bits_of w ≡ mean v t = ap (λ u. mean v t % 2 ^ bits_of u) (sym is) ∙ mean-cut v t in
    let less : mean v t % 2 ^ bits_of w < 2 ^ bits_of w = mod-lt (mean v t) (pow_pos (bits_of w)) in
    omega (arith, cut, less)

-- ---- nodes of one part and of two, whose operation has the number

one_made : (v : Valuation) (stores : List Store) (h : Head) (w : Width) (a : Tree) (number : ℕ) → Stored v stores → own_width h w ≡ w →
    number ≡ low (own_width h w) (applied v h w 0 [] ((width_of a, mean v a) ∷ [])) → Makes v number (makers.one stores h w a) w
one_made v stores h w a number stored own is = record {
  number_is = is ∙ sym (mean-built v stores h w 0 [] (a ∷ []) stored);
  width_is = width-built stores h w 0 [] (a ∷ []) ∙ own;
}

two_made : (v : Valuation) (stores : List Store) (h : Head) (w : Width) (a b : Tree) (number : ℕ) → Stored v stores → own_width h w ≡ w →
    number ≡ low (own_width h w) (applied v h w 0 [] ((width_of a, mean v a) ∷ (width_of b, mean v b) ∷ [])) →
    Makes v number (makers.two stores h w a b) w
two_made v stores h w a b number stored own is = record {
  number_is = is ∙ sym (mean-built v stores h w 0 [] (a ∷ b ∷ []) stored);
  width_is = width-built stores h w 0 [] (a ∷ b ∷ []) ∙ own;
}

-- ---- operators on bits

and_number : (w : Width) (a b : ℕ) → low w (bit_and a b) ≡ low w (bit_and a (bit_and b (2 ^ 64 - 1)))
and_number w a b =
    and_mod a b (bits_of w)
    ∙ ap (bit_and (low w a)) (sym (low-low w W64 b (at_most_64 w)))
    ∙ sym (and_mod a (b % 2 ^ 64) (bits_of w))
    ∙ ap (λ n. low w (bit_and a n)) (sym (and_mask b 64))

or_number : (w : Width) (a b : ℕ) → low w (bit_or a b) ≡ low w (bit_or a (bit_or b 0))
or_number w a b = ap (λ n. low w (bit_or a n)) (or_comm 0 b)

xor_number : (w : Width) (a b : ℕ) → low w (bit_xor a b) ≡ low w (bit_xor a (bit_xor b 0))
xor_number w a b = ap (λ n. low w (bit_xor a n)) (sym (xor_zero_r b))

-- ---- conversions: the part is as wide as it says

pub sign_made : (v : Valuation) (stores : List Store) (own w : Width) (a : Tree) → Stored v stores → width_of a ≡ own → Makes v (low w (sign_extended own (mean v a))) (makers.one stores heads.Sext w a) w
sign_made v stores own w a stored is = one_made v stores heads.Sext w a _ stored refl (ap (λ u. low w (sign_extended u (mean v a))) (sym is))

pub zero_made : (v : Valuation) (stores : List Store) (own w : Width) (a : Tree) → Stored v stores → width_of a ≡ own → Makes v (low w (zero_extended own (mean v a))) (makers.one stores heads.Zext w a) w
zero_made v stores own w a stored is = one_made v stores heads.Zext w a _ stored refl (ap (λ u. low w (zero_extended u (mean v a))) (sym is))

pub truncate_made : (v : Valuation) (stores : List Store) (w : Width) (a : Tree) → Stored v stores → Makes v (low w (mean v a)) (makers.one stores heads.Trunc w a) w
truncate_made v stores w a stored = one_made v stores heads.Trunc w a _ stored refl refl

-- ---- comparisons

less_width : (w : Width) (a b : Tree) → width_of (less_than Sign w a b) ≡ W8
less_width w a b = width-built [] heads.Lt w 0 [] (a ∷ b ∷ [])

less_unsigned_width : (w : Width) (a b : Tree) → width_of (less_than Zero w a b) ≡ W8
less_unsigned_width w a b = width-built [] heads.Ltu w 0 [] (a ∷ b ∷ [])

opposite_width : (t : Tree) → width_of (opposite t) ≡ W8
opposite_width t = width-built [] heads.Xor W8 0 [] (constant W8 1 ∷ t ∷ [])

compared_width : (r : Relation) (w : Width) (a b : Tree) → width_of (compared r w a b) ≡ W8
compared_width relation.Eq w a b = width-equals_zero w _
compared_width relation.Ne w a b = opposite_width _
compared_width relation.Lt w a b = less_width w a b
compared_width relation.Gt w a b = less_width w b a
compared_width relation.Le w a b = opposite_width _
compared_width relation.Ge w a b = opposite_width _
compared_width relation.Ltu w a b = less_unsigned_width w a b
compared_width relation.Gtu w a b = less_unsigned_width w b a
compared_width relation.Leu w a b = opposite_width _
compared_width relation.Geu w a b = opposite_width _

widened : (v : Valuation) (stores : List Store) (w : Width) (t : Tree) (b : Bool) → Stored v stores → mean v t ≡ truth b → width_of t ≡ W8 → (same : Bool) → same_width w W8 ≡ same →
    Makes v (truth b) (if same then t else makers.one stores heads.Zext w t) w
widened v stores w t b stored is width true same = record { number_is = sym is; width_is = width ∙ eight w same }
  where
    eight : (w : Width) → same_width w W8 ≡ true → W8 ≡ w
    eight W8 e = refl
    eight W16 e = absurd (let no : ⊥ = cc in no)
    eight W32 e = absurd (let no : ⊥ = cc in no)
    eight W64 e = absurd (let no : ⊥ = cc in no)
widened v stores w t b stored is width false same =
    one_made v stores heads.Zext w t (truth b) stored refl
    (sym (small_truth w b) ∙ ap (λ n. low w n) (sym (small_truth W8 b) ∙ ap (λ n. low W8 n) (sym is) ∙ ap (λ u. zero_extended u (mean v t)) (sym width)))

pub related_made : (v : Valuation) (stores : List Store) (r : Relation) (own w : Width) (a b : Tree) → Stored v stores →
    Makes v (truth (holds r own (mean v a) (mean v b))) (makers.related stores r own w a b) w
related_made v stores r own w a b stored =
    widened v stores w (compared r own a b) (holds r own (mean v a) (mean v b)) stored (mean-compared v r own a b) (compared_width r own a b) (same_width w W8) refl

-- ---- all operators

opaque_made : (v : Valuation) (stores : List Store) (o : Opaque) (w : Width) (a b : Tree) → Stored v stores →
    Makes v (opaque_number o w (mean v a) (mean v b)) (opaque_term (opaque_taking o) stores o w a b) w
opaque_made v stores o w a b stored = go (opaque_taking o) refl
  where
    fits : opaque_number o w (mean v a) (mean v b) ≡ low w (opaque_number o w (mean v a) (mean v b))
    fits = number_is_low (op.Opaque o) w (mean v a) (mean v b)

    go : (t : Taking) → opaque_taking o ≡ t → Makes v (opaque_number o w (mean v a) (mean v b)) (opaque_term t stores o w a b) w
    go Alone is = one_made v stores (heads.Opaque o) w a _ stored refl (fits ∙ ap (low w) (opaque_alone o w (mean v a) (mean v b) 0 is))
    go Pair is = two_made v stores (heads.Opaque o) w a b _ stored refl fits
    go Counted is = two_made v stores (heads.Opaque o) w a b _ stored refl fits

pub made : (v : Valuation) (stores : List Store) (o : Operator) (w : Width) (a b : Tree) → Stored v stores →
    Makes v (number o w (mean v a) (mean v b)) (term_of stores o w a b) w
made v stores op.Add w a b stored = record {
  number_is = added w (mean v a) (mean v b) ∙ sym (mean-summed v w 0 ((1, a) ∷ (1, b) ∷ []));
  width_is = width-summed w 0 ((1, a) ∷ (1, b) ∷ []);
}
made v stores op.Sub w a b stored = record {
  number_is = subtracted w (mean v a) (mean v b) ∙ sym (mean-summed v w 0 ((1, a) ∷ (minus_one w, b) ∷ []));
  width_is = width-summed w 0 ((1, a) ∷ (minus_one w, b) ∷ []);
}
made v stores op.Neg w a b stored = record {
  number_is = negated w (mean v a) ∙ sym (mean-summed v w 0 ((minus_one w, a) ∷ []));
  width_is = width-summed w 0 ((minus_one w, a) ∷ []);
}
made v stores op.Not w a b stored = record {
  number_is = complemented w (mean v a) ∙ sym (mean-summed v w (minus_one w) ((minus_one w, a) ∷ []));
  width_is = width-summed w (minus_one w) ((minus_one w, a) ∷ []);
}
made v stores op.Mul w a b stored = two_made v stores heads.Mul w a b _ stored refl (multiplied w (mean v a) (mean v b))
made v stores op.And w a b stored = two_made v stores heads.And w a b _ stored refl (and_number w (mean v a) (mean v b))
made v stores op.Ior w a b stored = two_made v stores heads.Ior w a b _ stored refl (or_number w (mean v a) (mean v b))
made v stores op.Xor w a b stored = two_made v stores heads.Xor w a b _ stored refl (xor_number w (mean v a) (mean v b))
made v stores op.Shl w a b stored = two_made v stores heads.Shl w a b _ stored refl (number_is_low op.Shl w (mean v a) (mean v b))
made v stores op.Shr w a b stored = two_made v stores heads.Shr w a b _ stored refl (number_is_low op.Shr w (mean v a) (mean v b))
made v stores op.Sar w a b stored = two_made v stores heads.Sar w a b _ stored refl (number_is_low op.Sar w (mean v a) (mean v b))
made v stores (op.Test r) w a b stored = related_made v stores r w w a b stored
made v stores (op.Opaque o) w a b stored = opaque_made v stores o w a b stored
