-- The value of 32 bits of an operation, extended by its sign, is what a line on 32 bits writes.
use Rattle.std.proofs.Common.{◌≡◌, ℕ, refl, ap, ◌∙◌, [], ◌∷◌}
use Rattle.bits64.specs.declared.Width.TheVariants.{W8, W32, W64}
use Rattle.bits64.specs.declared.operator.Operator.TheVariants as operators
use Rattle.rtx_tree.specs.declared.code.Code.TheVariants as code
use Rattle.term_tree.specs.declared.head.Head.{Head}
use Rattle.term_tree.specs.declared.head.Head.TheVariants as heads
use Rattle.term_tree.specs.Tree.{Tree}
use Rattle.term_mean.specs.Sums.{constant, summed}
use Rattle.term_mean.specs.Shifts.{shifted, shifted_by}
use Rattle.term_mean.specs.Masks.{cut_8, cut_32}
use Rattle.term_mean.specs.Compared.{low_bits}
use Rattle.term_mean.proofs.NormalWidths.{width-built}
use Rattle.sym_state.specs.Makers.{minus_one}
use Rattle.law_plain_terms.specs.Rows.{part, Extends, ExtendsShift, ExtendsWith}
use Rattle.law_plain_terms.proofs.Shifts.{whole_count}
use Rattle.law_plain_terms.proofs.Back.{extended_64, low_same, low_constant_32, low_constant_8}

-- an extension has 64 bits
whole_64 : (t : Tree) → low_bits W64 (extended_64 t) ≡ extended_64 t
whole_64 t = low_same W64 (extended_64 t) (width-built [] heads.Sext W64 0 [] (t ∷ []))

pub add_x : Extends operators.Add code.Plus
add_x a b = whole_64 (summed W32 0 ((1, part W32 a) ∷ (1, part W32 b) ∷ []))

pub sub_x : Extends operators.Sub code.Minus
sub_x a b = whole_64 (summed W32 0 ((1, part W32 a) ∷ (minus_one W32, part W32 b) ∷ []))

pub addi_x : ExtendsWith operators.Add code.Plus W32
addi_x a n = whole_64 (summed W32 0 ((1, part W32 a) ∷ (1, low_bits W32 (constant W64 n)) ∷ [])) ∙ ap (λ t. extended_64 (summed W32 0 ((1, part W32 a) ∷ (1, t) ∷ []))) (low_constant_32 n)

-- ---- shifts

-- what a constant count is, once cut to 32 bits and then to 8
count_x : (h : Head) (a n : ℕ) → low_bits W64 (extended_64 (shifted h W32 (part W32 a) (low_bits W32 (constant W64 n)))) ≡ extended_64 (shifted h W32 (part W32 a) (constant W8 n))
count_x h a n = whole_64 (shifted h W32 (part W32 a) (low_bits W32 (constant W64 n))) ∙ (ap (λ t. extended_64 (shifted h W32 (part W32 a) t)) (low_constant_32 n) ∙ ap (λ t. extended_64 (shifted_by h W32 (part W32 a) t)) (low_constant_8 n))

pub slli_x : ExtendsWith operators.Shl code.Ashift W64
slli_x a n = count_x heads.Shl a n ∙ ap extended_64 (whole_count heads.Shl W32 (part W32 a) n)

pub srli_x : ExtendsWith operators.Shr code.Lshiftrt W64
srli_x a n = count_x heads.Shr a n ∙ ap extended_64 (whole_count heads.Shr W32 (part W32 a) n)

pub srai_x : ExtendsWith operators.Sar code.Ashiftrt W64
srai_x a n = count_x heads.Sar a n ∙ ap extended_64 (whole_count heads.Sar W32 (part W32 a) n)

-- ---- and by a register

pub sll_x : ExtendsShift operators.Shl code.Ashift
unfolding cut_8 cut_32
sll_x a b = refl

pub srl_x : ExtendsShift operators.Shr code.Lshiftrt
unfolding cut_8 cut_32
srl_x a b = refl

pub sra_x : ExtendsShift operators.Sar code.Ashiftrt
unfolding cut_8 cut_32
sra_x a b = refl
