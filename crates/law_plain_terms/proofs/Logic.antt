-- Operators on bits. A line reads all 64 bits, also where the instruction has 32.
use Rattle.std.proofs.Common.{◌≡◌, ℕ, suc, refl, ap, [], ◌∷◌}
use Rattle.std.specs.declared.cmp.Ordering.{Ordering}
use Rattle.std.specs.declared.cmp.Ordering.TheVariants.{Less, Equal, Greater}
use Rattle.std.specs.Ordering.{nat_cmp, ordering_then, ordering_reverse}
use Rattle.std.proofs.lemmas.Cmp.{nat_cmp_total}
use Rattle.bits64.specs.declared.Width.TheVariants.{W32, W64}
use Rattle.bits64.specs.declared.operator.Operator.TheVariants as operators
use Rattle.rtx_tree.specs.declared.code.Code.TheVariants as code
use Rattle.term_tree.specs.declared.head.Head.TheVariants as heads
use Rattle.term_tree.specs.declared.head.Joint.{Joint}
use Rattle.term_tree.specs.declared.head.Joint.TheVariants.{And, Ior, Xor}
use Rattle.term_tree.specs.Tree.{Tree}
use Rattle.term_mean.specs.Joints.{plain, put}
use Rattle.term_mean.specs.Masks.{cut_32, made_32, made_64}
use Rattle.term_mean.specs.Compared.{low_bits}
use Rattle.term_mean.proofs.NormalWidths.{width-built}
use Rattle.sym_state.specs.Makers.{two}
use Rattle.law_plain_terms.specs.Rows.{part, whole, OfRegisters}
use Rattle.law_plain_terms.proofs.Back.{low_same}

-- ---- 64 bits

pub and_64 : OfRegisters operators.And W64 code.And W64
and_64 a b = low_same W64 (two [] heads.And W64 (whole a) (whole b)) (width-built [] heads.And W64 0 [] (whole a ∷ whole b ∷ []))

pub or_64 : OfRegisters operators.Ior W64 code.Ior W64
or_64 a b = low_same W64 (two [] heads.Ior W64 (whole a) (whole b)) (width-built [] heads.Ior W64 0 [] (whole a ∷ whole b ∷ []))

pub xor_64 : OfRegisters operators.Xor W64 code.Xor W64
xor_64 a b = low_same W64 (two [] heads.Xor W64 (whole a) (whole b)) (width-built [] heads.Xor W64 0 [] (whole a ∷ whole b ∷ []))

-- ---- 32 bits: by the order of the two registers' numbers

-- the order of two registers' low bits, by that of their numbers
abbrev of_part : Ordering → Ordering
of_part o = ordering_then (ordering_then o Equal) Equal

-- two parts and then one, by the order of the second and the first
abbrev joined_32 : Joint → Ordering → ℕ → ℕ → Tree
joined_32 j o a b = plain j W32 (put j (of_part o) (part W32 b) (part W32 a) [] (part W32 b ∷ []))

abbrev joined_64 : Joint → Ordering → ℕ → ℕ → Tree
joined_64 j o a b = plain j W64 (put j (ordering_then o Equal) (whole b) (whole a) [] (whole b ∷ []))

and_by : (o : Ordering) (a b : ℕ) → nat_cmp (suc b) (suc a) ≡ o → nat_cmp (suc a) (suc b) ≡ ordering_reverse o →
    low_bits W32 (joined_64 And o a b) ≡ joined_32 And o a b
unfolding cut_32 made_32
and_by Less a b e r = ap (λ p. joined_32 And p b a) r
and_by Equal a b e r = refl
and_by Greater a b e r = ap (λ p. joined_32 And p a b) e

or_by : (o : Ordering) (a b : ℕ) → nat_cmp (suc b) (suc a) ≡ o → nat_cmp (suc a) (suc b) ≡ ordering_reverse o →
    low_bits W32 (joined_64 Ior o a b) ≡ joined_32 Ior o a b
unfolding cut_32 made_32
or_by Less a b e r = ap (λ p. joined_32 Ior p b a) r
or_by Equal a b e r = refl
or_by Greater a b e r = ap (λ p. joined_32 Ior p a b) e

xor_by : (o : Ordering) (a b : ℕ) → nat_cmp (suc b) (suc a) ≡ o → nat_cmp (suc a) (suc b) ≡ ordering_reverse o →
    low_bits W32 (joined_64 Xor o a b) ≡ joined_32 Xor o a b
unfolding cut_32 made_32
xor_by Less a b e r = ap (λ p. joined_32 Xor p b a) r
xor_by Equal a b e r = refl
xor_by Greater a b e r = ap (λ p. joined_32 Xor p a b) e

pub and_32 : OfRegisters operators.And W64 code.And W32
unfolding cut_32 made_32 made_64
and_32 a b = and_by (nat_cmp (suc b) (suc a)) a b refl (nat_cmp_total.antisymm (suc a) (suc b))

pub or_32 : OfRegisters operators.Ior W64 code.Ior W32
unfolding cut_32 made_32 made_64
or_32 a b = or_by (nat_cmp (suc b) (suc a)) a b refl (nat_cmp_total.antisymm (suc a) (suc b))

pub xor_32 : OfRegisters operators.Xor W64 code.Xor W32
unfolding cut_32 made_32 made_64
xor_32 a b = xor_by (nat_cmp (suc b) (suc a)) a b refl (nat_cmp_total.antisymm (suc a) (suc b))
