-- Operators on bits with a constant. A line reads all 64 bits, also where the instruction has 32.
use Rattle.std.proofs.Common.{◌≡◌, ℕ, ◌-◌, ◌^◌, ◌==◌, Bool, true, false, if◌then◌else◌, Option, Some, None, refl, sym, ◌∙◌, ap, subst, arith, [], ◌∷◌}
use Rattle.bits64.specs.declared.Width.{Width}
use Rattle.bits64.specs.declared.Width.TheVariants.{W8, W16, W32, W64}
use Rattle.bits64.specs.Words.{low}
use Rattle.bits64.specs.declared.operator.Operator.TheVariants as operators
use Rattle.rtx_tree.specs.declared.code.Code.TheVariants as code
use Rattle.term_tree.specs.declared.head.Head.TheVariants as heads
use Rattle.term_tree.specs.declared.head.Joint.{Joint}
use Rattle.term_tree.specs.declared.head.Joint.TheVariants.{And, Ior, Xor}
use Rattle.term_tree.specs.Tree.{Tree, Sum, no_atoms}
use Rattle.term_tree.proofs.OrderLaws.{eqb-true}
use Rattle.term_mean.specs.Sums.{constant}
use Rattle.term_mean.specs.Joints.{plain, with_constant, join, start}
use Rattle.term_mean.specs.Masks.{cut_8, cut_16, cut_32, made_32, made_64, masked, narrow_64}
use Rattle.term_mean.specs.Compared.{low_bits}
use Rattle.term_mean.proofs.CutLaws.{low-low}
use Rattle.term_mean.proofs.JoinedLaws.{join-start_right}
use Rattle.term_mean.proofs.NormalWidths.{width-built}
use Rattle.sym_state.specs.Makers.{two}
use Rattle.law_plain_terms.specs.Rows.{part, whole, WithConstant}
use Rattle.law_plain_terms.proofs.Back.{low_same, low_constant_32}

-- ---- 64 bits

pub andi_64 : WithConstant operators.And W64 code.And W64
andi_64 a c = low_same W64 (two [] heads.And W64 (whole a) (constant W64 c)) (width-built [] heads.And W64 0 [] (whole a ∷ constant W64 c ∷ []))

pub ori_64 : WithConstant operators.Ior W64 code.Ior W64
ori_64 a c = low_same W64 (two [] heads.Ior W64 (whole a) (constant W64 c)) (width-built [] heads.Ior W64 0 [] (whole a ∷ constant W64 c ∷ []))

pub xori_64 : WithConstant operators.Xor W64 code.Xor W64
xori_64 a c = low_same W64 (two [] heads.Xor W64 (whole a) (constant W64 c)) (width-built [] heads.Xor W64 0 [] (whole a ∷ constant W64 c ∷ []))

-- ---- 32 bits: what cutting makes of a register with a constant of 64 bits

-- what is made of them at 32 bits
abbrev at_32 : Joint → ℕ → ℕ → Tree
at_32 j a n = made_32 j (part W32 a ∷ constant W32 n ∷ [])

-- the two as they stand
and_stands : (a n : ℕ) → low_bits W32 (with_constant And W64 n (whole a ∷ [])) ≡ at_32 And a n
unfolding cut_32
and_stands a n = ap (λ t. made_32 And (part W32 a ∷ t ∷ [])) (low_constant_32 n)

or_stands : (a n : ℕ) → low_bits W32 (with_constant Ior W64 n (whole a ∷ [])) ≡ at_32 Ior a n
unfolding cut_32
or_stands a n = ap (λ t. made_32 Ior (part W32 a ∷ t ∷ [])) (low_constant_32 n)

xor_stands : (a n : ℕ) → low_bits W32 (with_constant Xor W64 n (whole a ∷ [])) ≡ at_32 Xor a n
unfolding cut_32
xor_stands a n = ap (λ t. made_32 Xor (part W32 a ∷ t ∷ [])) (low_constant_32 n)

-- by what the constant is: it absorbs the register, it changes nothing, or it stands
abbrev finished_by : Joint → Bool → Bool → ℕ → ℕ → Tree
finished_by j x y n a =
    if x then constant W64 n else (if y then plain j W64 (whole a ∷ []) else with_constant j W64 n (whole a ∷ []))

and_finished : (x y : Bool) (n a : ℕ) → (n == 0) ≡ x → (n == 2 ^ 64 - 1) ≡ y → low_bits W32 (finished_by And x y n a) ≡ at_32 And a n
unfolding cut_32 made_32
and_finished true y n a e f = subst (λ m. low_bits W32 (constant W64 m) ≡ at_32 And a m) (sym (eqb-true n 0 e)) refl
and_finished false true n a e f = subst (λ m. low_bits W32 (whole a) ≡ at_32 And a m) (sym (eqb-true n (2 ^ 64 - 1) f)) refl
and_finished false false n a e f = and_stands a n

or_finished : (x y : Bool) (n a : ℕ) → (n == 2 ^ 64 - 1) ≡ x → (n == 0) ≡ y → low_bits W32 (finished_by Ior x y n a) ≡ at_32 Ior a n
unfolding cut_32 made_32
or_finished true y n a e f = subst (λ m. low_bits W32 (constant W64 m) ≡ at_32 Ior a m) (sym (eqb-true n (2 ^ 64 - 1) e)) refl
or_finished false true n a e f = subst (λ m. low_bits W32 (whole a) ≡ at_32 Ior a m) (sym (eqb-true n 0 f)) refl
or_finished false false n a e f = or_stands a n

xor_finished : (y : Bool) (n a : ℕ) → (n == 0) ≡ y → low_bits W32 (finished_by Xor false y n a) ≡ at_32 Xor a n
unfolding cut_32 made_32
xor_finished true n a f = subst (λ m. low_bits W32 (whole a) ≡ at_32 Xor a m) (sym (eqb-true n 0 f)) refl
xor_finished false n a f = xor_stands a n

-- a mask of 8, 16 or 32 ones is an extension by zeros
abbrev mask_by : Bool → Bool → Bool → Option Width
mask_by p q r = if p then Some W8 else (if q then Some W16 else (if r then Some W32 else None))

and_masked : (p q r : Bool) (n a : ℕ) → (n == 2 ^ 8 - 1) ≡ p → (n == 2 ^ 16 - 1) ≡ q → (n == 2 ^ 32 - 1) ≡ r →
    low_bits W32 (masked (mask_by p q r) narrow_64 W64 n (whole a ∷ [])) ≡ at_32 And a n
unfolding cut_8 cut_16 cut_32 made_32
and_masked true q r n a e f g = subst (λ m. low_bits W32 (masked (Some W8) narrow_64 W64 m (whole a ∷ [])) ≡ at_32 And a m) (sym (eqb-true n (2 ^ 8 - 1) e)) refl
and_masked false true r n a e f g = subst (λ m. low_bits W32 (masked (Some W16) narrow_64 W64 m (whole a ∷ [])) ≡ at_32 And a m) (sym (eqb-true n (2 ^ 16 - 1) f)) refl
and_masked false false true n a e f g = subst (λ m. low_bits W32 (masked (Some W32) narrow_64 W64 m (whole a ∷ [])) ≡ at_32 And a m) (sym (eqb-true n (2 ^ 32 - 1) g)) refl
and_masked false false false n a e f g = and_finished (n == 0) (n == 2 ^ 64 - 1) n a refl refl

-- ---- the constant is the instruction's, cut to 32 bits

-- the constant of 64 bits, gathered
abbrev number : Joint → ℕ → ℕ
number j c = low W64 (join j (low W64 (low W64 c)) (start j))

low_number : (j : Joint) (c : ℕ) → low W32 (number j c) ≡ low W32 c
low_number j c = ap (low W32) (join-start_right j W64 (low W64 (low W64 c))) ∙ (low-low W32 W64 (low W64 (low W64 c)) (omega arith) ∙ (low-low W32 W64 (low W64 c) (omega arith) ∙ low-low W32 W64 c (omega arith)))

same_number : (j : Joint) (a c : ℕ) → at_32 j a (number j c) ≡ at_32 j a c
same_number j a c = ap (λ n. made_32 j (part W32 a ∷ Sum W32 n no_atoms ∷ [])) (low_number j c)

pub andi_32 : WithConstant operators.And W64 code.And W32
unfolding made_64
andi_32 a c = let n = number And c in and_masked (n == 2 ^ 8 - 1) (n == 2 ^ 16 - 1) (n == 2 ^ 32 - 1) n a refl refl refl ∙ same_number And a c

pub ori_32 : WithConstant operators.Ior W64 code.Ior W32
unfolding made_64
ori_32 a c = let n = number Ior c in or_finished (n == 2 ^ 64 - 1) (n == 0) n a refl refl ∙ same_number Ior a c

pub xori_32 : WithConstant operators.Xor W64 code.Xor W32
unfolding made_64
xori_32 a c = let n = number Xor c in xor_finished (n == 0) n a refl ∙ same_number Xor a c
