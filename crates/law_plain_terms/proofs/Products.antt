-- Products, quotients and remainders.
use Rattle.std.proofs.Common.{ℕ, refl, [], ◌∷◌}
use Rattle.std.specs.declared.cmp.Ordering.{Ordering}
use Rattle.std.specs.declared.cmp.Ordering.TheVariants.{Less, Equal, Greater}
use Rattle.bits64.specs.declared.Width.TheVariants.{W32, W64}
use Rattle.bits64.specs.declared.operator.Operator.TheVariants as operators
use Rattle.bits64.specs.declared.operator.Opaque.TheVariants as opaque
use Rattle.rtx_tree.specs.declared.code.Code.TheVariants as code
use Rattle.term_tree.specs.declared.head.Head.TheVariants as heads
use Rattle.term_tree.specs.declared.head.Joint.TheVariants.{Mul}
use Rattle.term_tree.specs.Order.{tree_cmp}
use Rattle.term_mean.specs.Joints.{plain, put}
use Rattle.term_mean.specs.Masks.{cut_32, made_32}
use Rattle.term_mean.proofs.NormalWidths.{width-built}
use Rattle.sym_state.specs.Makers.{two}
use Rattle.law_plain_terms.specs.Rows.{part, whole, OfRegisters}
use Rattle.law_plain_terms.proofs.Back.{Back, low_same}

back_mul : (o : Ordering) (a b : ℕ) → Back (plain Mul W32 (put Mul o (part W32 b) (part W32 a) [] (part W32 b ∷ [])))
unfolding cut_32
back_mul Less a b = refl
back_mul Equal a b = refl
back_mul Greater a b = refl

pub mul_32 : OfRegisters operators.Mul W32 code.Mult W32
unfolding cut_32 made_32
mul_32 a b = back_mul (tree_cmp (part W32 b) (part W32 a)) a b

pub mul_64 : OfRegisters operators.Mul W64 code.Mult W64
mul_64 a b = low_same W64 (two [] heads.Mul W64 (whole a) (whole b)) (width-built [] heads.Mul W64 0 [] (whole a ∷ whole b ∷ []))

pub div_32 : OfRegisters (operators.Opaque opaque.Div) W32 code.Div W32
unfolding cut_32
div_32 a b = refl

pub div_64 : OfRegisters (operators.Opaque opaque.Div) W64 code.Div W64
div_64 a b = refl

pub divu_32 : OfRegisters (operators.Opaque opaque.Udiv) W32 code.Udiv W32
unfolding cut_32
divu_32 a b = refl

pub divu_64 : OfRegisters (operators.Opaque opaque.Udiv) W64 code.Udiv W64
divu_64 a b = refl

pub rem_32 : OfRegisters (operators.Opaque opaque.Rem) W32 code.Mod W32
unfolding cut_32
rem_32 a b = refl

pub rem_64 : OfRegisters (operators.Opaque opaque.Rem) W64 code.Mod W64
rem_64 a b = refl

pub remu_32 : OfRegisters (operators.Opaque opaque.Urem) W32 code.Umod W32
unfolding cut_32
remu_32 a b = refl

pub remu_64 : OfRegisters (operators.Opaque opaque.Urem) W64 code.Umod W64
remu_64 a b = refl
