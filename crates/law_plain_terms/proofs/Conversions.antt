-- Extensions and truncations of registers, copies, and the complement.
use Rattle.std.proofs.Common.{refl}
use Rattle.bits64.specs.declared.Width.TheVariants.{W8, W16, W32, W64}
use Rattle.bits64.specs.declared.operator.Operator.TheVariants as operators
use Rattle.rtx_tree.specs.declared.code.Code.TheVariants as code
use Rattle.term_mean.specs.Masks.{cut_8, cut_16, cut_32, made_64}
use Rattle.law_plain_terms.specs.Rows.{Complements, ExtendsBy, ShiftsExtend, Truncates}

-- ---- extensions by the sign

pub sign_8_64 : ShiftsExtend operators.Sar 56 code.SignExtend W8 W64
unfolding cut_8
sign_8_64 a = refl

pub sign_16_64 : ShiftsExtend operators.Sar 48 code.SignExtend W16 W64
unfolding cut_8 cut_16
sign_16_64 a = refl

pub sign_8_32 : ShiftsExtend operators.Sar 56 code.SignExtend W8 W32
unfolding cut_8 cut_32
sign_8_32 a = refl

pub sign_16_32 : ShiftsExtend operators.Sar 48 code.SignExtend W16 W32
unfolding cut_8 cut_16 cut_32
sign_16_32 a = refl

pub sign_32_64 : ExtendsBy operators.Add W32 0 code.SignExtend W32 W64
unfolding cut_32
sign_32_64 a = refl

-- ---- and by zeros

pub zero_8_64 : ExtendsBy operators.And W64 255 code.ZeroExtend W8 W64
unfolding cut_8 made_64
zero_8_64 a = refl

pub zero_8_32 : ExtendsBy operators.And W64 255 code.ZeroExtend W8 W32
unfolding cut_8 cut_32 made_64
zero_8_32 a = refl

pub zero_16_64 : ShiftsExtend operators.Shr 48 code.ZeroExtend W16 W64
unfolding cut_8 cut_16
zero_16_64 a = refl

pub zero_16_32 : ShiftsExtend operators.Shr 48 code.ZeroExtend W16 W32
unfolding cut_8 cut_16 cut_32
zero_16_32 a = refl

pub zero_32_64 : ShiftsExtend operators.Shr 32 code.ZeroExtend W32 W64
unfolding cut_8 cut_32
zero_32_64 a = refl

-- ---- truncations

pub cut_64_8 : Truncates W64 W8
unfolding cut_8
cut_64_8 a = refl

pub cut_64_16 : Truncates W64 W16
unfolding cut_16
cut_64_16 a = refl

pub cut_64_32 : Truncates W64 W32
unfolding cut_32
cut_64_32 a = refl

pub cut_32_8 : Truncates W32 W8
unfolding cut_8 cut_32
cut_32_8 a = refl

pub cut_32_16 : Truncates W32 W16
unfolding cut_16 cut_32
cut_32_16 a = refl

-- ---- the complement

pub not_64 : Complements W64
not_64 a = refl

pub not_32 : Complements W32
unfolding cut_32
not_32 a = refl
