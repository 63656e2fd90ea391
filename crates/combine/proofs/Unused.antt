-- A register that an instruction does not use is read nowhere in it.
use Rattle.std.proofs.Common.{◌≡◌, ℤ, pos, negsuc, ℕ, zero, suc, Bool, true, false, ◌&&◌, ◌||◌, List, [], ◌∷◌, Some, None, refl, sym, ap, ◌∙◌, if◌then◌else◌, arith}
use Rattle.std.specs.Prelude.{◌==◌, ◌^◌, nat_le, nat_lt}
use Rattle.std.proofs.lemmas.Bool.{false≢true}
use Rattle.rtx_tree.specs.declared.code.Code.{Code}
use Rattle.rtx_tree.specs.declared.code.Code.TheVariants.{Reg, Set}
use Rattle.rtx_tree.specs.declared.function.Kind.{Kind}
use Rattle.rtx_tree.specs.declared.function.Kind.TheVariants.{Plain}
use Rattle.rtx_tree.specs.declared.function.Insn.{Insn}
use Rattle.rtx_tree.specs.declared.tree.Rtx.{Rtx}
use Rattle.rtx_tree.specs.Registers.{pseudo}
use Rattle.rtx_tree.specs.Tree.{head_of, kids_of}
use Rattle.reg_uses.specs.Effects.{pattern_uses}
use Rattle.reg_uses.specs.Uses.{has_argument, insn_uses}
use Rattle.insn_fuse.specs.Fused.{pseudo_by, set_by, set_of, reads_at}
use Rattle.insn_fuse.proofs.Uses.{reads_are_uses}

none_is : (register : ℕ) → None ≡ Some register → ⊥
none_is register is = cc

some_number : (number : ℕ) → (suc number == 0) ≡ false
some_number number = grind arith

-- no pseudo register has number 0
by_number : (low high : Bool) (number register : ℕ) → nat_le (pseudo 0) number ≡ low → (if low && high then Some number else None) ≡ Some register → (register == 0) ≡ false
by_number true true zero register above is = absurd (false≢true above)
by_number true true (suc number) register above is = let same : suc number ≡ register = cc in ap (λ n. n == 0) (sym same) ∙ some_number number
by_number true false number register above is = absurd (none_is register is)
by_number false high number register above is = absurd (none_is register is)

by_code : (code : Code) (number : ℤ) (register : ℕ) → pseudo_by code number ≡ Some register → (register == 0) ≡ false
by_code Reg (pos number) register is = by_number (nat_le (pseudo 0) number) (nat_lt number (2 ^ 32)) number register refl is
by_code Reg (negsuc number) register is = absurd (none_is register is)
by_code _ number register is = absurd (none_is register is)

by_parts : (kind : Kind) (code : Code) (parts : List Rtx) (register : ℕ) → set_by kind code parts ≡ Some register → (register == 0) ≡ false
by_parts Plain Set [] register is = absurd (none_is register is)
by_parts Plain Set (target ∷ []) register is = absurd (none_is register is)
by_parts Plain Set (target ∷ source ∷ []) register is = by_code (head_of target).code (head_of target).number register is
by_parts Plain Set (target ∷ source ∷ other ∷ parts) register is = absurd (none_is register is)
by_parts Plain _ parts register is = absurd (none_is register is)
by_parts _ code parts register is = absurd (none_is register is)

neither : (a b : Bool) → (a || b) ≡ false → a ≡ false
neither true b not = not
neither false b not = refl

pub no_reads : (one other : Insn) (register : ℕ) → set_of one ≡ Some register → insn_uses other register ≡ false → reads_at register other.pattern ≡ []
no_reads one other register sets unused =
    (reads_are_uses register (by_parts one.kind (head_of one.pattern).code (kids_of one.pattern) register sets) other.pattern).1
    (neither (pattern_uses register other.pattern) (has_argument register other.uses) unused)
