-- The size of the locals that are computed has 32 bits.
use Rattle.std.proofs.Common.{◌≡◌, ◌<◌, ℕ, suc, max, fold, ℤ, pos, negsuc, List, [], ◌∷◌, map, Bool, true, false, ◌&&◌, cond, refl, sym, subst, arith}
use Rattle.std.proofs.lemmas.Bool.Decides.{nat_tests}
use Rattle.std.specs.Prelude.{nat_lt}
use Rattle.std.specs.List.{AllByRecursion}
use Rattle.rtx_tree.specs.declared.code.Code.{Code}
use Rattle.rtx_tree.specs.declared.code.Code.TheVariants as code
use Rattle.rtx_tree.specs.declared.function.Insn.{Insn}
use Rattle.rtx_tree.specs.declared.tree.Rtx.{Rtx, out-Rtx}
use Rattle.rtl_read.specs.Locals as locals
use Rattle.rtl_read.specs.Locals.{depth_below, depth_by, depth_at, deepest_in, locals_in}
use Rattle.rtx_tree.specs.Tree.{is_stack_vars, is_constant}
use Rattle.rtl_read.proofs.Depths.{deepest_out}
use Rattle.rtl_print.proofs.TreeText.{rtx_induction}

abbrev Small : ℕ → Type 0
Small n = n < 4294967296

most_of : (a b : ℕ) → Small a → Small b → Small (max a b)
most_of a b first second = grind (arith, first, second)

number_small : (z : ℤ) → Small (locals.depth_of z)
number_small (pos n) = omega arith
number_small (negsuc n) = by_test (nat_lt (suc n) 4294967296) refl
  where
    by_test : (b : Bool) → nat_lt (suc n) 4294967296 ≡ b → Small (cond b (suc n) 0)
    by_test true e = grind (arith, nat_tests, e)
    by_test false e = omega arith

below_small : (a b : Rtx) → Small (depth_below a b)
below_small a b = by_test (is_stack_vars a && is_constant b)
  where
    by_test : (t : Bool) → Small (cond t (locals.depth_of (out-Rtx b).number) 0)
    by_test true = number_small (out-Rtx b).number
    by_test false = omega arith

by_code : (c : Code) (kids : List Rtx) → Small (depth_by c kids)
by_code code.Plus (a ∷ b ∷ []) = most_of (depth_below a b) (depth_below b a) (below_small a b) (below_small b a)
by_code _ _ = omega arith

SmallIn : Rtx → Type 0
SmallIn x = Small (deepest_in x)

all_small : (xs : List Rtx) (n : ℕ) → Small n → AllByRecursion SmallIn xs → Small (fold max n (map deepest_in xs))
unfolding SmallIn
all_small [] n small all = small
all_small (x ∷ xs) n small all = all_small xs (max n (deepest_in x)) (most_of n (deepest_in x) small all.0) all.1

small_in : (x : Rtx) → SmallIn x
unfolding SmallIn
small_in x = rtx_induction SmallIn (λ y all. subst Small (sym (deepest_out y)) (all_small (out-Rtx y).kids (depth_at y) (by_code (out-Rtx y).code (out-Rtx y).kids) all)) x

insns_small : (insns : List Insn) (n : ℕ) → Small n → Small (fold max n (map (λ (i : Insn). deepest_in i.pattern) insns))
unfolding SmallIn
insns_small [] n small = small
insns_small (i ∷ insns) n small = insns_small insns (max n (deepest_in i.pattern)) (most_of n (deepest_in i.pattern) small (small_in i.pattern))

pub locals_less : (insns : List Insn) → locals_in insns < 4294967296
locals_less insns = insns_small insns 0 (omega arith)
