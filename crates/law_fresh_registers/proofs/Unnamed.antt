-- A pseudo register from the first free number on stands in no instruction.
use Rattle.std.proofs.Common.{◌≡◌, ℕ, zero, suc, ◌≤◌, ◌+◌, pos, negsuc, Bool, true, false, ◌||◌, List, [], ◌∷◌, map, Some, refl, sym, ap, subst, ◌∙◌, arith}
use Rattle.std.proofs.lemmas.Bool.Decides.{nat_tests}
use Rattle.std.specs.Prelude.{ℤ, max, slice_get}
use Rattle.std.specs.List.{list_any, AllByRecursion}
use Rattle.std.specs.Ordering.{int_eq}
use Rattle.rtx_tree.specs.declared.code.Code.{Code}
use Rattle.rtx_tree.specs.declared.code.Code.TheVariants as code
use Rattle.rtx_tree.specs.declared.function.Insn.{Insn}
use Rattle.rtx_tree.specs.declared.tree.Rtx.{Rtx}
use Rattle.rtx_tree.specs.Registers.{pseudo}
use Rattle.rtx_tree.specs.Tree.{head_of, kids_of, is_reg_numbered, mentions_reg}
use Rattle.rtx_tree.proofs.Trees.{mentions_out}
use Rattle.rtl_chain.specs.Counts.{greatest, above_pseudo, next_pseudo_in, next_pseudo}
use Rattle.rtl_chain.proofs.Counted.{next_pseudo_out}
use Rattle.insn_fuse.proofs.Standing.{tree_induction}
use Rattle.law_fresh_registers.specs.Fresh.{NewUnnamed}

pub or_none : (p q : Bool) → p ≡ false → q ≡ false → (p || q) ≡ false
or_none true q is other = cc
or_none false q is other = other

module _ (n k : ℕ) (least : n ≤ k) where
  head_unnamed : (c : Code) (z : ℤ) → above_pseudo c z ≤ n → is_reg_numbered c z (pseudo k) ≡ false
  head_unnamed code.Reg (pos m) few = grind (arith, nat_tests, few, least)
  head_unnamed code.Reg (negsuc m) few = refl
  head_unnamed _ z few = refl

  abbrev P : Rtx → Type 0
  P x = next_pseudo_in x ≤ n → mentions_reg (pseudo k) x ≡ false

  kids_unnamed : (xs : List Rtx) → AllByRecursion P xs → greatest (map next_pseudo_in xs) ≤ n → list_any (mentions_reg (pseudo k)) xs ≡ false
  kids_unnamed [] all few = refl
  kids_unnamed (x ∷ xs) all few = or_none (mentions_reg (pseudo k) x) (list_any (mentions_reg (pseudo k)) xs) (all.0 (omega (arith, few))) (kids_unnamed xs all.1 (omega (arith, few)))

  step : (x : Rtx) → AllByRecursion P (kids_of x) → P x
  step x all few =
      let here = above_pseudo (head_of x).code (head_of x).number in
      let most : max here (greatest (map next_pseudo_in (kids_of x))) ≤ n = subst (λ m. m ≤ n) (next_pseudo_out x) few in
      mentions_out (pseudo k) x ∙
      or_none (is_reg_numbered (head_of x).code (head_of x).number (pseudo k)) (list_any (mentions_reg (pseudo k)) (kids_of x)) (head_unnamed (head_of x).code (head_of x).number (omega (arith, most)))
      (kids_unnamed (kids_of x) all (omega (arith, most)))

  pub unnamed : (x : Rtx) → next_pseudo_in x ≤ n → mentions_reg (pseudo k) x ≡ false
  unnamed = tree_induction P step

-- ---- of instructions

pub most_of : (insns : List Insn) (place : ℕ) (i : Insn) → slice_get insns place ≡ Some i → next_pseudo_in i.pattern ≤ next_pseudo insns
most_of [] place i is = absurd (let no : ⊥ = cc in no)
most_of (j ∷ insns) zero i is =
    let same : j ≡ i = cc in
    let here : next_pseudo_in j.pattern ≡ next_pseudo_in i.pattern = ap (λ (l : Insn). next_pseudo_in l.pattern) same in
    omega (arith, here)
most_of (j ∷ insns) (suc place) i is = let more = most_of insns place i is in omega (arith, more)

pub new_unnamed : NewUnnamed
new_unnamed f k place i least at = unnamed (next_pseudo f.insns) k least i.pattern (most_of f.insns place i at)
