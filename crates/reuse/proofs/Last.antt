-- A window with another last.
use Rattle.std.proofs.Common.{◌≡◌, ℕ, suc, ◌||◌, ◌==◌, Bool, true, false, List, [], ◌∷◌, ◌++◌, length, Result, refl, sym, ap, subst, ◌∙◌, arith}
use Rattle.std.specs.Prelude.{IfOk}
use Rattle.std.proofs.lemmas.Result.{IfOk-weaker}
use Rattle.std.proofs.lemmas.Bool.{or_from, or_parts}
use Rattle.std.proofs.lemmas.Bool.Decides.{nat_tests}
use Rattle.rtx_tree.specs.RegSet.{has_reg}
use Rattle.rtx_tree.specs.declared.function.Insn.{Insn}
use Rattle.reg_uses.specs.Uses.{insn_defines}
use Rattle.law_window_runs.specs.Uses.{window_defines}
use Rattle.equate.specs.Side.{Insns}
use Rattle.equate.specs.Equated.{Equated}
use Rattle.reuse.specs.Reuse.{EquatedOverAll}
use Rattle.reuse.specs.machine.Found.{last_put}
use Rattle.reuse.proofs.Anyhow.{over_all}

pub last_is : (new : Insn) (insns : List Insn) (other : Insn) → last_put new (insns ++ other ∷ []) ≡ insns ++ new ∷ []
last_is new [] other = refl
last_is new (i ∷ []) other = refl
last_is new (i ∷ j ∷ insns) other = ap (λ rest. i ∷ rest) (last_is new (j ∷ insns) other)

pub last_long : (new : Insn) (insns : List Insn) → length (last_put new insns) ≡ length insns
last_long new [] = refl
last_long new (i ∷ []) = refl
last_long new (i ∷ j ∷ insns) = ap suc (last_long new (j ∷ insns))

pub or_joined : (a b c : Bool) → ((a || b) || c) ≡ (a || (b || c))
or_joined true b c = refl
or_joined false b c = refl

-- one instruction more
pub defined_more : (before : List Insn) (i : Insn) (reg : ℕ) → window_defines (before ++ i ∷ []) reg ≡ (window_defines before reg || insn_defines i reg)
defined_more [] i reg = or_none (insn_defines i reg)
  where
    or_none : (b : Bool) → (b || false) ≡ b
    or_none true = refl
    or_none false = refl
defined_more (j ∷ before) i reg = ap (λ b. insn_defines j reg || b) (defined_more before i reg) ∙ sym (or_joined (insn_defines j reg) (window_defines before reg) (insn_defines i reg))

-- the set of what one more defines, of what the others and it define
pub all_defined : (new old slice regs : List ℕ) (insns : List Insn) (i : Insn) (n : ℕ) → has_reg new n ≡ (has_reg old n || has_reg slice n) → slice ≡ regs → has_reg regs n ≡ insn_defines i n →
    has_reg old n ≡ ((n == 0) || window_defines insns n) → has_reg new n ≡ (((n == 0) || window_defines insns n) || insn_defines i n)
all_defined new old slice regs insns i n both is own others =
    both ∙ (ap (λ b. b || has_reg slice n) others ∙ ap (λ b. ((n == 0) || window_defines insns n) || b) (ap (λ rs. has_reg rs n) is ∙ own))

pub one_more : (new old slice regs : List ℕ) (before more : List Insn) (i : Insn) (n : ℕ) → has_reg new n ≡ (has_reg old n || has_reg slice n) → slice ≡ regs → has_reg regs n ≡ insn_defines i n →
    has_reg old n ≡ ((n == 0) || window_defines before n) → more ≡ before ++ i ∷ [] → has_reg new n ≡ ((n == 0) || window_defines more n)
one_more new old slice regs before more i n both is own others more_is =
    all_defined new old slice regs before i n both is own others
    ∙ (or_joined (n == 0) (window_defines before n) (insn_defines i n)
    ∙ ap (λ b. (n == 0) || b) (sym (ap (λ w. window_defines w n) more_is ∙ defined_more before i n)))

-- it defines what the window and the last define
last_defines : (new : Insn) (insns : List Insn) (reg : ℕ) → window_defines insns reg ≡ false → insn_defines new reg ≡ false → window_defines (last_put new insns) reg ≡ false
last_defines new [] reg none own = refl
last_defines new (i ∷ []) reg none own = or_from (insn_defines new reg) false own refl
last_defines new (i ∷ j ∷ insns) reg none own =
    let both = or_parts (insn_defines i reg) (window_defines (j ∷ insns) reg) none in
    or_from (insn_defines i reg) (window_defines (last_put new (j ∷ insns)) reg) both.0 (last_defines new (j ∷ insns) reg both.1 own)

module _ (insns : List Insn) (new : Insn) (regs : List ℕ) (are : (reg : ℕ) → has_reg regs reg ≡ (((reg == 0) || window_defines insns reg) || insn_defines new reg)) where
  covered : (reg : ℕ) → has_reg regs reg ≡ false → ((reg ≡ 0 → ⊥) × (window_defines insns reg ≡ false)) × (window_defines (last_put new insns) reg ≡ false)
  covered reg out =
      let all = or_parts ((reg == 0) || window_defines insns reg) (insn_defines new reg) (sym (are reg) ∙ out) in
      let both = or_parts (reg == 0) (window_defines insns reg) all.0 in
      let test : (reg == 0) ≡ false = both.0 in
      (((λ (is : reg ≡ 0). let none : ⊥ = grind (arith, nat_tests, test, is) in none), both.1), last_defines new insns reg both.1 all.1)

  pub put_over_all : Equated insns (Insns (last_put new insns)) regs → EquatedOverAll insns (last_put new insns)
  put_over_all equated = over_all insns (last_put new insns) regs equated covered

  -- and what is told of the comparison
  module _ {E : Type 0} (r : Result Bool E) (put : List Insn) (put_is : put ≡ last_put new insns) where
    pub told_same : IfOk r (λ same. same ≡ true → Equated insns (Insns put) regs) → IfOk r (λ same. same ≡ true → EquatedOverAll insns (last_put new insns))
    told_same told = IfOk-weaker r (λ same. same ≡ true → Equated insns (Insns put) regs) (λ same. same ≡ true → EquatedOverAll insns (last_put new insns))
        (λ same gives is. put_over_all (subst (λ p. Equated insns (Insns p) regs) put_is (gives is))) told

    pub told_other : IfOk r (λ same. same ≡ false → Equated insns (Insns put) regs → ⊥) → IfOk r (λ same. same ≡ false → EquatedOverAll insns (last_put new insns) → ⊥)
    told_other told = IfOk-weaker r (λ same. same ≡ false → Equated insns (Insns put) regs → ⊥) (λ same. same ≡ false → EquatedOverAll insns (last_put new insns) → ⊥)
        (λ same gives is equated. gives is (subst (λ p. Equated insns (Insns p) regs) (sym put_is) (equated regs))) told
