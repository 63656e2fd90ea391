-- Each step takes an instruction away, or a computed expression.
use Rattle.std.proofs.Common.{◌≡◌, ℕ, suc, ◌+◌, ◌*◌, ◌≤◌, ◌&&◌, Bool, true, false, List, [], ◌∷◌, ◌++◌, length, take, drop, Some, refl, ap, ◌∙◌, arith}
use Rattle.std.specs.Prelude.{slice_get, is_some, if◌then◌else◌}
use Rattle.std.specs.Option.{option_map_or}
use Rattle.rtx_tree.specs.declared.function.Insn.{Insn}
use Rattle.rtx_tree.specs.declared.function.Function.{Function}
use Rattle.rtx_tree.specs.Tree.{reg_of}
use Rattle.law_insn_replaced.proofs.Lists.{parted}
use Rattle.md_forms.specs.declared.form.Entry.{Entry}
use Rattle.reuse.specs.Reuse.{set_mode, source_of, reusing, is_computed, RepeatsAt, IsDeadSet, with_insn, without, IsStep, Steps}
use Rattle.reuse.proofs.Drop.{set_parts, is_pseudo}
use Rattle.reuse.proofs.Second.{second_parts, new_source, register_not_computed}

-- ---- what can be reused

-- a plain set of a register to a computed expression
abbrev pub is_value : Insn → Bool
is_value i = is_some (set_mode i) && option_map_or is_computed (source_of i) false

-- two where it is one, else one
abbrev worth : Insn → ℕ
worth i = if is_value i then 2 else 1

abbrev pub weight : List Insn → ℕ
weight [] = 0
weight (i ∷ insns) = worth i + weight insns

worth_little : (b : Bool) → (if b then 2 else 1) ≤ 2
worth_little true = omega arith
worth_little false = omega arith

worth_some : (b : Bool) → 1 ≤ (if b then 2 else 1)
worth_some true = omega arith
worth_some false = omega arith

weight_low : (insns : List Insn) → weight insns ≤ 2 * length insns
weight_low [] = omega arith
weight_low (i ∷ insns) = let rest = weight_low insns in let here = worth_little (is_value i) in omega (arith, rest, here)

weight_append : (xs ys : List Insn) → weight (xs ++ ys) ≡ weight xs + weight ys
weight_append [] ys = let none : weight ys ≡ 0 + weight ys = omega arith in none
weight_append (x ∷ xs) ys = let rest = weight_append xs ys in omega (arith, rest)

-- the weight by the parts of a chain
weight_at : (insns : List Insn) (place : ℕ) (i : Insn) → slice_get insns place ≡ Some i → weight insns ≡ weight (take place insns) + (worth i + weight (drop (place + 1) insns))
weight_at insns place i at = ap weight (parted insns place i at) ∙ weight_append (take place insns) (i ∷ drop (place + 1) insns)

-- ---- what is reused is no value

new_worth : (forms : List Entry) (f : Function) (first second : ℕ) (new : Insn) (r : RepeatsAt forms f first second new) → (is_value r.other ≡ true) × (is_value new ≡ false)
new_worth forms f first second new r =
    let p = r.repeats in
    let pseudo_is = is_pseudo (set_parts r.one p.register p.again.sets).target p.register (set_parts r.one p.register p.again.sets).target_is in
    let old : is_value r.other ≡ true = ap (λ o. is_some o && option_map_or is_computed (source_of r.other) false) p.again.again_in ∙ (ap (λ o. option_map_or is_computed o false) p.again.again_to ∙ p.again.computed) in
    let leaf = register_not_computed p.mode p.register pseudo_is.above pseudo_is.below in (
      old,
      ap is_value p.makes
          ∙ (ap (λ o. is_some (set_mode (reusing p.mode p.register r.other)) && option_map_or is_computed o false) (new_source r.other (second_parts r.other p.mode p.again.again_in) (reg_of p.mode p.register))
          ∙ (ap (λ b. is_some (set_mode (reusing p.mode p.register r.other)) && b) leaf ∙ none (is_some (set_mode (reusing p.mode p.register r.other))))),
    )
  where
    none : (b : Bool) → (b && false) ≡ false
    none true = refl
    none false = refl

-- ---- steps

reuse_lighter : (forms : List Entry) (f : Function) (first second : ℕ) (new : Insn) → RepeatsAt forms f first second new → suc (weight (with_insn f second new).insns) ≡ weight f.insns
reuse_lighter forms f first second new r =
    let old = weight_at f.insns second r.other r.at_second in
    let whole = weight_append (take second f.insns) (new ∷ drop (second + 1) f.insns) in
    let both = new_worth forms f first second new r in
    let two : worth r.other ≡ 2 = ap (λ b. if b then 2 else 1) both.0 in
    let one : worth new ≡ 1 = ap (λ b. if b then 2 else 1) both.1 in
    omega (arith, old, whole, two, one)

drop_lighter : (f : Function) (place : ℕ) → IsDeadSet f place → suc (weight (without f place).insns) ≤ weight f.insns
drop_lighter f place d =
    let old = weight_at f.insns place d.insn d.at_place in
    let whole = weight_append (take place f.insns) (drop (place + 1) f.insns) in
    let some = worth_some (is_value d.insn) in
    omega (arith, old, whole, some)

pub step_lighter : (forms : List Entry) (f g : Function) → IsStep forms f g → suc (weight g.insns) ≤ weight f.insns
step_lighter forms f _ (IsStep.reuses first second new next) = let one = reuse_lighter forms f first second new next.repeats in omega (arith, one)
step_lighter forms f _ (IsStep.drops place none dead) = drop_lighter f place dead.dead

steps_lighter : (forms : List Entry) (n : ℕ) (f g : Function) → Steps forms n f g → n + weight g.insns ≤ weight f.insns
steps_lighter forms _ _ _ (Steps.none f) = omega arith
steps_lighter forms _ _ _ (Steps.step n f g h one more) =
    let rest = steps_lighter forms n g h more in
    let here = step_lighter forms f g one in
    omega (arith, rest, here)

-- no more steps than twice the instructions
pub steps_few : (forms : List Entry) (n : ℕ) (f g : Function) → Steps forms n f g → n ≤ 2 * length f.insns
steps_few forms n f g steps =
    let all = steps_lighter forms n f g steps in
    let low = weight_low f.insns in
    omega (arith, all, low)
