-- The effect of an instruction that a symbolic effect stands for.
use Rattle.std.specs.Prelude.{Option, Some, None, if◌then◌else◌}
use Rattle.rtl_step.specs.Regs.{known_of}
use Rattle.rtl_step.specs.declared.effect.Effect.{Effect}
use Rattle.rtl_step.specs.declared.effect.Effect.TheVariants as rtl
use Rattle.term_tree.specs.Tree.{width_of}
use Rattle.term_mean.specs.Meaning.{Valuation, mean}
use Rattle.sym_insns.specs.Effects as spec
use Rattle.law_insn_terms.specs.Needs.{First, are_met}

abbrev pub meant : Valuation → spec.Effect → Effect
meant v spec.Nothing = rtl.Nothing
meant v (spec.Sets reg t) = rtl.Sets reg (known_of (width_of t) (mean v t))
meant v (spec.Unsets reg) = rtl.Unsets reg
meant v (spec.Stores address value) = rtl.Stores (width_of value) (mean v address) (mean v value)

-- what an effect is worth: it is had where its needs are met
abbrev pub effect_worth : Valuation → First → spec.Effected → Option Effect
effect_worth v f e = if are_met v f e.needs then Some (meant v e.effect) else None
