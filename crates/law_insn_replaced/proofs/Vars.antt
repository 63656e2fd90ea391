-- What agrees with instructions that leave the address past the locals alone leaves it alone, too.
use Rattle.std.proofs.Common.{◌≡◌, ℕ, ◌≤◌, arith, Bool, true, false, List, [], ◌∷◌, Option, Some, None, refl, sym, ◌∙◌}
use Rattle.std.specs.Prelude.{is_some}
use Rattle.std.specs.List.{AllByRecursion}
use Rattle.std.proofs.lemmas.Bool.{false≢true, true≢false, false_from_ne_true, and_right, or_parts, or_from}
use Rattle.rtx_tree.specs.declared.function.Insn.{Insn}
use Rattle.rtx_tree.specs.Registers.{is_call_used, virtual_stack_vars}
use Rattle.reg_uses.specs.Effects.{pattern_defines}
use Rattle.reg_uses.specs.Uses.{insn_defines, is_call_kind}
use Rattle.term_tree.specs.Tree.{Tree}
use Rattle.law_window_runs.specs.Uses.{window_defines}
use Rattle.law_pass_needs.specs.sym_state.State.{State, Runs}
use Rattle.law_pass_needs.specs.sym_state.Registers.{held}
use Rattle.law_pass_needs.specs.sym_insns.Run.{run}
use Rattle.insn_replace.specs.sym_diff.Agree.{Agree, AgreesIn}
use Rattle.insn_replace.specs.sym_diff.Registers.{one_calls}
use Rattle.insn_replace.proofs.law_insn_terms.Kept.{held_defined}

abbrev pub LeavesVars : Insn → Type 0
LeavesVars i = pattern_defines virtual_stack_vars i.pattern ≡ false

-- ---- one instruction

-- a call does not change it
pub leaves_alone : (i : Insn) → LeavesVars i → window_defines (i ∷ []) virtual_stack_vars ≡ false
leaves_alone i leaves =
    or_from (insn_defines i virtual_stack_vars) false
    (or_from (pattern_defines virtual_stack_vars i.pattern) _ leaves (and_right (is_call_kind i.kind) (is_call_used virtual_stack_vars) refl)) refl

each_leaves : (insns : List Insn) → window_defines insns virtual_stack_vars ≡ false → AllByRecursion LeavesVars insns
each_leaves [] none = tt
each_leaves (i ∷ insns) none =
    let both = or_parts (insn_defines i virtual_stack_vars) (window_defines insns virtual_stack_vars) none in
    ((or_parts (pattern_defines virtual_stack_vars i.pattern) _ both.0).0, each_leaves insns both.1)

-- ---- both sides

module _ (before after : List Insn) (live : List ℕ) (a b : State) (runs_first : run before ≡ Runs a) (runs_second : run after ≡ Runs b)
    (agree : Agree false live a b) where
  unheld : (o : Option (Option Tree)) → is_some o ≡ false → o ≡ None
  unheld None is = refl
  unheld (Some x) is = absurd (true≢false is)

  agrees : AgreesIn live a b virtual_stack_vars
  agrees = agree.registers virtual_stack_vars (and_right (one_calls a b) (is_call_used virtual_stack_vars) refl)

  unchanged : window_defines before virtual_stack_vars ≡ false → is_some (held b.regs virtual_stack_vars) ≡ true → ⊥
  unchanged none some =
      let first : held a.regs virtual_stack_vars ≡ None = unheld (held a.regs virtual_stack_vars) (held_defined before a runs_first 31 ∙ none) in
      false≢true (agrees.kept (omega arith) first some).0

  pub all_leave : window_defines before virtual_stack_vars ≡ false → AllByRecursion LeavesVars after
  all_leave none = each_leaves after
      (sym (held_defined after b runs_second 31) ∙ false_from_ne_true (is_some (held b.regs virtual_stack_vars)) (unchanged none))
