-- A call that can be compared: what it comes to where its needs are met and its target is a multiple of 4, and what its symbolic state tells of it.
use Rattle.std.proofs.Common.{◌≡◌, ℕ, ◌==◌, ◌%◌, ◌&&◌, Bool, true, false, List, [], ◌∷◌, Option, Some, None, refl, sym, ◌∙◌, ap}
use Rattle.std.specs.Prelude.{if◌then◌else◌, option_map, option_and_then}
use Rattle.bits64.specs.declared.Width.{Width}
use Rattle.bits64.specs.declared.Width.TheVariants.{W64}
use Rattle.rtx_tree.specs.declared.function.ArgUse.{ArgUse}
use Rattle.rtx_tree.specs.declared.function.Insn.{Insn}
use Rattle.rtx_tree.specs.declared.function.Kind.TheVariants as kind
use Rattle.rtx_tree.specs.declared.machine.RangeAt.{RangeAt}
use Rattle.rtx_tree.specs.declared.memories.MemByte.{MemByte}
use Rattle.rtx_tree.specs.declared.tree.Rtx.{Rtx}
use Rattle.run_memory.specs.RunMemory.{visible}
use Rattle.rtl_step.specs.Regs.{Regs, reg_value}
use Rattle.rtl_step.specs.Value as rtl
use Rattle.rtl_step.specs.Call as call
use Rattle.rtl_step.specs.declared.call.ArgValue.{ArgValue}
use Rattle.rtl_step.specs.declared.call.CallEvent.{CallEvent}
use Rattle.term_tree.specs.Tree as term
use Rattle.term_mean.specs.Meaning.{Valuation, mean}
use Rattle.law_window_runs.specs.Insns.{Calls, come_to, insn_comes}
use Rattle.sym_insns.specs.sym_state.State.{State}
use Rattle.sym_insns.specs.Value.{Made}
use Rattle.sym_insns.specs.Effects as spec
use Rattle.law_insn_terms.specs.Needs.{First, are_met, worth}
use Rattle.law_insn_terms.specs.Shows.{IsOf, Shows}
use Rattle.law_insn_terms.specs.Means.{ArgMeans, ArgsMean}
use Rattle.law_insn_terms.proofs.Parts.{register_worth}
use Rattle.law_insn_terms.proofs.Values.{both_met, value_worth, read_width}
use Rattle.law_insn_terms.proofs.Bools.{both_of}

module _ (v : Valuation) (f : First) (s : State) (ranges : List RangeAt) (regs : Regs) (memory : List MemByte) (of : IsOf v f) (shows : Shows v f s regs memory) where
  -- ---- the target

  target_worth : (o : Option Rtx) → option_and_then (λ target. option_and_then call.aligned_target (rtl.value_of f.symbols regs memory target W64)) o ≡
      option_and_then call.aligned_target (worth v f (spec.made_target s.regs s.stores o))
  target_worth None = refl
  target_worth (Some x) = ap (λ o. option_and_then call.aligned_target o) (value_worth v f s regs memory of shows x W64)

  -- ---- the arguments

  abbrev told : ArgUse → ℕ → ArgValue
  told arg value = record { reg = arg.reg; mode = arg.mode; value = value }

  abbrev arg_value : ArgUse → ArgValue
  arg_value arg = told arg (mean v (spec.made_arg s.regs arg).term)

  abbrev pub arg_values : List ArgUse → List ArgValue
  arg_values [] = []
  arg_values (arg ∷ uses) = arg_value arg ∷ arg_values uses

  arg_worth : (arg : ArgUse) → call.arg_of regs arg ≡ (if are_met v f (spec.made_arg s.regs arg).needs then Some (arg_value arg) else None)
  arg_worth arg = by (rtl.width_of arg.mode)
    where
      met : (m : Made) → option_map (told arg) (worth v f m) ≡
          (if are_met v f m.needs then Some (told arg (mean v m.term)) else None)
      met m = each (are_met v f m.needs)
        where
          each : (b : Bool) → option_map (told arg) (if b then Some (mean v m.term) else None) ≡
              (if b then Some (told arg (mean v m.term)) else None)
          each true = refl
          each false = refl

      by : (o : Option Width) → option_map (told arg) (option_and_then (reg_value regs arg.reg) o) ≡
          (if are_met v f (spec.arg_in o s.regs arg.reg).needs then Some (told arg (mean v (spec.arg_in o s.regs arg.reg).term)) else None)
      by None = refl
      by (Some w) =
          ap (λ o. option_map (told arg) o) (register_worth v f of s regs arg.reg w shows.registers)
          ∙ met (spec.arg_in (Some w) s.regs arg.reg)

  args_worth : (uses : List ArgUse) → call.args_of regs uses ≡ (if are_met v f (spec.args_needs s.regs uses) then Some (arg_values uses) else None)
  args_worth [] = refl
  args_worth (arg ∷ uses) =
      ap (λ o. option_and_then (λ value. option_map (λ args. value ∷ args) (call.args_of regs uses)) o) (arg_worth arg)
      ∙ (ap (λ o. option_and_then (λ value. option_map (λ args. value ∷ args) o) (if are_met v f (spec.made_arg s.regs arg).needs then Some (arg_value arg) else None)) (args_worth uses)
      ∙ (by (are_met v f (spec.made_arg s.regs arg).needs) (are_met v f (spec.args_needs s.regs uses))
      ∙ ap (λ b. if b then Some (arg_values (arg ∷ uses)) else None) (sym (both_met v f (spec.made_arg s.regs arg).needs (spec.args_needs s.regs uses)))))
    where
      by : (a b : Bool) → option_and_then (λ value. option_map (λ args. value ∷ args) (if b then Some (arg_values uses) else None)) (if a then Some (arg_value arg) else None) ≡
          (if a && b then Some (arg_value arg ∷ arg_values uses) else None)
      by true true = refl
      by true false = refl
      by false b = refl

  -- each has its mode's width where it is there
  arg_means : (arg : ArgUse) → are_met v f (spec.made_arg s.regs arg).needs ≡ true → ArgMeans v (record { reg = arg.reg; value = (spec.made_arg s.regs arg).term }) (arg_value arg)
  arg_means arg met = record { reg_is = refl; width_is = by (rtl.width_of arg.mode) met; value_is = refl }
    where
      by : (o : Option Width) → are_met v f (spec.arg_in o s.regs arg.reg).needs ≡ true → o ≡ Some (term.width_of (spec.arg_in o s.regs arg.reg).term)
      by None met = absurd (let no : ⊥ = cc in no)
      by (Some w) met = ap Some (sym (read_width v f s regs memory of shows arg.reg w))

  pub args_mean : (uses : List ArgUse) → are_met v f (spec.args_needs s.regs uses) ≡ true → ArgsMean v (spec.args_of s.regs uses) (arg_values uses)
  args_mean [] met = tt
  args_mean (arg ∷ uses) met =
      let both = both_of _ _ (sym (both_met v f (spec.made_arg s.regs arg).needs (spec.args_needs s.regs uses)) ∙ met) in
      (arg_means arg both.0, args_mean uses both.1)

  -- ---- the call

  abbrev pub target_made : Insn → Made
  target_made i = spec.made_target s.regs s.stores (call.target_of (call.call_part i.pattern))

  -- what is told to the function
  abbrev pub event_made : Insn → CallEvent
  event_made i = record { target = mean v (target_made i).term; args = arg_values i.uses; memory = visible ranges memory }

  abbrev pub target_fits : Insn → Bool
  target_fits i = mean v (target_made i).term % 4 == 0

  -- the target's and the arguments' needs are met, and the target is a multiple of 4
  abbrev pub is_made : Insn → Bool
  is_made i = are_met v f (target_made i).needs && (target_fits i && are_met v f (spec.args_needs s.regs i.uses))

  event_by : (m : Made) (values : List ArgValue) (a b : Bool) (w : Width) →
      rtl.of_two (λ event w. Some (come_to regs memory (Calls event w)))
      (rtl.of_two (λ target args. Some (record { target = target; args = args; memory = visible ranges memory })) (option_and_then call.aligned_target (if a then Some (mean v m.term) else None)) (if b then Some values else None)) (Some w)
      ≡ (if a && ((mean v m.term % 4 == 0) && b) then Some (come_to regs memory (Calls (record { target = mean v m.term; args = values; memory = visible ranges memory }) w)) else None)
  event_by m values true b w = each (mean v m.term % 4 == 0) b
    where
      each : (g b : Bool) → rtl.of_two (λ event w. Some (come_to regs memory (Calls event w)))
          (rtl.of_two (λ target args. Some (record { target = target; args = args; memory = visible ranges memory })) (if g then Some (mean v m.term) else None) (if b then Some values else None)) (Some w)
          ≡ (if g && b then Some (come_to regs memory (Calls (record { target = mean v m.term; args = values; memory = visible ranges memory }) w)) else None)
      each true true = refl
      each true false = refl
      each false true = refl
      each false false = refl
  event_by m values false b w = none b
    where
      none : (b : Bool) → rtl.of_two (λ event w. Some (come_to regs memory (Calls event w)))
          (rtl.of_two (λ target args. Some (record { target = target; args = args; memory = visible ranges memory })) None (if b then Some values else None)) (Some w) ≡ None
      none true = refl
      none false = refl

  -- what a call comes to
  pub called : (i : Insn) (w : Width) → call.result_width i.pattern ≡ Some w →
      insn_comes kind.Call f.symbols ranges i regs memory ≡ (if is_made i then Some (come_to regs memory (Calls (event_made i) w)) else None)
  called i w width =
      ap (λ o. rtl.of_two (λ event w. Some (come_to regs memory (Calls event w))) (call.event_of f.symbols regs memory ranges i.pattern i.uses) o) width
      ∙ (ap (λ o. rtl.of_two (λ event w. Some (come_to regs memory (Calls event w)))
      (rtl.of_two (λ target args. Some (record { target = target; args = args; memory = visible ranges memory })) o (call.args_of regs i.uses)) (Some w)) (target_worth (call.target_of (call.call_part i.pattern)))
      ∙ (ap (λ o. rtl.of_two (λ event w. Some (come_to regs memory (Calls event w)))
      (rtl.of_two (λ target args. Some (record { target = target; args = args; memory = visible ranges memory })) (option_and_then call.aligned_target (worth v f (target_made i))) o) (Some w)) (args_worth i.uses)
      ∙ event_by (target_made i) (arg_values i.uses) (are_met v f (target_made i).needs) (are_met v f (spec.args_needs s.regs i.uses)) w))
