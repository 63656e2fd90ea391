-- How a window of instructions ends, and what its symbolic state tells of that: behind its last instruction, at a jump, and at a call.
use Rattle.std.proofs.lemmas.Bool.Decides.{nat_tests}
use Rattle.std.proofs.Common.{◌≡◌, ℕ, ◌==◌, ◌%◌, ◌&&◌, Bool, true, false, List, [], ◌++◌, Some, None, refl, sym, ◌∙◌, ap, subst, arith}
use Rattle.std.specs.Prelude.{if◌then◌else◌, option_and_then}
use Rattle.bits64.specs.declared.Width.{Width}
use Rattle.rtx_tree.specs.Patterns.{label_of}
use Rattle.rtx_tree.specs.declared.function.Insn.{Insn}
use Rattle.rtx_tree.specs.declared.machine.RangeAt.{RangeAt}
use Rattle.rtx_tree.specs.declared.memories.MemByte.{MemByte}
use Rattle.rtx_tree.specs.declared.tree.Rtx.{Rtx}
use Rattle.rtl_step.specs.Regs.{Regs}
use Rattle.rtl_step.specs.Call as call
use Rattle.term_mean.specs.Meaning.{Valuation, mean}
use Rattle.law_window_runs.specs.Insns.{InsnsEnd, Falls, Goes, Calls, Returns, come_to, goes_on, insns_come}
use Rattle.sym_insns.specs.sym_state.State.{State, falls}
use Rattle.sym_insns.specs.Value.{Made}
use Rattle.sym_insns.specs.Effects as spec
use Rattle.law_insn_terms.specs.Needs.{First, are_met}
use Rattle.law_insn_terms.specs.Shows.{IsOf, Shows}
use Rattle.law_insn_terms.specs.Means.{left_at, LeadsOn, JumpMeans, EndMeans, Means}
use Rattle.law_insn_terms.proofs.CallShapes.{width_as}
use Rattle.law_insn_terms.proofs.CallSteps.{target_made, event_made, target_fits, is_made, args_mean}
use Rattle.law_insn_terms.proofs.JumpSteps.{leads_to}
use Rattle.law_insn_terms.proofs.Left.{left_shows}
use Rattle.law_insn_terms.proofs.Values.{both_met}
use Rattle.law_insn_terms.proofs.Bools.{both_of}

-- a symbolic state on the way shows the state of a run: there was no jump and no call so far
pub record Way (v : Valuation) (f : First) (s : State) (regs : Regs) (memory : List MemByte) : Type 0 where
  pub no_call : s.call ≡ None
  pub no_jump : s.jump ≡ falls
  pub shows : Shows v f s regs memory

module _ (v : Valuation) (f : First) (ranges : List RangeAt) (s : State) (regs : Regs) (memory : List MemByte) (way : Way v f s regs memory) where
  abbrev Ending : InsnsEnd → Type 0
  Ending ending = EndMeans v ranges s.jump s.call (come_to regs memory ending)

  -- behind the last instruction it falls through
  pub fallen : Means v f ranges s (come_to regs memory Falls)
  fallen = record {
    shows = way.shows;
    ending = subst (λ call. EndMeans v ranges s.jump call (come_to regs memory Falls)) (sym way.no_call) (subst (λ j. JumpMeans v j Falls) (sym way.no_jump) refl);
  }

  -- ---- a jump

  jump_left : (number uid : ℕ) → left_at (leads_to number uid) regs ≡ regs
  jump_left number uid = by (number == 0)
    where
      by : (b : Bool) → left_at (if b then Falls else Goes uid) regs ≡ regs
      by true = refl
      by false = refl

  jump_leads : (number uid : ℕ) (label : Rtx) → label_of label ≡ Some uid → LeadsOn (number == 0) (spec.target_uid label) (leads_to number uid)
  jump_leads number uid label is = by (number == 0)
    where
      by : (b : Bool) → LeadsOn b (spec.target_uid label) (if b then Falls else Goes uid)
      by true = refl
      by false = (uid, refl, sym (ap (λ o. option_and_then spec.uid_in o) is))

  pub jump_means : (index : ℕ) (test : Made) (label : Rtx) (uid : ℕ) → label_of label ≡ Some uid →
      Means v f ranges (spec.jumps index test label s) (come_to regs memory (leads_to (mean v test.term) uid))
  jump_means index test label uid is = record {
    shows = subst (λ r. Shows v f (spec.jumps index test label s) r memory) (sym (jump_left (mean v test.term) uid))
        (record { registers = way.shows.registers; memory_is = way.shows.memory_is; stored = way.shows.stored });
    ending = subst (λ call. EndMeans v ranges (spec.jumps index test label s).jump call (come_to regs memory (leads_to (mean v test.term) uid))) (sym way.no_call)
        (jump_leads (mean v test.term) uid label is);
  }

  -- ---- a call

  multiple : (number : ℕ) → (number % 4 == 0) ≡ true → number % 4 ≡ 0
  multiple number is = grind (arith, nat_tests, is)

  pub call_means : (of : IsOf v f) (index : ℕ) (i : Insn) (w : Width) → call.result_width i.pattern ≡ Some w → is_made v f s ranges regs memory of way.shows i ≡ true →
      Means v f ranges (spec.after_call index i.pattern i.uses s) (come_to regs memory (Calls (event_made v f s ranges regs memory of way.shows i) w))
  call_means of index i w width made =
      let first = both_of _ _ made in
      let rest = both_of (target_fits v f s ranges regs memory of way.shows i) _ first.1 in
      record {
        shows = record { registers = left_shows v f s.regs regs way.shows.registers; memory_is = way.shows.memory_is; stored = way.shows.stored };
        ending = record {
          event = event_made v f s ranges regs memory of way.shows i;
          width = w;
          ending_is = refl;
          target_is = refl;
          aligned = multiple (mean v (target_made v f s ranges regs memory of way.shows i).term) rest.0;
          args_are = args_mean v f s ranges regs memory of way.shows i.uses rest.1;
          memory_is = refl;
          width_is = sym (width_as i.pattern) ∙ width;
        };
      }

  -- the needs of the call are those of its target and its arguments
  pub call_needs : (of : IsOf v f) (i : Insn) → is_made v f s ranges regs memory of way.shows i ≡ true →
      are_met v f ((target_made v f s ranges regs memory of way.shows i).needs ++ spec.args_needs s.regs i.uses) ≡ true
  call_needs of i made =
      let first = both_of _ _ made in
      let rest = both_of (target_fits v f s ranges regs memory of way.shows i) _ first.1 in
      both_met v f (target_made v f s ranges regs memory of way.shows i).needs (spec.args_needs s.regs i.uses)
      ∙ (ap (λ b. b && are_met v f (spec.args_needs s.regs i.uses)) first.0 ∙ rest.1)

-- the last instruction is all that there is
pub last_on : (f : First) (ranges : List RangeAt) (regs : Regs) (memory : List MemByte) (ending : InsnsEnd) →
    goes_on ending (come_to regs memory ending) (insns_come f.symbols ranges []) ≡ Some (come_to regs memory ending)
last_on f ranges regs memory Falls = refl
last_on f ranges regs memory (Goes uid) = refl
last_on f ranges regs memory (Calls event w) = refl
last_on f ranges regs memory Returns = refl
