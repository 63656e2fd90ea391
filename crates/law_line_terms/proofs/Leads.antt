-- A line whose needs are met goes on, and the symbolic state after it shows the machine after it; or it ends the lines as the state says.
use Rattle.std.proofs.Common.{◌≡◌, ◌≢◌, ℕ, suc, ◌%◌, ◌==◌, Bool, true, false, List, [], ◌∷◌, ◌++◌, length, Option, Some, None, refl, sym, ◌∙◌, ap, subst, arith}
use Rattle.std.specs.Prelude.{if◌then◌else◌, is_some}
use Rattle.std.proofs.lemmas.Bool.Decides.{nat_tests}
use Rattle.bits64.specs.declared.Width.{Width}
use Rattle.bits64.specs.declared.Width.TheVariants.{W8}
use Rattle.rtx_tree.specs.declared.machine.World.{World}
use Rattle.run_memory.specs.RunMemory.{load}
use Rattle.rv_text.specs.Lines.{action_of}
use Rattle.rv_text.specs.declared.action.Action.{Action}
use Rattle.rv_text.specs.declared.action.Action.TheVariants as action
use Rattle.rv_text.specs.declared.line.Line.{Line}
use Rattle.rv_text.proofs.Numbers.{and_true}
use Rattle.rv_line.specs.Step as line
use Rattle.rv_line.specs.declared.state.RvState.{RvState}
use Rattle.rv_line.specs.declared.state.LineEnd.{LineEnd}
use Rattle.rv_line.specs.declared.state.LineEnd.TheVariants as ends
use Rattle.term_tree.specs.Tree.{Tree}
use Rattle.term_mean.specs.Meaning.{Valuation, mean}
use Rattle.term_mean.specs.Stores.{Stored}
use Rattle.term_mean.specs.Sums.{constant}
use Rattle.term_mean.proofs.SumLaws.{mean-constant}
use Rattle.law_insn_terms.specs.law_window_runs.Lines.{LinesCome, come_to, line_goes_on, lines_come}
use Rattle.law_insn_terms.specs.law_window_runs.Lines as window
use Rattle.sym_lines.specs.sym_state.State as sym
use Rattle.sym_lines.specs.sym_state.State.{State, Need, Access, Symbol, own_symbol}
use Rattle.sym_lines.specs.sym_state.Registers.{held}
use Rattle.sym_lines.specs.Step as spec
use Rattle.sym_lines.specs.Run.{label_uid, is_end, fits_action}
use Rattle.law_insn_terms.specs.Needs.{First, are_met}
use Rattle.law_insn_terms.specs.Means.{IsAligned}
use Rattle.law_insn_terms.specs.Shows.{IsOf, ShowsMemory}
use Rattle.law_insn_terms.proofs.Parts.{has_load}
use Rattle.law_insn_terms.proofs.States.{has_number}
use Rattle.law_insn_terms.proofs.Values.{both_met}
use Rattle.law_line_terms.specs.ShowsLine.{IsFirst, ShowsNumber, ShowsLine}
use Rattle.law_line_terms.specs.EndsLines.{EndsLines, falls, goes, calls, LinesRun}
use Rattle.law_line_terms.proofs.Before.{IsHad, met_front, stored_front}
use Rattle.law_line_terms.proofs.Ends.{branch_term, branch_goes, symbol_goes, symbol_shows, call_goes, register_call_goes}
use Rattle.law_line_terms.proofs.Steps.{sets_to, compute_needs, compute_term, compute_goes, compute_shows, load_needs, load_term, load_goes, load_shows, store_needs, store_value, memory_behind, store_goes, store_shows}
use Rattle.law_line_terms.proofs.Tables.{rd_within}

no_more : (lines : List Line) → is_end lines ≡ true → lines ≡ []
no_more [] is = refl
no_more (l ∷ lines) is = absurd (let no : ⊥ = cc in no)

-- the line goes on, and neither jumps nor calls
pub record GoesOn (v : Valuation) (f : First) (first : List (Option ℕ)) (world : World) (l : Line) (s next : State) (m : RvState) : Type 0 where
  pub machine : RvState
  pub step_is : line.step world l m ≡ (ends.Next, machine)
  pub shows : ShowsLine v f first next machine
  pub entry_is : machine.entry_ra ≡ m.entry_ra
  pub jump_is : next.jump ≡ s.jump
  pub call_is : next.call ≡ s.call

-- where a line leads; the last one alone comes to where the state after it says
pub data Leads (v : Valuation) (f : First) (first : List (Option ℕ)) (world : World) (function : ℕ) (l : Line) (lines : List Line) (s next : State) (m : RvState) : Type 0 where
  on : GoesOn v f first world l s next m → Leads v f first world function l lines s next m
  stops : lines ≡ [] → LinesRun v f first world function (l ∷ []) next m → Leads v f first world function l lines s next m

module _ (v : Valuation) (f : First) (first : List (Option ℕ)) (is_first : IsFirst v f first) (of : IsOf v f) (world : World) (same : f.symbols ≡ world.symbols) (function : ℕ)
    (s : State) (m : RvState) (shows : ShowsLine v f first s m) (l : Line) (index : ℕ) where
  abbrev after : Action → State
  after a = spec.act a index (label_uid function l.target) l s

  step_of : (a : Action) → action_of l ≡ Some a → line.step world l m ≡ line.act a world l m
  step_of a is = ap (λ o. line.step_as o world l m) is

  -- ---- lines that set rd

  set_leads : (next : State) (needs : List Need) (t : Tree) → line.step world l m ≡ sets_to v f first is_first s m shows l needs t → are_met v f needs ≡ true →
      ShowsLine v f first next (record m { regs = line.with_register m.regs l.rd (mean v t) }) → next.jump ≡ s.jump → next.call ≡ s.call → GoesOn v f first world l s next m
  set_leads next needs t step met there jump call = record {
    machine = record m { regs = line.with_register m.regs l.rd (mean v t) };
    step_is = step ∙ ap (λ b. if b then (ends.Next, record m { regs = line.with_register m.regs l.rd (mean v t) }) else (ends.Stuck, m)) met;
    shows = there;
    entry_is = refl;
    jump_is = jump;
    call_is = call;
  }

  -- ---- a store

  store_leads : (w : Width) → action_of l ≡ Some (action.Store w) → IsHad v f (after (action.Store w)) → GoesOn v f first world l s (after (action.Store w)) m
  store_leads w is had =
      let met = (met_front v f index s.needs (store_needs v f first is_first s m shows l w) had.met).1 in
      let at : ℕ = mean v (spec.address s.regs l) in
      let right = and_true (are_met v f (spec.register_needs s.regs l.rt)) _ (sym (both_met v f (spec.register_needs s.regs l.rt) (spec.register_needs s.regs l.rs ++ Access (spec.address s.regs l) w ∷ [])) ∙ met) in
      let left = and_true (are_met v f (spec.register_needs s.regs l.rs)) _ (sym (both_met v f (spec.register_needs s.regs l.rs) (Access (spec.address s.regs l) w ∷ [])) ∙ right.1) in
      let access : is_some (load w f.memory at) ≡ true = (and_true (is_some (load w f.memory at)) true left.1).0 in
      let here : is_some (load w m.memory at) ≡ true = has_load w m.memory f.memory at shows.memory_is.addresses ∙ access in
      let next = (stored_front v s.stores (spec.address s.regs l, store_value v f first is_first s m shows l w) had.stored).1 in
      record {
        machine = record m { memory = memory_behind v f first is_first s m shows l w };
        step_is = step_of (action.Store w) is ∙ store_goes v f first is_first s m shows world l w
            ∙ ap (λ b. if b then (ends.Next, record m { memory = memory_behind v f first is_first s m shows l w }) else (ends.Stuck, m)) met;
        shows = store_shows v f first is_first s m shows index (label_uid function l.target) l w (has_number v f w m.memory at here) next;
        entry_is = refl;
        jump_is = refl;
        call_is = refl;
      }

  -- ---- lines that jump

  -- the machine is as it was
  shows_still : (next : State) → next.regs ≡ s.regs → next.stores ≡ s.stores → ShowsLine v f first next m
  shows_still next regs stores = record {
    registers = λ reg. subst (λ changes. ShowsNumber v first m.regs (held changes (suc reg)) (suc reg)) (sym regs) (shows.registers reg);
    long = shows.long;
    memory_is = subst (λ changes. ShowsMemory v f m.memory (length changes)) (sym stores) shows.memory_is;
    stored = subst (λ changes. Stored v changes) (sym stores) shows.stored;
  }

  ends_by : (next : State) (e : LineEnd) (done : LinesCome) → line.step world l m ≡ (e, m) → line_goes_on e l m (lines_come world []) ≡ Some done → done.machine ≡ m → EndsLines v f first function next done →
      LinesRun v f first world function (l ∷ []) next m
  ends_by next e done step comes still ends = record {
    done = done;
    comes = ap (λ stepped. line_goes_on stepped.0 l stepped.1 (lines_come world [])) step ∙ comes;
    ends = ends;
    entry_is = ap (λ (m : RvState). m.entry_ra) still;
  }

  branch_by : (next : State) (b : Bool) → (mean v next.jump.condition == 0) ≡ b → line.step world l m ≡ (if b then ends.Next else ends.Jumped, m) → next.call ≡ None →
      label_uid function l.target ≡ next.jump.target → ShowsLine v f first next m → LinesRun v f first world function (l ∷ []) next m
  branch_by next true is step none target there =
      let zero_is : mean v next.jump.condition ≡ 0 = grind (arith, nat_tests, is) in
      ends_by next ends.Next (come_to m window.Falls) step refl refl (falls none zero_is there refl)
  branch_by next false is step none target there =
      let some : mean v next.jump.condition ≢ 0 = λ zero_is. (let yes : (mean v next.jump.condition == 0) ≡ true = ap (λ n. n == 0) zero_is in absurd (let no : ⊥ = cc in no)) in
      ends_by next ends.Jumped (come_to m (window.Goes l.target)) step refl refl (goes l.target none some there target refl)

  -- ---- every line

  pub act_leads : (a : Action) (lines : List Line) → action_of l ≡ Some a → fits_action (Some a) lines ≡ true → s.jump ≡ sym.falls → s.call ≡ None → IsHad v f (after a) →
      (lines ≡ [] → IsAligned v (after a).call) → Leads v f first world function l lines s (after a) m
  act_leads (action.Compute o w x y) lines is fits none_jumps none_calls had aligned =
      on (set_leads (after (action.Compute o w x y)) (compute_needs v f first is_first s m shows l x y) (compute_term v f first is_first s m shows l o w x y)
      (step_of (action.Compute o w x y) is ∙ compute_goes v f first is_first s m shows world l o w x y)
      (met_front v f index s.needs (compute_needs v f first is_first s m shows l x y) had.met).1
      (compute_shows v f first is_first s m shows index (label_uid function l.target) l o w x y (rd_within l _ is)) refl refl)
  act_leads (action.Load w e) lines is fits none_jumps none_calls had aligned =
      on (set_leads (after (action.Load w e)) (load_needs v f first is_first s m shows l w) (load_term v f first is_first s m shows l w e)
      (step_of (action.Load w e) is ∙ load_goes v f first is_first s m shows world l w e)
      (met_front v f index s.needs (load_needs v f first is_first s m shows l w) had.met).1
      (load_shows v f first is_first s m shows index (label_uid function l.target) l w e (rd_within l _ is)) refl refl)
  act_leads (action.Store w) lines is fits none_jumps none_calls had aligned = on (store_leads w is had)
  act_leads action.SymbolAddress lines is fits none_jumps none_calls had aligned =
      on (set_leads (after action.SymbolAddress) (Symbol l.target ∷ []) (own_symbol l.target)
      (step_of action.SymbolAddress is ∙ symbol_goes v f first is_first s m shows of world same l)
      (met_front v f index s.needs (Symbol l.target ∷ []) had.met).1
      (symbol_shows v f first is_first s m shows index (label_uid function l.target) l (rd_within l action.SymbolAddress is)) refl refl)
  act_leads (action.Branch c x y) lines is fits none_jumps none_calls had aligned =
      let met = (met_front v f index s.needs (compute_needs v f first is_first s m shows l x y) had.met).1 in
      stops (no_more lines fits)
      (branch_by (after (action.Branch c x y)) (mean v (branch_term v f first is_first s m shows l c x y) == 0) refl
      (step_of (action.Branch c x y) is ∙ branch_goes v f first is_first s m shows world l c x y
      ∙ ap (λ b. (if b then (if mean v (branch_term v f first is_first s m shows l c x y) == 0 then ends.Next else ends.Jumped) else ends.Stuck, m)) met)
      none_calls refl (shows_still (after (action.Branch c x y)) refl refl))
  act_leads action.Jump lines is fits none_jumps none_calls had aligned =
      let one : mean v (constant W8 1) ≡ 1 = mean-constant v W8 1 in
      stops (no_more lines fits)
      (branch_by (after action.Jump) false (ap (λ n. n == 0) one) (step_of action.Jump is) none_calls refl (shows_still (after action.Jump) refl refl))
  act_leads action.Call lines is fits none_jumps none_calls had aligned =
      let met = (met_front v f index s.needs (Symbol l.target ∷ []) had.met).1 in
      stops (no_more lines fits)
      (ends_by (after action.Call) (ends.Called (mean v (own_symbol l.target))) (come_to m (window.Calls (mean v (own_symbol l.target))))
      (step_of action.Call is ∙ call_goes v f first is_first s m shows of world same l ∙ ap (λ b. (if b then ends.Called (mean v (own_symbol l.target)) else ends.Stuck, m)) met)
      refl refl (calls _ s refl none_jumps refl refl shows refl refl))
  act_leads action.CallRegister lines is fits none_jumps none_calls had aligned =
      let met = (met_front v f index s.needs (spec.register_needs s.regs l.rs) had.met).1 in
      let target : ℕ = mean v (spec.register s.regs l.rs) in
      let last = no_more lines fits in
      let four : target % 4 ≡ 0 = aligned last in
      stops last
      (ends_by (after action.CallRegister) (ends.Called target) (come_to m (window.Calls target))
      (step_of action.CallRegister is ∙ register_call_goes v f first is_first s m shows world l
      ∙ ap (λ b. (if b then (if target % 4 == 0 then ends.Called target else ends.Stuck) else ends.Stuck, m)) met
      ∙ ap (λ n. (if n == 0 then ends.Called target else ends.Stuck, m)) four)
      refl refl (calls _ s refl none_jumps refl refl shows refl refl))
  act_leads (action.Return through) lines is fits none_jumps none_calls had aligned = absurd (let no : ⊥ = cc in no)
