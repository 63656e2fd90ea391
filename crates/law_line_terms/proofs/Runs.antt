-- Lines whose needs are met come to where their symbolic state says.
use Rattle.std.proofs.Common.{◌≡◌, ℕ, suc, ◌+◌, ◌<◌, ◌^◌, Bool, true, false, List, [], ◌∷◌, Option, Some, None, refl, sym, ◌∙◌, ap, subst, arith}
use Rattle.std.specs.Prelude.{if◌then◌else◌, bytes_eq, option_map}
use Rattle.bits64.specs.declared.Width.{Width}
use Rattle.bits64.specs.declared.Width.TheVariants.{W8}
use Rattle.bits64.specs.Words.{low}
use Rattle.rtx_tree.specs.declared.machine.SymbolAt.{SymbolAt}
use Rattle.rtx_tree.specs.declared.machine.World.{World}
use Rattle.run_memory.specs.Symbols.{symbol_address}
use Rattle.law_insn_terms.specs.law_window_runs.same_behaviour.Lawful.{AreAddresses}
use Rattle.rv_text.specs.Lines.{action_of}
use Rattle.rv_text.specs.declared.action.Action.{Action}
use Rattle.rv_text.specs.declared.line.Line.{Line}
use Rattle.rv_line.specs.Step.{register}
use Rattle.rv_line.specs.declared.state.RvState.{RvState}
use Rattle.term_mean.specs.Meaning.{Valuation, mean}
use Rattle.term_mean.specs.Stores.{Stored}
use Rattle.term_mean.proofs.SumLaws.{mean-constant}
use Rattle.law_insn_terms.specs.law_window_runs.Beside.{IsMachine}
use Rattle.law_insn_terms.specs.law_window_runs.Lines.{come_to, line_goes_on, lines_come}
use Rattle.law_insn_terms.specs.law_window_runs.Lines as window
use Rattle.sym_lines.specs.sym_state.State as sym
use Rattle.sym_lines.specs.sym_state.State.{State, Runs, start, is_within, ran}
use Rattle.sym_lines.specs.Step.{act}
use Rattle.sym_lines.specs.Run.{label_uid, fits_action, bad_from, bad_line, act_as, after, run_from, run}
use Rattle.law_insn_terms.specs.Needs.{First}
use Rattle.law_insn_terms.specs.Means.{all_met, IsAligned}
use Rattle.law_insn_terms.specs.Shows.{IsOf, ShowsMemory}
use Rattle.law_line_terms.specs.ShowsLine.{IsFirst, ShowsLine}
use Rattle.law_line_terms.specs.EndsLines.{EndsLines, falls, first_on, IsBefore, LinesRun}
use Rattle.law_line_terms.proofs.Before.{IsHad, had_at_first}
use Rattle.law_line_terms.proofs.Leads.{Leads, on, stops, act_leads}

-- what an `if` comes to, where one of its cases can't be
chosen : {A : Type 0} (b : Bool) (x : Option A) (y : A) → (if b then x else None) ≡ Some y → (b ≡ true) × (x ≡ Some y)
chosen true x y is = (refl, is)
chosen false x y is = absurd (let no : ⊥ = cc in no)

fitting : (b : Bool) (bad : Option ℕ) (place : ℕ) → (if b then bad else Some place) ≡ None → (b ≡ true) × (bad ≡ None)
fitting true bad place is = (refl, is)
fitting false bad place is = absurd (let no : ⊥ = cc in no)

module _ (v : Valuation) (f : First) (first : List (Option ℕ)) (is_first : IsFirst v f first) (of : IsOf v f) (world : World) (same : f.symbols ≡ world.symbols) (function : ℕ)
    (last : State) (had : IsHad v f last) (aligned : IsAligned v last.call) where
  -- the lines behind a line, from any state
  abbrev Rest : List Line → ℕ → Type 0
  Rest lines index =
      (s : State) (m : RvState) → ShowsLine v f first s m → run_from function index lines s ≡ Some last → s.jump ≡ sym.falls → s.call ≡ None → LinesRun v f first world function lines last m

  leads_on : (l : Line) (lines : List Line) (index : ℕ) (s next : State) (m : RvState) → Leads v f first world function l lines s next m → run_from function (index + 1) lines next ≡ Some last →
      s.jump ≡ sym.falls → s.call ≡ None → Rest lines (index + 1) → LinesRun v f first world function (l ∷ lines) last m
  leads_on l lines index s next m (on goes) runs none_jumps none_calls rest =
      let further = rest next goes.machine goes.shows runs (goes.jump_is ∙ none_jumps) (goes.call_is ∙ none_calls) in
      record {
        done = further.done;
        comes = ap (λ stepped. line_goes_on stepped.0 l stepped.1 (lines_come world lines)) goes.step_is ∙ further.comes;
        ends = further.ends;
        entry_is = further.entry_is ∙ goes.entry_is;
      }
  leads_on l lines index s next m (stops nil there) runs none_jumps none_calls rest =
      let e : Some next ≡ Some last = ap (λ lines. run_from function (index + 1) lines next) (sym nil) ∙ runs in
      let end : next ≡ last = cc in
      subst (λ lines. LinesRun v f first world function (l ∷ lines) last m) (sym nil) (subst (λ state. LinesRun v f first world function (l ∷ []) state m) end there)

  line_runs : (l : Line) (lines : List Line) (index : ℕ) (s : State) (m : RvState) (o : Option Action) → action_of l ≡ o → fits_action o lines ≡ true → ShowsLine v f first s m →
      run_from function (index + 1) lines (act_as o function index l s) ≡ Some last → s.jump ≡ sym.falls → s.call ≡ None → Rest lines (index + 1) → LinesRun v f first world function (l ∷ lines) last m
  line_runs l lines index s m None is fits shows runs none_jumps none_calls rest = absurd (let no : ⊥ = cc in no)
  line_runs l lines index s m (Some a) is fits shows runs none_jumps none_calls rest =
      let next : State = act a index (label_uid function l.target) l s in
      leads_on l lines index s next m (act_leads v f first is_first of world same function s m shows l index a lines is fits none_jumps none_calls
      (had_at_first v f function lines (index + 1) next last runs had) (last_aligned next runs)) runs none_jumps none_calls rest
    where
      last_aligned : (next : State) → run_from function (index + 1) lines next ≡ Some last → lines ≡ [] → IsAligned v next.call
      last_aligned next runs nil =
          let e : Some next ≡ Some last = ap (λ lines. run_from function (index + 1) lines next) (sym nil) ∙ runs in
          let end : last ≡ next = cc in
          subst (λ state. IsAligned v state.call) end aligned

  run_on : (lines : List Line) (index place : ℕ) → bad_from place lines ≡ None → Rest lines index
  run_on [] index place fits s m shows runs none_jumps none_calls =
      let end : s ≡ last = cc in
      let zero_is : mean v s.jump.condition ≡ 0 = ap (λ (j : sym.Jump). mean v j.condition) none_jumps ∙ mean-constant v W8 0 in
      record { done = come_to m window.Falls; comes = refl; ends = subst (λ state. EndsLines v f first function state (come_to m window.Falls)) end (falls none_calls zero_is shows refl); entry_is = refl }
  run_on (l ∷ lines) index place fits s m shows runs none_jumps none_calls =
      let fit = fitting (fits_action (action_of l) lines) (bad_from (place + 1) lines) place fits in
      let within = chosen (is_within (after function index l s)) (run_from function (index + 1) lines (after function index l s)) last runs in
      line_runs l lines index s m (action_of l) refl fit.0 shows within.1 none_jumps none_calls (run_on lines (index + 1) (place + 1) fit.1)

-- ---- what lines are run from

-- a symbol's address has 64 bits
address_below : (symbols : List SymbolAt) → AreAddresses symbols → (name : List ℕ) (address : ℕ) → symbol_address symbols name ≡ Some address → address < 2 ^ 64
address_below [] words name address is = absurd (let no : ⊥ = cc in no)
address_below (s ∷ symbols) words name address is =
    by (bytes_eq s.name name) is (address_below symbols (λ k d less. words (suc k) d (omega (arith, less))) name address)
  where
    by : (same : Bool) → (if same then Some s.address else symbol_address symbols name) ≡ Some address → (symbol_address symbols name ≡ Some address → address < 2 ^ 64) → address < 2 ^ 64
    by true is further = let here : s.address ≡ address = cc in subst (λ n. n < 2 ^ 64) here (words 0 s (omega arith))
    by false is further = further is

-- a machine whose registers, symbols and memory are those of a valuation
pub before_of : (v : Valuation) (world : World) (m : RvState) → AreAddresses world.symbols → IsMachine m → ((reg number : ℕ) → register m.regs reg ≡ Some number → number ≡ v.reg reg) →
    ((name : List ℕ) (address : ℕ) → symbol_address world.symbols name ≡ Some address → address ≡ v.sym name) → ShowsMemory v (first_on world m) m.memory 0 → IsBefore v (first_on world m) world m
before_of v world m words machine registers symbols memory = record {
  of = record {
    registers = λ reg w value is. read_is reg w value (register m.regs reg) refl is;
    symbols = symbols;
    words = address_below world.symbols words;
  };
  first = record { reads_are = λ reg w. refl; words = λ reg number is. (machine.words reg number is, registers reg number is) };
  symbols_are = refl;
  long = machine.long;
  memory_is = memory;
}
  where
    read_is : (reg : ℕ) (w : Width) (value : ℕ) (o : Option ℕ) → register m.regs reg ≡ o → option_map (low w) o ≡ Some value → value ≡ low w (v.reg reg)
    read_is reg w value None there is = absurd (let no : ⊥ = cc in no)
    read_is reg w value (Some number) there is = let same : low w number ≡ value = cc in sym same ∙ ap (low w) (registers reg number there)

-- ---- from the first line on

ran_back : (bad : Option ℕ) (behind : Option State) (s : State) → ran bad behind ≡ Runs s → (bad ≡ None) × (behind ≡ Some s)
ran_back (Some place) behind s is = absurd (let no : ⊥ = cc in no)
ran_back None None s is = absurd (let no : ⊥ = cc in no)
ran_back None (Some behind) s is = (refl, let same : behind ≡ s = cc in ap Some same)

-- Where all needs of their symbolic state are met, lines come to where it says. A call's target has to be a multiple of 4.
pub lines_run : (v : Valuation) (f : First) (world : World) (function : ℕ) (lines : List Line) (s : State) (m : RvState) → IsBefore v f world m → run function lines ≡ Runs s →
    Stored v s.stores → all_met v f s.needs ≡ true → IsAligned v s.call → LinesRun v f m.regs world function lines s m
lines_run v f world function lines s m before runs stored met aligned =
    let back = ran_back (bad_line lines) (run_from function 0 lines start) s runs in
    let shows : ShowsLine v f m.regs start m = record { registers = λ reg. refl; long = before.long; memory_is = before.memory_is; stored = tt } in
    run_on v f m.regs before.first before.of world before.symbols_are function s (record { stored = stored; met = met }) aligned lines 0 0 back.0 start m shows back.1 refl refl
