-- A step of a function, and the turns of its items.
use Rattle.std.proofs.Common.{◌≡◌, ℕ, ◌+◌, ◌≤◌, ◌<◌, ◌||◌, ◌&&◌, not, arith, Bool, true, false, drop, length, List, [], ◌∷◌, ◌++◌, map, Some, refl, sym, ap, subst, ◌∙◌}
use Rattle.std.proofs.lemmas.Bool.Decides.{nat_tests}
use Rattle.std.specs.Prelude.{nat_lt, slice_get}
use Rattle.rtx_tree.specs.Tree.{head_of}
use Rattle.rtx_tree.specs.Patterns.{place_of}
use Rattle.rtx_tree.specs.declared.function.Insn.{Insn}
use Rattle.rtx_tree.specs.declared.function.Function.{Function}
use Rattle.rtx_tree.specs.declared.function.Kind.{Kind}
use Rattle.rtx_tree.specs.declared.function.Kind.TheVariants as kind
use Rattle.rtx_tree.specs.declared.machine.RangeAt.{RangeAt}
use Rattle.rtx_tree.specs.declared.machine.Reply.{Reply}
use Rattle.rtx_tree.specs.declared.machine.Start.{Start}
use Rattle.rtx_tree.specs.declared.machine.World.{World}
use Rattle.rtx_tree.specs.declared.memories.MemByte.{MemByte}
use Rattle.run_memory.specs.RunMemory.{written}
use Rattle.rtl_step.specs.Call.{regs_replied}
use Rattle.rtl_step.specs.Effect.{effects_of, regs_after}
use Rattle.rtl_step.specs.Regs.{Regs}
use Rattle.rtl_step.specs.Step as rtl_step
use Rattle.bits64.specs.declared.Width.{Width}
use Rattle.rtl_step.specs.declared.call.CallEvent.{CallEvent}
use Rattle.rtl_step.specs.declared.effect.Effect.{Effect}
use Rattle.rtl_step.specs.declared.step.State.{State}
use Rattle.rtl_step.specs.declared.step.StepEnd.TheVariants as rtl_ends
use Rattle.func_run.specs.Run as func
use Rattle.func_run.specs.declared.outcome.Outcome.{Outcome}
use Rattle.func_run.specs.declared.outcome.Outcome.TheVariants as rtl
use Rattle.law_function_kept.specs.Ends.{is_past}
use Rattle.rtl_func.specs.Paths.{leads}
use Rattle.reg_uses.specs.Uses.{insn_uses, insn_defines, return_uses}
use Rattle.live.specs.Live as live
use Rattle.live.specs.Live.{IsLive}
use Rattle.rv_text.specs.Body.{label_text}
use Rattle.rv_text.specs.declared.line.Line.{Line}
use Rattle.rv_text.specs.declared.line.CodeItem.{CodeItem}
use Rattle.rv_text.specs.declared.line.CodeItem.TheVariants.{Code}
use Rattle.rv_line.specs.Run as lines
use Rattle.rv_line.specs.Run.{Running, next_line, behind_label, after_call, call_of}
use Rattle.rv_line.specs.Step.{register}
use Rattle.rv_line.specs.declared.outcome.CodeCall.{CodeCall}
use Rattle.rv_line.specs.declared.outcome.CodeOutcome.{CodeOutcome}
use Rattle.rv_line.specs.declared.outcome.CodeOutcome.TheVariants as code
use Rattle.rv_line.specs.declared.state.RvState.{RvState}
use Rattle.law_window_runs.specs.same_behaviour.Ending.{IsUid}
use Rattle.law_window_runs.specs.same_behaviour.Lawful.{IsLawfulReply, IsLawfulWorld}
use Rattle.law_window_runs.specs.same_behaviour.Same.{SameOutcome, SameCall, SameCalls, at_entry}
use Rattle.law_window_runs.proofs.same_behaviour.Places.{get_dropped, get_past, drop_next}
use Rattle.law_window_runs.specs.Beside.{Agrees, Beside, IsMachine}
use Rattle.law_window_runs.specs.Insns as insn_end
use Rattle.law_window_runs.specs.Insns.{InsnsEnd, InsnsCome, insns_come}
use Rattle.law_window_runs.specs.Lines as window
use Rattle.law_window_runs.specs.Lines.{LinesEnd}
use Rattle.law_window_runs.specs.Same.{SameEnd, LinesDo, Starts, IsKept}
use Rattle.law_window_runs.specs.Same as same
use Rattle.law_window_runs.specs.Uses.{window_uses}
use Rattle.law_window_lines.specs.ForLines.{MarksAreEmpty}
use Rattle.law_window_lines.specs.Items.{AreItemsFrom, AreLinesAt, IsLiveBehind, is_quiet}
use Rattle.law_window_lines.proofs.Calls.{same_more, length_more, next_is}
use Rattle.law_window_lines.proofs.Leads.{leads_on}
use Rattle.law_window_lines.proofs.Places.{At, found}
use Rattle.law_window_lines.proofs.Replies.{beside_after, agrees_after}
use Rattle.law_window_lines.proofs.Simulation as machine
use Rattle.law_window_lines.proofs.Turns as turns
use Rattle.law_window_lines.proofs.Simulation.{added}
use Rattle.law_window_lines.proofs.Turns.{turned_as, at, Any, stopped, one, Passes}
use Rattle.law_window_lines.proofs.Small.{or_left, or_none}

-- ---- ends of windows

end_falls : (number : ℕ) (ranges : List RangeAt) (m : RvState) (e : InsnsEnd) (e' : LinesEnd) → SameEnd number ranges m e e' →
    e ≡ insn_end.Falls → e' ≡ window.Falls
end_falls number ranges m _ _ same.falls is = refl
end_falls number ranges m _ _ (same.goes uid small) is = absurd (let no : ⊥ = cc in no)
end_falls number ranges m _ _ (same.calls event w target one) is = absurd (let no : ⊥ = cc in no)

end_goes : (number : ℕ) (ranges : List RangeAt) (m : RvState) (e : InsnsEnd) (e' : LinesEnd) (uid : ℕ) → SameEnd number ranges m e e' →
    e ≡ insn_end.Goes uid → IsUid uid × (e' ≡ window.Goes (label_text number uid))
end_goes number ranges m _ _ uid same.falls is = absurd (let no : ⊥ = cc in no)
end_goes number ranges m _ _ uid (same.goes uid' small) is = let here : uid' ≡ uid = cc in
    (subst IsUid here small, ap (λ u. window.Goes (label_text number u)) here)
end_goes number ranges m _ _ uid (same.calls event w target one) is = absurd (let no : ⊥ = cc in no)

record CallEnd (ranges : List RangeAt) (m : RvState) (event : CallEvent) (e' : LinesEnd) : Type 0 where
  target : ℕ
  same_call : SameCall event (call_of ranges target m)
  is : e' ≡ window.Calls target

end_calls : (number : ℕ) (ranges : List RangeAt) (m : RvState) (e : InsnsEnd) (e' : LinesEnd) (event : CallEvent) (w : Width) →
    SameEnd number ranges m e e' → e ≡ insn_end.Calls event w → CallEnd ranges m event e'
end_calls number ranges m _ _ event w same.falls is = absurd (let no : ⊥ = cc in no)
end_calls number ranges m _ _ event w (same.goes uid small) is = absurd (let no : ⊥ = cc in no)
end_calls number ranges m _ _ event w (same.calls event' w' target one) is = let here : event' ≡ event = cc in
    record { target = target; same_call = subst (λ e. SameCall e (call_of ranges target m)) here one; is = refl }

pub end_returns : (number : ℕ) (ranges : List RangeAt) (m : RvState) (e : InsnsEnd) (e' : LinesEnd) → SameEnd number ranges m e e' →
    e ≡ insn_end.Returns → ⊥
end_returns number ranges m _ _ same.falls is = cc
end_returns number ranges m _ _ (same.goes uid small) is = cc
end_returns number ranges m _ _ (same.calls event w target one) is = cc

-- ---- what is used and defined by one instruction

used_by : (a b : Bool) → (a || (not b && false)) ≡ true → a ≡ true
used_by true b is = refl
used_by false true is = is
used_by false false is = is

hard_by : (reg : ℕ) (b : Bool) → nat_lt 31 reg ≡ b → (31 < reg → ⊥) → reg < 32
hard_by reg true is none = absurd (none (grind (arith, nat_tests, is)))
hard_by reg false is none = grind (arith, nat_tests, is)

-- a register that is used is hard
hard_is : (reg : ℕ) (b : Bool) → (31 < reg → b ≡ false) → b ≡ true → reg < 32
hard_is reg b hard uses = hard_by reg (nat_lt 31 reg) refl (λ above. let no : true ≡ false = sym uses ∙
    hard above in let none : ⊥ = cc in none)

-- ---- the run of a function and that of its items

module _ (number : ℕ) (f : Function) (marks : MarksAreEmpty f) (items : List CodeItem) (start : Start) (world : World)
    (Keeps : Regs → RvState → Type 0) (Good : State → Outcome → Type 0) where
  abbrev pub LiveAgree : ℕ → Regs → RvState → Type 0
  LiveAgree place regs m = (reg : ℕ) → IsLive f reg place → reg < 32 → Agrees regs m.regs reg

  -- How the machine stands beside the function: it is at the same place; what is live there agrees, and memory; the calls are the same,
  -- and as many replies are left; and it keeps what has to be kept.
  pub record Related (s : State) (t : Running) : Type 0 where
    pub place : At number f marks s.next t.rest
    pub beside : Beside start.visible s.memory t.machine
    pub agree : LiveAgree s.next s.regs t.machine
    pub visible_is : s.visible ≡ start.visible
    pub calls_are : SameCalls s.calls t.calls
    pub replies_are : t.replies ≡ drop (length s.calls) world.replies
    pub entry_is : t.machine.entry_ra ≡ start.ra
    pub keeps : Keeps s.regs t.machine

  -- A good end has a value and isn't past the last instruction; and what has to be kept stays so in each step, and is enough for a return.
  pub record IsKeeping : Type 0 where
    pub defined : (s : State) → Good s rtl.Undefined → ⊥
    pub stands : (s : State) (outcome : Outcome) → Good s outcome → is_past f s ≡ false
    pub does : (place : ℕ) (i : Insn) (ls : List Line) (regs : Regs) (memory : List MemByte) (m : RvState) (came : InsnsCome) →
        slice_get f.insns place ≡ Some i → insns_come world.symbols start.visible (i ∷ []) regs memory ≡ Some came →
        ((reg : ℕ) → IsKept came.ending reg) → (does : LinesDo number (i ∷ []) ls (IsLiveBehind f place) world start.visible m came) →
        Keeps regs m → Keeps came.regs does.done.machine
    pub quiet : (place : ℕ) (i : Insn) (regs : Regs) (memory : List MemByte) (m : RvState) (effects : List Effect) →
        slice_get f.insns place ≡ Some i → i.kind ≡ kind.Plain → is_quiet (head_of i.pattern).code ≡ true →
        effects_of world.symbols regs memory i.pattern ≡ Some effects → Keeps regs m → Keeps (regs_after effects regs) m
    pub replied : (place : ℕ) (i : Insn) (ls : List Line) (regs : Regs) (memory : List MemByte) (m : RvState) (came : InsnsCome)
        (event : CallEvent) (w : Width) (reply : Reply) → slice_get f.insns place ≡ Some i → i.kind ≡ kind.Call →
        insns_come world.symbols start.visible (i ∷ []) regs memory ≡ Some came → came.ending ≡ insn_end.Calls event w →
        (does : LinesDo number (i ∷ []) ls (IsLiveBehind f place) world start.visible m came) → Keeps regs m →
        Keeps (regs_replied came.regs w reply.value) (after_call reply does.done.machine)
    pub returns : (s : State) (m : RvState) → IsMachine m → Keeps s.regs m →
        ((reg : ℕ) → return_uses f reg ≡ true → reg < 32 → Agrees s.regs m.regs reg) →
        Good s (func.returned f s) → (register m.regs 1 ≡ Some start.ra) × (lines.saved_of m.regs ≡ at_entry start)

  abbrev pub turn : Running → machine.Turned Running CodeOutcome
  turn s = turns.turn world start.visible items s

  abbrev pub Same : Outcome → CodeOutcome → Type 0
  Same x y = SameOutcome f.result start x y

  abbrev pub Simulates : State → Running → Type 0
  Simulates s t = machine.Simulates Running CodeOutcome turn stopped one Any world f Related Good Same s t

  abbrev pub EndsGood : State → Type 0
  EndsGood s = machine.EndsGood Running CodeOutcome turn stopped one Any world f Related Good Same s

  -- some turns, and one more
  then_one : (k : ℕ) (t t' t'' : Running) → turns.Moves world start.visible items k t t' → turn t' ≡ machine.Goes t'' →
      turns.Moves world start.visible items (added k 1) t t''
  then_one k t t' t'' led last =
      machine.moves_on Running CodeOutcome turn stopped one Any k 1 t t' t'' led (machine.moves 0 t' t'' t'' tt last (machine.stays t''))

  one_at_least : (k : ℕ) (t t' : Running) → turns.Moves world start.visible items k t t' →
      1 ≤ machine.weigh Running CodeOutcome turn stopped one Any (added k 1) t
  one_at_least k t t' led =
      let weights = machine.weigh_on Running CodeOutcome turn stopped one Any k 1 t t' led in omega (arith, weights)

  module _ (all : AreItemsFrom number f 0 f.insns items)
      (lawful : IsLawfulWorld start world) (keeping : IsKeeping) where
    -- ---- steps

    pub step_at : (s : State) (place : ℕ) → rtl_step.place_from f.insns s.next ≡ place →
        rtl_step.step world f s ≡ rtl_step.act_at (slice_get f.insns place) world f place s
    step_at s place is = ap (λ p. rtl_step.act_at (slice_get f.insns p) world f p s) is

    pub step_insn : (s : State) (place : ℕ) (i : Insn) (k : Kind) → rtl_step.place_from f.insns s.next ≡ place →
        slice_get f.insns place ≡ Some i →
        i.kind ≡ k → rtl_step.step world f s ≡ rtl_step.act k world f i place s
    step_insn s place i k passed there kind_is =
        step_at s place passed ∙ ap (λ o. rtl_step.act_at o world f place s) there ∙ ap (λ k. rtl_step.act k world f i place s) kind_is

    -- a step without a value
    pub never : (s s' : State) → rtl_step.step world f s ≡ (rtl_ends.Undefined, s') → EndsGood s → ⊥
    never s s' is good = keeping.defined s (good rtl_ends.Undefined s' is refl)

    -- ---- the lines of an instruction

    -- where a state stands: its place past labels and barriers, the instruction there and its lines
    pub record Window (s : State) (t : Running) (place : ℕ) (i : Insn) (insns : List Insn) (ls : List Line)
        (more : List CodeItem) : Type 0 where
      pub related : Related s t
      pub passed : rtl_step.place_from f.insns s.next ≡ place
      pub chain : drop place f.insns ≡ i ∷ insns
      pub agree : LiveAgree place s.regs t.machine
      pub lines_are : AreLinesAt number f place i ls
      pub rest_are : AreItemsFrom number f (place + 1) insns more
      pub next : next_line t.rest ≡ next_line (map Code ls ++ more)

    pub starts : (s : State) (t : Running) (place : ℕ) (i : Insn) (insns : List Insn) (ls : List Line) (more : List CodeItem) →
        Window s t place i insns ls more → Starts (i ∷ []) (IsLiveBehind f place) world start.visible s.regs s.memory t.machine
    starts s t place i insns ls more w = record {
      symbols = lawful.symbols;
      beside = w.related.beside;
      used = λ reg uses. w.agree reg (live.AtUse place i there (or_left (insn_uses i reg) _ (used_by (insn_uses i reg)
          (insn_defines i reg) uses)))
          (hard_is reg (window_uses (i ∷ []) reg) (w.lines_are.hard reg) uses);
      passed = λ reg lives none. w.agree reg (live.Passing place lives.0.0 i there (sym (or_none (insn_defines i reg)) ∙
          none) lives.0.1 lives.0.2) lives.1;
    }
      where
        there : slice_get f.insns place ≡ Some i
        there = get_dropped f.insns place i insns w.chain

    module _ (s : State) (t : Running) (place : ℕ) (i : Insn) (insns : List Insn) (ls : List Line) (more : List CodeItem)
        (w : Window s t place i insns ls more) (came : InsnsCome)
        (comes : insns_come world.symbols start.visible (i ∷ []) s.regs s.memory ≡ Some came) where
      abbrev does : LinesDo number (i ∷ []) ls (IsLiveBehind f place) world start.visible t.machine came
      does = w.lines_are.same world start.visible s.regs s.memory t.machine came (starts s t place i insns ls more w) comes

      there : slice_get f.insns place ≡ Some i
      there = get_dropped f.insns place i insns w.chain

      -- the machine behind the lines
      abbrev after : RvState
      after = does.done.machine

      passes : Passes world start.visible items t.replies t.calls t.rest t.machine more after does.done.ending
      passes = turns.alike world start.visible items t.replies t.calls
          (map Code ls ++ more) t.rest t.machine more after does.done.ending w.next
          (turns.passes world start.visible items t.replies t.calls ls more t.machine does.done w.lines_are.last does.comes)

      keeps : ((reg : ℕ) → IsKept came.ending reg) → Keeps came.regs after
      keeps kept = keeping.does place i ls s.regs s.memory t.machine came there comes kept does w.related.keeps

      -- what is live where the instruction leads agrees behind the lines
      agree_at : (q : ℕ) → leads f.insns place q ≡ true → ((reg : ℕ) → IsKept came.ending reg) → LiveAgree q came.regs after
      agree_at q leads_there kept reg lives small = does.agree reg ((q, leads_there, lives), small) (kept reg)

      -- the state behind an instruction that calls nothing, at a place
      abbrev behind : ℕ → State
      behind q = record s { next = q; regs = came.regs; memory = came.memory }

      related_behind : (q : ℕ) (rest : List CodeItem) → At number f marks q rest → leads f.insns place q ≡ true →
          ((reg : ℕ) → IsKept came.ending reg) → Related (behind q) (at rest after t.replies t.calls)
      related_behind q rest at_q leads_there kept = record {
        place = at_q;
        beside = does.beside;
        agree = agree_at q leads_there kept;
        visible_is = w.related.visible_is;
        calls_are = w.related.calls_are;
        replies_are = w.related.replies_are;
        entry_is = does.entry_is ∙ w.related.entry_is;
        keeps = keeps kept;
      }

      at_next : (rest : List CodeItem) → next_line rest ≡ next_line more → At number f marks (place + 1) rest
      at_next rest next = record {
        there = more;
        are = subst (λ insns. AreItemsFrom number f (place + 1) insns more) (sym
            (drop_next f.insns place i insns w.chain)) w.rest_are;
        same = next;
      }

      -- it falls through
      falls_by : (e : LinesEnd) → e ≡ window.Falls → Passes world start.visible items t.replies t.calls t.rest t.machine more after e →
          came.ending ≡ insn_end.Falls → rtl_step.step world f s ≡ (rtl_ends.Next, behind (place + 1)) →
          leads f.insns place (place + 1) ≡ true → Simulates s t
      falls_by _ is (turns.falls k rest next led) ends stepped leads_there =
          machine.goes_on rtl_ends.Next (behind (place + 1)) k (at rest after t.replies t.calls) stepped refl led (omega arith)
          (related_behind (place + 1) rest (at_next rest next) leads_there (λ reg. subst (λ e. IsKept e reg) (sym ends) tt))
      falls_by _ is (turns.goes k rest m' target led end) ends stepped leads_there = absurd (let no : ⊥ = cc in no)
      falls_by _ is (turns.calls k rest m' target led end) ends stepped leads_there = absurd (let no : ⊥ = cc in no)
      falls_by _ is turns.returns ends stepped leads_there = absurd (let no : ⊥ = cc in no)

      pub falls_on : came.ending ≡ insn_end.Falls → rtl_step.step world f s ≡ (rtl_ends.Next, behind (place + 1)) →
          leads f.insns place (place + 1) ≡ true → Simulates s t
      falls_on ends = falls_by does.done.ending
          (end_falls number start.visible after came.ending does.done.ending does.same_end ends) passes ends

      -- it goes to a label
      at_label : (uid q : ℕ) → IsUid uid → place_of uid f.insns ≡ Some q →
          (rest : List CodeItem) × (behind_label (label_text number uid) items ≡ Some rest) × At number f marks q rest
      at_label uid q small at_q =
          let label = found number f uid q 0 f.insns items small all at_q in
          let here : label.by ≡ q = let is = label.place_is in omega (arith, is) in (
            label.rest,
            label.behind,
            record {
              there = label.there;
              are = subst (λ by. AreItemsFrom number f q (drop by f.insns) label.there) here label.are;
              same = label.same;
            },
          )

      goes_by : (uid q : ℕ) (e : LinesEnd) → e ≡ window.Goes (label_text number uid) →
          Passes world start.visible items t.replies t.calls t.rest t.machine more after e →
          came.ending ≡ insn_end.Goes uid → IsUid uid → place_of uid f.insns ≡ Some q →
          rtl_step.step world f s ≡ (rtl_ends.Jumped, behind q) →
          leads f.insns place q ≡ true → Simulates s t
      goes_by uid q _ is (turns.falls k rest next led) ends small at_q stepped leads_there = absurd (let no : ⊥ = cc in no)
      goes_by uid q _ is (turns.goes k rest m' target led end) ends small at_q stepped leads_there =
          let label = at_label uid q small at_q in
          let same : target ≡ label_text number uid = cc in
          let last : turn (at rest m' t.replies t.calls) ≡ machine.Goes (at label.0 after t.replies t.calls) =
          end ∙ ap (λ o. turned_as (lines.jumped o (at [] after t.replies t.calls))) (ap (λ target. behind_label target items) same ∙
          label.1) in
          machine.goes_on rtl_ends.Jumped (behind q) (added k 1) (at label.0 after t.replies t.calls) stepped refl
          (then_one k t (at rest m' t.replies t.calls) (at label.0 after t.replies t.calls) led last) (one_at_least k t
          (at rest m' t.replies t.calls) led)
          (related_behind q label.0 label.2 leads_there (λ reg. subst (λ e. IsKept e reg) (sym ends) tt))
      goes_by uid q _ is (turns.calls k rest m' target led end) ends small at_q stepped leads_there = absurd (let no : ⊥ = cc in no)
      goes_by uid q _ is turns.returns ends small at_q stepped leads_there = absurd (let no : ⊥ = cc in no)

      pub goes_on : (uid q : ℕ) → came.ending ≡ insn_end.Goes uid → place_of uid f.insns ≡ Some q →
          rtl_step.step world f s ≡ (rtl_ends.Jumped, behind q) →
          leads f.insns place q ≡ true → Simulates s t
      goes_on uid q ends = let is = end_goes number start.visible after came.ending does.done.ending uid does.same_end ends in
          goes_by uid q does.done.ending is.1 passes ends is.0

      -- it calls: the machine behind the reply, and the state of the function
      abbrev called : CallEvent → Width → Reply → State
      called event w' reply = record s {
        next = place + 1;
        regs = regs_replied came.regs w' reply.value;
        memory = written reply.writes came.memory;
        calls = s.calls ++ event ∷ [];
      }

      related_called : (event : CallEvent) (w' : Width) (target : ℕ) (reply : Reply) (left : List Reply) →
          came.ending ≡ insn_end.Calls event w' →
          SameCall event (call_of start.visible target after) → t.replies ≡ reply ∷ left → i.kind ≡ kind.Call →
          leads f.insns place (place + 1) ≡ true →
          Related (called event w' reply) (at more (after_call reply after) left (t.calls ++ call_of start.visible target after ∷ []))
      related_called event w' target reply left ends same replies_are is_call leads_there =
          let gone : drop (length s.calls) world.replies ≡ reply ∷ left = sym w.related.replies_are ∙ replies_are in
          let lawful_reply = next_is (IsLawfulReply start) world.replies left (length s.calls) reply lawful.replies (sym gone) in record {
            place = at_next more refl;
            beside = beside_after start.visible came.memory reply after lawful_reply.value lawful_reply.bytes does.beside;
            agree = λ reg lives small. agrees_after came.regs w' reply after reg does.beside.second.long
                (λ kept. does.agree reg ((place + 1, leads_there, lives), small) (subst (λ e. IsKept e reg) (sym ends) kept));
            visible_is = w.related.visible_is;
            calls_are = same_more s.calls t.calls event (call_of start.visible target after) w.related.calls_are same;
            replies_are = sym (drop_next world.replies (length s.calls) reply left gone) ∙
                ap (λ n. drop n world.replies) (sym (length_more s.calls event));
            entry_is = does.entry_is ∙ w.related.entry_is;
            keeps = keeping.replied place i ls s.regs s.memory t.machine came event w' reply there is_call comes ends does w.related.keeps;
          }

      -- by the replies that are left
      answered : (event : CallEvent) (w' : Width) (target k : ℕ) (rest' : List CodeItem) (m' : RvState) (left : List Reply) →
          t.replies ≡ left →
          came.ending ≡ insn_end.Calls event w' → SameCall event (call_of start.visible target after) → i.kind ≡ kind.Call →
          leads f.insns place (place + 1) ≡ true →
          rtl_step.step world f s ≡ rtl_step.after_reply (behind s.next) place w' event (rtl_step.next_reply world s) →
          turns.Moves world start.visible items k t (at rest' m' t.replies t.calls) →
          turn (at rest' m' t.replies t.calls) ≡ turned_as (lines.called start.visible target more (at [] after t.replies t.calls)) →
          Simulates s t
      answered event w' target k rest' m' [] none ends same is_call leads_there stepped led end =
          let gone : drop (length s.calls) world.replies ≡ [] = sym w.related.replies_are ∙ none in
          let made : List CodeCall = t.calls ++ call_of start.visible target after ∷ [] in
          machine.ends_there rtl_ends.Asked (record (behind s.next) { calls = s.calls ++ event ∷ [] }) k (at rest' m' t.replies t.calls)
          (code.Asked made)
          (stepped ∙ ap (rtl_step.after_reply (behind s.next) place w' event) (get_past world.replies (length s.calls) gone)) refl led tt
          (end ∙ ap (λ left. turned_as (lines.replied left more (at [] after left made))) none)
          (one_at_least k t (at rest' m' t.replies t.calls) led)
          (same_more s.calls t.calls event (call_of start.visible target after) w.related.calls_are same)
      answered event w' target k rest' m' (reply ∷ left) some ends same is_call leads_there stepped led end =
          let gone : drop (length s.calls) world.replies ≡ reply ∷ left = sym w.related.replies_are ∙ some in
          let made : List CodeCall = t.calls ++ call_of start.visible target after ∷ [] in
          let t'' : Running = at more (after_call reply after) left made in
          machine.goes_on rtl_ends.Called (called event w' reply) (added k 1) t''
          (stepped ∙ ap (rtl_step.after_reply (behind s.next) place w' event) (get_dropped world.replies
          (length s.calls) reply left gone)) refl
          (then_one k t (at rest' m' t.replies t.calls) t'' led (end ∙
          ap (λ left. turned_as (lines.replied left more (at [] after left made))) some))
          (one_at_least k t (at rest' m' t.replies t.calls) led)
          (related_called event w' target reply left ends same some is_call leads_there)

      calls_by : (event : CallEvent) (w' : Width) (e : LinesEnd) (call : CallEnd start.visible after event e) →
          Passes world start.visible items t.replies t.calls t.rest t.machine more after e → came.ending ≡ insn_end.Calls event w' →
          i.kind ≡ kind.Call →
          leads f.insns place (place + 1) ≡ true →
          rtl_step.step world f s ≡ rtl_step.after_reply (behind s.next) place w' event (rtl_step.next_reply world s) → Simulates s t
      calls_by event w' _ call (turns.falls k rest next led) ends is_call leads_there stepped = let is = call.is in
          absurd (let no : ⊥ = cc in no)
      calls_by event w' _ call (turns.goes k rest m' target led end) ends is_call leads_there stepped = let is = call.is in
          absurd (let no : ⊥ = cc in no)
      calls_by event w' _ call (turns.calls k rest m' target led end) ends is_call leads_there stepped =
          let is = call.is in let same : call.target ≡ target = cc in
          answered event w' target k rest m' t.replies refl ends (subst
          (λ x. SameCall event (call_of start.visible x after)) same call.same_call)
          is_call leads_there stepped led end
      calls_by event w' _ call turns.returns ends is_call leads_there stepped = let is = call.is in absurd (let no : ⊥ = cc in no)

      pub calls_on : (event : CallEvent) (w' : Width) → came.ending ≡ insn_end.Calls event w' → i.kind ≡ kind.Call →
          rtl_step.step world f s ≡ rtl_step.after_reply (behind s.next) place w' event (rtl_step.next_reply world s) → Simulates s t
      calls_on event w' ends is_call = calls_by event w' does.done.ending
          (end_calls number start.visible after came.ending does.done.ending event w' does.same_end ends) passes ends is_call
          (leads_on f.insns place i there (λ jumps. let no : kind.Call ≡ kind.Jump = sym is_call ∙ jumps in let none : ⊥ = cc in none))
