-- Places of a function, and its items from there on.
use Rattle.std.proofs.Common.{◌≡◌, ◌≢◌, ℕ, suc, ◌+◌, ◌&&◌, ◌||◌, ◌==◌, cond, arith, if◌then◌else◌, Bool, true, false, drop, List, [], ◌∷◌, ◌++◌, map, Some, refl, sym, ap, subst, ◌∙◌}
use Rattle.std.specs.Prelude.{slice_get}
use Rattle.std.specs.List.{position_from}
use Rattle.rtx_tree.specs.Registers.{is_call_used}
use Rattle.rtx_tree.specs.Patterns.{is_label_kind, is_label}
use Rattle.rtx_tree.specs.declared.function.Insn.{Insn}
use Rattle.rtx_tree.specs.declared.function.Function.{Function}
use Rattle.rtx_tree.specs.declared.function.Kind.{Kind}
use Rattle.rtx_tree.specs.declared.function.Kind.TheVariants as kind
use Rattle.rtl_step.specs.Step as rtl_step
use Rattle.rtl_step.specs.Step.{is_mark}
use Rattle.reg_uses.specs.Uses.{insn_defines, is_call_kind}
use Rattle.live.specs.Live as live
use Rattle.live.specs.Live.{IsLive}
use Rattle.rv_text.specs.Body.{label_text}
use Rattle.rv_text.specs.declared.line.Line.{Line}
use Rattle.rv_text.specs.declared.line.CodeItem.{CodeItem}
use Rattle.rv_text.specs.declared.line.CodeItem.TheVariants.{Label, Code}
use Rattle.rv_line.specs.Run.{next_line, behind_label}
use Rattle.law_window_runs.specs.same_behaviour.Ending.{IsUid}
use Rattle.law_window_runs.proofs.same_behaviour.Labels.{label_test}
use Rattle.law_window_runs.proofs.same_behaviour.Places.{get_dropped, drop_next}
use Rattle.law_window_lines.specs.ForLines.{MarksAreEmpty}
use Rattle.law_window_lines.specs.Items.{AreItemsAt, AreItemsFrom}
use Rattle.law_window_lines.specs.Items as items_of
use Rattle.law_window_lines.proofs.Leads.{leads_on}

-- ---- kinds

kind_passes : (k : Kind) (i : Insn) (rest : List Insn) (place : ℕ) (b : Bool) → i.kind ≡ k → is_mark k ≡ b →
    rtl_step.passed (i ∷ rest) place ≡ (if b then rtl_step.passed rest (place + 1) else place)
kind_passes k i rest place b is marks =
    ap (λ k. if is_mark k then rtl_step.passed rest (place + 1) else place) is ∙
    ap (λ b. if b then rtl_step.passed rest (place + 1) else place) marks

mark_is : (k : Kind) (i : Insn) → i.kind ≡ k → is_mark i.kind ≡ is_mark k
mark_is k i is = ap is_mark is

pub mark_jumps_not : (k : Kind) → is_mark k ≡ true → k ≢ kind.Jump
mark_jumps_not k marks is = let no : true ≡ false = sym marks ∙ ap is_mark is in let none : ⊥ = cc in none

pub mark_calls_not : (k : Kind) → is_mark k ≡ true → is_call_kind k ≡ false
mark_calls_not kind.Plain marks = refl
mark_calls_not kind.Jump marks = refl
mark_calls_not kind.Call marks = absurd (let no : ⊥ = cc in no)
mark_calls_not kind.Label marks = refl
mark_calls_not kind.Barrier marks = refl

module _ (number : ℕ) (f : Function) (marks : MarksAreEmpty f) where
  -- the items from a place on, up to labels
  pub record At (place : ℕ) (rest : List CodeItem) : Type 0 where
    pub there : List CodeItem
    pub are : AreItemsFrom number f place (drop place f.insns) there
    pub same : next_line rest ≡ next_line there

  -- what stands at a place that is no label or barrier
  pub data Stands (place : ℕ) (rest : List CodeItem) : Type 0 where
    at_end : drop place f.insns ≡ [] → Stands place rest
    at_insn : (i : Insn) (insns : List Insn) (own more : List CodeItem) → drop place f.insns ≡ i ∷ insns →
        is_mark i.kind ≡ false → AreItemsAt number f place i own → AreItemsFrom number f (place + 1) insns more →
        next_line rest ≡ next_line (own ++ more) → Stands place rest

  -- the first such place from there on; what is live before it is live before the labels and barriers in front of it
  pub record Passed (insns : List Insn) (place : ℕ) (rest : List CodeItem) : Type 0 where
    pub place' : ℕ
    pub passed_is : rtl_step.passed insns place ≡ place'
    pub stands : Stands place' rest
    pub lives : (reg : ℕ) → IsLive f reg place' → IsLive f reg place

  stays : (k : Kind) (i : Insn) (insns : List Insn) (place : ℕ) (rest own more : List CodeItem) → i.kind ≡ k → is_mark k ≡ false →
      drop place f.insns ≡ i ∷ insns → AreItemsAt number f place i own →
      AreItemsFrom number f (place + 1) insns more → next_line rest ≡ next_line (own ++ more) → Passed (i ∷ insns) place rest
  stays k i insns place rest own more kind_is none is own_are are same = record {
    place' = place;
    passed_is = kind_passes k i insns place false kind_is none;
    stands = at_insn i insns own more is (mark_is k i kind_is ∙ none) own_are are same;
    lives = λ reg lives. lives;
  }

  pub restand : (place : ℕ) (rest items : List CodeItem) → next_line rest ≡ next_line items → Stands place items → Stands place rest
  restand place rest items same (at_end none) = at_end none
  restand place rest items same (at_insn i insns own more is mark own_are are next) =
      at_insn i insns own more is mark own_are are (same ∙ next)

  mark_defines_none : (place reg : ℕ) (i : Insn) → slice_get f.insns place ≡ Some i → is_mark i.kind ≡ true → insn_defines i reg ≡ false
  mark_defines_none place reg i there mark =
      ap (λ b. b || (is_call_kind i.kind && is_call_used reg)) (marks place reg i there mark) ∙
      ap (λ b. b && is_call_used reg) (mark_calls_not i.kind mark)

  -- a label or a barrier is passed over
  mark_passes : (k : Kind) (i : Insn) (insns : List Insn) (place : ℕ) (rest items : List CodeItem) → i.kind ≡ k → is_mark k ≡ true →
      slice_get f.insns place ≡ Some i → next_line rest ≡ next_line items → Passed insns (place + 1) items → Passed (i ∷ insns) place rest
  mark_passes k i insns place rest items is mark there same later = record {
    place' = later.place';
    passed_is = kind_passes k i insns place true is mark ∙ later.passed_is;
    stands = restand later.place' rest items same later.stands;
    lives = λ reg lives. live.Passing place (place + 1) i there (mark_defines_none place reg i there (mark_is k i is ∙ mark))
        (leads_on f.insns place i there (λ jumps. mark_jumps_not k mark (sym is ∙ jumps))) (later.lives reg lives);
  }

  pub passes : (insns : List Insn) (items : List CodeItem) (place : ℕ) → drop place f.insns ≡ insns →
      AreItemsFrom number f place insns items → Passed insns place items
  passes _ _ place is (items_of.end _) = record {
    place' = place;
    passed_is = refl;
    stands = at_end is;
    lives = λ reg lives. lives;
  }
  passes _ _ place is (items_of.next _ i insns own more at are) = by_items own at
      (λ mark. passes insns more (place + 1) (drop_next f.insns place i insns is) are)
    where
      by_items : (own : List CodeItem) → AreItemsAt number f place i own → (is_mark i.kind ≡ true → Passed insns (place + 1) more) →
          Passed (i ∷ insns) place (own ++ more)
      by_items _ (items_of.label label small) later =
          mark_passes kind.Label i insns place (Label number i.uid ∷ more) more label refl (get_dropped f.insns place i insns is) refl
          (later (mark_is kind.Label i label))
      by_items _ (items_of.barrier barrier) later =
          mark_passes kind.Barrier i insns place more more barrier refl (get_dropped f.insns place i insns is) refl
          (later (mark_is kind.Barrier i barrier))
      by_items _ (items_of.quiet plain quiet) later =
          stays kind.Plain i insns place more [] more plain refl is (items_of.quiet plain quiet) are refl
      by_items _ (items_of.returning line jump return returns) later =
          stays kind.Jump i insns place (Code line ∷ more) (Code line ∷ []) more jump refl is
          (items_of.returning line jump return returns) are refl
      by_items _ (items_of.window lines window) later =
          stays i.kind i insns place (map Code lines ++ more) (map Code lines) more refl window.is_none is
          (items_of.window lines window) are refl

-- ---- labels

-- an instruction that is no label
kind_is_none : (k : Kind) (uid : ℕ) (i : Insn) → i.kind ≡ k → is_label_kind k ≡ false → is_label uid i ≡ false
kind_is_none k uid i is none = ap (λ k. is_label_kind k && (i.uid == uid)) is ∙ ap (λ b. b && (i.uid == uid)) none

unmarked : (k : Kind) → is_mark k ≡ false → is_label_kind k ≡ false
unmarked kind.Plain none = refl
unmarked kind.Jump none = refl
unmarked kind.Call none = refl
unmarked kind.Label none = absurd (let no : ⊥ = cc in no)
unmarked kind.Barrier none = refl

-- lines are passed over
behind_lines : (target : List ℕ) (lines : List Line) (items : List CodeItem) →
    behind_label target (map Code lines ++ items) ≡ behind_label target items
behind_lines target [] items = refl
behind_lines target (line ∷ lines) items = behind_lines target lines items

-- where a label stands among the instructions, and what follows it among the items
pub record Found (number : ℕ) (f : Function) (uid first place : ℕ) (insns : List Insn)
    (items : List CodeItem) : Type 0 where
  pub by : ℕ
  pub place_is : place ≡ first + by
  pub rest : List CodeItem
  pub behind : behind_label (label_text number uid) items ≡ Some rest
  pub there : List CodeItem
  pub are : AreItemsFrom number f place (drop by insns) there
  pub same : next_line rest ≡ next_line there

module _ (number : ℕ) (f : Function) (uid place : ℕ) where
  abbrev FoundIn : ℕ → List Insn → List CodeItem → Type 0
  FoundIn first insns items = Found number f uid first place insns items

  abbrev FoundBehind : ℕ → List Insn → List CodeItem → Type 0
  FoundBehind first insns items = position_from (is_label uid) (first + 1) insns ≡ Some place → FoundIn (first + 1) insns items

  -- one place further on
  found_later : (first : ℕ) (i : Insn) (insns : List Insn) (items items' : List CodeItem) →
      behind_label (label_text number uid) items ≡ behind_label (label_text number uid) items' → FoundIn (first + 1) insns items' →
      FoundIn first (i ∷ insns) items
  found_later first i insns items items' same later = record {
    by = suc later.by;
    place_is = let is = later.place_is in omega (arith, is);
    rest = later.rest;
    behind = same ∙ later.behind;
    there = later.there;
    are = later.are;
    same = later.same;
  }

  at_label : (first : ℕ) (i : Insn) (insns : List Insn) (more : List CodeItem) (here : Bool) → (i.uid == uid) ≡ here → IsUid uid →
      i.kind ≡ kind.Label → IsUid i.uid → AreItemsFrom number f (first + 1) insns more →
      cond here (Some first) (position_from (is_label uid) (first + 1) insns) ≡ Some place →
      FoundBehind first insns more →
      FoundIn first (i ∷ insns) (Label number i.uid ∷ more)
  at_label first i insns more true here small label small' are is later =
      let same : first ≡ place = cc in record {
        by = 0;
        place_is = omega (arith, same);
        rest = more;
        behind = ap (λ b. if b then Some more else behind_label (label_text number uid) more) (label_test number i.uid uid small' small ∙
            here);
        there = Label number i.uid ∷ more;
        are = subst (λ p. AreItemsFrom number f p (i ∷ insns) (Label number i.uid ∷ more)) same
            (items_of.next first i insns (Label number i.uid ∷ []) more (items_of.label label small') are);
        same = refl;
      }
  at_label first i insns more false here small label small' are is later =
      found_later first i insns (Label number i.uid ∷ more) more
      (ap (λ b. if b then Some more else behind_label (label_text number uid) more) (label_test number i.uid uid small' small ∙
      here)) (later is)

  pub found : (first : ℕ) (insns : List Insn) (items : List CodeItem) → IsUid uid → AreItemsFrom number f first insns items →
      position_from (is_label uid) first insns ≡ Some place → FoundIn first insns items
  found first _ _ small (items_of.end _) is = absurd (let no : ⊥ = cc in no)
  found first _ _ small (items_of.next _ i insns own more at are) is = by_items own at (found (first + 1) insns more small are)
    where
      other : (own : List CodeItem) → is_label uid i ≡ false → behind_label (label_text number uid) (own ++ more) ≡ behind_label
          (label_text number uid) more → FoundBehind first insns more →
          FoundIn first (i ∷ insns) (own ++ more)
      other own none same later = found_later first i insns (own ++ more) more same
          (later (sym (ap (λ b. cond b (Some first) (position_from (is_label uid) (first + 1) insns)) none) ∙ is))

      by_items : (own : List CodeItem) → AreItemsAt number f first i own → FoundBehind first insns more →
          FoundIn first (i ∷ insns) (own ++ more)
      by_items _ (items_of.label label small') later =
          at_label first i insns more (i.uid == uid) refl small label small' are
          (sym (ap (λ b. cond b (Some first) (position_from (is_label uid) (first + 1) insns))
          (ap (λ k. is_label_kind k && (i.uid == uid)) label)) ∙ is) later
      by_items _ (items_of.barrier barrier) later = other [] (kind_is_none kind.Barrier uid i barrier refl) refl later
      by_items _ (items_of.quiet plain quiet) later = other [] (kind_is_none kind.Plain uid i plain refl) refl later
      by_items _ (items_of.returning line jump return returns) later =
          other (Code line ∷ []) (kind_is_none kind.Jump uid i jump refl) refl later
      by_items _ (items_of.window lines window) later =
          other (map Code lines) (kind_is_none i.kind uid i refl (unmarked i.kind window.is_none)) (behind_lines
          (label_text number uid) lines more) later
