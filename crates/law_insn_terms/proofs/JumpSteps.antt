-- A jump that can be compared: what it comes to where its needs are met, and the symbolic state after it.
use Rattle.std.proofs.Common.{◌≡◌, ℕ, ◌==◌, Bool, true, false, List, [], ◌∷◌, Option, Some, None, refl, ◌∙◌, ap}
use Rattle.std.specs.Prelude.{if◌then◌else◌, option_map}
use Rattle.rtx_tree.specs.Patterns.{is_pc, label_of}
use Rattle.rtx_tree.specs.declared.code.Code.TheVariants as code
use Rattle.rtx_tree.specs.declared.function.Insn.{Insn}
use Rattle.rtx_tree.specs.declared.function.Kind.TheVariants as kind
use Rattle.rtx_tree.specs.declared.machine.RangeAt.{RangeAt}
use Rattle.rtx_tree.specs.declared.memories.MemByte.{MemByte}
use Rattle.rtx_tree.specs.declared.tree.Rtx.{Rtx, out-Rtx}
use Rattle.bits64.specs.declared.Width.TheVariants.{W8}
use Rattle.rtl_step.specs.Regs.{Regs}
use Rattle.rtl_step.specs.Jump as jump
use Rattle.rtl_step.specs.declared.jump.Way.TheVariants as way
use Rattle.term_mean.specs.Meaning.{Valuation, mean}
use Rattle.law_window_runs.specs.Insns.{InsnsEnd, Falls, Goes, come_to, end_of_way, insn_comes}
use Rattle.sym_insns.specs.sym_state.State.{State}
use Rattle.sym_insns.specs.Value.{Made, made_of}
use Rattle.sym_insns.specs.Effects as spec
use Rattle.law_insn_terms.specs.Needs.{First, are_met}
use Rattle.law_insn_terms.specs.Shows.{IsOf, Shows}
use Rattle.law_insn_terms.proofs.Growth.{jump_test_by, jump_test, jump_is}
use Rattle.law_insn_terms.proofs.JumpShapes.{Leads, to_label, by_test, IsJump}
use Rattle.law_insn_terms.proofs.Jumps.{branch_worth}

-- to a label where a number is not 0
abbrev pub leads_to : ℕ → ℕ → InsnsEnd
leads_to number uid = if number == 0 then Falls else Goes uid

-- a jump: what it tests, its label, the state after it, and what it comes to
pub record Jumped (v : Valuation) (f : First) (s : State) (ranges : List RangeAt) (regs : Regs) (memory : List MemByte) (i : Insn) : Type 0 where
  pub test : Made
  pub label : Rtx
  pub uid : ℕ
  pub label_is : label_of label ≡ Some uid
  pub after_is : (index : ℕ) → spec.after_jump index i.pattern s ≡ spec.jumps index test label s
  pub comes_is : insn_comes kind.Jump f.symbols ranges i regs memory ≡ (if are_met v f test.needs then Some (come_to regs memory (leads_to (mean v test.term) uid)) else None)

module _ (v : Valuation) (f : First) (s : State) (ranges : List RangeAt) (regs : Regs) (memory : List MemByte) (of : IsOf v f) (shows : Shows v f s regs memory) (i : Insn) where
  way_here : (place source : Rtx) → (out-Rtx i.pattern).code ≡ code.Set → (out-Rtx i.pattern).kids ≡ place ∷ source ∷ [] → is_pc place ≡ true →
      jump.jump_of f.symbols regs memory i.pattern ≡ jump.way_of f.symbols regs memory source
  way_here place source is kids pc =
      ap (λ c. jump.jump_by c (out-Rtx i.pattern).kids f.symbols regs memory) is
      ∙ (ap (λ parts. jump.jump_by code.Set parts f.symbols regs memory) kids
      ∙ ap (λ b. if b then jump.way_of f.symbols regs memory source else None) pc)

  after_here : (place source : Rtx) (index : ℕ) → (out-Rtx i.pattern).kids ≡ place ∷ source ∷ [] →
      spec.after_jump index i.pattern s ≡ spec.jumps index (jump_test source s) (spec.jump_label source) s
  after_here place source index kids =
      jump_is index i.pattern s ∙ ap (λ parts. spec.jumps index (jump_test (spec.jump_source parts i.pattern) s) (spec.jump_label (spec.jump_source parts i.pattern)) s) kids

  chosen_end : (number uid : ℕ) → end_of_way (jump.chosen number uid) ≡ leads_to number uid
  chosen_end number uid = by (number == 0)
    where
      by : (b : Bool) → end_of_way (if b then way.Falls else way.Goes uid) ≡ (if b then Falls else Goes uid)
      by true = refl
      by false = refl

  branch_end : (b : Bool) (number uid : ℕ) (o : Option ℕ) → o ≡ Some uid →
      option_map (λ w. come_to regs memory (end_of_way w)) (if b then option_map (jump.chosen number) o else None) ≡ (if b then Some (come_to regs memory (leads_to number uid)) else None)
  branch_end true number uid o is = ap (λ o. option_map (λ w. come_to regs memory (end_of_way w)) (option_map (jump.chosen number) o)) is ∙ ap (λ e. Some (come_to regs memory e)) (chosen_end number uid)
  branch_end false number uid o is = refl

  abbrev Ends : Rtx → Type 0
  Ends source = (place : Rtx) → (out-Rtx i.pattern).code ≡ code.Set → (out-Rtx i.pattern).kids ≡ place ∷ source ∷ [] → is_pc place ≡ true → Jumped v f s ranges regs memory i

  ends_by : (source : Rtx) → Leads source → Ends source
  ends_by source (to_label is labelled) place set kids pc =
      let parts : List Rtx = (out-Rtx source).kids in
      let test_is : jump_test source s ≡ spec.always = ap (λ c. jump_test_by c parts s) is in
      let label_is : spec.jump_label source ≡ source = ap (λ c. spec.label_by c parts source) is in
      let goes : jump.way_of f.symbols regs memory source ≡ Some (way.Goes labelled.uid) =
      ap (λ c. jump.way_by c parts source f.symbols regs memory) is ∙ ap (λ o. option_map way.Goes o) labelled.uid_is in
      record {
        test = spec.always;
        label = source;
        uid = labelled.uid;
        label_is = labelled.uid_is;
        after_is = λ index. after_here place source index kids ∙ (ap (λ t. spec.jumps index t (spec.jump_label source) s) test_is ∙ ap (λ l. spec.jumps index spec.always l s) label_is);
        comes_is = ap (λ o. option_map (λ w. come_to regs memory (end_of_way w)) o) (way_here place source set kids pc ∙ goes);
      }
  ends_by source (by_test test label other is parts compares labelled pc_other) place set kids pc =
      let test_is : jump_test source s ≡ made_of s.regs s.stores test W8 = ap (λ c. jump_test_by c (out-Rtx source).kids s) is ∙ ap (λ ps. jump_test_by code.IfThenElse ps s) parts in
      let label_is : spec.jump_label source ≡ label = ap (λ c. spec.label_by c (out-Rtx source).kids source) is ∙ ap (λ ps. spec.label_by code.IfThenElse ps source) parts in
      let goes : jump.way_of f.symbols regs memory source ≡ jump.branch f.symbols regs memory test label =
      ap (λ c. jump.way_by c (out-Rtx source).kids source f.symbols regs memory) is
      ∙ (ap (λ ps. jump.way_by code.IfThenElse ps source f.symbols regs memory) parts
      ∙ ap (λ b. if b then jump.branch f.symbols regs memory test label else None) pc_other) in
      let made : Made = made_of s.regs s.stores test W8 in
      record {
        test = made;
        label = label;
        uid = labelled.uid;
        label_is = labelled.uid_is;
        after_is = λ index. after_here place source index kids ∙ (ap (λ t. spec.jumps index t (spec.jump_label source) s) test_is ∙ ap (λ l. spec.jumps index made l s) label_is);
        comes_is =
            ap (λ o. option_map (λ w. come_to regs memory (end_of_way w)) o) (way_here place source set kids pc ∙ (goes ∙ branch_worth v f s regs memory of shows test label compares))
            ∙ branch_end (are_met v f made.needs) (mean v made.term) labelled.uid (label_of label) labelled.uid_is;
      }

  pub jumped : IsJump i.pattern → Jumped v f s ranges regs memory i
  jumped is = ends_by is.source is.leads is.place is.code_is is.kids_are is.pc_is
