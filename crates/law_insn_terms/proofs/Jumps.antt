-- A jump: where its needs are met it leads to its label where the condition's number is not 0, and on where it is.
use Rattle.std.proofs.Common.{◌≡◌, ℕ, Bool, true, false, List, [], ◌∷◌, map, Option, Some, None, refl, sym, ◌∙◌, ap}
use Rattle.std.specs.Prelude.{if◌then◌else◌, option_map}
use Rattle.bits64.specs.declared.Width.{Width}
use Rattle.bits64.specs.declared.Width.TheVariants.{W8, W64}
use Rattle.rtx_tree.specs.Code.{class_of_code}
use Rattle.rtx_tree.specs.Patterns.{label_of}
use Rattle.rtx_tree.specs.declared.class.Class.{Class}
use Rattle.rtx_tree.specs.declared.class.Class.TheVariants as class
use Rattle.rtx_tree.specs.declared.code.Code.{Code}
use Rattle.rtx_tree.specs.declared.memories.MemByte.{MemByte}
use Rattle.rtx_tree.specs.declared.machine.SymbolAt.{SymbolAt}
use Rattle.rtx_tree.specs.declared.tree.Rtx.{Rtx, out-Rtx}
use Rattle.rtl_step.specs.Regs.{Regs}
use Rattle.rtl_step.specs.Value as rtl
use Rattle.rtl_step.specs.Jump as jump
use Rattle.rtl_step.proofs.Values.{value_in}
use Rattle.term_mean.specs.Meaning.{Valuation, mean}
use Rattle.sym_insns.specs.sym_state.State.{State}
use Rattle.sym_insns.specs.Value.{Made, made_of}
use Rattle.law_insn_terms.specs.Needs.{First, are_met, worth}
use Rattle.law_insn_terms.specs.Shows.{IsOf, Shows}
use Rattle.law_insn_terms.proofs.Values.{value_worth}

-- ---- a comparison has the same value in every width

compared_by : (symbols : List SymbolAt) (regs : Regs) (memory : List MemByte) (k : Class) (c : Code) (n : _) (name : List ℕ) (parts : List rtl.Reading) (v w : Width) → k ≡ class.Comparison →
    rtl.value_by symbols regs memory k c n name parts v ≡ rtl.value_by symbols regs memory k c n name parts w
compared_by symbols regs memory k c n name [] v w is = ap (λ k. rtl.value_of_none symbols regs k n name v) is ∙ sym (ap (λ k. rtl.value_of_none symbols regs k n name w) is)
compared_by symbols regs memory k c n name (a ∷ []) v w is = ap (λ k. rtl.value_of_one memory k c a v) is ∙ sym (ap (λ k. rtl.value_of_one memory k c a w) is)
compared_by symbols regs memory k c n name (a ∷ b ∷ []) v w is = ap (λ k. rtl.value_of_two k c a b v) is ∙ sym (ap (λ k. rtl.value_of_two k c a b w) is)
compared_by symbols regs memory k c n name (a ∷ b ∷ d ∷ parts) v w is = refl

pub compared_in : (symbols : List SymbolAt) (regs : Regs) (memory : List MemByte) (x : Rtx) (v w : Width) → class_of_code (out-Rtx x).code ≡ class.Comparison →
    rtl.value_of symbols regs memory x v ≡ rtl.value_of symbols regs memory x w
compared_in symbols regs memory x v w is =
    value_in symbols regs memory x v
    ∙ compared_by symbols regs memory (class_of_code (out-Rtx x).code) (out-Rtx x).code (out-Rtx x).number (out-Rtx x).name (map (rtl.reading_of symbols regs memory) (out-Rtx x).kids) v w is
    ∙ sym (value_in symbols regs memory x w)

-- ---- where a choice leads

module _ (v : Valuation) (f : First) (s : State) (regs : Regs) (memory : List MemByte) (of : IsOf v f) (shows : Shows v f s regs memory) where
  chosen_worth : (m : Made) (label : Option ℕ) → rtl.of_two (λ holds uid. Some (jump.chosen holds uid)) (worth v f m) label
      ≡ (if are_met v f m.needs then option_map (jump.chosen (mean v m.term)) label else None)
  chosen_worth m None = by (are_met v f m.needs)
    where
      by : (b : Bool) → rtl.of_two (λ holds uid. Some (jump.chosen holds uid)) (if b then Some (mean v m.term) else None) None ≡ (if b then None else None)
      by true = refl
      by false = refl
  chosen_worth m (Some uid) = by (are_met v f m.needs)
    where
      by : (b : Bool) → rtl.of_two (λ holds uid. Some (jump.chosen holds uid)) (if b then Some (mean v m.term) else None) (Some uid) ≡ (if b then Some (jump.chosen (mean v m.term) uid) else None)
      by true = refl
      by false = refl

  -- a branch on a comparison, whose truth has 8 bits
  pub branch_worth : (test label : Rtx) → class_of_code (out-Rtx test).code ≡ class.Comparison →
      jump.branch f.symbols regs memory test label
      ≡ (if are_met v f (made_of s.regs s.stores test W8).needs then option_map (jump.chosen (mean v (made_of s.regs s.stores test W8).term)) (label_of label) else None)
  branch_worth test label is =
      ap (λ o. rtl.of_two (λ holds uid. Some (jump.chosen holds uid)) o (label_of label)) (compared_in f.symbols regs memory test W64 W8 is ∙ value_worth v f s regs memory of shows test W8)
      ∙ chosen_worth (made_of s.regs s.stores test W8) (label_of label)
