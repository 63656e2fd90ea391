-- The step of a line: it goes on exactly where its needs are met, and then the symbolic state after it shows the machine after it.
use Rattle.std.proofs.Common.{◌≡◌, ℕ, ◌&&◌, Bool, true, false, List, ◌++◌, Option, Some, None, refl, sym, ◌∙◌, ap}
use Rattle.std.specs.Prelude.{if◌then◌else◌, option_map}
use Rattle.bits64.specs.declared.Width.{Width}
use Rattle.bits64.specs.declared.Width.TheVariants.{W64}
use Rattle.bits64.specs.declared.operator.Operator.{Operator}
use Rattle.bits64.specs.Words.{low}
use Rattle.rv_text.specs.declared.line.Line.{Line}
use Rattle.rv_text.specs.declared.action.Source.{Source}
use Rattle.rv_line.specs.Step as line
use Rattle.rv_line.specs.declared.state.RvState.{RvState}
use Rattle.term_tree.specs.Tree.{Tree}
use Rattle.term_mean.specs.Meaning.{Valuation, mean}
use Rattle.sym_lines.specs.sym_state.State.{State, Need}
use Rattle.sym_lines.specs.Compute as compute
use Rattle.sym_lines.specs.Step as spec
use Rattle.law_insn_terms.specs.Needs as needs
use Rattle.law_insn_terms.specs.Needs.{are_met}
use Rattle.law_insn_terms.proofs.Values.{both_met}
use Rattle.law_line_terms.specs.ShowsLine.{IsFirst, ShowsLine}
use Rattle.law_line_terms.proofs.Reading.{had, source_had}
use Rattle.law_line_terms.proofs.Computing.{computed_made}

module _ (v : Valuation) (f : needs.First) (first : List (Option ℕ)) (is_first : IsFirst v f first) where
  -- what is had, by whether its needs are met
  pub record Had (ns : List Need) (t : Tree) (n : ℕ) : Type 0 where
    pub met : are_met v f ns ≡ true
    pub number : low W64 n ≡ mean v t

  had_some : (ns : List Need) (t : Tree) (n : ℕ) → option_map (low W64) (Some n) ≡ had v f first is_first ns t → Had ns t n
  had_some ns t n is = by (are_met v f ns) refl is
    where
      by : (b : Bool) → are_met v f ns ≡ b → Some (low W64 n) ≡ (if b then Some (mean v t) else None) → Had ns t n
      by true e is = record { met = e; number = let same : low W64 n ≡ mean v t = cc in same }
      by false e is = absurd (let no : ⊥ = cc in no)

  had_none : (ns : List Need) (t : Tree) → None ≡ had v f first is_first ns t → are_met v f ns ≡ false
  had_none ns t is = by (are_met v f ns) refl is
    where
      by : (b : Bool) → are_met v f ns ≡ b → None ≡ (if b then Some (mean v t) else None) → are_met v f ns ≡ false
      by true e is = absurd (let no : ⊥ = cc in no)
      by false e is = e

  module _ (s : State) (m : RvState) (shows : ShowsLine v f first s m) where
    -- what a function gives of what a line reads is had where its sources are
    both_by : {X : Type 0} (g : ℕ → ℕ → X) (t : X) (l : Line) (x y : Source) →
        ((a b : ℕ) → low W64 a ≡ mean v (spec.source s.regs l x) → low W64 b ≡ mean v (spec.source s.regs l y) → g a b ≡ t) →
        (a b : Option ℕ) → line.source_value m l x ≡ a → line.source_value m l y ≡ b →
        line.of_both g a b ≡ (if are_met v f (spec.source_needs s.regs l x ++ spec.source_needs s.regs l y) then Some t else None)
    both_by g t l x y gives None b left right =
        let none = had_none (spec.source_needs s.regs l x) (spec.source s.regs l x) (sym (ap (option_map (low W64)) left) ∙ source_had v f first is_first s m shows l x) in
        sym (ap (λ c. if c then Some t else None)
        (both_met v f (spec.source_needs s.regs l x) (spec.source_needs s.regs l y) ∙ ap (λ c. c && are_met v f (spec.source_needs s.regs l y)) none))
    both_by g t l x y gives (Some a) None left right =
        let first_had = had_some (spec.source_needs s.regs l x) (spec.source s.regs l x) a (sym (ap (option_map (low W64)) left) ∙ source_had v f first is_first s m shows l x) in
        let none = had_none (spec.source_needs s.regs l y) (spec.source s.regs l y) (sym (ap (option_map (low W64)) right) ∙ source_had v f first is_first s m shows l y) in
        sym (ap (λ c. if c then Some t else None)
        (both_met v f (spec.source_needs s.regs l x) (spec.source_needs s.regs l y) ∙ ap (λ c. c && are_met v f (spec.source_needs s.regs l y)) first_had.met ∙ none))
    both_by g t l x y gives (Some a) (Some b) left right =
        let first_had = had_some (spec.source_needs s.regs l x) (spec.source s.regs l x) a (sym (ap (option_map (low W64)) left) ∙ source_had v f first is_first s m shows l x) in
        let second_had = had_some (spec.source_needs s.regs l y) (spec.source s.regs l y) b (sym (ap (option_map (low W64)) right) ∙ source_had v f first is_first s m shows l y) in
        ap Some (gives a b first_had.number second_had.number)
        ∙ sym (ap (λ c. if c then Some t else None)
        (both_met v f (spec.source_needs s.regs l x) (spec.source_needs s.regs l y) ∙ ap (λ c. c && are_met v f (spec.source_needs s.regs l y)) first_had.met ∙ second_had.met))

    pub both_had : {X : Type 0} (g : ℕ → ℕ → X) (t : X) (l : Line) (x y : Source) →
        ((a b : ℕ) → low W64 a ≡ mean v (spec.source s.regs l x) → low W64 b ≡ mean v (spec.source s.regs l y) → g a b ≡ t) →
        line.of_both g (line.source_value m l x) (line.source_value m l y)
        ≡ (if are_met v f (spec.source_needs s.regs l x ++ spec.source_needs s.regs l y) then Some t else None)
    both_had g t l x y gives = both_by g t l x y gives (line.source_value m l x) (line.source_value m l y) refl refl

    -- what a line computes
    pub computed_had : (l : Line) (o : Operator) (w : Width) (x y : Source) →
        line.of_both (line.computed o w) (line.source_value m l x) (line.source_value m l y)
        ≡ had v f first is_first (spec.source_needs s.regs l x ++ spec.source_needs s.regs l y) (compute.computed o w (spec.source s.regs l x) (spec.source s.regs l y))
    computed_had l o w x y =
        both_had (line.computed o w) _ l x y (λ a b left right. sym (computed_made v o w (spec.source s.regs l x) (spec.source s.regs l y) a b left right))
