-- The step of a line that names a symbol, jumps or calls: where its needs are met it goes by the numbers of its terms, else it is stuck.
use Rattle.std.proofs.Common.{◌≡◌, ℕ, ◌%◌, ◌<◌, ◌==◌, ◌&&◌, Bool, true, false, List, [], ◌∷◌, ◌++◌, Option, Some, None, refl, sym, ◌∙◌, ap}
use Rattle.std.specs.Prelude.{if◌then◌else◌, is_some, not}
use Rattle.std.proofs.Math.Nat.{mod-eq_of_lt}
use Rattle.bits64.specs.declared.Width.TheVariants.{W64}
use Rattle.bits64.specs.declared.operator.Relation.{Relation}
use Rattle.bits64.specs.Words.{low}
use Rattle.bits64.specs.Operators.{holds}
use Rattle.bits64.proofs.Operators.{holds_low}
use Rattle.rtx_tree.specs.declared.machine.World.{World}
use Rattle.run_memory.specs.Symbols.{symbol_address}
use Rattle.rv_text.specs.declared.line.Line.{Line}
use Rattle.rv_text.specs.declared.action.Action.TheVariants as action
use Rattle.rv_text.specs.declared.action.Source.{Source}
use Rattle.rv_line.specs.Step as line
use Rattle.rv_line.specs.declared.state.RvState.{RvState}
use Rattle.rv_line.specs.declared.state.LineEnd.TheVariants as ends
use Rattle.term_tree.specs.Tree.{Tree}
use Rattle.term_mean.specs.Meaning.{Valuation, mean, truth}
use Rattle.term_mean.specs.Compared.{compared}
use Rattle.term_mean.proofs.ComparedLaws.{mean-compared}
use Rattle.sym_lines.specs.sym_state.State.{State, Symbol, own_symbol, needs_at}
use Rattle.sym_lines.specs.Step as spec
use Rattle.law_insn_terms.specs.Needs as needs
use Rattle.law_insn_terms.specs.Needs.{are_met}
use Rattle.law_insn_terms.specs.Shows.{IsOf}
use Rattle.law_line_terms.specs.ShowsLine.{IsFirst, ShowsLine}
use Rattle.law_line_terms.proofs.Reading.{had, register_had}
use Rattle.law_line_terms.proofs.Lines.{both_had}
use Rattle.law_line_terms.proofs.Setting.{rd_shows}
use Rattle.law_line_terms.proofs.Steps.{sets_to, set_had, compute_needs}

not_not : (b : Bool) → b ≡ not (truth b == 0)
not_not true = refl
not_not false = refl

module _ (v : Valuation) (f : needs.First) (first : List (Option ℕ)) (is_first : IsFirst v f first) (s : State) (m : RvState) (shows : ShowsLine v f first s m) where
  -- ---- a branch

  abbrev pub branch_term : Line → Relation → Source → Source → Tree
  branch_term l r x y = compared r W64 (spec.source s.regs l x) (spec.source s.regs l y)

  -- a relation goes by the low 64 bits, as the terms have them
  holds_by : (l : Line) (r : Relation) (x y : Source) (a b : ℕ) → low W64 a ≡ mean v (spec.source s.regs l x) → low W64 b ≡ mean v (spec.source s.regs l y) →
      holds r W64 a b ≡ not (mean v (branch_term l r x y) == 0)
  holds_by l r x y a b left right =
      sym (holds_low r W64 a b)
      ∙ ap (λ n. holds r W64 n (low W64 b)) left
      ∙ ap (holds r W64 (mean v (spec.source s.regs l x))) right
      ∙ not_not (holds r W64 (mean v (spec.source s.regs l x)) (mean v (spec.source s.regs l y)))
      ∙ ap (λ n. not (n == 0)) (sym (mean-compared v r W64 (spec.source s.regs l x) (spec.source s.regs l y)))

  branch_ends : (met zero : Bool) → line.branch_end (if met then Some (not zero) else None) ≡ (if met then (if zero then ends.Next else ends.Jumped) else ends.Stuck)
  branch_ends true true = refl
  branch_ends true false = refl
  branch_ends false zero = refl

  -- where its needs are met a branch goes on where the condition's number is 0, and else jumps
  pub branch_goes : (world : World) (l : Line) (r : Relation) (x y : Source) → line.act (action.Branch r x y) world l m
      ≡ (if are_met v f (compute_needs v f first is_first s m shows l x y) then (if mean v (branch_term l r x y) == 0 then ends.Next else ends.Jumped) else ends.Stuck, m)
  branch_goes world l r x y = ap (λ e. (e, m)) (
      ap line.branch_end (both_had v f first is_first s m shows (holds r W64) (not (mean v (branch_term l r x y) == 0)) l x y (holds_by l r x y))
      ∙ branch_ends (are_met v f (compute_needs v f first is_first s m shows l x y)) (mean v (branch_term l r x y) == 0))

  -- ---- the address of a symbol

  symbol_by : IsOf v f → (name : List ℕ) (o : Option ℕ) → symbol_address f.symbols name ≡ o → o ≡ (if is_some o && true then Some (mean v (own_symbol name)) else None)
  symbol_by of name None is = refl
  symbol_by of name (Some address) is =
      let word = of.words name address is in
      ap Some (sym (ap (low W64) (sym (of.symbols name address is)) ∙ mod-eq_of_lt word))

  symbol_had : IsOf v f → (name : List ℕ) → symbol_address f.symbols name ≡ had v f first is_first (Symbol name ∷ []) (own_symbol name)
  symbol_had of name = symbol_by of name (symbol_address f.symbols name) refl

  pub symbol_goes : IsOf v f → (world : World) → f.symbols ≡ world.symbols → (l : Line) →
      line.act action.SymbolAddress world l m ≡ sets_to v f first is_first s m shows l (Symbol l.target ∷ []) (own_symbol l.target)
  symbol_goes of world same l =
      ap (λ symbols. line.set_rd m l (symbol_address symbols l.target)) (sym same) ∙ ap (line.set_rd m l) (symbol_had of l.target)
      ∙ set_had v f first is_first s m shows l (Symbol l.target ∷ []) (own_symbol l.target)

  pub symbol_shows : (index : ℕ) (uid : Option ℕ) (l : Line) → l.rd < 32 →
      ShowsLine v f first (spec.act action.SymbolAddress index uid l s) (record m { regs = line.with_register m.regs l.rd (mean v (own_symbol l.target)) })
  symbol_shows index uid l within =
      rd_shows v f first s m l.rd (mean v (own_symbol l.target)) (own_symbol l.target) (s.needs ++ needs_at index (Symbol l.target ∷ [])) shows within refl refl

  -- ---- a call

  pub call_goes : IsOf v f → (world : World) → f.symbols ≡ world.symbols → (l : Line) →
      line.act action.Call world l m ≡ (if are_met v f (Symbol l.target ∷ []) then ends.Called (mean v (own_symbol l.target)) else ends.Stuck, m)
  call_goes of world same l = ap (λ e. (e, m)) (
      ap (λ symbols. line.call_end (symbol_address symbols l.target)) (sym same) ∙ ap line.call_end (symbol_had of l.target) ∙ by (are_met v f (Symbol l.target ∷ [])))
    where
      by : (b : Bool) → line.call_end (if b then Some (mean v (own_symbol l.target)) else None) ≡ (if b then ends.Called (mean v (own_symbol l.target)) else ends.Stuck)
      by true = refl
      by false = refl

  -- an address that is no multiple of 4 is not called
  pub register_call_goes : (world : World) (l : Line) → line.act action.CallRegister world l m
      ≡ (if are_met v f (spec.register_needs s.regs l.rs) then (if mean v (spec.register s.regs l.rs) % 4 == 0 then ends.Called (mean v (spec.register s.regs l.rs)) else ends.Stuck) else ends.Stuck, m)
  register_call_goes world l = ap (λ e. (e, m)) (ap line.register_call_end (register_had v f first is_first s m shows l.rs) ∙ by (are_met v f (spec.register_needs s.regs l.rs)))
    where
      by : (b : Bool) → line.register_call_end (if b then Some (mean v (spec.register s.regs l.rs)) else None)
          ≡ (if b then (if mean v (spec.register s.regs l.rs) % 4 == 0 then ends.Called (mean v (spec.register s.regs l.rs)) else ends.Stuck) else ends.Stuck)
      by true = refl
      by false = refl
