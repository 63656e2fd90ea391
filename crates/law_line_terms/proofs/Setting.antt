-- A line that sets rd: the symbolic state with the term there shows the machine with its number there.
use Rattle.std.proofs.Common.{◌≡◌, ◌≢◌, ℕ, zero, suc, ◌<◌, ◌==◌, Bool, true, false, List, Option, Some, None, refl, sym, ◌∙◌, ap, subst, arith}
use Rattle.bits64.specs.declared.Width.TheVariants.{W64}
use Rattle.rv_line.specs.Step as line
use Rattle.rv_line.specs.declared.state.RvState.{RvState}
use Rattle.law_insn_terms.proofs.law_window_runs.same_behaviour.Registers.{register_set, register_kept, length_written}
use Rattle.term_tree.specs.Tree.{Tree, width_of}
use Rattle.term_mean.specs.Meaning.{Valuation, mean}
use Rattle.sym_lines.specs.sym_state.State.{State, NeedAt}
use Rattle.sym_lines.specs.sym_state.Registers.{held, placed, put}
use Rattle.law_insn_terms.specs.Needs as needs
use Rattle.law_insn_terms.proofs.Changes.{same_number, held_placed, held_kept}
use Rattle.law_line_terms.specs.ShowsLine.{ShowsNumber, ShowsLine}

pub differs : (a b : ℕ) → (a == b) ≡ false → a ≢ b
differs a b is same = let yes : (a == b) ≡ true = grind (arith, same) in absurd (let no : ⊥ = cc in no)

module _ (v : Valuation) (f : needs.First) (first : List (Option ℕ)) where
  -- what is shown of a register goes by what it holds
  moved : (regs regs' : List (Option ℕ)) (reg : ℕ) (left : Option (Option Tree)) → line.register regs' reg ≡ line.register regs reg → ShowsNumber v first regs left reg → ShowsNumber v first regs' left reg
  moved regs regs' reg None same shows = same ∙ shows
  moved regs regs' reg (Some None) same shows = shows
  moved regs regs' reg (Some (Some t)) same shows = (same ∙ shows.0, shows.1)

  set_by : (s : State) (m : RvState) (r value : ℕ) (t : Tree) (q : ℕ) (same : Bool) → (suc r == suc q) ≡ same → ShowsLine v f first s m → suc r < 32 → width_of t ≡ W64 → mean v t ≡ value →
      ShowsNumber v first (line.with_register m.regs (suc r) value) (held (placed s.regs (suc r) (Some t)) (suc q)) (suc q)
  set_by s m r value t q true is shows within width number =
      let e : suc r ≡ suc q = same_number (suc r) (suc q) is in
      let long = shows.long in
      let there : line.register (line.with_register m.regs (suc r) value) (suc r) ≡ Some (mean v t) = register_set m.regs (suc r) value (omega arith) (omega (arith, within, long)) ∙ ap Some (sym number) in
      subst (λ q. ShowsNumber v first (line.with_register m.regs (suc r) value) (held (placed s.regs (suc r) (Some t)) q) q) e
      (subst (λ left. ShowsNumber v first (line.with_register m.regs (suc r) value) left (suc r)) (sym (held_placed s.regs (suc r) (Some t))) (there, width))
  set_by s m r value t q false is shows within width number =
      let other : suc r ≢ suc q = differs (suc r) (suc q) is in
      subst (λ left. ShowsNumber v first (line.with_register m.regs (suc r) value) left (suc q)) (sym (held_kept s.regs (suc r) (suc q) (Some t) other))
      (moved m.regs (line.with_register m.regs (suc r) value) (suc q) (held s.regs (suc q)) (register_kept m.regs (suc r) (suc q) value (omega arith) (omega arith) other) (shows.registers q))

  -- rd is set to a number
  pub rd_shows : (s : State) (m : RvState) (rd value : ℕ) (t : Tree) (after : List NeedAt) → ShowsLine v f first s m → rd < 32 → width_of t ≡ W64 → mean v t ≡ value →
      ShowsLine v f first (record s { regs = put s.regs rd (Some t); needs = after }) (record m { regs = line.with_register m.regs rd value })
  rd_shows s m zero value t after shows within width number = record {
    registers = shows.registers;
    long = shows.long;
    memory_is = shows.memory_is;
    stored = shows.stored;
  }
  rd_shows s m (suc r) value t after shows within width number = record {
    registers = λ q. set_by s m r value t q (suc r == suc q) refl shows within width number;
    long = length_written m.regs (suc r) value (omega arith) ∙ shows.long;
    memory_is = shows.memory_is;
    stored = shows.stored;
  }
