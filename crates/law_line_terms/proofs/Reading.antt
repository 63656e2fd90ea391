-- What a line reads: a register that is set holds the number of its term.
use Rattle.std.proofs.Common.{◌≡◌, ℕ, zero, suc, ◌%◌, ◌^◌, ◌&&◌, Bool, true, false, List, [], Option, Some, None, refl, sym, ◌∙◌, ap, arith}
use Rattle.std.specs.Prelude.{if◌then◌else◌, is_some, option_map}
use Rattle.std.specs.Int.{cast_unsigned, w64}
use Rattle.std.proofs.Math.Nat.{mod-eq_of_lt}
use Rattle.bits64.specs.declared.Width.TheVariants.{W8, W64}
use Rattle.bits64.specs.Words.{bits_of, low}
use Rattle.rv_text.specs.declared.line.Line.{Line}
use Rattle.rv_text.specs.declared.action.Source.{Source}
use Rattle.rv_text.specs.declared.action.Source.TheVariants.{First, Second, ReturnAddress, Immediate, Constant}
use Rattle.rv_line.specs.Step as line
use Rattle.rv_line.specs.declared.state.RvState.{RvState}
use Rattle.term_tree.specs.Tree.{Tree, width_of}
use Rattle.term_tree.specs.Form.{narrower}
use Rattle.term_mean.specs.Meaning.{Valuation, mean}
use Rattle.term_mean.specs.Compared.{low_bits}
use Rattle.term_mean.proofs.SumLaws.{mean-cut, mean-constant}
use Rattle.term_mean.proofs.CutLaws.{low-low}
use Rattle.term_mean.proofs.ComparedLaws.{mean-low_bits}
use Rattle.sym_lines.specs.sym_state.State.{State, Need, own_register}
use Rattle.sym_lines.specs.sym_state.Registers.{held, term_held, need_of}
use Rattle.sym_lines.specs.Step as spec
use Rattle.law_insn_terms.specs.Needs as needs
use Rattle.law_insn_terms.specs.Needs.{are_met}
use Rattle.law_line_terms.specs.ShowsLine.{IsFirst, ShowsNumber, ShowsLine}

module _ (v : Valuation) (f : needs.First) (first : List (Option ℕ)) (is_first : IsFirst v f first) where
  -- a number, where needs are met
  abbrev pub had : List Need → Tree → Option ℕ
  had ns t = if are_met v f ns then Some (mean v t) else None

  own_number : (reg number : ℕ) → line.register first reg ≡ Some number → number ≡ mean v (low_bits W64 (own_register reg))
  own_number reg number is =
      let word = is_first.words reg number is in
      sym (mod-eq_of_lt word.0) ∙ ap (low W64) word.1
      ∙ sym (mean-low_bits v W64 (own_register reg) ∙ low-low W64 W64 (v.reg reg) (omega arith))

  kept_by : (reg : ℕ) (o : Option ℕ) → line.register first reg ≡ o → o ≡ (if is_some (option_map (low W8) o) && true then Some (mean v (low_bits W64 (own_register reg))) else None)
  kept_by reg None is = refl
  kept_by reg (Some number) is = ap Some (own_number reg number is)

  kept : (reg : ℕ) → line.register first reg ≡ had (need_of None reg W8) (low_bits W64 (own_register reg))
  kept reg =
      kept_by reg (line.register first reg) refl
      ∙ ap (λ o. if is_some o && true then Some (mean v (low_bits W64 (own_register reg))) else None) (sym (is_first.reads_are reg W8))

  whole : (t : Tree) → width_of t ≡ W64 → mean v (low_bits W64 t) ≡ mean v t
  whole t is = mean-low_bits v W64 t ∙ ap (λ u. mean v t % 2 ^ bits_of u) (sym is) ∙ mean-cut v t

  shown : (regs : List (Option ℕ)) (reg : ℕ) (left : Option (Option Tree)) → ShowsNumber v first regs left reg → line.register regs reg ≡ had (need_of left reg W8) (term_held left reg W64)
  shown regs reg None shows = shows ∙ kept reg
  shown regs reg (Some None) shows = absurd shows
  shown regs reg (Some (Some t)) shows =
      shows.0 ∙ ap Some (sym (whole t shows.1))
      ∙ sym (ap (λ u. if are_met v f (if narrower u W8 then need_of (Some None) reg W8 else []) then Some (mean v (if narrower u W64 then low_bits W64 (own_register reg) else low_bits W64 t)) else None) shows.1)

  -- the low 64 bits of a number that is had
  low_had : (ns : List Need) (t : Tree) → low W64 (mean v t) ≡ mean v t → option_map (low W64) (had ns t) ≡ had ns t
  low_had ns t is = by (are_met v f ns)
    where
      by : (b : Bool) → option_map (low W64) (if b then Some (mean v t) else None) ≡ (if b then Some (mean v t) else None)
      by true = ap Some is
      by false = refl

  low_low : (t : Tree) → low W64 (mean v (low_bits W64 t)) ≡ mean v (low_bits W64 t)
  low_low t = ap (low W64) (mean-low_bits v W64 t) ∙ low-low W64 W64 (mean v t) (omega arith) ∙ sym (mean-low_bits v W64 t)

  held_low : (reg : ℕ) (left : Option (Option Tree)) → low W64 (mean v (term_held left reg W64)) ≡ mean v (term_held left reg W64)
  held_low reg None = low_low (own_register reg)
  held_low reg (Some None) = low_low (own_register reg)
  held_low reg (Some (Some t)) = by (narrower (width_of t) W64)
    where
      by : (b : Bool) → low W64 (mean v (if b then low_bits W64 (own_register reg) else low_bits W64 t)) ≡ mean v (if b then low_bits W64 (own_register reg) else low_bits W64 t)
      by true = low_low (own_register reg)
      by false = low_low t

  pub read_low : (s : State) (reg : ℕ) → low W64 (mean v (spec.register s.regs reg)) ≡ mean v (spec.register s.regs reg)
  read_low s zero = ap (low W64) (mean-constant v W64 0) ∙ sym (mean-constant v W64 0)
  read_low s (suc reg) = held_low (suc reg) (held s.regs (suc reg))

  module _ (s : State) (m : RvState) (shows : ShowsLine v f first s m) where
    -- a register
    pub register_had : (reg : ℕ) → line.register m.regs reg ≡ had (spec.register_needs s.regs reg) (spec.register s.regs reg)
    register_had zero = ap Some (sym (mean-constant v W64 0))
    register_had (suc reg) = shown m.regs (suc reg) (held s.regs (suc reg)) (shows.registers reg)

    register_low : (reg : ℕ) → option_map (low W64) (line.register m.regs reg) ≡ had (spec.register_needs s.regs reg) (spec.register s.regs reg)
    register_low reg = ap (option_map (low W64)) (register_had reg) ∙ low_had (spec.register_needs s.regs reg) (spec.register s.regs reg) (read_low s reg)

    -- the low 64 bits of what a line reads
    pub source_had : (l : Line) (x : Source) → option_map (low W64) (line.source_value m l x) ≡ had (spec.source_needs s.regs l x) (spec.source s.regs l x)
    source_had l First = register_low l.rs
    source_had l Second = register_low l.rt
    source_had l ReturnAddress = register_low 1
    source_had l Immediate = ap Some (sym (mean-constant v W64 (cast_unsigned w64 l.imm)))
    source_had l (Constant number) = ap Some (sym (mean-constant v W64 (cast_unsigned w64 number)))
