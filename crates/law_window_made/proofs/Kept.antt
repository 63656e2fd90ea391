-- What stays of a function with a sequence in a window's place.
use Rattle.std.proofs.Common.{◌≡◌, ℕ, ◌+◌, true, false, List, [], sym, ◌∙◌}
use Rattle.std.proofs.lemmas.Bool.{true≢false}
use Rattle.rtx_tree.specs.declared.tree.Rtx.{Rtx}
use Rattle.rtx_tree.specs.declared.function.Insn.{Insn}
use Rattle.rtx_tree.specs.declared.function.Function.{Function}
use Rattle.rtl_step.specs.Step as step
use Rattle.reg_uses.specs.Effects.{pattern_defines}
use Rattle.rtl_chain.specs.Counts.{greatest_uid}
use Rattle.law_pass_needs.specs.sym_insns.Shape.{all_natural}
use Rattle.law_pass_needs.specs.Left.{is_mark, marks, SameMarks}
use Rattle.law_pass_needs.proofs.Places.{at_place, all_at}
use Rattle.equate.proofs.law_insn_terms.Kept.{natural_insn}
use Rattle.new_insns.specs.Replaced.{window}
use Rattle.law_window_replaced.specs.law_window_lines.ForLines.{MarksAreEmpty}
use Rattle.law_window_replaced.specs.Natural.{RegistersAreNatural}
use Rattle.law_insn_replaced.specs.insn_replace.Replace.{made}
use Rattle.law_insn_replaced.proofs.Lists.{filter_none}
use Rattle.law_insn_replaced.proofs.Marks.{no_mark}
use Rattle.law_window_put.proofs.Kept.{same_marks}
use Rattle.law_window_made.specs.Made.{IsInstruction, AreInstructions, with_sequence, IsMadePut, IsMadeFor}
use Rattle.law_window_made.proofs.Each.{made_kinds, made_all}

none_marked : (insns : List Insn) → AreInstructions insns → marks insns ≡ []
none_marked insns all = filter_none is_mark insns (λ k i at. no_mark i.kind (at_place IsInstruction insns all k i at))

-- it defines nothing where it is a label or a barrier
abbrev Empty : Insn → Type 0
Empty i = step.is_mark i.kind ≡ true → (reg : ℕ) → pattern_defines reg i.pattern ≡ false

-- no register has a number below 0
abbrev Natural : Insn → Type 0
Natural i = all_natural i.pattern ≡ true

made_unmarked : (last i : Insn) → IsMadeFor last i → Empty i
made_unmarked last i for mark reg = absurd (true≢false (sym mark ∙ no_mark i.kind for.instruction))

module _ (f : Function) (first end : ℕ) (last : Insn) (sequence : List Rtx) (is : IsMadePut f first end last sequence) where
  abbrev after : Function
  after = with_sequence f first end last sequence

  -- labels and barriers, the name, the locals and the result stay
  pub made_same : SameMarks f (with_sequence f first end last sequence)
  made_same = same_marks f first end (made f last sequence) is.put
      (none_marked (made f last sequence) (made_kinds last (greatest_uid f.insns + 1) sequence) ∙ sym (none_marked (window f first end) is.run))

  -- labels and barriers define nothing where they did not
  pub made_empty : MarksAreEmpty f → MarksAreEmpty (with_sequence f first end last sequence)
  made_empty empty place reg i at mark =
      at_place Empty after.insns
      (made_all f first end last sequence is Empty (made_unmarked last) (all_at Empty f.insns (λ p j there marked r. empty p r j there marked)))
      place i at mark reg

  pub made_natural : RegistersAreNatural f → RegistersAreNatural (with_sequence f first end last sequence)
  made_natural natural place i at =
      at_place Natural after.insns
      (made_all f first end last sequence is Natural (λ j for. natural_insn j for.shaped) (all_at Natural f.insns natural))
      place i at
