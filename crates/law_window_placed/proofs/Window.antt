-- A function with a sequence in a window's place has placed instructions still.
use Rattle.std.proofs.Common.{◌≡◌, ℕ, ◌-◌, false, List, sym, ap, subst, ◌∙◌}
use Rattle.rtx_tree.specs.declared.function.Function.{Function}
use Rattle.rtx_tree.specs.declared.function.Insn.{Insn}
use Rattle.rtx_tree.specs.declared.tree.Rtx.{Rtx}
use Rattle.rtl_step.specs.Step.{is_mark}
use Rattle.sym_insns.specs.Shape.{is_shaped}
use Rattle.law_insn_replaced.proofs.Marks.{no_mark}
use Rattle.law_pass_needs.proofs.Places.{at_place}
use Rattle.law_window_made.specs.Made.{with_sequence, IsMadePut, IsMadeFor}
use Rattle.law_window_made.proofs.Each.{made_all}
use Rattle.law_lines_ready.specs.Placed.{IsInsnPlaced, ArePlaced}
use Rattle.law_window_placed.proofs.New.{new_placed}

made_placed : (last i : Insn) → IsInsnPlaced last → IsMadeFor last i → IsInsnPlaced i
made_placed last i placed for =
    let none : is_mark i.kind ≡ false = no_mark i.kind for.instruction in
    subst IsInsnPlaced (sym for.is)
    (new_placed last for.uid for.pattern placed (sym (ap (λ (k : Insn). is_mark k.kind) for.is) ∙ none) (sym (ap is_shaped for.is) ∙ for.shaped))

pub window_placed : (f : Function) (first end : ℕ) (last : Insn) (sequence : List Rtx) → IsMadePut f first end last sequence → ArePlaced f →
    ArePlaced (with_sequence f first end last sequence)
window_placed f first end last sequence is placed =
    let own = at_place IsInsnPlaced f.insns placed (end - 1) last is.at_last in
    made_all f first end last sequence is IsInsnPlaced (λ i for. made_placed last i own for) placed
