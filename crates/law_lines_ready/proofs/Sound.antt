-- A function that can be reloaded, and for which lines can stand, is one whose instructions are placed.
use Rattle.std.specs.List.{list_all}
use Rattle.std.proofs.lemmas.Bool.{and_parts}
use Rattle.rtx_tree.specs.declared.function.Insn.{Insn}
use Rattle.rtx_tree.specs.declared.function.Function.{Function}
use Rattle.rtl_func.specs.Calls.{use_is_argument}
use Rattle.rtl_func.specs.Calls as rules
use Rattle.rtl_func.proofs.AllPass.{all_pass}
use Rattle.law_output.specs.law_pass_needs.Ready.{IsInsnReady}
use Rattle.law_output.specs.law_pass_needs.Reloadable.{IsInsnReloadable}
use Rattle.law_output.proofs.law_pass_needs.Places.{all_at, at_place}
use Rattle.split.specs.law_insn_replaced.Sound.{IsSound}
use Rattle.law_reload.proofs.Placeable.{handed, kind_agrees}
use Rattle.law_lines_ready.specs.Placed.{IsInsnPlaced, ArePlaced}
use Rattle.law_lines_ready.proofs.Notes.{note_plain}

one_placed : (i : Insn) → IsInsnReady i → IsInsnReloadable i → IsInsnPlaced i
one_placed i ready can = record {
  marks = ready.marks;
  label = ready.label;
  plain = λ none note. note_plain i.kind i.pattern (kind_agrees i can none) none note;
  natural = can.natural;
  passed = λ none reg has.
      handed i.uses reg (and_parts (all_pass rules.has_argument i.pattern) (list_all use_is_argument i.uses) (can.arguments none)).1 has;
}

pub sound_placed : (f : Function) → IsSound f → ArePlaced f
sound_placed f sound = all_at IsInsnPlaced f.insns (λ place i at.
    one_placed i (at_place IsInsnReady f.insns sound.ready place i at)
    (at_place IsInsnReloadable f.insns sound.reloadable.each place i at))
