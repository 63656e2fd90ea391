use Rattle.std.proofs.Common.{subst}
use Rattle.md_desc.specs.Recog.{IsChosen, NoneMatchesOut}
use Rattle.asm_out.specs.Comes.{PlaceComes}
use Rattle.asm_out.proofs.Calls.{told_unmatched}
use Rattle.asm_out.proofs.places.insn_piece.Goals as goal

pub chosen_piece-requires-clause-chosen : goal.chosen_piece-requires-clause-chosen
chosen_piece-requires-clause-chosen c =
    subst (λ f. IsChosen c.args.setting.now.description.now f c.args.insn.now.pattern c.in-Some.chosen) c.output_facts.ensures ((c.in_ok-chosen.ensures.chosen c.in-Some.chosen).0 c.in-Some.is)

pub returns : goal.returns
returns c =
    let a = c.args in
    told_unmatched a.insn.now c.in_ok-unmatched-in-None.field-0 (PlaceComes a.setting.now.description.now a.setting.now.number a.setting.now.function.now a.place a.insn.now) c.in_ok-unmatched-in-None.ensures
    (PlaceComes.unmatched c.requires.needs (subst (λ f. NoneMatchesOut a.setting.now.description.now f a.insn.now.pattern) c.output_facts.ensures (c.in_ok-chosen.ensures.none c.in-None.is)))
