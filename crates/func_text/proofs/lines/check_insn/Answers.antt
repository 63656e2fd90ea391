use Rattle.std.proofs.Common.{◌≡◌, true, false, [], rules, subst}
use Rattle.pass_name.specs.declared.pass.Pass.TheVariants.{Output}
use Rattle.md_forms.specs.Forms.{names_of}
use Rattle.md_desc.specs.Recog.{IsChosen, NoneMatchesOut}
use Rattle.form_needs.specs.Needs.{needs_form}
use Rattle.func_text.specs.Recog.{line_of, OutputComes}
use Rattle.func_after.proofs.Told.{told_unmatched}
use Rattle.func_text.proofs.lines.check_insn.Goals as goal

pub returns-then-not-needs_form : goal.returns-then-not-needs_form
returns-then-not-needs_form c = let free : needs_form c.args.insn.now ≡ false = search rules in ([], OutputComes.free free)

pub returns-in-Some : goal.returns-in-Some
returns-in-Some c =
    let needs : needs_form c.args.insn.now ≡ true = search rules in
    let chosen = c.in-Some.field-0 in (
      line_of (names_of c.args.desc.now) c.args.function.now c.args.insn.now.uid chosen.form chosen.alternative,
      OutputComes.chosen chosen needs (subst (λ f. IsChosen c.args.desc.now f c.args.insn.now.pattern chosen) c.output_facts.ensures ((c.in_ok-recog_out.ensures.chosen chosen).0 c.in-Some.is)),
    )

pub returns : goal.returns
returns c =
    let needs : needs_form c.args.insn.now ≡ true = search rules in
    told_unmatched Output c.args.function.now c.args.insn.now c.in_ok-unmatched-in-None.field-0 (OutputComes c.args.desc.now c.args.function.now c.args.insn.now) c.in_ok-unmatched-in-None.ensures
    (OutputComes.unmatched needs (subst (λ f. NoneMatchesOut c.args.desc.now f c.args.insn.now.pattern) c.output_facts.ensures (c.in_ok-recog_out.ensures.none c.in-None.is)))
