use Rattle.std.proofs.Common.{List, sym, ap, subst, ◌∙◌, MatchBool}
use Rattle.lower_insn.specs.declared.part.Part.{Part}
use Rattle.lower_insn.specs.Lowered.{IsMatched, IsUnmatched}
use Rattle.lower_insn.proofs.Steps.{put_more, stays_so, planless_so, planned_so}
use Rattle.lower_insn.proofs.work.lower_part.Goals as goal

pub returns-then-branch : goal.returns-then-branch
returns-then-branch c =
    let matched = subst (λ b. MatchBool b (IsMatched c.args.desc.now c.args.tree) (IsUnmatched c.args.desc.now c.args.tree)) c.if-branch.true c.in_ok-is_matched.ensures in
    stays_so c.args.desc.now c.args.uids c.args.work c.in_ok-make.field-0 c.args.made c.args.tree matched c.in_ok-make.ensures

pub returns-in_ok-put-in-Some : goal.returns-in_ok-put-in-Some
returns-in_ok-put-in-Some c =
    let none = subst (λ b. MatchBool b (IsMatched c.args.desc.now c.args.tree) (IsUnmatched c.args.desc.now c.args.tree)) c.if-branch.false c.in_ok-is_matched.ensures in
    planned_so c.args.desc.now c.args.uids c.args.work c.in_ok-put-in-Some.field-0 c.args.made c.args.tree c.in-Some.plan none (sym c.in_ok-plan.ensures ∙ c.in-Some.is)
    (c.in_ok-put-in-Some.ensures ∙ ap (λ (ps : List Part). put_more c.args.work ps c.in-Some.plan.next) c.in_ok-parts-in-Some.ensures)

pub returns-in_ok-unmatched-in-None : goal.returns-in_ok-unmatched-in-None
returns-in_ok-unmatched-in-None c =
    let none = subst (λ b. MatchBool b (IsMatched c.args.desc.now c.args.tree) (IsUnmatched c.args.desc.now c.args.tree)) c.if-branch.false c.in_ok-is_matched.ensures in
    planless_so c.args.desc.now c.args.uids c.args.work c.args.made c.args.tree c.in_ok-unmatched-in-None.field-0 none (sym c.in_ok-plan.ensures ∙ c.in-None.is) c.in_ok-unmatched-in-None.ensures
