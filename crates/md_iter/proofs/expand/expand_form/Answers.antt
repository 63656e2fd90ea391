use Rattle.std.proofs.Common.{arith}
use Rattle.md_iter.proofs.Making.{too_many, form_next, forms_end}
use Rattle.md_iter.proofs.expand.expand_form.Goals as goal

pub returns-then-count-len-clause-limit : goal.returns-then-count-len-clause-limit
returns-then-count-len-clause-limit c = too_many c.args.definitions.now c.args.form.now c.in_ok-used.used.items _ _ c.in_ok-used.ensures c.as_slice.ensures.value c.choice_count-count.ensures _ c.requires (omega (arith, c.if-count-len.true, c.len.ensures))

pub loop-at-preserved : goal.loop-at-preserved
loop-at-preserved c = form_next c.args.definitions.now c.args.form.now c.in_ok-used.used.items _ _ c.in_ok-used.ensures c.as_slice.ensures.value c.choice_count-count.ensures c.args.forms.now c.loop-at.forms _ c.loop-at.at _ c.in_ok-choices.choices.items _ c.in_ok-form_under.field-0 c.as_slice-in-loop-at.ensures.value c.in_ok-choices.ensures c.as_slice-in-loop-at-2.ensures.value c.in_ok-form_under.ensures c.in_ok-push.ensures.ok c.loop-at.invariant

pub returns-clause-ok : goal.returns-clause-ok
returns-clause-ok c = forms_end c.args.definitions.now c.args.form.now c.in_ok-used.used.items _ _ c.in_ok-used.ensures c.as_slice.ensures.value c.choice_count-count.ensures c.args.forms.now c.loop-at.forms c.loop-at.at (omega (arith, c.if-count-len.false, c.len.ensures)) (omega (arith, c.loop-at-test.false)) c.loop-at.invariant
