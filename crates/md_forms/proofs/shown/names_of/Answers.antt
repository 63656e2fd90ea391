use Rattle.std.proofs.Common.{◌++◌, ◌∷◌, [], refl, ap, ◌∙◌, take}
use Rattle.md_forms.specs.Forms as spec
use Rattle.md_forms.proofs.CountLaws.{counts_next, counts_none}
use Rattle.md_forms.proofs.ShownNames.{named_next, named_ends, as_many}
use Rattle.md_forms.proofs.shown.names_of.Goals as goal

pub loop-form-init : goal.loop-form-init
loop-form-init c = record {
  named = rw c.new-names.ensures refl;
  counts = counts_none c.new-counts.result c.args.forms.now c.new-counts.ensures;
}

pub loop-form-preserved : goal.loop-form-preserved
loop-form-preserved c =
    let front = take c.loop-form.form-index c.args.forms.now in
    record {
      named = named_next c.args.forms.now c.loop-form.form-index c.form-item.result c.loop-form.names c.push_next.new.names (spec.names_of c.args.forms.now) c.loop-form-test.true c.form-item.is
          (c.in_ok-push_next.ensures.names ∙ ap (λ k. c.loop-form.names ++ spec.shown c.form-item.result.name c.form-item.result.head k ∷ []) (c.loop-form.invariant.counts c.form-item.result.head)) c.loop-form.invariant.named;
      counts = counts_next c.loop-form.counts c.push_next.new.counts c.args.forms.now c.loop-form.form-index c.form-item.result c.loop-form-test.true c.form-item.is c.loop-form.invariant.counts
          c.in_ok-push_next.ensures.more;
    }

pub returns-clause-count : goal.returns-clause-count
returns-clause-count c = as_many c.args.forms.now c.loop-form.names (named_ends c.args.forms.now c.loop-form.form-index c.loop-form.names (spec.names_of c.args.forms.now) c.loop-form-test.false c.loop-form.invariant.named)
