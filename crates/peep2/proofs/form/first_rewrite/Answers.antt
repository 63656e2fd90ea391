use Rattle.std.proofs.Common.{◌≡◌, None, Some, rules, sym, subst, ◌∙◌}
use Rattle.std.specs.Prelude.{slice_get}
use Rattle.rtx_tree.specs.declared.function.Function.{Function}
use Rattle.peep2.specs.machine.Steps.{FormTold}
use Rattle.peep2.proofs.Forms.{NoneBelow, found, none_on, none_left}
use Rattle.peep2.proofs.form.first_rewrite.Goals as goal

pub returns-in-Some-2-clause-told : goal.returns-in-Some-2-clause-told
returns-in-Some-2-clause-told c =
    let a = c.args in
    let same = c.loop-form.invariant.same in
    found a.desc.now a.chain.now a.place c.insn.result.now (subst (λ (f : Function). slice_get f.insns a.place ≡ Some c.insn.result.now) same c.insn.ensures)
    c.loop-form.from c.in-Some.form c.in-Some.ensures c.loop-form.invariant.none c.in-Some-2.found
    (subst (λ (f : Function). FormTold a.desc.now f a.place c.in-Some.form (Some c.in-Some-2.found)) same
    (subst (FormTold a.desc.now c.loop-form.chain a.place c.in-Some.form) c.in-Some-2.is c.in_ok-found.ensures.told))

pub loop-form-preserved : goal.loop-form-preserved
loop-form-preserved c =
    let a = c.args in
    let same = c.loop-form.invariant.same in
    let none : c.in_ok-found.field-0 ≡ None = search rules in
    record {
      same = c.rewrite_by.ensures.same ∙ same;
      none = subst (NoneBelow a.desc.now a.chain.now a.place) (sym c.in_ok-next.ensures)
          (none_on a.desc.now a.chain.now a.place c.insn.result.now (subst (λ (f : Function). slice_get f.insns a.place ≡ Some c.insn.result.now) same c.insn.ensures)
          c.loop-form.from c.in-Some.form c.in-Some.ensures c.loop-form.invariant.none
          (subst (λ (f : Function). FormTold a.desc.now f a.place c.in-Some.form None) same
          (subst (FormTold a.desc.now c.loop-form.chain a.place c.in-Some.form) none c.in_ok-found.ensures.told)));
    }

pub returns-clause-told : goal.returns-clause-told
returns-clause-told c =
    let a = c.args in
    let same = c.loop-form.invariant.same in
    none_left a.desc.now a.chain.now a.place c.insn.result.now (subst (λ (f : Function). slice_get f.insns a.place ≡ Some c.insn.result.now) same c.insn.ensures)
    c.loop-form.from c.in_default.ensures c.loop-form.invariant.none
