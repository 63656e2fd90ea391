use Rattle.std.proofs.Common.{◌≡◌, ◌<◌, Option, None, rules, subst, arith}
use Rattle.std.specs.Prelude.{IfSome}
use Rattle.rtx_tree.specs.Limit.{most_forms}
use Rattle.md_recog.specs.declared.recog.FormMatch.{FormMatch}
use Rattle.md_desc.proofs.Choosing.{First, Counted, falls, passes, chosen, ends, nowhere}
use Rattle.md_desc.proofs.description.Description.recog_out.Goals as goal

pub overflow_add-next : goal.overflow_add-next
overflow_add-next c =
    let small : c.in-Some.found.form < most_forms = subst (λ (r : Option FormMatch). IfSome r (λ m. m.form < most_forms)) c.in-Some.is c.in_ok-found.ensures.small in
    omega (arith, small)

pub loop-found-smaller : goal.loop-found-smaller
loop-found-smaller c =
    falls c.args.self.now c.args.facts.now c.args.insn.now c.loop-found.from c.in-Some.found (subst (First c.args.self.now c.args.facts.now c.args.insn.now c.loop-found.from) c.in-Some.is c.in_ok-found.ensures.first)

pub loop-found-preserved : goal.loop-found-preserved
loop-found-preserved c =
    let uncounted : c.in_ok-chosen.field-0 ≡ None = search rules in
    passes c.args.self.now c.args.facts.now c.args.insn.now c.loop-found.from c.in-Some.found c.loop-found.invariant
    (subst (First c.args.self.now c.args.facts.now c.args.insn.now c.loop-found.from) c.in-Some.is c.in_ok-found.ensures.first)
    (subst (Counted c.args.self.now c.args.facts.now c.args.insn.now c.in-Some.found) uncounted c.in_ok-chosen.ensures)

pub returns-in-Some-2-clause-chosen : goal.returns-in-Some-2-clause-chosen
returns-in-Some-2-clause-chosen c =
    chosen c.args.self.now c.args.facts.now c.args.insn.now c.loop-found.from c.in-Some.found c.in-Some-2.chosen c.loop-found.invariant
    (subst (First c.args.self.now c.args.facts.now c.args.insn.now c.loop-found.from) c.in-Some.is c.in_ok-found.ensures.first)
    (subst (Counted c.args.self.now c.args.facts.now c.args.insn.now c.in-Some.found) c.in-Some-2.is c.in_ok-chosen.ensures)

pub returns-clause-chosen : goal.returns-clause-chosen
returns-clause-chosen c =
    let none : c.in_ok-found.field-0 ≡ None = search rules in
    ends c.args.self.now c.args.facts.now c.args.insn.now c.loop-found.from c.loop-found.invariant (c.in_ok-found.ensures.none none)

pub returns-clause-none : goal.returns-clause-none
returns-clause-none c =
    let none : c.in_ok-found.field-0 ≡ None = search rules in
    λ e. nowhere c.args.self.now c.args.facts.now c.args.insn.now c.loop-found.from c.loop-found.invariant (c.in_ok-found.ensures.none none)
