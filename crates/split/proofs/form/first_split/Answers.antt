use Rattle.std.proofs.Common.{◌≡◌, ◌+◌, ◌-◌, ◌<◌, true, None, length, rules, ap, sym, subst, ◌∙◌, arith}
use Rattle.form_needs.specs.Needs.{is_kind}
use Rattle.split.specs.declared.form.FormSplit.{FormSplit}
use Rattle.split.specs.Split.{IsSplit}
use Rattle.split.proofs.Forms.{none_on, found, none_matches, none_left, first_of, nothing_of, first_within}
use Rattle.split.proofs.form.first_split.Goals as goal

pub returns-in_default-clause-none : goal.returns-in_default-clause-none
returns-in_default-clause-none c =
    let nothing : c.in_ok-found.field-0 ≡ None = search rules in
    λ _. none_matches c.args.desc.now c.args.pass c.args.next c.args.insn.now c.loop-from.from
    (nothing_of c.args.desc.now c.args.pass c.args.next c.args.insn.now c.facts_of-facts.result c.loop-from.from c.in_ok-found.field-0 c.facts_of-facts.ensures nothing c.in_ok-found.ensures.none) c.loop-from.invariant

pub returns-in-Some-2-clause-some : goal.returns-in-Some-2-clause-some
returns-in-Some-2-clause-some c = λ s same.
    let kind : is_kind c.args.insn.now.kind ≡ true = search rules in
    let first = first_of c.args.desc.now c.args.pass c.args.next c.args.insn.now c.facts_of-facts.result c.loop-from.from c.in-Some.found c.in_ok-found.field-0 c.facts_of-facts.ensures c.in-Some.is c.in_ok-found.ensures.first in
    let it : FormSplit = record { form = c.in-Some.found.form; sequence = c.in-Some-2.sequence } in
    let one : it ≡ s = cc in
    subst (λ (t : FormSplit). IsSplit c.args.desc.now c.args.pass c.args.next c.args.insn.now t.form t.sequence) one
    (found c.args.desc.now c.args.pass c.args.next c.args.insn.now c.loop-from.from c.in-Some.found c.in-Some-2.sequence kind first (sym c.in_ok-sequence.ensures ∙ c.in-Some-2.is) c.loop-from.invariant)

pub overflow_add-from : goal.overflow_add-from
overflow_add-from c =
    let first = first_of c.args.desc.now c.args.pass c.args.next c.args.insn.now c.facts_of-facts.result c.loop-from.from c.in-Some.found c.in_ok-found.field-0 c.facts_of-facts.ensures c.in-Some.is c.in_ok-found.ensures.first in
    let within : c.in-Some.found.form < length c.args.desc.now = first_within c.args.desc.now c.args.pass c.args.next c.args.insn.now c.loop-from.from c.in-Some.found first in
    let long = ap length c.forms.ensures.forms in
    omega (arith, within, long, c.forms.ensures.short)

pub loop-from-smaller : goal.loop-from-smaller
loop-from-smaller c =
    let first = first_of c.args.desc.now c.args.pass c.args.next c.args.insn.now c.facts_of-facts.result c.loop-from.from c.in-Some.found c.in_ok-found.field-0 c.facts_of-facts.ensures c.in-Some.is c.in_ok-found.ensures.first in
    let less : c.len-end.result - (c.in-Some.found.form + 1) < c.len-end.result - c.loop-from.from = omega (arith, first.behind, c.loop-from-test.true) in
    less

pub loop-from-preserved : goal.loop-from-preserved
loop-from-preserved c =
    let fails : c.in_ok-sequence.field-0 ≡ None = search rules in
    let first = first_of c.args.desc.now c.args.pass c.args.next c.args.insn.now c.facts_of-facts.result c.loop-from.from c.in-Some.found c.in_ok-found.field-0 c.facts_of-facts.ensures c.in-Some.is c.in_ok-found.ensures.first in
    none_on c.args.desc.now c.args.pass c.args.next c.args.insn.now c.loop-from.from c.in-Some.found first (sym c.in_ok-sequence.ensures ∙ fails) c.loop-from.invariant

pub returns-clause-none : goal.returns-clause-none
returns-clause-none c =
    let long = ap length c.forms.ensures.forms in
    λ _. none_left c.args.desc.now c.args.pass c.args.next c.args.insn.now c.loop-from.from (omega (arith, long, c.len-end.ensures, c.loop-from-test.false)) c.loop-from.invariant
