use Rattle.std.proofs.Common.{◌≡◌, ◌≤◌, ◌+◌, None, [], ◌∷◌, rules, subst, arith}
use Rattle.md_recog.proofs.First.{HasHere, goes_on, is_first, none_first}
use Rattle.recog_tree.specs.Key.{key_of}
use Rattle.recog_tree.proofs.Found.{next_is, none_is, skips, skips_all, few, few_of_all}
use Rattle.recog_tree.proofs.KeyLaw.{matching_is_tried}
use Rattle.recog_tree.proofs.search.recog.Goals as goal

-- ---- what matches has the key

pub returns-in_err-found-clause-keyed : goal.returns-in_err-found-clause-keyed
returns-in_err-found-clause-keyed g c = λ entry operands m. matching_is_tried (g.P.Preds.accepts c.args.matching.now.preds.now) c.args.matching.now.facts.now c.args.matching.now.half c.args.insn.now entry operands m

pub returns-in-Some-2-clause-keyed : goal.returns-in-Some-2-clause-keyed
returns-in-Some-2-clause-keyed g c = λ entry operands m. matching_is_tried (g.P.Preds.accepts c.args.matching.now.preds.now) c.args.matching.now.facts.now c.args.matching.now.half c.args.insn.now entry operands m

pub returns-clause-keyed : goal.returns-clause-keyed
returns-clause-keyed g c = λ entry operands m. matching_is_tried (g.P.Preds.accepts c.args.matching.now.preds.now) c.args.matching.now.facts.now c.args.matching.now.half c.args.insn.now entry operands m

-- ---- the tries

pub returns-in_err-found-clause-tries : goal.returns-in_err-found-clause-tries
returns-in_err-found-clause-tries g c =
    let t = c.args.tables.now.keys in
    let next = next_is t c.key_of-key.result (key_of c.args.insn.now) c.loop-form.place c.in-Some.form c.next_tried.result c.key_of-key.ensures c.in-Some.is c.next_tried.ensures in
    few_of_all c.args.matching.now.half c.args.insn.now c.args.forms.now c.args.steps.now c.match_at.new.steps (c.in-Some.form + 1)
    (few c.args.matching.now.half c.args.insn.now c.args.forms.now t c.loop-form.place c.in-Some.form c.args.steps.now c.loop-form.steps c.match_at.new.steps c.requires.tables.keys_are next c.loop-form.invariant.tries c.match_at.ensures.step)

pub returns-in-Some-2-clause-tries : goal.returns-in-Some-2-clause-tries
returns-in-Some-2-clause-tries g c =
    let t = c.args.tables.now.keys in
    let next = next_is t c.key_of-key.result (key_of c.args.insn.now) c.loop-form.place c.in-Some.form c.next_tried.result c.key_of-key.ensures c.in-Some.is c.next_tried.ensures in
    few_of_all c.args.matching.now.half c.args.insn.now c.args.forms.now c.args.steps.now c.match_at.new.steps (c.in-Some.form + 1)
    (few c.args.matching.now.half c.args.insn.now c.args.forms.now t c.loop-form.place c.in-Some.form c.args.steps.now c.loop-form.steps c.match_at.new.steps c.requires.tables.keys_are next c.loop-form.invariant.tries c.match_at.ensures.step)

-- ---- the first match

pub returns-in-Some-2-clause-first : goal.returns-in-Some-2-clause-first
returns-in-Some-2-clause-first g c =
    let a = g.P.Preds.accepts c.args.matching.now.preds.now in
    let i = c.args.insn.now in
    let t = c.args.tables.now.keys in
    let inv = c.loop-form.invariant in
    let next = next_is t c.key_of-key.result (key_of i) c.loop-form.place c.in-Some.form c.next_tried.result c.key_of-key.ensures c.in-Some.is c.next_tried.ensures in
    let behind : c.args.from ≤ c.in-Some.form = omega (arith, inv.behind, next.behind) in
    is_first a c.args.matching.now.facts.now c.args.matching.now.half (i ∷ []) c.args.forms.now c.args.from c.in-Some.form c.in-Some-2.found
    (skips a c.args.matching.now.facts.now c.args.matching.now.half i t c.args.forms.now c.requires.tables.keys_are c.args.from c.loop-form.place c.in-Some.form inv.none next.first) behind
    (subst (HasHere a c.args.matching.now.facts.now c.args.matching.now.half (i ∷ []) c.args.forms.now c.in-Some.form) c.in-Some-2.is c.in_ok-found.ensures.here)

pub loop-form-preserved : goal.loop-form-preserved
loop-form-preserved g c =
    let a = g.P.Preds.accepts c.args.matching.now.preds.now in
    let i = c.args.insn.now in
    let t = c.args.tables.now.keys in
    let inv = c.loop-form.invariant in
    let next = next_is t c.key_of-key.result (key_of i) c.loop-form.place c.in-Some.form c.next_tried.result c.key_of-key.ensures c.in-Some.is c.next_tried.ensures in
    let none : c.in_ok-found.field-0 ≡ None = search rules in
    record {
      none = goes_on a c.args.matching.now.facts.now c.args.matching.now.half (i ∷ []) c.args.forms.now c.args.from c.in-Some.form
          (skips a c.args.matching.now.facts.now c.args.matching.now.half i t c.args.forms.now c.requires.tables.keys_are c.args.from c.loop-form.place c.in-Some.form inv.none next.first)
          (subst (HasHere a c.args.matching.now.facts.now c.args.matching.now.half (i ∷ []) c.args.forms.now c.in-Some.form) none c.in_ok-found.ensures.here);
      behind = omega (arith, inv.behind, next.behind);
      tries = few c.args.matching.now.half i c.args.forms.now t c.loop-form.place c.in-Some.form c.args.steps.now c.loop-form.steps c.match_at.new.steps c.requires.tables.keys_are next inv.tries c.match_at.ensures.step;
    }

-- ---- no match

pub returns-clause-first : goal.returns-clause-first
returns-clause-first g c =
    let a = g.P.Preds.accepts c.args.matching.now.preds.now in
    let i = c.args.insn.now in
    let t = c.args.tables.now.keys in
    let untried = none_is t c.key_of-key.result (key_of i) c.loop-form.place c.next_tried.result c.key_of-key.ensures c.in_default.is c.next_tried.ensures in
    none_first a c.args.matching.now.facts.now c.args.matching.now.half (i ∷ []) c.args.forms.now c.args.from (skips_all a c.args.matching.now.facts.now c.args.matching.now.half i t c.args.forms.now c.requires.tables.keys_are c.args.from c.loop-form.place c.loop-form.invariant.none untried)

pub returns-clause-none : goal.returns-clause-none
returns-clause-none g c =
    let a = g.P.Preds.accepts c.args.matching.now.preds.now in
    let i = c.args.insn.now in
    let t = c.args.tables.now.keys in
    let untried = none_is t c.key_of-key.result (key_of i) c.loop-form.place c.next_tried.result c.key_of-key.ensures c.in_default.is c.next_tried.ensures in
    λ none. skips_all a c.args.matching.now.facts.now c.args.matching.now.half i t c.args.forms.now c.requires.tables.keys_are c.args.from c.loop-form.place c.loop-form.invariant.none untried
