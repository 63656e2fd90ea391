use Rattle.std.proofs.Common.{◌≡◌, ◌∙◌, false, refl, rules, ap, Err}
use Rattle.std.proofs.lemmas.Result.{err_from_is_err_and}
use Rattle.std.specs.Vec.Iter.{into_iter_items, into_iter_len}
use Rattle.md_source.specs.declared.refusal.SourceRefusal.{SourceRefusal}
use Rattle.md_source.specs.Include.{include_some}
use Rattle.md_source.proofs.Comes.{named_by, starts, stays, keeps, includes, too_deep, refuses, finishes, unread, one_less}
use Rattle.md_source.proofs.Named.{are_of, first_of, rest_of, grew_read, grew_named, grew_refused, grew_within, agrees_still, same_still}
use Rattle.md_source.proofs.Faults as faults
use Rattle.md_source.proofs.trees.+gather_from.Goals as goal

pub returns-in_err-text-clause-gives : goal.returns-in_err-text-clause-gives
returns-in_err-text-clause-gives g t c = λ source agrees.
    let p = err_from_is_err_and c.from_residual.result c.from_residual.ensures.1 in
    rw (p.1, p.2) (unread source c.args.within c.args.used c.args.name.now c.in_err-text.field-0.0 (c.in_err-text.ensures.reads source agrees))

pub returns-in_err-text-clause-asked : goal.returns-in_err-text-clause-asked
returns-in_err-text-clause-asked g t c = λ source agrees. grew_refused source c.args.name.now (g.F.Files.asked c.args.files.now) (g.F.Files.asked c.read_file.new.files) c.in_err-text.ensures.asks

pub returns-then-not-include_some-clause-gives : goal.returns-then-not-include_some-clause-gives
returns-then-not-include_some-clause-gives g t c = λ source agrees.
    let none : include_some c.in_ok-text.text.trees ≡ false = search rules in
    stays source c.args.within c.args.used c.args.name.now c.in_ok-text.text (c.in_ok-text.ensures.reads source agrees) none

pub returns-then-not-include_some-clause-asked : goal.returns-then-not-include_some-clause-asked
returns-then-not-include_some-clause-asked g t c = λ source agrees.
    grew_named source c.args.name.now (g.F.Files.asked c.args.files.now) (g.F.Files.asked c.read_file.new.files) (grew_read source c.args.name.now (g.F.Files.asked c.args.files.now) (g.F.Files.asked c.read_file.new.files) c.in_ok-text.ensures.asks)

pub returns-then-not-include_some-clause-asks : goal.returns-then-not-include_some-clause-asks
returns-then-not-include_some-clause-asks g t c = λ source agrees.
    let none : include_some c.in_ok-text.text.trees ≡ false = search rules in
    faults.stays source c.args.within c.args.used c.args.name.now c.in_ok-text.text (g.F.Files.asked c.args.files.now) (g.F.Files.asked c.read_file.new.files) (c.in_ok-text.ensures.reads source agrees) c.in_ok-text.ensures.asks none

pub loop-tree-init : goal.loop-tree-init
loop-tree-init g t c =
    let all : into_iter_items c.into_iter-tree-iterator.result ≡ c.in_ok-text.text.trees = c.into_iter-tree-iterator.ensures.into_iter_gives.0 ∙ c.into_vec-tree-items.ensures in
    record {
      next = tt;
      ends = tt;
      left = search rules;
      bound = c.in_ok-text.ensures.bound;
      comes = λ source agrees. rw (all, c.new-trees.ensures) (starts source c.args.within c.args.used c.args.name.now c.in_ok-text.text (c.in_ok-text.ensures.reads source agrees));
      of = λ source agrees. rw all (are_of source c.args.used c.args.name.now c.in_ok-text.text (c.in_ok-text.ensures.reads source agrees));
      asked = λ source agrees. grew_read source c.args.name.now (g.F.Files.asked c.args.files.now) (g.F.Files.asked c.read_file.new.files) c.in_ok-text.ensures.asks;
      goes = λ source agrees. rw all (faults.starts source c.args.within c.args.used c.args.name.now c.in_ok-text.text (g.F.Files.asked c.args.files.now) (g.F.Files.asked c.read_file.new.files) (c.in_ok-text.ensures.reads source agrees) c.in_ok-text.ensures.asks);
      same = c.in_ok-text.ensures.same;
      count = c.in_ok-text.ensures.quiet (λ e. cc);
    }

pub loop-tree-preserved-in-Continue-branch-2 : goal.loop-tree-preserved-in-Continue-branch-2
loop-tree-preserved-in-Continue-branch-2 g t c = record {
  next = tt;
  ends = tt;
  left = one_less c.in-Some.tree (into_iter_items c.loop-tree.tree-iterator) (into_iter_items c.next.new.self) (into_iter_len c.loop-tree.tree-iterator) (into_iter_len c.next.new.self) c.loop-tree.invariant.left
      c.in-Some.ensures.steps.0 c.in-Some.ensures.steps.1;
  bound = c.loop-tree.invariant.bound;
  comes = λ source agrees. keeps source c.args.within c.args.used c.args.name.now c.loop-tree.trees c.push.new.self c.loop-tree.used c.in-Some.tree (into_iter_items c.loop-tree.tree-iterator) (into_iter_items c.next.new.self)
      c.in-Some.ensures.steps.0 c.in-None-included_name.ensures c.in_ok-push-in-None-included_name.ensures.ok (c.loop-tree.invariant.comes source agrees);
  of = λ source agrees. rest_of source c.args.name.now c.in-Some.tree (into_iter_items c.loop-tree.tree-iterator) (into_iter_items c.next.new.self) c.in-Some.ensures.steps.0 (c.loop-tree.invariant.of source agrees);
  asked = c.loop-tree.invariant.asked;
  goes = λ source agrees. faults.keeps source c.args.within c.args.used c.args.name.now c.loop-tree.used c.in-Some.tree (into_iter_items c.loop-tree.tree-iterator) (into_iter_items c.next.new.self) (g.F.Files.asked c.args.files.now)
      (g.F.Files.asked c.loop-tree.files) c.in-Some.ensures.steps.0 c.in-None-included_name.ensures (c.loop-tree.invariant.goes source agrees);
  same = c.loop-tree.invariant.same;
  count = c.loop-tree.invariant.count;
}

pub returns-in_err-push-in-None-included_name-clause-asked :
    goal.returns-in_err-push-in-None-included_name-clause-asked
returns-in_err-push-in-None-included_name-clause-asked g t c = λ source agrees. grew_named source c.args.name.now (g.F.Files.asked c.args.files.now) (g.F.Files.asked c.loop-tree.files) (c.loop-tree.invariant.asked source agrees)

pub returns-then-within-ge-MOST_WITHIN-clause-gives :
    goal.returns-then-within-ge-MOST_WITHIN-clause-gives
returns-then-within-ge-MOST_WITHIN-clause-gives g t c = λ source agrees.
    too_deep source c.args.within c.args.used c.args.name.now c.loop-tree.trees c.loop-tree.used c.in-Some.tree (into_iter_items c.loop-tree.tree-iterator) (into_iter_items c.next.new.self) c.in-Some-included_name.file.now
    c.in-Some.ensures.steps.0 (named_by c.in-Some.tree c.in-Some-included_name.file.now c.in-Some-included_name.file.now c.in-Some-included_name.ensures refl) c.if-within-ge-MOST_WITHIN.true (c.loop-tree.invariant.comes source agrees)

pub returns-then-within-ge-MOST_WITHIN-clause-asked :
    goal.returns-then-within-ge-MOST_WITHIN-clause-asked
returns-then-within-ge-MOST_WITHIN-clause-asked g t c = λ source agrees. grew_named source c.args.name.now (g.F.Files.asked c.args.files.now) (g.F.Files.asked c.loop-tree.files) (c.loop-tree.invariant.asked source agrees)

pub returns-in_err-file-in-Some-included_name-clause-gives :
    goal.returns-in_err-file-in-Some-included_name-clause-gives
returns-in_err-file-in-Some-included_name-clause-gives g t c = λ source agrees.
    let p = err_from_is_err_and c.from_residual-in_err-file-in-Some-included_name.result c.from_residual-in_err-file-in-Some-included_name.ensures.1 in
    rw (p.1, p.2)
    (refuses source c.args.within c.args.used c.args.name.now c.loop-tree.trees c.loop-tree.used c.in-Some.tree (into_iter_items c.loop-tree.tree-iterator) (into_iter_items c.next.new.self) c.bytes.result.now
    c.in_err-file-in-Some-included_name.field-0.0 c.in-Some.ensures.steps.0 (named_by c.in-Some.tree c.in-Some-included_name.file.now c.bytes.result.now c.in-Some-included_name.ensures c.bytes.ensures)
    c.if-within-ge-MOST_WITHIN.false (c.loop-tree.invariant.comes source agrees)
    (c.in_err-file-in-Some-included_name.ensures.gives source (agrees_still source (g.F.Files.holds c.args.files.now) (g.F.Files.holds c.loop-tree.files) c.loop-tree.invariant.same agrees)))

pub returns-in_err-file-in-Some-included_name-clause-asked :
    goal.returns-in_err-file-in-Some-included_name-clause-asked
returns-in_err-file-in-Some-included_name-clause-asked g t c = λ source agrees.
    grew_named source c.args.name.now (g.F.Files.asked c.args.files.now) (g.F.Files.asked c.gather_from.new.files)
    (grew_within source c.args.name.now c.bytes.result.now (g.F.Files.asked c.args.files.now) (g.F.Files.asked c.loop-tree.files) (g.F.Files.asked c.gather_from.new.files)
    (first_of source c.args.name.now c.in-Some.tree (into_iter_items c.loop-tree.tree-iterator) (into_iter_items c.next.new.self) c.bytes.result.now c.in-Some.ensures.steps.0
    (named_by c.in-Some.tree c.in-Some-included_name.file.now c.bytes.result.now c.in-Some-included_name.ensures c.bytes.ensures) (c.loop-tree.invariant.of source agrees))
    (c.loop-tree.invariant.asked source agrees)
    (c.in_err-file-in-Some-included_name.ensures.asked source (agrees_still source (g.F.Files.holds c.args.files.now) (g.F.Files.holds c.loop-tree.files) c.loop-tree.invariant.same agrees)))

pub returns-in_err-trees-in-Some-included_name-clause-asked :
    goal.returns-in_err-trees-in-Some-included_name-clause-asked
returns-in_err-trees-in-Some-included_name-clause-asked g t c = λ source agrees.
    grew_named source c.args.name.now (g.F.Files.asked c.args.files.now) (g.F.Files.asked c.gather_from.new.files)
    (grew_within source c.args.name.now c.bytes.result.now (g.F.Files.asked c.args.files.now) (g.F.Files.asked c.loop-tree.files) (g.F.Files.asked c.gather_from.new.files)
    (first_of source c.args.name.now c.in-Some.tree (into_iter_items c.loop-tree.tree-iterator) (into_iter_items c.next.new.self) c.bytes.result.now c.in-Some.ensures.steps.0
    (named_by c.in-Some.tree c.in-Some-included_name.file.now c.bytes.result.now c.in-Some-included_name.ensures c.bytes.ensures) (c.loop-tree.invariant.of source agrees))
    (c.loop-tree.invariant.asked source agrees)
    (c.in_ok-file-in-Some-included_name.ensures.asked source (agrees_still source (g.F.Files.holds c.args.files.now) (g.F.Files.holds c.loop-tree.files) c.loop-tree.invariant.same agrees)))

pub loop-tree-preserved-in_ok-trees-in-Some-included_name-4 :
    goal.loop-tree-preserved-in_ok-trees-in-Some-included_name-4
loop-tree-preserved-in_ok-trees-in-Some-included_name-4 g t c = record {
  next = tt;
  ends = tt;
  left = one_less c.in-Some.tree (into_iter_items c.loop-tree.tree-iterator) (into_iter_items c.next.new.self) (into_iter_len c.loop-tree.tree-iterator) (into_iter_len c.next.new.self) c.loop-tree.invariant.left
      c.in-Some.ensures.steps.0 c.in-Some.ensures.steps.1;
  bound = c.in_ok-file-in-Some-included_name.ensures.bound;
  comes = λ source agrees. includes source c.args.within c.args.used c.args.name.now c.loop-tree.trees c.in_ok-trees-in-Some-included_name.trees c.loop-tree.used c.in-Some.tree (into_iter_items c.loop-tree.tree-iterator)
      (into_iter_items c.next.new.self) c.bytes.result.now c.in_ok-file-in-Some-included_name.file c.in-Some.ensures.steps.0 (named_by c.in-Some.tree c.in-Some-included_name.file.now c.bytes.result.now c.in-Some-included_name.ensures c.bytes.ensures)
      c.if-within-ge-MOST_WITHIN.false c.in_ok-trees-in-Some-included_name.ensures
      (c.in_ok-file-in-Some-included_name.ensures.gives source (agrees_still source (g.F.Files.holds c.args.files.now) (g.F.Files.holds c.loop-tree.files) c.loop-tree.invariant.same agrees)) (c.loop-tree.invariant.comes source agrees);
  of = λ source agrees. rest_of source c.args.name.now c.in-Some.tree (into_iter_items c.loop-tree.tree-iterator) (into_iter_items c.next.new.self) c.in-Some.ensures.steps.0 (c.loop-tree.invariant.of source agrees);
  asked = λ source agrees. grew_within source c.args.name.now c.bytes.result.now (g.F.Files.asked c.args.files.now) (g.F.Files.asked c.loop-tree.files) (g.F.Files.asked c.gather_from.new.files)
      (first_of source c.args.name.now c.in-Some.tree (into_iter_items c.loop-tree.tree-iterator) (into_iter_items c.next.new.self) c.bytes.result.now c.in-Some.ensures.steps.0
      (named_by c.in-Some.tree c.in-Some-included_name.file.now c.bytes.result.now c.in-Some-included_name.ensures c.bytes.ensures) (c.loop-tree.invariant.of source agrees))
      (c.loop-tree.invariant.asked source agrees)
      (c.in_ok-file-in-Some-included_name.ensures.asked source (agrees_still source (g.F.Files.holds c.args.files.now) (g.F.Files.holds c.loop-tree.files) c.loop-tree.invariant.same agrees));
  goes = λ source agrees.
      let still = agrees_still source (g.F.Files.holds c.args.files.now) (g.F.Files.holds c.loop-tree.files) c.loop-tree.invariant.same agrees in
      faults.includes source c.args.within c.args.used c.args.name.now c.loop-tree.used c.in-Some.tree (into_iter_items c.loop-tree.tree-iterator) (into_iter_items c.next.new.self) c.bytes.result.now c.in_ok-file-in-Some-included_name.file
      (g.F.Files.asked c.args.files.now) (g.F.Files.asked c.loop-tree.files) (g.F.Files.asked c.gather_from.new.files) c.in-Some.ensures.steps.0
      (named_by c.in-Some.tree c.in-Some-included_name.file.now c.bytes.result.now c.in-Some-included_name.ensures c.bytes.ensures) c.if-within-ge-MOST_WITHIN.false
      (c.in_ok-file-in-Some-included_name.ensures.gives source still) (c.loop-tree.invariant.goes source agrees) (c.in_ok-file-in-Some-included_name.ensures.asks source still);
  same = same_still (g.F.Files.holds c.args.files.now) (g.F.Files.holds c.loop-tree.files) (g.F.Files.holds c.gather_from.new.files) c.loop-tree.invariant.same c.in_ok-file-in-Some-included_name.ensures.same;
  count = c.in_ok-file-in-Some-included_name.ensures.quiet (λ e. cc) ∙ c.loop-tree.invariant.count;
}

pub returns-clause-gives : goal.returns-clause-gives
returns-clause-gives g t c = λ source agrees.
    finishes source c.args.within c.args.used c.args.name.now c.loop-tree.trees c.loop-tree.used (into_iter_items c.loop-tree.tree-iterator) (into_iter_len c.loop-tree.tree-iterator) c.loop-tree.invariant.left
    c.in-None.ensures.steps.0 (c.loop-tree.invariant.comes source agrees)

pub returns-clause-asked : goal.returns-clause-asked
returns-clause-asked g t c = λ source agrees. grew_named source c.args.name.now (g.F.Files.asked c.args.files.now) (g.F.Files.asked c.loop-tree.files) (c.loop-tree.invariant.asked source agrees)

pub returns-clause-asks : goal.returns-clause-asks
returns-clause-asks g t c = λ source agrees.
    faults.finishes source c.args.within c.args.used c.args.name.now c.loop-tree.used (into_iter_items c.loop-tree.tree-iterator) (into_iter_len c.loop-tree.tree-iterator) (g.F.Files.asked c.args.files.now) (g.F.Files.asked c.loop-tree.files)
    c.loop-tree.invariant.left c.in-None.ensures.steps.0 (c.loop-tree.invariant.goes source agrees)

pub returns-in_err-text-clause-faulted : goal.returns-in_err-text-clause-faulted
returns-in_err-text-clause-faulted g t c = λ failed source agrees.
    let p = err_from_is_err_and c.from_residual.result c.from_residual.ensures.1 in
    c.in_err-text.ensures.faulted (ap (λ (e : SourceRefusal). Err e) (faults.fault_is c.from_residual.result p.0 c.in_err-text.field-0.0 p.1 p.2 failed)) source agrees c.args.within

pub returns-in_err-file-in-Some-included_name-clause-faulted :
    goal.returns-in_err-file-in-Some-included_name-clause-faulted
returns-in_err-file-in-Some-included_name-clause-faulted g t c = λ failed source agrees.
    let p = err_from_is_err_and c.from_residual-in_err-file-in-Some-included_name.result c.from_residual-in_err-file-in-Some-included_name.ensures.1 in
    let still = agrees_still source (g.F.Files.holds c.args.files.now) (g.F.Files.holds c.loop-tree.files) c.loop-tree.invariant.same agrees in
    let is = faults.fault_is c.from_residual-in_err-file-in-Some-included_name.result p.0 c.in_err-file-in-Some-included_name.field-0.0 p.1 p.2 failed in
    faults.fails source c.args.within c.args.used c.args.name.now c.loop-tree.used c.in-Some.tree (into_iter_items c.loop-tree.tree-iterator) (into_iter_items c.next.new.self) c.bytes.result.now (g.F.Files.asked c.args.files.now)
    (g.F.Files.asked c.loop-tree.files) (g.F.Files.asked c.gather_from.new.files) c.in-Some.ensures.steps.0
    (named_by c.in-Some.tree c.in-Some-included_name.file.now c.bytes.result.now c.in-Some-included_name.ensures c.bytes.ensures) c.if-within-ge-MOST_WITHIN.false
    (c.loop-tree.invariant.goes source agrees) (c.in_err-file-in-Some-included_name.ensures.faulted (ap (λ (e : SourceRefusal). Err e) is) source still)
