use Rattle.std.proofs.Common.{◌∙◌, List, sym}
use Rattle.lisp_read.specs.declared.tree.Tree.{Tree}
use Rattle.lisp_read.specs.Reading.{ReadsAs, Trees}
use Rattle.lint_source.specs.machine.Steps.{FileReads}
use Rattle.lint_source.proofs.StandLaws.{reads_shipped, reads_fetched, ok_so}
use Rattle.lint_source.proofs.part.trees_in.Goals as goal

pub returns-then-eq-clause-reads : goal.returns-then-eq-clause-reads
returns-then-eq-clause-reads g c = λ source agrees.
    ok_so c.read.result (λ (ts : List Tree). ReadsAs c.as_bytes.result.now (Trees ts)) (FileReads source c.args.name.now)
    (λ ts reads. reads_shipped source c.args.name.now c.as_bytes.result.now ts (sym c.eq.ensures ∙ c.if-eq.true) (c.as_bytes.ensures.value ∙ c.shipped.ensures) reads) c.read.ensures.reads

pub returns-in_ok-text-clause-reads : goal.returns-in_ok-text-clause-reads
returns-in_ok-text-clause-reads g c = λ source agrees.
    ok_so c.read-else-eq.result (λ (ts : List Tree). ReadsAs c.deref.result.now (Trees ts)) (FileReads source c.args.name.now)
    (λ ts reads. reads_fetched source (g.F.Files.holds c.args.files.now) c.args.name.now c.deref.result.now ts agrees (sym c.eq.ensures ∙ c.if-eq.false)
    (λ t held. c.deref.ensures.value ∙ c.in_ok-text.ensures.holds t held) reads) c.read-else-eq.ensures.reads
