use Rattle.std.proofs.Common.{◌∙◌, sym}
use Rattle.std.proofs.lemmas.Result.{err_from_is_err_and}
use Rattle.md_source.proofs.Faults.{fault_is, read_faults}
use Rattle.md_source.proofs.KnownTexts.{reads_shipped, reads_fetched}
use Rattle.md_source.proofs.read.read_file.Goals as goal

pub returns-then-eq-clause-reads : goal.returns-then-eq-clause-reads
returns-then-eq-clause-reads g c = λ source agrees.
    reads_shipped source c.args.used c.args.name.now c.as_bytes.result.now c.read_text.result (sym c.eq.ensures ∙ c.if-eq.true) (c.as_bytes.ensures.value ∙ c.shipped.ensures) c.read_text.ensures.reads

pub returns-in_ok-text-clause-reads : goal.returns-in_ok-text-clause-reads
returns-in_ok-text-clause-reads g c = λ source agrees.
    reads_fetched source (g.F.Files.holds c.args.files.now) c.args.used c.args.name.now c.deref.result.now c.read_text-else-eq.result agrees (sym c.eq.ensures ∙ c.if-eq.false)
    (λ t held. c.deref.ensures.value ∙ (c.in_ok-text.ensures.fetched t held).0) c.read_text-else-eq.ensures.reads

pub returns-in_err-text-clause-faulted : goal.returns-in_err-text-clause-faulted
returns-in_err-text-clause-faulted g c = λ failed source agrees within.
    let p = err_from_is_err_and c.from_residual.result c.from_residual.ensures.1 in
    read_faults source (g.F.Files.holds c.args.files.now) c.args.used c.args.name.now (g.F.Files.asked c.args.files.now) (g.F.Files.asked c.fetch.new.files) c.in_err-text.field-0.0
    (fault_is c.from_residual.result p.0 c.in_err-text.field-0.0 p.1 p.2 failed) agrees c.requires (sym c.eq.ensures ∙ c.if-eq.false) c.in_err-text.ensures.fetched c.in_err-text.ensures.asks within
