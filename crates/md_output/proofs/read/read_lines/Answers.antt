use Rattle.std.proofs.Common.{ℕ, List, subst, arith}
use Rattle.md_output.specs.Read.{IsReadAs}
use Rattle.md_output.proofs.ReadLaws.{read_on}
use Rattle.md_output.proofs.read.read_lines.Goals as goal

pub loop-text-preserved : goal.loop-text-preserved
loop-text-preserved c =
    read_on c.args.texts.now c.loop-text.text-index c.text-item.result c.loop-text.lines c.push.new.self c.in_ok-read_line.field-0 (omega arith) c.text-item.is c.in_ok-push.ensures.ok
    c.loop-text.invariant (subst (λ (t : List ℕ). IsReadAs t c.in_ok-read_line.field-0) c.bytes.ensures c.in_ok-read_line.ensures)
