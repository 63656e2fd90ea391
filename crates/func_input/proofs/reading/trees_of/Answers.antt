use Rattle.lisp_read.specs.Reading.{Syntax, Depth}
use Rattle.func_input.proofs.Readings.{syntax_refused, depth_refused}
use Rattle.func_input.proofs.Unread.{no_reading}
use Rattle.func_input.proofs.reading.trees_of.Goals as goal

pub returns-in-Err-Syntax-clause-refused : goal.returns-in-Err-Syntax-clause-refused
returns-in-Err-Syntax-clause-refused c =
    syntax_refused c.args.bytes.now c.in-Err-Syntax.place c.syntax.result c.requires c.syntax.ensures (rw c.in-Err-Syntax.field-0-is at c.in-Err-Syntax.ensures.reads)

pub returns-in-Err-Depth-clause-refused : goal.returns-in-Err-Depth-clause-refused
returns-in-Err-Depth-clause-refused c =
    depth_refused c.args.bytes.now c.in-Err-Depth.field-0-0 c.requires (rw c.in-Err-Depth.field-0-is at c.in-Err-Depth.ensures.reads)

pub returns-in-Err-Syntax-clause-unread : goal.returns-in-Err-Syntax-clause-unread
returns-in-Err-Syntax-clause-unread c = λ other trees reads. no_reading c.args.bytes.now (Syntax c.in-Err-Syntax.place) trees (λ is. cc) (rw c.in-Err-Syntax.field-0-is at c.in-Err-Syntax.ensures.reads) reads

pub returns-in-Err-Depth-clause-unread : goal.returns-in-Err-Depth-clause-unread
returns-in-Err-Depth-clause-unread c = λ other trees reads. no_reading c.args.bytes.now (Depth c.in-Err-Depth.field-0-0) trees (λ is. cc) (rw c.in-Err-Depth.field-0-is at c.in-Err-Depth.ensures.reads) reads
