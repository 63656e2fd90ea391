use Rattle.func_input.specs.Input.{ReadingComesTo}
use Rattle.func_input.proofs.Unread.{no_stand}
use Rattle.func_input.proofs.reading.parse.Goals as goal

pub returns-in-Err-Construct-clause-parses : goal.returns-in-Err-Construct-clause-parses
returns-in-Err-Construct-clause-parses c = ReadingComesTo.outside c.args.trees.now c.in-Err-Construct.place c.in-Err-Construct.name (rw (← c.as_slice.ensures.value) (rw c.in-Err-Construct.field-0-is at c.in-Err-Construct.ensures))

pub returns-in-Err-Construct-clause-outside : goal.returns-in-Err-Construct-clause-outside
returns-in-Err-Construct-clause-outside c = λ other functions is.
    no_stand c.args.trees.now c.in-Err-Construct.place c.in-Err-Construct.name functions (rw (← c.as_slice.ensures.value) (rw c.in-Err-Construct.field-0-is at c.in-Err-Construct.ensures)) is
