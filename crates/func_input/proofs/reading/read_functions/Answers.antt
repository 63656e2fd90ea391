use Rattle.std.proofs.Common.{refl}
use Rattle.std.proofs.lemmas.Result.{err_from_is_err_and}
use Rattle.func_input.proofs.Any.{input_gives, gives_input}
use Rattle.func_input.proofs.One.{one_giving}
use Rattle.func_input.proofs.Readings.{parsed_reads, unparsed_unread}
use Rattle.func_input.proofs.reading.read_functions.Goals as goal

pub returns-in_err-trees-clause-unread : goal.returns-in_err-trees-clause-unread
returns-in_err-trees-clause-unread c =
    let p = err_from_is_err_and c.from_residual.result c.from_residual.ensures.1 in
    rw (p.1, p.2) (λ other functions read. c.in_err-trees.ensures.unread other read.trees read.reads)

pub returns-in_err-trees-clause-input : goal.returns-in_err-trees-clause-input
returns-in_err-trees-clause-input c = λ bytes functions. (λ input. input_gives bytes functions input, λ gives. gives_input bytes functions _ refl gives)

pub returns-in_err-trees-clause-one : goal.returns-in_err-trees-clause-one
returns-in_err-trees-clause-one c = λ bytes a b p q. one_giving bytes a b p q

pub returns-clause-reads : goal.returns-clause-reads
returns-clause-reads c = parsed_reads c.args.bytes.now c.in_ok-trees.trees c.parse.result c.requires c.in_ok-trees.ensures.trees c.parse.ensures.parses

pub returns-clause-unread : goal.returns-clause-unread
returns-clause-unread c = unparsed_unread c.args.bytes.now c.in_ok-trees.trees c.parse.result c.in_ok-trees.ensures.trees c.parse.ensures.outside

pub returns-clause-input : goal.returns-clause-input
returns-clause-input c = λ bytes functions. (λ input. input_gives bytes functions input, λ gives. gives_input bytes functions _ refl gives)

pub returns-clause-one : goal.returns-clause-one
returns-clause-one c = λ bytes a b p q. one_giving bytes a b p q
