use Rattle.code_eval.proofs.Symbols.{named_pushed}
use Rattle.code_eval.proofs.world.push_symbol.Goals as goal

pub returns-clause-named : goal.returns-clause-named
returns-clause-named c =
    named_pushed c.args.used.now.symbols c.push.new.self c.args.used.now.names c.put.new.self (record { name = c.in_ok-copy.field-0; address = c.in_ok-address.address }) c.args.name.now c.in_ok-copy.ensures c.in_ok-push.ensures.ok
    c.in_ok-put.ensures c.requires
