use Rattle.std.proofs.Common.{refl, arith}
use Rattle.rtx_tree.specs.Registers.{pseudo}
use Rattle.reg_rows.specs.Row.{has}
use Rattle.assign.proofs.NamedLaws.{IsListed-step, listed_all, listed_small}
use Rattle.assign.proofs.named.pseudos_of.Goals as goal

pub loop-k-preserved : goal.loop-k-preserved
loop-k-preserved c =
    IsListed-step c.args.named.now c.loop-k.pseudos c.add_pseudo.new.pseudos c.loop-k.k (has c.args.named.now (pseudo c.loop-k.k)) refl c.in_ok-add_pseudo.ensures c.loop-k.invariant

pub returns-clause-each : goal.returns-clause-each
returns-clause-each c = listed_all c.args.named.now c.loop-k.pseudos c.loop-k.k (omega arith) c.loop-k.invariant

pub returns-clause-small : goal.returns-clause-small
returns-clause-small c = listed_small c.args.named.now c.loop-k.pseudos c.loop-k.k (omega arith) c.loop-k.invariant
