use Rattle.std.proofs.Common.{arith}
use Rattle.run_memory.proofs.Numbers.{bytes_bound, bytes_fit}
use Rattle.run_memory.proofs.+number_at.Goals as goal

pub overflow_mul-result : goal.overflow_mul-result
overflow_mul-result t c = omega (arith, bytes_fit c.args.count c.in_ok-rest.rest 0 (omega arith) c.requires.small c.in_ok-rest.ensures.fits (omega arith))

pub overflow_add-result : goal.overflow_add-result
overflow_add-result t c = omega (arith, bytes_fit c.args.count c.in_ok-rest.rest c.from.result (omega arith) c.requires.small c.in_ok-rest.ensures.fits (omega arith))

pub returns-clause-fits : goal.returns-clause-fits
returns-clause-fits t c = bytes_bound c.args.count c.in_ok-rest.rest c.from.result (omega arith) c.in_ok-rest.ensures.fits (omega arith)
