use Rattle.rtl_make.specs.Made.{bits_at}
use Rattle.rtl_make.proofs.generator.bits_at.Goals as goal

pub returns-clause-value : goal.returns-clause-value
unfolding bits_at
returns-clause-value c = search
