use Rattle.std.proofs.Common.{refl}
use Rattle.std.specs.Fmt.{digits}
use Rattle.plain_forms.specs.Forms.{plain_forms}
use Rattle.plain_held.proofs.table.truncations.Goals as goal

pub returns : goal.returns
unfolding plain_forms digits
returns c = record { stand = refl; whole = refl }
