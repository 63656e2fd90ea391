-- A refusal by the definitions of a text.
use Rattle.std.proofs.Common.{◌≡◌, List, Err, subst}
use Rattle.lisp_read.specs.declared.tree.Tree.{Tree}
use Rattle.md_iter.specs.declared.definition.Definitions.{Definitions}
use Rattle.md_iter.specs.declared.refusal.IterRefusal.{IterRefusal}
use Rattle.md_iter.specs.declared.refusal.IterRefusal.TheVariants as refusal
use Rattle.md_iter.specs.Definition.{definitions_in}
use Rattle.md_iter.specs.Expansion as spec
use Rattle.md_iter.specs.machine.Steps as steps

-- what the forms' making refuses, the whole refuses
pub refused : (definitions : Definitions) (trees : List Tree) (e : IterRefusal) → definitions ≡ definitions_in trees → steps.Gives definitions trees (Err e) → spec.Gives trees (Err e)
refused definitions trees (refusal.Limit at) is gives = subst (λ ds. spec.PassesAt ds trees at) is gives
refused definitions trees refusal.Memory is gives = gives
