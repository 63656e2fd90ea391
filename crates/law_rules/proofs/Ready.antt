-- A function of an input keeps the rules.
use Rattle.std.proofs.Common.{◌≡◌, ℕ, List, Some, ap, arith}
use Rattle.std.specs.Prelude.{slice_get}
use Rattle.rtx_tree.specs.declared.function.Function.{Function}
use Rattle.rtl_func.specs.Uids.{is_ruled_kind}
use Rattle.func_input.specs.Input.{IsInput}
use Rattle.law_rules.specs.Admitted.{IsAdmitted, BarriersDoNothing, IsWellFormed}
use Rattle.law_rules.proofs.Kept.{each_admitted, keep_each}
use Rattle.law_rules.proofs.Uids.{uids_differ, is_within}
use Rattle.law_rules.proofs.Reading.{read_barriers}

-- a function that isn't refused, whose barriers do nothing
pub admitted_well_formed : (f : Function) → IsAdmitted f → BarriersDoNothing f.insns → IsWellFormed f
admitted_well_formed f admitted barriers = record {
  keep = keep_each f admitted;
  barriers = barriers;
  labels = record {
    fit =
        λ place i at label. let within = is_within f admitted place i at (ap is_ruled_kind label) in let most = within.1 in omega (arith, most);
    differ =
        λ p q i j at at' label label' same. uids_differ f admitted p q i j at at' (ap is_ruled_kind label) (ap is_ruled_kind label') same;
  };
}

-- a function of an input
pub input_well_formed : (bytes : List ℕ) (functions : List Function) → IsInput bytes functions → (index : ℕ) (f : Function) →
    slice_get functions index ≡ Some f → IsWellFormed f
input_well_formed bytes functions input index f at =
    admitted_well_formed f (each_admitted functions input.admitted index f at) (read_barriers input.read.trees functions input.read.stand index f at)
