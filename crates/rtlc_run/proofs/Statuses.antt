-- The statuses that there are.
use Rattle.std.proofs.Common.{◌≡◌, ℕ, [], ◌∷◌, refl, sym, subst, arith}
use Rattle.std.specs.Prelude.{Contains}
use Rattle.run_refusal.specs.declared.refusal.Refusal.{Refusal}
use Rattle.run_refusal.specs.declared.refusal.Refusal.TheVariants as refusal
use Rattle.run_refusal.specs.Refusals.{status_of}

abbrev IsStatus : ℕ → Type 0
IsStatus n = Contains (0 ∷ 1 ∷ 2 ∷ 3 ∷ 4 ∷ 5 ∷ 6 ∷ 7 ∷ 8 ∷ []) n

has_status : (e : Refusal) → IsStatus (status_of e)
has_status refusal.Usage = (1, omega arith, refl)
has_status (refusal.Syntax file place) = (2, omega arith, refl)
has_status (refusal.Construct place name) = (2, omega arith, refl)
has_status (refusal.IllFormed function uid rule) = (2, omega arith, refl)
has_status (refusal.Limit which count) = (2, omega arith, refl)
has_status (refusal.Unmatched function uid stage insn) = (3, omega arith, refl)
has_status (refusal.Unsatisfied function uid form insn) = (4, omega arith, refl)
has_status (refusal.NotEquated function uid rule item left right) = (5, omega arith, refl)
has_status refusal.ReadFault = (6, omega arith, refl)
has_status refusal.WriteFault = (7, omega arith, refl)
has_status refusal.Memory = (8, omega arith, refl)

pub status_is : (e : Refusal) (n : ℕ) → n ≡ status_of e → Contains (0 ∷ 1 ∷ 2 ∷ 3 ∷ 4 ∷ 5 ∷ 6 ∷ 7 ∷ 8 ∷ []) n
status_is e n h = subst IsStatus (sym h) (has_status e)
