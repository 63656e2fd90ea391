-- A kid in the place of its tree.
use Rattle.std.proofs.Common.{◌≡◌, ◌<◌, List, [], ◌∷◌, length, Some, IsSome, IfSome, refl, ap, sym, arith}
use Rattle.std.specs.Prelude.{slice_get, option_and_then}
use Rattle.rtx_tree.specs.declared.tree.Rtx.{Rtx}

pub first_there : (kids : List Rtx) → 0 < length kids → IsSome (option_and_then (λ (kid : Rtx). Some kid) (slice_get kids 0))
first_there [] some = absurd (omega (arith, some))
first_there (kid ∷ kids) some = refl

pub first_raised : (kids : List Rtx) (new : Rtx) → 0 < length kids →
    IfSome (option_and_then (λ (kid : Rtx). Some kid) (slice_get kids 0)) (λ kept. new ≡ kept) → slice_get kids 0 ≡ Some new
first_raised [] new some is = absurd (omega (arith, some))
first_raised (kid ∷ kids) new some is = ap Some (sym is)
