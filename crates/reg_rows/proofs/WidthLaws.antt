-- Widths with room for registers.
use Rattle.std.proofs.Common.{ℕ, ◌+◌, ◌*◌, ◌<◌, ◌≤◌, List, length, get_or, take, sym, subst, arith}
use Rattle.std.specs.Prelude.{All}
use Rattle.std.proofs.lemmas.List.{take_more, take_all}
use Rattle.std.proofs.lemmas.List.Elements.{All-push}

abbrev pub HasRoom : ℕ → List ℕ → Type 0
HasRoom width regs = All (λ reg. reg < 64 * width) regs

pub HasRoom-more : (regs : List ℕ) (k w v : ℕ) → k < length regs → HasRoom w (take k regs) → w ≤ v → get_or regs k 0 < 64 * v → HasRoom v (take (k + 1) regs)
HasRoom-more regs k w v l all le new =
    subst (HasRoom v) (sym (take_more regs k 0 l)) (All-push (λ reg. reg < 64 * v) (take k regs) (get_or regs k 0) (λ j d h. (let b : get_or (take k regs) j d < 64 * w = all j d h in omega arith)) new)

pub All-taken : {X : Type 0} (P : X → Type 0) (xs : List X) (k : ℕ) → length xs ≤ k → All P (take k xs) → All P xs
All-taken P xs k le all = subst (All P) (take_all k xs le) all
