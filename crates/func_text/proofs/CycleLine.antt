-- The line of a cycle, from its parts.
use Rattle.std.proofs.Common.{◌≡◌, ℕ, List, [], ◌∷◌, ◌++◌, ap, ◌∙◌, append_assoc}
use Rattle.std.specs.Fmt.{decimal}
use Rattle.schedule.specs.declared.plan.CycleOf.{CycleOf}
use Rattle.func_text.specs.Cycles.{line_of}
use Rattle.func_text.proofs.Line.{behind}

parts_made : (old a b c f n x : List ℕ) → a ≡ old ++ (f ++ 32 ∷ []) → b ≡ a ++ (n ++ 32 ∷ []) → c ≡ b ++ (x ++ 10 ∷ []) → c ≡ old ++ (f ++ (32 ∷ (n ++ (32 ∷ (x ++ 10 ∷ [])))))
parts_made old a b c f n x p q r =
    r ∙ ap (λ (t : List ℕ). t ++ (x ++ 10 ∷ [])) q ∙ behind a n (x ++ 10 ∷ []) ∙
    ap (λ (t : List ℕ). t ++ (n ++ (32 ∷ (x ++ 10 ∷ [])))) p ∙ behind old f (n ++ (32 ∷ (x ++ 10 ∷ [])))

pub line_made : (function : List ℕ) (cycle : CycleOf) (old a b c : List ℕ) → a ≡ old ++ (function ++ 32 ∷ []) → b ≡ a ++ (decimal cycle.uid ++ 32 ∷ []) → c ≡ b ++ (decimal cycle.cycle ++ 10 ∷ []) →
    c ≡ old ++ line_of function cycle
line_made function cycle old a b c = parts_made old a b c function (decimal cycle.uid) (decimal cycle.cycle)
