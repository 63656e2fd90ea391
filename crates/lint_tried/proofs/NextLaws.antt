-- What is made of things by their places, one after the other.
use Rattle.std.proofs.Common.{◌≡◌, ℕ, ◌+◌, ◌<◌, List, [], ◌∷◌, ◌++◌, length, drop, get_or, sym, ap, ◌∙◌, append_assoc}
use Rattle.std.specs.Prelude.{slice_index_or}
use Rattle.rtx_tree.specs.declared.tree.Rtx.{Rtx}
use Rattle.lint_choices.proofs.PushedLaws.{opened}
use Rattle.lint_choices.specs.declared.change.Picked.{Picked}
use Rattle.lint_made.specs.declared.candidate.Candidate.{Candidate}
use Rattle.lint_tried.specs.Trial.{Trial}
use Rattle.lint_tried.specs.Instance.{registers_of, picked_at, registers_from}
use Rattle.lint_tried.specs.Tried.{picked_from}

pub registers_next : (t : Trial) (candidates : List (List Candidate)) (picks : List ℕ) (xs : List Rtx) (at : ℕ) (x : Rtx) (regs : List ℕ) (out more whole : List (List ℕ)) →
    at < length xs → x ≡ get_or xs at x → regs ≡ registers_of t x (picked_at candidates picks at) → more ≡ out ++ regs ∷ [] →
    out ++ registers_from t candidates picks at (drop at xs) ≡ whole → more ++ registers_from t candidates picks (at + 1) (drop (at + 1) xs) ≡ whole
registers_next t candidates picks xs at x regs out more whole within is own made h =
    let rest : List (List ℕ) = registers_from t candidates picks (at + 1) (drop (at + 1) xs) in
    rw made (append_assoc out (regs ∷ []) rest
    ∙ (ap (λ (r : List ℕ). out ++ r ∷ rest) own
    ∙ (sym (ap (λ (ys : List Rtx). out ++ registers_from t candidates picks at ys) (opened xs at x within is)) ∙ h)))

pub picked_next : (picks : List ℕ) (xs : List (List Candidate)) (at : ℕ) (x : List Candidate) (out more whole : List Picked) →
    at < length xs → x ≡ get_or xs at x → more ≡ out ++ record { count = length x; own = slice_index_or picks at 0 } ∷ [] →
    out ++ picked_from picks at (drop at xs) ≡ whole → more ++ picked_from picks (at + 1) (drop (at + 1) xs) ≡ whole
picked_next picks xs at x out more whole within is made h =
    let rest : List Picked = picked_from picks (at + 1) (drop (at + 1) xs) in
    let one : Picked = record { count = length x; own = slice_index_or picks at 0 } in
    rw made (append_assoc out (one ∷ []) rest
    ∙ (sym (ap (λ (ys : List (List Candidate)). out ++ picked_from picks at ys) (opened xs at x within is)) ∙ h))
