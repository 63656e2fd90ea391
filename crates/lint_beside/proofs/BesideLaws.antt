-- What is told beside findings, one after the other.
use Rattle.std.proofs.Common.{◌≡◌, ℕ, suc, ◌+◌, ◌<◌, ◌≤◌, ℤ, List, [], ◌∷◌, ◌++◌, length, drop, get_or, refl, sym, ap, subst, append_assoc}
use Rattle.std.proofs.lemmas.List.{append-nil, drop_all}
use Rattle.md_desc.specs.md_forms.declared.form.Entry.{Entry}
use Rattle.lint_choices.proofs.PushedLaws.{opened}
use Rattle.lint_found.specs.declared.found.Finding.{Finding}
use Rattle.lint_beside.specs.declared.beside.Beside.{Beside}
use Rattle.lint_beside.specs.Beside.{IsBeside, AreBeside}

-- what stands beside the rest, behind what is there, stands beside all
abbrev pub Goes : List Entry → List ℤ → List Finding → ℕ → List Beside → Type 0
Goes forms tested fs at done = (rest : List Beside) → AreBeside forms tested (drop at fs) rest → AreBeside forms tested fs (done ++ rest)

pub one_more : (forms : List Entry) (tested : List ℤ) (fs : List Finding) (at : ℕ) (f : Finding) (b : Beside) (done more : List Beside) →
    at < length fs → f ≡ get_or fs at f → IsBeside forms tested f b → more ≡ done ++ b ∷ [] → Goes forms tested fs at done → Goes forms tested fs (at + 1) more
one_more forms tested fs at f b done more within here is made before rest are =
    rw (made, append_assoc done (b ∷ []) rest)
    (before (b ∷ rest) (subst (λ (gs : List Finding). AreBeside forms tested gs (b ∷ rest)) (sym (opened fs at f within here)) (AreBeside.next f (drop (at + 1) fs) b rest is are)))

pub all_are : (forms : List Entry) (tested : List ℤ) (fs : List Finding) (at : ℕ) (done : List Beside) → length fs ≤ at → Goes forms tested fs at done → AreBeside forms tested fs done
all_are forms tested fs at done past before =
    subst (λ (bs : List Beside). AreBeside forms tested fs bs) (append-nil done)
    (before [] (subst (λ (gs : List Finding). AreBeside forms tested gs []) (sym (drop_all at fs past)) AreBeside.none))

pub are_as_many : (forms : List Entry) (tested : List ℤ) (fs : List Finding) (bs : List Beside) → AreBeside forms tested fs bs → length bs ≡ length fs
are_as_many forms tested _ _ AreBeside.none = refl
are_as_many forms tested _ _ (AreBeside.next f fs b bs is are) =
    ap suc (are_as_many forms tested fs bs are)
