use Rattle.std.proofs.Common.{◌≡◌, ℕ, true, set, List, [], ◌∷◌, ◌++◌, Some, refl, sym, ap, subst, ◌∙◌, arith}
use Rattle.std.specs.Prelude.{slice_get}
use Rattle.std.proofs.lemmas.Option.{slice_get_read}
use Rattle.live_rows.specs.Paths.{is_place}
use Rattle.live_rows.specs.machine.Waiting.{listed_at}
use Rattle.live_rows.proofs.BackLaws.{listed-kept, listed-added, listed-below}
use Rattle.live_rows.proofs.back.add_back.Goals as goal

pub returns-in_ok-push-clause-kept : goal.returns-in_ok-push-clause-kept
returns-in_ok-push-clause-kept c p q h =
    let back = c.args.back.now in
    let list = c.index-back-place.result in
    let here : slice_get back c.in-Some.place ≡ Some list = slice_get_read back _ c.in-Some.place list refl (omega arith) c.index-back-place.is in
    let pushed : c.push.new.self ≡ list ++ c.args.from ∷ [] = c.in_ok-push.ensures.ok ∙ ap (λ (l : List ℕ). l ++ c.args.from ∷ []) (sym c.index-back-place.is) in
    subst (λ (l : List ℕ). listed_at (set back c.in-Some.place l) p q ≡ true) (sym pushed) (listed-kept back c.in-Some.place c.args.from list (omega arith) here p q h)

pub returns-in_ok-push-clause-added : goal.returns-in_ok-push-clause-added
returns-in_ok-push-clause-added c p within is =
    let back = c.args.back.now in
    let list = c.index-back-place.result in
    let here : slice_get back c.in-Some.place ≡ Some list = slice_get_read back _ c.in-Some.place list refl (omega arith) c.index-back-place.is in
    let pushed : c.push.new.self ≡ list ++ c.args.from ∷ [] = c.in_ok-push.ensures.ok ∙ ap (λ (l : List ℕ). l ++ c.args.from ∷ []) (sym c.index-back-place.is) in
    subst (λ (l : List ℕ). listed_at (set back c.in-Some.place l) p c.args.from ≡ true) (sym pushed) (listed-added back c.in-Some.place c.args.from list (omega arith) here p (sym (ap (λ t. is_place t p) c.in-Some.is) ∙ is))

pub returns-in_ok-push-clause-below : goal.returns-in_ok-push-clause-below
returns-in_ok-push-clause-below c bound less below p q h =
    let back = c.args.back.now in
    let list = c.index-back-place.result in
    let here : slice_get back c.in-Some.place ≡ Some list = slice_get_read back _ c.in-Some.place list refl (omega arith) c.index-back-place.is in
    let pushed : c.push.new.self ≡ list ++ c.args.from ∷ [] = c.in_ok-push.ensures.ok ∙ ap (λ (l : List ℕ). l ++ c.args.from ∷ []) (sym c.index-back-place.is) in
    listed-below back c.in-Some.place c.args.from list (omega arith) here bound less below p q (subst (λ (l : List ℕ). listed_at (set back c.in-Some.place l) p q ≡ true) pushed h)
