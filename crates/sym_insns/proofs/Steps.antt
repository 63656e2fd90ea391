-- Needs and effects one after another.
use Rattle.std.proofs.Common.{◌≡◌, ℕ, List, [], ◌∷◌, ◌++◌, map, refl, ap, sym, ◌∙◌, append_assoc}
use Rattle.std.proofs.lemmas.List.{map-append}
use Rattle.sym_state.specs.State.{NeedAt, State, needs_at}
use Rattle.sym_state.specs.Views.{need_of, need_at_of}
use Rattle.sym_state.specs.declared.state.NeedOf.{NeedOf}
use Rattle.sym_state.specs.declared.state.SymNeed.{SymNeed}
use Rattle.sym_insns.specs.Effects.{make, make_all}
use Rattle.sym_insns.specs.machine.Making.{effected_view}
use Rattle.sym_insns.specs.declared.effect.EffectedOf.{EffectedOf}

-- one need more
pub needs_more : (index : ℕ) (needs : List NeedOf) (need : NeedOf) →
    needs_at index (map need_of (needs ++ need ∷ []))
    ≡ needs_at index (map need_of needs) ++ record { index = index; what = need_of need } ∷ []
needs_more index [] need = refl
needs_more index (n ∷ needs) need =
    ap (λ (l : List NeedAt). record { index = index; what = need_of n } ∷ l)
    (needs_more index needs need)

-- needs added one by one: behind those before them stand those so far, and one more
pub needs_step : (index : ℕ) (before : List NeedAt) (all : List SymNeed) (needs : List NeedOf)
    (need : NeedOf) →
    map need_at_of all ≡ before ++ needs_at index (map need_of needs) →
    map need_at_of (all ++ record { index = index; what = need } ∷ [])
    ≡ before ++ needs_at index (map need_of (needs ++ need ∷ []))
needs_step index before all needs need so_far =
    map-append need_at_of all (record { index = index; what = need } ∷ [])
    ∙ ap (λ (l : List NeedAt). l ++ record { index = index; what = need_of need } ∷ []) so_far
    ∙ append_assoc before (needs_at index (map need_of needs))
    (record { index = index; what = need_of need } ∷ [])
    ∙ ap (λ (l : List NeedAt). before ++ l) (sym (needs_more index needs need))

-- one effect more
pub make_more : (index : ℕ) (effects : List EffectedOf) (effect : EffectedOf) (s : State) →
    make_all index (map effected_view (effects ++ effect ∷ [])) s
    ≡ make index (effected_view effect) (make_all index (map effected_view effects) s)
make_more index [] effect s = refl
make_more index (e ∷ effects) effect s =
    make_more index effects effect (make index (effected_view e) s)
