-- An instance behind others, as there is room and none of them has its pattern.
use Rattle.std.proofs.Common.{◌≡◌, ◌<◌, ◌≤◌, ◌&&◌, not, Bool, true, false, nat_lt, if◌then◌else◌, List, [], ◌∷◌, ◌++◌, length, Option, Some, None, refl, sym, ap, ◌∙◌}
use Rattle.std.specs.List.{list_any}
use Rattle.std.proofs.lemmas.Bool.{lt-ltb, le-ltb}
use Rattle.lint_tried.specs.declared.instance.Instance.{Instance}
use Rattle.rtx_tree.specs.Limit.{most_tried}
use Rattle.lint_tried.specs.Tried.{is_like, with_instance}

abbrev put_if : Bool → Bool → List Instance → Instance → List Instance
put_if room like tried i = if room && not like then tried ++ i ∷ [] else tried

-- there is no room
pub no_room : (tried : List Instance) (o : Option Instance) → most_tried ≤ length tried → tried ≡ with_instance tried o
no_room tried None full = refl
no_room tried (Some i) full = sym (ap (λ (room : Bool). put_if room (list_any (is_like i) tried) tried i) (le-ltb (length tried) most_tried full))

-- one has its pattern
pub like_left : (tried : List Instance) (i : Instance) → list_any (is_like i) tried ≡ true → tried ≡ with_instance tried (Some i)
like_left tried i like = by_room (nat_lt (length tried) most_tried) ∙ sym (ap (λ (b : Bool). put_if (nat_lt (length tried) most_tried) b tried i) like)
  where
    by_room : (room : Bool) → tried ≡ put_if room true tried i
    by_room true = refl
    by_room false = refl

-- none has
pub unlike_put : (tried new : List Instance) (i : Instance) → length tried < most_tried → list_any (is_like i) tried ≡ false → new ≡ tried ++ i ∷ [] → new ≡ with_instance tried (Some i)
unlike_put tried new i room unlike made =
    made
    ∙ sym (ap (λ (b : Bool). put_if (nat_lt (length tried) most_tried) b tried i) unlike
    ∙ ap (λ (b : Bool). put_if b false tried i) (lt-ltb (length tried) most_tried room))
