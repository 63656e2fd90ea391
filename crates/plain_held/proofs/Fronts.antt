-- Entries part by part.
use Rattle.std.proofs.Common.{◌≡◌, ◌↔◌, ℕ, ◌+◌, ◌<◌, List, [], ◌∷◌, ◌++◌, suc, drop, get_or, length, refl, sym, ap, subst, ◌∙◌, add-one}
use Rattle.std.proofs.Math.Seq.{drop-cons}
use Rattle.std.specs.List.{flat_map}
use Rattle.md_forms.specs.declared.form.Entry.{Entry}
use Rattle.plain_forms.specs.Forms.{plain_forms}
use Rattle.plain_held.specs.declared.part.Part.{Part}
use Rattle.plain_held.specs.Parts.{forms_in, all_parts}

-- all parts are all forms
pub parts_are : flat_map forms_in all_parts ≡ plain_forms
unfolding plain_forms
parts_are = refl

same_front : (front a b : List Entry) → front ++ a ≡ front ++ b → a ≡ b
same_front [] a b is = is
same_front (x ∷ front) a b is = same_front front a b (let same : front ++ a ≡ front ++ b = cc in same)

-- of a part that stands in front, what is behind it has to be the others
pub behind_one : (whole : Type 0) (part : Part) (parts : List Part) (rest more : List Entry) → whole ↔ (rest ≡ flat_map forms_in (part ∷ parts)) → rest ≡ forms_in part ++ more →
    whole ↔ (more ≡ flat_map forms_in parts)
behind_one whole part parts rest more all is = (
  λ w. same_front (forms_in part) more (flat_map forms_in parts) (sym is ∙ all.0 w),
  λ m. all.1 (is ∙ ap (λ x. forms_in part ++ x) m),
)

-- one part more
pub part_behind : (whole : Type 0) (parts : List Part) (i : ℕ) (d : Part) (rest more : List Entry) → parts ≡ all_parts → i < length parts → whole ↔ (rest ≡ flat_map forms_in (drop i all_parts))
    → rest ≡ forms_in (get_or parts i d) ++ more → whole ↔ (more ≡ flat_map forms_in (drop (i + 1) all_parts))
part_behind whole parts i d rest more are below all is =
    let cut : drop i all_parts ≡ get_or all_parts i d ∷ drop (suc i) all_parts = drop-cons all_parts i d (subst (λ ps. i < length ps) are below) in
    let here : rest ≡ forms_in (get_or all_parts i d) ++ more = subst (λ ps. rest ≡ forms_in (get_or ps i d) ++ more) are is in
    let one = behind_one whole (get_or all_parts i d) (drop (suc i) all_parts) rest more (subst (λ ps. whole ↔ (rest ≡ flat_map forms_in ps)) cut all) here in
    subst (λ k. whole ↔ (more ≡ flat_map forms_in (drop k all_parts))) (sym (add-one i)) one
