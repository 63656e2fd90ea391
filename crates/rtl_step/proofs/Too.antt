-- Where one has a value, another has it.
use Rattle.std.proofs.Common.{◌≡◌, Option, Some, None, refl, ap, ◌∙◌}
use Rattle.std.specs.Prelude.{option_and_then, option_map}
use Rattle.rtl_step.specs.Value.{of_two}

-- where the first has a value, the second has it
abbrev pub Too : {A : Type 0} → Option A → Option A → Type 0
Too {A} a b = (v : A) → a ≡ Some v → b ≡ Some v

pub too_then : {A B : Type 0} (g : A → Option B) (a b : Option A) → Too a b → Too (option_and_then g a) (option_and_then g b)
too_then g None b too v is = absurd (let no : ⊥ = cc in no)
too_then g (Some x) b too v is = ap (option_and_then g) (too x refl) ∙ is

pub too_map : {A B : Type 0} (g : A → B) (a b : Option A) → Too a b → Too (option_map g a) (option_map g b)
too_map g None b too v is = absurd (let no : ⊥ = cc in no)
too_map g (Some x) b too v is = ap (option_map g) (too x refl) ∙ is

pub too_two : {A B C : Type 0} (g : A → B → Option C) (a a' : Option A) (b b' : Option B) → Too a a' → Too b b' →
    Too (of_two g a b) (of_two g a' b')
too_two g None a' b b' first second v is = absurd (let no : ⊥ = cc in no)
too_two g (Some x) a' None b' first second v is = absurd (let no : ⊥ = cc in no)
too_two g (Some x) a' (Some y) b' first second v is =
    ap (λ o. of_two g o b') (first x refl) ∙ ap (of_two g (Some x)) (second y refl) ∙ is
