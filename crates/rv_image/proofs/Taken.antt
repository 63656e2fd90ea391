-- Names that are known, and those that come in.
use Rattle.std.proofs.Common.{◌≡◌, ℕ, ◌+◌, ◌<◌, ◌≤◌, Bool, true, false, ◌||◌, if◌then◌else◌, List, [], ◌∷◌, ◌++◌, length, get_or, take, Option, Some, None, is_some, refl, sym, ◌∙◌, ap, bytes_eq, append_assoc}
use Rattle.std.specs.Option.{option_or}
use Rattle.std.specs.List.{flat_map}
use Rattle.std.proofs.lemmas.List.{take_more, take_all, append-nil, flat_map_more}
use Rattle.name_places.specs.Places.{place_in}
use Rattle.name_places.specs.declared.places.Places.{Places}
use Rattle.rv_text.specs.declared.line.CodeItem.{CodeItem}
use Rattle.rv_image.specs.Image.{is_function, unknown, item_symbols, symbols_named, outside_names}
use Rattle.rv_image.specs.machine.Steps.{knows, Takes}
use Rattle.rv_image.specs.declared.image.CodeUnit.{CodeUnit}

-- names that are known alike come in alike
pub same_unknown : (f g : List ℕ → Bool) → ((name : List ℕ) → f name ≡ g name) → (names : List (List ℕ)) → unknown f names ≡ unknown g names
same_unknown f g same [] = refl
same_unknown f g same (name ∷ names) =
    by (g name) (same name) (same_unknown f g same names) (same_unknown (λ other. bytes_eq name other || f other) (λ other. bytes_eq name other || g other) (λ other. ap (λ b. bytes_eq name other || b) (same other)) names)
  where
    by : (b : Bool) → f name ≡ b → unknown f names ≡ unknown g names → unknown (λ other. bytes_eq name other || f other) names ≡ unknown (λ other. bytes_eq name other || g other) names
        → (if f name then unknown f names else name ∷ unknown (λ other. bytes_eq name other || f other) names) ≡ (if b then unknown g names else name ∷ unknown (λ other. bytes_eq name other || g other) names)
    by true is old new = ap (λ b. if b then unknown f names else name ∷ unknown (λ other. bytes_eq name other || f other) names) is ∙ old
    by false is old new = ap (λ b. if b then unknown f names else name ∷ unknown (λ other. bytes_eq name other || f other) names) is ∙ ap (λ rest. name ∷ rest) new

-- one after the other
pub takes_then : (k0 : Places) (n0 : List (List ℕ)) (k1 : Places) (n1 : List (List ℕ)) (k2 : Places) (n2 : List (List ℕ)) (first second whole : List (List ℕ)) → whole ≡ first ++ second → Takes k0 n0 k1 n1 first → Takes k1 n1 k2 n2 second → Takes k0 n0 k2 n2 whole
takes_then k0 n0 k1 n1 k2 n2 first second whole is before after = λ tail.
    after tail ∙ (before (second ++ tail) ∙ ap (λ xs. n0 ++ unknown (knows k0) xs) (sym (append_assoc first second tail) ∙ ap (λ xs. xs ++ tail) (sym is)))

-- ---- the names of functions

pub function_push : (units : List CodeUnit) (unit : CodeUnit) (name : List ℕ) → is_function (units ++ unit ∷ []) name ≡ (is_function units name || bytes_eq unit.name name)
function_push [] unit name = or_none (bytes_eq unit.name name)
  where
    or_none : (b : Bool) → (b || false) ≡ (false || b)
    or_none true = refl
    or_none false = refl
function_push (x ∷ units) unit name = by (bytes_eq x.name name) (function_push units unit name)
  where
    by : (b : Bool) → is_function (units ++ unit ∷ []) name ≡ (is_function units name || bytes_eq unit.name name) → (b || is_function (units ++ unit ∷ []) name) ≡ ((b || is_function units name) || bytes_eq unit.name name)
    by true ih = refl
    by false ih = ih

some_or : (a : Option ℕ) (b : Bool) → is_some (option_or a (if b then Some 0 else None)) ≡ (is_some a || b)
some_or (Some x) b = refl
some_or None true = refl
some_or None false = refl

pub functions_more : (units : List CodeUnit) (old new : Places) (at : ℕ) (unit : CodeUnit) (text : List ℕ) → at < length units → unit ≡ get_or units at unit → text ≡ unit.name → ((name : List ℕ) → knows old name ≡ is_function (take at units) name) → ((name : List ℕ) → place_in new name ≡ option_or (place_in old name) (if bytes_eq text name then Some 0 else None)) → (name : List ℕ) → knows new name ≡ is_function (take (at + 1) units) name
functions_more units old new at unit text within is text_is are put name =
    let next : take (at + 1) units ≡ take at units ++ unit ∷ [] =
    take_more units at unit within ∙ ap (λ x. take at units ++ x ∷ []) (sym is) in
    ap (λ (o : Option ℕ). is_some o) (put name) ∙ (some_or (place_in old name) (bytes_eq text name)
    ∙ (ap (λ b. b || bytes_eq text name) (are name) ∙ (ap (λ t. is_function (take at units) name || bytes_eq t name) text_is
    ∙ sym (ap (λ us. is_function us name) next ∙ function_push (take at units) unit name))))

-- behind the last function all symbols came in
pub outside_end : (units : List CodeUnit) (known0 known : Places) (names0 names : List (List ℕ)) (at : ℕ) → names0 ≡ [] → ((name : List ℕ) → knows known0 name ≡ is_function units name) → length units ≤ at → Takes known0 names0 known names (symbols_named (take at units)) → names ≡ outside_names units
outside_end units known0 known names0 names at none are end takes =
    let whole : take at units ≡ units = take_all at units end in
    sym (append-nil names) ∙ (takes [] ∙ (ap (λ ns. ns ++ unknown (knows known0) (symbols_named (take at units) ++ [])) none
    ∙ (ap (λ xs. unknown (knows known0) xs) (append-nil (symbols_named (take at units)) ∙ ap (λ us. symbols_named us) whole)
    ∙ same_unknown (knows known0) (is_function units) are (symbols_named units))))

pub symbols_more : (units : List CodeUnit) (at : ℕ) (unit : CodeUnit) (lent : List CodeItem) → at < length units → unit ≡ get_or units at unit → lent ≡ unit.items → symbols_named (take (at + 1) units) ≡ symbols_named (take at units) ++ flat_map item_symbols lent
symbols_more units at unit lent within is lent_is =
    let of : CodeUnit → List (List ℕ) = λ u. flat_map item_symbols u.items in
    let next : take (at + 1) units ≡ take at units ++ unit ∷ [] =
    take_more units at unit within ∙ ap (λ x. take at units ++ x ∷ []) (sym is) in
    ap (λ us. flat_map of us) next ∙ (sym (flat_map_more of [] (take at units) unit) ∙ ap (λ items. flat_map of (take at units) ++ flat_map item_symbols items) (sym lent_is))
