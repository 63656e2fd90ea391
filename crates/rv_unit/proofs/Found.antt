-- Labels and symbols that are found, with one more.
use Rattle.std.proofs.Common.{◌≡◌, ℕ, suc, ◌+◌, ◌<◌, ◌≤◌, Bool, true, false, if◌then◌else◌, List, [], ◌∷◌, ◌++◌, length, get_or, take, Option, Some, None, option_map, refl, sym, ◌∙◌, ap, arith, add-one, bytes_eq}
use Rattle.std.specs.Option.{option_or}
use Rattle.std.specs.Prelude.{unwrap_or}
use Rattle.std.proofs.lemmas.List.{take_more, length-take-le}
use Rattle.name_places.specs.Places.{place_in}
use Rattle.name_places.specs.declared.places.Places.{Places}
use Rattle.rtx_tree.specs.declared.machine.SymbolAt.{SymbolAt}
use Rattle.run_memory.specs.Symbols.{symbol_address}
use Rattle.rv_text.specs.declared.line.CodeItem.{CodeItem}
use Rattle.rv_text.specs.declared.line.CodeItem.TheVariants.{Label, Code}
use Rattle.rv_line.specs.Run.{is_label}
use Rattle.rv_unit.specs.Layout.{label_at, leads_to, lead_of}
use Rattle.rv_unit.specs.machine.Labels.{AreLabels, AreSymbols, lead_in}

-- ---- labels

counted : (a : Option ℕ) (b : Bool) (n : ℕ) → option_map (λ k. k + 1) (option_or a (if b then Some n else None)) ≡ option_or (option_map (λ k. k + 1) a) (if b then Some (suc n) else None)
counted (Some k) b n = refl
counted None true n = ap Some (add-one n)
counted None false n = refl

label_push : (target : List ℕ) (xs : List CodeItem) (x : CodeItem) → label_at target (xs ++ x ∷ []) ≡ option_or (label_at target xs) (if is_label target x then Some (length xs) else None)
label_push target [] x = refl
label_push target (y ∷ xs) x = by (label_push target xs x) (is_label target y)
  where
    by : label_at target (xs ++ x ∷ []) ≡ option_or (label_at target xs) (if is_label target x then Some (length xs) else None) → (b : Bool) → (if b then Some 0 else option_map (λ k. k + 1) (label_at target (xs ++ x ∷ []))) ≡ option_or (if b then Some 0 else option_map (λ k. k + 1) (label_at target xs)) (if is_label target x then Some (suc (length xs)) else None)
    by ih true = refl
    by ih false = ap (option_map (λ k. k + 1)) ih ∙ counted (label_at target xs) (is_label target x) (length xs)

pub labels_more : (items : List CodeItem) (old new : Places) (at : ℕ) (item : CodeItem) → at < length items → item ≡ get_or items at item → AreLabels (take at items) old → ((target : List ℕ) → place_in new target ≡ option_or (place_in old target) (if is_label target item then Some at else None)) → AreLabels (take (at + 1) items) new
labels_more items old new at item within is are put = λ target.
    let next : take (at + 1) items ≡ take at items ++ item ∷ [] =
    take_more items at item within ∙ ap (λ x. take at items ++ x ∷ []) (sym is) in
    let size : length (take at items) ≡ at = length-take-le at items (omega arith) in
    let o : Option ℕ = if is_label target item then Some at else None in
    put target ∙ (ap (λ a. option_or a o) (are target)
    ∙ sym (ap (label_at target) next ∙ (label_push target (take at items) item ∙ ap (λ n. option_or (label_at target (take at items)) (if is_label target item then Some n else None)) size)))

pub lead_same : (items : List CodeItem) (labels : Places) → AreLabels items labels → (item : CodeItem) → lead_in labels item ≡ lead_of items item
lead_same items labels are (Label function uid) = refl
lead_same items labels are (Code line) = ap (λ o. unwrap_or o 0) (are line.target)

pub lead_within : (target : List ℕ) (items : List CodeItem) → leads_to items target ≤ length items
lead_within target [] = omega arith
lead_within target (item ∷ items) = by (lead_within target items) (is_label target item)
  where
    more : (o : Option ℕ) → unwrap_or o 0 ≤ length items → unwrap_or (option_map (λ k. k + 1) o) 0 ≤ suc (length items)
    more None h = omega arith
    more (Some k) h = omega (arith, h)

    by : leads_to items target ≤ length items → (b : Bool) → unwrap_or (if b then Some 0 else option_map (λ k. k + 1) (label_at target items)) 0 ≤ suc (length items)
    by ih true = omega arith
    by ih false = more (label_at target items) ih

-- ---- symbols

symbol_push : (name : List ℕ) (xs : List SymbolAt) (x : SymbolAt) → symbol_address (xs ++ x ∷ []) name ≡ option_or (symbol_address xs name) (if bytes_eq x.name name then Some x.address else None)
symbol_push name [] x = refl
symbol_push name (y ∷ xs) x = by (symbol_push name xs x) (bytes_eq y.name name)
  where
    by : symbol_address (xs ++ x ∷ []) name ≡ option_or (symbol_address xs name) (if bytes_eq x.name name then Some x.address else None) → (b : Bool) → (if b then Some y.address else symbol_address (xs ++ x ∷ []) name) ≡ option_or (if b then Some y.address else symbol_address xs name) (if bytes_eq x.name name then Some x.address else None)
    by ih true = refl
    by ih false = ih

pub symbols_more : (symbols lent : List SymbolAt) (old new : Places) (at : ℕ) (symbol : SymbolAt) (name : List ℕ) → lent ≡ symbols → at < length lent → symbol ≡ get_or lent at symbol → name ≡ symbol.name → AreSymbols (take at symbols) old → ((other : List ℕ) → place_in new other ≡ option_or (place_in old other) (if bytes_eq name other then Some symbol.address else None)) → AreSymbols (take (at + 1) symbols) new
symbols_more symbols lent old new at symbol name lent_is within is name_is are put = λ other.
    let here : symbol ≡ get_or symbols at symbol = is ∙ ap (λ (xs : List SymbolAt). get_or xs at symbol) lent_is in
    let inside : at < length symbols = omega (arith, within, ap (λ (xs : List SymbolAt). length xs) lent_is) in
    let next : take (at + 1) symbols ≡ take at symbols ++ symbol ∷ [] =
    take_more symbols at symbol inside ∙ ap (λ x. take at symbols ++ x ∷ []) (sym here) in
    put other ∙ (ap (λ n. option_or (place_in old other) (if bytes_eq n other then Some symbol.address else None)) name_is
    ∙ (ap (λ a. option_or a (if bytes_eq symbol.name other then Some symbol.address else None)) (are other)
    ∙ sym (ap (λ xs. symbol_address xs other) next ∙ symbol_push other (take at symbols) symbol)))
