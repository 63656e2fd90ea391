-- Functions with their layouts, and with the sets of these.
use Rattle.std.proofs.Common.{◌≡◌, ℕ, zero, suc, ◌+◌, ◌*◌, ◌<◌, ◌≤◌, Bool, List, [], ◌∷◌, ◌++◌, length, get_or, map, take, drop, refl, sym, ◌∙◌, ap, subst, arith, add-one, append_assoc}
use Rattle.std.proofs.Math.Seq.{drop-cons}
use Rattle.std.proofs.lemmas.List.{take_more}
use Rattle.rv_text.specs.declared.line.CodeItem.{CodeItem}
use Rattle.rtx_tree.specs.Limit.{most_image}
use Rattle.rtx_tree.specs.declared.machine.SymbolAt.{SymbolAt}
use Rattle.rv_unit.specs.Layout.{IsLayout}
use Rattle.rv_unit.specs.Words.{words_of}
use Rattle.rv_unit.specs.declared.layout.Layout.{Layout}
use Rattle.rv_image.specs.Image.{AreLeast, sizes, size_of, entries_from, words_with, first_entry, IsImage, IsTooLong}
use Rattle.rv_image.specs.machine.Steps.{AreLaid, words_in, entries_in, words_by, IsLaidImage}
use Rattle.rv_image.specs.declared.image.CodeUnit.{CodeUnit}
use Rattle.rv_image.specs.declared.image.Image.{Image}

pub same_length : (units : List CodeUnit) (layouts : List Layout) → AreLaid units layouts → length units ≡ length layouts
same_length [] [] laid = refl
same_length [] (layout ∷ layouts) laid = absurd laid
same_length (unit ∷ units) [] laid = absurd laid
same_length (unit ∷ units) (layout ∷ layouts) laid = ap suc (same_length units layouts laid.1)

pub laid_push : (units : List CodeUnit) (layouts : List Layout) (unit : CodeUnit) (layout : Layout) → AreLaid units layouts → IsLayout unit.items layout → AreLaid (units ++ unit ∷ []) (layouts ++ layout ∷ [])
laid_push [] [] unit layout laid is = (is, tt)
laid_push [] (y ∷ layouts) unit layout laid is = absurd laid
laid_push (x ∷ units) [] unit layout laid is = absurd laid
laid_push (x ∷ units) (y ∷ layouts) unit layout laid is = (laid.0, laid_push units layouts unit layout laid.1 is)

pub laid_at : (units : List CodeUnit) (layouts : List Layout) (unit : CodeUnit) (layout : Layout) (at : ℕ) → AreLaid units layouts → at < length units → IsLayout (get_or units at unit).items (get_or layouts at layout)
laid_at [] layouts unit layout at laid within = absurd (omega (arith, within))
laid_at (x ∷ units) [] unit layout at laid within = absurd laid
laid_at (x ∷ units) (y ∷ layouts) unit layout zero laid within = laid.0
laid_at (x ∷ units) (y ∷ layouts) unit layout (suc at) laid within = laid_at units layouts unit layout at laid.1 (omega (arith, within))

-- ---- the sets of the layouts

abbrev pub sets_of : List Layout → List (List Bool)
sets_of layouts = map (λ layout. layout.longs) layouts

pub least_all : (units : List CodeUnit) (layouts : List Layout) → AreLaid units layouts → AreLeast units (sets_of layouts)
least_all [] [] laid = tt
least_all [] (layout ∷ layouts) laid = absurd laid
least_all (unit ∷ units) [] laid = absurd laid
least_all (unit ∷ units) (layout ∷ layouts) laid = (laid.0.longs, least_all units layouts laid.1)

pub sizes_all : (units : List CodeUnit) (layouts : List Layout) → AreLaid units layouts → words_in layouts ≡ sizes units (sets_of layouts)
sizes_all [] [] laid = refl
sizes_all [] (layout ∷ layouts) laid = absurd laid
sizes_all (unit ∷ units) [] laid = absurd laid
sizes_all (unit ∷ units) (layout ∷ layouts) laid =
    ap (λ n. n + words_in layouts) laid.0.size ∙ ap (λ n. size_of unit.items layout.longs + n) (sizes_all units layouts laid.1)

pub entries_all : (units : List CodeUnit) (layouts : List Layout) (address : ℕ) → AreLaid units layouts → entries_in address units layouts ≡ entries_from address units (sets_of layouts)
entries_all [] [] address laid = refl
entries_all [] (layout ∷ layouts) address laid = absurd laid
entries_all (unit ∷ units) [] address laid = absurd laid
entries_all (unit ∷ units) (layout ∷ layouts) address laid =
    let next = address + 4 * size_of unit.items layout.longs in
    ap (λ n. record { name = unit.name; address = address } ∷ entries_in (address + 4 * n) units layouts) laid.0.size ∙ ap (λ rest. record { name = unit.name; address = address } ∷ rest) (entries_all units layouts next laid.1)

pub words_all : (symbols : List SymbolAt) (units : List CodeUnit) (layouts : List Layout) → AreLaid units layouts → words_by symbols units layouts ≡ words_with symbols units (sets_of layouts)
words_all symbols [] [] laid = refl
words_all symbols [] (layout ∷ layouts) laid = absurd laid
words_all symbols (unit ∷ units) [] laid = absurd laid
words_all symbols (unit ∷ units) (layout ∷ layouts) laid =
    ap (λ rest. words_of (record { items = unit.items; longs = layout.longs; symbols = symbols }) ++ rest) (words_all symbols units layouts laid.1)

-- ---- one function more

next : {X : Type 0} (xs : List X) (at : ℕ) (x : X) → at < length xs → x ≡ get_or xs at x → drop at xs ≡ x ∷ drop (at + 1) xs
next xs at x within is =
    drop-cons xs at x within ∙ (ap (λ y. y ∷ drop (suc at) xs) (sym is) ∙ ap (λ n. x ∷ drop n xs) (sym (add-one at)))

pub laid_more : (units : List CodeUnit) (layouts new : List Layout) (at : ℕ) (unit : CodeUnit) (layout : Layout) (lent : List CodeItem) → at < length units → unit ≡ get_or units at unit → lent ≡ unit.items → IsLayout lent layout → new ≡ layouts ++ layout ∷ [] → AreLaid (take at units) layouts → AreLaid (take (at + 1) units) new
laid_more units layouts new at unit layout lent within is lent_is laid new_is so_far =
    let P : List CodeUnit → Type 0 = λ us. AreLaid us new in
    let Q : List Layout → Type 0 = λ ls. AreLaid (take at units ++ unit ∷ []) ls in
    let R : List CodeItem → Type 0 = λ items. IsLayout items layout in
    subst P (sym (take_more units at unit within ∙ ap (λ x. take at units ++ x ∷ []) (sym is))) (subst Q (sym new_is) (laid_push (take at units) layouts unit layout so_far (subst R lent_is laid)))

pub entries_more : (units : List CodeUnit) (layouts : List Layout) (at address then_address : ℕ) (entries new whole : List SymbolAt) (unit : CodeUnit) (layout : Layout) (name : List ℕ) → AreLaid units layouts → at < length units → unit ≡ get_or units at unit → layout ≡ get_or layouts at layout → name ≡ unit.name → new ≡ entries ++ record { name = name; address = address } ∷ [] → then_address ≡ address + 4 * (get_or layouts at layout).size → entries ++ entries_in address (drop at units) (drop at layouts) ≡ whole →
    new ++ entries_in then_address (drop (at + 1) units) (drop (at + 1) layouts) ≡ whole
entries_more units layouts at address then_address entries new whole unit layout name laid within unit_is layout_is name_is new_is next_is so_far =
    let inside : at < length layouts = omega (arith, within, same_length units layouts laid) in
    let us = next units at unit within unit_is in
    let ls = next layouts at layout inside layout_is in
    let rest : ℕ → List SymbolAt = λ n. entries_in n (drop (at + 1) units) (drop (at + 1) layouts) in
    let entry : List ℕ → SymbolAt = λ text. record { name = text; address = address } in
    ap (λ es. es ++ rest then_address) new_is ∙ (append_assoc entries (entry name ∷ []) (rest then_address)
    ∙ (ap (λ text. entries ++ entry text ∷ rest then_address) name_is ∙ (ap (λ n. entries ++ entry unit.name ∷ rest n) (next_is ∙ ap (λ (l : Layout). address + 4 * l.size) (sym layout_is))
    ∙ (sym (ap (λ xs. entries ++ entries_in address xs (drop at layouts)) us ∙ ap (λ xs. entries ++ entries_in address (unit ∷ drop (at + 1) units) xs) ls) ∙ so_far))))

pub words_more : (symbols : List SymbolAt) (units : List CodeUnit) (layouts : List Layout) (at : ℕ) (words new whole : List ℕ) (unit : CodeUnit) (layout : Layout) (lent : List CodeItem) → AreLaid units layouts → at < length units → unit ≡ get_or units at unit → layout ≡ get_or layouts at layout → lent ≡ unit.items → new ≡ words ++ words_of (record { items = lent; longs = layout.longs; symbols = symbols }) → words ++ words_by symbols (drop at units) (drop at layouts) ≡ whole →
    new ++ words_by symbols (drop (at + 1) units) (drop (at + 1) layouts) ≡ whole
words_more symbols units layouts at words new whole unit layout lent laid within unit_is layout_is lent_is new_is so_far =
    let inside : at < length layouts = omega (arith, within, same_length units layouts laid) in
    let us = next units at unit within unit_is in
    let ls = next layouts at layout inside layout_is in
    let rest : List ℕ = words_by symbols (drop (at + 1) units) (drop (at + 1) layouts) in
    let own : List CodeItem → List ℕ = λ items. words_of (record { items = items; longs = layout.longs; symbols = symbols }) in
    ap (λ ws. ws ++ rest) new_is ∙ (append_assoc words (own lent) rest ∙ (ap (λ items. words ++ (own items ++ rest)) lent_is
    ∙ (sym (ap (λ xs. words ++ words_by symbols xs (drop at layouts)) us ∙ ap (λ xs. words ++ words_by symbols (unit ∷ drop (at + 1) units) xs) ls) ∙ so_far)))

pub laid_here : (units : List CodeUnit) (layouts : List Layout) (at : ℕ) (unit : CodeUnit) (layout : Layout) (lent : List CodeItem) → AreLaid units layouts → at < length units → unit ≡ get_or units at unit → layout ≡ get_or layouts at layout → lent ≡ unit.items → IsLayout lent layout
laid_here units layouts at unit layout lent laid within unit_is layout_is lent_is =
    let P : List CodeItem → Type 0 = λ items. IsLayout items layout in
    let Q : CodeUnit → Type 0 = λ u. IsLayout u.items layout in
    let R : Layout → Type 0 = λ l. IsLayout (get_or units at unit).items l in
    subst P (sym lent_is) (subst Q (sym unit_is) (subst R (sym layout_is) (laid_at units layouts unit layout at laid within)))

-- ---- the image

pub too_long : (units : List CodeUnit) (layouts lent : List Layout) (size : ℕ) → AreLaid units layouts → lent ≡ layouts → size ≡ 4 * words_in lent → most_image < size → IsTooLong units size
too_long units layouts lent size laid lent_is size_is more = record {
  sets = sets_of layouts;
  are_least = least_all units layouts laid;
  size_is = size_is ∙ ap (λ n. 4 * n) (ap words_in lent_is ∙ sizes_all units layouts laid);
  more = more;
}

pub image_is : (units : List CodeUnit) (layouts lent again : List Layout) (size : ℕ) (image : Image) → AreLaid units layouts → lent ≡ layouts → size ≡ 4 * words_in lent → size ≤ most_image → again ≡ layouts → IsLaidImage units again image → IsImage units image
image_is units layouts lent again size image laid lent_is size_is within again_is made =
    let bytes : size ≡ 4 * sizes units (sets_of layouts) =
    size_is ∙ ap (λ n. 4 * n) (ap words_in lent_is ∙ sizes_all units layouts laid) in
    record {
      sets = sets_of layouts;
      are_least = least_all units layouts laid;
      within = omega (arith, bytes, within);
      entries = made.entries ∙ (ap (λ ls. entries_in first_entry units ls) again_is ∙ entries_all units layouts first_entry laid);
      outside = made.outside;
      words = made.words ∙ (ap (λ ls. words_by (image.entries ++ image.outside) units ls) again_is ∙ words_all (image.entries ++ image.outside) units layouts laid);
    }
