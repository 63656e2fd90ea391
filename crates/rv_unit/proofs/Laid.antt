-- A layout of a function's items, and the words by it.
use Rattle.std.proofs.Common.{◌≡◌, ℕ, suc, ◌+◌, ◌*◌, ◌≤◌, Bool, List, [], ◌∷◌, ◌++◌, length, map, Some, option_map, refl, sym, ◌∙◌, ap, subst, arith}
use Rattle.std.specs.Prelude.{pos, ◌-ℤ◌, slice_get, slice_index}
use Rattle.std.proofs.lemmas.Option.{slice_get-map, slice_get_within, get_or_from_slice_get}
use Rattle.std.proofs.lemmas.List.{length-map}
use Rattle.long_branches.specs.Branches.{ArePlaces, IsLeast, is_long, place}
use Rattle.long_branches.specs.declared.piece.Piece.{Piece}
use Rattle.name_places.specs.declared.places.Places.{Places}
use Rattle.rtx_tree.specs.declared.machine.SymbolAt.{SymbolAt}
use Rattle.rv_text.specs.declared.line.Line.{Line}
use Rattle.rv_text.specs.declared.line.CodeItem.{CodeItem}
use Rattle.rv_text.specs.declared.line.CodeItem.TheVariants.{Label, Code}
use Rattle.rv_unit.specs.Names.{spelling_named}
use Rattle.rv_unit.specs.Layout.{lead_of, leads_to, item_piece, pieces_of, IsLayout}
use Rattle.rv_unit.specs.Words.{Placed, further, line_bases, item_bases, bases_from, address_in}
use Rattle.rv_unit.specs.machine.Labels.{AreLabels, lead_in, piece_in, further_in, bases_in, bases_in_from}
use Rattle.rv_unit.specs.declared.layout.Layout.{Layout}
use Rattle.rv_unit.proofs.Lists.{map_same}
use Rattle.rv_unit.proofs.Found.{lead_same, lead_within}

pub laid : (items : List CodeItem) (labels : Places) (leads : List ℕ) (pieces a b : List Piece) (longs flags kept : List Bool) (places : List ℕ) (size : ℕ) → AreLabels items labels → leads ≡ map (lead_in labels) items → pieces ≡ map (piece_in labels) items → a ≡ pieces → IsLeast a longs → b ≡ pieces → flags ≡ longs → ArePlaces b flags places → kept ≡ longs → slice_get places (length items) ≡ Some size → IsLayout items (record { leads = leads; longs = kept; places = places; size = size })
laid items labels leads pieces a b longs flags kept places size labelled leads_are pieces_are a_is least b_is flags_are placed kept_is at_end =
    let lead = lead_same items labels labelled in
    let all : pieces ≡ pieces_of items = pieces_are ∙ map_same (piece_in labels) (λ item. item_piece item (lead_of items item)) (λ item. ap (item_piece item) (lead item)) items in
    let least_is : IsLeast (pieces_of items) kept = subst (λ ps. IsLeast ps kept) (a_is ∙ all) (subst (λ (ls : List Bool). IsLeast a ls) (sym kept_is) least) in
    let are : ArePlaces (pieces_of items) kept places = subst (λ ps. ArePlaces ps kept places) (b_is ∙ all) (subst (λ (ls : List Bool). ArePlaces b ls places) (flags_are ∙ sym kept_is) placed) in
    let fits : length items ≤ length (pieces_of items) = omega (arith, length-map items (λ item. item_piece item (lead_of items item))) in
    record {
      leads = leads_are ∙ map_same (lead_in labels) (lead_of items) lead items;
      longs = least_is;
      places = are;
      size = sym (get_or_from_slice_get places (length items) size 0 at_end) ∙ are.are (length items) fits;
    }

abbrev pub unit_of : List CodeItem → Layout → List SymbolAt → Placed
unit_of items layout symbols =
    record { items = items; longs = layout.longs; symbols = symbols }

module _ (items : List CodeItem) (layout : Layout) (symbols : List SymbolAt) (is : IsLayout items layout) where
  index : (n : ℕ) → n ≤ length items → slice_index layout.places n ≡ place (pieces_of items) layout.longs n
  index n within =
      is.places.are n (omega (arith, within, length-map items (λ item. item_piece item (lead_of items item))))

  lead : (at : ℕ) (line : Line) → slice_get items at ≡ Some (Code line) → slice_index layout.leads at ≡ leads_to items line.target
  lead at line here =
      let found : slice_get layout.leads at ≡ Some (leads_to items line.target) =
      ap (λ (xs : List ℕ). slice_get xs at) is.leads ∙ (slice_get-map (lead_of items) items at ∙ ap (option_map (lead_of items)) here) in
      get_or_from_slice_get layout.leads at (leads_to items line.target) 0 found

  same_further : (at : ℕ) (line : Line) → slice_get items at ≡ Some (Code line) → further_in layout at ≡ further (unit_of items layout symbols) at line.target
  same_further at line here =
      let within = slice_get_within items at (Code line) here in
      let to = ap (slice_index layout.places) (lead at line here) ∙ index (leads_to items line.target) (lead_within line.target items) in
      ap (λ n. pos (4 * n) -ℤ pos (4 * slice_index layout.places at)) to ∙ ap (λ n. pos (4 * place (pieces_of items) layout.longs (leads_to items line.target)) -ℤ pos (4 * n)) (index at (omega arith))

  same_bases : (at : ℕ) (item : CodeItem) → slice_get items at ≡ Some item → bases_in layout symbols at item ≡ item_bases (unit_of items layout symbols) at item
  same_bases at (Label function uid) here = refl
  same_bases at (Code line) here =
      ap (λ z. line_bases (spelling_named line.name) line (is_long layout.longs at) z (address_in symbols line.target)) (same_further at line here)

  pub same_from : (rest : List CodeItem) (at : ℕ) → ((k : ℕ) → slice_get rest k ≡ slice_get items (at + k)) → bases_in_from layout symbols at rest ≡ bases_from (unit_of items layout symbols) at rest
  same_from [] at stands = refl
  same_from (item ∷ rest) at stands =
      let first : at ≡ at + 0 = omega arith in
      let here : slice_get items at ≡ Some item = ap (slice_get items) first ∙ sym (stands 0) in
      let step : (k : ℕ) → at + suc k ≡ at + 1 + k = λ k. omega arith in
      ap (λ bs. bs ++ bases_in_from layout symbols (at + 1) rest) (same_bases at item here) ∙ ap (λ bs. item_bases (unit_of items layout symbols) at item ++ bs) (same_from rest (at + 1) (λ k. stands (suc k) ∙ ap (slice_get items) (step k)))
