-- A function has as many words as its pieces say, and so have functions together.
use Rattle.std.proofs.Common.{◌≡◌, ℕ, suc, ◌+◌, Bool, true, false, List, [], ◌∷◌, length, Option, Some, None, option_map, refl, sym, ◌∙◌, ap, arith, add-one, length-append}
use Rattle.std.specs.Prelude.{ℤ, slice_get}
use Rattle.std.proofs.lemmas.List.{length-map}
use Rattle.std.proofs.lemmas.Option.{slice_get-map}
use Rattle.long_branches.specs.Branches.{is_long, width, place}
use Rattle.rtx_tree.specs.declared.machine.SymbolAt.{SymbolAt}
use Rattle.rv_text.specs.declared.line.Line.{Line}
use Rattle.rv_text.specs.declared.line.CodeItem.{CodeItem}
use Rattle.rv_text.specs.declared.line.CodeItem.TheVariants.{Label, Code}
use Rattle.rv_word.specs.Word.{encode}
use Rattle.rv_word.specs.declared.spelling.Spelling.{Spelling}
use Rattle.rv_word.specs.declared.spelling.Spelling.TheVariants.{One, Near, Leap, Long, Far}
use Rattle.rv_unit.specs.Names.{spelling_named}
use Rattle.rv_unit.specs.Layout.{item_piece, lead_of, line_piece, pieces_of}
use Rattle.rv_unit.specs.Words.{Placed, address_in, bases_from, further, item_bases, line_bases, words_of}
use Rattle.rv_image.specs.Image.{size_of, sizes, words_with}
use Rattle.rv_image.specs.declared.image.CodeUnit.{CodeUnit}

line_fills : (spelling : Option Spelling) (line : Line) (to : ℕ) (long : Bool) (away : ℤ) (address : ℕ) → length (line_bases spelling line long away address) ≡ width (Some (line_piece spelling line to)) long
line_fills None line to long away address = refl
line_fills (Some (One op rd rs1 rs2 number)) line to long away address = refl
line_fills (Some (Near op rs1 rs2)) line to true away address = refl
line_fills (Some (Near op rs1 rs2)) line to false away address = refl
line_fills (Some Leap) line to long away address = refl
line_fills (Some Long) line to long away address = refl
line_fills (Some (Far op through)) line to long away address = refl

pub item_fills : (unit : Placed) (at : ℕ) (item : CodeItem) (to : ℕ) → length (item_bases unit at item) ≡ width (Some (item_piece item to)) (is_long unit.longs at)
item_fills unit at (Label function uid) to = refl
item_fills unit at (Code line) to =
    line_fills (spelling_named line.name) line to (is_long unit.longs at) (further unit at line.target) (address_in unit.symbols line.target)

module _ (unit : Placed) where
  pub fills_from : (rest : List CodeItem) (at : ℕ) → ((k : ℕ) → slice_get rest k ≡ slice_get unit.items (at + k)) → place (pieces_of unit.items) unit.longs at + length (bases_from unit at rest) ≡ place (pieces_of unit.items) unit.longs (at + length rest)
  fills_from [] at stands = let e : at ≡ at + 0 = omega arith in omega (arith, ap (place (pieces_of unit.items) unit.longs) e)
  fills_from (item ∷ rest) at stands =
      let first : at ≡ at + 0 = omega arith in
      let here : slice_get unit.items at ≡ Some item = ap (slice_get unit.items) first ∙ sym (stands 0) in
      let piece : slice_get (pieces_of unit.items) at ≡ Some (item_piece item (lead_of unit.items item)) =
      slice_get-map (λ x. item_piece x (lead_of unit.items x)) unit.items at ∙ ap (option_map (λ x. item_piece x (lead_of unit.items x))) here in
      let wide = ap (λ p. width p (is_long unit.longs at)) piece in
      let own = item_fills unit at item (lead_of unit.items item) in
      let step : (k : ℕ) → at + suc k ≡ at + 1 + k = λ k. omega arith in
      let left = fills_from rest (at + 1) (λ k. stands (suc k) ∙ ap (slice_get unit.items) (step k)) in
      let next = ap (place (pieces_of unit.items) unit.longs) (add-one at) in
      let end = ap (place (pieces_of unit.items) unit.longs) (step (length rest)) in
      let size = length-append (item_bases unit at item) (bases_from unit (at + 1) rest) in
      omega (arith, wide, own, left, next, end, size)

  -- a function's words
  pub words_fill : length (words_of unit) ≡ size_of unit.items unit.longs
  words_fill =
      let all = fills_from unit.items 0 (λ k. let e : k ≡ 0 + k = omega arith in ap (slice_get unit.items) e) in
      let e : 0 + length unit.items ≡ length unit.items = omega arith in
      let end = ap (place (pieces_of unit.items) unit.longs) e in
      length-map (bases_from unit 0 unit.items) encode ∙ omega (arith, all, end)

-- the words of all functions
pub image_fills : (symbols : List SymbolAt) (units : List CodeUnit) (sets : List (List Bool)) → length (words_with symbols units sets) ≡ sizes units sets
image_fills symbols [] sets = refl
image_fills symbols (unit ∷ units) [] = refl
image_fills symbols (unit ∷ units) (longs ∷ sets) =
    let placed : Placed = record { items = unit.items; longs = longs; symbols = symbols } in
    omega (arith, length-append (words_of placed) (words_with symbols units sets), words_fill placed, image_fills symbols units sets)
