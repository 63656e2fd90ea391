-- The words of an image do what the functions do.
use Rattle.std.proofs.Common.{◌≡◌, ◌+◌, ◌*◌, ℕ, zero, suc, Bool, List, [], ◌∷◌, Some, refl, ◌∙◌, ap, subst}
use Rattle.std.specs.Prelude.{slice_get}
use Rattle.rtx_tree.specs.declared.function.Function.{Function}
use Rattle.rtx_tree.specs.declared.machine.SymbolAt.{SymbolAt}
use Rattle.rv_text.specs.declared.line.CodeItem.{CodeItem}
use Rattle.rv_image.specs.Image.{AreLeast, size_of, entries_from, first_entry, IsImage}
use Rattle.rv_image.specs.declared.image.CodeUnit.{CodeUnit}
use Rattle.rv_image.specs.declared.image.Image.{Image}
use Rattle.law_image.proofs.Functions.{functions_do}
use Rattle.pass_name.specs.declared.road.Road.TheVariants.{Usual}
use Rattle.md_forms.specs.declared.form.Entry.{Entry}
use Rattle.law_assembly.specs.func_text.Same.{AreSame, HasBehaviour, none, function}
use Rattle.law_assembly.specs.func_text.func_after.Leads.{IsDescribed}
use Rattle.law_assembly.proofs.func_text.Behaviour.{are_same}
use Rattle.law_assembly.proofs.Same.{input_are_sound}
use Rattle.func_image.specs.Image.{units_of, TellsImage}
use Rattle.func_image.specs.DoWords.{HasWords, DoesInWords}

abbrev unit_of : List ℕ → List CodeItem → CodeUnit
unit_of name items = record { name = name; items = items }

abbrev symbol_at : List ℕ → ℕ → SymbolAt
symbol_at name address = record { name = name; address = address }

-- the function at a place, with its lines
record Found (functions : List Function) (parts : List (List CodeItem)) (at : ℕ) (f : Function) : Type 0 where
  pub items : List CodeItem
  pub items_are : slice_get parts at ≡ Some items
  pub unit_is : slice_get (units_of functions parts) at ≡ Some (unit_of f.name items)
  pub has : HasBehaviour f items

found_at : (functions : List Function) (parts : List (List CodeItem)) (at : ℕ) (f : Function) → AreSame functions parts → slice_get functions at ≡ Some f → Found functions parts at f
found_at [] [] at f none there = absurd (let no : ⊥ = cc in no)
found_at [] (own ∷ parts) at f same there = elim same [ ]
found_at (g ∷ functions) [] at f same there = elim same [ ]
found_at (g ∷ functions) (own ∷ parts) zero f (function _ _ _ _ has left) there =
    let same : g ≡ f = cc in
    record { items = own; items_are = refl; unit_is = ap (λ (h : Function). Some (unit_of h.name own)) same; has = subst (λ h. HasBehaviour h own) same has }
found_at (g ∷ functions) (own ∷ parts) (suc at) f (function _ _ _ _ has left) there =
    let rest = found_at functions parts at f left there in
    record { items = rest.items; items_are = rest.items_are; unit_is = rest.unit_is; has = rest.has }

-- its entry
entry_at : (units : List CodeUnit) (sets : List (List Bool)) (address at : ℕ) (unit : CodeUnit) → AreLeast units sets → slice_get units at ≡ Some unit → (place : ℕ) × (slice_get (entries_from address units sets) at ≡ Some (symbol_at unit.name place))
entry_at [] [] address at unit least there = absurd (let no : ⊥ = cc in no)
entry_at [] (x ∷ sets) address at unit least there = absurd least
entry_at (u ∷ units) [] address at unit least there = absurd least
entry_at (u ∷ units) (x ∷ sets) address zero unit least there =
    let same : u ≡ unit = cc in (address, ap (λ (v : CodeUnit). Some (symbol_at v.name address)) same)
entry_at (u ∷ units) (x ∷ sets) address (suc at) unit least there = entry_at units sets (address + 4 * size_of u.items x) at unit least.1 there

has_words : (functions : List Function) (parts : List (List CodeItem)) (image : Image) → IsImage (units_of functions parts) image → AreSame functions parts →
    (at : ℕ) (f : Function) → slice_get functions at ≡ Some f → HasWords f parts image at
has_words functions parts image is same at f there =
    let own = found_at functions parts at f same there in
    let unit : CodeUnit = unit_of f.name own.items in
    let entry = entry_at (units_of functions parts) is.sets first_entry at unit is.are_least own.unit_is in
    let symbol : SymbolAt = symbol_at f.name entry.0 in
    let entry_is : slice_get image.entries at ≡ Some symbol = ap (λ (es : List SymbolAt). slice_get es at) is.entries ∙ entry.1 in
    record {
      items = own.items;
      items_are = own.items_are;
      address = entry.0;
      entry = entry_is;
      size = own.has.size;
      small = own.has.small;
      same = functions_do (units_of functions parts) image is at unit symbol own.unit_is entry_is own.has.size f own.has.same;
    }

-- by the forms of a description the text of the image of an input does what its functions do
pub does_in_words : (forms : List Entry) (bytes text : List ℕ) → IsDescribed forms → (told : TellsImage forms bytes text) → DoesInWords told.functions text
does_in_words forms bytes text described told = record {
  parts = told.assembly.parts;
  image = told.image;
  is_image = told.is_image;
  text_is = told.text_is;
  does = has_words told.functions told.assembly.parts told.image told.is_image
      (are_same forms Usual 0 told.functions told.assembly described (input_are_sound bytes told.functions told.input) told.is_assembly);
}
