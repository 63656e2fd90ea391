-- The assembly of an input does what its functions do.
use Rattle.std.proofs.Common.{◌≡◌, ◌≤◌, ℕ, zero, suc, List, Ok, Some, subst}
use Rattle.std.specs.Prelude.{slice_get}
use Rattle.rtx_tree.specs.declared.function.Function.{Function}
use Rattle.rv_text.specs.declared.line.CodeItem.{CodeItem}
use Rattle.pass_name.specs.declared.road.Road.{Road}
use Rattle.pass_name.specs.declared.road.Road.TheVariants.{Usual}
use Rattle.md_forms.specs.declared.form.Entry.{Entry}
use Rattle.func_input.specs.Input.{IsInput}
use Rattle.law_reading.proofs.law_rules.Kept.{each_admitted}
use Rattle.law_reading.proofs.law_rules.Ready.{input_well_formed}
use Rattle.law_reading.proofs.law_rules.Uids.{uids_distinct}
use Rattle.func_text.proofs.law_insn_replaced.Inputs.{input_sound}
use Rattle.func_text.specs.func_after.declared.compilation.Compilation.{Compilation}
use Rattle.func_text.specs.func_after.After.{AfterComes}
use Rattle.func_text.specs.func_after.Leads.{IsDescribed}
use Rattle.func_text.proofs.func_after.Keeping.{after_leads}
use Rattle.law_reading.proofs.Natural.{input_natural}
use Rattle.same_behaviour.specs.Same.{Same}
use Rattle.func_text.specs.declared.assembly.Assembly.{Assembly}
use Rattle.func_text.specs.declared.code.Coded.{Coded}
use Rattle.func_text.specs.Lines.{IsAssembly}
use Rattle.func_text.specs.Same.{AreSound, AreSame, DoesSame, AreSameFramed, DoesSameFramed}
use Rattle.func_text.specs.Code.{IsCoded}
use Rattle.func_text.proofs.Behaviour.{are_same, are_framed}
use Rattle.func_text.proofs.Laws.{are_parts}

-- ---- all

-- each function of an input is sound
pub input_are_sound : (bytes : List ℕ) (functions : List Function) → IsInput bytes functions → AreSound functions
input_are_sound bytes functions input index f at =
    input_sound f (input_well_formed bytes functions input index f at) (uids_distinct f (each_admitted functions input.admitted index f at))
    (input_natural bytes functions input index f at)

parts_are_framed : (forms : List Entry) (road : Road) (bytes : List ℕ) (functions : List Function) (a : Assembly) → IsDescribed forms →
    IsInput bytes functions →
    IsAssembly forms road 0 functions a → AreSameFramed forms road functions a.parts
parts_are_framed forms road bytes functions a described input assembly =
    are_framed forms road 0 functions a described (input_are_sound bytes functions input) assembly

-- the text does what the functions do
pub input_does_same : (forms : List Entry) (road : Road) (bytes : List ℕ) (functions : List Function) (a : Assembly) → IsDescribed forms →
    IsInput bytes functions →
    IsAssembly forms road 0 functions a → DoesSame functions a.text
input_does_same forms road bytes functions a described input assembly = record {
  items = a.parts;
  parts = are_parts forms road 0 functions a assembly;
  same = are_same forms road 0 functions a described (input_are_sound bytes functions input) assembly;
}

-- and does it in each frame that has the room at least of which the passes laid out its frame
pub input_does_framed : (forms : List Entry) (road : Road) (bytes : List ℕ) (functions : List Function) (a : Assembly) → IsDescribed forms →
    IsInput bytes functions →
    IsAssembly forms road 0 functions a → DoesSameFramed forms road functions a.text
input_does_framed forms road bytes functions a described input assembly = record {
  items = a.parts;
  parts = are_parts forms road 0 functions a assembly;
  same = parts_are_framed forms road bytes functions a described input assembly;
}

-- ---- the function at a place

-- what the passes make of a function, and the items that have its behaviour
record SameMade (forms : List Entry) (f : Function) (items : List CodeItem) : Type 0 where
  pub made : Compilation
  pub after : AfterComes forms Usual f (Ok made)
  pub same : Same made.layout.size f items

same_at : (forms : List Entry) (place : ℕ) (functions : List Function) (parts : List (List CodeItem)) (f : Function)
    (items : List CodeItem) →
    slice_get functions place ≡ Some f → slice_get parts place ≡ Some items → AreSameFramed forms Usual functions parts → SameMade forms f items
same_at forms place _ _ f items at at' AreSameFramed.none = absurd (let none : ⊥ = cc in none)
same_at forms zero _ _ f items at at' (AreSameFramed.function g m functions own others after same more) =
    let f_is : g ≡ f = cc in
    let items_are : own ≡ items = cc in
    subst (SameMade forms f) items_are (subst (λ (h : Function). SameMade forms h own) f_is
    (record { made = m; after = after; same = same }))
same_at forms (suc place) _ _ f items at at' (AreSameFramed.function g m functions own others after same more) =
    same_at forms place functions others f items at at' more

-- The code of a function of an input with a name has the behaviour of the function, in each frame that has the room at least of which the
-- passes laid out its frame; this room is no larger than a frame may be, and holds the locals.
pub coded_is_same : (forms : List Entry) (bytes name : List ℕ) (c : Coded) → IsDescribed forms → IsCoded forms bytes name c →
    (m : Compilation) × AfterComes forms Usual c.function (Ok m) × (m.layout.size ≤ 1048560) × (c.function.locals ≤ m.layout.size) ×
    Same m.layout.size c.function c.items
coded_is_same forms bytes name c described coded =
    let here = same_at forms coded.place coded.functions coded.assembly.parts c.function c.items coded.coded.function coded.coded.items
    (parts_are_framed forms Usual bytes coded.functions coded.assembly described coded.input coded.is_assembly) in
    let leads = after_leads forms Usual c.function here.made described
    (input_are_sound bytes coded.functions coded.input coded.place c.function coded.coded.function) here.after in
    (here.made, here.after, leads.small, leads.holds, here.same)
