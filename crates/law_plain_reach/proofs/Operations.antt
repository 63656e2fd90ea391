-- Reload refuses none of the plain forms that set a register to an operation on two operands, where the
-- first alternative of each asks for registers.
use Rattle.std.proofs.Common.{◌≡◌, ℕ, ◌<◌, false, List, Some, Ok}
use Rattle.std.specs.Prelude.{slice_get}
use Rattle.rtx_tree.specs.declared.code.Code.{Code}
use Rattle.rtx_tree.specs.declared.code.Mode.{Mode}
use Rattle.rtx_tree.specs.declared.tree.Rtx.{Rtx}
use Rattle.assign.specs.declared.home.HomeOf.{HomeOf}
use Rattle.assign.specs.declared.places.Layout.{Layout}
use Rattle.md_match.specs.Pattern.{Ops, role_of}
use Rattle.md_match.specs.declared.role.Role.TheVariants.{Itself}
use Rattle.md_text.specs.declared.constraint.Member.{Member}
use Rattle.md_forms.specs.declared.form.Entry.{Entry}
use Rattle.md_forms.specs.declared.form.Form.{Form}
use Rattle.md_forms.specs.Checks.{alternatives}
use Rattle.reload_choice.specs.declared.given.Given.{Given}
use Rattle.reload_choice.specs.Choice.{NoneReaches}
use Rattle.plain_forms.specs.Parts as letters
use Rattle.plain_forms.specs.Forms.{plain_forms}
use Rattle.law_plain_standing.proofs.Sorts.{Sort}
use Rattle.law_plain_standing.proofs.Asked.{TakeRegisters}
use Rattle.law_plain_homed.proofs.Nodes.{is_home_code}
use Rattle.law_plain_homed.proofs.Leaves.{HasSort}
use Rattle.law_plain_reach.proofs.Constraints.{AsksIn}
use Rattle.law_plain_reach.proofs.Enabled.{enabled, form_is, below}
use Rattle.law_plain_reach.proofs.Reached.{never_refused}
use Rattle.law_plain_reach.proofs.Refused as refused

module _ (form : ℕ) (e : Entry) (f : Form) (at : slice_get plain_forms form ≡ Some e) (says : e.form ≡ Ok f) (some : 0 < alternatives f.constraints)
    (ms ns : List Member) (take_1 : TakeRegisters plain_forms ms) (take_2 : TakeRegisters plain_forms ns) (asks_0 : AsksIn plain_forms f.constraints 0 0 letters.r) (asks_1 : AsksIn plain_forms f.constraints 0 1 ms) (asks_2 : AsksIn plain_forms f.constraints 0 2 ns)
    (p : List ℕ) (c : Code) (m : Mode) (q : List ℕ) (n : Mode) (r : List ℕ) (o : Mode) (role : role_of c ≡ Itself) (other : is_home_code c ≡ false)
    (homes : List HomeOf) (layout : Layout) (a b d : Rtx) (s t u : Sort) (of_a : HasSort homes layout a s) (of_b : HasSort homes layout b t) (of_d : HasSort homes layout d u) (found : Ops) where
  -- what is known of its operands
  abbrev pub AreFound : Type 0
  AreFound =
      refused.AreFound plain_forms form f (form_is plain_forms form e f at says) (enabled form 0) (below plain_forms form e f at says 0 some) ms ns take_1 take_2 asks_0 asks_1 asks_2 p c m q n r o role other homes layout a b d s t u of_a of_b
      of_d found

  -- what is chosen from
  abbrev pub given : Given
  given =
      refused.given plain_forms form f (form_is plain_forms form e f at says) (enabled form 0) (below plain_forms form e f at says 0 some) ms ns take_1 take_2 asks_0 asks_1 asks_2 p c m q n r o role other homes layout a b d s t u of_a of_b of_d
      found

  pub never : AreFound → NoneReaches plain_forms form given → ⊥
  never i =
      never_refused plain_forms form given
      (refused.reaches plain_forms form f (form_is plain_forms form e f at says) (enabled form 0) (below plain_forms form e f at says 0 some) ms ns take_1 take_2 asks_0 asks_1 asks_2 p c m q n r o role other homes layout a b d s t u of_a of_b
      of_d found i)
