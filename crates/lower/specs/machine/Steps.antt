-- What the private functions have done.
use Rattle.std.specs.Prelude.{◌≡◌, ℕ, ◌+◌, List, length, Result, Ok, Err}
use Rattle.rtx_tree.specs.declared.function.Function.{Function}
use Rattle.md_forms.specs.declared.form.Entry.{Entry}
use Rattle.pass_refusal.specs.Outcome.{RefusesWith}
use Rattle.pass_refusal.specs.declared.refusal.PassRefusal.{PassRefusal}
use Rattle.lower.specs.Lower.{Answer, LowerFrom}

-- what one function comes to from a place on, another comes to from a place of its own
abbrev pub Reaches : List Entry → Function → ℕ → Function → ℕ → Type 0
Reaches forms f place g end =
    (answer : Answer) → LowerFrom forms g end answer → LowerFrom forms f place answer

-- the instruction at a place is lowered, and another place is the one behind it: as many
-- instructions stand behind as before
pub record PlaceReaches (forms : List Entry) (f : Function) (place : ℕ) (g : Function) (end : ℕ) : Type 0 where
  pub reaches : Reaches forms f place g end
  pub behind : length g.insns + (place + 1) ≡ length f.insns + end

-- what was done with the instruction at a place
abbrev pub PlaceLowers : List Entry → Function → ℕ → Function → Result ℕ PassRefusal → Type 0
PlaceLowers forms f place g (Ok end) = PlaceReaches forms f place g end
PlaceLowers forms f place g (Err e) = RefusesWith e (LowerFrom forms f place)
