-- What the private functions have done.
use Rattle.std.specs.Prelude.{◌≡◌, ℕ, ◌+◌, ◌<◌, List, [], ◌∷◌, ◌++◌, length, replicate, Option, Some, None, Result, Ok, Err}
use Rattle.rtx_tree.specs.declared.function.Function.{Function}
use Rattle.md_forms.specs.declared.form.Entry.{Entry}
use Rattle.law_insn_replaced.specs.pass_refusal.Outcome.{RefusesWith}
use Rattle.law_insn_replaced.specs.pass_refusal.declared.refusal.PassRefusal.{PassRefusal}
use Rattle.pass_name.specs.declared.pass.Pass.{Pass}
use Rattle.split.specs.Split.{Answer, SplitFrom}
use Rattle.rtx_tree.specs.Limit.{most_splits}

-- Of what instructions come to with some depths from a place on, behind them others: where others
-- come to an answer from the end on, all do.
abbrev pub Reaches : List Entry → Pass → List ℕ → Function → ℕ → Function → ℕ → Type 0
Reaches forms pass depths f place g end =
    (rest : List ℕ) (answer : Answer) → SplitFrom forms pass rest g end answer → SplitFrom forms pass (depths ++ rest) f place answer

-- whatever stands behind, all come to a refusal
abbrev pub Stops : List Entry → Pass → List ℕ → Function → ℕ → PassRefusal → Type 0
Stops forms pass depths f place e = RefusesWith e (λ (answer : Answer). (rest : List ℕ) → SplitFrom forms pass (depths ++ rest) f place answer)

-- as many instructions stand behind as before
abbrev pub SameBehind : Function → ℕ → Function → ℕ → Type 0
SameBehind f behind g end = length g.insns + behind ≡ length f.insns + end

-- a number of instructions stands in the place of the one at a place, which follow from one split
-- more
pub record PlaceReaches (forms : List Entry) (pass : Pass) (depth : ℕ) (f : Function) (place : ℕ) (g : Function) (made : ℕ) : Type 0 where
  pub reaches : (rest : List ℕ) (answer : Answer) →
      SplitFrom forms pass (replicate made (depth + 1) ++ rest) g place answer →
      SplitFrom forms pass (depth ∷ rest) f place answer
  pub behind : SameBehind f (place + 1) g (place + made)
  pub shallow : depth < most_splits

-- the instruction at a place stays
pub record PlaceStays (forms : List Entry) (pass : Pass) (depth : ℕ) (f : Function) (place : ℕ) (g : Function) : Type 0 where
  pub reaches : Reaches forms pass (depth ∷ []) f place g (place + 1)
  pub same : g ≡ f

-- what was done with an instruction of a depth
abbrev pub PlaceSplits : List Entry → Pass → ℕ → Function → ℕ → Function →
    Result (Option ℕ) PassRefusal → Type 0
PlaceSplits forms pass depth f place g (Ok (Some made)) =
    PlaceReaches forms pass depth f place g made
PlaceSplits forms pass depth f place g (Ok None) = PlaceStays forms pass depth f place g
PlaceSplits forms pass depth f place g (Err e) = Stops forms pass (depth ∷ []) f place e

-- what was done where a form was found for it
abbrev pub FoundSplits : List Entry → Pass → ℕ → Function → ℕ → Function →
    Result ℕ PassRefusal → Type 0
FoundSplits forms pass depth f place g (Ok made) = PlaceReaches forms pass depth f place g made
FoundSplits forms pass depth f place g (Err e) = Stops forms pass (depth ∷ []) f place e

pub record RunReaches (forms : List Entry) (pass : Pass) (count depth : ℕ) (f : Function) (place : ℕ) (g : Function) (end : ℕ) : Type 0 where
  pub reaches : Reaches forms pass (replicate count depth) f place g end
  pub behind : SameBehind f (place + count) g end

-- a number of instructions of one depth from a place on was split
abbrev pub RunSplits : List Entry → Pass → ℕ → ℕ → Function → ℕ → Function →
    Result ℕ PassRefusal → Type 0
RunSplits forms pass count depth f place g (Ok end) =
    RunReaches forms pass count depth f place g end
RunSplits forms pass count depth f place g (Err e) =
    Stops forms pass (replicate count depth) f place e
