-- What the private functions have done.
use Rattle.std.specs.Prelude.{◌≡◌, ℕ, ◌+◌, ◌-◌, ◌<◌, List, length, Option, Some, None, Result, Ok, Err}
use Rattle.rtx_tree.specs.declared.tree.Rtx.{Rtx}
use Rattle.rtx_tree.specs.declared.function.Function.{Function}
use Rattle.c_eval.specs.declared.facts.Facts.{Facts}
use Rattle.md_forms.specs.declared.form.Entry.{Entry}
use Rattle.pass_refusal.specs.Outcome.{RefusesWith}
use Rattle.pass_refusal.specs.declared.refusal.PassRefusal.{PassRefusal}
use Rattle.peep2.specs.declared.form.Rewrite.{Rewrite}
use Rattle.peep2.specs.Rewrite.{IsRun, Makes, Rewrites, IsRewrite, IsLeft}
use Rattle.peep2.specs.Cover.{Answer, CoverFrom}

-- ---- at a place

-- the place behind so many instructions of one block, or that so many do not stand there
pub record RunsTo (f : Function) (place count end : ℕ) : Type 0 where
  pub run : IsRun f place count
  pub end_is : end ≡ place + count

abbrev pub RunTold : Function → ℕ → ℕ → Option ℕ → Type 0
RunTold f place count None = IsRun f place count → ⊥
RunTold f place count (Some end) = RunsTo f place count end

-- what a form makes of instructions, or that it makes nothing of them
abbrev pub MakesTold : List Entry → Facts → List Rtx → ℕ → Option (List Rtx) → Type 0
MakesTold forms facts insns form None =
    (sequence : List Rtx) → Makes forms facts insns form sequence → ⊥
MakesTold forms facts insns form (Some sequence) = Makes forms facts insns form sequence

-- what it makes of so many at a place, or that it does not rewrite them
abbrev pub RewritesTold : List Entry → Function → ℕ → ℕ → ℕ → Option (List Rtx) → Type 0
RewritesTold forms f place count form None =
    (sequence : List Rtx) → Rewrites forms f place count form sequence → ⊥
RewritesTold forms f place count form (Some sequence) =
    Rewrites forms f place count form sequence

-- what it makes of a window there, or that it rewrites none
pub record IsMade (forms : List Entry) (f : Function) (place form : ℕ) (r : Rewrite) : Type 0 where
  pub form_is : r.form ≡ form
  pub end_is : r.end ≡ place + r.count
  pub rewrites : Rewrites forms f place r.count form r.sequence

abbrev pub FormTold : List Entry → Function → ℕ → ℕ → Option Rewrite → Type 0
FormTold forms f place form None =
    (count : ℕ) (sequence : List Rtx) → Rewrites forms f place count form sequence → ⊥
FormTold forms f place form (Some r) = IsMade forms f place form r

-- what the first form that does makes of one, or that none does
pub record IsFound (forms : List Entry) (f : Function) (place : ℕ) (r : Rewrite) : Type 0 where
  pub end_is : r.end ≡ place + r.count
  pub is : IsRewrite forms f place r.count r.form r.sequence

abbrev pub FirstTold : List Entry → Function → ℕ → Option Rewrite → Type 0
FirstTold forms f place None = IsLeft forms f place
FirstTold forms f place (Some r) = IsFound forms f place r

-- ---- over a function

-- what one function comes to from a place on, another comes to from a place of its own
abbrev pub Reaches : List Entry → Function → ℕ → Function → ℕ → Type 0
Reaches forms f place g end =
    (answer : Answer) → CoverFrom forms g end answer → CoverFrom forms f place answer

-- a place was gone through, and another one is behind what stands there then: fewer instructions
-- stand behind than before
pub record PlaceReaches (forms : List Entry) (f : Function) (place : ℕ) (g : Function) (end : ℕ) : Type 0 where
  pub reaches : Reaches forms f place g end
  pub nearer : length g.insns - end < length f.insns - place

-- what was done at a place
abbrev pub PlaceCovers : List Entry → Function → ℕ → Function → Result ℕ PassRefusal → Type 0
PlaceCovers forms f place g (Ok end) = PlaceReaches forms f place g end
PlaceCovers forms f place g (Err e) = RefusesWith e (CoverFrom forms f place)
