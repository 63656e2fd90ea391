-- A function of any instructions gets its frame by the plain forms, unless that is too large: GCC
-- Internals, "Function Entry and Exit" (prologue and epilogue) and "Pattern Ordering".
use Rattle.std.specs.Prelude.{◌≡◌, ◌⊎◌, ◌<◌, ℕ, Ok}
use Rattle.std.specs.List.{AllByRecursion}
use Rattle.rtx_tree.specs.Limit.{most_frame}
use Rattle.rtx_tree.specs.declared.function.Function.{Function}
use Rattle.rtx_tree.specs.declared.tree.Rtx.{Rtx}
use Rattle.c_eval.specs.declared.facts.Facts.{Facts}
use Rattle.md_match.specs.Pattern.{Ops}
use Rattle.md_desc.specs.Recog.{MatchesAt}
use Rattle.assign.specs.declared.places.SavedAt.{SavedAt}
use Rattle.assign.specs.declared.places.Layout.{Layout}
use Rattle.frame.specs.Framed.{Answer, FrameComes}
use Rattle.plain_forms.specs.Forms.{plain_forms}
use Rattle.law_plain_known.specs.Registers.{IsTrueRegister}

-- some plain form matches a pattern, by what is known
pub record IsTaken (facts : Facts) (x : Rtx) : Type 0 where
  pub form : ℕ
  pub operands : Ops
  pub matches : MatchesAt plain_forms facts x form operands

abbrev pub SavesRegister : SavedAt → Type 0
SavesRegister s = IsTrueRegister s.reg

-- the frame is too large, or is made
abbrev pub PlainFrames : Type 0
PlainFrames =
    (f : Function) (layout : Layout) (answer : Answer) → AllByRecursion SavesRegister layout.saved →
    FrameComes plain_forms f layout answer →
    (most_frame < layout.size) ⊎ ((g : Function) × (answer ≡ Ok g))
