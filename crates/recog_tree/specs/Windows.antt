-- The forms whose windows may begin with an instruction: GCC Internals, "RTL to RTL Peephole
-- Optimizers".
use Rattle.std.specs.Prelude.{ℕ, ◌≤◌, ◌<◌, List, ◌∷◌, length}
use Rattle.rtx_tree.specs.declared.tree.Rtx.{Rtx}
use Rattle.c_eval.specs.declared.facts.Facts.{Facts}
use Rattle.md_forms.specs.declared.form.Entry.{Entry}
use Rattle.md_recog.specs.Match.{Accepts}
use Rattle.md_recog.specs.declared.half.Half.TheVariants as half
use Rattle.md_recog.specs.Recog.{NoneBetween}

-- no form from one index on and before another matches a window that begins with an instruction
abbrev pub NoneBegins : List Entry → Rtx → ℕ → ℕ → Type 0
NoneBegins forms insn from to =
    (accepts : Accepts) (facts : Facts) (more : List Rtx) →
    NoneBetween accepts facts half.Window (insn ∷ more) forms from to

-- a form from an index on, before which none matches a window that begins with an instruction
pub record MayBegin (forms : List Entry) (insn : Rtx) (from form : ℕ) : Type 0 where
  pub behind : from ≤ form
  pub within : form < length forms
  pub first : NoneBegins forms insn from form
