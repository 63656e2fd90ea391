-- Labels and barriers of a function that keeps the rules define nothing.
use Rattle.std.proofs.Common.{◌≡◌, ℕ, true, false, List, [], refl, sym, ap, ◌∙◌}
use Rattle.std.specs.List.{list_any}
use Rattle.std.proofs.lemmas.Bool.{false≢true}
use Rattle.rtx_tree.specs.Code.{class_of_code}
use Rattle.rtx_tree.specs.declared.code.Code.{Code}
use Rattle.rtx_tree.specs.declared.code.Code.TheVariants.{Parallel}
use Rattle.rtx_tree.specs.declared.function.Insn.{Insn}
use Rattle.rtx_tree.specs.declared.function.Function.{Function}
use Rattle.rtx_tree.specs.declared.function.Kind.{Kind}
use Rattle.rtx_tree.specs.declared.function.Kind.TheVariants as kind
use Rattle.rtx_tree.specs.declared.tree.Rtx.{Rtx, out-roll-Rtx}
use Rattle.rtx_tree.specs.declared.tree.Rtx.TheOpen.{Rtx-F}
use Rattle.rtx_tree.specs.Patterns.{nothing_rtx}
use Rattle.rtx_tree.specs.Tree.{head_of, kids_of}
use Rattle.rtl_func.specs.declared.rules.InsnRule.TheVariants.{KindsAgree}
use Rattle.rtl_func.specs.Kinds.{is_nothing, is_nothing_by, kinds_agree}
use Rattle.rtl_func.specs.Uids.{is_ruled_kind}
use Rattle.rtl_step.specs.Step.{is_mark}
use Rattle.reg_uses.specs.Effects.{effect_defines, effects_by, pattern_defines}
use Rattle.law_window_lines.specs.ForLines.{MarksAreEmpty}
use Rattle.law_rules.specs.Admitted.{StandsAt, IsWellFormed}

-- ---- (parallel [])

no_effects : (reg : ℕ) (c : Code) (parts : List Rtx) (x : Rtx) → is_nothing_by (class_of_code c) parts ≡ true →
    list_any (effect_defines reg) (effects_by c parts x) ≡ false
no_effects reg Parallel [] x is = refl
no_effects reg _ _ x is = absurd (false≢true is)

nothing_defines : (reg : ℕ) (x : Rtx) → is_nothing x ≡ true → pattern_defines reg x ≡ false
nothing_defines reg x is = no_effects reg (head_of x).code (kids_of x) x is

nothing_is : is_nothing nothing_rtx ≡ true
nothing_is = ap (λ (o : Rtx-F Rtx). is_nothing_by (class_of_code o.code) o.kids) (out-roll-Rtx _)

-- ---- kinds

barrier_defines : (f : Function) → IsWellFormed f → (place reg : ℕ) (i : Insn) → StandsAt f.insns place i → i.kind ≡ kind.Barrier →
    pattern_defines reg i.pattern ≡ false
barrier_defines f is place reg i at barrier =
    ap (pattern_defines reg) (is.barriers place i at barrier)
    ∙ nothing_defines reg nothing_rtx nothing_is

label_defines : (f : Function) → IsWellFormed f → (place reg : ℕ) (i : Insn) → StandsAt f.insns place i → i.kind ≡ kind.Label →
    pattern_defines reg i.pattern ≡ false
label_defines f is place reg i at label =
    nothing_defines reg i.pattern (sym (ap (λ k. kinds_agree k i.pattern) label) ∙ is.keep KindsAgree place i at (ap is_ruled_kind label))

-- labels and barriers define nothing
pub marks_are_empty : (f : Function) → IsWellFormed f → MarksAreEmpty f
marks_are_empty f is place reg i at mark = by i.kind refl mark
  where
    by : (k : Kind) → i.kind ≡ k → is_mark k ≡ true → pattern_defines reg i.pattern ≡ false
    by kind.Label same here = label_defines f is place reg i at same
    by kind.Barrier same here = barrier_defines f is place reg i at same
    by _ same here = absurd (false≢true here)
