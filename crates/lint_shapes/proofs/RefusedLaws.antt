-- What comes of one function.
use Rattle.std.proofs.Common.{◌≡◌, Bool, true, false, List, [], ◌∷◌, Option, None, Ok, Err, sym, subst}
use Rattle.rtx_tree.specs.declared.function.Function.{Function}
use Rattle.md_desc.specs.md_forms.declared.form.Entry.{Entry}
use Rattle.pass_name.specs.declared.road.Road.TheVariants.{Usual}
use Rattle.run_refusal.specs.declared.refusal.Refusal.{Refusal}
use Rattle.run_refusal.specs.declared.refusal.Refusal.TheVariants as refusal
use Rattle.func_text.specs.declared.assembly.Assembly.{Assembly}
use Rattle.func_text.specs.Compile.{FunctionsCome, Gives}
use Rattle.lint_groups.specs.declared.group.Group.{Group}
use Rattle.lint_groups.specs.declared.tries.Try.{Try}
use Rattle.lint_refused.specs.declared.refused.Refused.{Refused}
use Rattle.lint_shapes.specs.Refused.{told_if, Comes}
use Rattle.lint_shapes.specs.machine.Steps.{is_memory}

pub has_assembly : (forms : List Entry) (g : Group) (t : Try) (functions : List Function) (a : Assembly) →
    functions ≡ t.function ∷ [] → FunctionsCome forms Usual functions (Ok a) → Comes forms g t None
has_assembly forms g t functions a is comes =
    Comes.assembled a (subst (λ (fs : List Function). FunctionsCome forms Usual fs (Ok a)) is comes)

no_answer : true ≡ false → ⊥
no_answer e = cc

-- what is told is that refusal
told_by : (forms : List Entry) (functions : List Function) (e : Refusal) → is_memory e ≡ false →
    Gives (Err e) (FunctionsCome forms Usual functions) → FunctionsCome forms Usual functions (Err e)
told_by forms functions refusal.Memory other tells = absurd (no_answer other)
told_by forms functions refusal.Usage other tells = absurd tells
told_by forms functions refusal.ReadFault other tells = absurd tells
told_by forms functions refusal.WriteFault other tells = absurd tells
told_by forms functions (refusal.Syntax file place) other tells = tells
told_by forms functions (refusal.Construct place name) other tells = tells
told_by forms functions (refusal.IllFormed function uid rule) other tells = tells
told_by forms functions (refusal.Limit which count) other tells = tells
told_by forms functions (refusal.Unmatched function uid pass insn) other tells = tells
told_by forms functions (refusal.Unsatisfied function uid form insn) other tells = tells
told_by forms functions (refusal.NotEquated function uid rule item left right) other tells = tells

pub is_refused : (forms : List Entry) (g : Group) (t : Try) (functions : List Function) (e : Refusal) (r : Option Refused) → is_memory e ≡ false →
    functions ≡ t.function ∷ [] → Gives (Err e) (FunctionsCome forms Usual functions) → r ≡ told_if g t.what e → Comes forms g t r
is_refused forms g t functions e r other is tells told =
    subst (λ (o : Option Refused). Comes forms g t o) (sym told)
    (Comes.refused e (subst (λ (fs : List Function). FunctionsCome forms Usual fs (Err e)) is (told_by forms functions e other tells)))
