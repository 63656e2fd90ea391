-- What is taken by itself, by the answers of a description.
use Rattle.std.proofs.Common.{◌≡◌, ℕ, Bool, true, List, [], Option, Some, if◌then◌else◌, sym, ap, ◌∙◌}
use Rattle.std.specs.Option.{option_map_or}
use Rattle.rtx_tree.specs.declared.code.Mode.{Mode}
use Rattle.rtx_tree.specs.declared.tree.Rtx.{Rtx}
use Rattle.rtx_tree.specs.Tree.{head_of}
use Rattle.md_match.specs.Pattern.{Ops}
use Rattle.md_desc.specs.md_pred.Holds.{holds}
use Rattle.md_desc.specs.md_recog.Match.{names_predicate}
use Rattle.md_constr.specs.Fits.{number_admits}
use Rattle.lint_tried.specs.Trial.{Trial, predicate_takes, operand_number, constraint_takes}

-- the predicate that is named accepts
pub named_takes : (t : Trial) (p x : Rtx) (accepts : List ℕ → Rtx → Mode → Bool) (r : Bool) →
    names_predicate (head_of p).code ≡ true → accepts ≡ holds t.forms → r ≡ accepts (head_of p).name x (head_of p).mode → r ≡ predicate_takes t p x
unfolding predicate_takes
named_takes t p x accepts r named same made =
    made
    ∙ (ap (λ (f : List ℕ → Rtx → Mode → Bool). f (head_of p).name x (head_of p).mode) same
    ∙ sym (ap (λ (b : Bool). if b then holds t.forms (head_of p).name x (head_of p).mode else true) named))

-- the constraint of the operand with a number admits
pub numbered_takes : (t : Trial) (p x : Rtx) (number : ℕ) (operands : Ops) (r : Bool) →
    operand_number (head_of p).number ≡ Some number → operands ≡ [] →
    r ≡ number_admits t.forms (holds t.forms) t.form t.alternative operands number x → r ≡ constraint_takes t p x
unfolding constraint_takes
numbered_takes t p x number operands r some none made =
    made
    ∙ (ap (λ (known : Ops). number_admits t.forms (holds t.forms) t.form t.alternative known number x) none
    ∙ sym (ap (λ (o : Option ℕ). option_map_or (λ (n : ℕ). number_admits t.forms (holds t.forms) t.form t.alternative [] n x) o true) some))
