-- What is made step by step is what its definition says.
use Rattle.std.proofs.Common.{◌≡◌, ℕ, ℤ, List, map, Option, Some, sym, ap, ◌∙◌}
use Rattle.rtx_tree.specs.declared.function.Insn.{Insn}
use Rattle.rtx_tree.specs.declared.tree.Rtx.{Rtx}
use Rattle.md_match.specs.Pattern.{Ops, instantiated}
use Rattle.lint_made.specs.declared.candidate.Candidate.{Candidate}
use Rattle.lint_made.specs.Made.{givers}
use Rattle.lint_insn.specs.Insn.{insn_of}
use Rattle.lint_tried.specs.declared.instance.Instance.{Instance}
use Rattle.lint_tried.specs.Trial.{Trial}
use Rattle.lint_tried.specs.Offered.{looked_at, candidates_at, candidates_of}
use Rattle.lint_tried.specs.Instance.{instance_if, instance_by, instance_with}
use Rattle.lint_tried.specs.Tried.{base_of, tried_round, tried_with}

pub instance_made : (t : Trial) (operands : Ops) (pattern : Rtx) (made : Option Rtx) (i : Insn) (o : Option Instance) →
    made ≡ instantiated t.pattern operands → made ≡ Some pattern → i ≡ insn_of pattern → o ≡ instance_if t operands i → o ≡ instance_with t operands
instance_made t operands pattern made i o from some is given =
    given ∙ (ap (λ (j : Insn). instance_if t operands j) is ∙ sym (ap (λ (r : Option Rtx). instance_by t operands r) (sym from ∙ some)))

pub instances_made : (t : Trial) (tested : List ℤ) (gs : List Rtx) (candidates : List (List Candidate)) (base : Option (List ℕ)) (tried : List Instance) →
    gs ≡ givers t.pattern → candidates ≡ map (candidates_at t (looked_at t tested)) gs → base ≡ base_of t candidates → tried ≡ tried_round t candidates base →
    tried ≡ tried_with t (candidates_of t tested)
instances_made t tested gs candidates base tried whole each first made =
    let all : candidates ≡ candidates_of t tested = each ∙ ap (λ (ps : List Rtx). map (candidates_at t (looked_at t tested)) ps) whole in
    made ∙ (ap (λ (b : Option (List ℕ)). tried_round t candidates b) first ∙ ap (λ (cs : List (List Candidate)). tried_with t cs) all)
