use Rattle.std.proofs.Common.{◌≡◌, ◌↔◌, List, [], ◌∷◌, Some, subst}
use Rattle.std.specs.Prelude.{IfOk}
use Rattle.rtx_tree.specs.declared.tree.Rtx.{Rtx}
use Rattle.md_match.specs.Pattern.{Ops}
use Rattle.md_match.specs.Match.{Matches}
use Rattle.md_match.proofs.matching.match_shape.Goals as goal

pub returns-clause-operands : goal.returns-clause-operands
returns-clause-operands g c =
    subst (λ (ps : List Rtx). IfOk c.match_shapes.result (λ r. (o : Ops) → (r ≡ Some o) ↔ Matches ps (c.args.insn.now ∷ []) o)) c.from_ref.ensures.value c.match_shapes.ensures.operands
