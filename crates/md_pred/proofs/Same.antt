-- A table of the first definitions accepts what the forms' predicates accept.
use Rattle.std.proofs.Common.{◌≡◌, ℕ, ◌+◌, List, Option, Some, None, length, refl, ap, ◌∙◌}
use Rattle.std.proofs.Math.Path.{fun_ext}
use Rattle.std.specs.List.{find}
use Rattle.rtx_tree.specs.declared.code.Mode.{Mode}
use Rattle.rtx_tree.specs.declared.tree.Rtx.{Rtx}
use Rattle.md_forms.specs.declared.form.Entry.{Entry}
use Rattle.pred_rows.specs.declared.node.Node.{Node}
use Rattle.pred_rows.specs.Tests.{Accepts}
use Rattle.md_pred.specs.declared.definitions.Definition.{Definition}
use Rattle.md_pred.specs.declared.definitions.Definitions.{Definitions}
use Rattle.md_pred.specs.Holds.{defines, definition_holds, defined, within, holds}
use Rattle.md_pred.specs.machine.Table.{definition_in, kept, kept_holds}
use Rattle.md_pred.specs.machine.Steps.{KeepsFirst, AreKept}

first_same : (nodes : List Node) (d : Option Definition) (e : Option Entry) → KeepsFirst nodes d e → (other : Accepts) (x : Rtx) (m : Mode) → kept_holds other x m nodes d ≡ definition_holds other x m e
first_same nodes None None is other x m = refl
first_same nodes (Some d) (Some e) is other x m = is.means other x m
first_same nodes None (Some e) is other x m = absurd is
first_same nodes (Some d) None is other x m = absurd is

same : (ds : Definitions) (es : List Entry) → AreKept ds es → kept ds ≡ defined es
same ds es are = fun_ext (λ other. fun_ext (λ name. fun_ext (λ x. fun_ext (λ m. first_same ds.rows (definition_in ds name) (find (defines name) es) (are name) other x m))))

pub table_holds : (ds : Definitions) (es : List Entry) (rounds : ℕ) → AreKept ds es → rounds ≡ length es + 1 → within (kept ds) rounds ≡ holds es
table_holds ds es rounds are is = ap (λ (define : Accepts → Accepts). within define rounds) (same ds es are) ∙ ap (within (defined es)) is
