-- How a table of predicates is made and asked. These definitions serve the contracts of private
-- functions alone.
use Rattle.std.specs.Prelude.{◌≡◌, ℕ, ◌+◌, ◌*◌, ◌<◌, min, Bool, false, not, List, length, take, Option, Some, None, Result, IfSome, if◌then◌else◌}
use Rattle.std.specs.List.{find}
use Rattle.std.specs.Str.{bytes_eq}
use Rattle.rtx_tree.specs.declared.code.Mode.{Mode}
use Rattle.rtx_tree.specs.declared.tree.Rtx.{Rtx}
use Rattle.pred_expr.specs.declared.question.Test.{Test}
use Rattle.md_forms.specs.md_pattern.declared.reason.Reason.{Reason}
use Rattle.md_forms.specs.md_draft.Head.{head_named}
use Rattle.md_forms.specs.declared.form.Form.{Form}
use Rattle.md_forms.specs.declared.form.Entry.{Entry}
use Rattle.md_forms.specs.md_tables.Tables.{defines_predicate}
use Rattle.pred_rows.specs.declared.node.Node.{Node}
use Rattle.pred_rows.specs.Tests.{Accepts}
use Rattle.pred_rows.specs.machine.Rows.{answer_at, answers, holds_at, node_answer}
use Rattle.md_pred.specs.declared.definitions.Definition.{Definition}
use Rattle.md_pred.specs.declared.definitions.Definitions.{Definitions}
use Rattle.md_pred.specs.declared.step.At.{At}
use Rattle.md_pred.specs.declared.step.Step.{Step}
use Rattle.md_pred.specs.declared.step.Step.TheVariants as step
use Rattle.md_pred.specs.declared.table.PredTable.{PredTable}
use Rattle.md_pred.specs.Holds.{defines, form_holds, tested, within}
use Rattle.md_pred.specs.machine.Table.{definition_in, kept, kept_holds, root_holds}

-- ---- making it

-- the name of the predicate that a form defines
abbrev pub predicate_name : Entry → Option (List ℕ)
predicate_name e = if defines_predicate (head_named e.head) then e.name else None

-- what is kept of a definition
pub record Keeps (nodes : List Node) (form : Result Form Reason) (d : Definition) : Type 0 where
  pub within : IfSome d.root (λ root. root < length nodes)
  pub means : (other : Accepts) (x : Rtx) (m : Mode) →
      kept_holds other x m nodes (Some d) ≡ form_holds other x m form

-- what is kept of a test alone
pub record KeepsTest (nodes : List Node) (test : Option Test) (root : Option ℕ) : Type 0 where
  pub within : IfSome root (λ place. place < length nodes)
  pub means : (other : Accepts) (x : Rtx) (m : Mode) →
      root_holds other x m nodes root ≡ tested other x m test

abbrev pub KeepsFirst : List Node → Option Definition → Option Entry → Type 0
KeepsFirst nodes None None = Unit {0}
KeepsFirst nodes (Some d) (Some e) = Keeps nodes e.form d
KeepsFirst nodes _ _ = ⊥

-- of each name the first definition is kept
abbrev pub AreKept : Definitions → List Entry → Type 0
AreKept ds es =
    (name : List ℕ) → KeepsFirst ds.rows (definition_in ds name) (find (defines name) es)

-- a name has a definition now
abbrev pub HasNow : List Node → Result Form Reason → Option Definition → Type 0
HasNow nodes form None = ⊥
HasNow nodes form (Some d) = Keeps nodes form d

-- a name has the definition that it had, or else a new one
pub record Defines (old new : Definitions) (name : List ℕ) (form : Result Form Reason) : Type 0 where
  pub rows : take (length old.rows) new.rows ≡ old.rows
  pub others : (other : List ℕ) → bytes_eq name other ≡ false →
      definition_in new other ≡ definition_in old other
  pub had : IfSome (definition_in old name) (λ d. definition_in new name ≡ Some d)
  pub made : definition_in old name ≡ None → HasNow new.rows form (definition_in new name)

-- ---- asking it

-- what predicates accept, where definitions are asked for so often at most
abbrev pub asked_within : PredTable → ℕ → Accepts
asked_within table rounds = within (kept table.definitions) rounds

-- the test whose root stands there holds
abbrev pub at_holds : PredTable → Rtx → At → Bool
at_holds table x at =
    holds_at (asked_within table at.rounds) x at.mode table.definitions.rows at.place

-- a part of the question there holds
abbrev pub part_holds : PredTable → Rtx → At → ℕ → Bool
part_holds table x at place = answer_at (answers (asked_within table at.rounds) x at.mode (take at.place table.definitions.rows)) place

-- the answer of a node that stands there
abbrev pub node_holds : PredTable → Rtx → At → Node → Bool
node_holds table x at node = node_answer (asked_within table at.rounds) x at.mode (answers (asked_within table at.rounds) x at.mode (take at.place table.definitions.rows)) node

abbrev pub step_holds : PredTable → Rtx → Step → Bool
step_holds table x (step.Answer b) = b
step_holds table x (step.Is at) = at_holds table x at
step_holds table x (step.IsNot at) = not (at_holds table x at)

-- how many questions may be asked from there at most, one behind the other: each definition that is
-- asked for begins anew
abbrev pub size_at : PredTable → At → ℕ
size_at table at =
    at.rounds * (length table.definitions.rows + 1) + min at.place (length table.definitions.rows)

abbrev pub step_size : PredTable → Step → ℕ
step_size table (step.Answer b) = 0
step_size table (step.Is at) = size_at table at + 1
step_size table (step.IsNot at) = size_at table at + 1
