-- Which trees the predicates of a description accept: GCC Internals, "Machine-Independent
-- Predicates" and "Defining Machine-Specific Predicates".
use Rattle.std.specs.Prelude.{ℕ, zero, suc, Bool, true, false, ◌&&◌, ◌||◌, List, Option, Some, None, Result, Ok, Err, length, ◌≡◌, ◌+◌}
use Rattle.std.specs.List.{find}
use Rattle.std.specs.Str.{bytes_eq}
use Rattle.rtx_tree.specs.declared.code.Mode.{Mode}
use Rattle.rtx_tree.specs.declared.tree.Rtx.{Rtx}
use Rattle.pred_expr.specs.declared.question.Test.{Test}
use Rattle.md_forms.specs.md_pattern.declared.reason.Reason.{Reason}
use Rattle.md_forms.specs.md_draft.declared.head.FormHead.{FormHead}
use Rattle.md_forms.specs.md_draft.declared.head.FormHead.TheVariants as head
use Rattle.md_forms.specs.md_draft.Head.{head_named}
use Rattle.md_forms.specs.declared.form.Form.{Form}
use Rattle.md_forms.specs.declared.form.Entry.{Entry}
use Rattle.md_forms.specs.md_tables.Tables.{defines_predicate}
use Rattle.md_operand.specs.declared.built_in.BuiltIn.{BuiltIn}
use Rattle.md_operand.specs.Operand.{accepts, has_mode, is_constant, built_in_named}
use Rattle.pred_rows.specs.Tests.{Accepts, test_holds}

-- ---- a definition

-- a constant has no mode, and is accepted in each
abbrev pub is_of_mode : Mode → Rtx → Bool
is_of_mode m x = has_mode m x || is_constant x

-- a predicate looks at the mode besides its test; a special one in its test alone
abbrev pub mode_fits : FormHead → Mode → Rtx → Bool
mode_fits head.Predicate m x = is_of_mode m x
mode_fits _ m x = true

abbrev pub tested : Accepts → Rtx → Mode → Option Test → Bool
tested other x m None = false
tested other x m (Some t) = test_holds other x m t

-- one that is set aside accepts nothing
abbrev pub form_holds : Accepts → Rtx → Mode → Result Form Reason → Bool
form_holds other x m (Err r) = false
form_holds other x m (Ok f) = mode_fits f.head m x && tested other x m f.test

abbrev pub definition_holds : Accepts → Rtx → Mode → Option Entry → Bool
definition_holds other x m None = false
definition_holds other x m (Some e) = form_holds other x m e.form

-- ---- the definitions of a description

abbrev pub is_named : Option (List ℕ) → List ℕ → Bool
is_named None name = false
is_named (Some own) name = bytes_eq own name

abbrev pub defines : List ℕ → Entry → Bool
defines name e = defines_predicate (head_named e.head) && is_named e.name name

-- what a name's definition accepts, by what other predicates accept; the first definition of a name
-- counts
abbrev pub defined : List Entry → Accepts → Accepts
defined es other name x m = definition_holds other x m (find (defines name) es)

-- ---- predicates

-- a predicate that the manual has answers itself, any other by its definition
abbrev pub own_or : Option BuiltIn → Mode → Rtx → Bool → Bool
own_or None m x other = other
own_or (Some own) m x other = accepts own m x

-- what definitions accept, where they ask for one another so often at most
abbrev pub defined_within : (Accepts → Accepts) → ℕ → Accepts
defined_within define zero name x m = false
defined_within define (suc rounds) name x m = define (λ other y n. own_or (built_in_named other) n y (defined_within define rounds other y n)) name x m

-- Which trees predicates accept in a mode, where definitions ask for one another so often at most.
-- The predicates that the manual has count before all definitions.
abbrev pub within : (Accepts → Accepts) → ℕ → Accepts
within define rounds name x m = own_or (built_in_named name) m x (defined_within define rounds name x m)

-- Which trees the predicates of a description accept. That this is told by their definitions alone,
-- whatever the number of rounds, is the law IsTold: a predicate that reaches itself is set aside.
abbrev pub holds : List Entry → Accepts
holds es = within (defined es) (length es + 1)

-- ---- what tells them

-- Predicates accept what they are defined to accept: one that the manual has answers itself, and
-- any other accepts what its definition does, by what the predicates accept that this asks for.
abbrev pub AreDefined : List Entry → Accepts → Type 0
AreDefined es accepted =
    (name : List ℕ) (x : Rtx) (m : Mode) →
    accepted name x m ≡ own_or (built_in_named name) m x (defined es accepted name x m)

-- The definitions tell what predicates accept: they accept what they are defined to accept, and
-- nothing else could be accepted.
pub record IsTold (es : List Entry) (accepted : Accepts) : Type 0 where
  pub defined_so : AreDefined es accepted
  pub alone : (other : Accepts) → AreDefined es other → (name : List ℕ) (x : Rtx) (m : Mode) →
      other name x m ≡ accepted name x m
