-- What `recog` tells of functions: GCC Internals, "Pattern Ordering" (the first match),
-- "Interdependence of Patterns", and "Multiple Alternative Constraints". The lines are this
-- project's own.
use Rattle.std.specs.Prelude.{◌≡◌, ℕ, true, false, List, [], ◌∷◌, ◌++◌, Ok, Err}
use Rattle.std.specs.Fmt.{decimal}
use Rattle.rtx_tree.specs.declared.function.Insn.{Insn}
use Rattle.rtx_tree.specs.declared.function.Function.{Function}
use Rattle.pass_name.specs.declared.pass.Pass.TheVariants.{Output}
use Rattle.run_refusal.specs.declared.refusal.Refusal.{Refusal}
use Rattle.pass_name.specs.declared.road.Road.TheVariants.{Usual}
use Rattle.md_forms.specs.declared.form.Entry.{Entry}
use Rattle.md_forms.specs.Forms.{names_of}
use Rattle.md_desc.specs.declared.output.Chosen.{Chosen}
use Rattle.md_desc.specs.Recog.{IsChosen, NoneMatchesOut}
use Rattle.form_needs.specs.Needs.{needs_form, output_facts, name_at}
use Rattle.func_input.specs.Outcome.{Outcome}
use Rattle.func_after.specs.Each.{EachComes}
use Rattle.func_after.specs.After.{unmatched_at, AfterComes}
use Rattle.func_after.specs.declared.compilation.Compilation.{Compilation}

-- ---- lines

-- function, uid, form and alternative
abbrev pub line_of : List (List ℕ) → List ℕ → ℕ → ℕ → ℕ → List ℕ
line_of names function uid form alternative = function ++ (32 ∷ (decimal uid ++ (32 ∷ (name_at names form ++ (32 ∷ (decimal alternative ++ 10 ∷ []))))))

-- ---- what an instruction comes to

-- at output: the line of the first form that counts, with the lowest enabled alternative that fits
pub data OutputComes (forms : List Entry) (function : List ℕ) (i : Insn) : Outcome → Type 0 where
  free : needs_form i ≡ false → OutputComes forms function i (Ok [])
  chosen : (c : Chosen) → needs_form i ≡ true → IsChosen forms output_facts i.pattern c → OutputComes forms function i (Ok (line_of (names_of forms) function i.uid c.form c.alternative))
  unmatched : needs_form i ≡ true →
      NoneMatchesOut forms output_facts i.pattern →
      OutputComes forms function i (Err (unmatched_at Output function i))

-- ---- what functions come to

-- a function: what a pass refuses, or else what all instructions come to that the passes make of it
pub data FunctionComes (forms : List Entry) (f : Function) : Outcome → Type 0 where
  refused : (e : Refusal) → AfterComes forms Usual f (Err e) → FunctionComes forms f (Err e)
  printed : (m : Compilation) (outcome : Outcome) → AfterComes forms Usual f (Ok m) →
      EachComes (OutputComes forms f.name) m.function.insns outcome →
      FunctionComes forms f outcome

-- some functions, one behind the other
abbrev pub FunctionsCome : List Entry → List Function → Outcome → Type 0
FunctionsCome forms = EachComes (FunctionComes forms)
