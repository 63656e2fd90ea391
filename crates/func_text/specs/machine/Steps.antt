-- The steps of the code, for the contracts of private functions alone.
use Rattle.std.specs.Prelude.{◌≡◌, List, ℕ, ◌++◌, Result, Ok, Err}
use Rattle.rv_text.specs.declared.line.CodeItem.{CodeItem}
use Rattle.run_refusal.specs.declared.refusal.Refusal.{Refusal}
use Rattle.func_input.specs.Input.{RefusesWith}
use Rattle.func_input.specs.Outcome as texts
use Rattle.rtx_tree.specs.declared.function.Function.{Function}
use Rattle.md_forms.specs.declared.form.Entry.{Entry}
use Rattle.func_after.specs.declared.compilation.Compilation.{Compilation}
use Rattle.asm_out.specs.Comes as out
use Rattle.asm_out.specs.Outcome as out_of
use Rattle.func_text.specs.declared.assembly.Assembly.{Assembly}
use Rattle.func_text.specs.declared.summary.Summary.{Summary}
use Rattle.func_text.specs.Assembly.{Outcome, told_for}

-- what a function comes to with what the passes made of it
abbrev pub WrittenComes : List Entry → ℕ → ℕ → Function → Compilation → Outcome → Type 0
WrittenComes forms number size f m told =
    (o : out_of.Outcome) × out.FunctionComes forms number m.function size o × (told ≡ told_for f m o)

-- a call found that something comes to a text, or it refused
abbrev pub ComesToText : {A : Type 0} → Result A Refusal → (texts.Outcome → Type 0) → Type 0
ComesToText (Ok done) P = (text : List ℕ) × P (Ok text)
ComesToText (Err e) P = RefusesWith e P

-- A call appended the text and the parts of an assembly that has a property, and gave its summary,
-- or it refused.
abbrev pub AppendsAssembly : List ℕ → List ℕ → List (List CodeItem) → List (List CodeItem) →
    Result Summary Refusal → (Outcome → Type 0) →
    Type 0
AppendsAssembly text text' parts parts' (Ok summary) P =
    (a : Assembly) × P (Ok a) × (text' ≡ text ++ a.text) × (parts' ≡ parts ++ a.parts) × (summary ≡ a.summary)
AppendsAssembly text text' parts parts' (Err e) P = RefusesWith e P
