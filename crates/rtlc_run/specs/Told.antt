-- What is told of the functions of an input, by the forms of a description: what it comes to, what a
-- text of it says, and which functions have one. Each kind of telling has its case in each.
use Rattle.std.specs.Prelude.{◌≡◌, ℕ, true, List, Result, Ok, Err, IfOk}
use Rattle.rtx_tree.specs.declared.function.Function.{Function}
use Rattle.run_refusal.specs.declared.refusal.Refusal.{Refusal}
use Rattle.md_forms.specs.declared.form.Entry.{Entry}
use Rattle.func_input.specs.Input.{InputComesTo, IsInput}
use Rattle.func_input.specs.Outcome.{Outcome}
use Rattle.func_image.specs.Image.{ImageComes, TellsImage, HaveImage}
use Rattle.func_image.specs.func_text.declared.assembly.Assembly.{Assembly}
use Rattle.func_image.specs.func_text.Assembly.{AssemblyComes}
use Rattle.func_image.specs.func_text.Compile.{TextComes}
use Rattle.func_image.specs.func_text.Lines.{IsAssembly}
use Rattle.func_image.specs.func_text.Recog.{FunctionsCome}
use Rattle.func_image.specs.func_text.Cycles as cycles
use Rattle.func_image.specs.func_text.Dump as dump
use Rattle.func_image.specs.func_text.Code.{CodeComes, IsCoded, has_named}
use Rattle.func_image.specs.func_text.declared.code.Coded.{Coded}
use Rattle.code_eval.specs.Eval.{eval_text, IsFair, ComesToSame}
use Rattle.pass_name.specs.declared.road.Road.{Road}
use Rattle.pass_name.specs.declared.road.Road.TheVariants.{Usual}
use Rattle.pass_name.specs.declared.pass.Pass.{Pass}
use Rattle.rtlc_words.specs.declared.command.Told.{Told}
use Rattle.rtlc_words.specs.declared.command.Told.TheVariants as telling

-- ---- what it comes to over the bytes of an input: a text, or the first refusal

-- the assembly, by a road
abbrev pub LinesCome : Road → List Entry → List ℕ → Outcome → Type 0
LinesCome road forms bytes outcome = TextComes forms road bytes outcome

-- the forms of the instructions
abbrev pub RecogComes : List Entry → List ℕ → Outcome → Type 0
RecogComes forms bytes outcome = InputComesTo (FunctionsCome forms) bytes outcome

-- the cycles of the instructions
abbrev pub CyclesCome : List Entry → List ℕ → Outcome → Type 0
CyclesCome forms bytes outcome = InputComesTo (cycles.FunctionsCome forms) bytes outcome

-- the functions behind a pass
abbrev pub DumpComes : Pass → List Entry → List ℕ → Outcome → Type 0
DumpComes pass forms bytes outcome = InputComesTo (dump.FunctionsCome forms pass) bytes outcome

abbrev pub evaluated : ℕ → List ℕ → Result Coded Refusal → Outcome
evaluated steps args (Ok c) = Ok (eval_text c.function c.items steps args)
evaluated steps args (Err e) = Err e

-- the outcomes of the function with a name, and of its code, where they are tried fairly
abbrev pub EvalComes : List ℕ → ℕ → List ℕ → List Entry → List ℕ → Outcome → Type 0
EvalComes function steps args forms bytes outcome =
    (answer : Result Coded Refusal) × CodeComes forms bytes function answer ×
    (outcome ≡ evaluated steps args answer) ×
    IfOk answer (λ c. IsFair c.function steps args)

abbrev pub ToldComes : Told → List Entry → List ℕ → Outcome → Type 0
ToldComes (telling.Lines road) = LinesCome road
ToldComes telling.Forms = RecogComes
ToldComes telling.Cycles = CyclesCome
ToldComes telling.Words = ImageComes
ToldComes (telling.Behind pass) = DumpComes pass
ToldComes (telling.Outcomes function steps args) = EvalComes function steps args

-- ---- what a text of it says

-- The trial of a function and its code is fair, and where the function's outcome has a value, its
-- lines and labels come to the same one.
pub record IsTried (c : Coded) (steps : ℕ) (args : List ℕ) : Type 0 where
  pub fair : IsFair c.function steps args
  pub same : ComesToSame c.function c.items steps args

-- The text is that of the assembly of the input's functions by the road; it has the form and the
-- alternative of each instruction; the cycle of each that took a new order; the words of the image
-- of the assembly's lines; each function as it is behind the pass; or the outcomes of the function
-- with the name, and of the lines and labels that its part of the assembly spells.
abbrev pub Tells : Told → List Entry → List ℕ → List ℕ → Type 0
Tells (telling.Lines road) forms bytes text =
    (functions : List Function) × IsInput bytes functions × (a : Assembly) ×
    IsAssembly forms road 0 functions a × (text ≡ a.text)
Tells telling.Forms forms bytes text =
    (functions : List Function) × IsInput bytes functions × FunctionsCome forms functions (Ok text)
Tells telling.Cycles forms bytes text = (functions : List Function) ×
    IsInput bytes functions × cycles.FunctionsCome forms functions (Ok text)
Tells telling.Words forms bytes text = TellsImage forms bytes text
Tells (telling.Behind pass) forms bytes text = (functions : List Function) ×
    IsInput bytes functions × dump.FunctionsCome forms pass functions (Ok text)
Tells (telling.Outcomes function steps args) forms bytes text =
    (c : Coded) × IsCoded forms bytes function c × IsTried c steps args ×
    (text ≡ eval_text c.function c.items steps args)

-- ---- which functions have one

-- They have an assembly; each instruction has a form; each in its new order has one; they have an
-- assembly, and its lines an image; each comes through the pass; or they have an assembly, and the
-- name is that of one.
abbrev pub HaveText : Told → List Entry → List Function → Type 0
HaveText (telling.Lines road) forms functions =
    (a : Assembly) × AssemblyComes forms road functions (Ok a)
HaveText telling.Forms forms functions = (text : List ℕ) × FunctionsCome forms functions (Ok text)
HaveText telling.Cycles forms functions =
    (text : List ℕ) × cycles.FunctionsCome forms functions (Ok text)
HaveText telling.Words forms functions = HaveImage forms functions
HaveText (telling.Behind pass) forms functions =
    (text : List ℕ) × dump.FunctionsCome forms pass functions (Ok text)
HaveText (telling.Outcomes function steps args) forms functions =
    (a : Assembly) × AssemblyComes forms Usual functions (Ok a) × (has_named functions function ≡ true)
