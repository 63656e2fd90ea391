-- What `make` tells: the summary of the generated function with a number, by the forms of a
-- description. The line is this project's own.
use Rattle.std.specs.Prelude.{◌≡◌, ℕ, List, [], ◌∷◌, ◌++◌, codes, Ok, Err}
use Rattle.std.specs.Fmt.{decimal}
use Rattle.rtl_make.specs.Made.{made}
use Rattle.md_forms.specs.declared.form.Entry.{Entry}
use Rattle.func_input.specs.Outcome.{Outcome}
use Rattle.pass_name.specs.declared.road.Road.TheVariants.{Usual}
use Rattle.func_image.specs.func_text.declared.assembly.Assembly.{Assembly}
use Rattle.func_image.specs.func_text.declared.summary.Summary.{Summary}
use Rattle.func_image.specs.func_text.Assembly as assembly
use Rattle.func_image.specs.func_text.Compile.{FunctionsCome}
use Rattle.func_image.specs.func_text.Lines.{IsAssembly}

-- ---- the line of a summary

-- a count behind its name
abbrev pub counted : List ℕ → ℕ → List ℕ
counted name count = name ++ decimal count

-- the slots, the bytes of the frame, and the lines
abbrev pub frame_text : Summary → List ℕ
frame_text s = counted (codes ", slots ") s.slots ++ (counted (codes ", frame ") s.frame ++ (counted (codes ", lines ") s.lines ++ codes "\n"))

abbrev pub summary_line : Summary → List ℕ
summary_line s = counted (codes "instructions ") s.instructions ++ (counted (codes ", combined ") s.combined ++ frame_text s)

-- ---- what the generated function comes to

abbrev pub summary_told : assembly.Outcome → Outcome
summary_told (Ok a) = Ok (summary_line a.summary)
summary_told (Err e) = Err e

-- its summary, or what refuses it
abbrev pub SummaryComes : ℕ → List Entry → Outcome → Type 0
SummaryComes number forms outcome = (o : assembly.Outcome) × FunctionsCome forms Usual (made number ∷ []) o × (outcome ≡ summary_told o)

-- a text is the summary of its assembly
abbrev pub TellsSummary : List Entry → ℕ → List ℕ → Type 0
TellsSummary forms number text = (a : Assembly) × IsAssembly forms Usual 0 (made number ∷ []) a × (text ≡ summary_line a.summary)

-- it has an assembly
abbrev pub HasSummary : List Entry → ℕ → Type 0
HasSummary forms number = (a : Assembly) × FunctionsCome forms Usual (made number ∷ []) (Ok a)
