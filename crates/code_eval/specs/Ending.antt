-- What is told of the outcome of a run, and its text.
use Rattle.std.specs.Prelude.{ℕ, ◌==◌, not, List, ◌++◌, length, codes, Option, Some, None, option_map, option_and_then}
use Rattle.std.specs.List.{filter}
use Rattle.std.specs.Fmt.{decimal}
use Rattle.bits64.specs.Words.{low}
use Rattle.rtx_tree.specs.declared.code.Mode.{Mode}
use Rattle.rtx_tree.specs.declared.memories.MemByte.{MemByte}
use Rattle.rtl_step.specs.Value.{width_of}
use Rattle.func_run.specs.declared.outcome.Outcome.{Outcome}
use Rattle.func_run.specs.declared.outcome.Standing.{Standing}
use Rattle.func_run.specs.declared.outcome.Standing.TheVariants as rtl
use Rattle.func_run.specs.Standing as rtl_standings
use Rattle.rv_line.specs.declared.outcome.CodeOutcome.{CodeOutcome}
use Rattle.rv_line.specs.declared.outcome.CodeStanding.{CodeStanding}
use Rattle.rv_line.specs.declared.outcome.CodeStanding.TheVariants as code
use Rattle.rv_line.specs.Standing as code_standings
use Rattle.code_eval.specs.declared.ending.Ending.{Ending}
use Rattle.code_eval.specs.declared.ending.Ending.TheVariants as ending

-- ---- what is told

-- how many bytes are not zero
abbrev pub bytes_set : List MemByte → ℕ
bytes_set memory = length (filter (λ b. not (b.byte == 0)) memory)

-- the low bits of a0 in the mode of a result, which is unsigned; none where there is no result
abbrev pub result_in : Option Mode → Option ℕ → Option ℕ
result_in mode a0 =
    option_and_then (λ w. option_map (λ number. low w number) a0) (option_and_then width_of mode)

-- what is told of the run of a function, by how it stands
abbrev pub rtl_standing : Standing → Ending
rtl_standing rtl.Undefined = ending.Undefined
rtl_standing (rtl.Running calls) = ending.Running calls
rtl_standing (rtl.Asked calls) = ending.Asked calls
rtl_standing (rtl.Returned value memory calls) = ending.Returned value calls (bytes_set memory)

abbrev pub rtl_ending : Outcome → Ending
rtl_ending outcome = rtl_standing (rtl_standings.standing_of outcome)

-- what is told of the run of the code of a function whose result has a mode
abbrev pub code_standing : Option Mode → CodeStanding → Ending
code_standing mode code.Stuck = ending.Undefined
code_standing mode (code.Running calls) = ending.Running calls
code_standing mode (code.Asked calls) = ending.Asked calls
code_standing mode (code.Returned value memory calls) =
    ending.Returned (result_in mode value) calls (bytes_set memory)

abbrev pub code_ending : Option Mode → CodeOutcome → Ending
code_ending mode outcome = code_standing mode (code_standings.standing_of outcome)

-- ---- its text

abbrev pub calls_text : ℕ → List ℕ
calls_text calls = codes ", calls " ++ decimal calls

abbrev pub value_text : Option ℕ → List ℕ
value_text None = codes ""
value_text (Some value) = codes " " ++ decimal value

abbrev pub set_text : ℕ → List ℕ
set_text set = codes ", bytes set " ++ decimal set

abbrev pub ending_text : Ending → List ℕ
ending_text ending.Undefined = codes "undefined"
ending_text (ending.Running calls) = codes "running" ++ calls_text calls
ending_text (ending.Asked calls) = codes "asked" ++ calls_text calls
ending_text (ending.Returned value calls set) =
    codes "returned" ++ (value_text value ++ (calls_text calls ++ set_text set))

-- a line of it, behind what was run
abbrev pub ending_line : List ℕ → Ending → List ℕ
ending_line ran e = ran ++ (codes ": " ++ (ending_text e ++ codes "\n"))
