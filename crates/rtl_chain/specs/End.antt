-- The return at the end of a function's chain: where control runs past the last instruction, the
-- function returns (GCC Internals, "Exception handling and function entry and exit": the exit
-- block).
use Rattle.std.specs.Prelude.{◌+◌, List, [], ◌∷◌, ◌++◌, Some, None}
use Rattle.std.specs.declared.option.Option.{Option}
use Rattle.rtx_tree.specs.Patterns.{return_rtx}
use Rattle.rtx_tree.specs.declared.function.Kind.TheVariants.{Jump}
use Rattle.rtx_tree.specs.declared.function.Insn.{Insn}
use Rattle.rtl_chain.specs.Counts.{greatest_uid}
use Rattle.rtl_func.specs.Paths.{ReachesExit}

-- the return that is added at the end of a chain, with the number after the greatest
abbrev pub return_insn : List Insn → Insn
return_insn insns = record { uid = greatest_uid insns + 1; kind = Jump; pattern = return_rtx; uses = [] }

-- A chain as it is written: with a return at its end where a path of its instructions leads there,
-- and else as it is.
pub data IsFinished (insns : List Insn) : List Insn → Type 0 where
  returning : ReachesExit insns → IsFinished insns (insns ++ return_insn insns ∷ [])
  staying : ¬ ReachesExit insns → IsFinished insns insns

-- what is added, if anything is
pub data IsEnd (insns : List Insn) : Option Insn → Type 0 where
  returning : ReachesExit insns → IsEnd insns (Some (return_insn insns))
  staying : ¬ ReachesExit insns → IsEnd insns None
