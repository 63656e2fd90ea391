-- What the rules give for the lines of a function, place by place: GCC Internals, "Insns", "Side
-- Effect Expressions" and "Registers and Memory"; RISC-V ELF psABI, "Integer Register Convention".
use Rattle.std.specs.Prelude.{◌≡◌, ◌⊎◌, ℕ, ◌<◌, true, false, [], ◌∷◌}
use Rattle.rtx_tree.specs.declared.function.Insn.{Insn}
use Rattle.rtx_tree.specs.declared.function.Kind.TheVariants.{Plain, Barrier}
use Rattle.rtx_tree.specs.Tree.{head_of}
use Rattle.rtl_step.specs.Step.{is_mark}
use Rattle.law_window_lines.specs.law_window_runs.Uses.{window_uses}
use Rattle.law_window_lines.specs.Items.{is_quiet}

-- an instruction that is no label and no barrier, and uses hard registers alone
pub record UsesHard (i : Insn) : Type 0 where
  pub is_none : is_mark i.kind ≡ false
  pub hard : (reg : ℕ) → 31 < reg → window_uses (i ∷ []) reg ≡ false

-- a barrier, or a `use` or a `clobber` alone
abbrev pub IsQuiet : Insn → Type 0
IsQuiet i = (i.kind ≡ Barrier) ⊎ ((i.kind ≡ Plain) × (is_quiet (head_of i.pattern).code ≡ true))
