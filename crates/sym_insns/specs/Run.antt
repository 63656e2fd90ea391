-- What instructions come to.
use Rattle.std.specs.Prelude.{ℕ, ◌+◌, if◌then◌else◌, List, [], ◌∷◌, Option, Some, None}
use Rattle.rtx_tree.specs.declared.function.Insn.{Insn}
use Rattle.rtx_tree.specs.declared.function.Kind.{Kind}
use Rattle.rtx_tree.specs.declared.function.Kind.TheVariants.{Plain, Jump, Call}
use Rattle.sym_state.specs.State.{State, Ran, start, is_within, ran}
use Rattle.sym_insns.specs.Effects.{after_plain, after_jump, after_call}
use Rattle.sym_insns.specs.Shape.{bad_insn}

-- the state after an instruction at a place
abbrev pub after_kind : Kind → ℕ → Insn → State → State
after_kind Plain index i s = after_plain index i.pattern s
after_kind Jump index i s = after_jump index i.pattern s
after_kind Call index i s = after_call index i.pattern i.uses s
after_kind _ index i s = s

abbrev pub after : ℕ → Insn → State → State
after index i s = after_kind i.kind index i s

-- the state after all instructions, or none where a term of a state that is met is too large
abbrev pub run_from : ℕ → List Insn → State → Option State
run_from index [] s = Some s
run_from index (i ∷ insns) s =
    let next = after index i s in
    if is_within next then run_from (index + 1) insns next else None

-- what instructions come to: shapes are looked at first
abbrev pub run : List Insn → Ran
run insns = ran (bad_insn insns) (run_from 0 insns start)
