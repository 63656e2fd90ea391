-- What a form emits: GCC Internals, "Defining RTL Sequences for Code Generation" and "Defining How
-- to Split Instructions".
use Rattle.std.specs.Prelude.{ℕ, List, [], ◌++◌, Option, Some, None, option_map, option_and_then}
use Rattle.rtx_tree.specs.declared.tree.Rtx.{Rtx}
use Rattle.c_eval.specs.declared.facts.Facts.{Facts}
use Rattle.md_match.specs.Pattern.{Ops, all_instantiated}
use Rattle.md_recog.specs.Match.{Accepts}
use Rattle.md_draft.specs.declared.head.FormHead.{FormHead}
use Rattle.md_draft.specs.declared.head.FormHead.TheVariants as head
use Rattle.md_forms.specs.declared.form.Form.{Form}
use Rattle.gen_emit.specs.declared.draft.Draft.{Draft}
use Rattle.gen_emit.specs.Values.{draft}
use Rattle.gen_emit.specs.declared.draft.Ended.{Ended}
use Rattle.gen_emit.specs.declared.draft.Ended.TheVariants.{Through, Done}
use Rattle.gen_emit.specs.Statements.{meaning}
use Rattle.gen_emit.specs.declared.emission.Emission.{Emission}

-- The patterns that a form emits: an expander and an instruction make what they match, and what
-- else makes instructions makes them in the place of those.
abbrev pub patterns_by : FormHead → Form → List Rtx
patterns_by head.Insn f = f.patterns
patterns_by head.Expand f = f.patterns
patterns_by _ f = f.sequence

abbrev pub patterns_of : Form → List Rtx
patterns_of f = patterns_by f.head f

abbrev pub emission : List Rtx → ℕ → Emission
emission sequence next = record { sequence = sequence; next = next }

-- where the last statement is gone through: the moves, and behind them the patterns with the
-- operands put in, none of which may be missing
abbrev pub through : List Rtx → Draft → Option Emission
through patterns d =
    option_map (λ insns. emission (d.moves ++ insns) d.next) (all_instantiated patterns d.operands)

-- what is emitted; after DONE the patterns are left out
abbrev pub finished : List Rtx → Ended → Option Emission
finished patterns (Through d) = through patterns d
finished patterns (Done d) = Some (emission d.moves d.next)

-- what a form emits with these operands, where pseudo registers are free from a number on; none
-- where it fails
abbrev pub emitted : Accepts → Facts → Form → Ops → ℕ → Option Emission
emitted accepts facts form operands next = option_and_then (finished (patterns_of form)) ((meaning facts accepts form.statements).run (draft operands next))
