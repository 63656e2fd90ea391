-- Parts of a step: the needs that are noted, and what a call changes.
use Rattle.std.specs.Prelude.{◌≡◌, ℕ, List, [], ◌∷◌, ◌++◌, Some, None, map}
use Rattle.bits64.specs.declared.Width.{Width}
use Rattle.rv_text.specs.declared.action.Source.{Source}
use Rattle.rv_text.specs.declared.line.Line.{Line}
use Rattle.term_tree.specs.Tree.{Tree}
use Rattle.sym_state.specs.State.{Changed, Need, Access, State, needs_at}
use Rattle.sym_state.specs.Registers.{left_by_call}
use Rattle.sym_state.specs.Views.{need_at_of}
use Rattle.sym_state.specs.declared.state.SymNeed.{SymNeed}
use Rattle.sym_lines.specs.Step.{register_needs, source_needs, args_from}

-- needs of the line at a place stand behind those that were noted before
abbrev pub AreNoted : List SymNeed → List SymNeed → ℕ → List Need → Type 0
AreNoted before after index needs =
    map need_at_of after ≡ map need_at_of before ++ needs_at index needs

-- what reading two sources needs
abbrev pub both_needs : List Changed → Line → Source → Source → List Need
both_needs regs line left right = source_needs regs line left ++ source_needs regs line right

-- what an access needs
abbrev pub access_needs : List Changed → Line → Tree → Width → List Need
access_needs regs line at w = register_needs regs line.rs ++ Access at w ∷ []

-- a state with a call of an address
abbrev pub called : Tree → State → State
called target s = record s {
  regs = left_by_call s.regs;
  call = Some (record { target = target; result = None; args = args_from 8 10 s.regs });
}
