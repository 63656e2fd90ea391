-- What the code's own types are in the words of the definitions.
use Rattle.std.specs.Prelude.{map, Option, Some, None, option_map}
use Rattle.term_tree.specs.View.{tree_of}
use Rattle.sym_term.specs.Views.{store_of}
use Rattle.sym_state.specs.State as spec
use Rattle.sym_state.specs.declared.state.SymReg.{SymReg}
use Rattle.sym_state.specs.declared.state.SymJump.{SymJump}
use Rattle.sym_state.specs.declared.state.SymArg.{SymArg}
use Rattle.sym_state.specs.declared.state.SymCall.{SymCall}
use Rattle.sym_state.specs.declared.state.NeedOf.{NeedOf}
use Rattle.sym_state.specs.declared.state.NeedOf.TheVariants.{Register, Lost, Access, Divisor, Symbol}
use Rattle.sym_state.specs.declared.state.SymNeed.{SymNeed}
use Rattle.sym_state.specs.declared.state.SymState.{SymState}

abbrev pub changed_of : SymReg → spec.Changed
changed_of r = record { reg = r.reg; value = option_map tree_of r.value }

abbrev pub jump_of : SymJump → spec.Jump
jump_of j = record { condition = tree_of j.condition; target = j.target }

abbrev pub arg_of : SymArg → spec.Arg
arg_of a = record { reg = a.reg; value = tree_of a.value }

abbrev pub call_of : SymCall → spec.Call
call_of c = record { target = tree_of c.target; result = c.result; args = map arg_of c.args }

abbrev pub need_of : NeedOf → spec.Need
need_of (Register reg w) = spec.Register reg w
need_of (Lost reg w) = spec.Lost reg w
need_of (Access address w) = spec.Access (tree_of address) w
need_of (Divisor term) = spec.Divisor (tree_of term)
need_of (Symbol name) = spec.Symbol name

abbrev pub need_at_of : SymNeed → spec.NeedAt
need_at_of n = record { index = n.index; what = need_of n.what }

abbrev pub state_of : SymState → spec.State
state_of s = record {
  regs = map changed_of s.regs;
  stores = map store_of s.stores;
  jump = jump_of s.jump;
  call = option_map call_of s.call;
  needs = map need_at_of s.needs;
}
