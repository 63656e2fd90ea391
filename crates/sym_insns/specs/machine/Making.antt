-- How the code makes a term: the needs that it meets are put behind those met before. What the
-- code's own types are in the words of the definitions.
use Rattle.std.specs.Prelude.{◌≡◌, List, [], ◌∷◌, ◌++◌, map, Option, Some}
use Rattle.bits64.specs.declared.Width.{Width}
use Rattle.rtx_tree.specs.declared.code.Mode.{Mode}
use Rattle.rtx_tree.specs.declared.tree.Rtx.{Rtx, out-Rtx}
use Rattle.rtl_step.specs.Value.{width_of}
use Rattle.term_tree.specs.Tree.{Tree}
use Rattle.term_tree.specs.View.{tree_of}
use Rattle.term_mean.specs.Stores.{Store}
use Rattle.sym_term.specs.Views.{store_of}
use Rattle.sym_state.specs.State.{Changed, State, Need, Access, Arg, Call}
use Rattle.sym_state.specs.Registers.{left_by_call}
use Rattle.sym_state.specs.Views.{arg_of, call_of, changed_of, need_of}
use Rattle.sym_state.specs.declared.state.NeedOf.{NeedOf}
use Rattle.sym_state.specs.declared.state.SymArg.{SymArg}
use Rattle.sym_state.specs.declared.state.SymCall.{SymCall}
use Rattle.sym_insns.specs.Value.{Made, Reading, made_of}
use Rattle.sym_insns.specs.Effects as spec
use Rattle.sym_insns.specs.declared.before.Before.{Before}
use Rattle.sym_insns.specs.declared.effect.EffectOf.{EffectOf}
use Rattle.sym_insns.specs.declared.effect.EffectOf.TheVariants.{Nothing, Sets, Unsets, Stores}
use Rattle.sym_insns.specs.declared.effect.EffectedOf.{EffectedOf}

-- the registers that were changed before an instruction
abbrev pub regs_of : Before → List Changed
regs_of before = map changed_of before.regs.now

-- the stores before an instruction
abbrev pub stores_of : Before → List Store
stores_of before = map store_of before.stores.now

-- a term with what it needs, and the needs before and after it was made
pub record IsMade (before after : List NeedOf) (term : Tree) (made : Made) : Type 0 where
  pub term_is : term ≡ made.term
  pub needs_are : map need_of after ≡ map need_of before ++ made.needs

-- the address of a place in memory, so many bits of which are written
abbrev pub at_place : Made → Width → Made
at_place address w =
    record { term = address.term; needs = address.needs ++ Access address.term w ∷ [] }

-- an expression as its outside reads it, by its own mode and what is made of it
abbrev pub reading_by_mode : List Changed → List Store → Rtx → Reading
reading_by_mode regs stores x =
    record { width = width_of (out-Rtx x).mode; made = made_of regs stores x }

abbrev pub effect_view : EffectOf → spec.Effect
effect_view Nothing = spec.Nothing
effect_view (Sets reg value) = spec.Sets reg (tree_of value)
effect_view (Unsets reg) = spec.Unsets reg
effect_view (Stores address value) = spec.Stores (tree_of address) (tree_of value)

abbrev pub effected_view : EffectedOf → spec.Effected
effected_view e = record { effect = effect_view e.effect; needs = map need_of e.needs }

-- an effect made, without its needs
abbrev pub with_effect : spec.Effect → State → State
with_effect e s = record s { regs = spec.reg_after e s.regs; stores = spec.store_after e s.stores }

-- where it leads noted, without its needs
abbrev pub with_jump : Tree → Rtx → State → State
with_jump condition label s =
    record s { jump = record { condition = condition; target = spec.target_uid label } }

-- a call made, without its needs
abbrev pub with_call : Call → State → State
with_call call s = record s { regs = left_by_call s.regs; call = Some call }

-- arguments with what they need
pub record AreArgs (before after : List NeedOf) (args : List SymArg) (made : List Arg)
    (needs : List Need) : Type 0 where
  pub args_are : map arg_of args ≡ made
  pub needs_are : map need_of after ≡ map need_of before ++ needs

-- a call with what it needs
pub record IsCall (before after : List NeedOf) (call : SymCall) (target : Made)
    (result : Option Mode) (args : List Arg) (needs : List Need) : Type 0 where
  pub call_is : call_of call ≡ record { target = target.term; result = result; args = args }
  pub needs_are : map need_of after ≡ map need_of before ++ (target.needs ++ needs)
