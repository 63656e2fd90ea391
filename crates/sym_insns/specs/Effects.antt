-- What an instruction does to a symbolic state: GCC Internals, "Side Effect Expressions". All terms
-- are made by the state before it; then all effects are made.
use Rattle.std.specs.Prelude.{ℕ, ◌^◌, nat_lt, if◌then◌else◌, List, [], ◌∷◌, ◌++◌, map, Bool, Option, Some, None, is_some, option_and_then}
use Rattle.bits64.specs.declared.Width.{Width}
use Rattle.bits64.specs.declared.Width.TheVariants.{W8, W64}
use Rattle.rtx_tree.specs.Patterns.{label_of}
use Rattle.rtx_tree.specs.declared.code.Code.{Code}
use Rattle.rtx_tree.specs.declared.code.Code.TheVariants.{Mem, Scratch, Set, Use, Clobber, Parallel, IfThenElse}
use Rattle.rtx_tree.specs.declared.code.Mode.{Mode}
use Rattle.rtx_tree.specs.declared.function.ArgUse.{ArgUse}
use Rattle.rtx_tree.specs.declared.tree.Rtx.{Rtx, out-Rtx}
use Rattle.rtl_step.specs.Value.{width_of}
use Rattle.rtl_step.specs.Effect.{register_of, address_of}
use Rattle.rtl_step.specs.Call.{target_of, call_part}
use Rattle.term_tree.specs.Tree.{Tree}
use Rattle.term_mean.specs.Stores.{Store}
use Rattle.term_mean.specs.Sums.{constant}
use Rattle.sym_state.specs.State.{Changed, Need, Lost, Access, Arg, State, nothing, needs_at}
use Rattle.sym_state.specs.Registers.{put, left_by_call, read, read_needs}
use Rattle.sym_insns.specs.Value.{Made, made_of}

-- ---- one effect

-- what one part of an instruction does
pub data Effect : Type 0 where
  Nothing : Effect
  Sets : ℕ → Tree → Effect
  Unsets : ℕ → Effect
  Stores : Tree → Tree → Effect

pub record Effected : Type 0 where
  pub effect : Effect
  pub needs : List Need

-- what has no effect needs what nothing meets
abbrev pub no_effect : Effected
no_effect = record { effect = Nothing; needs = Lost 0 W8 ∷ [] }

-- an effect without needs
abbrev pub simply : Effect → Effected
simply effect = record { effect = effect; needs = [] }

abbrev pub set_register : Option ℕ → Made → Effected
set_register None source = no_effect
set_register (Some reg) source = record { effect = Sets reg source.term; needs = source.needs }

abbrev pub set_memory : Made → Made → Width → Effected
set_memory address source w = record {
  effect = Stores address.term source.term;
  needs = source.needs ++ (address.needs ++ Access address.term w ∷ []);
}

abbrev pub set_place : Option Rtx → List Changed → List Store → Rtx → Rtx → Width → Effected
set_place None regs stores place source w =
    set_register (register_of place) (made_of regs stores source w)
set_place (Some address) regs stores place source w =
    set_memory (made_of regs stores address W64) (made_of regs stores source w) w

abbrev pub set_in : Option Width → List Changed → List Store → Rtx → Rtx → Effected
set_in None regs stores place source = no_effect
set_in (Some w) regs stores place source = set_place (address_of place) regs stores place source w

-- (set PLACE SOURCE)
abbrev pub set_effect : List Changed → List Store → Rtx → Rtx → Effected
set_effect regs stores place source =
    set_in (width_of (out-Rtx place).mode) regs stores place source

abbrev pub unset : Option ℕ → Effected
unset None = no_effect
unset (Some reg) = simply (Unsets reg)

-- (clobber PLACE): a register is unset; memory is left, and a scratch is none
abbrev pub clobber_by : Code → Option ℕ → Effected
clobber_by Mem reg = simply Nothing
clobber_by Scratch reg = simply Nothing
clobber_by _ reg = unset reg

abbrev pub clobber_effect : Rtx → Effected
clobber_effect place = clobber_by (out-Rtx place).code (register_of place)

abbrev pub effect_by : Code → List Rtx → List Changed → List Store → Effected
effect_by Set (place ∷ source ∷ []) regs stores = set_effect regs stores place source
effect_by Use (x ∷ []) regs stores = simply Nothing
effect_by Clobber (place ∷ []) regs stores = clobber_effect place
effect_by _ parts regs stores = no_effect

-- the effect of a `set`, a `use` or a `clobber`
abbrev pub effect_of : List Changed → List Store → Rtx → Effected
effect_of regs stores x = effect_by (out-Rtx x).code (out-Rtx x).kids regs stores

-- ---- all effects of an instruction

abbrev pub effects_by : Code → Rtx → List Changed → List Store → List Effected
effects_by Parallel x regs stores = map (effect_of regs stores) (out-Rtx x).kids
effects_by _ x regs stores = effect_of regs stores x ∷ []

-- the effects of an instruction that goes on to the next, all by one state
abbrev pub effects_of : List Changed → List Store → Rtx → List Effected
effects_of regs stores x = effects_by (out-Rtx x).code x regs stores

abbrev pub reg_after : Effect → List Changed → List Changed
reg_after (Sets reg term) regs = put regs reg (Some term)
reg_after (Unsets reg) regs = put regs reg None
reg_after _ regs = regs

abbrev pub store_after : Effect → List Store → List Store
store_after (Stores address value) stores = stores ++ (address, value) ∷ []
store_after _ stores = stores

-- one effect made, with its needs at a place
abbrev pub make : ℕ → Effected → State → State
make index e s = record s {
  regs = reg_after e.effect s.regs;
  stores = store_after e.effect s.stores;
  needs = s.needs ++ needs_at index e.needs;
}

abbrev pub make_all : ℕ → List Effected → State → State
make_all index [] s = s
make_all index (e ∷ es) s = make_all index es (make index e s)

-- a plain instruction at a place
abbrev pub after_plain : ℕ → Rtx → State → State
after_plain index x s = make_all index (effects_of s.regs s.stores x) s

-- ---- jumps ("Jump Patterns")

-- the uid of a label, which has 32 bits
abbrev pub uid_in : ℕ → Option ℕ
uid_in uid = if nat_lt uid (2 ^ 32) then Some uid else None

abbrev pub target_uid : Rtx → Option ℕ
target_uid label = option_and_then uid_in (label_of label)

abbrev pub jumps : ℕ → Made → Rtx → State → State
jumps index test label s = record s {
  jump = record { condition = test.term; target = target_uid label };
  needs = s.needs ++ needs_at index test.needs;
}

-- without a condition it is taken
abbrev pub always : Made
always = record { term = constant W8 1; needs = [] }

-- what the pc is set to: (if_then_else TEST (label_ref UID) (pc)), or (label_ref UID)
abbrev pub jump_by : Code → List Rtx → Rtx → ℕ → State → State
jump_by IfThenElse (test ∷ label ∷ other ∷ []) source index s =
    jumps index (made_of s.regs s.stores test W8) label s
jump_by _ parts source index s = jumps index always source s

abbrev pub jump_source : List Rtx → Rtx → Rtx
jump_source (place ∷ source ∷ []) x = source
jump_source parts x = x

-- the label of what the pc is set to
abbrev pub label_by : Code → List Rtx → Rtx → Rtx
label_by IfThenElse (test ∷ label ∷ other ∷ []) source = label
label_by _ parts source = source

abbrev pub jump_label : Rtx → Rtx
jump_label source = label_by (out-Rtx source).code (out-Rtx source).kids source

-- the uid of a jump's label has 32 bits
abbrev pub has_target : Rtx → Bool
has_target x = is_some (target_uid (jump_label (jump_source (out-Rtx x).kids x)))

-- (set (pc) SOURCE)
abbrev pub after_jump : ℕ → Rtx → State → State
after_jump index x s =
    let source = jump_source (out-Rtx x).kids x in
    jump_by (out-Rtx source).code (out-Rtx source).kids source index s

-- ---- calls ("Calls"; RISC-V ELF psABI, "Integer Calling Convention")

-- the mode of M in (set (reg:M a0) CALL); a call alone has none
abbrev pub result_by : Code → List Rtx → Option Mode
result_by Set (place ∷ source ∷ []) = Some (out-Rtx place).mode
result_by _ parts = None

abbrev pub result_mode : Rtx → Option Mode
result_mode x = result_by (out-Rtx x).code (out-Rtx x).kids

-- what there is not needs what nothing meets
abbrev pub missing : Made
missing = record { term = nothing; needs = Lost 0 W64 ∷ [] }

abbrev pub made_target : List Changed → List Store → Option Rtx → Made
made_target regs stores None = missing
made_target regs stores (Some x) = made_of regs stores x W64

-- an argument in its mode, without which it has no value
abbrev pub arg_in : Option Width → List Changed → ℕ → Made
arg_in None regs reg = missing
arg_in (Some w) regs reg = record { term = read regs reg w; needs = read_needs regs reg w }

abbrev pub made_arg : List Changed → ArgUse → Made
made_arg regs arg = arg_in (width_of arg.mode) regs arg.reg

abbrev pub args_of : List Changed → List ArgUse → List Arg
args_of regs [] = []
args_of regs (arg ∷ uses) =
    record { reg = arg.reg; value = (made_arg regs arg).term } ∷ args_of regs uses

abbrev pub args_needs : List Changed → List ArgUse → List Need
args_needs regs [] = []
args_needs regs (arg ∷ uses) = (made_arg regs arg).needs ++ args_needs regs uses

abbrev pub calls : ℕ → Made → Option Mode → List ArgUse → State → State
calls index target mode uses s = record s {
  regs = left_by_call s.regs;
  call = Some (record { target = target.term; result = mode; args = args_of s.regs uses });
  needs = s.needs ++ needs_at index (target.needs ++ args_needs s.regs uses);
}

abbrev pub after_call : ℕ → Rtx → List ArgUse → State → State
after_call index x uses s =
    calls index (made_target s.regs s.stores (target_of (call_part x))) (result_mode x) uses s
