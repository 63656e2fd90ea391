-- What instructions or lines come to, as terms over what registers, symbols and memory were before
-- the first of them: the registers that were changed, the stores in their order, where it leads,
-- what is called, and what has to be there for each step to have a meaning. (GCC Internals, "Side
-- Effect Expressions" says what an instruction may do.)
use Rattle.std.specs.Prelude.{ℕ, ◌&&◌, Bool, true, List, [], ◌∷◌, Option, Some, None}
use Rattle.std.specs.List.{list_all}
use Rattle.bits64.specs.declared.Width.{Width}
use Rattle.bits64.specs.declared.Width.TheVariants.{W8, W64}
use Rattle.rtx_tree.specs.declared.code.Mode.{Mode}
use Rattle.term_tree.specs.declared.head.Head.TheVariants as heads
use Rattle.term_tree.specs.Tree.{Tree, Node, no_trees}
use Rattle.term_tree.specs.Small.{is_small}
use Rattle.sym_term.specs.term_mean.Sums.{constant}
use Rattle.sym_term.specs.term_mean.Stores.{Store}

-- ---- terms that stand for what was there at first

-- a register, in 64 bits
abbrev pub own_register : ℕ → Tree
own_register reg = Node heads.Reg W64 reg [] no_trees

-- the address of a symbol
abbrev pub own_symbol : List ℕ → Tree
own_symbol name = Node heads.Sym W64 0 name no_trees

-- what stands for a term that there is not
abbrev pub nothing : Tree
nothing = constant W8 0

-- ---- the parts of a state

-- a register that was changed: the bits that are known of it, or none where it is unset
pub record Changed : Type 0 where
  pub reg : ℕ
  pub value : Option Tree

-- where it leads: to a label, where the condition is not 0
pub record Jump : Type 0 where
  pub condition : Tree
  pub target : Option ℕ

-- an argument of a call, in the bits that are handed over
pub record Arg : Type 0 where
  pub reg : ℕ
  pub value : Tree

-- a call: the address, the mode in which a result is taken, and the arguments
pub record Call : Type 0 where
  pub target : Tree
  pub result : Option Mode
  pub args : List Arg

-- What has to be there. A register has so many known bits; more bits of a register than the same
-- instructions left known, which is never met; so many bits in memory at an address; a divisor that
-- is not 0; and an address for a symbol.
pub data Need : Type 0 where
  Register : ℕ → Width → Need
  Lost : ℕ → Width → Need
  Access : Tree → Width → Need
  Divisor : Tree → Need
  Symbol : List ℕ → Need

-- a need, and the place of the instruction or line that has it
pub record NeedAt : Type 0 where
  pub index : ℕ
  pub what : Need

pub record State : Type 0 where
  pub regs : List Changed
  pub stores : List Store
  pub jump : Jump
  pub call : Option Call
  pub needs : List NeedAt

-- a step that leads on to what follows
abbrev pub falls : Jump
falls = record { condition = nothing; target = None }

-- before the first instruction or line
abbrev pub start : State
start = record { regs = []; stores = []; jump = falls; call = None; needs = [] }

-- the needs of an instruction or line at a place
abbrev pub needs_at : ℕ → List Need → List NeedAt
needs_at index [] = []
needs_at index (need ∷ needs) = record { index = index; what = need } ∷ needs_at index needs

-- ---- how large a state is

abbrev pub is_small_value : Option Tree → Bool
is_small_value None = true
is_small_value (Some t) = is_small t

abbrev pub is_small_store : Store → Bool
is_small_store s = is_small s.0 && is_small s.1

abbrev pub is_small_call : Option Call → Bool
is_small_call None = true
is_small_call (Some call) = is_small call.target && list_all (λ a. is_small a.value) call.args

abbrev pub is_small_need : Need → Bool
is_small_need (Access address w) = is_small address
is_small_need (Divisor term) = is_small term
is_small_need _ = true

-- each term of a state is within the limit
abbrev pub is_within : State → Bool
is_within s =
    list_all (λ c. is_small_value c.value) s.regs && (list_all is_small_store s.stores &&
    (is_small s.jump.condition && (is_small_call s.call && list_all (λ n. is_small_need n.what) s.needs)))

-- ---- what a side of a comparison comes to

-- a state; a part that can't be compared, at a place; or a term that is too large
pub data Ran : Type 0 where
  Runs : State → Ran
  BadShape : ℕ → Ran
  TooLarge : Ran

-- shapes are looked at first
abbrev pub ran : Option ℕ → Option State → Ran
ran (Some index) s = BadShape index
ran None None = TooLarge
ran None (Some s) = Runs s
