-- What meaning needs of a plan: GCC Internals, "RTL passes" (reload), "Side Effect Expressions"
-- (`parallel`: all sources are taken before anything is changed). Of constraints, digits and cost
-- meaning needs nothing.
use Rattle.std.specs.Prelude.{◌≡◌, ℕ, ◌≤◌, Bool, true, false, Some, is_some, length, slice_get}
use Rattle.rtx_tree.specs.declared.tree.Rtx.{out-Rtx}
use Rattle.c_eval.specs.Value.{same_tree}
use Rattle.reload_operands.specs.declared.operand.Operand.{Operand}
use Rattle.reload_moves.specs.declared.part.Part.{Part}
use Rattle.reload_moves.specs.declared.ask.Ask.{Ask}
use Rattle.reload_choice.specs.declared.given.Given.{Given}
use Rattle.reload_choice.specs.declared.given.Plan.{Plan}
use Rattle.reload_moves.specs.Registers.{asks_of, is_asked, register_for, is_result}
use Rattle.reload_choice.specs.Movable.{is_mode, is_formed, stays_formed, may_end, may_share, share, is_clear}
use Rattle.reload_fit.specs.Addressed.{far_offset}
use Rattle.reload_fit.specs.Fitting.{is_memory_code, slot_far_of}

-- a part of the plan, with its operand
pub record IsPart (given : Given) (plan : Plan) (at : ℕ) (p : Part) (x : Operand) : Type 0 where
  pub stands : slice_get plan.parts at ≡ Some p
  pub of : slice_get given.operands p.place ≡ Some x

-- what a part says of its operand
pub record SaysOf (p : Part) (x : Operand) : Type 0 where
  pub input : p.needs.is_input ≡ x.is_input
  pub output : p.needs.is_output ≡ x.is_output
  pub far : p.needs.far ≡ far_offset x.tree
  pub slot_far : p.needs.slot_far ≡ slot_far_of x.base
  pub base : p.needs.has_base ≡ true → is_some x.base ≡ true
  -- memory that is no operator has a register for its base where a slot holds it
  pub unbased : p.needs.has_base ≡ false → x.is_operator ≡ false →
      is_memory_code (out-Rtx x.tree).code ≡ true → is_some x.base ≡ false

pub record IsSoundPlan (given : Given) (plan : Plan) : Type 0 where
  -- each operand has its part, in their order
  pub covers : length plan.parts ≡ length given.operands
  pub in_order : (i : ℕ) (p : Part) → slice_get plan.parts i ≡ Some p → p.place ≡ i
  pub says : (i : ℕ) (p : Part) (x : Operand) → IsPart given plan i p x → SaysOf p x
  -- operands with one holder are moved both or neither, and those that aren't moved are the same
  pub together : (i j : ℕ) (p q : Part) (x y : Operand) → IsPart given plan i p x →
      IsPart given plan j q y → p.holder ≡ q.holder → p.is_moved ≡ q.is_moved
  pub kept : (i j : ℕ) (p q : Part) (x y : Operand) → IsPart given plan i p x →
      IsPart given plan j q y → p.holder ≡ q.holder → p.is_moved ≡ false →
      same_tree x.tree y.tree ≡ true
  -- four registers suffice
  pub few : length (asks_of plan.parts) ≤ 4
  -- what asks for a register has one of t3 to t6
  pub least : (a : Ask) → is_asked (asks_of plan.parts) a ≡ true →
      28 ≤ register_for (asks_of plan.parts) a
  pub greatest : (a : Ask) → is_asked (asks_of plan.parts) a ≡ true →
      register_for (asks_of plan.parts) a ≤ 31
  -- no two asks have the same register
  pub apart : (a b : Ask) → is_asked (asks_of plan.parts) a ≡ true →
      is_asked (asks_of plan.parts) b ≡ true →
      register_for (asks_of plan.parts) a ≡ register_for (asks_of plan.parts) b → a ≡ b
  -- of two that share a register, inputs are the same and moved in one mode, outputs are the same,
  -- and none is beside a scratch
  pub shared : (i j : ℕ) (p q : Part) (x y : Operand) → IsPart given plan i p x →
      IsPart given plan j q y → share p q ≡ true → may_share x y ≡ true
  -- what is moved is no operator, the pattern says what is done with it, and it has a mode
  pub operator : (i : ℕ) (p : Part) (x : Operand) → IsPart given plan i p x → p.is_moved ≡ true →
      x.is_operator ≡ false
  pub shown : (i : ℕ) (p : Part) (x : Operand) → IsPart given plan i p x → p.is_moved ≡ true →
      x.is_hidden ≡ false
  pub moded : (i : ℕ) (p : Part) (x : Operand) → IsPart given plan i p x → p.is_moved ≡ true →
      is_mode x.mode ≡ true
  -- with all that is new in it the instruction is within the table of codes, and of its kind
  pub whole : stays_formed given plan.parts ≡ true
  -- with t3 in the places of what is moved the instruction is within the table of codes, and of its
  -- kind
  pub formed : (i : ℕ) (p : Part) (x : Operand) → IsPart given plan i p x → p.is_moved ≡ true →
      is_formed given x ≡ true
  -- what is moved after the instruction may end there
  pub results : (i : ℕ) (p : Part) (x : Operand) → IsPart given plan i p x → is_result p ≡ true →
      may_end given x ≡ true
  -- what is moved or has a register in its address stands in no low part
  pub moved_clear : (i : ℕ) (p : Part) (x : Operand) → IsPart given plan i p x → p.is_moved ≡ true →
      x.in_lowpart ≡ false
  pub clear : (i : ℕ) (p : Part) (x : Operand) → IsPart given plan i p x → is_clear p x ≡ true
