-- When two symbolic states agree, item by item, over the registers that are live behind; and which
-- item is the first in which they do not.
use Rattle.std.specs.Prelude.{◌≡◌, ◌≢◌, ℕ, ◌<◌, ◌≤◌, Bool, true, false, List, take, slice_get, Option, Some, None, is_some}
use Rattle.std.specs.List.{list_all}
use Rattle.bits64.specs.declared.Width.TheVariants.{W64}
use Rattle.rtx_tree.specs.Registers.{virtual_stack_vars}
use Rattle.term_tree.specs.Tree.{Tree, width_of}
use Rattle.term_tree.specs.Form.{narrower}
use Rattle.term_mean.specs.Sums.{constant}
use Rattle.term_mean.specs.Compared.{low_bits}
use Rattle.term_text.specs.declared.item.Item.TheVariants as item
use Rattle.sym_state.specs.State.{State, Jump, Call, NeedAt}
use Rattle.sym_state.specs.Registers.{held}
use Rattle.sym_diff.specs.Difference.{Difference, Differ, Lacks}
use Rattle.sym_diff.specs.Registers.{value_behind, is_live, is_free, one_calls, is_passed_over}
use Rattle.sym_diff.specs.Compared.{target_term, arg_at, arg_beside, result_bits, is_covered}

-- ---- registers

-- as many bits are known as a term has, and the same ones
abbrev pub Knows : Option Tree → Tree → Type 0
Knows None t = ⊥
Knows (Some u) t = (narrower (width_of u) (width_of t) ≡ false) × (low_bits (width_of t) u ≡ t)

-- What is live and known on the first side is known on the second; and what the first side leaves
-- alone is changed on the second only where it is free and not live.
pub record AgreesIn (live : List ℕ) (a b : State) (reg : ℕ) : Type 0 where
  pub known : is_live live reg ≡ true → (t : Tree) → value_behind (held a.regs reg) reg ≡ Some t →
      Knows (value_behind (held b.regs reg) reg) t
  pub kept : reg ≤ virtual_stack_vars → held a.regs reg ≡ None → is_some (held b.regs reg) ≡ true →
      (is_free reg ≡ true) × (is_live live reg ≡ false)

-- behind a call nothing is asked of the registers that it may change
abbrev pub RegisterAgrees : List ℕ → State → State → ℕ → Type 0
RegisterAgrees live a b reg = is_passed_over (one_calls a b) reg ≡ false → AgreesIn live a b reg

abbrev pub RegistersAgree : List ℕ → State → State → Type 0
RegistersAgree live a b = (reg : ℕ) → RegisterAgrees live a b reg

-- ---- the jump, the call, the needs

abbrev pub JumpsAgree : Jump → Jump → Type 0
JumpsAgree a b = (a.condition ≡ b.condition) × (target_term a.target ≡ target_term b.target)

-- The targets; what the first hands over, which lines hand over with other bits above; and of
-- instructions what the second hands over, and the widths of the results.
pub record SameCall (of_lines : Bool) (a b : Call) : Type 0 where
  pub target : a.target ≡ b.target
  pub args : (reg : ℕ) (t : Tree) → arg_at a.args reg ≡ Some t →
      arg_beside of_lines (Some t) (arg_at b.args reg) ≡ Some t
  pub more : of_lines ≡ false → (reg : ℕ) (u : Tree) → arg_at b.args reg ≡ Some u →
      arg_at a.args reg ≡ Some u
  pub result : of_lines ≡ false →
      constant W64 (result_bits a.result) ≡ constant W64 (result_bits b.result)

abbrev pub CallsAgree : Bool → Option Call → Option Call → Type 0
CallsAgree of_lines None None = Unit {0}
CallsAgree of_lines (Some a) None = ⊥
CallsAgree of_lines None (Some b) = ⊥
CallsAgree of_lines (Some a) (Some b) = SameCall of_lines a b

abbrev pub NeedsAgree : List NeedAt → List NeedAt → Type 0
NeedsAgree had needs = list_all (λ n. is_covered had n.what) needs ≡ true

-- ---- all of them

pub record Agree (of_lines : Bool) (live : List ℕ) (a b : State) : Type 0 where
  pub registers : RegistersAgree live a b
  pub stores : a.stores ≡ b.stores
  pub jumps : JumpsAgree a.jump b.jump
  pub calls : CallsAgree of_lines a.call b.call
  pub needs : NeedsAgree a.needs b.needs

-- the item that a difference tells fails, and all before it agree
abbrev pub FirstFails : Bool → List ℕ → State → State → Difference → Type 0
FirstFails of_lines live a b (Differ (item.Register reg) left right) =
    ((r : ℕ) → r < reg → RegisterAgrees live a b r) × ¬ RegisterAgrees live a b reg
FirstFails of_lines live a b (Differ (item.Store index) left right) =
    RegistersAgree live a b × (take index a.stores ≡ take index b.stores) ×
    (slice_get a.stores index ≢ slice_get b.stores index)
FirstFails of_lines live a b (Differ item.Jump left right) =
    RegistersAgree live a b × (a.stores ≡ b.stores) × ¬ JumpsAgree a.jump b.jump
FirstFails of_lines live a b (Differ item.Call left right) =
    RegistersAgree live a b × (a.stores ≡ b.stores) × JumpsAgree a.jump b.jump ×
    ¬ CallsAgree of_lines a.call b.call
FirstFails of_lines live a b (Differ item.Need left right) = ⊥
FirstFails of_lines live a b (Differ (item.Shape index) left right) = ⊥
FirstFails of_lines live a b (Lacks term) =
    RegistersAgree live a b × (a.stores ≡ b.stores) × JumpsAgree a.jump b.jump ×
    CallsAgree of_lines a.call b.call × ¬ NeedsAgree a.needs b.needs

-- nothing is found where the states agree; what is found is the first that fails
abbrev pub Tells : Bool → List ℕ → State → State → Option Difference → Type 0
Tells of_lines live a b None = Agree of_lines live a b
Tells of_lines live a b (Some d) = FirstFails of_lines live a b d
