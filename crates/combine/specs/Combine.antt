-- Instruction combination: GCC Internals, "Passes and Files of the Compiler". Of two instructions
-- of a block the first sets a pseudo register that the second alone reads: the second with the
-- first's source in its place stands for both, where a form matches it and it is equated.
use Rattle.std.specs.Prelude.{◌≡◌, ◌⊎◌, ℕ, zero, suc, ◌+◌, ◌<◌, ◌≤◌, max, Bool, true, false, ◌&&◌, not, List, [], ◌∷◌, Some, slice_get}
use Rattle.rtx_tree.specs.declared.tree.Rtx.{Rtx}
use Rattle.rtx_tree.specs.declared.tree.Rtx.TheFolds.{fold-Rtx}
use Rattle.rtx_tree.specs.declared.function.Kind.{Kind}
use Rattle.rtx_tree.specs.declared.function.Kind.TheVariants.{Plain, Barrier}
use Rattle.rtx_tree.specs.declared.function.Insn.{Insn}
use Rattle.rtx_tree.specs.declared.function.Function.{Function}
use Rattle.rtx_tree.specs.Limit.{most_apart, most_combined}
use Rattle.rtx_tree.specs.Patterns.{with_pattern}
use Rattle.rtx_tree.specs.Tree.{kids_of}
use Rattle.reg_uses.specs.Uses.{insn_uses, insn_defines}
use Rattle.live.specs.Live.{IsLiveAfter}
use Rattle.new_insns.specs.Replaced.{window, replaced}
use Rattle.insn_fuse.specs.Fused.{set_of, reads_at, fused}
use Rattle.form_needs.specs.Needs.{is_kind, lower_facts}
use Rattle.md_match.specs.Pattern.{Ops}
use Rattle.md_forms.specs.declared.form.Entry.{Entry}
use Rattle.md_desc.specs.Recog.{MatchesAt}
use Rattle.law_window_put.specs.Put.{IsPut}

-- ---- the window

-- the window without its first, and with another pattern in its last
abbrev pub with_last : Rtx → List Insn → List Insn
with_last x [] = []
with_last x (i ∷ []) = with_pattern i x ∷ []
with_last x (i ∷ j ∷ window) = i ∷ with_last x (j ∷ window)

abbrev pub fused_window : Rtx → List Insn → List Insn
fused_window x [] = []
fused_window x (i ∷ window) = with_last x window

-- the function in which two instructions are one
abbrev pub combined_at : Function → ℕ → ℕ → Rtx → Function
combined_at f first second x =
    replaced f first (second + 1) (fused_window x (window f first (second + 1)))

-- ---- how deep

abbrev pub deepest : List ℕ → ℕ
deepest [] = 0
deepest (n ∷ ns) = max n (deepest ns)

-- the expressions of a tree that stand within each other
unfoldable pub levels : Rtx → ℕ
levels = fold-Rtx ℕ (λ x. suc (deepest x.kids))

-- ---- two that are linked

-- no label, no jump and no call: what may stand between the two of a pair
abbrev pub stands_between : Kind → Bool
stands_between Plain = true
stands_between Barrier = true
stands_between _ = false

-- the instruction neither uses nor defines the register, and leads on to the next alone
abbrev pub passes : ℕ → Insn → Bool
passes reg i = stands_between i.kind && not (insn_uses i reg) && not (insn_defines i reg)

-- what stands between two places leaves a register alone
abbrev pub PassesBetween : Function → ℕ → ℕ → ℕ → Type 0
PassesBetween f first second reg =
    (place : ℕ) (i : Insn) → first < place → place < second → slice_get f.insns place ≡ Some i →
    passes reg i ≡ true

-- The first sets a pseudo register, which the second reads at one path, and which nothing between
-- them reads or sets. Both stand in one block.
pub record Links (f : Function) (first second register : ℕ) (path : List ℕ) : Type 0 where
  pub one : Insn
  pub other : Insn
  pub at_first : slice_get f.insns first ≡ Some one
  pub at_second : slice_get f.insns second ≡ Some other
  pub sets : set_of one ≡ Some register
  pub kind_is : is_kind other.kind ≡ true
  pub once : reads_at register other.pattern ≡ path ∷ []
  pub between : PassesBetween f first second register

-- the register is dead behind a place, or the instruction there sets it
abbrev pub IsDeadBehind : Function → ℕ → ℕ → Type 0
IsDeadBehind f register place =
    (i : Insn) → slice_get f.insns place ≡ Some i → insn_defines i register ≡ false →
    IsLiveAfter f register place → ⊥

-- ---- their pattern

-- some form matches a pattern that is not too deep
pub record IsFormed (forms : List Entry) (x : Rtx) : Type 0 where
  pub shallow : levels x ≤ most_combined
  pub form : ℕ
  pub operands : Ops
  pub matches : MatchesAt forms lower_facts x form operands

-- the second's pattern with the first's source at a path, simplified
pub record Makes (forms : List Entry) (f : Function) (first second : ℕ) (path : List ℕ) (x : Rtx) : Type 0 where
  pub one : Insn
  pub other : Insn
  pub at_first : slice_get f.insns first ≡ Some one
  pub at_second : slice_get f.insns second ≡ Some other
  pub source : Rtx
  pub source_is : slice_get (kids_of one.pattern) 1 ≡ Some source
  pub made : x ≡ fused other.pattern path source
  pub formed : IsFormed forms x

-- ---- a pair

-- two instructions of a function can be combined into one with this pattern
pub record Combines (forms : List Entry) (f : Function) (first second : ℕ) (x : Rtx) : Type 0 where
  pub before : first < second
  pub near : second ≤ first + most_apart
  pub register : ℕ
  pub path : List ℕ
  pub links : Links f first second register path
  pub dead : IsDeadBehind f register second
  pub makes : Makes forms f first second path x
  pub put : IsPut f first (second + 1) (fused_window x (window f first (second + 1)))

-- no pair whose second stands in front of a place can be combined
abbrev pub NoneBefore : List Entry → Function → ℕ → Type 0
NoneBefore forms f place =
    (first second : ℕ) (x : Rtx) → second < place → Combines forms f first second x → ⊥

abbrev pub NoneLeft : List Entry → Function → Type 0
NoneLeft forms f = (first second : ℕ) (x : Rtx) → Combines forms f first second x → ⊥

-- ---- all of them

-- of the pairs that can be combined the one whose second stands first, and of these the one whose
-- first stands last
pub record IsStep (forms : List Entry) (f g : Function) : Type 0 where
  pub first : ℕ
  pub second : ℕ
  pub pattern : Rtx
  pub combines : Combines forms f first second pattern
  pub chosen : (i j : ℕ) (x : Rtx) → Combines forms f i j x →
      (second < j) ⊎ ((second ≡ j) × (i ≤ first))
  pub makes : g ≡ combined_at f first second pattern

-- so many steps
pub data Steps (forms : List Entry) : ℕ → Function → Function → Type 0 where
  none : (f : Function) → Steps forms zero f f
  step : (n : ℕ) (f g h : Function) → IsStep forms f g → Steps forms n g h →
      Steps forms (suc n) f h

-- steps until no pair is left
abbrev pub Combined : List Entry → ℕ → Function → Function → Type 0
Combined forms n f g = Steps forms n f g × NoneLeft forms g
