-- What the private functions find.
use Rattle.std.specs.Prelude.{◌≡◌, ◌⊎◌, ℕ, ◌+◌, ◌<◌, ◌≤◌, List, [], Option, Some, None}
use Rattle.rtx_tree.specs.declared.tree.Rtx.{Rtx}
use Rattle.rtx_tree.specs.declared.function.Insn.{Insn}
use Rattle.rtx_tree.specs.declared.function.Function.{Function}
use Rattle.new_insns.specs.Replaced.{window}
use Rattle.equate.specs.Side.{Insns}
use Rattle.equate.specs.declared.verdict.Side.{Side}
use Rattle.equate.specs.declared.verdict.Side.TheVariants as side
use Rattle.equate.specs.Equated.{Equated}
use Rattle.md_forms.specs.declared.form.Entry.{Entry}
use Rattle.law_window_put.specs.Put.{IsPut}
use Rattle.combine.specs.Combine.{fused_window, Links, Makes, Combines, NoneLeft}
use Rattle.combine.specs.declared.link.Link.{Link}
use Rattle.combine.specs.declared.search.Pair.{Pair}

-- ---- what is compared

-- the instructions of a side
abbrev pub insns_in : Side → List Insn
insns_in (side.Insns insns) = insns
insns_in (side.Lines function lines) = []

-- ---- a pair

-- by which register and path two places are linked, or that they are not
abbrev pub Linked : Function → ℕ → ℕ → Option Link → Type 0
Linked f first second None =
    (register : ℕ) (path : List ℕ) → Links f first second register path → ⊥
Linked f first second (Some l) = Links f first second l.register l.path

-- their pattern, or that there is none
abbrev pub Made : List Entry → Function → ℕ → ℕ → List ℕ → Option Rtx → Type 0
Made forms f first second path None = (x : Rtx) → Makes forms f first second path x → ⊥
Made forms f first second path (Some x) = Makes forms f first second path x

-- what is equated with a window, with a pattern in its last, or that it is not
abbrev pub Compared : List Insn → Rtx → List ℕ → Option (List Insn) → Type 0
Compared old x live None = Equated old (Insns (fused_window x old)) live → ⊥
Compared old x live (Some new) =
    Equated old (Insns (fused_window x old)) live × (new ≡ fused_window x old)

-- and with the window between two places
abbrev pub PutBetween : Function → ℕ → ℕ → Rtx → Option (List Insn) → Type 0
PutBetween f first end x None = IsPut f first end (fused_window x (window f first end)) → ⊥
PutBetween f first end x (Some new) =
    IsPut f first end (fused_window x (window f first end))
    × (new ≡ fused_window x (window f first end))

-- the instructions in the place of the window of a pair
pub record IsPair (forms : List Entry) (f : Function) (first second : ℕ) (new : List Insn) :
    Type 0 where
  pub pattern : Rtx
  pub combines : Combines forms f first second pattern
  pub new_is : new ≡ fused_window pattern (window f first (second + 1))

abbrev pub Tried : List Entry → Function → ℕ → ℕ → Option (List Insn) → Type 0
Tried forms f first second None = (x : Rtx) → Combines forms f first second x → ⊥
Tried forms f first second (Some new) = IsPair forms f first second new

-- ---- the search

-- no pair with this second can be combined whose first stands at a place or behind it
abbrev pub NoneFrom : List Entry → Function → ℕ → ℕ → Type 0
NoneFrom forms f second place =
    (first : ℕ) (x : Rtx) → place ≤ first → Combines forms f first second x → ⊥

-- the pair with this second whose first stands last
pub record IsLast (forms : List Entry) (f : Function) (second : ℕ) (p : Pair) : Type 0 where
  pub second_is : p.second ≡ second
  pub pair : IsPair forms f p.first second p.new
  pub last : NoneFrom forms f second (p.first + 1)

abbrev pub LastPair : List Entry → Function → ℕ → Option Pair → Type 0
LastPair forms f second None = NoneFrom forms f second 0
LastPair forms f second (Some p) = IsLast forms f second p

-- the pair that is next
pub record IsNext (forms : List Entry) (f : Function) (p : Pair) : Type 0 where
  pub pair : IsPair forms f p.first p.second p.new
  pub chosen : (i j : ℕ) (x : Rtx) → Combines forms f i j x →
      (p.second < j) ⊎ ((p.second ≡ j) × (i ≤ p.first))

abbrev pub NextPair : List Entry → Function → Option Pair → Type 0
NextPair forms f None = NoneLeft forms f
NextPair forms f (Some p) = IsNext forms f p
