-- What operands of the right shape come to, by whether predicates and the condition admit them.
use Rattle.std.proofs.Common.{◌≡◌, ◌↔◌, Bool, true, false, List, Option, Some, None, sym, subst, ◌∙◌}
use Rattle.rtx_tree.specs.declared.tree.Rtx.{Rtx}
use Rattle.c_cond.specs.declared.tree.Tree.{Tree}
use Rattle.c_eval.specs.declared.facts.Facts.{Facts}
use Rattle.md_match.specs.Pattern.{Ops}
use Rattle.md_match.specs.Match.{Matches}
use Rattle.md_match.specs.machine.Collected.{MakesAll}
use Rattle.md_recog.specs.Match.{Accepts, is_met, IsMatch}
use Rattle.md_recog.proofs.Placed.{TellsAll}

-- which operands have the shape
abbrev pub HasShape : List Rtx → List Rtx → Option Ops → Type 0
HasShape p i r = (o : Ops) → (r ≡ Some o) ↔ Matches p i o

-- which operands match
abbrev pub Matched : Accepts → Facts → List Rtx → Tree → List Rtx → Option Ops → Type 0
Matched a f p c i r = (o : Ops) → (r ≡ Some o) ↔ IsMatch a f p c i o

makes_it : (p i : List Rtx) (o : Ops) → Matches p i o → MakesAll p i o
makes_it p i o m = record { made = m.made; fit = m.suits.asked }

-- without the shape nothing matches
pub shapeless : (a : Accepts) (f : Facts) (p : List Rtx) (c : Tree) (i : List Rtx) → HasShape p i None → Matched a f p c i None
shapeless a f p c i shape o = (λ e. absurd (let none : ⊥ = cc in none), λ m. (shape o).1 m.shape)

-- where a predicate refuses what stands in the place of its operand, nothing matches
pub untaken : (a : Accepts) (f : Facts) (p : List Rtx) (c : Tree) (i : List Rtx) → TellsAll a p i false → Matched a f p c i None
untaken a f p c i tells o = (
  λ e. absurd (let none : ⊥ = cc in none),
  λ m. absurd (let both : false ≡ true = tells o (makes_it p i o m.shape) ∙ m.accepted in let none : ⊥ = cc in none),
)

-- the operands of the shape match where the condition is met
pub admitting : (a : Accepts) (f : Facts) (p : List Rtx) (c : Tree) (i : List Rtx) (x : Ops) → HasShape p i (Some x) → TellsAll a p i true → is_met a f c x ≡ true → Matched a f p c i (Some x)
admitting a f p c i x shape tells e o = (
  λ same. matching ((shape o).0 same) (let one : x ≡ o = cc in subst (λ (o : Ops). is_met a f c o ≡ true) one e),
  λ m. (shape o).1 m.shape,
)
  where
    matching : Matches p i o → is_met a f c o ≡ true → IsMatch a f p c i o
    matching m h = record { shape = m; accepted = sym (tells o (makes_it p i o m)); holds = h }

-- and where it is not, nothing does
pub refusing : (a : Accepts) (f : Facts) (p : List Rtx) (c : Tree) (i : List Rtx) (x : Ops) → HasShape p i (Some x) → is_met a f c x ≡ false → Matched a f p c i None
refusing a f p c i x shape e o = (λ none. absurd (let none : ⊥ = cc in none), λ m. absurd (clash ((shape o).1 m.shape) m.holds))
  where
    clash : Some x ≡ Some o → is_met a f c o ≡ true → ⊥
    clash same t = let one : x ≡ o = cc in let both : true ≡ false = sym t ∙ subst (λ (o : Ops). is_met a f c o ≡ false) one e in let none : ⊥ = cc in none
