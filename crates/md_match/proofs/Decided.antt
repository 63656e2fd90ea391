-- What a test of a pattern's head and parts decides.
use Rattle.std.proofs.Common.{◌≡◌, ◌↔◌, Bool, false, List, sym, subst}
use Rattle.std.specs.Prelude.{IsTrue}
use Rattle.rtx_tree.specs.declared.tree.Rtx.{Rtx}
use Rattle.rtx_tree.specs.Tree.{head_of, kids_of}
use Rattle.md_match.specs.declared.role.Role.TheVariants.{Operand, Operator, Itself}
use Rattle.md_match.specs.Pattern.{Ops, role_of}
use Rattle.md_match.specs.machine.Collected.{Makes, MakesAll, Names, NamesOperator, Asks}
use Rattle.md_match.proofs.Nodes.{operand_makes, operand_named, operand_asked, operator_makes, operator_named, operator_parts, itself_makes, itself_head, itself_parts}

refuted : (A : Type 0) → (A → ⊥) → IsTrue false ↔ A
refuted A never = (λ e. absurd (let none : ⊥ = cc in none), λ a. absurd (never a))

pub operand_not_asked : (p x : Rtx) (o : Ops) → role_of (head_of p).code ≡ Operand → (Asks (head_of p).code (head_of p).mode x → ⊥) → IsTrue false ↔ Makes p x o
operand_not_asked p x o e never = refuted (Makes p x o) (λ m. never (operand_asked p x o e m))

pub operand_decided : (p x : Rtx) (o : Ops) (b : Bool) → role_of (head_of p).code ≡ Operand → Asks (head_of p).code (head_of p).mode x → IsTrue b ↔ Names p x o → IsTrue b ↔ Makes p x o
operand_decided p x o b e asks n = (λ t. operand_makes p x o e (n.0 t) asks, λ m. n.1 (operand_named p x o e m))

pub operator_not_named : (p x : Rtx) (o : Ops) → role_of (head_of p).code ≡ Operator → (NamesOperator (head_of p).code p x o → ⊥) → IsTrue false ↔ Makes p x o
operator_not_named p x o e never = refuted (Makes p x o) (λ m. never (operator_named p x o e m))

pub operator_decided : (p x : Rtx) (o : Ops) (ps xs : List Rtx) (b : Bool) → role_of (head_of p).code ≡ Operator → NamesOperator (head_of p).code p x o → ps ≡ kids_of p → xs ≡ kids_of x → IsTrue b ↔ MakesAll ps xs o → IsTrue b ↔ Makes p x o
operator_decided p x o ps xs b e n k l all = (
  λ t. operator_makes p x o e n (subst (λ qs. MakesAll qs (kids_of x) o) k (subst (λ ys. MakesAll ps ys o) l (all.0 t))),
  λ m. all.1 (subst (λ qs. MakesAll qs xs o) (sym k) (subst (λ ys. MakesAll (kids_of p) ys o) (sym l) (operator_parts p x o e m))),
)

pub itself_other : (p x : Rtx) (o : Ops) → role_of (head_of p).code ≡ Itself → (head_of p ≡ head_of x → ⊥) → IsTrue false ↔ Makes p x o
itself_other p x o e never = refuted (Makes p x o) (λ m. never (itself_head p x o e m))

pub itself_decided : (p x : Rtx) (o : Ops) (ps xs : List Rtx) (b : Bool) → role_of (head_of p).code ≡ Itself → head_of p ≡ head_of x → ps ≡ kids_of p → xs ≡ kids_of x → IsTrue b ↔ MakesAll ps xs o → IsTrue b ↔ Makes p x o
itself_decided p x o ps xs b e h k l all = (
  λ t. itself_makes p x o e h (subst (λ qs. MakesAll qs (kids_of x) o) k (subst (λ ys. MakesAll ps ys o) l (all.0 t))),
  λ m. all.1 (subst (λ qs. MakesAll qs xs o) (sym k) (subst (λ ys. MakesAll (kids_of p) ys o) (sym l) (itself_parts p x o e m))),
)
