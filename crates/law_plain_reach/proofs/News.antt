-- What stands in the places of three operands of which some are moved: t3 to t6, or what stood there.
use Rattle.std.proofs.Common.{◌≡◌, ℕ, Bool, true, false, List, [], ◌∷◌, Option, Some, None, refl}
use Rattle.std.specs.Prelude.{ℤ, nat_le}
use Rattle.rtx_tree.specs.declared.code.Mode.{Mode}
use Rattle.rtx_tree.specs.declared.tree.Rtx.{Rtx}
use Rattle.rtx_tree.specs.Tree.{reg_of}
use Rattle.md_match.specs.Pattern.{Ops}
use Rattle.reload_operands.specs.declared.operand.Operand.{Operand}
use Rattle.reload_moves.specs.declared.part.Part.{Part}
use Rattle.reload_moves.specs.Registers.{asks_of}
use Rattle.reload_choice.specs.Insns.{news_of}
use Rattle.law_plain_untied.proofs.Parts.{part, settled}
use Rattle.law_plain_untied.proofs.Asked.{result, input}
use Rattle.law_plain_known.proofs.Plainly.{Told, plainly}
use Rattle.law_plain_known.proofs.Replaced.{new_at}

-- one of t3 to t6
abbrev pub IsSpare : ℕ → Type 0
IsSpare reg = (nat_le 28 reg ≡ true) × (nat_le reg 31 ≡ true)

-- a tree stands for an operand where it is moved or not
pub data StandsFor (mode : Mode) (x : Rtx) : Bool → Rtx → Type 0 where
  spare : (reg : ℕ) → IsSpare reg → StandsFor mode x true (reg_of mode reg)
  itself : StandsFor mode x false x

module _ (t u v : Told) where
  abbrev operands : List Operand
  operands = plainly 0 t ∷ plainly 1 u ∷ plainly 2 v ∷ []

  abbrev pub set_parts : Bool → Bool → Bool → Option ℤ → Option ℤ → Option ℤ → List Part
  set_parts b c d x y z = part 0 (settled b) (result b x) ∷ part 1 (settled c) (input c y) ∷ part 2 (settled d) (input d z) ∷ []

  abbrev news : List Part → Ops
  news parts = news_of (asks_of parts) operands parts

  pub record AreNew (b c d : Bool) (parts : List Part) : Type 0 where
    pub first : StandsFor t.mode t.tree b (new_at (news parts) 0 t.tree)
    pub second : StandsFor u.mode u.tree c (new_at (news parts) 1 u.tree)
    pub third : StandsFor v.mode v.tree d (new_at (news parts) 2 v.tree)

  pub new_trees : (b c d : Bool) (x y z : Option ℤ) → AreNew b c d (set_parts b c d x y z)
  new_trees true true true None y z = record { first = StandsFor.spare 28 (refl, refl); second = StandsFor.spare 29 (refl, refl); third = StandsFor.spare 30 (refl, refl) }
  new_trees true true true (Some x) y z = record { first = StandsFor.spare 28 (refl, refl); second = StandsFor.spare 29 (refl, refl); third = StandsFor.spare 30 (refl, refl) }
  new_trees true true false None y z = record { first = StandsFor.spare 28 (refl, refl); second = StandsFor.spare 29 (refl, refl); third = StandsFor.itself }
  new_trees true true false (Some x) y z = record { first = StandsFor.spare 28 (refl, refl); second = StandsFor.spare 29 (refl, refl); third = StandsFor.itself }
  new_trees true false true None y z = record { first = StandsFor.spare 28 (refl, refl); second = StandsFor.itself; third = StandsFor.spare 29 (refl, refl) }
  new_trees true false true (Some x) y z = record { first = StandsFor.spare 28 (refl, refl); second = StandsFor.itself; third = StandsFor.spare 29 (refl, refl) }
  new_trees true false false None y z = record { first = StandsFor.spare 28 (refl, refl); second = StandsFor.itself; third = StandsFor.itself }
  new_trees true false false (Some x) y z = record { first = StandsFor.spare 28 (refl, refl); second = StandsFor.itself; third = StandsFor.itself }
  new_trees false true true x y z = record { first = StandsFor.itself; second = StandsFor.spare 28 (refl, refl); third = StandsFor.spare 29 (refl, refl) }
  new_trees false true false x y z = record { first = StandsFor.itself; second = StandsFor.spare 28 (refl, refl); third = StandsFor.itself }
  new_trees false false true x y z = record { first = StandsFor.itself; second = StandsFor.itself; third = StandsFor.spare 28 (refl, refl) }
  new_trees false false false x y z = record { first = StandsFor.itself; second = StandsFor.itself; third = StandsFor.itself }
