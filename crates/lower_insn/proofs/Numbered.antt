-- Operands by their numbers, made one behind the other.
use Rattle.std.proofs.Common.{◌≡◌, ℕ, suc, ◌+◌, ◌<◌, List, [], ◌∷◌, ◌++◌, length, map, drop, get_or, Option, Some, refl, sym, ap, ◌∙◌, append_assoc}
use Rattle.std.proofs.lemmas.List.{append-nil, length_push}
use Rattle.rtx_tree.specs.declared.tree.Rtx.{Rtx}
use Rattle.rtx_tree.specs.Operands.{put_at}
use Rattle.md_match.specs.Pattern.{Ops}
use Rattle.std_name.specs.declared.standard.StandardOperand.{StandardOperand}
use Rattle.lower_insn.specs.Plan.{numbered}
use Rattle.lower_insn.proofs.Joined.{drop_at}

-- an operand put behind all
put_behind : (operands : Ops) (x : Rtx) → put_at operands (length operands) x ≡ operands ++ Some x ∷ []
put_behind [] x = refl
put_behind (o ∷ operands) x = ap (λ (os : Ops). o ∷ os) (put_behind operands x)

-- what has been made of the operands before one, with those from it on, is what there is to be made
pub record Numbers (operands : List StandardOperand) (made : Ops) (number : ℕ) (rest : List StandardOperand) : Type 0 where
  pub all : made ++ numbered rest ≡ numbered operands
  pub count : number ≡ length made

pub numbers_begin : (operands : List StandardOperand) → Numbers operands [] 0 operands
numbers_begin operands = record { all = refl; count = refl }

pub numbers_go_on : (operands : List StandardOperand) (made more : Ops) (number above i : ℕ) (operand : StandardOperand) → i < length operands →
    operand ≡ get_or operands i operand → more ≡ put_at made number operand.tree → above ≡ number + 1 → Numbers operands made number (drop i operands) →
    Numbers operands more above (drop (i + 1) operands)
numbers_go_on operands made more number above i operand within is put counted so =
    let behind : more ≡ made ++ Some operand.tree ∷ [] = put ∙ (ap (λ (k : ℕ). put_at made k operand.tree) so.count ∙ put_behind made operand.tree) in
    record {
      all =
          ap (λ (os : Ops). os ++ numbered (drop (i + 1) operands)) behind ∙
          (append_assoc made (Some operand.tree ∷ []) (numbered (drop (i + 1) operands)) ∙
          (ap (λ (xs : List StandardOperand). made ++ numbered xs) (sym (drop_at operands i operand within is)) ∙ so.all));
      count = counted ∙ (ap (λ (k : ℕ). k + 1) so.count ∙ (sym (length_push made (Some operand.tree)) ∙ sym (ap length behind)));
    }

pub numbers_end : (operands : List StandardOperand) (made : Ops) (number : ℕ) → Numbers operands made number [] → made ≡ numbered operands
numbers_end operands made number so = sym (append-nil made) ∙ so.all
