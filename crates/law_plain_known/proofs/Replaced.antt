-- What new trees in the places of operands make of a tree that a pattern matches.
use Rattle.std.proofs.Common.{◌≡◌, ℕ, pos, Bool, true, false, List, [], ◌∷◌, length, map, Option, Some, None, refl, sym, ap, ◌∙◌}
use Rattle.std.specs.Prelude.{ℤ, ◌==◌, if◌then◌else◌, unwrap_or}
use Rattle.rtx_tree.specs.declared.code.Code.{Code}
use Rattle.rtx_tree.specs.declared.code.Mode.{Mode}
use Rattle.rtx_tree.specs.declared.tree.Rtx.{Rtx}
use Rattle.rtx_tree.specs.Operands.{operand_at}
use Rattle.rtx_tree.specs.Tree.{RtxHead, head_of, kids_of, tree_of}
use Rattle.md_match.specs.Pattern.{Ops, role_of, operand_numbered}
use Rattle.md_match.specs.declared.role.Role.TheVariants.{Operand, Operator, Itself}
use Rattle.reload_operands.specs.Put.{each_by, parts_by, put}
use Rattle.reload_operands.proofs.PutLaws.{put_operand, put_operator, put_itself}
use Rattle.rtx_open.proofs.Expressions.{Written, WrittenList, node, rtx, rtxs, outside_is}
use Rattle.law_plain_matches.proofs.Patterns.{operand}

-- the new tree for an operand, or the one that stood there
abbrev pub new_at : Ops → ℕ → Rtx → Rtx
new_at news k x = unwrap_or (operand_at news k) x

abbrev pub each_put : Ops → List Rtx → List Rtx → List Rtx
each_put news ps xs = each_by (map (λ p. put p news) ps) xs

-- in the place of an operand
pub leaf : (news : Ops) (name : List ℕ) (k : ℕ) (m : Mode) (x : Rtx) → put (rtx (operand name k m)) news x ≡ new_at news k x
leaf news name k m x =
    put_operand (rtx (operand name k m)) news x (ap (λ o. role_of o.code) (outside_is (operand name k m))) ∙
    ap (λ o. unwrap_or (operand_numbered news o.number) x) (outside_is (operand name k m))

module _ (news : Ops) (c : Code) (m : Mode) (z : ℤ) (s : List ℕ) (parts : WrittenList) (c' : Code) (m' : Mode) (z' : ℤ) (s' : List ℕ) (items : WrittenList) where
  abbrev pattern : Written
  pattern = node c m z s parts

  abbrev tree : Written
  tree = node c' m' z' s' items

  -- the tree's own head, over other parts
  abbrev pub over : List Rtx → Rtx
  over xs = tree_of (record { code = c'; mode = m'; number = z'; name = s' }) xs

  as_many : (length (map (λ p. put p news) (rtxs parts)) == length (rtxs items)) ≡ true → parts_by (map (λ p. put p news) (rtxs parts)) (rtxs items) ≡ each_put news (rtxs parts) (rtxs items)
  as_many same = ap (λ b. if b then each_put news (rtxs parts) (rtxs items) else rtxs items) same

  stepped : (length (map (λ p. put p news) (rtxs parts)) == length (rtxs items)) ≡ true →
      tree_of (head_of (rtx tree)) (parts_by (map (λ p. put p news) (kids_of (rtx pattern))) (kids_of (rtx tree))) ≡ over (each_put news (rtxs parts) (rtxs items))
  stepped same =
      ap (λ o. tree_of (head_of (rtx tree)) (parts_by (map (λ p. put p news) o.kids) (kids_of (rtx tree)))) (outside_is pattern) ∙
      (ap (λ o. tree_of (record { code = o.code; mode = o.mode; number = o.number; name = o.name }) (parts_by (map (λ p. put p news) (rtxs parts)) o.kids)) (outside_is tree) ∙
      ap over (as_many same))

  -- what stands for itself
  pub through : role_of c ≡ Itself → (length (map (λ p. put p news) (rtxs parts)) == length (rtxs items)) ≡ true → put (rtx pattern) news (rtx tree) ≡ over (each_put news (rtxs parts) (rtxs items))
  through role same = put_itself (rtx pattern) news (rtx tree) (ap (λ o. role_of o.code) (outside_is pattern) ∙ role) ∙ stepped same

  -- and an operator
  pub through_operator : role_of c ≡ Operator → (length (map (λ p. put p news) (rtxs parts)) == length (rtxs items)) ≡ true → put (rtx pattern) news (rtx tree) ≡ over (each_put news (rtxs parts) (rtxs items))
  through_operator role same = put_operator (rtx pattern) news (rtx tree) (ap (λ o. role_of o.code) (outside_is pattern) ∙ role) ∙ stepped same
