-- No operand of a pattern stands in a low part, where neither the pattern nor what it matches has one.
use Rattle.std.proofs.Common.{◌≡◌, ℕ, pos, Bool, true, false, ◌&&◌, ◌||◌, List, [], ◌∷◌, map, refl, sym, ap, ◌∙◌}
use Rattle.std.specs.Prelude.{ℤ}
use Rattle.rtx_tree.specs.declared.code.Code.{Code}
use Rattle.rtx_tree.specs.declared.code.Code.TheVariants as code
use Rattle.rtx_tree.specs.declared.code.Mode.{Mode}
use Rattle.rtx_tree.specs.declared.tree.Rtx.{Rtx}
use Rattle.rtx_tree.specs.Tree.{RtxHead, head_of, kids_of, tree_of}
use Rattle.md_match.specs.Pattern.{role_of}
use Rattle.md_match.specs.declared.role.Role.{Role}
use Rattle.md_match.specs.declared.role.Role.TheVariants.{Operand, Operator, Itself}
use Rattle.reload_operands.specs.Put.{is_lowpart_code, any_inside, is_inside, inside_low}
use Rattle.reload_operands.proofs.InsideLaws.{inside_operand, inside_operator, inside_itself}
use Rattle.rtx_open.proofs.Expressions.{Written, WrittenList, node, rtx, rtxs, outside_is}
use Rattle.law_plain_matches.proofs.Patterns.{operand}
use Rattle.law_plain_known.proofs.Tests.{neither}

-- a code of no low part
abbrev pub IsWhole : Code → Type 0
IsWhole c = is_lowpart_code c ≡ false

-- none of some trees has the operand in a low part, each by its part of the pattern
abbrev pub NoneInside : ℕ → List Rtx → List Rtx → Type 0
NoneInside k ps xs = any_inside (map (inside_low k) ps) false xs ≡ false

-- an operand itself
pub leaf : (k : ℕ) (name : List ℕ) (n : ℕ) (m : Mode) (x : Rtx) → inside_low k (rtx (operand name n m)) false x ≡ false
leaf k name n m x = inside_operand k (rtx (operand name n m)) false x (ap (λ o. role_of o.code) (outside_is (operand name n m)))

module _ (k : ℕ) (c : Code) (m : Mode) (z : ℤ) (s : List ℕ) (parts : WrittenList) (c' : Code) (m' : Mode) (z' : ℤ) (s' : List ℕ) (items : WrittenList) (whole : IsWhole c') where
  abbrev pattern : Written
  pattern = node c m z s parts

  abbrev tree : Written
  tree = node c' m' z' s' items

  stepped : any_inside (map (inside_low k) (kids_of (rtx pattern))) (is_lowpart_code (head_of (rtx tree)).code) (kids_of (rtx tree)) ≡ any_inside (map (inside_low k) (rtxs parts)) false (rtxs items)
  stepped =
      ap (λ o. any_inside (map (inside_low k) o.kids) (is_lowpart_code (head_of (rtx tree)).code) (kids_of (rtx tree))) (outside_is pattern) ∙
      (ap (λ o. any_inside (map (inside_low k) (rtxs parts)) (is_lowpart_code o.code) o.kids) (outside_is tree) ∙
      ap (λ b. any_inside (map (inside_low k) (rtxs parts)) b (rtxs items)) whole)

  -- what stands for itself
  pub through : role_of c ≡ Itself → NoneInside k (rtxs parts) (rtxs items) → inside_low k (rtx pattern) false (rtx tree) ≡ false
  through role none = inside_itself k (rtx pattern) false (rtx tree) (ap (λ o. role_of o.code) (outside_is pattern) ∙ role) ∙ (stepped ∙ none)

  -- and an operator
  pub through_operator : role_of c ≡ Operator → NoneInside k (rtxs parts) (rtxs items) → inside_low k (rtx pattern) false (rtx tree) ≡ false
  through_operator role none = inside_operator k (rtx pattern) false (rtx tree) (ap (λ o. role_of o.code) (outside_is pattern) ∙ role) ∙ (stepped ∙ none)

-- ---- of one part, two and three

pub of_none : (k : ℕ) → NoneInside k [] []
of_none k = refl

pub of_more : (k : ℕ) (p x : Rtx) (ps xs : List Rtx) → inside_low k p false x ≡ false → NoneInside k ps xs → NoneInside k (p ∷ ps) (x ∷ xs)
of_more k p x ps xs here rest = neither (inside_low k p false x) (any_inside (map (inside_low k) ps) false xs) here rest
