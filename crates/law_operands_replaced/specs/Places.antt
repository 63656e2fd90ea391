-- Where the operands of a pattern stand in an instruction: GCC Internals, "RTL Template"
-- (`match_operand`, `match_scratch`, `match_dup`).
use Rattle.std.specs.Prelude.{◌≡◌, ◌≢◌, ℤ, length, Bool, true, false, List, [], ◌∷◌}
use Rattle.rtx_tree.specs.declared.tree.Rtx.{Rtx}
use Rattle.rtx_tree.specs.Tree.{head_of, kids_of}
use Rattle.md_match.specs.declared.role.Role.{Role}
use Rattle.md_match.specs.declared.role.Role.TheVariants.{Operand}
use Rattle.md_match.specs.Pattern.{role_of}

-- two trees stand at the same place of two lists
pub data AtOnePlace : List Rtx → List Rtx → Rtx → Rtx → Type 0 where
  first : (p x : Rtx) (ps xs : List Rtx) → AtOnePlace (p ∷ ps) (x ∷ xs) p x
  later : (p x q y : Rtx) (ps xs : List Rtx) → AtOnePlace ps xs p x →
      AtOnePlace (q ∷ ps) (y ∷ xs) p x

-- In a tree beside a pattern another tree stands in a place of the operand with a number. Where the
-- tree has other parts than the pattern has there, none stands in them.
pub data StandsFor : Rtx → Rtx → ℤ → Rtx → Type 0 where
  itself : (p x : Rtx) → role_of (head_of p).code ≡ Operand → StandsFor p x (head_of p).number x
  part : (p x q y z : Rtx) (number : ℤ) → role_of (head_of p).code ≢ Operand →
      length (kids_of p) ≡ length (kids_of x) →
      AtOnePlace (kids_of p) (kids_of x) q y → StandsFor q y number z → StandsFor p x number z

-- In a tree beside a pattern another tree stands where a part of the pattern does.
pub data At : Rtx → Rtx → Rtx → Rtx → Type 0 where
  here : (p x : Rtx) → At p x p x
  inside : (p x q y r z : Rtx) → role_of (head_of p).code ≢ Operand →
      length (kids_of p) ≡ length (kids_of x) → AtOnePlace (kids_of p) (kids_of x) q y →
      At q y r z → At p x r z

abbrev pub is_empty : List Rtx → Bool
is_empty [] = true
is_empty (x ∷ xs) = false

abbrev pub is_leaf_as : Role → List Rtx → Bool
is_leaf_as Operand parts = is_empty parts
is_leaf_as _ parts = true

-- the placeholder of an operand has no parts
abbrev pub is_leaf : Rtx → Bool
is_leaf p = is_leaf_as (role_of (head_of p).code) (kids_of p)
