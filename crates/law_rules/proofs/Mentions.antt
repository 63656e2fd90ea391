-- The registers that an instruction uses or defines stand in it.
use Rattle.std.proofs.Common.{◌≡◌, ℕ, Bool, true, false, ◌==◌, not, List, [], ◌∷◌, ◌∙◌, inl, inr}
use Rattle.std.specs.List.{list_any}
use Rattle.std.proofs.lemmas.Bool.{false≢true, and_parts, or_cases, or_left, or_right}
use Rattle.rtx_tree.specs.declared.code.Code.{Code}
use Rattle.rtx_tree.specs.declared.code.Code.TheVariants.{Mem, Subreg, Set, Clobber, Parallel}
use Rattle.rtx_tree.specs.declared.tree.Rtx.{Rtx}
use Rattle.rtx_tree.specs.Tree.{head_of, kids_of, is_reg_numbered, mentions_reg}
use Rattle.rtx_tree.proofs.Trees.{mentions_out}
use Rattle.reg_uses.specs.Effects.{is_register, reads, place_is_by, place_is, place_reads_by, place_reads, effect_uses_by, effect_uses, effect_defines_by, effect_defines, effects_by, effects_of, pattern_uses, pattern_defines}

module _ (reg : ℕ) where
  -- a part of a tree
  of_part : (x : Rtx) → list_any (mentions_reg reg) (kids_of x) ≡ true → mentions_reg reg x ≡ true
  of_part x part =
      mentions_out reg x
      ∙ or_right (is_reg_numbered (head_of x).code (head_of x).number reg) (list_any (mentions_reg reg) (kids_of x)) part

  of_itself : (x : Rtx) → is_register reg x ≡ true → mentions_reg reg x ≡ true
  of_itself x is =
      mentions_out reg x
      ∙ or_left (is_reg_numbered (head_of x).code (head_of x).number reg) _ (and_parts (not (reg == 0)) _ is).1

  of_read : (x : Rtx) → reads reg x ≡ true → mentions_reg reg x ≡ true
  of_read x is = (and_parts (not (reg == 0)) (mentions_reg reg x) is).1

  first_part : (x : Rtx) (rest : List Rtx) → mentions_reg reg x ≡ true → list_any (mentions_reg reg) (x ∷ rest) ≡ true
  first_part x rest is = or_left (mentions_reg reg x) (list_any (mentions_reg reg) rest) is

  -- the register of a place
  of_place_by : (c : Code) (parts : List Rtx) (x : Rtx) → place_is_by reg c parts x ≡ true →
      (list_any (mentions_reg reg) parts ≡ true → mentions_reg reg x ≡ true) → mentions_reg reg x ≡ true
  of_place_by Subreg (whole ∷ parts) x is up = up (first_part whole parts (of_itself whole is))
  of_place_by _ parts x is up = of_itself x is

  of_place : (x : Rtx) → place_is reg x ≡ true → mentions_reg reg x ≡ true
  of_place x is = of_place_by (head_of x).code (kids_of x) x is (of_part x)

  of_address : (c : Code) (x : Rtx) → place_reads_by reg c x ≡ true → mentions_reg reg x ≡ true
  of_address Mem x is = of_read x is
  of_address _ x is = absurd (false≢true is)

  -- what an effect defines and uses
  of_defined : (c : Code) (parts : List Rtx) → effect_defines_by reg c parts ≡ true → list_any (mentions_reg reg) parts ≡ true
  of_defined Set (place ∷ parts) is = first_part place parts (of_place place is)
  of_defined Clobber (place ∷ parts) is = first_part place parts (of_place place is)
  of_defined _ parts is = absurd (false≢true is)

  of_used : (c : Code) (parts : List Rtx) (x : Rtx) → effect_uses_by reg c parts x ≡ true →
      (list_any (mentions_reg reg) parts ≡ true → mentions_reg reg x ≡ true) → mentions_reg reg x ≡ true
  of_used Set (place ∷ source ∷ []) x is up = up (elim (or_cases (place_reads reg place) (reads reg source) is) [
    | inl here ↦ first_part place (source ∷ []) (of_address (head_of place).code place here)
    | inr here ↦ or_right (mentions_reg reg place) _ (first_part source [] (of_read source here))
  ])
  of_used Clobber parts x is up = absurd (false≢true is)
  of_used _ parts x is up = of_read x is

  effect_defined : (x : Rtx) → effect_defines reg x ≡ true → mentions_reg reg x ≡ true
  effect_defined x is = of_part x (of_defined (head_of x).code (kids_of x) is)

  effect_used : (x : Rtx) → effect_uses reg x ≡ true → mentions_reg reg x ≡ true
  effect_used x is = of_used (head_of x).code (kids_of x) x is (of_part x)

  -- what one of some effects does
  of_effects : (does : Rtx → Bool) → ((x : Rtx) → does x ≡ true → mentions_reg reg x ≡ true) → (effects : List Rtx) →
      list_any does effects ≡ true → list_any (mentions_reg reg) effects ≡ true
  of_effects does each [] is = absurd (false≢true is)
  of_effects does each (x ∷ effects) is = elim (or_cases (does x) (list_any does effects) is) [
    | inl here ↦ first_part x effects (each x here)
    | inr more ↦ or_right (mentions_reg reg x) _ (of_effects does each effects more)
  ]

  itself_alone : (x : Rtx) → list_any (mentions_reg reg) (x ∷ []) ≡ true → mentions_reg reg x ≡ true
  itself_alone x is = elim (or_cases (mentions_reg reg x) false is) [
    | inl here ↦ here
    | inr none ↦ absurd (false≢true none)
  ]

  of_all_effects : (c : Code) (parts : List Rtx) (x : Rtx) →
      (list_any (mentions_reg reg) parts ≡ true → mentions_reg reg x ≡ true) →
      list_any (mentions_reg reg) (effects_by c parts x) ≡ true → mentions_reg reg x ≡ true
  of_all_effects Parallel parts x up is = up is
  of_all_effects _ parts x up is = itself_alone x is

  -- what a pattern defines stands in it
  pub defined_stands : (x : Rtx) → pattern_defines reg x ≡ true → mentions_reg reg x ≡ true
  defined_stands x is =
      of_all_effects (head_of x).code (kids_of x) x (of_part x) (of_effects (effect_defines reg) effect_defined (effects_of x) is)

  -- and so does what it uses
  pub used_stands : (x : Rtx) → pattern_uses reg x ≡ true → mentions_reg reg x ≡ true
  used_stands x is = of_all_effects (head_of x).code (kids_of x) x (of_part x) (of_effects (effect_uses reg) effect_used (effects_of x) is)
