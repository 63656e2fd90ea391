-- What is put in for placeholders, and what is asked of it.
use Rattle.std.proofs.Common.{◌≡◌, ℕ, pos, Bool, true, false, ◌&&◌, List, [], ◌∷◌, Option, Some, None, refl, sym, ap, ◌∙◌}
use Rattle.std.specs.Prelude.{if◌then◌else◌}
use Rattle.std.specs.List.{list_all}
use Rattle.std.specs.Option.{option_map_or}
use Rattle.rtx_tree.specs.declared.code.Code.TheVariants as code
use Rattle.rtx_tree.specs.declared.code.Mode.{Mode}
use Rattle.rtx_tree.specs.declared.tree.Rtx.{Rtx}
use Rattle.rtx_tree.specs.Operands.{operand_at}
use Rattle.c_cond.specs.declared.tree.Tree.{Tree}
use Rattle.c_eval.specs.declared.facts.Facts.{Facts}
use Rattle.md_match.specs.Pattern.{Ops, Noted, noted, noted_step, placeholders, instantiated, instantiated_step, all_some, operand_numbered}
use Rattle.md_recog.specs.Match.{Accepts, IsMatch, names_predicate, is_accepted, are_accepted}
use Rattle.rtx_open.proofs.Expressions.{Written, node, none, rtx, outside_is, gathered, gathers}

-- (match_operand:MODE NUMBER PREDICATE)
abbrev pub operand : List ℕ → ℕ → Mode → Written
operand predicate k m = node code.MatchOperand m (pos k) predicate none

-- ---- what is put in

-- the pattern with operands put in, as it is written
abbrev pub filled : Ops → Written → Option Rtx
filled operands pattern = gathered (instantiated_step operands) pattern

pub filled_is : (operands : Ops) (pattern : Written) → instantiated (rtx pattern) operands ≡ filled operands pattern
unfolding instantiated
filled_is operands pattern = gathers (instantiated_step operands) pattern

some_one : (o : Option Rtx) (insn : Rtx) → all_some (o ∷ []) ≡ Some (insn ∷ []) → o ≡ Some insn
some_one None insn is = cc
some_one (Some x) insn is = cc

-- the one instruction that a pattern matches
pub made_is : (accepts : Accepts) (facts : Facts) (pattern : Written) (condition : Tree) (insn : Rtx) (operands : Ops) →
    IsMatch accepts facts (rtx pattern ∷ []) condition (insn ∷ []) operands → filled operands pattern ≡ Some insn
made_is accepts facts pattern condition insn operands m =
    sym (filled_is operands pattern) ∙ some_one (instantiated (rtx pattern) operands) insn m.shape.made

-- ---- what is asked

abbrev pub asked : Written → List Rtx
asked pattern = (gathered noted_step pattern).placeholders

asked_is : (pattern : Written) → placeholders (rtx pattern) ≡ asked pattern
unfolding noted
asked_is pattern = ap (λ (n : Noted). n.placeholders) (gathers noted_step pattern)

-- each placeholder's predicate accepts its operand
pub all_asked : (accepts : Accepts) (facts : Facts) (pattern : Written) (condition : Tree) (insn : Rtx) (operands : Ops) →
    IsMatch accepts facts (rtx pattern ∷ []) condition (insn ∷ []) operands → list_all (is_accepted accepts operands) (asked pattern) ≡ true
all_asked accepts facts pattern condition insn operands m =
    ap (list_all (is_accepted accepts operands)) (sym (asked_is pattern)) ∙ first (are_accepted accepts operands (rtx pattern)) m.accepted
  where
    first : (p : Bool) → (p && true) ≡ true → p ≡ true
    first true is = refl
    first false is = cc

-- an operand that is there
pub accepted_is : (accepts : Accepts) (operands : Ops) (name : List ℕ) (k : ℕ) (m : Mode) (x : Rtx) → operand_at operands k ≡ Some x → is_accepted accepts operands (rtx (operand name k m)) ≡ accepts name x m
accepted_is accepts operands name k m x at =
    let here = outside_is (operand name k m) in
    ap (λ o. if names_predicate o.code then option_map_or (λ x. accepts o.name x o.mode) (operand_numbered operands o.number) false else true) here ∙
    ap (λ o. option_map_or (λ x. accepts name x m) o false) at

-- ---- several tests

pub first_of : (p q : Bool) → (p && q) ≡ true → p ≡ true
first_of true q is = refl
first_of false q is = cc

pub rest_of : (p q : Bool) → (p && q) ≡ true → q ≡ true
rest_of true q is = is
rest_of false q is = cc
