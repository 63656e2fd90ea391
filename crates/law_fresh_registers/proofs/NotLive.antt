-- A pseudo register from the first free number on is live nowhere.
use Rattle.std.proofs.Common.{◌≡◌, ℕ, ◌≤◌, ◌+◌, ◌==◌, nat_lt, not, Bool, true, false, ◌&&◌, ◌||◌, List, [], ◌∷◌, Some, is_some, refl, sym, ap, ◌∙◌, arith}
use Rattle.std.proofs.lemmas.Bool.Decides.{nat_tests}
use Rattle.std.specs.Prelude.{slice_get}
use Rattle.std.specs.List.{list_all, list_any}
use Rattle.rtx_tree.specs.declared.code.Code.{Code}
use Rattle.rtx_tree.specs.declared.code.Code.TheVariants as code
use Rattle.rtx_tree.specs.declared.function.Function.{Function}
use Rattle.rtx_tree.specs.declared.function.Insn.{Insn}
use Rattle.rtx_tree.specs.declared.tree.Rtx.{Rtx}
use Rattle.rtx_tree.specs.Registers.{pseudo}
use Rattle.rtx_tree.specs.RegSet.{has_reg}
use Rattle.rtx_tree.specs.Tree.{head_of, kids_of, is_reg_numbered, mentions_reg}
use Rattle.rtx_tree.proofs.Trees.{mentions_out}
use Rattle.rv_regs.specs.Registers.{kept_registers}
use Rattle.rtl_chain.specs.Counts.{next_pseudo}
use Rattle.reg_uses.specs.Effects.{reads, place_reads, place_reads_by, effect_uses, effect_uses_by, effects_by, all_use, pattern_uses}
use Rattle.reg_uses.specs.Uses.{has_argument, is_return, function_sets, is_result, return_uses}
use Rattle.live.specs.Live.{uses_in, IsLive, AreLiveAfter}
use Rattle.law_fresh_registers.specs.Fresh.{IsHandedNowhere, NewNotLive}
use Rattle.law_fresh_registers.proofs.Unnamed.{or_none, new_unnamed}

and_none : (p : Bool) → (p && false) ≡ false
and_none true = refl
and_none false = refl

pub first_none : (p q : Bool) → (p || q) ≡ false → p ≡ false
first_none true q is = cc
first_none false q is = refl

pub later_none : (p q : Bool) → (p || q) ≡ false → q ≡ false
later_none true q is = cc
later_none false q is = is

-- ---- what does not name a register does not use it

module _ (reg : ℕ) where
  reads_none : (x : Rtx) → mentions_reg reg x ≡ false → reads reg x ≡ false
  reads_none x is = ap (λ b. not (reg == 0) && b) is ∙ and_none (not (reg == 0))

  place_by : (c : Code) (x : Rtx) → mentions_reg reg x ≡ false → place_reads_by reg c x ≡ false
  place_by code.Mem x is = reads_none x is
  place_by _ x is = refl

  uses_by : (c : Code) (kids : List Rtx) (x : Rtx) → mentions_reg reg x ≡ false → list_any (mentions_reg reg) kids ≡ false → effect_uses_by reg c kids x ≡ false
  uses_by code.Set (place ∷ source ∷ []) x is parts =
      let place_is = first_none (mentions_reg reg place) (mentions_reg reg source || false) parts in
      let source_is = first_none (mentions_reg reg source) false (later_none (mentions_reg reg place) (mentions_reg reg source || false) parts) in
      or_none (place_reads reg place) (reads reg source) (place_by (head_of place).code place place_is) (reads_none source source_is)
  uses_by code.Clobber kids x is parts = refl
  uses_by _ kids x is parts = reads_none x is

  pub parts_none : (x : Rtx) → mentions_reg reg x ≡ false → list_any (mentions_reg reg) (kids_of x) ≡ false
  parts_none x is = later_none (is_reg_numbered (head_of x).code (head_of x).number reg) (list_any (mentions_reg reg) (kids_of x)) (sym (mentions_out reg x) ∙ is)

  effect_none : (x : Rtx) → mentions_reg reg x ≡ false → effect_uses reg x ≡ false
  effect_none x is = uses_by (head_of x).code (kids_of x) x is (parts_none x is)

  each_none : (xs : List Rtx) → list_any (mentions_reg reg) xs ≡ false → all_use reg xs ≡ false
  each_none [] is = refl
  each_none (x ∷ xs) is =
      or_none (effect_uses reg x) (all_use reg xs) (effect_none x (first_none (mentions_reg reg x) (list_any (mentions_reg reg) xs) is)) (each_none xs (later_none (mentions_reg reg x) (list_any (mentions_reg reg) xs) is))

  pattern_by : (c : Code) (x : Rtx) → mentions_reg reg x ≡ false → all_use reg (effects_by c (kids_of x) x) ≡ false
  pattern_by code.Parallel x is = each_none (kids_of x) (parts_none x is)
  pattern_by _ x is = or_none (effect_uses reg x) false (effect_none x is) refl

  pub pattern_none : (x : Rtx) → mentions_reg reg x ≡ false → pattern_uses reg x ≡ false
  pattern_none x is = pattern_by (head_of x).code x is

-- ---- what a return uses is a hard register

module _ (k : ℕ) where
  other_small : (r : ℕ) → nat_lt r 64 ≡ true → (r == pseudo k) ≡ false
  other_small r few = grind (arith, nat_tests, few)

  none_small : (rs : List ℕ) → list_all (λ r. nat_lt r 64) rs ≡ true → has_reg rs (pseudo k) ≡ false
  none_small [] few = refl
  none_small (r ∷ rs) few = let two = both_of (nat_lt r 64) (list_all (λ r. nat_lt r 64) rs) few in or_none (r == pseudo k) (has_reg rs (pseudo k)) (other_small r two.0) (none_small rs two.1)
    where
      both_of : (p q : Bool) → (p && q) ≡ true → (p ≡ true) × (q ≡ true)
      both_of true q is = (refl, is)
      both_of false q is = cc

  no_result : (pseudo k == 10) ≡ false
  no_result = grind (arith, nat_tests)

  pub return_none : (f : Function) → return_uses f (pseudo k) ≡ false
  return_none f =
      or_none (is_result f (pseudo k)) (has_reg kept_registers (pseudo k) && function_sets f (pseudo k)) (ap (λ b. is_some f.result && b) no_result ∙ and_none (is_some f.result))
      (ap (λ b. b && function_sets f (pseudo k)) (none_small kept_registers refl))

-- ---- the law

module _ (f : Function) (k : ℕ) (least : next_pseudo f.insns ≤ k) (nowhere : IsHandedNowhere f (pseudo k)) where
  abbrev reg : ℕ
  reg = pseudo k

  used_none : (place : ℕ) (i : Insn) → slice_get f.insns place ≡ Some i → uses_in f i reg ≡ false
  used_none place i at =
      or_none (pattern_uses reg i.pattern || has_argument reg i.uses) (is_return i && return_uses f reg)
      (or_none (pattern_uses reg i.pattern) (has_argument reg i.uses) (pattern_none reg i.pattern (new_unnamed f k place i least at)) (nowhere place i at))
      (ap (λ b. is_return i && b) (return_none k f) ∙ and_none (is_return i))

  clash : (b : Bool) → b ≡ true → b ≡ false → ⊥
  clash b is other = cc

  not_live : (place : ℕ) → IsLive f reg place → ⊥
  not_live _ (IsLive.AtEnd is) = clash (return_uses f reg) is (return_none k f)
  not_live _ (IsLive.AtUse place i at is) = clash (uses_in f i reg) is (used_none place i at)
  not_live _ (IsLive.Passing place q i at other leads live) = not_live q live

  not_among : (place : ℕ) (live : List ℕ) → AreLiveAfter f place live → (b : Bool) → has_reg live reg ≡ b → has_reg live reg ≡ false
  not_among place live are true is = let after = (are.each reg).0 is in absurd (not_live after.0 after.2)
  not_among place live are false is = is

pub new_not_live : NewNotLive
new_not_live f k place live least nowhere are = not_among f k least nowhere place live are (has_reg live (pseudo k)) refl
