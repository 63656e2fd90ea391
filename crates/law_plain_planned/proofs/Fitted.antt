-- Operands as a form asks for them: what stays, and what is set into a new register before.
use Rattle.std.proofs.Common.{◌≡◌, ℕ, ◌+◌, pos, Bool, true, false, not, ◌&&◌, List, [], ◌∷◌, ◌++◌, Option, Some, None, refl, sym, ap, ◌∙◌}
use Rattle.std.specs.Prelude.{ℤ, if◌then◌else◌, find, flat_map, option_map, option_and_then}
use Rattle.std.specs.List.{AllByRecursion}
use Rattle.std.specs.Option.{option_map_or}
use Rattle.std.specs.Ordering.{int_eq}
use Rattle.rtx_tree.specs.declared.code.Code.{Code}
use Rattle.rtx_tree.specs.declared.code.Code.TheVariants as code
use Rattle.rtx_tree.specs.declared.code.Mode.{Mode}
use Rattle.rtx_tree.specs.declared.tree.Rtx.{Rtx, out-Rtx}
use Rattle.rtx_tree.specs.Code.{mode_or}
use Rattle.rtx_tree.specs.Tree.{head_of, kids_of}
use Rattle.md_operand.specs.Operand.{is_register, is_register_by, is_constant, is_constant_code}
use Rattle.md_match.specs.Pattern.{gives, gives_number, placeholders}
use Rattle.md_recog.specs.Match.{Accepts, names_predicate}
use Rattle.rtx_open.proofs.Expressions.{Written, rtx, outside_is}
use Rattle.std_name.specs.declared.standard.OperandRole.TheVariants.{Input}
use Rattle.std_name.specs.declared.standard.StandardOperand.{StandardOperand}
use Rattle.lower_insn.specs.declared.part.Prepared.{Prepared}
use Rattle.lower_insn.specs.Settings.{prepared, unchanged, joined, addressed, addressed_by, addressed_one, placeholder_of, refuses, replaced_by, input_set, fitted, fitted_at, fitted_one}
use Rattle.law_plain_matches.proofs.Patterns.{operand, asked}
use Rattle.law_plain_taken.proofs.Operands.{asked_is}

-- ---- addresses: registers and constants have none

abbrev pub Addressless : StandardOperand → Type 0
Addressless operand = (next : ℕ) → addressed_one operand next ≡ unchanged operand next

register_by : (c : Code) (x : Rtx) (kids others : List Rtx) (operand : StandardOperand) (next : ℕ) → is_register_by c x others ≡ true → addressed_by c kids operand next ≡ unchanged operand next
register_by code.Reg x kids others operand next is = refl
register_by code.Subreg x kids others operand next is = refl
register_by _ x kids others operand next is = absurd (let no : ⊥ = cc in no)

pub of_register : (operand : StandardOperand) → is_register operand.tree ≡ true → Addressless operand
of_register operand is next =
    register_by (out-Rtx operand.tree).code operand.tree (kids_of operand.tree) (out-Rtx operand.tree).kids operand next is

constant_by : (c : Code) (kids : List Rtx) (operand : StandardOperand) (next : ℕ) → is_constant_code c ≡ true → addressed_by c kids operand next ≡ unchanged operand next
constant_by code.ConstInt kids operand next is = refl
constant_by _ kids operand next is = absurd (let no : ⊥ = cc in no)

pub of_constant : (operand : StandardOperand) → is_constant operand.tree ≡ true → Addressless operand
of_constant operand is next = constant_by (out-Rtx operand.tree).code (kids_of operand.tree) operand next is

-- so they stay
pub all_addressed : (operands : List StandardOperand) (next : ℕ) → AllByRecursion Addressless operands → addressed operands next ≡ prepared [] operands [] next
all_addressed [] next all = refl
all_addressed (operand ∷ operands) next all =
    ap (λ (first : Prepared). joined first (addressed operands first.next)) (all.0 next) ∙ ap (joined (unchanged operand next)) (all_addressed operands next all.1)

-- ---- placeholders

pub gives_other : (name : List ℕ) (k : ℕ) (m : Mode) (j : ℕ) → gives_number j (rtx (operand name k m)) ≡ int_eq (pos k) (pos j)
gives_other name k m j = ap (λ o. gives o.code && int_eq o.number (pos j)) (outside_is (operand name k m))

nothing_behind : (xs : List Rtx) → xs ++ [] ≡ xs
nothing_behind [] = refl
nothing_behind (x ∷ xs) = ap (λ ys. x ∷ ys) (nothing_behind xs)

pub placeholders_are : (pattern : Written) (ps : List Rtx) → asked pattern ≡ ps → flat_map placeholders (rtx pattern ∷ []) ≡ ps
placeholders_are pattern ps are = ap (λ xs. xs ++ []) (asked_is pattern ∙ are) ∙ nothing_behind ps

pub step_find : (j : ℕ) (p : Rtx) (ps : List Rtx) (b : Bool) → gives_number j p ≡ b → find (gives_number j) (p ∷ ps) ≡ (if b then Some p else find (gives_number j) ps)
step_find j p ps b is = ap (λ b. if b then Some p else find (gives_number j) ps) is

module _ (p : List ℕ) (m : Mode) (q : List ℕ) (n : Mode) (r : List ℕ) (o : Mode) where
  abbrev first : Rtx
  first = rtx (operand p 0 m)

  abbrev second : Rtx
  second = rtx (operand q 1 n)

  abbrev third : Rtx
  third = rtx (operand r 2 o)

  abbrev pub three_ps : List Rtx
  three_ps = first ∷ second ∷ third ∷ []

  pub find_0 : find (gives_number 0) three_ps ≡ Some (rtx (operand p 0 m))
  find_0 = step_find 0 first (second ∷ third ∷ []) true (gives_other p 0 m 0)

  pub find_1 : find (gives_number 1) three_ps ≡ Some (rtx (operand q 1 n))
  find_1 = step_find 1 first (second ∷ third ∷ []) false (gives_other p 0 m 1) ∙ step_find 1 second (third ∷ []) true (gives_other q 1 n 1)

  pub find_2 : find (gives_number 2) three_ps ≡ Some (rtx (operand r 2 o))
  find_2 =
      step_find 2 first (second ∷ third ∷ []) false (gives_other p 0 m 2) ∙
      (step_find 2 second (third ∷ []) false (gives_other q 1 n 2) ∙ step_find 2 third [] true (gives_other r 2 o 2))

-- ---- predicates

module _ (accepts : Accepts) (patterns : List Rtx) (k : ℕ) (x : StandardOperand) (next : ℕ) (name : List ℕ) (m : Mode) (at : placeholder_of patterns k ≡ Some (rtx (operand name k m))) where
  abbrev p : Rtx
  p = rtx (operand name k m)

  refused : (b : Bool) → accepts name x.tree m ≡ b → refuses accepts p x.tree ≡ not b
  refused b is = ap (λ o. names_predicate o.code && not (accepts o.name x.tree o.mode)) (outside_is (operand name k m)) ∙ ap not is

  here : fitted_one accepts patterns false k x next ≡ fitted_at accepts false x next p
  here = ap (λ (o : Option Rtx). option_map_or (fitted_at accepts false x next) o (Some (unchanged x next))) at

  abbrev by : Bool → Option Prepared
  by b = if b then replaced_by x.role (mode_or x.mode (head_of p).mode) x next else Some (unchanged x next)

  -- what the predicate accepts stays
  pub stays : accepts name x.tree m ≡ true → fitted_one accepts patterns false k x next ≡ Some (unchanged x next)
  stays is = here ∙ ap by (refused true is)

  -- another value is set before
  pub set_before : accepts name x.tree m ≡ false → x.role ≡ Input → x.mode ≡ m → mode_or m m ≡ m → fitted_one accepts patterns false k x next ≡ Some (input_set m x next)
  set_before is role own same =
      here ∙ (ap by (refused false is) ∙ (ap (λ r. replaced_by r (mode_or x.mode (head_of p).mode) x next) role ∙
      (ap (λ n. Some (input_set (mode_or n (head_of p).mode) x next)) own ∙ (ap (λ o. Some (input_set (mode_or m o.mode) x next)) (outside_is (operand name k m)) ∙ ap (λ n. Some (input_set n x next)) same))))

-- ---- one operand behind another

module _ (accepts : Accepts) (patterns : List Rtx) where
  pub one_more : (k : ℕ) (x : StandardOperand) (xs : List StandardOperand) (next : ℕ) (first rest : Prepared) → fitted_one accepts patterns false k x next ≡ Some first →
      fitted accepts patterns false (k + 1) xs first.next ≡ Some rest → fitted accepts patterns false k (x ∷ xs) next ≡ Some (joined first rest)
  one_more k x xs next first rest is more =
      ap (λ (o : Option Prepared). option_and_then (λ first. option_map (joined first) (fitted accepts patterns false (k + 1) xs first.next)) o) is ∙ ap (λ (o : Option Prepared). option_map (joined first) o) more
