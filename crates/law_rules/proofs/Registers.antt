-- Registers above 31: none is an argument, and one that stands in a tree has no home.
use Rattle.std.proofs.Common.{◌≡◌, ℕ, ◌<◌, Bool, true, false, ◌||◌, ◌==◌, List, [], ◌∷◌, sym, ap, subst, ◌∙◌, inl, inr, arith}
use Rattle.std.specs.Prelude.{ℤ, pos, nat_le}
use Rattle.std.specs.List.{list_any, list_all, AllByRecursion}
use Rattle.std.proofs.lemmas.Bool.{false≢true, and_parts, or_cases, or_left, or_right, eqb-true, leb-true, lt-ltb}
use Rattle.std.proofs.lemmas.Bool.Decides.{Decides-int_eq}
use Rattle.rtx_tree.specs.declared.code.Code.{Code}
use Rattle.rtx_tree.specs.declared.code.Code.TheVariants.{Reg}
use Rattle.rtx_tree.specs.declared.tree.Rtx.{Rtx}
use Rattle.rtx_tree.specs.RegSet.{has_reg}
use Rattle.rtx_tree.specs.Tree.{head_of, kids_of, is_reg_numbered, mentions_reg}
use Rattle.rtx_tree.proofs.Trees.{mentions_out}
use Rattle.rtl_func.specs.Calls.{is_argument}
use Rattle.form_needs.specs.Needs.{is_homeless, names_homeless}
use Rattle.form_needs.proofs.Homeless.{homeless_out}
use Rattle.func_input.proofs.rtl_print.TreeText.{rtx_induction}

-- ---- registers of a list

pub one_of : (test : ℕ → Bool) (regs : List ℕ) → list_all test regs ≡ true → (reg : ℕ) → has_reg regs reg ≡ true → test reg ≡ true
one_of test [] all reg is = absurd (false≢true is)
one_of test (r ∷ regs) all reg is =
    let both = and_parts (test r) (list_all test regs) all in
    elim (or_cases (r == reg) (has_reg regs reg) is) [
      | inl here ↦ subst (λ n. test n ≡ true) (eqb-true r reg here) both.0
      | inr more ↦ one_of test regs both.1 reg more
    ]

-- ---- registers above 31

module _ (reg : ℕ) (above : 31 < reg) where
  of_register : (c : Code) (n : ℤ) → is_reg_numbered c n reg ≡ true → is_homeless c n ≡ true
  of_register Reg n is = ap (λ (z : ℤ). is_homeless Reg z) ((Decides-int_eq n (pos reg)).0 is) ∙ lt-ltb 31 reg above
  of_register _ n is = absurd (false≢true is)

  abbrev Good : Rtx → Type 0
  Good x = mentions_reg reg x ≡ true → names_homeless x ≡ true

  of_parts : (parts : List Rtx) → AllByRecursion Good parts → list_any (mentions_reg reg) parts ≡ true →
      list_any names_homeless parts ≡ true
  of_parts [] all is = absurd (false≢true is)
  of_parts (x ∷ parts) all is = elim (or_cases (mentions_reg reg x) (list_any (mentions_reg reg) parts) is) [
    | inl here ↦ or_left (names_homeless x) _ (all.0 here)
    | inr more ↦ or_right (names_homeless x) _ (of_parts parts all.1 more)
  ]

  of_tree : (x : Rtx) → AllByRecursion Good (kids_of x) → Good x
  of_tree x all is =
      homeless_out x ∙
      elim (or_cases (is_reg_numbered (head_of x).code (head_of x).number reg) (list_any (mentions_reg reg) (kids_of x)) (sym (mentions_out reg x) ∙ is)) [
        | inl here ↦ or_left (is_homeless (head_of x).code (head_of x).number) _ (of_register (head_of x).code (head_of x).number here)
        | inr more ↦ or_right (is_homeless (head_of x).code (head_of x).number) _ (of_parts (kids_of x) all more)
      ]

  -- a register above 31 that stands in a tree has no home
  pub stands_homeless : (x : Rtx) → mentions_reg reg x ≡ true → names_homeless x ≡ true
  stands_homeless = rtx_induction Good of_tree

  pub is_no_argument : is_argument reg ≡ true → ⊥
  is_no_argument is = let le = leb-true reg 17 (and_parts (nat_le 10 reg) (nat_le reg 17) is).1 in omega (arith, le, above)
