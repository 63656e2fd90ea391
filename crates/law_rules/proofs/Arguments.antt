-- The hard registers that a function which keeps the rules may name are a0 to a7.
use Rattle.std.proofs.Common.{◌≡◌, ℕ, ◌<◌, ◌≤◌, true, ◌||◌, List, [], ◌∷◌, sym, ap, ◌∙◌, inl, inr, arith}
use Rattle.std.specs.Prelude.{ℤ, pos, nat_le}
use Rattle.std.specs.Int.{cast_unsigned, w64}
use Rattle.std.specs.List.{list_any, list_all, AllByRecursion}
use Rattle.std.proofs.lemmas.Bool.{false≢true, and_parts, or_cases, leb-true}
use Rattle.std.proofs.lemmas.Bool.Decides.{Decides-int_eq}
use Rattle.rtx_tree.specs.Code.{class_of_code}
use Rattle.rtx_tree.specs.declared.code.Code.{Code}
use Rattle.rtx_tree.specs.declared.code.Code.TheVariants.{Reg}
use Rattle.rtx_tree.specs.declared.tree.Rtx.{Rtx}
use Rattle.rtx_tree.specs.Tree.{head_of, kids_of, is_reg_numbered, mentions_reg}
use Rattle.rtx_tree.proofs.Trees.{mentions_out}
use Rattle.rtl_func.specs.Calls.{is_argument, is_hard_argument, has_argument}
use Rattle.rtl_func.specs.Modes.{register_by}
use Rattle.rtl_func.proofs.AllPass.{all_pass, pass_out}
use Rattle.func_input.proofs.rtl_print.TreeText.{rtx_induction}

module _ (reg : ℕ) (hard : reg < 32) where
  of_number : (n : ℤ) → n ≡ pos reg → is_hard_argument (register_by (class_of_code Reg) (cast_unsigned w64 n)) ≡ true →
      is_argument reg ≡ true
  of_number n is argument =
      let same : cast_unsigned w64 (pos reg) ≡ reg = omega (arith, hard) in
      let one_of_both : (nat_le 32 reg || is_argument reg) ≡ true =
      sym (ap (λ (r : ℕ). nat_le 32 r || is_argument r) same)
      ∙ sym (ap (λ (z : ℤ). is_hard_argument (register_by (class_of_code Reg) (cast_unsigned w64 z))) is)
      ∙ argument in
      elim (or_cases (nat_le 32 reg) (is_argument reg) one_of_both) [
        | inl large ↦ absurd (let le : 32 ≤ reg = leb-true 32 reg large in omega (arith, le, hard))
        | inr one ↦ one
      ]

  of_register : (c : Code) (n : ℤ) → is_reg_numbered c n reg ≡ true →
      is_hard_argument (register_by (class_of_code c) (cast_unsigned w64 n)) ≡ true → is_argument reg ≡ true
  of_register Reg n is argument = of_number n ((Decides-int_eq n (pos reg)).0 is) argument
  of_register _ n is argument = absurd (false≢true is)

  abbrev Good : Rtx → Type 0
  Good x = all_pass has_argument x ≡ true → mentions_reg reg x ≡ true → is_argument reg ≡ true

  of_parts : (parts : List Rtx) → AllByRecursion Good parts → list_all (all_pass has_argument) parts ≡ true →
      list_any (mentions_reg reg) parts ≡ true → is_argument reg ≡ true
  of_parts [] all keep is = absurd (false≢true is)
  of_parts (x ∷ parts) all keep is =
      let kept = and_parts (all_pass has_argument x) (list_all (all_pass has_argument) parts) keep in
      elim (or_cases (mentions_reg reg x) (list_any (mentions_reg reg) parts) is) [
        | inl here ↦ all.0 kept.0 here
        | inr more ↦ of_parts parts all.1 kept.1 more
      ]

  of_tree : (x : Rtx) → AllByRecursion Good (kids_of x) → Good x
  of_tree x all keep is =
      let kept = and_parts (has_argument x) (list_all (all_pass has_argument) (kids_of x)) (sym (pass_out has_argument x) ∙ keep) in
      elim (or_cases (is_reg_numbered (head_of x).code (head_of x).number reg) (list_any (mentions_reg reg) (kids_of x)) (sym (mentions_out reg x) ∙ is)) [
        | inl here ↦ of_register (head_of x).code (head_of x).number here kept.0
        | inr more ↦ of_parts (kids_of x) all kept.1 more
      ]

  -- a hard register that stands in a tree is one of a0 to a7
  pub stands_argument : (x : Rtx) → all_pass has_argument x ≡ true → mentions_reg reg x ≡ true → is_argument reg ≡ true
  stands_argument = rtx_induction Good of_tree
