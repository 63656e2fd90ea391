-- The registers of a function that can be reloaded live in registers of the machine or in slots.
use Rattle.std.proofs.Common.{◌≡◌, ℕ, ◌-◌, ◌≤◌, inl, inr, true, List, Some, refl, sym, ap, subst, ◌∙◌, arith}
use Rattle.std.proofs.lemmas.Bool.{and_parts, leb-true, or_cases}
use Rattle.std.specs.Prelude.{nat_le, slice_get}
use Rattle.rtx_tree.specs.RegSet.{has_reg}
use Rattle.rtx_tree.specs.Registers.{pseudo}
use Rattle.rtx_tree.specs.Tree.{mentions_reg}
use Rattle.rtx_tree.specs.declared.function.Function.{Function}
use Rattle.rtx_tree.specs.declared.function.Insn.{Insn}
use Rattle.rtl_func.specs.Calls.{is_argument}
use Rattle.assign.specs.Homes.{pseudos, AreHomes}
use Rattle.assign.specs.declared.home.Home.{Home}
use Rattle.assign.specs.declared.home.Home.TheVariants.{Hard, Slot}
use Rattle.assign.specs.declared.home.HomeOf.{HomeOf}
use Rattle.assign.specs.declared.places.Layout.{Layout}
use Rattle.law_reload.specs.law_pass_needs.Reloadable.{IsReloadable}
use Rattle.law_homes.specs.Stands.{has_home}
use Rattle.law_homes.proofs.After.{any_at}
use Rattle.law_homes.proofs.HomesApart.{order_home, below_itself, listed_home}
use Rattle.law_reload.specs.reload.Reload.{placed}
use Rattle.law_reload.proofs.Placeable.{can_be_placed}
use Rattle.law_no_pseudos.proofs.Homes.{IsMachine, Lives, AllLive, MayLive, framed_lives}

module _ (f : Function) (homes : List HomeOf) (layout : Layout) (are : AreHomes f homes) (is : IsReloadable f) where
  below_lives : (reg : ℕ) → reg ≤ 31 → Lives homes layout reg
  below_lives reg few = subst IsMachine (sym (below_itself f homes are reg (omega (arith, few)))) few

  listed_lives : (k n : ℕ) (x : HomeOf) (h : Home) → slice_get homes n ≡ Some x → x.home ≡ h → IsMachine h
  listed_lives k n x (Hard hard) at is = let few = (order_home f homes are n hard x at is).1 in omega (arith, few)
  listed_lives k n x Slot at is = tt

  pseudo_lives : (k place : ℕ) (i : Insn) → slice_get f.insns place ≡ Some i → mentions_reg (pseudo k) i.pattern ≡ true → Lives homes layout (pseudo k)
  pseudo_lives k place i at has =
      let stands : has_reg (pseudos homes) k ≡ true = are.named k ∙ any_at (λ (j : Insn). mentions_reg (pseudo k) j.pattern) f.insns place i at has in
      let home = listed_home homes k stands in
      subst IsMachine (sym home.3) (listed_lives k home.0 home.1 home.1.home home.2 refl)

  with_home : (reg place : ℕ) (i : Insn) → slice_get f.insns place ≡ Some i → mentions_reg reg i.pattern ≡ true → has_home reg ≡ true → Lives homes layout reg
  with_home reg place i at has home = elim (or_cases (is_argument reg) (nat_le (pseudo 0) reg) home) [
    | inl argument ↦
        let most = leb-true reg 17 (and_parts (nat_le 10 reg) (nat_le reg 17) argument).1 in
        below_lives reg (omega (arith, most))
    | inr above ↦
        let least : 64 ≤ reg = leb-true 64 reg above in
        let number : reg ≡ pseudo (reg - 64) = omega (arith, least) in
        subst (Lives homes layout) (sym number) (pseudo_lives (reg - 64) place i at (ap (λ r. mentions_reg r i.pattern) (sym number) ∙ has))
  ]

  pub may_live : (place : ℕ) (i : Insn) → slice_get f.insns place ≡ Some i → MayLive homes layout i.pattern
  may_live place i at reg has = elim ((can_be_placed f is).named place reg i at has) [
    | inl vars ↦ inl vars
    | inr home ↦ inr (with_home reg place i at has home)
  ]

  -- with its references to the frame put in
  pub placed_lives : (place : ℕ) (i : Insn) → slice_get f.insns place ≡ Some i → AllLive homes layout (placed layout i)
  placed_lives place i at = framed_lives homes layout (below_lives 2 (omega arith)) i.pattern (may_live place i at)
