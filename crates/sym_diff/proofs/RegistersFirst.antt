-- The registers agree where nothing is found in them; what is found is the first that does not.
use Rattle.std.proofs.Common.{◌≡◌, ℕ, ◌<◌, ◌==◌, ◌&&◌, ◌||◌, not, nat_le, Bool, true, false, cond, List, [], ◌∷◌, Option, Some, None, refl, sym, ◌∙◌, ap, subst, arith}
use Rattle.std.specs.Prelude.{is_some}
use Rattle.rtx_tree.specs.RegSet.{has_reg}
use Rattle.rtx_tree.specs.Registers.{virtual_stack_vars}
use Rattle.term_tree.specs.Tree.{Tree}
use Rattle.term_text.specs.declared.item.Item.TheVariants as item
use Rattle.sym_term.proofs.Steps.{same-is}
use Rattle.sym_state.specs.State.{State, own_register}
use Rattle.sym_state.specs.Registers.{held}
use Rattle.sym_diff.specs.Difference.{Difference, or_else}
use Rattle.sym_diff.specs.Registers.{same_tree, is_live, compared_register, compared_all, compared_registers, changed_in, fails, one_calls, is_passed_over, register_difference}
use Rattle.sym_diff.specs.Agree.{RegistersAgree, FirstFails}
use Rattle.sym_diff.proofs.AgreeLaws.{or_none, register_none, none_register}
use Rattle.sym_diff.proofs.NumberLaws.{same_number, changed_keeps, changed_has, Increasing, changed_increasing, has_over}
use Rattle.sym_diff.proofs.Items.{InItem, some_item, none_item}

abbrev numbers : State → State → List ℕ
numbers a b = changed_in b.regs (changed_in a.regs [])

-- what a register is found to be
abbrev found_in : List ℕ → State → State → ℕ → Option Difference
found_in live a b reg = compared_register (one_calls a b) live (held a.regs reg) (held b.regs reg) reg

abbrev found_among : List ℕ → State → State → List ℕ → Option Difference
found_among live a b regs = compared_all (one_calls a b) live a.regs b.regs regs

-- a register that is not changed agrees
unchanged : (c : Bool) (live : List ℕ) (reg : ℕ) → compared_register c live None None reg ≡ None
unchanged c live reg = go (is_passed_over c reg) (nat_le reg virtual_stack_vars) (is_live live reg) (same_tree (own_register reg) (own_register reg)) ((same-is (own_register reg) (own_register reg)).1 refl)
  where
    go : (p n l g : Bool) → g ≡ true → cond (not p && ((n && false) || (l && not g))) (Some (register_difference None None reg)) None ≡ None
    go true n l g is = refl
    go false true true true is = refl
    go false true true false is = cc
    go false true false g is = refl
    go false false true true is = refl
    go false false true false is = cc
    go false false false g is = refl

not_held_first : (a b : State) (reg : ℕ) → has_reg (numbers a b) reg ≡ false → held a.regs reg ≡ None
not_held_first a b reg h = go (held a.regs reg) refl
  where
    go : (x : Option (Option Tree)) → held a.regs reg ≡ x → x ≡ None
    go None is = refl
    go (Some v) is = let has = changed_keeps b.regs (changed_in a.regs []) reg (changed_has a.regs [] reg (ap is_some is)) in cc

not_held_second : (a b : State) (reg : ℕ) → has_reg (numbers a b) reg ≡ false → held b.regs reg ≡ None
not_held_second a b reg h = go (held b.regs reg) refl
  where
    go : (x : Option (Option Tree)) → held b.regs reg ≡ x → x ≡ None
    go None is = refl
    go (Some v) is = let has = changed_has b.regs (changed_in a.regs []) reg (ap is_some is) in cc

not_among : (live : List ℕ) (a b : State) (reg : ℕ) → has_reg (numbers a b) reg ≡ false → found_in live a b reg ≡ None
not_among live a b reg h =
    ap (λ x. compared_register (one_calls a b) live x (held b.regs reg) reg) (not_held_first a b reg h)
    ∙ ap (λ y. compared_register (one_calls a b) live None y reg) (not_held_second a b reg h)
    ∙ unchanged (one_calls a b) live reg

-- where those that are looked at are found to be nothing, each is
each_none : (live : List ℕ) (a b : State) (reg : ℕ) → (has_reg (numbers a b) reg ≡ true → found_in live a b reg ≡ None) → found_in live a b reg ≡ None
each_none live a b reg h = go (has_reg (numbers a b) reg) refl
  where
    go : (has : Bool) → has_reg (numbers a b) reg ≡ has → found_in live a b reg ≡ None
    go true is = h is
    go false is = not_among live a b reg is

all_none : (live : List ℕ) (a b : State) (regs : List ℕ) → found_among live a b regs ≡ None → (reg : ℕ) → has_reg regs reg ≡ true → found_in live a b reg ≡ None
all_none live a b [] h reg has = cc
all_none live a b (r ∷ regs) h reg has =
    let two = or_none (found_in live a b r) (found_among live a b regs) h in
    go (r == reg) refl has two.0 (all_none live a b regs two.1 reg)
  where
    go : (here : Bool) → (r == reg) ≡ here → (here || has_reg regs reg) ≡ true → found_in live a b r ≡ None → (has_reg regs reg ≡ true → found_in live a b reg ≡ None) →
        found_in live a b reg ≡ None
    go true is has first ih = subst (λ n. found_in live a b n ≡ None) (same_number r reg is) first
    go false is has first ih = ih has

pub registers_none : (live : List ℕ) (a b : State) → compared_registers live a b ≡ None → RegistersAgree live a b
registers_none live a b h = λ reg. register_none live a b reg (each_none live a b reg (all_none live a b (numbers a b) h reg))

-- what is found stands at a register, and nothing is found below it
record FoundAt (live : List ℕ) (a b : State) (regs : List ℕ) (d : Difference) : Type 0 where
  reg : ℕ
  found : found_in live a b reg ≡ Some d
  before : (r : ℕ) → r < reg → has_reg regs r ≡ true → found_in live a b r ≡ None

found_first : (live : List ℕ) (a b : State) (d : Difference) (regs : List ℕ) → Increasing regs → found_among live a b regs ≡ Some d → FoundAt live a b regs d
found_first live a b d [] rises h = cc
found_first live a b d (r ∷ regs) rises h = go (found_in live a b r) refl h (found_first live a b d regs rises.1)
  where
    below : (s : ℕ) → s < r → has_reg (r ∷ regs) s ≡ true → found_in live a b s ≡ None
    below s less has = absurd (by (r == s) refl has)
      where
        by : (here : Bool) → (r == s) ≡ here → (here || has_reg regs s) ≡ true → ⊥
        by true is has = let e : r ≡ s = same_number r s is in omega arith
        by false is has = let over : r < s = has_over r s regs rises.0 has in omega arith

    later : (f : FoundAt live a b regs d) → found_in live a b r ≡ None → (s : ℕ) → s < f.reg → has_reg (r ∷ regs) s ≡ true → found_in live a b s ≡ None
    later f first s less has = by (r == s) refl has
      where
        by : (here : Bool) → (r == s) ≡ here → (here || has_reg regs s) ≡ true → found_in live a b s ≡ None
        by true is has = subst (λ n. found_in live a b n ≡ None) (same_number r s is) first
        by false is has = f.before s less has

    go : (x : Option Difference) → found_in live a b r ≡ x → or_else x (found_among live a b regs) ≡ Some d → (found_among live a b regs ≡ Some d → FoundAt live a b regs d) →
        FoundAt live a b (r ∷ regs) d
    go (Some e) is h ih = record { reg = r; found = is ∙ h; before = below }
    go None is h ih = let f = ih h in record { reg = f.reg; found = f.found; before = later f is }

register_item : (c : Bool) (live : List ℕ) (x y : Option (Option Tree)) (reg : ℕ) → InItem (item.Register reg) (compared_register c live x y reg)
register_item c live x y reg = go (not (is_passed_over c reg) && fails live x y reg)
  where
    go : (f : Bool) → InItem (item.Register reg) (cond f (Some (register_difference x y reg)) None)
    go true = some_item (item.Register reg) _ _
    go false = none_item (item.Register reg)

pub registers_first : (of_lines : Bool) (live : List ℕ) (a b : State) (d : Difference) → compared_registers live a b ≡ Some d → FirstFails of_lines live a b d
registers_first of_lines live a b d h =
    let f = found_first live a b d (numbers a b) (changed_increasing b.regs (changed_in a.regs []) (changed_increasing a.regs [] tt)) h in
    let i = register_item (one_calls a b) live (held a.regs f.reg) (held b.regs f.reg) f.reg d f.found in
    subst (λ d. FirstFails of_lines live a b d) (sym i.is) (
      λ r less. register_none live a b r (each_none live a b r (f.before r less)),
      λ agree. never (found_in live a b f.reg) f.found (none_register live a b f.reg agree),
    )
  where
    never : (x : Option Difference) → x ≡ Some d → x ≡ None → ⊥
    never x some none = cc
