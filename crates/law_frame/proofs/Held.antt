-- What sp, ra and s0 to s11 hold at entry.
use Rattle.std.proofs.Common.{◌≡◌, ℕ, suc, ◌<◌, ◌^◌, ◌==◌, ◌||◌, Bool, true, false, List, [], ◌∷◌, Option, Some, refl, sym, ap, subst, ◌∙◌, arith}
use Rattle.std.proofs.lemmas.Bool.Decides.{nat_tests}
use Rattle.std.specs.FinMap.{get}
use Rattle.std.specs.Prelude.{slice_index, unwrap_or}
use Rattle.bits64.specs.declared.Width.TheVariants.{W64}
use Rattle.rtx_tree.specs.RegSet.{has_reg}
use Rattle.rtx_tree.specs.declared.machine.Start.{Start}
use Rattle.rtl_step.specs.Regs.{Regs, known_of, reg_value}
use Rattle.func_run.specs.Run as func
use Rattle.func_run.specs.Run.{entry_regs, values_of}
use Rattle.same_behaviour.specs.Lawful.{AreWords}
use Rattle.law_window_replaced.specs.law_window_lines.Left.{found}
use Rattle.law_window_replaced.proofs.law_window_lines.Small.{◌also◌}
use Rattle.law_frame.specs.Kept.{preserved_registers}
use Rattle.law_frame.specs.Keeps.{held_at_entry}
use Rattle.law_frame.proofs.Entry.{at_entry}
use Rattle.law_frame.proofs.Layouts.{no_register}
use Rattle.law_frame.proofs.Registers.{holds}

module _ (start : Start) (words : AreWords start) where
  -- a register with a number of 64 bits
  record HoldsSome (reg : ℕ) : Type 0 where
    number : ℕ
    small : number < 2 ^ 64
    is : get (entry_regs start) reg ≡ Some (known_of W64 number)

  abbrev EachHolds : List ℕ → Type 0
  EachHolds [] = Unit {0}
  EachHolds (r ∷ regs) = HoldsSome r × EachHolds regs

  same_of : (a b : ℕ) → (a == b) ≡ true → a ≡ b
  same_of a b is = grind (arith, nat_tests, is)

  first_or_later : (here : Bool) (r reg : ℕ) (regs : List ℕ) → (r == reg) ≡ here → HoldsSome r → (has_reg regs reg ≡ true → HoldsSome reg) →
      here || has_reg regs reg ≡ true → HoldsSome reg
  first_or_later true r reg regs is one later has = subst HoldsSome (same_of r reg is) one
  first_or_later false r reg regs is one later has = later has

  of_each : (regs : List ℕ) (reg : ℕ) → EachHolds regs → has_reg regs reg ≡ true → HoldsSome reg
  of_each [] reg each has = absurd (let no : ⊥ = cc in no)
  of_each (r ∷ regs) reg each has = first_or_later (r == reg) r reg regs refl each.0 (of_each regs reg each.1) has

  saved_holds : (k : ℕ) (r : ℕ) → k < 12 → get (entry_regs start) r ≡ Some (known_of W64 (slice_index start.saved k)) → HoldsSome r
  saved_holds k r few is = record { number = slice_index start.saved k; small = words.saved k few; is = is }

  all_hold : EachHolds preserved_registers
  all_hold =
      record { number = start.ra; small = words.ra; is = at_entry start 0 } also
      saved_holds 0 8 (omega arith) (at_entry start 7) also saved_holds 1 9 (omega arith) (at_entry start 8) also
      saved_holds 2 18 (omega arith) (at_entry start 17) also saved_holds 3 19 (omega arith) (at_entry start 18) also
      saved_holds 4 20 (omega arith) (at_entry start 19) also saved_holds 5 21 (omega arith) (at_entry start 20) also
      saved_holds 6 22 (omega arith) (at_entry start 21) also saved_holds 7 23 (omega arith) (at_entry start 22) also
      saved_holds 8 24 (omega arith) (at_entry start 23) also saved_holds 9 25 (omega arith) (at_entry start 24) also
      saved_holds 10 26 (omega arith) (at_entry start 25) also saved_holds 11 27 (omega arith) (at_entry start 26) also tt

  pub record IsHeld (reg : ℕ) : Type 0 where
    pub small : held_at_entry start reg < 2 ^ 64
    pub is : get (entry_regs start) reg ≡ Some (known_of W64 (held_at_entry start reg))
    pub value_is : reg_value (entry_regs start) reg W64 ≡ Some (held_at_entry start reg)

  -- each register that a function preserves, but for sp
  pub is_held : (reg : ℕ) → has_reg preserved_registers reg ≡ true → IsHeld reg
  is_held reg preserved =
      let some = of_each preserved_registers reg all_hold preserved in
      let value : reg_value (entry_regs start) reg W64 ≡ Some some.number =
      holds (entry_regs start) reg some.number (no_register reg preserved).0 some.small some.is in
      let same : some.number ≡ held_at_entry start reg = sym (ap (λ o. unwrap_or o 0) value) in record {
        small = subst (λ n. n < 2 ^ 64) same some.small;
        is = some.is ∙ ap (λ n. Some (known_of W64 n)) same;
        value_is = value ∙ ap Some same;
      }

  -- ---- all that a caller finds

  next_to : (x y : Option ℕ) (xs ys : List (Option ℕ)) → x ≡ y → xs ≡ ys → x ∷ xs ≡ y ∷ ys
  next_to x y xs ys same same' = cc

  module _ (regs : Regs) (same : (r : ℕ) → has_reg func.kept_registers r ≡ true → reg_value regs r W64 ≡ reg_value (entry_regs start) r W64) where
    abbrev Pairs : List ℕ → List (Option ℕ) → Type 0
    Pairs [] [] = Unit {0}
    Pairs [] (n ∷ numbers) = ⊥
    Pairs (r ∷ rs) [] = ⊥
    Pairs (r ∷ rs) (n ∷ numbers) = (reg_value regs r W64 ≡ n) × Pairs rs numbers

    all_pairs : (rs : List ℕ) (numbers : List (Option ℕ)) → Pairs rs numbers → values_of regs rs ≡ numbers
    all_pairs [] [] pairs = refl
    all_pairs [] (n ∷ numbers) pairs = absurd pairs
    all_pairs (r ∷ rs) [] pairs = absurd pairs
    all_pairs (r ∷ rs) (n ∷ numbers) pairs =
        next_to (reg_value regs r W64) n (values_of regs rs) numbers pairs.0 (all_pairs rs numbers pairs.1)

    one : (r n : ℕ) → has_reg func.kept_registers (suc r) ≡ true → n < 2 ^ 64 → get (entry_regs start) (suc r) ≡ Some (known_of W64 n) →
        reg_value regs (suc r) W64 ≡ Some n
    one r n kept small is = same (suc r) kept ∙ holds (entry_regs start) (suc r) n (λ none. omega (arith, none)) small is

    saved_one : (k r : ℕ) → k < 12 → has_reg func.kept_registers (suc r) ≡ true →
        get (entry_regs start) (suc r) ≡ Some (known_of W64 (slice_index start.saved k)) →
        reg_value regs (suc r) W64 ≡ Some (slice_index start.saved k)
    saved_one k r few kept is = one r (slice_index start.saved k) kept (words.saved k few) is

    -- sp, ra and s0 to s11 are as they were
    pub found_again : values_of regs func.kept_registers ≡ found start
    found_again = all_pairs func.kept_registers (found start) (
        one 1 start.sp refl words.sp (at_entry start 1) also one 0 start.ra refl words.ra (at_entry start 0) also
        saved_one 0 7 (omega arith) refl (at_entry start 7) also saved_one 1 8 (omega arith) refl (at_entry start 8) also
        saved_one 2 17 (omega arith) refl (at_entry start 17) also saved_one 3 18 (omega arith) refl (at_entry start 18) also
        saved_one 4 19 (omega arith) refl (at_entry start 19) also saved_one 5 20 (omega arith) refl (at_entry start 20) also
        saved_one 6 21 (omega arith) refl (at_entry start 21) also saved_one 7 22 (omega arith) refl (at_entry start 22) also
        saved_one 8 23 (omega arith) refl (at_entry start 23) also saved_one 9 24 (omega arith) refl (at_entry start 24) also
        saved_one 10 25 (omega arith) refl (at_entry start 25) also saved_one 11 26 (omega arith) refl (at_entry start 26) also tt)
