-- The registers at entry, by what a look-up gives.
use Rattle.std.proofs.Common.{◌≡◌, ◌≢◌, ℕ, zero, suc, ◌-◌, ◌==◌, if◌then◌else◌, false, List, [], ◌∷◌, ◌++◌, Option, Some, None, refl, sym, ap, ◌∙◌, arith}
use Rattle.std.proofs.lemmas.Bool.Decides.{nat_tests}
use Rattle.std.specs.Cmp.{nat_cmp_total}
use Rattle.std.specs.FinMap.{empty, get, get-empty, get-insert}
use Rattle.std.specs.Ordering.{nat_cmp, eq_by_cmp}
use Rattle.std.specs.Prelude.{slice_index}
use Rattle.bits64.specs.declared.Width.TheVariants.{W64}
use Rattle.rtx_tree.specs.declared.machine.Start.{Start}
use Rattle.rtl_step.specs.Regs.{Regs, known_of, with_reg}
use Rattle.rtl_step.specs.declared.regs.Known.{Known}
use Rattle.func_run.specs.Run.{entry_values, entry_regs, with_all}
use Rattle.law_frame.specs.Kept.{lowered}

abbrev Entries : Type 0
Entries = List (ℕ × ℕ)

-- the last entry of a register, if there is one
abbrev given : Entries → ℕ → Option Known → Option Known
given [] r o = o
given (e ∷ rest) r o = given rest r (if e.0 == r then Some (known_of W64 e.1) else o)

turned : (n r : ℕ) → eq_by_cmp nat_cmp r n ≡ (n == r)
turned n r = grind (arith, nat_tests)

not_zero : (r : ℕ) → (0 == suc r) ≡ false
not_zero r = grind (arith, nat_tests)

one_given : (n x r : ℕ) (regs : Regs) → get (with_reg regs n (known_of W64 x)) (suc r) ≡
    (if n == suc r then Some (known_of W64 x) else get regs (suc r))
one_given zero x r regs = sym (ap (λ b. if b then Some (known_of W64 x) else get regs (suc r)) (not_zero r))
one_given (suc n) x r regs = get-insert nat_cmp_total regs (suc n) (known_of W64 x) (suc r) ∙
    ap (λ b. if b then Some (known_of W64 x) else get regs (suc r)) (turned (suc n) (suc r))

all_given : (entries : Entries) (regs : Regs) (r : ℕ) → get (with_all entries regs) (suc r) ≡ given entries (suc r) (get regs (suc r))
all_given [] regs r = refl
all_given (e ∷ rest) regs r = all_given rest (with_reg regs e.0 (known_of W64 e.1)) r ∙ ap (given rest (suc r)) (one_given e.0 e.1 r regs)

-- what a register holds at entry
pub at_entry : (start : Start) (r : ℕ) → get (entry_regs start) (suc r) ≡ given (entry_values start) (suc r) None
at_entry start r = all_given (entry_values start) empty r ∙ ap (given (entry_values start) (suc r)) (get-empty nat_cmp (suc r))

-- an entry of another register may have any number
other_given : (front back : Entries) (n x y r : ℕ) (o : Option Known) → (n == r) ≡ false →
    given (front ++ (n, x) ∷ back) r o ≡ given (front ++ (n, y) ∷ back) r o
other_given [] back n x y r o other =
    ap (λ b. given back r (if b then Some (known_of W64 x) else o)) other ∙
    sym (ap (λ b. given back r (if b then Some (known_of W64 y) else o)) other)
other_given (e ∷ front) back n x y r o other =
    other_given front back n x y r (if e.0 == r then Some (known_of W64 e.1) else o) other

-- the entries in front of that of sp, and behind it
abbrev arguments : Start → Entries
arguments start =
    (10, slice_index start.args 0) ∷ (11, slice_index start.args 1) ∷ (12, slice_index start.args 2) ∷ (13, slice_index start.args 3) ∷
    (14, slice_index start.args 4) ∷ (15, slice_index start.args 5) ∷ (16, slice_index start.args 6) ∷ (17, slice_index start.args 7) ∷ []

abbrev saved : Start → Entries
saved start = (1, start.ra) ∷
    (8, slice_index start.saved 0) ∷ (9, slice_index start.saved 1) ∷ (18, slice_index start.saved 2) ∷ (19, slice_index start.saved 3) ∷
    (20, slice_index start.saved 4) ∷ (21, slice_index start.saved 5) ∷ (22, slice_index start.saved 6) ∷ (23, slice_index start.saved 7) ∷
    (24, slice_index start.saved 8) ∷ (25, slice_index start.saved 9) ∷ (26, slice_index start.saved 10) ∷ (27, slice_index start.saved 11) ∷
    (32, start.vars) ∷ []

two_not : (r : ℕ) → r ≢ 2 → (2 == r) ≡ false
two_not r other = grind (arith, nat_tests, other)

-- what a start with a lowered sp has in the other registers
pub lowered_other : (size : ℕ) (start : Start) (r : ℕ) → suc r ≢ 2 →
    get (entry_regs (lowered size start)) (suc r) ≡ get (entry_regs start) (suc r)
lowered_other size start r other =
    at_entry (lowered size start) r ∙
    other_given (arguments start) (saved start) 2 (start.sp - size) start.sp (suc r) None (two_not (suc r) other) ∙
    sym (at_entry start r)

pub spare_unset : (start : Start) → get (entry_regs start) 28 ≡ None
spare_unset start = at_entry start 27

pub sp_given : (start : Start) → get (entry_regs start) 2 ≡ Some (known_of W64 start.sp)
sp_given start = at_entry start 1
