-- The two machines at entry: they stand beside each other, and what the function knows of a hard register the code has.
use Rattle.std.proofs.Common.{◌≡◌, ◌≢◌, ℕ, zero, suc, ◌≤◌, ◌<◌, ◌==◌, ◌||◌, not, arith, cond, if◌then◌else◌, ⊎_elim, Bool, true, false, List, [], ◌∷◌, Option, Some, None, refl, sym, ap, subst, ◌∙◌}
use Rattle.std.proofs.lemmas.Bool.Decides.{nat_tests}
use Rattle.std.specs.Cmp.{nat_cmp_total}
use Rattle.std.specs.FinMap.{empty, get, get-empty, get-insert}
use Rattle.std.specs.Ordering.{nat_cmp, eq_by_cmp}
use Rattle.std.specs.Prelude.{slice_get, option_and_then, option_map, IfSome, nat_le}
use Rattle.bits64.specs.Words.{low, bits_of}
use Rattle.bits64.specs.declared.Width.{Width}
use Rattle.bits64.specs.declared.Width.TheVariants.{W8, W16, W32, W64}
use Rattle.rtx_tree.specs.Memories.{byte_at}
use Rattle.rtx_tree.specs.declared.machine.Start.{Start}
use Rattle.rtx_tree.specs.declared.memories.MemByte.{MemByte}
use Rattle.rtl_step.specs.Regs.{Regs, known_in, known_of, with_reg}
use Rattle.func_run.specs.Run as func
use Rattle.rv_line.specs.Run as lines
use Rattle.rv_line.specs.Step.{register}
use Rattle.law_window_runs.specs.same_behaviour.Lawful.{IsWord, AreWords, IsLawful, is_below_sp, seen_by_rtl}
use Rattle.law_window_runs.proofs.same_behaviour.Entry.{same_or_not, visible_at_entry}
use Rattle.law_window_runs.proofs.same_behaviour.Kept.{kept, memory_kept}
use Rattle.law_window_runs.specs.Beside.{Agrees, Beside, IsMachine}
use Rattle.law_window_lines.proofs.Replies.{agrees_zero, held, register_at, low_in}
use Rattle.law_window_lines.proofs.Small.{is_here, is_other, ◌also◌}

-- ---- a part of memory that goes by the addresses

module _ (test : ℕ → Bool) where
  -- what is in the part is in the whole
  within_kept : (memory : List MemByte) (address byte : ℕ) → byte_at (kept test memory) address ≡ Some byte →
      (byte_at memory address ≡ Some byte) × (test address ≡ true)
  within_kept [] address byte has = absurd (let no : ⊥ = cc in no)
  within_kept (b ∷ memory) address byte has = ⊎_elim
      (λ (here : b.address ≡ address). at_here (test b.address) refl here (within_kept memory address byte) has)
      (λ other. let rest = within_kept memory address byte (elsewhere (test b.address) other has) in
      (ap (λ c. if c then Some b.byte else byte_at memory address) (not_here other) ∙ rest.0, rest.1))
      (same_or_not b.address address)
    where
      not_here : b.address ≢ address → (b.address == address) ≡ false
      not_here other = grind (arith, nat_tests, other)

      elsewhere : (is : Bool) → b.address ≢ address → byte_at (cond is (b ∷ kept test memory) (kept test memory)) address ≡ Some byte →
          byte_at (kept test memory) address ≡ Some byte
      elsewhere true other has = sym (ap (λ c. if c then Some b.byte else byte_at (kept test memory) address) (not_here other)) ∙ has
      elsewhere false other has = has

      at_here : (is : Bool) → test b.address ≡ is → b.address ≡ address →
          (byte_at (kept test memory) address ≡ Some byte → (byte_at memory address ≡ Some byte) × (test address ≡ true)) →
          byte_at (cond is (b ∷ kept test memory) (kept test memory)) address ≡ Some byte →
          (byte_at (b ∷ memory) address ≡ Some byte) × (test address ≡ true)
      at_here true is here later has = let yes : (b.address == address) ≡ true = grind (arith, nat_tests, here) in (
        ap (λ c. if c then Some b.byte else byte_at memory address) yes ∙
            sym (ap (λ c. if c then Some b.byte else byte_at (kept test memory) address) yes) ∙ has,
        sym (ap test here) ∙ is,
      )
      at_here false is here later has =
          absurd (let both : true ≡ false = sym (later has).1 ∙ sym (ap test here) ∙ is in let no : ⊥ = cc in no)

-- ---- registers

-- each of some hard registers has its value in the code
abbrev AreHeld : List (Option ℕ) → List (ℕ × ℕ) → Type 0
AreHeld code [] = Unit {0}
AreHeld code (entry ∷ rest) = (entry.0 < 32 → register code entry.0 ≡ Some entry.1) × AreHeld code rest

fits_all : (w : Width) → nat_le (bits_of w) 64 ≡ true
fits_all W8 = refl
fits_all W16 = refl
fits_all W32 = refl
fits_all W64 = refl

pub known_wide : (w : Width) (value : ℕ) → known_in w (known_of W64 value) ≡ Some (low w value)
known_wide w value = ap (λ b. if b then Some (low w (low W64 value)) else None) (fits_all w) ∙ ap Some (low_in w W64 value (fits_all w))

agrees_with : (regs : Regs) (code : List (Option ℕ)) (t value reg : ℕ) → reg < 32 → (t < 32 → register code t ≡ Some value) →
    Agrees regs code reg →
    Agrees (with_reg regs t (known_of W64 value)) code reg
agrees_with regs code zero value reg small holds agrees = agrees
agrees_with regs code (suc t) value zero small holds agrees = agrees_zero (with_reg regs (suc t) (known_of W64 value)) code
agrees_with regs code (suc t) value (suc reg) small holds agrees = λ w v known.
    let set : get (with_reg regs (suc t) (known_of W64 value)) (suc reg) ≡ (if eq_by_cmp nat_cmp (suc reg) (suc t) then Some
    (known_of W64 value) else get regs (suc reg)) =
    get-insert nat_cmp_total regs (suc t) (known_of W64 value) (suc reg) in
    ⊎_elim
    (λ (same : suc t ≡ suc reg).
    let here : option_and_then (known_in w) (get (with_reg regs (suc t) (known_of W64 value)) (suc reg)) ≡ Some (low w value) =
    ap (option_and_then (known_in w)) (set ∙ ap (λ b. if b then Some (known_of W64 value) else get regs (suc reg))
    (subst (λ n. eq_by_cmp nat_cmp n (suc t) ≡ true) same (is_here (suc t)))) ∙ known_wide w value in
    ap (option_map (low w)) (subst (λ n. register code n ≡ Some value) same (holds (omega (arith, small, same)))) ∙ sym here ∙ known)
    (λ other. agrees w v (sym (ap (option_and_then (known_in w)) (set ∙
    ap (λ b. if b then Some (known_of W64 value) else get regs (suc reg))
    (is_other (suc reg) (suc t) other))) ∙ known))
    (same_or_not (suc t) (suc reg))

agrees_all : (entries : List (ℕ × ℕ)) (regs : Regs) (code : List (Option ℕ)) (reg : ℕ) → reg < 32 → AreHeld code entries →
    Agrees regs code reg →
    Agrees (func.with_all entries regs) code reg
agrees_all [] regs code reg small holds agrees = agrees
agrees_all (entry ∷ rest) regs code reg small holds agrees =
    agrees_all rest (with_reg regs entry.0 (known_of W64 entry.1)) code reg small holds.1
    (agrees_with regs code entry.0 entry.1 reg small holds.0 agrees)

agrees_empty : (code : List (Option ℕ)) (reg : ℕ) → Agrees empty code reg
agrees_empty code zero = agrees_zero empty code
agrees_empty code (suc reg) = λ w v known. absurd (let none : ◌≡◌ {A = Option ℕ} None (Some v) = sym (ap (option_and_then (known_in w))
    (get-empty nat_cmp (suc reg))) ∙ known in let no : ⊥ = cc in no)

set : {hard : Type 0} {o : Option ℕ} → hard → o ≡ o
set hard = refl

-- what the function knows of a hard register
pub agrees_at_entry : (frame size : ℕ) (start : Start) (reg : ℕ) → reg < 32 →
    Agrees (func.entry_regs (seen_by_rtl frame size start)) (lines.entry_regs start) reg
agrees_at_entry frame size start reg small =
    agrees_all (func.entry_values (seen_by_rtl frame size start)) empty (lines.entry_regs start) reg small
    (set also set also set also set also set also set also set also set also set also set also set also set also set also set also set also
    set also set also set also set also set also set also set also (λ hard. absurd (omega (arith, hard))) also tt)
    (agrees_empty (lines.entry_regs start) reg)

-- ---- the machine

-- what each holds is a word
abbrev AllWords : List (Option ℕ) → Type 0
AllWords [] = Unit {0}
AllWords (x ∷ xs) = IfSome x IsWord × AllWords xs

word_in : (regs : List (Option ℕ)) (reg number : ℕ) → AllWords regs → held (slice_get regs reg) ≡ Some number → IsWord number
word_in [] reg number all is = absurd (let no : ⊥ = cc in no)
word_in (None ∷ regs) zero number all is = absurd (let no : ⊥ = cc in no)
word_in (Some x ∷ regs) zero number all is = let same : x ≡ number = cc in subst IsWord same all.0
word_in (x ∷ regs) (suc reg) number all is = word_in regs reg number all.1 is

word_of : (regs : List (Option ℕ)) (reg number : ℕ) → AllWords regs → register regs reg ≡ Some number → IsWord number
word_of regs zero number all is = let same : 0 ≡ number = cc in omega (arith, same)
word_of regs (suc reg) number all is = word_in regs (suc reg) number all (sym (register_at regs (suc reg) (omega arith)) ∙ is)

entry_words : (start : Start) → AreWords start → AllWords (lines.entry_regs start)
entry_words start w = let a = w.args in let s = w.saved in
    omega arith also w.ra also w.sp also tt also tt also tt also tt also tt also s 0 (omega arith) also s 1 (omega arith) also
    a 0 (omega arith) also a 1 (omega arith) also a 2 (omega arith) also a 3 (omega arith) also a 4 (omega arith) also
    a 5 (omega arith) also a 6 (omega arith) also a 7 (omega arith) also s 2 (omega arith) also s 3 (omega arith) also
    s 4 (omega arith) also s 5 (omega arith) also s 6 (omega arith) also s 7 (omega arith) also s 8 (omega arith) also
    s 9 (omega arith) also s 10 (omega arith) also s 11 (omega arith) also tt also tt also tt also tt also tt

entry_machine : (frame locals : ℕ) (start : Start) → IsLawful frame locals start → IsMachine (lines.entry start)
entry_machine frame locals start lawful = record {
  long = refl;
  words = λ reg number is. word_of (lines.entry_regs start) reg number (entry_words start lawful.words) is;
  memory = lawful.memory;
}

pub beside_at_entry : (frame locals size : ℕ) (start : Start) → locals ≤ size → IsLawful frame locals start →
    Beside start.visible (seen_by_rtl frame size start).memory (lines.entry start)
beside_at_entry frame locals size start holds lawful =
    let stays : ℕ → Bool = λ address. not (is_below_sp start frame address) || is_below_sp start size address in record {
      first = memory_kept stays start.memory lawful.memory;
      second = entry_machine frame locals start lawful;
      within = λ address byte has. (within_kept stays start.memory address byte has).0;
      visible_is = visible_at_entry frame locals size start holds lawful;
    }
