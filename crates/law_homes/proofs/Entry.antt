-- At entry the two states stand beside each other: the function has what it sees of the start, and the one with homes has the start with
-- sp lowered.
use Rattle.std.proofs.Common.{◌≡◌, ◌≢◌, ℕ, zero, suc, ◌-◌, ◌^◌, ◌<◌, ◌≤◌, ◌==◌, ◌&&◌, ◌||◌, not, inl, inr, ⊎_elim, Bool, true, false, cond, List, [], ◌∷◌, ◌++◌, Option, Some, None, refl, sym, ap, subst, ◌∙◌, arith, eq-eqb, map}
use Rattle.std.proofs.lemmas.Bool.{false≢true, and_parts, or_cases, eqb-true, leb-true, ltb-true, false_from_ne_true}
use Rattle.std.specs.FinMap.{empty, get-empty}
use Rattle.std.specs.List.{filter, list_all}
use Rattle.std.specs.Ordering.{nat_cmp}
use Rattle.std.specs.Prelude.{is_some, nat_lt, nat_le, option_and_then, slice_index, if◌then◌else◌}
use Rattle.bits64.specs.Words.{low}
use Rattle.bits64.specs.declared.Width.{Width}
use Rattle.bits64.specs.declared.Width.TheVariants.{W64}
use Rattle.rtx_tree.specs.Memories.{byte_at}
use Rattle.rtx_tree.specs.RegSet.{has_reg}
use Rattle.rtx_tree.specs.Registers.{pseudo}
use Rattle.rtx_tree.specs.declared.machine.Start.{Start}
use Rattle.rtx_tree.specs.declared.memories.MemByte.{MemByte}
use Rattle.rtl_step.specs.Regs.{Regs, known_in, known_of, reg_value, with_reg}
use Rattle.func_run.specs.Run.{entry_values, entry_regs, entry_of, with_all}
use Rattle.rtl_func.specs.Calls.{is_argument}
use Rattle.rv_regs.specs.Registers.{saved_registers}
use Rattle.same_behaviour.specs.Lawful.{is_below_sp, seen_by_rtl}
use Rattle.same_behaviour.proofs.Entry.{same_or_not, visible_at_entry}
use Rattle.same_behaviour.proofs.Registers.{low_same}
use Rattle.assign.specs.declared.places.SavedAt.{SavedAt}
use Rattle.reload_homes.specs.Homes.{home_of}
use Rattle.law_homes.specs.Kept.{lowered, is_unsaved}
use Rattle.law_homes.specs.Stands.{content_in, has_home}
use Rattle.law_homes.proofs.HomesApart.{below_itself}
use Rattle.law_homes.proofs.Registers.{with_here, with_other}
use Rattle.law_homes.proofs.Setting.{Setting, base, StandsIn}

-- ---- registers that are set one after the other

-- what is known of a register after each of some entries is set
abbrev found : Width → List (ℕ × ℕ) → ℕ → Option ℕ → Option ℕ
found w [] r before = before
found w (entry ∷ rest) r before = found w rest r (if entry.0 == r then known_in w (known_of W64 entry.1) else before)

set_one : (regs : Regs) (t r value : ℕ) (w : Width) → 0 < t →
    reg_value (with_reg regs t (known_of W64 value)) r w ≡ (if t == r then known_in w (known_of W64 value) else reg_value regs r w)
set_one regs t r value w some = ⊎_elim
    (λ (same : t ≡ r).
    let yes : (t == r) ≡ true = ap (λ n. t == n) (sym same) ∙ eq-eqb t t refl in
    subst (λ n. reg_value (with_reg regs t (known_of W64 value)) n w ≡ known_in w (known_of W64 value)) same (with_here regs t (known_of W64 value) w some)
    ∙ ap (λ b. if b then known_in w (known_of W64 value) else reg_value regs r w) (sym yes))
    (λ (other : t ≢ r).
    let no : (t == r) ≡ false = false_from_ne_true (t == r) (λ is. other (eqb-true t r is)) in
    with_other regs t r (known_of W64 value) w other ∙ ap (λ b. if b then known_in w (known_of W64 value) else reg_value regs r w) (sym no))
    (same_or_not t r)

abbrev all_some : List (ℕ × ℕ) → Bool
all_some [] = true
all_some (entry ∷ rest) = nat_lt 0 entry.0 && all_some rest

set_all : (entries : List (ℕ × ℕ)) (regs : Regs) (r : ℕ) (w : Width) → all_some entries ≡ true →
    reg_value (with_all entries regs) r w ≡ found w entries r (reg_value regs r w)
set_all [] regs r w some = refl
set_all (entry ∷ rest) regs r w some =
    let parts = and_parts (nat_lt 0 entry.0) (all_some rest) some in
    set_all rest (with_reg regs entry.0 (known_of W64 entry.1)) r w parts.1
    ∙ ap (found w rest r) (set_one regs entry.0 r entry.1 w (ltb-true 0 entry.0 parts.0))

entry_known : (start : Start) (r : ℕ) (w : Width) → reg_value (entry_regs start) r w ≡ found w (entry_values start) r (reg_value empty r w)
entry_known start r w = set_all (entry_values start) empty r w refl

-- an entry of another register counts for nothing
found_through : (w : Width) (front back : List (ℕ × ℕ)) (t x y r : ℕ) (before : Option ℕ) → (t ≡ r → ⊥) →
    found w (front ++ (t, x) ∷ back) r before ≡ found w (front ++ (t, y) ∷ back) r before
found_through w [] back t x y r before other =
    let no : (t == r) ≡ false = false_from_ne_true (t == r) (λ is. other (eqb-true t r is)) in
    ap (λ b. found w back r (if b then known_in w (known_of W64 x) else before)) no
    ∙ sym (ap (λ b. found w back r (if b then known_in w (known_of W64 y) else before)) no)
found_through w (entry ∷ front) back t x y r before other =
    found_through w front back t x y r (if entry.0 == r then known_in w (known_of W64 entry.1) else before) other

-- registers above all entries are unset
above_all : (w : Width) (entries : List (ℕ × ℕ)) (r : ℕ) (before : Option ℕ) → list_all (λ (entry : ℕ × ℕ). nat_lt entry.0 64) entries ≡ true → 64 ≤ r →
    found w entries r before ≡ before
above_all w [] r before all above = refl
above_all w (entry ∷ rest) r before all above =
    let both = and_parts (nat_lt entry.0 64) (list_all (λ (entry : ℕ × ℕ). nat_lt entry.0 64) rest) all in
    let below = ltb-true entry.0 64 both.0 in
    let no : (entry.0 == r) ≡ false = false_from_ne_true (entry.0 == r) (λ is. let same = eqb-true entry.0 r is in let never : ⊥ = omega (arith, same, below, above) in never) in
    ap (λ b. found w rest r (if b then known_in w (known_of W64 entry.1) else before)) no ∙ above_all w rest r before both.1 above

nothing_known : (r : ℕ) (w : Width) → 0 < r → reg_value empty r w ≡ None
nothing_known zero w some = absurd (omega (arith, some))
nothing_known (suc r) w some = ap (option_and_then (known_in w)) (get-empty nat_cmp (suc r))

pseudo_unset : (start : Start) (r : ℕ) (w : Width) → 64 ≤ r → reg_value (entry_regs start) r w ≡ None
pseudo_unset start r w above =
    entry_known start r w ∙ above_all w (entry_values start) r (reg_value empty r w) refl above ∙ nothing_known r w (omega (arith, above))

-- ---- starts that differ in sp and virtual-stack-vars

abbrev first_entries : Start → List (ℕ × ℕ)
first_entries start =
    (10, slice_index start.args 0) ∷ (11, slice_index start.args 1) ∷ (12, slice_index start.args 2) ∷ (13, slice_index start.args 3) ∷
    (14, slice_index start.args 4) ∷ (15, slice_index start.args 5) ∷ (16, slice_index start.args 6) ∷ (17, slice_index start.args 7) ∷ []

abbrev other_entries : Start → List (ℕ × ℕ)
other_entries start =
    (1, start.ra) ∷
    (8, slice_index start.saved 0) ∷ (9, slice_index start.saved 1) ∷ (18, slice_index start.saved 2) ∷ (19, slice_index start.saved 3) ∷
    (20, slice_index start.saved 4) ∷ (21, slice_index start.saved 5) ∷ (22, slice_index start.saved 6) ∷ (23, slice_index start.saved 7) ∷
    (24, slice_index start.saved 8) ∷ (25, slice_index start.saved 9) ∷ (26, slice_index start.saved 10) ∷ (27, slice_index start.saved 11) ∷ []

abbrev with_two : Start → ℕ → ℕ → List (ℕ × ℕ)
with_two start sp vars = first_entries start ++ ((2, sp) ∷ (other_entries start ++ (32, vars) ∷ []))

other_sp : (w : Width) (start : Start) (x y vars r : ℕ) (before : Option ℕ) → (2 ≡ r → ⊥) → found w (with_two start x vars) r before ≡ found w (with_two start y vars) r before
other_sp w start x y vars r before other = found_through w (first_entries start) (other_entries start ++ (32, vars) ∷ []) 2 x y r before other

other_vars : (w : Width) (start : Start) (sp x y r : ℕ) (before : Option ℕ) → (32 ≡ r → ⊥) → found w (with_two start sp x) r before ≡ found w (with_two start sp y) r before
other_vars w start sp x y r before other = found_through w (first_entries start ++ ((2, sp) ∷ other_entries start)) [] 32 x y r before other

-- ---- a part of memory

pub kept_byte : (test : ℕ → Bool) (memory : List MemByte) (address : ℕ) →
    byte_at (filter (λ (b : MemByte). test b.address) memory) address ≡ (if test address then byte_at memory address else None)
kept_byte test [] address = by (test address)
  where
    by : (b : Bool) → ◌≡◌ {A = Option ℕ} None (if b then None else None)
    by true = refl
    by false = refl
kept_byte test (b ∷ memory) address = by (test b.address) (b.address == address) refl refl (kept_byte test memory address)
  where
    same_test : (t : Bool) → test b.address ≡ t → (b.address == address) ≡ true → test address ≡ t
    same_test t is here = sym (ap test (eqb-true b.address address here)) ∙ is

    by : (kept here : Bool) → test b.address ≡ kept → (b.address == address) ≡ here →
        byte_at (filter (λ (b : MemByte). test b.address) memory) address ≡ (if test address then byte_at memory address else None) →
        byte_at (cond kept (b ∷ filter (λ (b : MemByte). test b.address) memory) (filter (λ (b : MemByte). test b.address) memory)) address
        ≡ (if test address then (if b.address == address then Some b.byte else byte_at memory address) else None)
    by true true keeps here rest =
        ap (λ c. if c then Some b.byte else byte_at (filter (λ (b : MemByte). test b.address) memory) address) here
        ∙ sym (ap (λ c. if c then (if b.address == address then Some b.byte else byte_at memory address) else None) (same_test true keeps here)
        ∙ ap (λ c. if c then Some b.byte else byte_at memory address) here)
    by true false keeps here rest =
        ap (λ c. if c then Some b.byte else byte_at (filter (λ (b : MemByte). test b.address) memory) address) here
        ∙ rest ∙ sym (ap (λ c. if test address then (if c then Some b.byte else byte_at memory address) else None) here)
    by false true keeps here rest =
        rest ∙ ap (λ c. if c then byte_at memory address else None) (same_test false keeps here)
        ∙ sym (ap (λ c. if c then (if b.address == address then Some b.byte else byte_at memory address) else None) (same_test false keeps here))
    by false false keeps here rest =
        rest ∙ sym (ap (λ c. if test address then (if c then Some b.byte else byte_at memory address) else None) here)

if_some : (b : Bool) (o : Option ℕ) → is_some (if b then o else None) ≡ true → b ≡ true
if_some true o is = refl
if_some false o is = absurd (false≢true is)

if_value : (b : Bool) (o : Option ℕ) (v : ℕ) → (if b then o else None) ≡ Some v → o ≡ Some v
if_value true o v is = is
if_value false o v is = absurd (let no : ⊥ = cc in no)

-- ---- at entry

not_in : (inside local : Bool) → not inside || local ≡ true → inside ≡ true → local ≡ true
not_in true local passes is = passes
not_in false local passes is = absurd (false≢true is)

module _ (c : Setting) where
  abbrev size : ℕ
  size = c.layout.size

  abbrev locals : ℕ
  locals = c.f.locals

  abbrev seen : Start
  seen = seen_by_rtl size locals c.start

  abbrev low_start : Start
  low_start = lowered size c.start

  abbrev is_seen : ℕ → Bool
  is_seen address = not (is_below_sp c.start size address) || is_below_sp c.start locals address

  agree : (r : ℕ) (w : Width) → (2 ≡ r → ⊥) → (32 ≡ r → ⊥) → reg_value (entry_regs low_start) r w ≡ reg_value (entry_regs seen) r w
  agree r w no_sp no_vars =
      entry_known low_start r w
      ∙ other_sp w c.start (c.start.sp - size) c.start.sp c.start.vars r (reg_value empty r w) no_sp
      ∙ other_vars w c.start c.start.sp c.start.vars c.start.sp r (reg_value empty r w) no_vars
      ∙ sym (entry_known seen r w)

  agree_kept : (r : ℕ) (w : Width) → (2 ≡ r → ⊥) → reg_value (entry_regs low_start) r w ≡ reg_value (entry_regs c.start) r w
  agree_kept r w no_sp =
      entry_known low_start r w
      ∙ other_sp w c.start (c.start.sp - size) c.start.sp c.start.vars r (reg_value empty r w) no_sp
      ∙ sym (entry_known c.start r w)

  number_at : (start : Start) (r number : ℕ) → number < 2 ^ 64 → found W64 (entry_values start) r (reg_value empty r W64) ≡ Some (low W64 (low W64 number)) →
      reg_value (entry_regs start) r W64 ≡ Some number
  number_at start r number word is = entry_known start r W64 ∙ is ∙ ap Some (ap (low W64) (low_same number word) ∙ low_same number word)

  values_at : (r : ℕ) (w : Width) (v : ℕ) → has_home r ≡ true → reg_value (entry_regs seen) r w ≡ Some v →
      content_in c.layout (base c) (entry_regs low_start) c.start.memory r (home_of c.homes r) w ≡ Some v
  values_at r w v has is = elim (or_cases (is_argument r) (nat_le (pseudo 0) r) has) [
    | inl argument ↦
        let least = leb-true 10 r (and_parts (nat_le 10 r) (nat_le r 17) argument).0 in
        let most = leb-true r 17 (and_parts (nat_le 10 r) (nat_le r 17) argument).1 in
        ap (λ home. content_in c.layout (base c) (entry_regs low_start) c.start.memory r home w) (below_itself c.f c.homes c.are_homes r (omega (arith, most)))
        ∙ agree r w (λ same. let no : ⊥ = omega (arith, same, least) in no) (λ same. let no : ⊥ = omega (arith, same, most) in no)
        ∙ is
    | inr above ↦
        let more = leb-true 64 r above in
        absurd (let none : ◌≡◌ {A = Option ℕ} None (Some v) = sym (pseudo_unset seen r w more) ∙ is in let no : ⊥ = cc in no)
  ]

  unsaved_no_sp : (r : ℕ) → is_unsaved c.layout r ≡ true → 2 ≡ r → ⊥
  unsaved_no_sp r unsaved same =
      let two : has_reg (1 ∷ saved_registers) 2 ≡ true =
      ap (has_reg (1 ∷ saved_registers)) same ∙ (and_parts (has_reg (1 ∷ saved_registers) r) (not (has_reg (map (λ (s : SavedAt). s.reg) c.layout.saved) r)) unsaved).0 in
      false≢true two

  pub entry_stands : StandsIn c 0 (entry_of seen) (entry_of low_start)
  entry_stands = record {
    values = λ r has live w v is. values_at r w v has is;
    vars = number_at seen 32 c.start.sp c.lawful.words.sp refl;
    within = λ address byte is. if_value (is_seen address) (byte_at c.start.memory address) byte (sym (kept_byte is_seen c.start.memory address) ∙ is);
    outside = λ address there inside. not_in (is_below_sp c.start size address) (is_below_sp c.start locals address)
        (if_some (is_seen address) (byte_at c.start.memory address) (sym (ap is_some (kept_byte is_seen c.start.memory address)) ∙ there)) inside;
    room = c.lawful.present;
    seen = visible_at_entry size locals locals c.start (omega arith) c.lawful;
    ranges = refl;
    ranges_too = refl;
    calls = refl;
    kept = record {
      pointer = number_at low_start 2 (c.start.sp - size) (let word = c.lawful.words.sp in omega (arith, word)) refl;
      registers = λ r unsaved w v is. agree_kept r w (unsaved_no_sp r unsaved) ∙ is;
      room = λ address inside other free. refl;
    };
  }
