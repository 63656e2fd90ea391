-- Sets that are filled from rows.
use Rattle.std.proofs.Common.{◌≡◌, ℕ, ◌+◌, ◌*◌, ◌/◌, ◌%◌, ◌≤◌, Bool, true, false, ◌||◌, ◌&&◌, eqb, ltb, List, length, get_or, refl, sym, ap, ◌∙◌, inl, inr, arith}
use Rattle.std.proofs.lemmas.Bool.{cases_lt, lt-ltb, le-ltb}
use Rattle.std.proofs.lemmas.Bool.Decides.{nat_tests}
use Rattle.rtx_tree.specs.RegSet.{has_reg}
use Rattle.reg_rows.specs.Row.{has}
use Rattle.reg_rows.proofs.WordLaws.{has_past, has_zero_word}

-- the registers below a number are added
abbrev pub IsTaken : List ℕ → List ℕ → ℕ → List ℕ → Type 0
IsTaken old row reg set = (other : ℕ) → has_reg set other ≡ (has_reg old other || (ltb other reg && has row other))

two : (o a e h : Bool) → ((o || (a && h)) || (e && h)) ≡ (o || ((a || e) && h))
two true a e h = refl
two false true true true = refl
two false true true false = refl
two false true false true = refl
two false true false false = refl
two false false e h = refl

more : (other reg : ℕ) → ltb other (reg + 1) ≡ (ltb other reg || eqb other reg)
more other reg = grind (arith, nat_tests)

pub IsTaken-one : (first row old new : List ℕ) (reg : ℕ) → IsTaken first row reg old → ((other : ℕ) → has_reg new other ≡ (has_reg old other || (eqb other reg && has row other))) → IsTaken first row (reg + 1) new
IsTaken-one first row old new reg taken step other =
    step other ∙
    (ap (λ b. b || (eqb other reg && has row other)) (taken other) ∙ (two (has_reg first other) (ltb other reg) (eqb other reg) (has row other) ∙ ap (λ b. has_reg first other || (b && has row other)) (sym (more other reg))))

and_false : (b h : Bool) → h ≡ false → (b && h) ≡ false
and_false true h e = e
and_false false h e = refl

-- a word that is 0 has none of its registers
pub word_passed : (row : List ℕ) (reg other : ℕ) → reg % 64 ≡ 0 → get_or row (reg / 64) 0 ≡ 0 → (ltb other reg && has row other) ≡ (ltb other (reg + 64) && has row other)
word_passed row reg other start none =
    elim (cases_lt other reg) [
      | inl l ↦ ap (λ b. b && has row other) (lt-ltb other reg l ∙ sym (lt-ltb other (reg + 64) (omega arith)))
      | inr ge ↦ elim (cases_lt other (reg + 64)) [
        | inl l ↦
            let out = has_zero_word row (reg / 64) other none (omega arith) in
            and_false (ltb other reg) (has row other) out ∙ sym (and_false (ltb other (reg + 64)) (has row other) out)
        | inr past ↦ ap (λ b. b && has row other) (le-ltb other reg ge ∙ sym (le-ltb other (reg + 64) past))
      ]
    ]

-- past its words a row has no register
pub all_passed : (row : List ℕ) (reg other : ℕ) → length row * 64 ≤ reg → (ltb other reg && has row other) ≡ has row other
all_passed row reg other le =
    elim (cases_lt other reg) [
      | inl l ↦ ap (λ b. b && has row other) (lt-ltb other reg l)
      | inr ge ↦ ap (λ b. b && has row other) (le-ltb other reg ge) ∙ sym (has_past row other (omega arith))
    ]

pub IsTaken-word : (first row set : List ℕ) (reg : ℕ) → reg % 64 ≡ 0 → get_or row (reg / 64) 0 ≡ 0 → IsTaken first row reg set → IsTaken first row (reg + 64) set
IsTaken-word first row set reg start none taken other = taken other ∙ ap (λ b. has_reg first other || b) (word_passed row reg other start none)

pub taken_all : (first row set : List ℕ) (reg : ℕ) → length row * 64 ≤ reg → IsTaken first row reg set → (other : ℕ) → has_reg set other ≡ (has_reg first other || has row other)
taken_all first row set reg le taken other = taken other ∙ ap (λ b. has_reg first other || b) (all_passed row reg other le)
