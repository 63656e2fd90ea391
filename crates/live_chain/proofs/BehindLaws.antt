-- A row that is filled from others.
use Rattle.std.proofs.Common.{◌≡◌, ◌↔◌, ℕ, ◌+◌, ◌*◌, ◌/◌, ◌%◌, ◌≤◌, Bool, true, false, ◌||◌, ◌&&◌, ltb, List, [], ◌++◌, length, get_or, Option, refl, sym, ap, subst, ◌∙◌, inl, inr, arith}
use Rattle.std.specs.Option.{option_to_list}
use Rattle.std.proofs.lemmas.Bool.{cases_lt, lt-ltb, le-ltb, and_left}
use Rattle.rtx_tree.specs.declared.function.Function.{Function}
use Rattle.reg_rows.specs.Row.{has}
use Rattle.reg_rows.proofs.WordLaws.{has_past, has_zero_word}
use Rattle.rtl_func.specs.Paths.{has_place}
use Rattle.rtl_func.specs.Successors.{successors_of}
use Rattle.live_rows.specs.machine.Rows.{at_place}
use Rattle.live.specs.Live.{IsLiveAfter, AreLiveRows}
use Rattle.live.proofs.AfterLaws.{in_rows, from_rows}

-- no register is in a row of no words
pub has_none : (reg : ℕ) → has [] reg ≡ false
has_none reg = has_past [] reg (omega arith)

-- ---- one row into another

-- the registers below a number are added
abbrev pub IsTaken : (ℕ → Bool) → List ℕ → ℕ → (ℕ → Bool) → Type 0
IsTaken old row reg new = (other : ℕ) → new other ≡ (old other || (ltb other reg && has row other))

and_false : (b h : Bool) → h ≡ false → (b && h) ≡ false
and_false true h e = e
and_false false h e = refl

-- a word of zeros adds none
pub IsTaken-word : (old new : ℕ → Bool) (row : List ℕ) (reg : ℕ) → reg % 64 ≡ 0 → get_or row (reg / 64) 0 ≡ 0 → IsTaken old row reg new → IsTaken old row (reg + 64) new
IsTaken-word old new row reg start none taken other =
    elim (cases_lt other reg) [
      | inl l ↦ taken other ∙ ap (λ b. old other || (b && has row other)) (lt-ltb other reg l ∙ sym (lt-ltb other (reg + 64) (omega arith)))
      | inr ge ↦ elim (cases_lt other (reg + 64)) [
        | inl l ↦
            let out = has_zero_word row (reg / 64) other none (omega arith) in
            taken other ∙ ap (λ b. old other || b) (and_false (ltb other reg) (has row other) out ∙ sym (and_false (ltb other (reg + 64)) (has row other) out))
        | inr past ↦ taken other ∙ ap (λ b. old other || (b && has row other)) (le-ltb other reg ge ∙ sym (le-ltb other (reg + 64) past))
      ]
    ]

pub taken_all : (old new : ℕ → Bool) (row : List ℕ) (reg : ℕ) → length row * 64 ≤ reg → IsTaken old row reg new → (other : ℕ) → new other ≡ (old other || has row other)
taken_all old new row reg le taken other =
    elim (cases_lt other reg) [
      | inl l ↦ taken other ∙ ap (λ b. old other || (b && has row other)) (lt-ltb other reg l)
      | inr ge ↦ taken other ∙ ap (λ b. old other || b) (and_left (ltb other reg) (has row other) (le-ltb other reg ge) ∙ sym (has_past row other (omega arith)))
    ]

-- ---- the rows of the places to which a place leads

-- what the rows have of the places to which a place leads is live after it
pub after_is : (f : Function) (rows : List (List ℕ)) (place : ℕ) (a b : Option ℕ) (one two : ℕ → Bool) → AreLiveRows f rows → option_to_list a ++ option_to_list b ≡ successors_of f.insns place →
    ((reg : ℕ) → one reg ≡ at_place a rows reg) → ((reg : ℕ) → two reg ≡ (one reg || at_place b rows reg)) → (reg : ℕ) → (two reg ≡ true) ↔ IsLiveAfter f reg place
after_is f rows place a b one two exact places is_one is_two reg = (there, back)
  where
    both : two reg ≡ (at_place a rows reg || at_place b rows reg)
    both = is_two reg ∙ ap (λ h. h || at_place b rows reg) (is_one reg)

    there : two reg ≡ true → IsLiveAfter f reg place
    there h =
        let found = in_rows a b rows reg (sym both ∙ h) in
        (found.0, subst (λ places. has_place places found.0 ≡ true) places found.1, exact.sound found.0 reg found.2)

    back : IsLiveAfter f reg place → two reg ≡ true
    back live = both ∙ from_rows a b rows reg live.0 (subst (λ places. has_place places live.0 ≡ true) (sym places) live.1) (exact.complete live.0 reg live.2)

-- the same of one register
pub after_at : (f : Function) (rows : List (List ℕ)) (place reg : ℕ) (a b : Option ℕ) (held : Bool) → AreLiveRows f rows → option_to_list a ++ option_to_list b ≡ successors_of f.insns place →
    held ≡ (at_place a rows reg || at_place b rows reg) → (held ≡ true) ↔ IsLiveAfter f reg place
after_at f rows place reg a b held exact places is_held =
    let all = after_is f rows place a b (at_place a rows) (λ reg. at_place a rows reg || at_place b rows reg) exact places (λ reg. refl) (λ reg. refl) reg in
    ((λ told. all.0 (sym is_held ∙ told)), (λ live. is_held ∙ all.1 live))
