-- Bytes that are zero, one behind the other, and ranges of locals.
use Rattle.std.proofs.Common.{◌≡◌, ◌≤◌, ◌<◌, ◌+◌, ◌-◌, ℕ, zero, suc, List, [], ◌∷◌, ◌++◌, length, map, replicate, refl, sym, ap, subst, ◌∙◌, append_assoc, arith}
use Rattle.std.specs.Prelude.{slice_index}
use Rattle.std.proofs.lemmas.List.{append-nil}
use Rattle.rtx_tree.specs.declared.memories.MemByte.{MemByte}
use Rattle.rtx_tree.specs.Memories.{IsOrdered}
use Rattle.code_eval.specs.Start.{stack_top, stack_room, zeros, memory_with, locals_below}

-- ---- they are in order

-- each address is above the one before it, and the first is not below the least
abbrev Rise : ℕ → List MemByte → Type 0
Rise least [] = Unit {0}
Rise least (b ∷ bytes) = (least ≤ b.address) × Rise (b.address + 1) bytes

lower : (least more : ℕ) (bytes : List MemByte) → least ≤ more → Rise more bytes → Rise least bytes
lower least more [] less h = tt
lower least more (b ∷ bytes) less h = (let first = h.0 in omega (arith, first), h.1)

zeros_rise : (address count least : ℕ) (bytes : List MemByte) → least ≤ address → Rise (address + count) bytes → Rise least (zeros address count ++ bytes)
unfolding zeros
zeros_rise address zero least bytes less h = lower least (address + 0) bytes (omega (arith, less)) h
zeros_rise address (suc count) least bytes less h = (less, zeros_rise (address + 1) count (address + 1) bytes (omega arith) (lower (address + 1 + count) (address + suc count) bytes (omega arith) h))

in_order : (least : ℕ) (bytes : List MemByte) → Rise least bytes → (k : ℕ) → k + 1 < length (map (λ (b : MemByte). b.address) bytes) →
    slice_index (map (λ (b : MemByte). b.address) bytes) k < slice_index (map (λ (b : MemByte). b.address) bytes) (k + 1)
in_order least [] h k less = absurd (omega (arith, less))
in_order least (b ∷ []) h k less = absurd (omega (arith, less))
in_order least (b ∷ c ∷ bytes) h zero less = let next = h.1.0 in omega (arith, next)
in_order least (b ∷ c ∷ bytes) h (suc k) less = let next : suc k + 1 ≡ suc (k + 1) = omega arith in rw next (in_order (b.address + 1) (c ∷ bytes) h.1 k (omega (arith, less)))

pub memory_ordered : (room : ℕ) → room ≤ stack_room → IsOrdered (memory_with room)
memory_ordered room within =
    in_order 0 (memory_with room)
    (zeros_rise 65536 4096 0 (zeros (stack_top - room) room) (omega arith)
    (subst (Rise (65536 + 4096)) (append-nil (zeros (stack_top - room) room)) (zeros_rise (stack_top - room) room (65536 + 4096) [] (omega (arith, within)) tt)))

pub made_ordered : (room : ℕ) (none first second bytes : List MemByte) → room ≤ stack_room → none ≡ [] → first ≡ none ++ zeros 65536 4096 → second ≡ first ++ zeros (stack_top - room) room → bytes ≡ second → IsOrdered bytes
made_ordered room none first second bytes within is_none is_first is_second is =
    let whole : bytes ≡ memory_with room = is ∙ is_second ∙ ap (λ (front : List MemByte). front ++ zeros (stack_top - room) room) (is_first ∙ ap (λ (front : List MemByte). front ++ zeros 65536 4096) is_none) in
    subst IsOrdered (sym whole) (memory_ordered room within)

-- ---- they are made one after the other

-- one more was made
pub zeros_turn : (before after whole : List MemByte) (address place count : ℕ) → place < count → after ≡ before ++ record { address = address + place; byte = 0 } ∷ [] → before ++ zeros (address + place) (count - place) ≡ whole →
    after ++ zeros (address + (place + 1)) (count - (place + 1)) ≡ whole
unfolding zeros
zeros_turn before after whole address place count less made h =
    let left : count - place ≡ suc (count - (place + 1)) = omega (arith, less) in
    let next : address + (place + 1) ≡ address + place + 1 = omega arith in
    rw made (append_assoc before (record { address = address + place; byte = 0 } ∷ []) (zeros (address + (place + 1)) (count - (place + 1)))
    ∙ ap (λ (a : ℕ). before ++ record { address = address + place; byte = 0 } ∷ zeros a (count - (place + 1))) next
    ∙ ap (λ (n : ℕ). before ++ zeros (address + place) n) (sym left) ∙ h)

-- all were made
pub zeros_end : (bytes whole : List MemByte) (address left : ℕ) → left ≡ 0 → bytes ++ zeros address left ≡ whole → bytes ≡ whole
unfolding zeros
zeros_end bytes whole address left none h = sym (append-nil bytes) ∙ ap (λ (n : ℕ). bytes ++ zeros address n) (sym none) ∙ h

-- ---- what is visible

pub locals_there : (locals : ℕ) → 0 < locals → locals_below locals ≡ record { address = stack_top - locals; length = locals } ∷ []
locals_there zero some = absurd (omega (arith, some))
locals_there (suc n) some = refl

pub locals_missing : (locals : ℕ) → locals ≤ 0 → locals_below locals ≡ []
locals_missing zero none = refl
locals_missing (suc n) none = absurd (omega (arith, none))

-- ---- equal things

pub one_more : {A : Type 0} (n : ℕ) (x : A) → replicate n x ++ x ∷ [] ≡ replicate (n + 1) x
one_more n x = back n x ∙ ap (λ (m : ℕ). replicate m x) (let same : suc n ≡ n + 1 = omega arith in same)
  where
    back : {A : Type 0} (n : ℕ) (x : A) → replicate n x ++ x ∷ [] ≡ x ∷ replicate n x
    back zero x = refl
    back (suc n) x = ap (λ xs. x ∷ xs) (back n x)
