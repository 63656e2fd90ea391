-- Places of 8 bytes, from a top down.
use Rattle.std.proofs.Common.{◌≡◌, ℕ, zero, suc, ◌+◌, ◌-◌, ◌*◌, ◌%◌, ◌<◌, ◌≤◌, List, [], ◌∷◌, ◌++◌, length, map, get_or, refl, sym, ap, subst, ◌∙◌, arith}
use Rattle.std.specs.Prelude.{All}
use Rattle.std.specs.Int.{next_multiple_of}
use Rattle.std.specs.List.{AllPairs}
use Rattle.rtx_tree.specs.declared.function.Function.{Function}
use Rattle.assign.specs.declared.home.HomeOf.{HomeOf}
use Rattle.assign.specs.Frame.{saved_places, slot_places, saved_of, slots_of, layout_for, layout_of, offsets, IsFrame}

abbrev steps : ℕ → ℕ → List ℕ
steps top zero = []
steps top (suc n) = (top - 8) ∷ steps (top - 8) n

length-steps : (top n : ℕ) → length (steps top n) ≡ n
length-steps top zero = refl
length-steps top (suc n) = ap suc (length-steps (top - 8) n)

get_or-steps : (top n k d : ℕ) → k < n → get_or (steps top n) k d ≡ top - 8 * (k + 1)
get_or-steps top zero k d l = absurd (omega arith)
get_or-steps top (suc n) zero d l = omega arith
get_or-steps top (suc n) (suc k) d l = let e = get_or-steps (top - 8) n k d (omega arith) in omega arith

steps-append : (top m n : ℕ) → steps top m ++ steps (top - 8 * m) n ≡ steps top (m + n)
steps-append top zero n =
    let t : top - 8 * 0 ≡ top = omega arith in
    let z : n ≡ 0 + n = omega arith in
    ap (λ x. steps x n) t ∙ ap (steps top) z
steps-append top (suc m) n =
    let t : top - 8 * suc m ≡ (top - 8) - 8 * m = omega arith in
    let s : suc (m + n) ≡ suc m + n = omega arith in
    ap (λ x. (top - 8) ∷ (steps (top - 8) m ++ steps x n)) t ∙ (ap (λ xs. (top - 8) ∷ xs) (steps-append (top - 8) m n) ∙ ap (steps top) s)

saved_offsets : (top : ℕ) (regs : List ℕ) → map (λ s. s.offset) (saved_places top regs) ≡ steps top (length regs)
saved_offsets top [] = refl
saved_offsets top (reg ∷ regs) = ap (λ xs. (top - 8) ∷ xs) (saved_offsets (top - 8) regs)

slot_offsets : (top : ℕ) (pseudos : List ℕ) → map (λ s. s.offset) (slot_places top pseudos) ≡ steps top (length pseudos)
slot_offsets top [] = refl
slot_offsets top (pseudo ∷ pseudos) = ap (λ xs. (top - 8) ∷ xs) (slot_offsets (top - 8) pseudos)

saved_regs : (top : ℕ) (regs : List ℕ) → map (λ s. s.reg) (saved_places top regs) ≡ regs
saved_regs top [] = refl
saved_regs top (reg ∷ regs) = ap (λ xs. reg ∷ xs) (saved_regs (top - 8) regs)

slot_pseudos : (top : ℕ) (pseudos : List ℕ) → map (λ s. s.pseudo) (slot_places top pseudos) ≡ pseudos
slot_pseudos top [] = refl
slot_pseudos top (pseudo ∷ pseudos) = ap (λ xs. pseudo ∷ xs) (slot_pseudos (top - 8) pseudos)

rounded_to_8 : (x : ℕ) → next_multiple_of x 8 % 8 ≡ 0
rounded_to_8 x = omega arith

rounded_to_16 : (x : ℕ) → next_multiple_of x 16 % 16 ≡ 0
rounded_to_16 x = omega arith

-- places below the locals that end on a multiple of 8, in a frame of a multiple of 16
module _ (size locals used n : ℕ) (even : size % 16 ≡ 0) (eight : used % 8 ≡ 0) (more : locals ≤ used) (room : used + 8 * n ≤ size) where
  aligned : All (λ offset. offset % 8 ≡ 0) (steps (size - used) n)
  aligned k d l = let e = get_or-steps (size - used) n k d (omega (arith, length-steps (size - used) n)) in omega arith

  within : All (λ offset. offset + 8 + locals ≤ size) (steps (size - used) n)
  within k d l = let e = get_or-steps (size - used) n k d (omega (arith, length-steps (size - used) n)) in omega (arith, length-steps (size - used) n)

  apart : AllPairs (λ upper lower. lower + 8 ≤ upper) (steps (size - used) n)
  apart i j d l m =
      let len = length-steps (size - used) n in
      let e = get_or-steps (size - used) n i d (omega arith) in
      let o = get_or-steps (size - used) n j d (omega arith) in
      omega arith

layout_offsets : (locals : ℕ) (saved slots : List ℕ) → offsets (layout_for locals saved slots) ≡ steps (next_multiple_of (next_multiple_of locals 8 + 8 * length saved + 8 * length slots) 16 - next_multiple_of locals 8) (length saved + length slots)
layout_offsets locals saved slots =
    let top = next_multiple_of (next_multiple_of locals 8 + 8 * length saved + 8 * length slots) 16 - next_multiple_of locals 8 in
    ap (λ xs. xs ++ map (λ s. s.offset) (slot_places (top - 8 * length saved) slots)) (saved_offsets top saved) ∙ (ap (λ xs. steps top (length saved) ++ xs) (slot_offsets (top - 8 * length saved) slots) ∙ steps-append top (length saved) (length slots))

pub IsFrame-layout_of : (f : Function) (homes : List HomeOf) → IsFrame f homes (layout_of f homes)
IsFrame-layout_of f homes =
    let saved = saved_of f homes in
    let slots = slots_of homes in
    let used = next_multiple_of f.locals 8 in
    let sum = used + 8 * length saved + 8 * length slots in
    let size = next_multiple_of sum 16 in
    let n = length saved + length slots in
    let even : size % 16 ≡ 0 = rounded_to_16 sum in
    let eight : used % 8 ≡ 0 = rounded_to_8 f.locals in
    let more : f.locals ≤ used = omega arith in
    let room : used + 8 * n ≤ size = omega arith in
    let is : steps (size - used) n ≡ offsets (layout_of f homes) = sym (layout_offsets f.locals saved slots) in
    record {
      saved = saved_regs (size - used) saved;
      slots = slot_pseudos (size - used - 8 * length saved) slots;
      size_aligned = even;
      aligned = subst (All (λ offset. offset % 8 ≡ 0)) is (aligned size f.locals used n even eight more room);
      within = subst (All (λ offset. offset + 8 + f.locals ≤ size)) is (within size f.locals used n even eight more room);
      apart = subst (AllPairs (λ upper lower. lower + 8 ≤ upper)) is (apart size f.locals used n even eight more room);
    }
