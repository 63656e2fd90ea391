-- Numbers of some bytes.
use Rattle.std.proofs.Common.{◌≡◌, ℕ, zero, suc, ◌+◌, ◌-◌, ◌*◌, ◌/◌, ◌%◌, ◌^◌, ◌<◌, ◌≤◌, List, sym, ap, ◌∙◌, subst, lit≤, arith}
use Rattle.std.proofs.Math.Nat.{pow-succ'}
use Rattle.rtx_tree.specs.declared.memories.MemByte.{MemByte}
use Rattle.rtx_tree.specs.Memories.{with_byte}
use Rattle.run_memory.specs.RunMemory.{with_number}

at_most_eight : (count : ℕ) → count ≤ 8 → 256 ^ count ≤ 2 ^ 64
at_most_eight zero p = lit≤ tt
at_most_eight (suc zero) p = lit≤ tt
at_most_eight (suc (suc zero)) p = lit≤ tt
at_most_eight (suc (suc (suc zero))) p = lit≤ tt
at_most_eight (suc (suc (suc (suc zero)))) p = lit≤ tt
at_most_eight (suc (suc (suc (suc (suc zero))))) p = lit≤ tt
at_most_eight (suc (suc (suc (suc (suc (suc zero)))))) p = lit≤ tt
at_most_eight (suc (suc (suc (suc (suc (suc (suc zero))))))) p = lit≤ tt
at_most_eight (suc (suc (suc (suc (suc (suc (suc (suc zero)))))))) p = lit≤ tt
at_most_eight (suc (suc (suc (suc (suc (suc (suc (suc (suc k))))))))) p = absurd (omega arith)

-- one more byte below a number of count - 1 bytes makes one of count bytes
pub bytes_bound : (count rest byte : ℕ) → 0 < count → rest < 256 ^ (count - 1) → byte < 256 → byte + 256 * rest < 256 ^ count
bytes_bound zero rest byte p h l = absurd (omega arith)
bytes_bound (suc k) rest byte p h l =
    let e : suc k - 1 ≡ k = omega arith in
    let h' : rest < 256 ^ k = subst (λ n. rest < 256 ^ n) e h in
    rw pow-succ' (omega arith)

pub bytes_fit : (count rest byte : ℕ) → 0 < count → count ≤ 8 → rest < 256 ^ (count - 1) → byte < 256 → byte + 256 * rest < 2 ^ 64
bytes_fit count rest byte p q h l = omega (arith, bytes_bound count rest byte p h l, at_most_eight count q)

-- one more byte of a number is written
pub with_number_turn : (memory after goal : List MemByte) (address place count rest : ℕ) → place < count → after ≡ with_byte memory (address + place) (rest % 256) → with_number memory (address + place) (count - place) rest ≡ goal → with_number after (address + (place + 1)) (count - (place + 1)) (rest / 256) ≡ goal
with_number_turn memory after goal address place count rest less is so_far =
    let left : count - place ≡ suc (count - (place + 1)) = omega arith in
    let next : address + place + 1 ≡ address + (place + 1) = omega arith in
    ap (λ m. with_number m (address + (place + 1)) (count - (place + 1)) (rest / 256)) is
    ∙ (ap (λ p. with_number (with_byte memory (address + place) (rest % 256)) p (count - (place + 1)) (rest / 256)) (sym next)
    ∙ (ap (λ n. with_number memory (address + place) n rest) (sym left) ∙ so_far))
