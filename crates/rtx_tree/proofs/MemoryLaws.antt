-- A byte above all others keeps the order of addresses.
use Rattle.std.proofs.Common.{◌≡◌, ◌<◌, ◌+◌, ◌-◌, ℕ, List, [], ◌∷◌, ◌++◌, length, get_or, map, sym, ap, subst, ◌∙◌, inl, inr, arith}
use Rattle.std.specs.Prelude.{slice_get, option_map, MatchOption, Result, Ok, Err, OnOk, OnErr}
use Rattle.std.proofs.lemmas.List.{length-map, map-append}
use Rattle.std.specs.List.Sorted.{IsStrictlyIncreasing}
use Rattle.std.proofs.lemmas.Option.{slice_get_cases, slice_get-map, get_or_from_slice_get}
use Rattle.rtx_tree.specs.declared.memories.MemByte.{MemByte}
use Rattle.rtx_tree.specs.Memories.{IsOrdered, IsAbove}
use Rattle.rtx_tree.proofs.Increasing.{increasing-append}

abbrev address_of : MemByte → ℕ
address_of b = b.address

last_below : (bytes : List MemByte) (a k : ℕ) → IsAbove bytes a → k + 1 ≡ length (map address_of bytes) → get_or (map address_of bytes) k 0 < a
last_below bytes a k above end =
    let len = length-map bytes address_of in
    elim (slice_get_cases bytes k).1 [
      | inl (b, less, stands, _) ↦
          let last : k ≡ length bytes - 1 = omega arith in
          let there = ap (slice_get bytes) (sym last) ∙ stands in
          let below = subst (λ o. MatchOption o (Unit {0}) (λ (b : MemByte). b.address < a)) there above in
          let here = get_or_from_slice_get (map address_of bytes) k b.address 0 (slice_get-map address_of bytes k ∙ ap (option_map address_of) stands) in
          omega arith
      | inr (past, _) ↦ absurd (omega arith)
    ]

pub ordered-append : (bytes : List MemByte) (byte : MemByte) → IsOrdered bytes → IsAbove bytes byte.address → IsOrdered (bytes ++ byte ∷ [])
ordered-append bytes byte up above =
    let P : List ℕ → Type 0 = λ xs. IsStrictlyIncreasing xs in
    subst P (sym (map-append address_of bytes (byte ∷ []))) (increasing-append (map address_of bytes) byte.address up (λ k end. last_below bytes byte.address k above end))

pub ordered-pushed : {A E : Type 0} (result : Result A E) (before after : List MemByte) (byte : MemByte) → OnOk result (after ≡ before ++ byte ∷ []) → OnErr result (after ≡ before) → IsOrdered before → IsAbove before byte.address → IsOrdered after
ordered-pushed (Ok x) before after byte ok err up above = subst IsOrdered (sym ok) (ordered-append before byte up above)
ordered-pushed (Err e) before after byte ok err up above = subst IsOrdered (sym err) up
