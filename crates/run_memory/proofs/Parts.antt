-- A part of memory that goes by the addresses is in order, and has nothing of a gap.
use Rattle.std.proofs.Common.{◌≡◌, ◌<◌, ◌≤◌, ◌+◌, ◌-◌, ℕ, zero, suc, Bool, true, false, List, [], ◌∷◌, ◌++◌, length, get_or, take, drop, cond, map, sym, ap, subst, refl, ◌∙◌, arith, ltb, ltb-true, append_assoc, inl, inr}
use Rattle.std.specs.List.{filter, AllWithin}
use Rattle.std.specs.List.Sorted.{IsStrictlyIncreasing, IsNonDecreasingBy}
use Rattle.std.proofs.lemmas.Bool.{cases_lt}
use Rattle.std.proofs.lemmas.List.{append-nil, get_or-map, length-drop, length-map, take_all}
use Rattle.std.proofs.lemmas.List.Kept.{AllPairs-from_increasing, IsStrictlyIncreasing-filter}
use Rattle.rtx_tree.specs.declared.memories.MemByte.{MemByte}
use Rattle.rtx_tree.specs.declared.machine.RangeAt.{RangeAt}
use Rattle.rtx_tree.specs.Memories.{IsOrdered}
use Rattle.run_memory.specs.RunMemory.{is_visible, visible}

-- ---- a visible part of memory is in order

addresses_cond : (b : Bool) (x : MemByte) (xs : List MemByte) → map (λ (b : MemByte). b.address) (cond b (x ∷ xs) xs) ≡ cond b (x.address ∷ map (λ (b : MemByte). b.address) xs) (map (λ (b : MemByte). b.address) xs)
addresses_cond true x xs = refl
addresses_cond false x xs = refl

addresses-filter : (test : ℕ → Bool) (bytes : List MemByte) → map (λ (b : MemByte). b.address) (filter (λ (b : MemByte). test b.address) bytes) ≡ filter test (map (λ (b : MemByte). b.address) bytes)
addresses-filter test [] = refl
addresses-filter test (b ∷ bytes) =
    addresses_cond (test b.address) b (filter (λ (b : MemByte). test b.address) bytes)
    ∙ ap (λ xs. cond (test b.address) (b.address ∷ xs) xs) (addresses-filter test bytes)

pub visible_ordered : (ranges : List RangeAt) (memory part rest : List MemByte) → IsOrdered memory → length rest ≡ 0 → part ++ visible ranges rest ≡ visible ranges memory → IsOrdered part
visible_ordered ranges memory part [] up none is =
    let kept = IsStrictlyIncreasing-filter (is_visible ranges) (map (λ (b : MemByte). b.address) memory) up in
    let P : List ℕ → Type 0 = λ xs. IsStrictlyIncreasing xs in
    subst P (sym (ap (λ (bytes : List MemByte). map (λ (b : MemByte). b.address) bytes) (sym (append-nil part) ∙ is) ∙ addresses-filter (is_visible ranges) memory)) kept
visible_ordered ranges memory part (b ∷ rest) up none is = absurd (omega arith)

-- ---- what stands behind a byte, and behind a gap

pub tail_ordered : (b : MemByte) (bytes : List MemByte) → IsOrdered (b ∷ bytes) → IsOrdered bytes
tail_ordered b bytes up k less =
    let e : suc k + 1 ≡ suc (k + 1) = omega arith in
    subst (λ n. get_or (map (λ (b : MemByte). b.address) bytes) k 0 < get_or (b.address ∷ map (λ (b : MemByte). b.address) bytes) n 0) e (up (suc k) (omega arith))

rest_ordered : (n : ℕ) (bytes : List MemByte) → IsOrdered bytes → IsOrdered (drop n bytes)
rest_ordered zero bytes up = up
rest_ordered (suc n) [] up = up
rest_ordered (suc n) (b ∷ bytes) up = rest_ordered n bytes (tail_ordered b bytes up)

address_less : (bytes : List MemByte) → IsOrdered bytes → (i j : ℕ) (d : MemByte) → i < j → j < length bytes → (get_or bytes i d).address < (get_or bytes j d).address
address_less bytes up i j d less within =
    let f : MemByte → ℕ = λ b. b.address in
    let first = get_or-map f bytes i d 0 (omega arith) in
    let second = get_or-map f bytes j d 0 within in
    let both = AllPairs-from_increasing (map f bytes) up i j 0 less (omega (arith, length-map bytes f)) in
    omega arith

-- what a search by halves asks
pub addresses_rise : (b : MemByte) (bytes : List MemByte) → IsOrdered (b ∷ bytes) → IsNonDecreasingBy (λ (b : MemByte). b.address) bytes
addresses_rise b bytes up i j d upto within = elim (cases_lt i j) [
  | inl less ↦ omega (arith, address_less bytes (tail_ordered b bytes up) i j d less within)
  | inr past ↦ let same : i ≡ j = omega arith in subst (λ n. (get_or bytes i d).address ≤ (get_or bytes n d).address) same (omega arith)
]

none_kept : (test : MemByte → Bool) (bytes : List MemByte) (gap : ℕ) → AllWithin (λ b. test b ≡ false) bytes 0 gap → filter test (drop gap bytes) ≡ filter test bytes
none_kept test bytes zero none = refl
none_kept test [] (suc gap) none = refl
none_kept test (b ∷ bytes) (suc gap) none =
    none_kept test bytes gap (λ k d low less. none (suc k) d (omega arith) (omega arith))
    ∙ sym (ap (λ t. cond t (b ∷ filter test bytes) (filter test bytes)) (none 0 b (omega arith) (omega arith)))

left : (gap : ℕ) (bytes : List MemByte) → take (length bytes - gap) (drop gap bytes) ≡ drop gap bytes
left gap bytes = take_all (length bytes - gap) (drop gap bytes) (omega (arith, length-drop gap bytes))

pub ordered_behind : (b : MemByte) (bytes : List MemByte) (gap : ℕ) → IsOrdered (b ∷ bytes) → IsOrdered (take (length bytes - gap) (drop gap bytes))
ordered_behind b bytes gap up = subst IsOrdered (sym (left gap bytes)) (rest_ordered gap bytes (tail_ordered b bytes up))

-- nothing in a gap is visible
pub visible_behind : (ranges : List RangeAt) (hidden : MemByte) (bytes : List MemByte) (next gap : ℕ) → IsOrdered (hidden ∷ bytes) → gap ≤ length bytes →
    ((between : ℕ) → hidden.address ≤ between → between < next → is_visible ranges between ≡ false) → AllWithin (λ b. ltb b.address next ≡ true) bytes 0 gap →
    visible ranges (take (length bytes - gap) (drop gap bytes)) ≡ visible ranges bytes
visible_behind ranges hidden bytes next gap up within none below =
    ap (visible ranges) (left gap bytes)
    ∙ none_kept (λ b. is_visible ranges b.address) bytes gap (λ k d low less.
    let above : hidden.address < (get_or bytes k d).address = address_less (hidden ∷ bytes) up 0 (suc k) d (omega arith) (omega arith) in
    none (get_or bytes k d).address (omega arith) (ltb-true _ _ (below k d low less)))

-- one more visible byte
pub one_seen : (ranges : List RangeAt) (part more rest behind whole : List MemByte) (b : MemByte) → rest ≡ b ∷ behind → is_visible ranges b.address ≡ true → more ≡ part ++ b ∷ [] → part ++ visible ranges rest ≡ whole → more ++ visible ranges behind ≡ whole
one_seen ranges part more rest behind whole b is seen made h =
    let kept : visible ranges rest ≡ b ∷ visible ranges behind = ap (visible ranges) is ∙ ap (λ t. cond t (b ∷ visible ranges behind) (visible ranges behind)) seen in
    rw made (rw append_assoc (ap (λ bs. part ++ bs) (sym kept) ∙ h))

-- what is not visible adds nothing
pub none_seen : (ranges : List RangeAt) (part rest behind after whole : List MemByte) (b : MemByte) → rest ≡ b ∷ behind → is_visible ranges b.address ≡ false → visible ranges after ≡ visible ranges behind → part ++ visible ranges rest ≡ whole → part ++ visible ranges after ≡ whole
none_seen ranges part rest behind after whole b is hidden same h =
    let kept : visible ranges rest ≡ visible ranges behind = ap (visible ranges) is ∙ ap (λ t. cond t (b ∷ visible ranges behind) (visible ranges behind)) hidden in
    ap (λ bs. part ++ bs) (same ∙ sym kept) ∙ h
