-- The words of li, la and call fit their formats, and words that lead on do so together.
use Rattle.std.proofs.Common.{◌≡◌, ℕ, zero, suc, ℤ, pos, negsuc, ◌+◌, ◌*◌, ◌%◌, ◌^◌, ◌<◌, ◌≤◌, ◌==◌, nat_lt, Bool, true, false, if◌then◌else◌, List, [], ◌∷◌, ◌++◌, length, map, refl, arith, length-append}
use Rattle.std.specs.Prelude.{◌-ℤ◌}
use Rattle.std.specs.Int.{cast_unsigned, w64}
use Rattle.std.proofs.lemmas.Int.{ints}
use Rattle.std.proofs.lemmas.Bool.Decides.{nat_tests}
use Rattle.rtx_tree.specs.declared.machine.RangeAt.{RangeAt}
use Rattle.rtx_tree.specs.declared.machine.World.{World}
use Rattle.rv_line.specs.declared.state.RvState.{RvState}
use Rattle.rv_line.specs.declared.state.LineEnd.TheVariants.{Next}
use Rattle.rv_word.specs.Word.{encode, FitsBase, IsWithin}
use Rattle.rv_word.specs.Spelling.{base_of}
use Rattle.rv_word.specs.Sequence.{upper, lower, added, fits, near_words, shifted, li_words, far_words, straight}
use Rattle.rv_word.specs.declared.base.Base.{Base}
use Rattle.rv_word.specs.declared.base.BaseOp.{BaseOp}
use Rattle.rv_word.specs.declared.base.BaseOp.TheVariants as base
use Rattle.words_run.specs.Run.{Fetching, Goes}
use Rattle.law_image.proofs.Steps.{AllFit, Does, at_pc, straight_does}
use Rattle.law_image.proofs.Facts.{zero_low}

fit_append : (xs ys : List Base) → AllFit xs → AllFit ys → AllFit (xs ++ ys)
fit_append [] ys first second = second
fit_append (x ∷ xs) ys first second = (first.0, fit_append xs ys first.1 second)

pub lower_within : (n : ℕ) → IsWithin (negsuc 2047) (pos 2047) (lower n)
lower_within n = by (nat_lt (n % 4096) 2048) refl
  where
    by : (t : Bool) → nat_lt (n % 4096) 2048 ≡ t → IsWithin (negsuc 2047) (pos 2047) (if t then pos (n % 4096) else pos (n % 4096) -ℤ pos (2 * 2048))
    by true e = let less : n % 4096 < 2048 = grind (arith, nat_tests) in (omega (arith, ints), omega (arith, ints, less))
    by false e = let more : 2048 ≤ n % 4096 = grind (arith, nat_tests) in (omega (arith, ints, more), omega (arith, ints))

within12 : (c : ℤ) → fits (2 ^ 11) c ≡ true → IsWithin (negsuc 2047) (pos 2047) c
within12 (pos n) is = let less : n < 2048 = grind (arith, nat_tests) in (omega (arith, ints), omega (arith, ints, less))
within12 (negsuc n) is = let less : n < 2048 = grind (arith, nat_tests) in (omega (arith, ints, less), omega (arith, ints))

upper_within : (n : ℕ) → IsWithin (pos 0) (pos 1048575) (pos (n % 2 ^ 20))
upper_within n = (omega (arith, ints), omega (arith, ints))

-- an instruction that adds a number
abbrev Adds : BaseOp → Type 0
Adds op = (rd : ℕ) (imm : ℤ) → rd < 32 → IsWithin (negsuc 2047) (pos 2047) imm → FitsBase (base_of op rd rd 0 imm)

addi_adds : Adds base.Addi
addi_adds rd imm low range = (low, low, refl, range)

addiw_adds : Adds base.Addiw
addiw_adds rd imm low range = (low, low, refl, range)

jalr_adds : Adds base.Jalr
jalr_adds rd imm low range = (low, low, refl, range)

added_fit : (op : BaseOp) (rd n : ℕ) → Adds op → rd < 32 → AllFit (added op rd n)
added_fit op rd n adds low = by (n % 4096 == 0)
  where
    by : (t : Bool) → AllFit (if t then [] else base_of op rd rd 0 (lower n) ∷ [])
    by true = tt
    by false = (adds rd (lower n) low (lower_within n), tt)

near_fit : (rd : ℕ) (c : ℤ) → rd < 32 → AllFit (near_words rd c)
near_fit rd c low = by (fits (2 ^ 11) c) refl
  where
    by : (t : Bool) → fits (2 ^ 11) c ≡ t → AllFit (if t then base_of base.Addi rd 0 0 c ∷ [] else base_of base.Lui rd 0 0 (pos (upper (cast_unsigned w64 c) % 2 ^ 20)) ∷ added base.Addiw rd (cast_unsigned w64 c))
    by true e = ((low, zero_low, refl, within12 c e), tt)
    by false e = ((low, refl, refl, upper_within (upper (cast_unsigned w64 c))), added_fit base.Addiw rd (cast_unsigned w64 c) addiw_adds low)

pub li_fit : (cuts rd : ℕ) (c : ℤ) → rd < 32 → AllFit (li_words cuts rd c)
li_fit zero rd c low = near_fit rd c low
li_fit (suc cuts) rd c low = by (fits (2 ^ 31) c) (li_fit cuts rd (shifted c) low)
  where
    by : (t : Bool) → AllFit (li_words cuts rd (shifted c)) → AllFit (if t then near_words rd c else li_words cuts rd (shifted c) ++ base_of base.Slli rd rd 0 (pos 12) ∷ added base.Addi rd (cast_unsigned w64 c))
    by true front = near_fit rd c low
    by false front = fit_append (li_words cuts rd (shifted c)) (base_of base.Slli rd rd 0 (pos 12) ∷ added base.Addi rd (cast_unsigned w64 c)) front ((low, low, refl, (omega (arith, ints), omega (arith, ints))), added_fit base.Addi rd (cast_unsigned w64 c) addi_adds low)

near_some : (rd : ℕ) (c : ℤ) → 0 < length (near_words rd c)
near_some rd c = by (fits (2 ^ 11) c)
  where
    by : (t : Bool) → 0 < length (if t then base_of base.Addi rd 0 0 c ∷ [] else base_of base.Lui rd 0 0 (pos (upper (cast_unsigned w64 c) % 2 ^ 20)) ∷ added base.Addiw rd (cast_unsigned w64 c))
    by true = omega arith
    by false = omega arith

pub li_some : (cuts rd : ℕ) (c : ℤ) → 0 < length (li_words cuts rd c)
li_some zero rd c = near_some rd c
li_some (suc cuts) rd c = by (fits (2 ^ 31) c)
  where
    by : (t : Bool) → 0 < length (if t then near_words rd c else li_words cuts rd (shifted c) ++ base_of base.Slli rd rd 0 (pos 12) ∷ added base.Addi rd (cast_unsigned w64 c))
    by true = near_some rd c
    by false = omega (arith, length-append (li_words cuts rd (shifted c)) (base_of base.Slli rd rd 0 (pos 12) ∷ added base.Addi rd (cast_unsigned w64 c)))

address_within : (address : ℕ) → address + 2048 < 2 ^ 31 → IsWithin (pos 0) (pos 1048575) (pos (upper address))
address_within address small = (omega (arith, ints), omega (arith, ints, small))

pub la_fit : (rd address : ℕ) → rd < 32 → address + 2048 < 2 ^ 31 → AllFit (far_words base.Addi rd address)
la_fit rd address low small = ((low, refl, refl, address_within address small), (addi_adds rd (lower address) low (lower_within address), tt))

pub call_fit : (address : ℕ) → address + 2048 < 2 ^ 31 → AllFit (far_words base.Jalr 1 address)
call_fit address small = let low : 1 < 32 = omega arith in ((low, refl, refl, address_within address small), (jalr_adds 1 (lower address) low (lower_within address), tt))

-- some words that lead on, one after the other
pub some_straight : (bases : List Base) (from : ℕ) (world : World) (ranges : List RangeAt) (bs front back : List Base) (t : Fetching) (after : RvState) → 0 < length bs → bases ≡ front ++ (bs ++ back) → t.pc ≡ from + 4 * length front → AllFit bs → straight world bs t.machine ≡ (Next, after) →
    Does (map encode bases) from world ranges t (Goes (at_pc t (from + 4 * (length front + length bs)) after))
some_straight bases from world ranges [] front back t after some split pc_is fits does = absurd (omega (arith, some))
some_straight bases from world ranges (b ∷ bs) front back t after some split pc_is fits does = straight_does bases from world ranges bs front back b t after split pc_is fits does
