-- The search along paths, as the program makes it: places that were found, and those of them that
-- are still to be looked at.
use Rattle.std.specs.Prelude.{◌≡◌, ℕ, ◌+◌, ◌<◌, Bool, true, false, if◌then◌else◌, List, [], ◌∷◌, ◌++◌, length, slice_index_or, slice_set}
use Rattle.rtx_tree.specs.declared.function.Insn.{Insn}
use Rattle.rtl_func.specs.Paths.{Path, has_place, leads}
use Rattle.rtl_func.specs.declared.paths.Search.{Search}

-- a place was found; what is no place counts as found
abbrev pub is_found : Search → ℕ → Bool
is_found s place = slice_index_or s.found place true

-- a place is found, and is to be looked at where it is new
abbrev pub with_place : Search → ℕ → Search
with_place s place =
    if is_found s place then s else record { found = slice_set s.found place true; left = s.left ++ place ∷ [] }

abbrev pub with_places : Search → List ℕ → Search
with_places s [] = s
with_places s (place ∷ places) = with_places (with_place s place) places

-- what is found lies on a path from the first place, and so do the successors of all that is not to
-- be looked at
pub record IsSearch (insns : List Insn) (s : Search) : Type 0 where
  pub long : length s.found ≡ length insns + 1
  pub start : is_found s 0 ≡ true
  pub sound : (q : ℕ) → q < length s.found → is_found s q ≡ true → Path insns 0 q
  pub waiting : (q : ℕ) → has_place s.left q ≡ true → Path insns 0 q
  pub closed : (p q : ℕ) → p < length s.found → is_found s p ≡ true → has_place s.left p ≡ false →
      leads insns p q ≡ true → is_found s q ≡ true
