-- The layout for homes in increasing number has its slots in increasing number.
use Rattle.std.proofs.Common.{◌≡◌, ℕ, ◌+◌, ◌-◌, ◌<◌, Bool, true, false, List, [], ◌∷◌, map, refl, sym, ap, subst, arith}
use Rattle.std.specs.Prelude.{filter, ◌++◌, if◌then◌else◌}
use Rattle.std.specs.List.Sorted.{IsStrictlyIncreasing}
use Rattle.std.proofs.lemmas.List.{get_or-map, length-map}
use Rattle.std.proofs.lemmas.List.Kept.{AllPairs-filter}
use Rattle.rtx_tree.specs.declared.function.Function.{Function}
use Rattle.assign.specs.declared.home.Home.{Home}
use Rattle.assign.specs.declared.home.Home.TheVariants.{Hard, Slot}
use Rattle.assign.specs.declared.home.HomeOf.{HomeOf}
use Rattle.assign.specs.Frame.{slot_by, slots_of, slot_places, layout_of}
use Rattle.assign.specs.Homes.{pseudos, AreHomes}
use Rattle.reload_homes.specs.Homes.{AreOrdered}
use Rattle.reload_homes.proofs.Lookups.{keys_rise}

abbrev is_slot : Home → Bool
is_slot Slot = true
is_slot (Hard hard) = false

slots_are : (homes : List HomeOf) → slots_of homes ≡ map (λ (x : HomeOf). x.pseudo) (filter (λ (x : HomeOf). is_slot x.home) homes)
slots_are [] = refl
slots_are (x ∷ homes) = by_home x.home (slots_are homes)
  where
    rest : List HomeOf
    rest = filter (λ (x : HomeOf). is_slot x.home) homes

    by_home : (h : Home) → slots_of homes ≡ map (λ (x : HomeOf). x.pseudo) rest → slot_by h x.pseudo ++ slots_of homes ≡ map (λ (x : HomeOf). x.pseudo) (if is_slot h then x ∷ rest else rest)
    by_home Slot e = ap (λ ks. x.pseudo ∷ ks) e
    by_home (Hard hard) e = e

rises : (xs : List HomeOf) → IsStrictlyIncreasing (pseudos xs) → (p : HomeOf → Bool) → IsStrictlyIncreasing (pseudos (filter p xs))
rises xs h p k within =
    let kept = filter p xs in
    let long = length-map kept (λ (x : HomeOf). x.pseudo) in
    let d : HomeOf = record { pseudo = 0; home = Slot } in
    let up = AllPairs-filter (λ (x y : HomeOf). x.pseudo < y.pseudo) p xs (keys_rise (λ (x : HomeOf). x.pseudo) xs h) k (k + 1) d (omega arith) (omega (arith, long)) in
    omega (arith, up, get_or-map (λ (x : HomeOf). x.pseudo) kept k d 0 (omega (arith, long)), get_or-map (λ (x : HomeOf). x.pseudo) kept (k + 1) d 0 (omega (arith, long)))

slots_rise : (homes : List HomeOf) → IsStrictlyIncreasing (pseudos homes) → IsStrictlyIncreasing (slots_of homes)
slots_rise homes h = subst IsStrictlyIncreasing (sym (slots_are homes)) (rises homes h (λ (x : HomeOf). is_slot x.home))

slot_pseudos : (top : ℕ) (ks : List ℕ) → map (λ s. s.pseudo) (slot_places top ks) ≡ ks
slot_pseudos top [] = refl
slot_pseudos top (k ∷ ks) = ap (λ ks. k ∷ ks) (slot_pseudos (top - 8) ks)

-- homes and the layout for them are in order
pub ordered : (f : Function) (homes : List HomeOf) → AreHomes f homes → AreOrdered homes (layout_of f homes)
ordered f homes h = record { by_home = h.ordered; by_slot = subst IsStrictlyIncreasing (sym (slot_pseudos _ (slots_of homes))) (slots_rise homes h.ordered) }
