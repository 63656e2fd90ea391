-- Free slots more.
use Rattle.std.proofs.Common.{◌≡◌, ℕ, zero, suc, ◌+◌, ◌-◌, ◌^◌, ◌<◌, ◌≤◌, List, [], ◌∷◌, ◌++◌, length, map, replicate, Option, None, refl, ap, sym, subst, ◌∙◌, arith, append_assoc, length-append}
use Rattle.std.proofs.lemmas.List.{map-append, length-map, replicate-append-replicate, length-replicate}
use Rattle.node_pool.specs.Slots.{value_at}
use Rattle.node_pool.specs.declared.slot.Slot.{Slot}
use Rattle.node_pool.specs.machine.Links.{value_of, Links, AreLinked}
use Rattle.node_pool.proofs.Linked.{pushed}
use Rattle.node_pool.proofs.Counted.{more_free}

module _ {T : Type 0} where
  -- the values where one free slot more came to those that came
  pub one_more : (old slots longer : List (Slot T)) (new : Slot T) (count : ℕ) → longer ≡ slots ++ new ∷ [] →
      new.value ≡ None → map value_of slots ≡ map value_of old ++ replicate count None →
      map value_of longer ≡ map value_of old ++ replicate (count + 1) None
  one_more old slots longer new count are free values =
      ap (map value_of) are ∙
      (map-append value_of slots (new ∷ []) ∙
      (ap (λ l. l ++ (new.value ∷ [])) values ∙
      (ap (λ v. (map value_of old ++ replicate count None) ++ (v ∷ [])) free ∙
      (append_assoc (map value_of old) (replicate count None) (None ∷ []) ∙
      ap (λ l. map value_of old ++ l) (replicate-append-replicate count 1 None)))))

  pub linked_more : (slots longer : List (Slot T)) (free count next here : ℕ) (new : Slot T) → longer ≡ slots ++ new ∷ [] →
      new.value ≡ None → new.next ≡ next → here ≡ length slots → Links slots (free + count) next →
      Links longer (free + (count + 1)) here
  linked_more slots longer free count next here new are none is long links =
      let more : free + (count + 1) ≡ suc (free + count) = omega arith in
      subst (λ n. Links longer n here) (sym more)
      (subst (λ s. Links s (suc (free + count)) here) (sym are)
      (subst (λ n. Links (slots ++ new ∷ []) (suc (free + count)) n) (sym long)
      (pushed slots (free + count) next new none is links)))

  -- no id is live among free slots at the end
  pub same_values : (slots : List (Option T)) (count id : ℕ) → value_at (slots ++ replicate count None) id ≡ value_at slots id
  same_values [] zero id = refl
  same_values [] (suc count) zero = refl
  same_values [] (suc count) (suc id) = same_values [] count id
  same_values (slot ∷ slots) count zero = refl
  same_values (slot ∷ slots) count (suc id) = same_values slots count id

  -- a pool with slots more
  pub grown : (slots longer : List (Slot T)) (first spare more next : ℕ) → AreLinked slots first spare →
      map value_of longer ≡ map value_of slots ++ replicate more None →
      ((free : ℕ) → Links slots free first → Links longer (free + more) next) → length longer < 2 ^ 32 →
      AreLinked longer next (spare + more)
  grown slots longer first spare more next are values links fit = record {
    links = links spare are.links;
    all = rw values (omega (arith, are.all, more_free (map value_of slots) more));
    fit = fit;
  }

  -- a pool of free slots alone
  pub all_free : (slots : List (Slot T)) (first count : ℕ) → map value_of slots ≡ replicate count None →
      Links slots count first → count < 2 ^ 32 → AreLinked slots first count
  all_free slots first count are links fit = record {
    links = links;
    all = rw are (omega (arith, more_free {T = T} [] count));
    fit = omega (arith, fit, ap length are, length-map slots (value_of {T = T}), length-replicate {A = Option T} count None);
  }

  -- how many slots there are then
  pub grown_long : (slots longer : List (Slot T)) (more long : ℕ) → map value_of longer ≡ map value_of slots ++ replicate more None →
      long ≡ length slots → more ≤ 2 ^ 32 - 1 - long → length slots < 2 ^ 32 → length longer < 2 ^ 32
  grown_long slots longer more long values is within fit =
      omega (
        arith,
        is,
        within,
        fit,
        ap length values,
        length-map longer (value_of {T = T}),
        length-map slots (value_of {T = T}),
        length-append (map value_of slots) (replicate {A = Option T} more None),
        length-replicate {A = Option T} more None,
      )
