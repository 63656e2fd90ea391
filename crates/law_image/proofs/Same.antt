-- The words of an image do what the lines of its functions do.
use Rattle.std.proofs.Common.{◌≡◌, ◌≢◌, ℕ, zero, suc, ◌+◌, ◌-◌, ◌*◌, ◌/◌, ◌%◌, ◌&&◌, nat_le, ◌^◌, ◌<◌, ◌≤◌, ◌==◌, Bool, true, false, if◌then◌else◌, List, [], ◌∷◌, ◌++◌, length, Option, Some, None, refl, sym, ◌∙◌, ap, subst, arith}
use Rattle.std.specs.Prelude.{slice_get, option_and_then}
use Rattle.std.specs.List.{All}
use Rattle.long_branches.specs.Branches.{IsLeast}
use Rattle.rtx_tree.specs.declared.machine.RangeAt.{RangeAt}
use Rattle.rtx_tree.specs.declared.machine.Start.{Start}
use Rattle.rtx_tree.specs.declared.machine.SymbolAt.{SymbolAt}
use Rattle.rtx_tree.specs.declared.machine.World.{World}
use Rattle.rv_line.specs.Run.{Running, entry, run}
use Rattle.rv_line.specs.declared.outcome.CodeOutcome.TheVariants as outcomes
use Rattle.rv_word.specs.Word.{decode}
use Rattle.rv_word.specs.Step.{HoldsWords}
use Rattle.rv_unit.specs.Layout.{pieces_of}
use Rattle.rv_unit.specs.Words.{Placed, words_of}
use Rattle.rv_image.specs.Image.{entries_from, first_entry, size_of, sizes, words_with, AreLeast, IsImage}
use Rattle.rv_image.specs.declared.image.CodeUnit.{CodeUnit}
use Rattle.rv_image.specs.declared.image.Image.{Image}
use Rattle.words_run.specs.Run as words
use Rattle.words_run.specs.Run.{Fetching, own_words}
use Rattle.words_run.proofs.Own.{own_are}
use Rattle.words_run.proofs.Fill.{words_fill}
use Rattle.law_image.proofs.Turns.{fetching}
use Rattle.law_image.specs.WordsDo.{Comes, HasAddresses, IsWordReply, WordsDo}
use Rattle.law_image.proofs.Keep.{Holds, read, words_all}
use Rattle.law_image.proofs.Acts.{Sound}
use Rattle.law_image.proofs.Runs.{Reached, run_follows}
use Rattle.law_image.proofs.Addresses.{AllNear, found_near, image_near}

-- ---- one function among others

-- functions and their sets before one, that one, and those behind it
pub record Parted (units : List CodeUnit) (sets : List (List Bool)) (at : ℕ) (unit : CodeUnit) : Type 0 where
  pub front : List CodeUnit
  pub back : List CodeUnit
  pub before : List (List Bool)
  pub longs : List Bool
  pub after : List (List Bool)
  pub units_are : units ≡ front ++ unit ∷ back
  pub sets_are : sets ≡ before ++ longs ∷ after
  pub same : length front ≡ length before
  pub least : IsLeast (pieces_of unit.items) longs
  pub within : sizes front before + size_of unit.items longs ≤ sizes units sets
  pub entry_is : (from : ℕ) → slice_get (entries_from from units sets) at ≡ Some (record { name = unit.name; address = from + 4 * sizes front before })

parted : (units : List CodeUnit) (sets : List (List Bool)) (at : ℕ) (unit : CodeUnit) → AreLeast units sets → slice_get units at ≡ Some unit → Parted units sets at unit
parted [] sets at unit least is = cc
parted (u ∷ units) [] at unit least is = absurd least
parted (u ∷ units) (longs ∷ sets) zero unit least is =
    let same : u ≡ unit = cc in
    let P : CodeUnit → Type 0 = λ x. Parted (u ∷ units) (longs ∷ sets) zero x in
    subst P same (record {
      front = [];
      back = units;
      before = [];
      longs = longs;
      after = sets;
      units_are = refl;
      sets_are = refl;
      same = refl;
      least = least.0;
      within = omega arith;
      entry_is = λ from. (let here : from ≡ from + 4 * 0 = omega arith in ap (λ a. Some (record { name = u.name; address = a })) here);
    })
parted (u ∷ units) (longs ∷ sets) (suc at) unit least is =
    let p = parted units sets at unit least.1 is in
    record {
      front = u ∷ p.front;
      back = p.back;
      before = longs ∷ p.before;
      longs = p.longs;
      after = p.after;
      units_are = ap (λ xs. u ∷ xs) p.units_are;
      sets_are = ap (λ xs. longs ∷ xs) p.sets_are;
      same = ap suc p.same;
      least = p.least;
      within = omega (arith, p.within);
      entry_is = λ from. p.entry_is (from + 4 * size_of u.items longs) ∙ (let there : from + 4 * size_of u.items longs + 4 * sizes p.front p.before ≡ from + 4 * (size_of u.items longs + sizes p.front p.before) = omega arith in ap (λ a. Some (record { name = unit.name; address = a })) there);
    }

-- ---- the start

entry_holds : (start : Start) → HoldsWords (entry start) → Holds (entry start)
entry_holds start words = record { count = refl; words = words_all (entry start).regs all }
  where
    all : (r number : ℕ) → slice_get (entry start).regs r ≡ Some (Some number) → number < 2 ^ 64
    all zero number is = let same : 0 ≡ number = cc in omega (arith, same)
    all (suc r) number is = words (suc r) number (read (entry start).regs r ∙ ap (λ o. option_and_then (λ (value : Option ℕ). value) o) is)

-- ---- no words

none_fetched : (from : ℕ) (world : World) (ranges : List RangeAt) (n : ℕ) (t : Fetching) → words.run_from [] from world ranges (suc n) t ≡ outcomes.Stuck
none_fetched from world ranges n t = ap (λ o. words.go_on (words.turn_at o world ranges t) (words.run_from [] from world ranges n)) (by (nat_le from t.pc && ((t.pc - from) % 4 == 0)))
  where
    by : (b : Bool) → (if b then option_and_then decode (slice_get (let none : List ℕ = [] in none) ((t.pc - from) / 4)) else None) ≡ None
    by true = refl
    by false = refl

no_words : (ws : List ℕ) (from : ℕ) (world : World) (ranges : List RangeAt) (n : ℕ) (t : Fetching) → length ws ≡ 0 → 0 < n → words.run_from ws from world ranges n t ≡ outcomes.Stuck
no_words [] from world ranges zero t none some = absurd (omega (arith, some))
no_words [] from world ranges (suc n) t none some = none_fetched from world ranges n t
no_words (w ∷ ws) from world ranges n t none some = absurd (omega (arith, none))

-- ---- the law

module _ (units : List CodeUnit) (image : Image) (is : IsImage units image) (at : ℕ) (unit : CodeUnit) (unit_is : slice_get units at ≡ Some unit) (start : Start) (world : World) (words_hold : HoldsWords (entry start)) (replies : All IsWordReply world.replies) (has : HasAddresses image unit.items world) where
  p : Parted units is.sets at unit
  p = parted units is.sets at unit is.are_least unit_is

  abbrev from : ℕ
  from = first_entry + 4 * sizes p.front p.before

  abbrev placed : Placed
  placed = record { items = unit.items; longs = p.longs; symbols = image.entries ++ image.outside }

  small : 4 * sizes p.front p.before + 4 * size_of unit.items p.longs ≤ 1048572
  small = omega (arith, p.within, is.within)

  sound : Sound placed from world
  sound = record {
    closed = p.least.is_closed;
    size = omega (arith, small);
    place = omega (arith, small);
    addresses = λ name address there.
        found_near (image.entries ++ image.outside) name address
        (subst AllNear (sym (ap (λ es. es ++ image.outside) is.entries ∙ ap (λ os. entries_from first_entry units is.sets ++ os) is.outside)) (image_near units is.sets is.are_least is.within)) there;
    has = has;
  }

  abbrev first : Running
  first = record { rest = unit.items; machine = entry start; replies = world.replies; calls = [] }

  reached : (k : ℕ) → run unit.items start world k ≢ outcomes.Stuck → Reached placed from world start.visible (fetching placed from 0 first) k (run unit.items start world k)
  reached k not_stuck = run_follows placed from world start.visible sound k first [] refl (entry_holds start words_hold) replies not_stuck

  own : 0 < size_of unit.items p.longs → own_words image from ≡ words_of placed
  own some =
      own_are image (image.entries ++ image.outside) p.front unit p.back p.before p.longs p.after
      (is.entries ∙ (ap (λ us. entries_from first_entry us is.sets) p.units_are ∙ ap (λ ss. entries_from first_entry (p.front ++ unit ∷ p.back) ss) p.sets_are))
      (is.words ∙ (ap (λ us. words_with (image.entries ++ image.outside) us is.sets) p.units_are ∙ ap (λ ss. words_with (image.entries ++ image.outside) (p.front ++ unit ∷ p.back) ss) p.sets_are))
      p.same some from refl

  comes : (k : ℕ) → run unit.items start world (suc k) ≢ outcomes.Stuck → Comes image from start world (suc k) (run unit.items start world (suc k))
  comes k not_stuck = by (size_of unit.items p.longs) refl
    where
      r : Reached placed from world start.visible (fetching placed from 0 first) (suc k) (run unit.items start world (suc k))
      r = reached (suc k) not_stuck

      by : (size : ℕ) → size_of unit.items p.longs ≡ size → Comes image from start world (suc k) (run unit.items start world (suc k))
      by zero none = absurd (not_stuck (sym r.is ∙ no_words (words_of placed) from world start.visible r.steps (fetching placed from 0 first) (words_fill placed ∙ none) (omega (arith, r.enough))))
      by (suc size) some =
          let here : from ≡ from + 4 * 0 = omega arith in
          record {
            steps = r.steps;
            enough = r.enough;
            comes = ap (λ ws. words.run_from ws from world start.visible r.steps (record { pc = from; machine = entry start; replies = world.replies; calls = [] })) (own (omega (arith, some)))
                ∙ (ap (λ pc. words.run_from (words_of placed) from world start.visible r.steps (record { pc = pc; machine = entry start; replies = world.replies; calls = [] })) here ∙ r.is);
          }

  at_entry : (address : ℕ) → address ≡ from → (k : ℕ) → run unit.items start world k ≢ outcomes.Stuck → Comes image address start world k (run unit.items start world k)
  at_entry address address_is zero not_stuck = record { steps = 0; enough = omega arith; comes = refl }
  at_entry address address_is (suc k) not_stuck = subst (λ a. Comes image a start world (suc k) (run unit.items start world (suc k))) (sym address_is) (comes k not_stuck)

  entry_at : (place : SymbolAt) → slice_get image.entries at ≡ Some place → place.address ≡ from
  entry_at place place_is =
      let found : Some place ≡ Some (record { name = unit.name; address = from }) = sym place_is ∙ (ap (λ es. slice_get es at) is.entries ∙ p.entry_is first_entry) in
      let same : place ≡ record { name = unit.name; address = from } = cc in
      ap (λ (s : SymbolAt). s.address) same

-- the words of each function do what its lines do
pub words_do : WordsDo
words_do units image is at unit place unit_is place_is start world words_hold replies has k not_stuck =
    at_entry units image is at unit unit_is start world words_hold replies has place.address
    (entry_at units image is at unit unit_is start world words_hold replies has place place_is) k not_stuck
