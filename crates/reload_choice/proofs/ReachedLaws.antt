-- What a reachable alternative gives: each fact is one of the tests that it has passed.
use Rattle.std.proofs.Common.{◌≡◌, ℕ, zero, suc, ◌≤◌, ◌&&◌, ◌||◌, not, Bool, true, false, List, [], ◌∷◌, length, map, Option, Some, slice_get, sym, ap, ◌∙◌}
use Rattle.std.specs.Prelude.{option_map}
use Rattle.std.specs.List.{list_all}
use Rattle.std.specs.Option.{option_map_or}
use Rattle.std.proofs.lemmas.Bool.{leb-true, not-true}
use Rattle.std.proofs.lemmas.Option.{same_Some, slice_get-map}
use Rattle.reload_operands.specs.declared.operand.Operand.{Operand}
use Rattle.reload_moves.specs.declared.fitting.Fitting.{Fitting}
use Rattle.reload_moves.specs.declared.part.Part.{Part}
use Rattle.reload_moves.specs.Moved.{is_marked}
use Rattle.reload_moves.specs.Registers.{asks_of}
use Rattle.reload_fit.specs.Fitting.{Asks}
use Rattle.reload_fit.specs.Taken.{takes_register}
use Rattle.reload_choice.specs.declared.given.Given.{Given}
use Rattle.reload_choice.specs.Movable.{is_mode, is_formed, formed_of, can_be_replaced, may_move, may_share, at_both, share, shares_well, shares_with_all, is_clear, part_may_end, part_at_is_good, part_is_good, all_good, may_move_at, part_may_move, all_may_move, all_share_well, has_registers, is_suited, stays_formed, is_reachable}
use Rattle.reload_moves.proofs.AskLaws.{both}
use Rattle.reload_choice.proofs.RoundLaws.{mark_of}

-- ---- tests

-- of two of which one holds, where the first doesn't
pub second_of : (a b : Bool) → (not a || b) ≡ true → a ≡ true → b ≡ true
second_of true b e h = e
second_of false b e h = absurd (let never : ⊥ = cc in never)

all_at : {X : Type 0} (test : X → Bool) (xs : List X) (i : ℕ) (x : X) → list_all test xs ≡ true →
    slice_get xs i ≡ Some x → test x ≡ true
all_at test [] i x all at = absurd (let never : ⊥ = cc in never)
all_at test (y ∷ ys) zero x all at = ap test (sym (same_Some y x at)) ∙
    (both (test y) (list_all test ys) all).0
all_at test (y ∷ ys) (suc i) x all at =
    all_at test ys i x (both (test y) (list_all test ys) all).1 at

found_at : {X : Type 0} (test : X → Bool) (o : Option X) (x : X) →
    option_map_or test o false ≡ true → o ≡ Some x → test x ≡ true
found_at test o x passed at = ap (λ (p : Option _). option_map_or test p false) (sym at) ∙ passed

all_mapped : {X : Type 0} (test : X → Bool) (xs : List X) (i : ℕ) (x : X) →
    list_all (λ mark. mark) (map test xs) ≡ true → slice_get xs i ≡ Some x → test x ≡ true
all_mapped test xs i x all at =
    all_at (λ mark. mark) (map test xs) i (test x) all
    (slice_get-map test xs i ∙ ap (λ (o : Option _). option_map test o) at)

marked_at : {X : Type 0} (test : X → Bool) (xs : List X) (i : ℕ) (x : X) →
    is_marked (map test xs) i ≡ true → slice_get xs i ≡ Some x → test x ≡ true
marked_at test xs i x marked at = sym (mark_of test xs i x at) ∙ marked

-- ---- what a reachable alternative gives

-- what is known of an operand that can be replaced
pub record CanBeReplaced (given : Given) (x : Operand) : Type 0 where
  pub no_operator : x.is_operator ≡ false
  pub not_hidden : x.is_hidden ≡ false
  pub has_mode : is_mode x.mode ≡ true
  pub no_lowpart : x.in_lowpart ≡ false
  pub well_formed : is_formed given x ≡ true

replaced_by : (given : Given) (place : ℕ) (x : Operand) → slice_get given.operands place ≡ Some x →
    can_be_replaced (formed_of given) place x ≡ true → CanBeReplaced given x
replaced_by given place x of can =
    let marked = is_marked (formed_of given) place in
    let one = both (not x.is_operator)
    (not x.is_hidden && (is_mode x.mode && (not x.in_lowpart && marked))) can in
    let two = both (not x.is_hidden) (is_mode x.mode && (not x.in_lowpart && marked)) one.1 in
    let three = both (is_mode x.mode) (not x.in_lowpart && marked) two.1 in
    let four = both (not x.in_lowpart) marked three.1 in
    record {
      no_operator = not-true x.is_operator one.0;
      not_hidden = not-true x.is_hidden two.0;
      has_mode = three.0;
      no_lowpart = not-true x.in_lowpart four.0;
      well_formed = marked_at (is_formed given) given.operands place x four.1 of;
    }

module _ (asks : Asks) (given : Given) (fits : List Fitting) (parts : List Part)
    (reached : is_reachable asks given.operands given fits (formed_of given) parts ≡ true) where
  abbrev suits : Bool
  suits = is_suited asks given.operands given fits (formed_of given) parts

  tests : (has_registers parts ≡ true) × ((suits && stays_formed given parts) ≡ true)
  tests = both (has_registers parts) (suits && stays_formed given parts) reached

  pub few : length (asks_of parts) ≤ 4
  few = leb-true (length (asks_of parts)) 4 tests.0

  suited_whole : (suits ≡ true) × (stays_formed given parts ≡ true)
  suited_whole = both suits (stays_formed given parts) tests.1

  pub stays_whole : stays_formed given parts ≡ true
  stays_whole = suited_whole.1

  suited : ((all_share_well given.operands parts && all_good given parts) ≡ true)
      × (all_may_move asks given.operands fits (formed_of given) parts ≡ true)
  suited = both (all_share_well given.operands parts && all_good given parts)
      (all_may_move asks given.operands fits (formed_of given) parts) suited_whole.0

  good : (all_share_well given.operands parts ≡ true) × (all_good given parts ≡ true)
  good = both (all_share_well given.operands parts) (all_good given parts) suited.0

  pub shared : (i j : ℕ) (p q : Part) (x y : Operand) → slice_get parts i ≡ Some p →
      slice_get given.operands p.place ≡ Some x → slice_get parts j ≡ Some q →
      slice_get given.operands q.place ≡ Some y → share p q ≡ true → may_share x y ≡ true
  shared i j p q x y at_p of_p at_q of_q shares =
      let with_all = all_at (shares_with_all given.operands parts) parts i p good.0 at_p in
      let well = all_at (shares_well given.operands p) parts j q with_all at_q in
      let two =
      second_of (share p q) (at_both given.operands p.place q.place may_share) well shares in
      let here = λ (z : Operand).
      option_map_or (may_share z) (slice_get given.operands q.place) false in
      found_at (may_share x) (slice_get given.operands q.place) y
      (found_at here (slice_get given.operands p.place) x two of_p) of_q

  pub replaced : (i : ℕ) (p : Part) (x : Operand) → slice_get parts i ≡ Some p →
      slice_get given.operands p.place ≡ Some x → p.is_moved ≡ true → CanBeReplaced given x
  replaced i p x at_p of_p moved =
      let may = all_mapped (part_may_move asks given.operands fits (formed_of given)) parts i p
      suited.1 at_p in
      let at = second_of p.is_moved (may_move_at asks given.operands fits (formed_of given) p.place)
      may moved in
      let here = found_at (may_move asks given.operands fits (formed_of given) p.place)
      (slice_get given.operands p.place) x at of_p in
      replaced_by given p.place x of_p (both (can_be_replaced (formed_of given) p.place x)
      (takes_register asks given.operands fits p.place x.mode) here).0

  pub well : (i : ℕ) (p : Part) (x : Operand) → slice_get parts i ≡ Some p →
      slice_get given.operands p.place ≡ Some x →
      (is_clear p x ≡ true) × (part_may_end given p x ≡ true)
  well i p x at_p of_p =
      let here = all_at (part_is_good given) parts i p good.1 at_p in
      both (is_clear p x) (part_may_end given p x) (found_at (part_at_is_good given p)
      (slice_get given.operands p.place) x here of_p)
