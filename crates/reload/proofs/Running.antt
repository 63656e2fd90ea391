-- Moves and instructions are added, one behind the other.
use Rattle.std.proofs.Common.{◌≡◌, ℕ, suc, add-one, ◌+◌, ◌≤◌, ◌<◌, List, [], ◌∷◌, ◌++◌, length, take, drop, get_or}
use Rattle.std.proofs.Common.{Ok, Err, refl, sym, ap, subst, ◌∙◌, append_assoc, arith}
use Rattle.std.proofs.lemmas.List.{append-nil, length-append, take-append-drop, drop_all}
use Rattle.std.proofs.Math.Seq.{take-suc, drop-cons}
use Rattle.std.proofs.lemmas.List.Elements.{All-nil, All-cons, All-append}
use Rattle.rtx_tree.specs.declared.function.Insn.{Insn}
use Rattle.rtx_tree.specs.declared.tree.Rtx.{Rtx}
use Rattle.rtx_tree.specs.Patterns.{with_pattern}
use Rattle.md_forms.specs.declared.form.Entry.{Entry}
use Rattle.assign.specs.declared.home.HomeOf.{HomeOf}
use Rattle.assign.specs.declared.places.Layout.{Layout}
use Rattle.law_frame.specs.Frame.{plain_with, plain_insns}
use Rattle.reload_choice.specs.declared.given.Given.{Given}
use Rattle.reload_choice.specs.declared.given.Plan.{Plan}
use Rattle.reload_choice.specs.Insns.{between, insns_before, insns_after}
use Rattle.reload.specs.declared.refusal.ReloadRefusal.{ReloadRefusal}
use Rattle.reload.specs.declared.refusal.ReloadRefusal.TheVariants as refusal
use Rattle.reload.specs.Outcome.{RefusesAs}
use Rattle.reload.specs.Reload.{moves_of, window_by, IsMatched, InsnAnswer, InsnReloads}
use Rattle.reload.specs.Reload.{chain_behind, ChainReloads}
use Rattle.reload.specs.machine.Added.{Added, IsMoved, IsUnmoved, AreMoved, AreStuck, AddsMoves, IsBetween}
use Rattle.reload.specs.machine.Added.{AddsWindow, IsAdded, Adds}

-- a refusal of one is a refusal of the other
pub refuses_map : (e : ReloadRefusal) (P Q : ReloadRefusal → Type 0) → ((d : ReloadRefusal) → P d → Q d) → RefusesAs e P → RefusesAs e Q
refuses_map refusal.Memory P Q on r = tt
refuses_map (refusal.Unmatched uid insn) P Q on r = on _ r
refuses_map (refusal.Unsatisfied uid form insn) P Q on r = on _ r

-- ---- a place of a list

taken_at : {A : Type 0} (xs : List A) (i : ℕ) (x : A) → i < length xs → x ≡ get_or xs i x → take (i + 1) xs ≡ take i xs ++ x ∷ []
taken_at {A = A} xs i x within is = rw add-one (take-suc xs i x within ∙ ap (λ (y : A). take i xs ++ y ∷ []) (sym is))

dropped_at : {A : Type 0} (xs : List A) (i : ℕ) (x : A) → i < length xs → x ≡ get_or xs i x → drop i xs ≡ x ∷ drop (i + 1) xs
dropped_at {A = A} xs i x within is = rw add-one (drop-cons xs i x within ∙ ap (λ (y : A). y ∷ drop (suc i) xs) (sym is))

parted_at : {A : Type 0} (xs : List A) (i : ℕ) (x : A) → i < length xs → x ≡ get_or xs i x → xs ≡ take i xs ++ x ∷ drop (i + 1) xs
parted_at {A = A} xs i x within is = sym (take-append-drop i xs) ∙ ap (λ (ys : List A). take i xs ++ ys) (dropped_at xs i x within is)

-- ---- moves

pub plain_push : (uid : ℕ) (xs : List Rtx) (x : Rtx) (next : ℕ) → next ≡ uid + length xs →
    plain_insns uid (xs ++ x ∷ []) ≡ plain_insns uid xs ++ plain_with next x ∷ []
plain_push uid [] x next is = let e : uid ≡ next = omega (arith, is) in ap (λ n. plain_with n x ∷ []) e
plain_push uid (y ∷ ys) x next is = ap (λ (more : List Insn). plain_with uid y ∷ more) (plain_push (uid + 1) ys x next (omega (arith, is)))

module _ (forms : List Entry) (uid : ℕ) where
  pub none_moved : (insns : List Insn) → AreMoved forms uid [] insns insns uid
  none_moved insns = record { matched = All-nil (IsMatched forms); stand = sym (append-nil insns); free = omega arith }

  pub one_moved : (xs : List Rtx) (x : Rtx) (old new more : List Insn) (next end : ℕ) → AreMoved forms uid xs old new next →
      IsMoved forms next x new more end → AreMoved forms uid (xs ++ x ∷ []) old more end
  one_moved xs x old new more next end all one = record {
    matched = All-append (IsMatched forms) xs (x ∷ []) all.matched
        (All-cons (IsMatched forms) x [] one.matched (All-nil (IsMatched forms)));
    stand =
        one.stands ∙ (ap (λ (front : List Insn). front ++ plain_with next x ∷ []) all.stand ∙
        (append_assoc old (plain_insns uid xs) (plain_with next x ∷ []) ∙
        ap (λ (back : List Insn). old ++ back) (sym (plain_push uid xs x next all.free))));
    free = let here = one.free in let before = all.free in let long = length-append xs (x ∷ []) in omega (arith, here, before, long);
  }

  pub one_stuck : (moves xs behind : List Rtx) (x : Rtx) (old new : List Insn) (next : ℕ) (e : ReloadRefusal) →
      moves ≡ xs ++ x ∷ behind → AreMoved forms uid xs old new next →
      RefusesAs e (IsUnmoved forms next x) → RefusesAs e (AreStuck forms uid moves)
  one_stuck moves xs behind x old new next e are all r =
      refuses_map e (IsUnmoved forms next x) (AreStuck forms uid moves) (λ d is. record {
        before = xs;
        insn = x;
        stuck = record { behind = behind; moves_are = are; matched = all.matched; unmatched = is.unmatched };
        refusal_is = is.refusal_is ∙ ap (λ (n : ℕ). refusal.Unmatched n x) all.free;
      }) r

  pub moved_at : (moves : List Rtx) (k : ℕ) (x : Rtx) (old new more : List Insn) (next end : ℕ) → k < length moves →
      x ≡ get_or moves k x → AreMoved forms uid (take k moves) old new next →
      IsMoved forms next x new more end → AreMoved forms uid (take (k + 1) moves) old more end
  moved_at moves k x old new more next end within is all one =
      subst (λ (xs : List Rtx). AreMoved forms uid xs old more end) (sym (taken_at moves k x within is))
      (one_moved (take k moves) x old new more next end all one)

  pub stuck_at : (moves : List Rtx) (k : ℕ) (x : Rtx) (old new : List Insn) (next : ℕ) (e : ReloadRefusal) → k < length moves →
      x ≡ get_or moves k x → AreMoved forms uid (take k moves) old new next →
      RefusesAs e (IsUnmoved forms next x) → RefusesAs e (AreStuck forms uid moves)
  stuck_at moves k x old new next e within is all r =
      one_stuck moves (take k moves) (drop (k + 1) moves) x old new next e (parted_at moves k x within is) all r

-- ---- the window of an instruction

plain_long : (uid : ℕ) (xs : List Rtx) → length (plain_insns uid xs) ≡ length xs
plain_long uid [] = refl
plain_long uid (x ∷ xs) = let rest = plain_long (uid + 1) xs in omega (arith, rest)

pub window_long : (uid : ℕ) (i : Insn) (before : List Rtx) (x : Rtx) (after : List Rtx) →
    length (window_by uid i before x after) ≡ length before + (length after + 1)
window_long uid i before x after =
    let whole = length-append (plain_insns uid before) (with_pattern i x ∷ plain_insns (uid + length before) after) in
    let front = plain_long uid before in
    let back = plain_long (uid + length before) after in
    omega (arith, whole, front, back)

module _ (forms : List Entry) (uid : ℕ) (i : Insn) (given : Given) (plan : Plan) where
  abbrev before : List Rtx
  before = insns_before given.operands plan.parts

  abbrev after : List Rtx
  after = insns_after given.operands plan.parts

  abbrev new_pattern : Rtx
  new_pattern = between given.pattern given.operands plan.parts given.insn

  pub is_between : (old front middle new : List Insn) (next end : ℕ) → AreMoved forms uid before old front next →
      middle ≡ front ++ with_pattern i new_pattern ∷ [] →
      AreMoved forms next after middle new end → IsBetween forms uid i given plan old new end
  is_between old front middle new next end first own last = record {
    matched = All-append (IsMatched forms) before after first.matched last.matched;
    stands =
        last.stand ∙ (ap (λ (n : ℕ). middle ++ plain_insns n after) first.free ∙
        (ap (λ (m : List Insn). m ++ plain_insns (uid + length before) after)
        (own ∙ ap (λ (m : List Insn). m ++ with_pattern i new_pattern ∷ []) first.stand) ∙
        (append_assoc (old ++ plain_insns uid before) (with_pattern i new_pattern ∷ []) (plain_insns (uid + length before) after) ∙
        append_assoc old (plain_insns uid before) (with_pattern i new_pattern ∷ plain_insns (uid + length before) after))));
    free = let here = last.free in let there = first.free in let long = window_long uid i before new_pattern after in
        omega (arith, here, there, long);
  }

  pub stuck_before : (e : ReloadRefusal) → RefusesAs e (AreStuck forms uid before) → RefusesAs e (AreStuck forms uid (moves_of given plan))
  stuck_before e r = refuses_map e (AreStuck forms uid before) (AreStuck forms uid (moves_of given plan)) (λ d is. record {
    before = is.before;
    insn = is.insn;
    stuck = record {
      behind = is.stuck.behind ++ after;
      moves_are = ap (λ (xs : List Rtx). xs ++ after) is.stuck.moves_are ∙ append_assoc is.before (is.insn ∷ is.stuck.behind) after;
      matched = is.stuck.matched;
      unmatched = is.stuck.unmatched;
    };
    refusal_is = is.refusal_is;
  }) r

  pub stuck_after : (old front : List Insn) (next : ℕ) (e : ReloadRefusal) → AreMoved forms uid before old front next →
      RefusesAs e (AreStuck forms next after) → RefusesAs e (AreStuck forms uid (moves_of given plan))
  stuck_after old front next e first r = refuses_map e (AreStuck forms next after) (AreStuck forms uid (moves_of given plan))
      (λ d is. record {
        before = before ++ is.before;
        insn = is.insn;
        stuck = record {
          behind = is.stuck.behind;
          moves_are = ap (λ (xs : List Rtx). before ++ xs) is.stuck.moves_are ∙ sym (append_assoc before is.before (is.insn ∷ is.stuck.behind));
          matched = All-append (IsMatched forms) before is.before first.matched is.stuck.matched;
          unmatched = is.stuck.unmatched;
        };
        refusal_is = is.refusal_is ∙ ap (λ (n : ℕ). refusal.Unmatched n is.insn)
            (let there = first.free in let long = length-append before is.before in omega (arith, there, long));
      }) r

  pub window_added : (xs ys : List Rtx) (x : Rtx) (old front middle new : List Insn) (next : ℕ) (r : Added) → xs ≡ before →
      x ≡ new_pattern → ys ≡ after → AreMoved forms uid xs old front next →
      middle ≡ front ++ with_pattern i x ∷ [] → AddsMoves forms next ys middle new r → AddsWindow forms uid i given plan old new r
  window_added xs ys x old front middle new next (Ok end) is_before is_between_them is_after first own is =
      is_between old front middle new next end (subst (λ (us : List Rtx). AreMoved forms uid us old front next) is_before first)
      (own ∙ ap (λ (y : Rtx). front ++ with_pattern i y ∷ []) is_between_them)
      (subst (λ (us : List Rtx). AreMoved forms next us middle new end) is_after is)
  window_added xs ys x old front middle new next (Err e) is_before is_between_them is_after first own r =
      stuck_after old front next e (subst (λ (us : List Rtx). AreMoved forms uid us old front next) is_before first)
      (subst (λ (us : List Rtx). RefusesAs e (AreStuck forms next us)) is_after r)

  pub window_refused : (xs : List Rtx) (e : ReloadRefusal) → xs ≡ before → RefusesAs e (AreStuck forms uid xs) →
      RefusesAs e (AreStuck forms uid (moves_of given plan))
  window_refused xs e is_before r = stuck_before e (subst (λ (us : List Rtx). RefusesAs e (AreStuck forms uid us)) is_before r)

-- ---- an instruction comes to one thing by what it comes to by another

pub adds_map : (P Q : InsnAnswer → Type 0) (uid : ℕ) (old new : List Insn) (r : Added) → ((a : InsnAnswer) → P a → Q a) →
    Adds P uid old new r → Adds Q uid old new r
adds_map P Q uid old new (Ok next) on is = record {
  window = is.window;
  comes = on (Ok is.window) is.comes;
  stands = is.stands;
  free = is.free;
}
adds_map P Q uid old new (Err e) on r = refuses_map e (λ d. P (Err d)) (λ d. Q (Err d)) (λ d is. on (Err d) is) r

-- ---- a chain

chain_both : (xs ys : List Insn) (answer : InsnAnswer) → chain_behind xs (chain_behind ys answer) ≡ chain_behind (xs ++ ys) answer
chain_both xs ys (Ok rest) = ap Ok (sym (append_assoc xs ys rest))
chain_both xs ys (Err e) = refl

module _ (forms : List Entry) (homes : List HomeOf) (layout : Layout) (uid : ℕ) (chain : List Insn) where
  -- what a chain comes to, by what the rest of it comes to where uids are free from another on
  abbrev pub Makes : List Insn → ℕ → List Insn → Type 0
  Makes insns next rest = (answer : InsnAnswer) → ChainReloads forms homes layout next rest answer →
      ChainReloads forms homes layout uid chain (chain_behind insns answer)

  no_insns : (answer : InsnAnswer) → answer ≡ chain_behind [] answer
  no_insns (Ok rest) = refl
  no_insns (Err e) = refl

  pub makes_start : Makes [] uid chain
  makes_start = λ answer more. subst (ChainReloads forms homes layout uid chain) (no_insns answer) more

  pub makes_on : (insns new rest : List Insn) (i : Insn) (next end : ℕ) → Makes insns next (i ∷ rest) →
      IsAdded (InsnReloads forms homes layout next i) next insns new end → Makes new end rest
  makes_on insns new rest i next end makes is = λ answer more.
      subst (λ (all : List Insn). ChainReloads forms homes layout uid chain (chain_behind all answer)) (sym is.stands)
      (subst (ChainReloads forms homes layout uid chain) (chain_both insns is.window answer)
      (makes (chain_behind is.window answer) (ChainReloads.goes_on next end i rest is.window answer is.comes is.free more)))

  pub makes_wrong : (insns rest : List Insn) (i : Insn) (next : ℕ) (e : ReloadRefusal) → Makes insns next (i ∷ rest) →
      RefusesAs e (λ d. InsnReloads forms homes layout next i (Err d)) →
      RefusesAs e (λ d. ChainReloads forms homes layout uid chain (Err d))
  makes_wrong insns rest i next e makes r =
      refuses_map e (λ d. InsnReloads forms homes layout next i (Err d)) (λ d. ChainReloads forms homes layout uid chain (Err d))
      (λ d is. makes (Err d) (ChainReloads.refused next i rest d is)) r

  pub makes_on_at : (k : ℕ) (insns new : List Insn) (i : Insn) (next end : ℕ) → k < length chain → i ≡ get_or chain k i →
      Makes insns next (drop k chain) →
      IsAdded (InsnReloads forms homes layout next i) next insns new end → Makes new end (drop (k + 1) chain)
  makes_on_at k insns new i next end within at makes is =
      makes_on insns new (drop (k + 1) chain) i next end (subst (Makes insns next) (dropped_at chain k i within at) makes) is

  pub makes_wrong_at : (k : ℕ) (insns : List Insn) (i : Insn) (next : ℕ) (e : ReloadRefusal) → k < length chain →
      i ≡ get_or chain k i → Makes insns next (drop k chain) →
      RefusesAs e (λ d. InsnReloads forms homes layout next i (Err d)) →
      RefusesAs e (λ d. ChainReloads forms homes layout uid chain (Err d))
  makes_wrong_at k insns i next e within at makes r =
      makes_wrong insns (drop (k + 1) chain) i next e (subst (Makes insns next) (dropped_at chain k i within at) makes) r

  pub makes_all : (k : ℕ) (insns : List Insn) (next : ℕ) → length chain ≤ k → Makes insns next (drop k chain) →
      ChainReloads forms homes layout uid chain (Ok insns)
  makes_all k insns next past makes =
      subst (λ (all : List Insn). ChainReloads forms homes layout uid chain (Ok all)) (append-nil insns)
      (subst (Makes insns next) (drop_all k chain past) makes (Ok []) (ChainReloads.none next))
