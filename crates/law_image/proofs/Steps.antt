-- Words that are fetched one after the other.
use Rattle.std.proofs.Common.{◌≡◌, ℕ, suc, ◌+◌, ◌-◌, ◌*◌, ◌/◌, ◌%◌, ◌<◌, ◌==◌, ◌&&◌, nat_le, Bool, true, false, if◌then◌else◌, List, [], ◌∷◌, ◌++◌, length, map, Some, None, option_map, refl, sym, ◌∙◌, ap, subst, arith, append_assoc, length-append}
use Rattle.std.specs.Prelude.{slice_get, option_and_then}
use Rattle.std.specs.Cmp.{unsigned_Decides}
use Rattle.std.proofs.lemmas.Bool.{false≢true}
use Rattle.std.proofs.lemmas.Bool.Decides.{nat_tests}
use Rattle.std.proofs.lemmas.Option.{slice_get-map}
use Rattle.rtx_tree.specs.declared.machine.RangeAt.{RangeAt}
use Rattle.rtx_tree.specs.declared.machine.World.{World}
use Rattle.rv_line.specs.declared.state.RvState.{RvState}
use Rattle.rv_line.specs.declared.state.LineEnd.{LineEnd}
use Rattle.rv_line.specs.declared.state.LineEnd.TheVariants.{Next, Jumped, Called, Returned, Stuck}
use Rattle.rv_text.proofs.Numbers.{both_true}
use Rattle.rv_word.specs.Word.{encode, decode, FitsBase}
use Rattle.rv_word.specs.Step.{step_word}
use Rattle.rv_word.specs.Sequence.{straight, behind}
use Rattle.rv_word.specs.declared.base.Base.{Base}
use Rattle.rv_word.proofs.Inverse.{decode_encode}
use Rattle.words_run.specs.Run.{Fetching, Turn, Goes, turn, turn_at, after_word, go_on, run_from, fetched}

-- ---- so many words lead on, or end the run

pub record Does (words : List ℕ) (from : ℕ) (world : World) (ranges : List RangeAt) (t : Fetching) (turned : Turn) : Type 0 where
  pub count : ℕ
  pub some : 0 < count
  pub is : (m n : ℕ) → n ≡ count + m → run_from words from world ranges n t ≡ go_on turned (run_from words from world ranges m)

module _ (words : List ℕ) (from : ℕ) (world : World) (ranges : List RangeAt) where
  pub one : (t : Fetching) (turned : Turn) → turn words from world ranges t ≡ turned → Does words from world ranges t turned
  one t turned turns = record {
    count = 1;
    some = omega arith;
    is = λ m n n_is.
        let next : n ≡ suc m = omega (arith, n_is) in
        ap (λ i. run_from words from world ranges i t) next ∙ ap (λ x. go_on x (run_from words from world ranges m)) turns;
  }

  pub then_does : (t u : Fetching) (turned : Turn) → turn words from world ranges t ≡ Goes u → Does words from world ranges u turned → Does words from world ranges t turned
  then_does t u turned turns does = record {
    count = does.count + 1;
    some = omega arith;
    is = λ m n n_is.
        let next : n ≡ suc (does.count + m) = omega (arith, n_is) in
        ap (λ i. run_from words from world ranges i t) next
        ∙ (ap (λ x. go_on x (run_from words from world ranges (does.count + m))) turns ∙ does.is m (does.count + m) refl);
  }

-- ---- a word is fetched

pub get_behind : {X : Type 0} (front back : List X) (x : X) → slice_get (front ++ x ∷ back) (length front) ≡ Some x
get_behind [] back x = refl
get_behind (y ∷ front) back x = get_behind front back x

pub fetched_is : (bases : List Base) (from i : ℕ) (b : Base) → slice_get bases i ≡ Some b → FitsBase b → fetched (map encode bases) from (from + 4 * i) ≡ Some b
fetched_is bases from i b here fits =
    let pc : ℕ = from + 4 * i in
    let inside : nat_le from pc ≡ true = grind (arith, nat_tests) in
    let whole : (pc - from) % 4 ≡ 0 = omega arith in
    let test : (nat_le from pc && ((pc - from) % 4 == 0)) ≡ true = both_true _ _ inside ((unsigned_Decides ((pc - from) % 4) 0).1 whole) in
    let at : (pc - from) / 4 ≡ i = omega arith in
    let words : List ℕ = map encode bases in
    ap (λ t. if t then option_and_then decode (slice_get words ((pc - from) / 4)) else None) test
    ∙ (ap (λ k. option_and_then decode (slice_get words k)) at
    ∙ (ap (λ o. option_and_then decode o) (slice_get-map encode bases i ∙ ap (option_map encode) here) ∙ decode_encode b fits))

-- each of some instructions fits its format
abbrev pub AllFit : List Base → Type 0
AllFit [] = Unit {0}
AllFit (b ∷ bs) = FitsBase b × AllFit bs

abbrev goes_on : LineEnd → Bool
goes_on Next = true
goes_on Jumped = false
goes_on (Called target) = false
goes_on Returned = false
goes_on Stuck = false

-- the same place and machine but for the program counter and the machine
abbrev pub at_pc : Fetching → ℕ → RvState → Fetching
at_pc t pc machine = record t { pc = pc; machine = machine }

module _ (bases : List Base) (from : ℕ) (world : World) (ranges : List RangeAt) where
  pub turn_is : (front back : List Base) (b : Base) (t : Fetching) (done : LineEnd × RvState) → bases ≡ front ++ b ∷ back → t.pc ≡ from + 4 * length front → FitsBase b → step_word world b t.machine ≡ done →
      turn (map encode bases) from world ranges t ≡ after_word done.0 ranges b (record t { machine = done.1 })
  turn_is front back b t done split pc_is fits steps =
      let here : slice_get bases (length front) ≡ Some b = ap (λ bs. slice_get bs (length front)) split ∙ get_behind front back b in
      let found : fetched (map encode bases) from t.pc ≡ Some b = ap (fetched (map encode bases) from) pc_is ∙ fetched_is bases from (length front) b here fits in
      ap (λ o. turn_at o world ranges t) found ∙ ap (λ (d : LineEnd × RvState). after_word d.0 ranges b (record t { machine = d.1 })) steps

  pub last_word : (b : Base) (m : RvState) (e : LineEnd) (s : RvState) → behind e s (λ x. (Next, x)) ≡ (e, s)
  last_word b m Next s = refl
  last_word b m Jumped s = refl
  last_word b m (Called target) s = refl
  last_word b m Returned s = refl
  last_word b m Stuck s = refl

  -- words that lead on one by one
  pub straight_does : (bs front back : List Base) (b : Base) (t : Fetching) (after : RvState) → bases ≡ front ++ b ∷ (bs ++ back) → t.pc ≡ from + 4 * length front → AllFit (b ∷ bs) → straight world (b ∷ bs) t.machine ≡ (Next, after) →
      Does (map encode bases) from world ranges t (Goes (at_pc t (from + 4 * (length front + length (b ∷ bs))) after))
  straight_does [] front back b t after split pc_is fits does =
      let steps : step_word world b t.machine ≡ (Next, after) = sym (last_word b t.machine (step_word world b t.machine).0 (step_word world b t.machine).1) ∙ does in
      let next : t.pc + 4 ≡ from + 4 * (length front + length (b ∷ [])) = omega (arith, pc_is) in
      one (map encode bases) from world ranges t (Goes (at_pc t (from + 4 * (length front + length (b ∷ []))) after)) (turn_is front back b t (Next, after) split pc_is fits.0 steps ∙ ap (λ pc. Goes (at_pc t pc after)) next)
  straight_does (c ∷ bs) front back b t after split pc_is fits does =
      let split_more : bases ≡ (front ++ b ∷ []) ++ c ∷ (bs ++ back) = split ∙ sym (append_assoc front (b ∷ []) (c ∷ (bs ++ back))) in
      let longer : length (front ++ b ∷ []) ≡ length front + 1 = length-append front (b ∷ []) in
      let pc_more : t.pc + 4 ≡ from + 4 * length (front ++ b ∷ []) = omega (arith, pc_is, longer) in
      let end : from + 4 * (length (front ++ b ∷ []) + length (c ∷ bs)) ≡ from + 4 * (length front + length (b ∷ c ∷ bs)) = omega (arith, longer) in
      by (step_word world b t.machine).0 (step_word world b t.machine).1 refl does
      (λ s rest. subst (λ pc. Does (map encode bases) from world ranges (at_pc t (t.pc + 4) s) (Goes (at_pc t pc after))) end (straight_does bs (front ++ b ∷ []) back c (at_pc t (t.pc + 4) s) after split_more pc_more fits.1 rest))
    where
      goal : ℕ
      goal = from + 4 * (length front + length (b ∷ c ∷ bs))

      by : (e : LineEnd) (s : RvState) → step_word world b t.machine ≡ (e, s) → behind e s (straight world (c ∷ bs)) ≡ (Next, after) → ((s : RvState) → straight world (c ∷ bs) s ≡ (Next, after) → Does (map encode bases) from world ranges (at_pc t (t.pc + 4) s) (Goes (at_pc t goal after))) → Does (map encode bases) from world ranges t (Goes (at_pc t goal after))
      by Next s steps rest left =
          then_does (map encode bases) from world ranges t (at_pc t (t.pc + 4) s) (Goes (at_pc t goal after)) (turn_is front (c ∷ (bs ++ back)) b t (Next, s) split pc_is fits.0 steps) (left s rest)
      by Jumped s steps rest left = absurd (false≢true (ap (λ (d : LineEnd × RvState). goes_on d.0) rest))
      by (Called target) s steps rest left = absurd (false≢true (ap (λ (d : LineEnd × RvState). goes_on d.0) rest))
      by Returned s steps rest left = absurd (false≢true (ap (λ (d : LineEnd × RvState). goes_on d.0) rest))
      by Stuck s steps rest left = absurd (false≢true (ap (λ (d : LineEnd × RvState). goes_on d.0) rest))
