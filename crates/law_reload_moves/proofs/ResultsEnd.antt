-- Behind an instruction each result that is moved ends where it is to end, one after the other.
use Rattle.std.proofs.Common.{◌≡◌, ◌≢◌, ◌⊎◌, inl, inr, ℕ, zero, suc, eqb, if◌then◌else◌, Bool, true, false, List, [], ◌∷◌, ◌++◌, map, Option, Some, None, refl, sym, ap, subst, ◌∙◌, arith}
use Rattle.std.proofs.lemmas.Bool.Decides.{nat_tests}
use Rattle.std.proofs.lemmas.List.Concat.{flat_map-append}
use Rattle.std.specs.List.{flat_map}
use Rattle.std.specs.Prelude.{slice_get}
use Rattle.law_operands_fetched.specs.rtx_tree.declared.machine.SymbolAt.{SymbolAt}
use Rattle.law_operands_fetched.specs.rtx_tree.declared.memories.MemByte.{MemByte}
use Rattle.law_operands_fetched.specs.rtx_tree.declared.tree.Rtx.{Rtx}
use Rattle.law_operands_fetched.specs.rtl_step.Effect.{reg_after, regs_after, bytes_after, memory_after}
use Rattle.law_operands_fetched.specs.rtl_step.Regs.{Regs}
use Rattle.law_operands_fetched.specs.rtl_step.declared.effect.Effect.{Effect}
use Rattle.law_operands_fetched.specs.reload_operands.declared.operand.Operand.{Operand}
use Rattle.law_operands_fetched.specs.reload_moves.Moves.{out_store, out_moves}
use Rattle.law_operands_fetched.specs.reload_moves.Registers.{is_result}
use Rattle.law_operands_fetched.specs.reload_moves.declared.ask.Ask.{Ask}
use Rattle.law_operands_fetched.specs.reload_moves.declared.part.Part.{Part}
use Rattle.law_operands_fetched.specs.reload_choice.Insns.{insns_of, all_insns}
use Rattle.law_operands_fetched.specs.law_operands_replaced.Held.{Held, Holds}
use Rattle.law_operands_fetched.specs.law_operands_replaced.Spare.{is_spare, KnowsRest, KeepsRest}
use Rattle.law_operands_fetched.proofs.Endings.{EndsFrom, EndedNear, nothing, ends, near}
use Rattle.law_operands_fetched.proofs.law_operands_replaced.Ends.{IsOnRest, Ended}
use Rattle.law_operands_fetched.proofs.law_operands_replaced.Fetches.{IsFresh}
use Rattle.law_operands_fetched.proofs.law_operands_replaced.Keyed.{Keyed, effects_in, with_kept, kept_of, last_of, with_last, out_of, IsIn, AreDistinct}
use Rattle.law_reload_moves.proofs.ResultKeys.{result_places}
use Rattle.law_reload_moves.proofs.ResultsHeld.{last_cases}
use Rattle.law_operands_fetched.proofs.Window.{memory_both, regs_both}

-- ---- effects that are all some of others

abbrev pub Among : Effect → List Effect → Type 0
Among e [] = ⊥
Among e (o ∷ os) = (e ≡ o) ⊎ Among e os

abbrev pub AllAmong : List Effect → List Effect → Type 0
AllAmong [] es = Unit {0}
AllAmong (d ∷ ds) es = Among d es × AllAmong ds es

more_among : (ds es : List Effect) (e : Effect) → AllAmong ds es → AllAmong ds (e ∷ es)
more_among [] es e all = tt
more_among (d ∷ ds) es e all = (inr all.0, more_among ds es e all.1)

both_among : (ds os es : List Effect) → AllAmong ds es → AllAmong os es → AllAmong (ds ++ os) es
both_among [] os es all all' = all'
both_among (d ∷ ds) os es all all' = (all.0, both_among ds os es all.1 all')

-- what is kept is among them
pub kept_among : (xs : List Keyed) → AllAmong (kept_of xs) (effects_in xs)
kept_among [] = tt
kept_among (x ∷ xs) = by x.key (more_among (kept_of xs) (effects_in xs) x.effect (kept_among xs))
  where
    by : (key : Option ℕ) → AllAmong (kept_of xs) (x.effect ∷ effects_in xs) → AllAmong (with_kept key x.effect (kept_of xs)) (x.effect ∷ effects_in xs)
    by None rest = (inl refl, rest)
    by (Some k) rest = rest

-- and so is the last of an operand
pub last_among : (xs : List Keyed) (k : ℕ) (e : Effect) → last_of xs k ≡ Some e → Among e (effects_in xs)
last_among [] k e is = absurd (let no : ⊥ = cc in no)
last_among (x ∷ xs) k e is = elim (last_cases (last_of xs k) x.key k x.effect e is) [
  | inl later ↦ inr (last_among xs k e later)
  | inr here ↦ inl (sym here.1)
]

-- ---- effects besides those of a result

abbrev pub is_key : ℕ → Option ℕ → Bool
is_key k None = false
is_key k (Some j) = eqb j k

abbrev pub besides : ℕ → List Keyed → List Effect
besides k [] = []
besides k (x ∷ xs) = if is_key k x.key then besides k xs else x.effect ∷ besides k xs

-- they are some of all
pub besides_among : (k : ℕ) (xs : List Keyed) → AllAmong (besides k xs) (effects_in xs)
besides_among k [] = tt
besides_among k (x ∷ xs) = by (is_key k x.key) (more_among (besides k xs) (effects_in xs) x.effect (besides_among k xs))
  where
    by : (b : Bool) → AllAmong (besides k xs) (x.effect ∷ effects_in xs) → AllAmong (if b then besides k xs else x.effect ∷ besides k xs) (x.effect ∷ effects_in xs)
    by true rest = rest
    by false rest = (inl refl, rest)

-- what is kept is among them
pub kept_besides : (k : ℕ) (xs : List Keyed) → AllAmong (kept_of xs) (besides k xs)
kept_besides k [] = tt
kept_besides k (x ∷ xs) = by x.key (kept_besides k xs)
  where
    later : (b : Bool) → AllAmong (kept_of xs) (besides k xs) → AllAmong (kept_of xs) (if b then besides k xs else x.effect ∷ besides k xs)
    later true rest = rest
    later false rest = more_among (kept_of xs) (besides k xs) x.effect rest

    by : (key : Option ℕ) → AllAmong (kept_of xs) (besides k xs) →
        AllAmong (with_kept key x.effect (kept_of xs)) (if is_key k key then besides k xs else x.effect ∷ besides k xs)
    by None rest = (inl refl, more_among (kept_of xs) (besides k xs) x.effect rest)
    by (Some j) rest = later (eqb j k) rest

-- and so is the last of another result
pub last_besides : (xs : List Keyed) (j k : ℕ) (e : Effect) → j ≢ k → last_of xs j ≡ Some e → Among e (besides k xs)
last_besides [] j k e differ is = absurd (let no : ⊥ = cc in no)
last_besides (x ∷ xs) j k e differ is = elim (last_cases (last_of xs j) x.key j x.effect e is) [
  | inl found ↦ later (is_key k x.key) (last_besides xs j k e differ found)
  | inr here ↦
      let other : is_key k x.key ≡ false = ap (is_key k) here.0 ∙ (let e : eqb j k ≡ false = grind (arith, nat_tests, differ) in e) in
      subst (λ b. Among e (if b then besides k xs else x.effect ∷ besides k xs)) (sym other) (inl (sym here.1))
]
  where
    later : (b : Bool) → Among e (besides k xs) → Among e (if b then besides k xs else x.effect ∷ besides k xs)
    later true rest = rest
    later false rest = inr rest

one_through : (e : Effect) (ds es : List Effect) → AllAmong ds es → Among e ds → Among e es
one_through e [] es all among = absurd among
one_through e (d ∷ ds) es all (inl same) = subst (λ e. Among e es) (sym same) all.0
one_through e (d ∷ ds) es all (inr more) = one_through e ds es all.1 more

pub all_through : (cs ds es : List Effect) → AllAmong ds es → AllAmong cs ds → AllAmong cs es
all_through [] ds es all among = tt
all_through (e ∷ cs) ds es all among = (one_through e ds es all among.0, all_through cs ds es all among.1)

-- ---- states behind some effects

-- a state's registers and memory behind some of the effects
pub record Reached (es : List Effect) (regs : Regs) (m : List MemByte) (r0 : Regs) (n : List MemByte) : Type 0 where
  pub made : List Effect
  pub among : AllAmong made es
  pub regs_are : r0 ≡ regs_after made regs
  pub memory_is : n ≡ memory_after made m

-- some of others are some of all
pub reached_all : (k : ℕ) (xs : List Keyed) (regs : Regs) (m : List MemByte) (r0 : Regs) (n : List MemByte) → Reached (besides k xs) regs m r0 n →
    Reached (effects_in xs) regs m r0 n
reached_all k xs regs m r0 n r = record {
  made = r.made;
  among = all_through r.made (besides k xs) (effects_in xs) (besides_among k xs) r.among;
  regs_are = r.regs_are;
  memory_is = r.memory_is;
}

-- behind some effects that are of none of some results
pub record ReachedBefore (js : List ℕ) (xs : List Keyed) (regs : Regs) (m : List MemByte) (r0 : Regs) (n : List MemByte) : Type 0 where
  pub made : List Effect
  pub besides_each : (j : ℕ) → IsIn j js → AllAmong made (besides j xs)
  pub regs_are : r0 ≡ regs_after made regs
  pub memory_is : n ≡ memory_after made m

reached_first : (j : ℕ) (js : List ℕ) (xs : List Keyed) (regs : Regs) (m : List MemByte) (r0 : Regs) (n : List MemByte) → ReachedBefore (j ∷ js) xs regs m r0 n →
    Reached (besides j xs) regs m r0 n
reached_first j js xs regs m r0 n r = record {
  made = r.made;
  among = r.besides_each j (inl refl);
  regs_are = r.regs_are;
  memory_is = r.memory_is;
}

reached_more : (j : ℕ) (js : List ℕ) (xs : List Keyed) (regs : Regs) (m : List MemByte) (r0 : Regs) (n : List MemByte) (o : Effect) → (IsIn j js → ⊥) →
    last_of xs j ≡ Some o → ReachedBefore (j ∷ js) xs regs m r0 n → ReachedBefore js xs regs m (reg_after o r0) (bytes_after o n)
reached_more j js xs regs m r0 n o out last r = record {
  made = r.made ++ o ∷ [];
  besides_each = λ k inside. both_among r.made (o ∷ []) (besides k xs) (r.besides_each k (inr inside))
      (last_besides xs j k o (λ same. out (subst (λ k. IsIn k js) (sym same) inside)) last, tt);
  regs_are = ap (reg_after o) r.regs_are ∙ sym (regs_both r.made (o ∷ []) regs);
  memory_is = ap (bytes_after o) r.memory_is ∙ sym (memory_both r.made (o ∷ []) m);
}

module _ (symbols : List SymbolAt) (Told : Regs → List MemByte → Type 0)
    (spared : (r r' : Regs) (m : List MemByte) → KeepsRest r r' → Told r m → Told r' m) (operands : List Operand) (asks : List Ask)
    (keyed : List Keyed) (regs : Regs) (m : List MemByte) (hs : List Held) where
  -- behind effects besides those of a result
  abbrev pub ReachedBy : Part → Regs → List MemByte → Type 0
  ReachedBy p = Reached (besides p.place keyed) regs m

  abbrev Before : List Part → Regs → List MemByte → Type 0
  Before ps = ReachedBefore (result_places ps) keyed regs m

  abbrev pub code_of : Part → List Rtx
  code_of p = all_insns operands (out_store asks p)

  -- by an instruction alone
  abbrev pub EndsNear : Part → Effect → Type 0
  EndsNear p o = (r0 r : Regs) (n : List MemByte) → ReachedBy p r0 n → KnowsRest r0 r → Told r n → Holds r hs → EndedNear symbols Told spared (code_of p) r n o

  -- by one at a far base
  pub record EndsFar (p : Part) (o : Effect) : Type 0 where
    pub far : ℕ
    pub spare : is_spare far ≡ true
    pub fresh : IsFresh symbols [] far hs
    pub one : (r0 r : Regs) (n : List MemByte) → ReachedBy p r0 n → KnowsRest r0 r → Told r n → Holds r hs → Ended symbols Told spared (code_of p) r n o far

  pub record EndsAt (p : Part) : Type 0 where
    pub effect : Effect
    pub last : last_of keyed p.place ≡ Some effect
    pub rest : IsOnRest effect
    pub code : EndsNear p effect ⊎ EndsFar p effect

  one_end : (p : Part) (e : EndsAt p) (os : List Effect) (more : List Rtx) (r0 : Regs) (n : List MemByte) → ReachedBy p r0 n →
      EndsFrom symbols Told spared hs (reg_after e.effect r0) (bytes_after e.effect n) os more → EndsFrom symbols Told spared hs r0 n (e.effect ∷ os) (code_of p ++ more)
  one_end p e os more r0 n reached later = elim e.code [
    | inl one ↦ near r0 n e.effect os (code_of p) more e.rest (λ r knows told holds. one r0 r n reached knows told holds) later
    | inr f ↦ ends r0 n e.effect os (code_of p) more f.far f.spare f.fresh e.rest (λ r knows told holds. f.one r0 r n reached knows told holds) later
  ]

  pub results_end : (ps : List Part) → ((i : ℕ) (p : Part) → slice_get ps i ≡ Some p → is_result p ≡ true → EndsAt p) → AreDistinct (result_places ps) →
      (r0 : Regs) (n : List MemByte) → Before ps r0 n →
      EndsFrom symbols Told spared hs r0 n (out_of keyed (result_places ps)) (all_insns operands (flat_map (out_moves asks) ps))
  results_end [] each distinct r0 n reached = nothing r0 n
  results_end (p ∷ ps) each distinct r0 n reached = by (is_result p) refl distinct reached
      (λ distinct r0 n reached. results_end ps (λ i q at. each (suc i) q at) distinct r0 n reached)
    where
      by : (b : Bool) → is_result p ≡ b → AreDistinct (if b then p.place ∷ result_places ps else result_places ps) →
          ReachedBefore (if b then p.place ∷ result_places ps else result_places ps) keyed regs m r0 n →
          (AreDistinct (result_places ps) → (r0 : Regs) (n : List MemByte) → Before ps r0 n →
          EndsFrom symbols Told spared hs r0 n (out_of keyed (result_places ps)) (all_insns operands (flat_map (out_moves asks) ps))) →
          EndsFrom symbols Told spared hs r0 n (out_of keyed (result_places (p ∷ ps))) (all_insns operands (flat_map (out_moves asks) (p ∷ ps)))
      by true is distinct reached rest =
          let e = each 0 p refl is in
          let later = rest distinct.1 (reg_after e.effect r0) (bytes_after e.effect n)
          (reached_more p.place (result_places ps) keyed regs m r0 n e.effect distinct.0 e.last reached) in
          subst (λ b. EndsFrom symbols Told spared hs r0 n (out_of keyed (if b then p.place ∷ result_places ps else result_places ps))
          (all_insns operands ((if b then out_store asks p else []) ++ flat_map (out_moves asks) ps))) (sym is)
          (subst (λ o. EndsFrom symbols Told spared hs r0 n (with_last o (out_of keyed (result_places ps)))
          (all_insns operands (out_store asks p ++ flat_map (out_moves asks) ps))) (sym e.last)
          (subst (EndsFrom symbols Told spared hs r0 n (e.effect ∷ out_of keyed (result_places ps)))
          (sym (flat_map-append (insns_of operands) (out_store asks p) (flat_map (out_moves asks) ps)))
          (one_end p e (out_of keyed (result_places ps)) (all_insns operands (flat_map (out_moves asks) ps)) r0 n
          (reached_first p.place (result_places ps) keyed regs m r0 n reached) later)))
      by false is distinct reached rest =
          subst (λ b. EndsFrom symbols Told spared hs r0 n (out_of keyed (if b then p.place ∷ result_places ps else result_places ps))
          (all_insns operands ((if b then out_store asks p else []) ++ flat_map (out_moves asks) ps))) (sym is) (rest distinct r0 n reached)
