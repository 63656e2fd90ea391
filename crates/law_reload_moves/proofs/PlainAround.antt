-- A plain instruction for which a plan is chosen, with its moves before it and behind it, where its results may be made behind the other effects.
use Rattle.std.proofs.Common.{◌≡◌, ◌≢◌, ◌⊎◌, inl, inr, ℕ, ◌&&◌, if◌then◌else◌, Bool, true, false, List, [], ◌∷◌, ◌++◌, map, Option, Some, None, refl, sym, ap, subst, ◌∙◌}
use Rattle.std.proofs.lemmas.Bool.{or_left, or_right}
use Rattle.std.specs.List.{flat_map, list_any}
use Rattle.std.specs.Prelude.{ℤ, slice_get}
use Rattle.law_operands_fetched.specs.rtx_tree.declared.function.Kind.{Kind}
use Rattle.law_operands_fetched.specs.rtx_tree.declared.function.Kind.TheVariants as kinds
use Rattle.law_operands_fetched.specs.rtx_tree.declared.machine.SymbolAt.{SymbolAt}
use Rattle.law_operands_fetched.specs.rtx_tree.declared.memories.MemByte.{MemByte}
use Rattle.law_operands_fetched.specs.rtx_tree.declared.tree.Rtx.{Rtx}
use Rattle.law_operands_fetched.proofs.rtl_func.AllPass.{all_pass}
use Rattle.law_operands_fetched.specs.rtl_step.Effect.{effects_of, regs_after, memory_after}
use Rattle.law_operands_fetched.specs.rtl_step.Regs.{Regs}
use Rattle.law_operands_fetched.specs.rtl_step.declared.effect.Effect.{Effect}
use Rattle.law_operands_fetched.specs.sym_insns.Shape.{all_natural}
use Rattle.law_operands_fetched.specs.md_constr.Inputs as inputs
use Rattle.law_operands_fetched.specs.md_match.Pattern.{Ops}
use Rattle.law_operands_fetched.specs.assign.declared.home.HomeOf.{HomeOf}
use Rattle.law_operands_fetched.specs.assign.declared.places.Layout.{Layout}
use Rattle.law_operands_fetched.specs.reload_homes.Homes.{homed}
use Rattle.law_operands_fetched.specs.reload_operands.declared.operand.Operand.{Operand}
use Rattle.law_operands_fetched.specs.reload_moves.Moves.{out_store, out_moves}
use Rattle.law_operands_fetched.specs.reload_moves.Registers.{asks_of, is_result}
use Rattle.law_operands_fetched.specs.reload_moves.declared.ask.Ask.{Ask}
use Rattle.law_operands_fetched.specs.reload_moves.declared.moves.Move.{Move}
use Rattle.law_operands_fetched.specs.reload_moves.declared.part.Part.{Part}
use Rattle.law_operands_fetched.specs.reload_choice.Insns.{all_insns, insns_before, insns_after}
use Rattle.law_operands_fetched.specs.reload_choice.declared.given.Plan.{Plan}
use Rattle.law_operands_fetched.specs.law_operands_replaced.Held.{Held, Holds}
use Rattle.law_operands_fetched.specs.law_operands_replaced.Spare.{NamesNoSpare, KeepsRest}
use Rattle.law_reload_moves.proofs.Chosen.{given}
use Rattle.law_operands_fetched.proofs.law_operands_replaced.EffectsThere.{effects_there}
use Rattle.law_operands_fetched.proofs.law_operands_replaced.ElementTurns.{key_of}
use Rattle.law_operands_fetched.proofs.Endings.{EndsFrom, IsAroundFrom, nothing}
use Rattle.law_operands_fetched.proofs.law_operands_replaced.Ends.{AreSpare}
use Rattle.law_operands_fetched.proofs.law_operands_replaced.Delays.{Delays}
use Rattle.law_operands_fetched.proofs.Fetching.{Fetching}
use Rattle.law_reload_moves.proofs.GivenNews.{IsResultAt, result_at}
use Rattle.law_operands_fetched.proofs.law_operands_replaced.Keyed.{Keyed, effects_in, kept_of, out_of, IsIn, MayPassBy, AreOrderly, keyed_delays}
use Rattle.law_operands_fetched.proofs.law_operands_replaced.Keying.{with_keys, keyed_instead}
use Rattle.law_operands_fetched.proofs.law_operands_replaced.NewTrees.{is_whole}
use Rattle.law_reload_moves.proofs.PlainInner.{g, x, y, before, other, Effects, plain_keyed}
use Rattle.law_reload_moves.proofs.ResultKeys.{result_places, results_distinct, result_in, keyed_result}
use Rattle.law_reload_moves.proofs.TakenThere.{IsAt}
use Rattle.law_operands_fetched.proofs.Window.{AllStay}
use Rattle.law_operands_fetched.proofs.law_operands_replaced.WholeTurns.{AllNone}

-- ---- where nothing is moved behind

none_by : (operands : List Operand) (asks : List Ask) (ps : List Part) → result_places ps ≡ [] → all_insns operands (flat_map (out_moves asks) ps) ≡ []
none_by operands asks [] is = refl
none_by operands asks (p ∷ ps) is = by (is_result p) refl is (none_by operands asks ps)
  where
    by : (b : Bool) → is_result p ≡ b → (if b then p.place ∷ result_places ps else result_places ps) ≡ [] →
        (result_places ps ≡ [] → all_insns operands (flat_map (out_moves asks) ps) ≡ []) → all_insns operands (flat_map (out_moves asks) (p ∷ ps)) ≡ []
    by true yes' is rest = absurd (let no : ⊥ = cc in no)
    by false no' is rest = ap (λ (ms : List Move). all_insns operands (ms ++ flat_map (out_moves asks) ps)) (ap (λ b. if b then out_store asks p else []) no') ∙ rest is

pub none_behind : (operands : List Operand) (parts : List Part) → result_places parts ≡ [] → insns_after operands parts ≡ []
none_behind operands parts is = none_by operands (asks_of parts) parts is

-- ---- keys

-- each key is that of a result
abbrev pub AreKeys : Plan → List (Option ℕ) → Type 0
AreKeys plan [] = Unit {0}
AreKeys plan (key ∷ keys) = ((j : ℕ) → key ≡ Some j → IsResultAt plan j) × AreKeys plan keys

pub none_keys : (plan : Plan) (keys : List (Option ℕ)) → AllNone keys → AreKeys plan keys
none_keys plan [] none = tt
none_keys plan (key ∷ keys) none = (
  (λ j is. absurd (let e : ◌≡◌ {A = Option ℕ} None (Some j) = sym none.0 ∙ is in let no : ⊥ = cc in no)),
  none_keys plan keys none.1,
)

pub mapped_keys : (plan : Plan) (f : Rtx → Option ℕ) (all qs : List Rtx) → ((q : Rtx) → ((test : Rtx → Bool) → test q ≡ true → list_any test qs ≡ true) → (j : ℕ) → f q ≡ Some j → IsResultAt plan j) →
    AreKeys plan (map f qs)
mapped_keys plan f all [] each = tt
mapped_keys plan f all (q ∷ qs) each = (
  each q (λ test is. or_left (test q) _ is),
  mapped_keys plan f all qs (λ p among. each p (λ test is. or_right (test q) _ (among test is))),
)

-- where there are no results none is delayed
pub none_orderly : (plan : Plan) (keys : List (Option ℕ)) (es : List Effect) → ((j : ℕ) → IsResultAt plan j → ⊥) → AreKeys plan keys → AreOrderly [] (with_keys keys es)
none_orderly plan [] es none are = tt
none_orderly plan (key ∷ keys) [] none are = tt
none_orderly plan (key ∷ keys) (e ∷ es) none are = (by key are.0, none_orderly plan keys es none are.1)
  where
    by : (key : Option ℕ) → ((j : ℕ) → key ≡ Some j → IsResultAt plan j) → MayPassBy [] key e (with_keys keys es)
    by None each = tt
    by (Some j) each = absurd (none j (each j refl))

module _ (homes : List HomeOf) (layout : Layout) (kind : Kind) (w pattern : Rtx) (found : Ops) (plan : Plan)
    (symbols : List SymbolAt) (regs : Regs) (m : List MemByte) (sp : ℕ)
    (f : Fetching symbols regs m sp (given homes layout kind w pattern found plan) plan)
    (at : IsAt homes layout found pattern w (homed homes layout w))
    (plain : kind ≡ kinds.Plain) (natural : all_natural (homed homes layout w) ≡ true) (quiet : NamesNoSpare (homed homes layout w))
    (whole : all_pass is_whole (homed homes layout w) ≡ true)
    (Told : Regs → List MemByte → Type 0) (spared : (r r' : Regs) (m : List MemByte) → KeepsRest r r' → Told r m → Told r' m) where
  module _ (es : List Effect) (does : effects_of symbols regs m (homed homes layout w) ≡ Some es) where
    abbrev k' : Effects homes layout kind w pattern found plan symbols regs m sp f at es
    k' = plain_keyed homes layout kind w pattern found plan symbols regs m sp f at plain natural quiet whole es does

    -- the effects, each with the place of its result
    abbrev pub keyed : List Keyed
    keyed = with_keys k'.keys es

    pub keyed_same : effects_in keyed ≡ es
    keyed_same = k'.keyed.same

    abbrev pub places : List ℕ
    places = result_places plan.parts

    pub are_keys : AreKeys plan k'.keys
    are_keys = by k'.which
      where
        by : (k'.keys ≡ map (key_of (result_at homes layout kind w pattern found plan)) (inputs.effects_of pattern)) ⊎ AllNone k'.keys → AreKeys plan k'.keys
        by (inl same) = subst (AreKeys plan) (sym same)
            (mapped_keys plan (key_of (result_at homes layout kind w pattern found plan)) (inputs.effects_of pattern) (inputs.effects_of pattern)
            (λ q among j is. keyed_result homes layout kind w pattern found plan f.sound q j among is))
        by (inr none) = none_keys plan k'.keys none

    -- What is asked of its results: they may be delayed, what is told stays true behind the others, and each ends where it is to end.
    pub record MayEnd : Type 0 where
      pub orderly : AreOrderly places keyed
      pub stay : AllStay symbols Told spared (kept_of keyed)
      pub through : List Held
      pub spare : AreSpare through
      pub holds : Holds (regs_after k'.keyed.effects (other homes layout kind w pattern found plan symbols regs m sp f at)) through
      pub ends_are : EndsFrom symbols Told spared through (regs_after (kept_of keyed) regs) (memory_after (kept_of keyed) m) (out_of keyed places)
          (insns_after (g homes layout kind w pattern found plan symbols regs m sp f at).operands plan.parts)

    pub around : MayEnd → IsAroundFrom symbols Told spared regs m es
        (insns_before (g homes layout kind w pattern found plan symbols regs m sp f at).operands plan.parts)
        (y homes layout kind w pattern found plan symbols regs m sp f at)
        (insns_after (g homes layout kind w pattern found plan symbols regs m sp f at).operands plan.parts)
    around may = record {
      held = (before homes layout kind w pattern found plan symbols regs m sp f at).held;
      fetched = (before homes layout kind w pattern found plan symbols regs m sp f at).fetched;
      done_there = k'.keyed.effects;
      does = k'.keyed.effects_are;
      kept = kept_of keyed;
      out = out_of keyed places;
      delayed = subst (λ es. Delays es (kept_of keyed) (out_of keyed places)) k'.keyed.same
          (keyed_delays places keyed (results_distinct plan.parts f.sound.in_order) may.orderly);
      replaced = keyed_instead symbols regs (other homes layout kind w pattern found plan symbols regs m sp f at) m _ _ _ _ keyed k'.keyed.effects k'.keyed.keyed;
      there = effects_there symbols regs m (homed homes layout w) es does;
      stay = may.stay;
      through = may.through;
      spare = may.spare;
      holds = may.holds;
      ends_are = may.ends_are;
    }

    -- where nothing is moved behind it
    pub none_end : places ≡ [] → AllStay symbols Told spared (kept_of keyed) → MayEnd
    none_end none stay = record {
      orderly = subst (λ js. AreOrderly js keyed) (sym none)
          (none_orderly plan k'.keys es (λ j r. subst (IsIn j) none (result_in homes layout kind w pattern found plan f.sound j r)) are_keys);
      stay = stay;
      through = [];
      spare = tt;
      holds = tt;
      ends_are = subst (λ (js : List ℕ). EndsFrom symbols Told spared [] (regs_after (kept_of keyed) regs) (memory_after (kept_of keyed) m) (out_of keyed js)
          (insns_after (g homes layout kind w pattern found plan symbols regs m sp f at).operands plan.parts)) (sym none)
          (subst (EndsFrom symbols Told spared [] (regs_after (kept_of keyed) regs) (memory_after (kept_of keyed) m) [])
          (sym (none_behind (g homes layout kind w pattern found plan symbols regs m sp f at).operands plan.parts none))
          (nothing (regs_after (kept_of keyed) regs) (memory_after (kept_of keyed) m)));
    }
