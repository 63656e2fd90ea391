-- An instruction that goes on to the next, with homes put in, has effects wherever the instruction has, and behind it the states stand
-- beside each other.
use Rattle.std.proofs.Common.{◌≡◌, ℕ, ◌||◌, ◌⊎◌, inl, inr, Bool, true, false, List, [], ◌∷◌, map, Option, Some, None, refl, sym, ap, subst, ◌∙◌, eq-eqb, ◌&&◌}
use Rattle.std.proofs.lemmas.Bool.{false≢true, and_parts, or_cases, or_left, or_right, false_from_ne_true}
use Rattle.std.specs.List.{AllByRecursion, list_all, list_any}
use Rattle.bits64.specs.Words.{bytes_of}
use Rattle.std.specs.Prelude.{is_some, unwrap_or, option_and_then, option_map, slice_get}
use Rattle.bits64.specs.declared.Width.{Width}
use Rattle.rtx_tree.specs.Tree.{head_of, kids_of, tree_of, mentions_reg}
use Rattle.rtx_tree.specs.declared.code.Code.{Code}
use Rattle.rtx_tree.specs.declared.code.Code.TheVariants.{Parallel}
use Rattle.rtx_tree.specs.declared.function.Insn.{Insn}
use Rattle.rtx_tree.specs.declared.function.Kind.TheVariants as kind
use Rattle.rtx_tree.specs.Registers.{is_call_used}
use Rattle.rtx_tree.specs.declared.machine.SymbolAt.{SymbolAt}
use Rattle.rtx_tree.specs.declared.memories.MemByte.{MemByte}
use Rattle.rtx_tree.specs.declared.tree.Rtx.{Rtx, out-Rtx, out-roll-Rtx}
use Rattle.rtx_tree.specs.declared.tree.Rtx.TheOpen.{Rtx-F}
use Rattle.run_memory.specs.RunMemory.{load, with_number}
use Rattle.run_memory.proofs.Laws.{has-load_stored}
use Rattle.rtl_step.specs.Effect as step
use Rattle.rtl_step.specs.Effect.{effect_by, effect_of, all_effects, regs_after, memory_after, bytes_after}
use Rattle.rtl_step.specs.Regs.{Regs}
use Rattle.rtl_step.specs.declared.effect.Effect.{Effect}
use Rattle.rtl_step.specs.declared.effect.Effect.TheVariants.{Nothing, Sets, Unsets, Stores}
use Rattle.rtl_step.specs.declared.step.State.{State}
use Rattle.rtl_func.specs.Paths.{leads}
use Rattle.reg_uses.specs.Effects.{effect_uses, effect_defines, effects_by, effects_of, pattern_uses, pattern_defines}
use Rattle.reg_uses.specs.Uses.{insn_uses, insn_defines, is_call_kind}
use Rattle.live.specs.Live.{AtUse, Passing, IsLiveAfter}
use Rattle.law_window_lines.proofs.Small.{or_none}
use Rattle.law_homes.specs.Placed.{all_sized, placed, BecomesInHomes, AllInHomes}
use Rattle.law_homes.specs.Placed as effects
use Rattle.law_homes.proofs.After.{Both, after, Holds, IsIn, changes_it, changes, later, sets_step, unsets_step, leaves_step, fills_step, stores_step}
use Rattle.law_homes.proofs.Becoming.{changed_by, is_over, over, Fits, Becomes, element_becomes}
use Rattle.law_homes.proofs.Trees.{sized_kids, mentions_kid}
use Rattle.law_homes.proofs.Placing.{Machines, AreHomed}
use Rattle.law_homes.proofs.Setting.{Setting, IsNamed, named_of, IsCounted, base, StandsIn, machines, are_homed}

-- ---- the effects of one element

single : (symbols : List SymbolAt) (regs : Regs) (memory : List MemByte) (x : Rtx) (e : Effect) → effect_of symbols regs memory x ≡ Some e →
    step.effects_of symbols regs memory x ≡ Some (e ∷ [])
single symbols regs memory x e is = by (out-Rtx x).code is
  where
    by : (c : Code) → effect_by c (out-Rtx x).kids symbols regs memory ≡ Some e → step.effects_by c x symbols regs memory ≡ Some (e ∷ [])
    by Parallel has = absurd (let no : ⊥ = cc in no)
    by _ has = ap (option_map (λ (e : Effect). e ∷ [])) is

one_of : (o : Option Effect) (es : List Effect) → option_map (λ (e : Effect). e ∷ []) o ≡ Some es → (e : Effect) × (o ≡ Some e) × (e ∷ [] ≡ es)
one_of None es is = absurd (let no : ⊥ = cc in no)
one_of (Some e) es is = (e, refl, let same : e ∷ [] ≡ es = cc in same)

front_of : (o : Option Effect) (rest : Option (List Effect)) (es : List Effect) →
    option_and_then (λ e. option_map (λ es. e ∷ es) rest) o ≡ Some es →
    (e : Effect) × (more : List Effect) × (o ≡ Some e) × (rest ≡ Some more) × (e ∷ more ≡ es)
front_of None rest es is = absurd (let no : ⊥ = cc in no)
front_of (Some e) None es is = absurd (let no : ⊥ = cc in no)
front_of (Some e) (Some more) es is = (e, more, refl, refl, let same : e ∷ more ≡ es = cc in same)

-- ---- an instruction at a place

module _ (c : Setting) (place : ℕ) (i : Insn) (at : slice_get c.f.insns place ≡ Some i) where
  -- an effect and what it becomes
  pub record Made (memory : List MemByte) (e e' : Effect) : Type 0 where
    pub becomes : BecomesInHomes c.homes c.layout (base c) e e'
    pub named : (reg : ℕ) → changed_by e ≡ Some reg → IsNamed reg
    pub defines : (reg : ℕ) → changed_by e ≡ Some reg → insn_defines i reg ≡ true
    pub mentioned : (reg : ℕ) → changed_by e ≡ Some reg → mentions_reg reg i.pattern ≡ true
    pub stored : (w : Width) (at value : ℕ) → e ≡ Stores w at value → is_some (load w memory at) ≡ true

  pub data AllMade (memory : List MemByte) : List Effect → List Effect → Type 0 where
    made_none : AllMade memory [] []
    made_more : (e e' : Effect) (es es' : List Effect) → Made memory e e' → AllMade memory es es' → AllMade memory (e ∷ es) (e' ∷ es')

  -- loads that were there are there
  abbrev StillThere : List MemByte → List MemByte → Type 0
  StillThere memory now = (w : Width) (at : ℕ) → is_some (load w memory at) ≡ true → is_some (load w now at) ≡ true

  still_after : (e : Effect) (memory now : List MemByte) → StillThere memory now → StillThere memory (bytes_after e now)
  still_after (Sets reg known) memory now still = still
  still_after (Unsets reg) memory now still = still
  still_after Nothing memory now still = still
  still_after (Stores w at value) memory now still = λ v q there. by (load w now at) v q (still v q there)
    where
      by : (o : Option ℕ) (v : Width) (q : ℕ) → is_some (load v now q) ≡ true →
          is_some (load v (unwrap_or (option_map (λ _. with_number now at (bytes_of w) value) o) now) q) ≡ true
      by None v q there = there
      by (Some old) v q there = has-load_stored w v now at value q ∙ there

  one_step : (memory : List MemByte) (e e' : Effect) (waits : ℕ → Bool) (b : Both) → StillThere memory b.memory →
      BecomesInHomes c.homes c.layout (base c) e e' → Made memory e e' → Holds c place (λ r. changes e r || waits r) b → Holds c place waits (after e e' b)
  one_step memory _ _ waits b still (effects.sets reg hard known home) made h =
      sets_step c place i at waits reg hard known b home (made.named reg refl) (made.defines reg refl) h
  one_step memory _ _ waits b still (effects.fills reg w value home) made h = fills_step c place i at waits reg w value b home (made.named reg refl) h
  one_step memory _ _ waits b still (effects.unsets reg hard home) made h =
      unsets_step c place i at waits reg hard b home (made.named reg refl) (made.defines reg refl) h
  one_step memory _ _ waits b still (effects.leaves reg home) made h = leaves_step c place i at waits reg b (made.named reg refl) h
  one_step memory _ _ waits b still (effects.stores w q value) made h = stores_step c place i at waits w q value b (still w q (made.stored w q value refl)) h
  one_step memory _ _ waits b still effects.nothing made h = h

  abbrev all_after : List Effect → List Effect → Both → Both
  all_after es es' b = record {
    regs = regs_after es b.regs;
    others = regs_after es' b.others;
    memory = memory_after es b.memory;
    other = memory_after es' b.other;
  }

  all_steps : (memory : List MemByte) (es es' : List Effect) (b : Both) → StillThere memory b.memory → AllMade memory es es' →
      Holds c place (later es) b → Holds c place (later []) (all_after es es' b)
  all_steps memory _ _ b still made_none h = h
  all_steps memory _ _ b still (made_more e e' es es' made rest) h =
      all_steps memory es es' (after e e' b) (still_after e memory b.memory still) rest (one_step memory e e' (later es) b still made.becomes made h)

  in_homes : (memory : List MemByte) (es es' : List Effect) → AllMade memory es es' → AllInHomes c.homes c.layout (base c) es es'
  in_homes memory _ _ made_none = effects.none
  in_homes memory _ _ (made_more e e' es es' made rest) = effects.one_more e e' es es' made.becomes (in_homes memory es es' rest)

  -- ---- what the rules give of its elements

  module _ (plain : i.kind ≡ kind.Plain) (s u : State) (stands : StandsIn c place s u) where
    abbrev m : Machines
    m = machines c place s u

    abbrev are : AreHomed c.homes c.layout (machines c place s u)
    are = are_homed c place s u stands

    abbrev put : Rtx → Rtx
    put = placed c.homes c.layout

    sized : all_sized i.pattern ≡ true
    sized = c.can.sized place i at

    counted : (reg : ℕ) → IsNamed reg → pattern_uses reg i.pattern ≡ true → IsCounted c.f place reg
    counted reg named uses = record {
      named = named;
      live = AtUse place i at (or_left (insn_uses i reg) _ (or_left (pattern_uses reg i.pattern) _ uses));
    }

    defined_by : (reg : ℕ) → pattern_defines reg i.pattern ≡ true → insn_defines i reg ≡ true
    defined_by reg is = or_left (pattern_defines reg i.pattern) _ is

    -- an element of the pattern
    record IsElement (x : Rtx) : Type 0 where
      sized_too : all_sized x ≡ true
      mentioned : (reg : ℕ) → mentions_reg reg x ≡ true → mentions_reg reg i.pattern ≡ true
      used : (reg : ℕ) → effect_uses reg x ≡ true → pattern_uses reg i.pattern ≡ true
      defined : (reg : ℕ) → effect_defines reg x ≡ true → pattern_defines reg i.pattern ≡ true

    fits_of : (x : Rtx) → IsElement x → Fits c.homes c.layout m are x
    fits_of x is = record {
      sized = is.sized_too;
      named = λ reg has. named_of c place i at reg (is.mentioned reg has);
      used = λ reg named uses. counted reg named (is.used reg uses);
      vars = false_from_ne_true (effect_defines 32 x) (λ defines. false≢true (sym (c.can.vars place i at) ∙ defined_by 32 (is.defined 32 defines)));
    }

    made_of : (x : Rtx) (e : Effect) (o : Option Effect) → IsElement x → (becomes : Becomes c.homes c.layout m are x e o) → Made s.memory e becomes.effect
    made_of x e o is becomes = record {
      becomes = becomes.becomes;
      named = becomes.named;
      defines = λ reg same. defined_by reg (is.defined reg (becomes.defines reg same));
      mentioned = λ reg same. is.mentioned reg (becomes.mentioned reg same);
      stored = becomes.stored;
    }

    -- ---- its effects

    pub record AllBecome (xs : List Rtx) (es : List Effect) (o : Option (List Effect)) : Type 0 where
      pub these : List Effect
      pub is : o ≡ Some these
      pub made : AllMade s.memory es these
      pub only : (reg : ℕ) → list_any (effect_defines reg) xs ≡ true → later es reg ≡ true

    changed_it : (e : Effect) (reg : ℕ) → changed_by e ≡ Some reg → changes e reg ≡ true
    changed_it e reg is = ap (λ o. changes_it o reg) is ∙ eq-eqb reg reg refl

    all_become : (xs : List Rtx) (es : List Effect) → AllByRecursion IsElement xs → all_effects m.symbols m.regs m.memory xs ≡ Some es →
        AllBecome xs es (all_effects m.symbols m.others m.other (map put xs))
    all_become [] es are_elements is =
        let none : [] ≡ es = cc in
        subst (λ es. AllBecome [] es (Some [])) none (record { these = []; is = refl; made = made_none; only = λ reg has. absurd (false≢true has) })
    all_become (x ∷ xs) es are_elements is =
        let parts = front_of (effect_of m.symbols m.regs m.memory x) (all_effects m.symbols m.regs m.memory xs) es is in
        let e = parts.0 in
        let more = parts.1 in
        let first = element_becomes c.homes c.layout m are x e (fits_of x are_elements.0) parts.2 in
        let rest = all_become xs more are_elements.1 parts.3 in
        subst (λ es. AllBecome (x ∷ xs) es (all_effects m.symbols m.others m.other (map put (x ∷ xs)))) parts.4 (record {
          these = first.effect ∷ rest.these;
          is = ap (λ o. option_and_then (λ e. option_map (λ es. e ∷ es) (all_effects m.symbols m.others m.other (map put xs))) o) first.is
              ∙ ap (option_map (λ es. first.effect ∷ es)) rest.is;
          made = made_more e first.effect more rest.these (made_of x e _ are_elements.0 first) rest.made;
          only = λ reg has. elim (or_cases (effect_defines reg x) (list_any (effect_defines reg) xs) has) [
            | inl here ↦ or_left (changes e reg) (later more reg) (changed_it e reg (first.only reg here))
            | inr there ↦ or_right (changes e reg) (later more reg) (rest.only reg there)
          ];
        })

    -- the elements of a pattern that is one alone, and of one that makes all at once
    alone : (reg : ℕ) (does : Rtx → Bool) → does i.pattern ≡ true → list_any does (i.pattern ∷ []) ≡ true
    alone reg does is = or_left (does i.pattern) false is

    kids_are : (kids : List Rtx) → list_all all_sized kids ≡ true →
        ((reg : ℕ) → list_any (mentions_reg reg) kids ≡ true → mentions_reg reg i.pattern ≡ true) →
        ((reg : ℕ) → list_any (effect_uses reg) kids ≡ true → pattern_uses reg i.pattern ≡ true) →
        ((reg : ℕ) → list_any (effect_defines reg) kids ≡ true → pattern_defines reg i.pattern ≡ true) → AllByRecursion IsElement kids
    kids_are [] sizes mentioned used defined = tt
    kids_are (x ∷ kids) sizes mentioned used defined =
        let both = and_parts (all_sized x) (list_all all_sized kids) sizes in (
          record {
            sized_too = both.0;
            mentioned = λ reg has. mentioned reg (or_left (mentions_reg reg x) _ has);
            used = λ reg has. used reg (or_left (effect_uses reg x) _ has);
            defined = λ reg has. defined reg (or_left (effect_defines reg x) _ has);
          },
          kids_are kids both.1 (λ reg has. mentioned reg (or_right (mentions_reg reg x) _ has))
              (λ reg has. used reg (or_right (effect_uses reg x) _ has)) (λ reg has. defined reg (or_right (effect_defines reg x) _ has)),
        )

    abbrev Plainly : List Effect → Type 0
    Plainly es = AllBecome (effects_of i.pattern) es (step.effects_of m.symbols m.others m.other (put i.pattern))

    parallel_become : (es : List Effect) → (out-Rtx i.pattern).code ≡ Parallel → all_effects m.symbols m.regs m.memory (kids_of i.pattern) ≡ Some es → Plainly es
    parallel_become es code is =
        let elements : effects_of i.pattern ≡ kids_of i.pattern = ap (λ c. effects_by c (kids_of i.pattern) i.pattern) code in
        let kids = kids_are (kids_of i.pattern) (sized_kids i.pattern sized) (λ reg has. mentions_kid i.pattern reg has)
        (λ reg has. ap (list_any (effect_uses reg)) elements ∙ has) (λ reg has. ap (list_any (effect_defines reg)) elements ∙ has) in
        let all = all_become (kids_of i.pattern) es kids is in
        let tree = over c.homes c.layout m are i.pattern (ap is_over code) in
        record {
          these = all.these;
          is = ap (step.effects_of m.symbols m.others m.other) tree
              ∙ ap (λ (o : Rtx-F Rtx). step.effects_by o.code (tree_of (head_of i.pattern) (map put (kids_of i.pattern))) m.symbols m.others m.other) (out-roll-Rtx _)
              ∙ ap (λ c. step.effects_by c (tree_of (head_of i.pattern) (map put (kids_of i.pattern))) m.symbols m.others m.other) code
              ∙ ap (λ (o : Rtx-F Rtx). all_effects m.symbols m.others m.other o.kids) (out-roll-Rtx _)
              ∙ all.is;
          made = all.made;
          only = λ reg has. all.only reg (sym (ap (list_any (effect_defines reg)) elements) ∙ has);
        }

    one_become : (es : List Effect) → effects_of i.pattern ≡ i.pattern ∷ [] → option_map (λ (e : Effect). e ∷ []) (effect_of m.symbols m.regs m.memory i.pattern) ≡ Some es → Plainly es
    one_become es elements is =
        let parts = one_of (effect_of m.symbols m.regs m.memory i.pattern) es is in
        let element : IsElement i.pattern = record {
          sized_too = sized;
          mentioned = λ reg has. has;
          used = λ reg has. ap (list_any (effect_uses reg)) elements ∙ alone reg (effect_uses reg) has;
          defined = λ reg has. ap (list_any (effect_defines reg)) elements ∙ alone reg (effect_defines reg) has;
        } in
        let first = element_becomes c.homes c.layout m are i.pattern parts.0 (fits_of i.pattern element) parts.1 in
        subst Plainly parts.2 (record {
          these = first.effect ∷ [];
          is = single m.symbols m.others m.other (put i.pattern) first.effect first.is;
          made = made_more parts.0 first.effect [] [] (made_of i.pattern parts.0 _ element first) made_none;
          only = λ reg has. elim (or_cases (effect_defines reg i.pattern) false (sym (ap (list_any (effect_defines reg)) elements) ∙ has)) [
            | inl here ↦ or_left (changes parts.0 reg) false (changed_it parts.0 reg (first.only reg here))
            | inr none ↦ absurd (false≢true none)
          ];
        })

    plain_by : (code : Code) (es : List Effect) → (out-Rtx i.pattern).code ≡ code → step.effects_by code i.pattern m.symbols m.regs m.memory ≡ Some es → Plainly es
    plain_by Parallel es is has = parallel_become es is has
    plain_by _ es is has = one_become es (ap (λ c. effects_by c (kids_of i.pattern) i.pattern) is) has

    pub plain_become : (es : List Effect) → step.effects_of m.symbols m.regs m.memory i.pattern ≡ Some es → Plainly es
    plain_become es is = plain_by (out-Rtx i.pattern).code es refl is

    -- ---- the states behind it

    abbrev both : Both
    both = record { regs = s.regs; others = u.regs; memory = s.memory; other = u.memory }

    plain_defines : (reg : ℕ) → insn_defines i reg ≡ pattern_defines reg i.pattern
    plain_defines reg = ap (λ k. pattern_defines reg i.pattern || (is_call_kind k && is_call_used reg)) plain ∙ or_none (pattern_defines reg i.pattern)

    at_start : (es : List Effect) → ((reg : ℕ) → pattern_defines reg i.pattern ≡ true → later es reg ≡ true) → Holds c place (later es) both
    at_start es only = record {
      values = λ reg named live. by reg named live (later es reg) refl;
      vars = stands.vars;
      within = stands.within;
      outside = stands.outside;
      room = stands.room;
      seen = stands.seen;
      pointer = stands.kept.pointer;
      registers = stands.kept.registers;
      kept = stands.kept.room;
    }
      where
        by : (reg : ℕ) → IsNamed reg → IsLiveAfter c.f reg place → (b : Bool) → later es reg ≡ b → (later es reg ≡ true) ⊎ IsIn c both reg
        by reg named live true is = inl is
        by reg named (q, leads_on, live) false is =
            let none : insn_defines i reg ≡ false = plain_defines reg ∙ false_from_ne_true (pattern_defines reg i.pattern) (λ defines. false≢true (sym is ∙ only reg defines)) in
            inr (λ w v known. stands.values reg named.has (Passing place q i at none leads_on live) w v known)

    abbrev state_of : State → ℕ → List Effect → State
    state_of s next es = record s { next = next; regs = regs_after es s.regs; memory = memory_after es s.memory }

    behind : (es es' : List Effect) → AllMade s.memory es es' → ((reg : ℕ) → pattern_defines reg i.pattern ≡ true → later es reg ≡ true) →
        (q next next' : ℕ) → leads c.f.insns place q ≡ true → StandsIn c q (state_of s next es) (state_of u next' es')
    behind es es' made only q next next' leads_on =
        let h = all_steps s.memory es es' both (λ w at there. there) made (at_start es only) in
        record {
          values = λ reg has live w value is. elim (h.values reg (record { has = has }) (q, leads_on, live)) [
            | inl waits ↦ absurd (false≢true waits)
            | inr held ↦ held w value is
          ];
          vars = h.vars;
          within = h.within;
          outside = h.outside;
          room = h.room;
          seen = h.seen;
          ranges = stands.ranges;
          ranges_too = stands.ranges_too;
          calls = stands.calls;
          kept = record { pointer = h.pointer; registers = h.registers; room = h.kept };
        }

    -- what a plain instruction does
    pub record PlainDoes (es : List Effect) : Type 0 where
      pub these : List Effect
      pub is : step.effects_of c.world.symbols u.regs u.memory (placed c.homes c.layout i.pattern) ≡ Some these
      pub becomes : AllInHomes c.homes c.layout (base c) es these
      pub made : AllMade s.memory es these
      pub stands_behind : (q next next' : ℕ) → leads c.f.insns place q ≡ true → StandsIn c q (state_of s next es) (state_of u next' these)

    -- wherever it has effects, it has them with homes put in, and the states behind it stand beside each other
    pub plain_keeps : (es : List Effect) → step.effects_of c.world.symbols s.regs s.memory i.pattern ≡ Some es → PlainDoes es
    plain_keeps es is =
        let all = plain_become es is in
        record {
          these = all.these;
          is = all.is;
          becomes = in_homes s.memory es all.these all.made;
          made = all.made;
          stands_behind = behind es all.these all.made all.only;
        }
