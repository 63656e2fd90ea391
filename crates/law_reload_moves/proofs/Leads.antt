-- An instruction of a function for which a plan is chosen, with its moves in another function: a plain one leads to what its effects leave, a jump
-- goes the same way, and a call tells the same. What stays through the run stays behind each step.
use Rattle.std.proofs.Common.{◌≡◌, ◌≢◌, ◌⊎◌, inl, inr, ℕ, ◌&&◌, ◌==◌, ◌||◌, not, Bool, true, false, List, [], ◌∷◌, ◌++◌, length, Option, Some, None, refl, sym, ap, subst, ◌∙◌, arith}
use Rattle.std.proofs.lemmas.Bool.{and_parts, eq-eqb, leb-true, or_left, or_right}
use Rattle.std.proofs.lemmas.Bool.Decides.{nat_tests}
use Rattle.std.specs.List.{list_all, list_any}
use Rattle.std.specs.Prelude.{ℤ, pos, nat_le, slice_get, option_and_then}
use Rattle.law_operands_fetched.specs.rtx_tree.Operands.{put_at}
use Rattle.law_operands_fetched.specs.rtx_tree.Tree.{reg_of}
use Rattle.law_operands_fetched.specs.rtx_tree.declared.function.ArgUse.{ArgUse}
use Rattle.law_operands_fetched.specs.rtx_tree.declared.function.Function.{Function}
use Rattle.law_operands_fetched.specs.rtx_tree.declared.function.Insn.{Insn}
use Rattle.law_operands_fetched.specs.rtx_tree.declared.function.Kind.TheVariants as kind
use Rattle.law_operands_fetched.specs.rtx_tree.declared.memories.MemByte.{MemByte}
use Rattle.law_operands_fetched.specs.rtx_tree.declared.tree.Rtx.{Rtx}
use Rattle.law_operands_fetched.specs.rtl_func.Calls.{is_argument}
use Rattle.law_operands_fetched.specs.rtl_func.Kinds.{kinds_agree, is_jump_tree, is_call_tree}
use Rattle.law_operands_fetched.proofs.rtl_func.AllPass.{all_pass}
use Rattle.law_operands_fetched.specs.rtl_step.Call.{call_part, event_of, args_of, result_width, target_of, target_value}
use Rattle.law_operands_fetched.specs.rtl_step.Effect.{effects_of}
use Rattle.law_operands_fetched.specs.rtl_step.Jump.{jump_of}
use Rattle.law_operands_fetched.specs.rtl_step.Regs.{Regs}
use Rattle.law_operands_fetched.specs.rtl_step.Value.{of_two}
use Rattle.law_operands_fetched.specs.rtl_step.declared.call.ArgValue.{ArgValue}
use Rattle.law_operands_fetched.specs.rtl_step.declared.call.CallEvent.{CallEvent}
use Rattle.law_operands_fetched.specs.rtl_step.declared.effect.Effect.{Effect}
use Rattle.law_operands_fetched.specs.rtl_step.declared.jump.Way.{Way}
use Rattle.law_operands_fetched.specs.rtl_step.declared.step.State.{State}
use Rattle.reg_uses.specs.Uses.{has_argument}
use Rattle.law_operands_fetched.specs.same_behaviour.Lawful.{IsMemory}
use Rattle.law_operands_fetched.proofs.law_frame.law_window_replaced.Stands.{Stands}
use Rattle.law_operands_fetched.specs.md_match.Pattern.{Ops}
use Rattle.law_operands_fetched.specs.reload_homes.Homes.{homed}
use Rattle.law_operands_fetched.specs.reload_operands.Directions.{is_input}
use Rattle.law_operands_fetched.specs.reload_operands.Put.{put}
use Rattle.law_operands_fetched.specs.reload_operands.declared.operand.Operand.{Operand}
use Rattle.law_operands_fetched.specs.reload_moves.Moves.{comes_in}
use Rattle.law_operands_fetched.specs.reload_moves.declared.part.Part.{Part}
use Rattle.law_operands_fetched.specs.reload_choice.Insns.{between, insns_before, insns_after}
use Rattle.law_operands_fetched.specs.reload_choice.Sound.{IsPart}
use Rattle.law_operands_fetched.specs.reload_choice.declared.given.Given.{Given}
use Rattle.law_operands_fetched.specs.reload_choice.declared.given.Plan.{Plan}
use Rattle.law_operands_fetched.proofs.law_homes.Calls.{event_keeps}
use Rattle.law_operands_fetched.proofs.law_homes.CallTrees.{call_tree, width_put}
use Rattle.law_operands_fetched.proofs.law_homes.HomesApart.{below_itself}
use Rattle.law_operands_fetched.proofs.law_homes.Onward.{jump_keeps}
use Rattle.law_operands_fetched.proofs.law_homes.Plain.{PlainDoes, plain_keeps}
use Rattle.law_operands_fetched.proofs.law_homes.Setting.{Setting, base, StandsIn, machines, are_homed}
use Rattle.law_operands_fetched.proofs.law_homes.Tamed.{plain_tame}
use Rattle.law_operands_fetched.specs.Onwards.{Onwards, ArePlain}
use Rattle.law_operands_fetched.specs.law_operands_replaced.Spare.{is_spare, KeepsRest}
use Rattle.law_operands_fetched.specs.Tame.{AreTame}
use Rattle.law_operands_fetched.proofs.AroundWindow.{window_comes_from}
use Rattle.law_reload_moves.proofs.CallInner.{call_turns, plan_results}
use Rattle.law_reload_moves.proofs.CallValues.{call_valued}
use Rattle.law_operands_fetched.proofs.law_operands_replaced.Calling.{is_passed, event_becomes, width_becomes}
use Rattle.law_reload_moves.proofs.Chosen.{IsKnown, known_of}
use Rattle.law_reload_moves.proofs.ElementValues.{IsValued}
use Rattle.law_operands_fetched.proofs.law_operands_replaced.Fetches.{Rest}
use Rattle.law_operands_fetched.proofs.Fetching.{Fetching}
use Rattle.law_operands_fetched.proofs.GivenFetching.{fetching}
use Rattle.law_reload_moves.proofs.InputPlaces.{no_operator_of}
use Rattle.law_reload_moves.proofs.InputValues.{plain_valued}
use Rattle.law_operands_fetched.proofs.law_operands_replaced.Jumping.{jump_becomes}
use Rattle.law_reload_moves.proofs.JumpValues.{jump_valued}
use Rattle.law_operands_fetched.proofs.Keeping.{Stay, stay_rest}
use Rattle.law_operands_fetched.proofs.law_operands_replaced.Keyed.{Keyed, effects_in, with_kept, kept_of}
use Rattle.law_reload_moves.proofs.Matched.{IsLow}
use Rattle.law_reload_moves.proofs.OtherInner.{jump_into}
use Rattle.law_reload_moves.proofs.PlainAround as around
use Rattle.law_reload_moves.proofs.PlainInner.{before, other, known, formed, IsFormed, formed_parts}
use Rattle.law_operands_fetched.proofs.PlainWindow.{ComesTo, tame_stay}
use Rattle.law_reload_moves.proofs.Reloaded.{IsReloaded, w, x, g, x_shaped, x_natural, x_quiet, x_whole, stands_at, matched, has_frame}
use Rattle.law_reload_moves.proofs.ResultKeys.{result_places, none_places}
use Rattle.law_operands_fetched.proofs.Stepping.{passes}
use Rattle.law_operands_fetched.proofs.law_operands_replaced.StraightLaws.{straight_told}
use Rattle.law_reload_moves.proofs.TakenThere.{IsAt}
use Rattle.law_reload_moves.proofs.Taming.{are_tame}
use Rattle.law_operands_fetched.proofs.Window.{AllStay}
use Rattle.law_operands_fetched.proofs.law_operands_replaced.Valued.{HasValue}

-- those that are kept of tame effects are tame
kept_tame : (c : Setting) (xs : List Keyed) → AreTame c.f.locals c.layout c.start (effects_in xs) → AreTame c.f.locals c.layout c.start (kept_of xs)
kept_tame c [] tame = tt
kept_tame c (e ∷ xs) tame = by e.key (kept_tame c xs tame.1)
  where
    by : (key : Option ℕ) → AreTame c.f.locals c.layout c.start (kept_of xs) → AreTame c.f.locals c.layout c.start (with_kept key e.effect (kept_of xs))
    by None rest = (tame.0, rest)
    by (Some k) rest = rest

-- what a call tells of has a target
target_there : (o : Option ℕ) (args : Option (List ArgValue)) (f : ℕ → List ArgValue → Option CallEvent) (e : CallEvent) → of_two f o args ≡ Some e → (n : ℕ) × (o ≡ Some n)
target_there None args f e is = absurd (let no : ⊥ = cc in no)
target_there (Some n) args f e is = (n, refl)

tree_there : (o : Option Rtx) (f : Rtx → Option ℕ) (n : ℕ) → option_and_then f o ≡ Some n → (t : Rtx) × (o ≡ Some t)
tree_there None f n is = absurd (let no : ⊥ = cc in no)
tree_there (Some t) f n is = (t, refl)

passed_all : (uses : List ArgUse) → ((reg : ℕ) → has_argument reg uses ≡ true → is_argument reg ≡ true) → list_all is_passed uses ≡ true
passed_all [] all = refl
passed_all (use' ∷ uses) all =
    let mine = all use'.reg (or_left (use'.reg == use'.reg) _ (eq-eqb use'.reg use'.reg refl)) in
    let most = leb-true use'.reg 17 (and_parts (nat_le 10 use'.reg) (nat_le use'.reg 17) mine).1 in
    let here : is_spare use'.reg ≡ false = grind (arith, nat_tests, most) in
    ap (λ b. not b && list_all is_passed uses) here ∙ passed_all uses (λ reg has. all reg (or_right (use'.reg == reg) _ has))

module _ (c : Setting) (place : ℕ) (i : Insn) (at : slice_get c.f.insns place ≡ Some i) (pattern : Rtx) (found : Ops) (plan : Plan)
    (is : IsReloaded c i pattern found plan) (s u : State) (stands : StandsIn c place s u) (memory : IsMemory u.memory)
    (told : Stay c.f.locals c.layout c.start u u.regs u.memory) (other_function : Function) where
  abbrev W : Rtx
  W = w c place i at pattern found plan is

  abbrev X : Rtx
  X = x c place i at pattern found plan is

  abbrev pub G : Given
  G = g c place i at pattern found plan is

  abbrev Values : ℕ → Type 0
  Values k = IsValued c.homes c.layout found c.world.symbols u.regs u.memory k ⊎ IsLow c.homes c.layout found pattern W (pos k)

  -- ---- inputs

  input_is : (j : ℕ) (p : Part) (o : Operand) → IsPart G plan j p o → comes_in p ≡ true → is_input pattern o.number ≡ true
  input_is j p o part comes =
      let k = known_of c.homes c.layout i.kind W pattern found plan p.place o part.of in
      sym k.input ∙ sym (is.sound.says j p o part).input ∙ (and_parts p.is_moved p.needs.is_input comes).1

  moved_is : (p : Part) → comes_in p ≡ true → p.is_moved ≡ true
  moved_is p comes = (and_parts p.is_moved p.needs.is_input comes).0

  -- what is moved stands in no low part, and so has a value
  value_is : (j : ℕ) (p : Part) (o : Operand) → IsPart G plan j p o → comes_in p ≡ true → Values o.number → HasValue c.world.symbols u.regs u.memory o.tree
  value_is j p o part comes values = by values
    where
      k : IsKnown c.homes c.layout i.kind W pattern found plan o
      k = known_of c.homes c.layout i.kind W pattern found plan p.place o part.of

      by : Values o.number → HasValue c.world.symbols u.regs u.memory o.tree
      by (inl v) =
          let same : Some v.was ≡ Some k.was = sym v.found_is ∙ k.found_is in
          let trees : v.was ≡ k.was = cc in
          subst (HasValue c.world.symbols u.regs u.memory) (ap (homed c.homes c.layout) trees ∙ sym k.tree_is) v.has
      by (inr low) = absurd (let e : true ≡ false = sym (low o.number false refl) ∙ sym k.lowpart ∙ is.sound.moved_clear j p o part (moved_is p comes) in let no : ⊥ = cc in no)

  abbrev Gives : Type 0
  Gives = (j : ℕ) (p : Part) (o : Operand) → IsPart G plan j p o → comes_in p ≡ true → HasValue c.world.symbols u.regs u.memory o.tree

  fetch : Gives → Fetching c.world.symbols u.regs u.memory (base c) G plan
  fetch gives = fetching c.homes c.layout c.world.symbols u.regs u.memory (base c) pattern W found
      (has_frame c place i at pattern found plan is s u stands memory) (matched c place i at pattern found plan is) X G plan refl is.sound gives

  abbrev pub Here : IsAt c.homes c.layout found pattern W X
  Here = stands_at c place i at pattern found plan is

  -- ---- a plain instruction

  abbrev pub Told : Regs → List MemByte → Type 0
  Told = Stay c.f.locals c.layout c.start u

  abbrev pub spared : (r r' : Regs) (m : List MemByte) → KeepsRest r r' → Told r m → Told r' m
  spared = stay_rest c.f.locals c.layout c.start u

  module _ (plain : i.kind ≡ kind.Plain) (es : List Effect) (does : effects_of c.world.symbols s.regs s.memory i.pattern ≡ Some es) where
    abbrev pub d : PlainDoes c place i at plain s u stands es
    d = plain_keeps c place i at plain s u stands es does

    plain_gives : Gives
    plain_gives j p o part comes = value_is j p o part comes
        (plain_valued c.homes c.layout found c.world.symbols u.regs u.memory pattern W Here (x_shaped c place i at pattern found plan is)
        (x_whole c place i at pattern found plan is) d.these o.number d.is (input_is j p o part comes))

    pub plain_fetch : Fetching c.world.symbols u.regs u.memory (base c) G plan
    plain_fetch = fetch plain_gives

    -- what is asked of its results
    abbrev pub ResultsMayEnd : Type 0
    ResultsMayEnd = around.MayEnd c.homes c.layout i.kind W pattern found plan c.world.symbols u.regs u.memory (base c) plain_fetch Here plain
        (x_natural c place i at pattern found plan is) (x_quiet c place i at pattern found plan is) (x_whole c place i at pattern found plan is) Told spared d.these d.is

    -- the window leads to what its effects leave, where its results may end
    pub plain_leads_over : ResultsMayEnd → (insns rest : List Insn) (q : ℕ) →
        ArePlain insns (insns_before G.operands plan.parts ++ between G.pattern G.operands plan.parts G.insn ∷ insns_after G.operands plan.parts) →
        Stands other_function.insns u.next (insns ++ rest) q → ComesTo c.world other_function c.f.locals c.layout c.start u d.these insns rest
    plain_leads_over may insns rest q are at_q =
        window_comes_from c.world other_function c.f.locals c.layout c.start u d.these (insns_before G.operands plan.parts)
        (between G.pattern G.operands plan.parts G.insn) (insns_after G.operands plan.parts) insns rest q told
        (around.around c.homes c.layout i.kind W pattern found plan c.world.symbols u.regs u.memory (base c) plain_fetch Here plain
        (x_natural c place i at pattern found plan is) (x_quiet c place i at pattern found plan is) (x_whole c place i at pattern found plan is) Told spared d.these d.is may)
        are at_q

    abbrev pub plain_effects : List Keyed
    plain_effects = around.keyed c.homes c.layout i.kind W pattern found plan c.world.symbols u.regs u.memory (base c) plain_fetch Here plain
        (x_natural c place i at pattern found plan is) (x_quiet c place i at pattern found plan is) (x_whole c place i at pattern found plan is) Told spared d.these d.is

    -- what stays behind those effects that are kept
    pub kept_stay : AllStay c.world.symbols Told spared (kept_of plain_effects)
    kept_stay = tame_stay c.world other_function c.f.locals c.layout c.start u (kept_of plain_effects) (kept_tame c plain_effects
        (subst (AreTame c.f.locals c.layout c.start) (sym (around.keyed_same c.homes c.layout i.kind W pattern found plan c.world.symbols u.regs u.memory (base c) plain_fetch Here plain
        (x_natural c place i at pattern found plan is) (x_quiet c place i at pattern found plan is) (x_whole c place i at pattern found plan is) Told spared d.these d.is))
        (are_tame c d.these (plain_tame c place i at s u stands plain es d))))

    -- so where nothing is moved behind it
    pub plain_leads_alone : result_places plan.parts ≡ [] → (insns rest : List Insn) (q : ℕ) →
        ArePlain insns (insns_before G.operands plan.parts ++ between G.pattern G.operands plan.parts G.insn ∷ insns_after G.operands plan.parts) →
        Stands other_function.insns u.next (insns ++ rest) q → ComesTo c.world other_function c.f.locals c.layout c.start u d.these insns rest
    plain_leads_alone none = plain_leads_over
        (around.none_end c.homes c.layout i.kind W pattern found plan c.world.symbols u.regs u.memory (base c) plain_fetch Here plain
        (x_natural c place i at pattern found plan is) (x_quiet c place i at pattern found plan is) (x_whole c place i at pattern found plan is) Told spared d.these d.is none kept_stay)

  -- ---- the moves before a jump and a call

  pub record ComesBefore (insns rest : List Insn) : Type 0 where
    pub next_place : ℕ
    pub q : ℕ
    pub regs : Regs
    pub steps : Onwards c.world other_function Told (length insns) u (record u { next = next_place; regs = regs })
    pub stands_there : Stands other_function.insns next_place rest q
    pub keeps : KeepsRest u.regs regs

  abbrev behind : Fetching c.world.symbols u.regs u.memory (base c) G plan → Regs
  behind f = other c.homes c.layout i.kind W pattern found plan c.world.symbols u.regs u.memory (base c) f Here

  record Behind (f : Fetching c.world.symbols u.regs u.memory (base c) G plan) (insns rest : List Insn) : Type 0 where
    comes : ComesBefore insns rest
    regs_are : comes.regs ≡ behind f

  moves_lead : (f : Fetching c.world.symbols u.regs u.memory (base c) G plan) (insns rest : List Insn) (q : ℕ) → ArePlain insns (insns_before G.operands plan.parts) →
      Stands other_function.insns u.next (insns ++ rest) q → Behind f insns rest
  moves_lead f insns rest q are at_q =
      let b = before c.homes c.layout i.kind W pattern found plan c.world.symbols u.regs u.memory (base c) f Here in
      let runs = straight_told c.world.symbols (Rest c.world.symbols u.memory u.regs) Told
      (λ r' m' rest. subst (Told r') (sym rest.0) (spared u.regs r' u.memory rest.1 told)) (insns_before G.operands plan.parts) u.regs u.memory b.fetched.after u.memory b.fetched.runs in
      let passed = passes c.world other_function u Told (insns_before G.operands plan.parts) u.regs u.memory b.fetched.after u.memory runs insns rest u.next q are at_q in record {
        comes = record {
          next_place = passed.next_place;
          q = passed.q;
          regs = b.fetched.after;
          steps = passed.steps;
          stands_there = passed.stands;
          keeps = b.fetched.rest;
        };
        regs_are = refl;
      }

  -- where an operand that is moved is replaced alone
  abbrev Alone : Operand → Rtx
  Alone o = put pattern (put_at [] o.number (reg_of o.mode 28)) X

  formed_at : (j : ℕ) (p : Part) (o : Operand) → IsPart G plan j p o → comes_in p ≡ true →
      IsFormed i.kind (Alone o)
  formed_at j p o part comes = formed_parts i.kind (Alone o) (is.sound.formed j p o part (moved_is p comes))

  no_operator : (j : ℕ) (p : Part) (o : Operand) → IsPart G plan j p o → comes_in p ≡ true → all_pass (no_operator_of o.number) pattern ≡ true
  no_operator j p o part comes = is.operators p.place o part.of (is.sound.operator j p o part (moved_is p comes))

  -- ---- a jump

  pub record JumpLeads (way : Way) (insns rest : List Insn) : Type 0 where
    pub comes : ComesBefore insns rest
    pub goes : jump_of c.world.symbols comes.regs u.memory (between G.pattern G.operands plan.parts G.insn) ≡ Some way

  pub jump_leads : i.kind ≡ kind.Jump → (way : Way) → jump_of c.world.symbols s.regs s.memory i.pattern ≡ Some way → (insns rest : List Insn) (q : ℕ) →
      ArePlain insns (insns_before G.operands plan.parts) → Stands other_function.insns u.next (insns ++ rest) q → JumpLeads way insns rest
  jump_leads jump way does insns rest q are at_q =
      let here = jump_keeps c place i at s u stands way jump does in
      let gives : Gives = λ j p o part comes. value_is j p o part comes
      (let f' = formed_at j p o part comes in
      jump_valued c.homes c.layout found c.world.symbols u.regs u.memory o.number (reg_of o.mode 28) o.mode 28 refl pattern W Here
      (x_shaped c place i at pattern found plan is) (x_whole c place i at pattern found plan is) (no_operator j p o part comes) f'.shaped
      (ap (λ k. kinds_agree k (Alone o)) (sym jump) ∙ f'.agrees) way here (input_is j p o part comes)) in
      let f = fetch gives in
      let b = moves_lead f insns rest q are at_q in
      let y' = formed c.homes c.layout i.kind W pattern found plan c.world.symbols u.regs u.memory (base c) f Here in
      let jumps : is_jump_tree (between G.pattern G.operands plan.parts G.insn) ≡ true = ap (λ k. kinds_agree k (between G.pattern G.operands plan.parts G.insn)) (sym jump) ∙ y'.agrees in
      let into = jump_into c.homes c.layout i.kind W pattern found plan c.world.symbols u.regs u.memory (base c) f Here (x_whole c place i at pattern found plan is) jumps way here
      (x_shaped c place i at pattern found plan is) y'.effect in record {
        comes = b.comes;
        goes = ap (λ r. jump_of c.world.symbols r u.memory (between G.pattern G.operands plan.parts G.insn)) b.regs_are ∙
            jump_becomes c.world.symbols u.regs (behind f) u.memory
            (known c.homes c.layout i.kind W pattern found plan c.world.symbols u.regs u.memory (base c) f Here) into.New into.new X
            (between G.pattern G.operands plan.parts G.insn) into.becomes
            (record { natural = x_natural c place i at pattern found plan is; quiet = x_quiet c place i at pattern found plan is; shaped = y'.shaped }) jumps way here;
      }

  -- ---- a call

  pub record CallLeads (event : CallEvent) (insns rest : List Insn) : Type 0 where
    pub comes : ComesBefore insns rest
    pub tells : event_of c.world.symbols comes.regs u.memory u.visible (between G.pattern G.operands plan.parts G.insn) i.uses ≡ Some event
    pub width : result_width (between G.pattern G.operands plan.parts G.insn) ≡ result_width i.pattern

  not_plain : i.kind ≡ kind.Call → i.kind ≡ kind.Plain → ⊥
  not_plain call plain = let no : kind.Call ≡ kind.Plain = sym call ∙ plain in let never : ⊥ = cc in never

  pub call_leads : i.kind ≡ kind.Call → (event : CallEvent) → event_of c.world.symbols s.regs s.memory s.visible i.pattern i.uses ≡ Some event → (insns rest : List Insn) (q : ℕ) →
      ArePlain insns (insns_before G.operands plan.parts) → Stands other_function.insns u.next (insns ++ rest) q → CallLeads event insns rest
  call_leads call event does insns rest q are at_q =
      let here = event_keeps c place i at call s u stands event does in
      let n = target_there (target_value c.world.symbols u.regs u.memory X) (args_of u.regs i.uses) _ event here in
      let gives : Gives = λ j p o part comes. value_is j p o part comes
      (let f' = formed_at j p o part comes in
      call_valued c.homes c.layout found c.world.symbols u.regs u.memory o.number (reg_of o.mode 28) o.mode 28 refl pattern W Here
      (x_shaped c place i at pattern found plan is) (x_whole c place i at pattern found plan is) (no_operator j p o part comes) f'.shaped
      (ap (λ k. kinds_agree k (Alone o)) (sym call) ∙ f'.agrees) n.0 n.1 (input_is j p o part comes)) in
      let f = fetch gives in
      let b = moves_lead f insns rest q are at_q in
      let y' = formed c.homes c.layout i.kind W pattern found plan c.world.symbols u.regs u.memory (base c) f Here in
      let calls : is_call_tree (between G.pattern G.operands plan.parts G.insn) ≡ true = ap (λ k. kinds_agree k (between G.pattern G.operands plan.parts G.insn)) (sym call) ∙ y'.agrees in
      let turns = call_turns c.homes c.layout i.kind W pattern found plan c.world.symbols u.regs u.memory (base c) f Here (x_whole c place i at pattern found plan is)
      (not_plain call) y'.effect (x_shaped c place i at pattern found plan is) n.0 n.1 in
      let knows = known c.homes c.layout i.kind W pattern found plan c.world.symbols u.regs u.memory (base c) f Here in
      let old = target_there (target_value c.world.symbols s.regs s.memory i.pattern) (args_of s.regs i.uses) _ event does in
      let t = tree_there (target_of (call_part i.pattern)) _ old.0 old.1 in record {
        comes = b.comes;
        tells = ap (λ r. event_of c.world.symbols r u.memory u.visible (between G.pattern G.operands plan.parts G.insn) i.uses) b.regs_are ∙
            event_becomes c.world.symbols u.regs (behind f) u.memory knows turns.into.New turns.into.new u.visible X (between G.pattern G.operands plan.parts G.insn) i.uses
            turns.into.becomes
            (record { natural = x_natural c place i at pattern found plan is; quiet = x_quiet c place i at pattern found plan is; shaped = y'.shaped })
            turns.same calls (passed_all i.uses (λ reg has. c.can.passed place reg i at call has)) event here;
        width = width_becomes c.world.symbols u.regs (behind f) u.memory knows turns.into.New turns.into.new X (between G.pattern G.operands plan.parts G.insn) turns.into.becomes turns.same calls ∙
            width_put c.homes c.layout (machines c place s u) (are_homed c place s u stands) (below_itself c.f c.homes c.are_homes 10 (omega arith)) i.pattern (call_part i.pattern)
            (call_tree i.pattern t.0 t.1) (c.can.sized place i at);
      }

  -- nothing is moved behind a jump and a call
  pub none_after : (i.kind ≡ kind.Plain → ⊥) → insns_after G.operands plan.parts ≡ []
  none_after other' = around.none_behind G.operands plan.parts
      (none_places plan (plan_results c.homes c.layout i.kind W pattern found plan is.sound other'))
