-- What the registers of bases hold for results, and that far results end.
use Rattle.std.proofs.Common.{◌≡◌, ◌≢◌, ◌⊎◌, inl, inr, ℕ, ◌&&◌, if◌then◌else◌, Bool, true, false, List, [], ◌∷◌, ◌++◌, Option, Some, None, refl, sym, ap, subst, ◌∙◌}
use Rattle.std.proofs.lemmas.Bool.{and_parts}
use Rattle.std.specs.FinMap.{get}
use Rattle.std.specs.Prelude.{ℤ, is_some, slice_get}
use Rattle.law_operands_fetched.specs.bits64.Words.{low}
use Rattle.law_operands_fetched.specs.bits64.declared.Width.TheVariants.{W64}
use Rattle.law_operands_fetched.specs.rtx_tree.declared.function.Kind.{Kind}
use Rattle.law_operands_fetched.specs.rtx_tree.declared.function.Kind.TheVariants as kinds
use Rattle.law_operands_fetched.specs.rtx_tree.declared.machine.SymbolAt.{SymbolAt}
use Rattle.law_operands_fetched.specs.rtx_tree.declared.memories.MemByte.{MemByte}
use Rattle.law_operands_fetched.specs.rtx_tree.declared.tree.Rtx.{Rtx}
use Rattle.law_operands_fetched.proofs.rtl_func.AllPass.{all_pass}
use Rattle.law_operands_fetched.specs.rtl_step.Effect.{effects_of, regs_after}
use Rattle.law_operands_fetched.specs.rtl_step.Regs.{Regs, known_of}
use Rattle.law_operands_fetched.specs.rtl_step.declared.effect.Effect.{Effect}
use Rattle.law_operands_fetched.specs.sym_insns.Shape.{all_natural}
use Rattle.law_operands_fetched.specs.md_match.Pattern.{Ops}
use Rattle.law_operands_fetched.specs.assign.declared.home.HomeOf.{HomeOf}
use Rattle.law_operands_fetched.specs.assign.declared.places.Layout.{Layout}
use Rattle.law_operands_fetched.specs.reload_homes.Homes.{homed}
use Rattle.law_operands_fetched.specs.reload_operands.declared.operand.Base.{Base}
use Rattle.law_operands_fetched.specs.reload_operands.declared.operand.Operand.{Operand}
use Rattle.law_operands_fetched.specs.reload_moves.Moves.{own_of, base_of, end_far_of}
use Rattle.law_operands_fetched.specs.reload_moves.Registers.{asks_of, ask, is_result, ends_far, base_ask, register_for}
use Rattle.law_operands_fetched.specs.reload_moves.declared.ask.Ask.{Ask}
use Rattle.law_operands_fetched.specs.reload_moves.declared.ask.What.TheVariants.{Own, ResultBase, ResultFar, StayingBase}
use Rattle.law_operands_fetched.specs.reload_moves.declared.part.Part.{Part}
use Rattle.law_operands_fetched.proofs.reload_moves.AskLaws.{own_asked, base_asked, end_far_asked}
use Rattle.law_operands_fetched.specs.reload_choice.reload_fit.Addressed.{on_register}
use Rattle.law_operands_fetched.specs.reload_choice.Sound.{IsPart}
use Rattle.law_operands_fetched.specs.reload_choice.declared.given.Plan.{Plan}
use Rattle.law_operands_fetched.specs.law_operands_replaced.Held.{Held, Holds}
use Rattle.law_operands_fetched.specs.law_operands_replaced.Spare.{is_spare, KeepsRest, NamesNoSpare}
use Rattle.law_reload_moves.proofs.BasesHeld.{base_held, base_spare, has_register}
use Rattle.law_operands_fetched.proofs.Bounded.{value_low}
use Rattle.law_operands_fetched.proofs.law_operands_replaced.Cells.{IsThere, AreThere}
use Rattle.law_reload_moves.proofs.Chosen.{given}
use Rattle.law_operands_fetched.proofs.Contents.{slot_of}
use Rattle.law_operands_fetched.proofs.law_operands_replaced.EffectsThere.{effects_there}
use Rattle.law_operands_fetched.proofs.law_operands_replaced.Ends.{AreSpare}
use Rattle.law_operands_fetched.proofs.law_operands_replaced.Fetches.{IsFresh}
use Rattle.law_operands_fetched.proofs.Fetching.{Fetching, spare_of, spare_some}
use Rattle.law_reload_moves.proofs.GivenNews.{own, mode, tree, Free, own_spare}
use Rattle.law_operands_fetched.proofs.law_operands_replaced.Keyed.{Keyed, last_of}
use Rattle.law_operands_fetched.proofs.law_operands_replaced.Keying.{with_keys, AreOnRest}
use Rattle.law_reload_moves.proofs.NewEnds.{based_stands, far_ends}
use Rattle.law_operands_fetched.proofs.law_operands_replaced.NewTrees.{is_whole}
use Rattle.law_reload_moves.proofs.OutEffects.{IsOut, StandsOut}
use Rattle.law_reload_moves.proofs.OwnHeld.{one_stays, own_held, own_fresh, own_gives}
use Rattle.law_reload_moves.proofs.PlainAround.{are_keys}
use Rattle.law_reload_moves.proofs.PlainInner.{g, other, Effects, plain_keyed}
use Rattle.law_reload_moves.proofs.ResultEnds.{OutOf, some_base}
use Rattle.law_reload_moves.proofs.ResultsEnd.{Among, last_among, EndsFar}
use Rattle.law_reload_moves.proofs.ResultsHeld.{IsLast}
use Rattle.law_reload_moves.proofs.ResultsMayEnd.{list, hs}
use Rattle.law_reload_moves.proofs.SteadyAddress.{AllLeave}
use Rattle.law_reload_moves.proofs.TakenThere.{IsAt}
use Rattle.law_operands_fetched.proofs.Through.{holds_first, through_gives, through_fresh, fresh_both}
use Rattle.law_operands_fetched.proofs.Window.{AllStay}

-- what a slot has, in a register
abbrev pub of_value : ℕ → Option ℕ → List Held
of_value reg None = []
of_value reg (Some v) = record { reg = reg; width = W64; value = v } ∷ []

value_spare : (reg : ℕ) (o : Option ℕ) → is_spare reg ≡ true → AreSpare (of_value reg o)
value_spare reg None is = tt
value_spare reg (Some v) is = (is, tt)

value_fresh : (symbols : List SymbolAt) (far reg : ℕ) (o : Option ℕ) → reg ≢ far → IsFresh symbols [] far (of_value reg o)
value_fresh symbols far reg None differ = tt
value_fresh symbols far reg (Some v) differ = (differ, tt)

value_holds : (r : Regs) (reg : ℕ) (o : Option ℕ) → ((v : ℕ) → o ≡ Some v → get r reg ≡ Some (known_of W64 v)) → Holds r (of_value reg o)
value_holds r reg None each = tt
value_holds r reg (Some v) each = (each v refl, tt)

some_there : (o : Option ℕ) → is_some o ≡ true → (v : ℕ) × (o ≡ Some v)
some_there None is = absurd (let no : ⊥ = cc in no)
some_there (Some v) is = (v, refl)

module _ (homes : List HomeOf) (layout : Layout) (kind : Kind) (w pattern : Rtx) (found : Ops) (plan : Plan)
    (symbols : List SymbolAt) (regs : Regs) (m : List MemByte) (sp : ℕ)
    (f : Fetching symbols regs m sp (given homes layout kind w pattern found plan) plan)
    (at : IsAt homes layout found pattern w (homed homes layout w))
    (plain : kind ≡ kinds.Plain) (natural : all_natural (homed homes layout w) ≡ true) (quiet : NamesNoSpare (homed homes layout w))
    (whole : all_pass is_whole (homed homes layout w) ≡ true)
    (Told : Regs → List MemByte → Type 0) (spared : (r r' : Regs) (m : List MemByte) → KeepsRest r r' → Told r m → Told r' m)
    (es : List Effect) (does : effects_of symbols regs m (homed homes layout w) ≡ Some es) where
  abbrev k' : Effects homes layout kind w pattern found plan symbols regs m sp f at es
  k' = plain_keyed homes layout kind w pattern found plan symbols regs m sp f at plain natural quiet whole es does

  abbrev xs : List Keyed
  xs = with_keys k'.keys es

  abbrev asks : List Ask
  asks = asks_of plan.parts

  abbrev pub slot : Base → Option ℕ
  slot b = slot_of symbols regs m sp (given homes layout kind w pattern found plan) plan b

  abbrev pub of_base : ℕ → Option Base → List Held
  of_base reg None = []
  of_base reg (Some b) = of_value reg (slot b)

  abbrev pub of_operand : ℕ → Option Operand → List Held
  of_operand reg None = []
  of_operand reg (Some x) = of_base reg x.base

  -- where a result has a base, its register, with what its slot has
  abbrev pub bases : Part → List Held
  bases p = if p.needs.has_base then of_operand (base_of asks p) (slice_get (given homes layout kind w pattern found plan).operands p.place) else []

  operand_cases : (P : List Held → Type 0) (reg : ℕ) → P [] → (o : Option Operand) → ((x : Operand) (b : Base) → o ≡ Some x → x.base ≡ Some b → P (of_value reg (slot b))) → P (of_operand reg o)
  operand_cases P reg none None each = none
  operand_cases P reg none (Some x) each = by x.base refl
    where
      by : (b : Option Base) → x.base ≡ b → P (of_base reg b)
      by None is = none
      by (Some b) is = each x b refl is

  bases_by : (P : List Held → Type 0) (p : Part) → P [] → (p.needs.has_base ≡ true → (x : Operand) (b : Base) →
      slice_get (given homes layout kind w pattern found plan).operands p.place ≡ Some x → x.base ≡ Some b → P (of_value (base_of asks p) (slot b))) → P (bases p)
  bases_by P p none each = by p.needs.has_base refl
    where
      by : (b : Bool) → p.needs.has_base ≡ b → P (if b then of_operand (base_of asks p) (slice_get (given homes layout kind w pattern found plan).operands p.place) else [])
      by true has = operand_cases P (base_of asks p) none (slice_get (given homes layout kind w pattern found plan).operands p.place) (λ x b of based. each has x b of based)
      by false has = none

  pub bases_spare : (i : ℕ) (p : Part) → slice_get plan.parts i ≡ Some p → is_result p ≡ true → AreSpare (bases p)
  bases_spare i p stands is = bases_by AreSpare p tt (λ has x b of based. value_spare (base_of asks p) (slot b)
      (base_spare homes layout kind w pattern found plan symbols regs m sp f at i p stands is has))

  module _ (on : AreOnRest symbols regs (other homes layout kind w pattern found plan symbols regs m sp f at) m (own homes layout kind w pattern found plan)
      (mode homes layout kind w pattern found plan) (tree homes layout kind w pattern found plan) (Free homes layout kind w pattern found plan) xs) where
    abbrev r1 : Regs
    r1 = regs_after k'.keyed.effects (other homes layout kind w pattern found plan symbols regs m sp f at)

    pub bases_hold : (i : ℕ) (p : Part) → slice_get plan.parts i ≡ Some p → is_result p ≡ true → Holds r1 (bases p)
    bases_hold i p stands is = bases_by (Holds r1) p tt (λ has x b of based. value_holds r1 (base_of asks p) (slot b) (λ v there.
        base_held homes layout kind w pattern found plan symbols regs m sp f at k'.keys es k'.keyed.effects
        (are_keys homes layout kind w pattern found plan symbols regs m sp f at plain natural quiet whole Told spared es does) k'.keyed.keyed on
        i p x b v (record { stands = stands; of = of }) is based has there))

  -- by the register of its base
  pub based : (i : ℕ) (p : Part) (x : Operand) (s : Rtx) (e : Effect) → IsPart (given homes layout kind w pattern found plan) plan i p x → is_result p ≡ true →
      p.needs.has_base ≡ true → (out : IsOut symbols regs m x.tree s e) → (r : Regs) (n : List MemByte) → IsThere n e → Holds r (bases p) →
      StandsOut symbols r n x.tree (on_register (base_of asks p) x) out.width out.value e
  based i p x s e part is has out r n there holds =
      let b = some_base x.base ((f.sound.says i p x part).base has) in
      let v = some_there (slot b.0) (f.slots p.place x b.0 part.of b.1) in
      let list_is : bases p ≡ record { reg = base_of asks p; width = W64; value = v.0 } ∷ [] =
      ap (λ c. if c then of_operand (base_of asks p) (slice_get (given homes layout kind w pattern found plan).operands p.place) else []) has ∙
      ap (of_operand (base_of asks p)) part.of ∙ ap (of_base (base_of asks p)) b.1 ∙ ap (of_value (base_of asks p)) v.1 in
      based_stands symbols regs m sp f.pointer f.small f.memory_is x b.0 (base_of asks p) v.0 out.width out.value e r n (f.operands p.place x part.of) b.1
      (spare_some (base_of asks p) (base_spare homes layout kind w pattern found plan symbols regs m sp f at i p part.stands is has)) v.1
      (subst (Holds r) list_is holds).0 out.place there

  -- ---- far results

  far_result : (p : Part) (k : ℤ) → is_result p ≡ true → p.needs.far ≡ Some k → ends_far p ≡ true
  far_result p k is far = ap (λ b. b && is_some p.needs.far) is ∙ ap is_some far

  same_what : (a b : Ask) → a ≡ b → a.what ≡ b.what
  same_what a b same = ap (λ (a : Ask). a.what) same

  module _ (i : ℕ) (p : Part) (k : ℤ) (stands : slice_get plan.parts i ≡ Some p) (is : is_result p ≡ true) (far : p.needs.far ≡ Some k) where
    own_differs : (j : ℕ) (q : Part) → slice_get plan.parts j ≡ Some q → is_result q ≡ true → own_of asks q ≢ end_far_of asks p
    own_differs j q there is_q same =
        let e = same_what (ask Own q.holder) (ask ResultFar p.place) (f.sound.apart (ask Own q.holder) (ask ResultFar p.place)
        (own_asked plan.parts j q there (and_parts q.is_moved q.needs.is_output is_q).0) (end_far_asked plan.parts i p stands (far_result p k is far)) same) in
        let no : Own ≡ ResultFar = e in let never : ⊥ = cc in never

    base_differs : (j : ℕ) (q : Part) → slice_get plan.parts j ≡ Some q → is_result q ≡ true → q.needs.has_base ≡ true → base_of asks q ≢ end_far_of asks p
    base_differs j q there is_q has same =
        let holds = has_register homes layout kind w pattern found plan symbols regs m sp f at q is_q has in
        let base_is : base_of asks q ≡ register_for asks (base_ask q) = ap (λ b. if b then register_for asks (base_ask q) else own_of asks q) holds in
        by q.is_moved (same_what (base_ask q) (ask ResultFar p.place) (f.sound.apart (base_ask q) (ask ResultFar p.place)
        (base_asked plan.parts j q there holds) (end_far_asked plan.parts i p stands (far_result p k is far)) (sym base_is ∙ same)))
      where
        by : (b : Bool) → (if b then ask ResultBase q.place else ask StayingBase q.holder).what ≡ ResultFar → ⊥
        by true e = let no : ⊥ = cc in no
        by false e = let no : ⊥ = cc in no

    fresh : IsFresh symbols [] (end_far_of asks p)
        (hs homes layout kind w pattern found plan symbols regs m sp f at plain natural quiet whole Told spared es does bases)
    fresh = through_fresh symbols (list homes layout kind w pattern found plan symbols regs m sp f at plain natural quiet whole Told spared es does bases)
        (end_far_of asks p) plan.parts (λ j q there is_q. fresh_both symbols (end_far_of asks p) (own_held (own_of asks q) (last_of xs q.place)) (bases q)
        (own_fresh symbols (end_far_of asks p) (own_of asks q) (last_of xs q.place) (own_differs j q there is_q))
        (bases_by (IsFresh symbols [] (end_far_of asks p)) q tt (λ has x b of based. value_fresh symbols (end_far_of asks p) (base_of asks q) (slot b) (base_differs j q there is_q has))))

  module _ (stay : AllStay symbols Told spared es) (left : AllLeave 2 es) where
    pub far_end_here : (i : ℕ) (p : Part) (x : Operand) (k : ℤ) → IsPart (given homes layout kind w pattern found plan) plan i p x → is_result p ≡ true → p.needs.far ≡ Some k →
        (l : IsLast xs p.place) → OutOf homes layout kind w pattern found plan symbols regs m sp f at plain natural quiet whole Told spared es does x l.effect →
        EndsFar symbols Told spared (g homes layout kind w pattern found plan symbols regs m sp f at).operands asks xs regs m
        (hs homes layout kind w pattern found plan symbols regs m sp f at plain natural quiet whole Told spared es does bases) p l.effect
    far_end_here i p x k part is far l o =
        let own_there = own_spare homes layout kind w pattern found plan f.sound i p part.stands (and_parts p.is_moved p.needs.is_output is).0 in
        let same = sym k'.keyed.same in
        let among = last_among xs p.place l.effect l.is in
        far_ends symbols Told spared (g homes layout kind w pattern found plan symbols regs m sp f at).operands asks xs regs m
        (hs homes layout kind w pattern found plan symbols regs m sp f at plain natural quiet whole Told spared es does bases) sp f.pointer f.small f.memory_is
        (subst (AreThere m) same (effects_there symbols regs m (homed homes layout w) es does)) (subst (AllLeave 2) same left)
        p x o.source l.effect k part.of far o.out (spare_some (own_of asks p) own_there)
        (value_low symbols regs m f.memory_is o.source o.out.width o.out.value o.out.value_is)
        (λ r holds. own_gives symbols regs regs m (own_of asks p) x.tree o.out.width o.out.value l.effect r o.out.place
        (subst (λ e. Holds r (own_held (own_of asks p) e)) l.is
        (holds_first r (own_held (own_of asks p) (last_of xs p.place)) (bases p)
        (through_gives symbols (list homes layout kind w pattern found plan symbols regs m sp f at plain natural quiet whole Told spared es does bases) r plan.parts i p part.stands is holds)).0))
        (one_stays symbols Told spared l.effect es (subst (Among l.effect) k'.keyed.same among) stay) among
        (f.operands p.place x part.of) (sym (f.sound.says i p x part).far ∙ far)
        (spare_of symbols regs m sp (given homes layout kind w pattern found plan) plan f.sound (ask ResultFar p.place)
        (end_far_asked plan.parts i p part.stands (far_result p k is far)))
        (own_differs i p k part.stands is far i p part.stands is) (fresh i p k part.stands is far)
