-- Each result that is moved ends behind a plain instruction: by an instruction alone, where its memory is near, or at a far base.
use Rattle.std.proofs.Common.{◌≡◌, ◌≢◌, ◌⊎◌, inl, inr, ℕ, if◌then◌else◌, Bool, true, false, List, [], ◌∷◌, ◌++◌, map, Option, Some, None, refl, sym, ap, subst, ◌∙◌}
use Rattle.std.proofs.lemmas.Bool.{and_parts}
use Rattle.std.specs.FinMap.{get}
use Rattle.std.specs.Prelude.{ℤ, is_some, slice_get}
use Rattle.law_operands_fetched.specs.bits64.Words.{low}
use Rattle.law_operands_fetched.specs.bits64.declared.Width.TheVariants.{W64}
use Rattle.law_operands_fetched.specs.rtx_tree.Tree.{head_of}
use Rattle.law_operands_fetched.specs.rtx_tree.declared.function.Kind.{Kind}
use Rattle.law_operands_fetched.specs.rtx_tree.declared.function.Kind.TheVariants as kinds
use Rattle.law_operands_fetched.specs.rtx_tree.declared.machine.SymbolAt.{SymbolAt}
use Rattle.law_operands_fetched.specs.rtx_tree.declared.memories.MemByte.{MemByte}
use Rattle.law_operands_fetched.specs.rtx_tree.declared.tree.Rtx.{Rtx}
use Rattle.law_operands_fetched.specs.rtl_func.Shapes.{is_effect, mode_at}
use Rattle.law_operands_fetched.proofs.rtl_func.AllPass.{all_pass}
use Rattle.law_operands_fetched.specs.rtl_step.Effect.{effects_of, address_of}
use Rattle.law_operands_fetched.specs.rtl_step.Regs.{Regs}
use Rattle.law_operands_fetched.specs.rtl_step.Value.{width_of, value_of}
use Rattle.law_operands_fetched.specs.rtl_step.declared.effect.Effect.{Effect}
use Rattle.law_operands_fetched.specs.sym_insns.Shape.{all_natural}
use Rattle.law_operands_fetched.specs.md_constr.Inputs as inputs
use Rattle.law_operands_fetched.specs.md_match.Pattern.{Ops, role_of}
use Rattle.law_operands_fetched.specs.md_match.declared.role.Role.{Role}
use Rattle.law_operands_fetched.specs.md_match.declared.role.Role.TheVariants.{Operand, Operator, Itself}
use Rattle.law_operands_fetched.specs.assign.declared.home.HomeOf.{HomeOf}
use Rattle.law_operands_fetched.specs.assign.declared.places.Layout.{Layout}
use Rattle.law_operands_fetched.specs.reload_homes.Homes.{homed}
use Rattle.law_operands_fetched.specs.reload_operands.declared.operand.Base.{Base}
use Rattle.law_operands_fetched.specs.reload_operands.declared.operand.Operand.{Operand as OperandOf}
use Rattle.law_operands_fetched.specs.reload_moves.Moves.{own_of, base_of, end_far_of, out_base}
use Rattle.law_operands_fetched.specs.reload_moves.Registers.{asks_of, is_result}
use Rattle.law_operands_fetched.specs.reload_moves.declared.ask.Ask.{Ask}
use Rattle.law_operands_fetched.specs.reload_moves.declared.part.Part.{Part}
use Rattle.law_operands_fetched.specs.reload_choice.reload_fit.Addressed.{on_register}
use Rattle.law_operands_fetched.specs.reload_choice.Insns.{reached}
use Rattle.law_operands_fetched.specs.reload_choice.Sound.{IsPart}
use Rattle.law_operands_fetched.specs.reload_choice.declared.given.Plan.{Plan}
use Rattle.law_operands_fetched.specs.law_operands_replaced.Held.{Held, Holds}
use Rattle.law_operands_fetched.specs.law_operands_replaced.Spare.{is_spare, KnowsRest, KeepsRest, NamesNoSpare}
use Rattle.law_operands_fetched.proofs.Bounded.{value_low}
use Rattle.law_operands_fetched.proofs.law_operands_replaced.Cells.{IsThere}
use Rattle.law_reload_moves.proofs.Chosen.{given}
use Rattle.law_operands_fetched.proofs.law_operands_replaced.EffectsThere.{effects_there}
use Rattle.law_operands_fetched.proofs.Fetching.{Fetching}
use Rattle.law_reload_moves.proofs.GivenNews.{own_spare, operand_of, result_at}
use Rattle.law_operands_fetched.proofs.law_operands_replaced.Keyed.{Keyed, last_of}
use Rattle.law_operands_fetched.proofs.law_operands_replaced.Keying.{with_keys}
use Rattle.law_reload_moves.proofs.NearEnds.{there_still, stands_out, near_end}
use Rattle.law_operands_fetched.proofs.law_operands_replaced.NewTrees.{is_whole}
use Rattle.law_operands_fetched.proofs.OnRegister.{based_mode}
use Rattle.law_reload_moves.proofs.OutEffects.{IsOut, set_out, StandsOut}
use Rattle.law_reload_moves.proofs.OwnHeld.{none_last, one_stays, own_held, own_gives}
use Rattle.law_reload_moves.proofs.PlainInner.{g, Effects, plain_keyed}
use Rattle.law_reload_moves.proofs.ResultRows.{Key, keyed_row}
use Rattle.law_reload_moves.proofs.ResultsEnd.{Among, last_among, besides, Reached, reached_all, EndsNear, EndsFar}
use Rattle.law_reload_moves.proofs.ResultsHeld.{IsLast, last_row, spare_some}
use Rattle.law_reload_moves.proofs.ResultsMayEnd.{list, hs}
use Rattle.law_reload_moves.proofs.ResultsOrderly.{placed_keys}
use Rattle.law_reload_moves.proofs.RowsThere.{AllRows, all_rows}
use Rattle.law_reload_moves.proofs.TakenThere.{IsAt}
use Rattle.law_operands_fetched.proofs.Through.{holds_first, through_gives}
use Rattle.law_operands_fetched.proofs.Window.{AllStay}
use Rattle.law_operands_fetched.proofs.law_operands_replaced.WholeTurns.{AllNone}

pub some_base : (o : Option Base) → is_some o ≡ true → (b : Base) × (o ≡ Some b)
some_base None is = absurd (let no : ⊥ = cc in no)
some_base (Some b) is = (b, refl)

module _ (homes : List HomeOf) (layout : Layout) (kind : Kind) (w pattern : Rtx) (found : Ops) (plan : Plan)
    (symbols : List SymbolAt) (regs : Regs) (m : List MemByte) (sp : ℕ)
    (f : Fetching symbols regs m sp (given homes layout kind w pattern found plan) plan)
    (at : IsAt homes layout found pattern w (homed homes layout w))
    (plain : kind ≡ kinds.Plain) (natural : all_natural (homed homes layout w) ≡ true) (quiet : NamesNoSpare (homed homes layout w))
    (whole : all_pass is_whole (homed homes layout w) ≡ true)
    (Told : Regs → List MemByte → Type 0) (spared : (r r' : Regs) (m : List MemByte) → KeepsRest r r' → Told r m → Told r' m)
    (es : List Effect) (does : effects_of symbols regs m (homed homes layout w) ≡ Some es) where
  abbrev hm : Rtx → Rtx
  hm = homed homes layout

  abbrev k' : Effects homes layout kind w pattern found plan symbols regs m sp f at es
  k' = plain_keyed homes layout kind w pattern found plan symbols regs m sp f at plain natural quiet whole es does

  abbrev pub xs : List Keyed
  xs = with_keys k'.keys es

  abbrev KeyOf : Rtx → Option ℕ
  KeyOf = Key homes layout kind w pattern found plan f.sound symbols regs m

  abbrev asks : List Ask
  asks = asks_of plan.parts

  abbrev Part' : ℕ → Part → OperandOf → Type 0
  Part' = IsPart (given homes layout kind w pattern found plan) plan

  -- what it has set
  pub record OutOf (x : OperandOf) (e : Effect) : Type 0 where
    pub source : Rtx
    pub out : IsOut symbols regs m x.tree source e

  module _ (effect : is_effect w ≡ true) (natural_w : all_natural w ≡ true) where
    row_out : (same : k'.keys ≡ map KeyOf (inputs.effects_of pattern)) → AllRows homes layout kind w pattern found plan f.sound symbols regs m es →
        (i : ℕ) (p : Part) (x : OperandOf) → Part' i p x → (e : Effect) → last_of xs p.place ≡ Some e → OutOf x e
    row_out same rows i p x part e is =
        let l = last_row homes layout kind w pattern found plan f.sound symbols regs regs m (inputs.effects_of pattern) (inputs.effects_of w) es rows.rows p.place e
        (ap (λ keys. last_of (with_keys keys es) p.place) (sym same) ∙ is) in
        let r = keyed_row homes layout kind w pattern found plan f.sound symbols regs m l.q l.v e p.place l.row l.key in
        let here : slice_get plan.parts p.place ≡ Some p = ap (slice_get plan.parts) (f.sound.in_order i p part.stands) ∙ part.stands in
        let p_is : r.p ≡ p = (let both : Some r.p ≡ Some p = sym r.part.stands ∙ here in cc) in
        let x_is : r.x ≡ x = (let both : Some r.x ≡ Some x = sym r.part.of ∙
        ap (λ (p : Part). slice_get (given homes layout kind w pattern found plan).operands p.place) p_is ∙ part.of in cc) in
        subst (λ x. OutOf x e) x_is (record { source = hm r.s; out = set_out symbols regs m r.x.tree (hm r.s) e r.does })

    pub out_here : (i : ℕ) (p : Part) (x : OperandOf) → Part' i p x → (e : Effect) → last_of xs p.place ≡ Some e → OutOf x e
    out_here i p x part e is = by k'.which (role_of (head_of pattern).code) refl
      where
        none_has : AllNone k'.keys → OutOf x e
        none_has none = absurd (none_last k'.keys es p.place e none is)

        placed : (k'.keys ≡ map KeyOf (inputs.effects_of pattern)) → role_of (head_of pattern).code ≢ Itself → OutOf x e
        placed same other' = none_has (subst AllNone (sym same) (placed_keys (result_at homes layout kind w pattern found plan) (head_of pattern).code pattern refl other'))

        by : (k'.keys ≡ map KeyOf (inputs.effects_of pattern)) ⊎ AllNone k'.keys → (r : Role) → role_of (head_of pattern).code ≡ r → OutOf x e
        by (inr none) r role = none_has none
        by (inl same) Itself role = row_out same (all_rows homes layout kind w pattern found plan f.sound symbols regs m es role at.made effect at.shaped natural_w does) i p x part e is
        by (inl same) Operand role = placed same (λ e. let no' : Operand ≡ Itself = sym role ∙ e in let no : ⊥ = cc in no)
        by (inl same) Operator role = placed same (λ e. let no' : Operator ≡ Itself = sym role ∙ e in let no : ⊥ = cc in no)

    module _ (stay : AllStay symbols Told spared es) (bases : Part → List Held)
        (steady : (i : ℕ) (p : Part) (x : OperandOf) (a : Rtx) (v : ℕ) → Part' i p x → is_result p ≡ true → p.needs.has_base ≡ false → address_of x.tree ≡ Some a →
        value_of symbols regs m a W64 ≡ Some v → IsLast xs p.place → (r0 r : Regs) (n : List MemByte) → Reached (besides p.place xs) regs m r0 n → KnowsRest r0 r → value_of symbols r n a W64 ≡ Some v)
        (based : (i : ℕ) (p : Part) (x : OperandOf) (s : Rtx) (e : Effect) → Part' i p x → is_result p ≡ true → p.needs.has_base ≡ true →
        (out : IsOut symbols regs m x.tree s e) → (r : Regs) (n : List MemByte) → IsThere n e → Holds r (bases p) →
        StandsOut symbols r n x.tree (on_register (base_of asks p) x) out.width out.value e) where
      abbrev held : List Held
      held = hs homes layout kind w pattern found plan symbols regs m sp f at plain natural quiet whole Told spared es does bases

      abbrev Near : Part → Effect → Type 0
      Near = EndsNear symbols Told spared (g homes layout kind w pattern found plan symbols regs m sp f at).operands asks xs regs m held

      abbrev Far : Part → Effect → Type 0
      Far = EndsFar symbols Told spared (g homes layout kind w pattern found plan symbols regs m sp f at).operands asks xs regs m held

      list_gives : (i : ℕ) (p : Part) → slice_get plan.parts i ≡ Some p → is_result p ≡ true → (r : Regs) → Holds r held →
          Holds r (own_held (own_of asks p) (last_of xs p.place)) × Holds r (bases p)
      list_gives i p stands is r holds = holds_first r (own_held (own_of asks p) (last_of xs p.place)) (bases p)
          (through_gives symbols (list homes layout kind w pattern found plan symbols regs m sp f at plain natural quiet whole Told spared es does bases) r plan.parts i p stands is holds)

      -- where what stands for the operand is its place
      near_by : (i : ℕ) (p : Part) (x : OperandOf) → Part' i p x → is_result p ≡ true → (l : IsLast xs p.place) → (o : OutOf x l.effect) → p.needs.far ≡ None →
          (b : Option ℕ) → out_base asks p ≡ b → width_of (mode_at (reached b x)) ≡ width_of (mode_at x.tree) →
          ((r0 r : Regs) (n : List MemByte) → Reached (besides p.place xs) regs m r0 n → KnowsRest r0 r → Holds r (bases p) → IsThere n l.effect →
          StandsOut symbols r n x.tree (reached b x) o.out.width o.out.value l.effect) → Near p l.effect
      near_by i p x part is l o near b b_is mode stands =
          let own_there = own_spare homes layout kind w pattern found plan f.sound i p part.stands (and_parts p.is_moved p.needs.is_output is).0 in
          near_end symbols Told spared (g homes layout kind w pattern found plan symbols regs m sp f at).operands asks xs regs m held p x o.source l.effect part.of near o.out
          (spare_some (own_of asks p) own_there)
          (value_low symbols regs m f.memory_is o.source o.out.width o.out.value o.out.value_is)
          (λ r holds. own_gives symbols regs regs m (own_of asks p) x.tree o.out.width o.out.value l.effect r o.out.place
          (subst (λ e. Holds r (own_held (own_of asks p) e)) l.is (list_gives i p part.stands is r holds).0))
          (one_stays symbols Told spared l.effect es (subst (Among l.effect) k'.keyed.same (last_among xs p.place l.effect l.is)) stay)
          (ap (λ b. width_of (mode_at (reached b x))) b_is ∙ mode ∙ o.out.wide)
          (λ r0 r n reach knows holds. subst (λ b. StandsOut symbols r n x.tree (reached b x) o.out.width o.out.value l.effect) (sym b_is)
          (let reach' : Reached es regs m r0 n = subst (λ es. Reached es regs m r0 n) k'.keyed.same (reached_all p.place xs regs m r0 n reach) in
          stands r0 r n reach knows (list_gives i p part.stands is r holds).1
          (there_still symbols regs m es (effects_there symbols regs m (hm w) es does) r0 n l.effect reach'
          (subst (Among l.effect) k'.keyed.same (last_among xs p.place l.effect l.is)))))

      -- the choice
      pub each_ends : ((i : ℕ) (p : Part) (x : OperandOf) (n : ℤ) → Part' i p x → is_result p ≡ true → p.needs.far ≡ Some n → (l : IsLast xs p.place) → OutOf x l.effect → Far p l.effect) →
          (i : ℕ) (p : Part) → slice_get plan.parts i ≡ Some p → is_result p ≡ true → (l : IsLast xs p.place) → Near p l.effect ⊎ Far p l.effect
      each_ends far i p stands is l = by p.needs.far p.needs.has_base refl refl
        where
          o : (x : OperandOf) × Part' i p x
          o = let o = operand_of homes layout kind w pattern found plan f.sound i p stands in (o.x, record { stands = stands; of = o.of })

          out : OutOf o.0 l.effect
          out = out_here i p o.0 o.1 l.effect l.is

          by : (n : Option ℤ) (has : Bool) → p.needs.far ≡ n → p.needs.has_base ≡ has → Near p l.effect ⊎ Far p l.effect
          by (Some n) has is_far is_based = inr (far i p o.0 n o.1 is is_far l out)
          by None false is_far is_based =
              inl (near_by i p o.0 o.1 is l out is_far None
              (ap (λ far. if is_some far then Some (end_far_of asks p) else (if p.needs.has_base then Some (base_of asks p) else None)) is_far ∙
              ap (λ b. if b then Some (base_of asks p) else None) is_based) refl
              (λ r0 r n reach knows holds there. stands_out symbols regs m es (effects_there symbols regs m (hm w) es does) o.0.tree o.0.tree out.out.width out.out.value l.effect r n
              out.out.place there (λ none. refl) (λ a v is_a value. (a, (is_a, steady i p o.0 a v o.1 is is_based is_a value l r0 r n reach knows)))))
          by None true is_far is_based =
              let b = some_base o.0.base ((f.sound.says i p o.0 o.1).base is_based) in
              inl (near_by i p o.0 o.1 is l out is_far (Some (base_of asks p))
              (ap (λ far. if is_some far then Some (end_far_of asks p) else (if p.needs.has_base then Some (base_of asks p) else None)) is_far ∙
              ap (λ b. if b then Some (base_of asks p) else None) is_based)
              (based_mode o.0 b.0 (base_of asks p) (f.operands p.place o.0 o.1.of) b.1)
              (λ r0 r n reach knows holds there. based i p o.0 out.source l.effect o.1 is is_based out.out r n there holds))
