-- The address of a result that is moved has its value still when the result ends, behind the other effects of its instruction.
use Rattle.std.proofs.Common.{◌≡◌, ◌≢◌, ◌⊎◌, inl, inr, ℕ, Bool, true, false, List, [], ◌∷◌, map, Option, Some, refl, sym, ap, subst, ◌∙◌, arith}
use Rattle.std.proofs.lemmas.Bool.{and_parts}
use Rattle.std.specs.List.{list_all}
use Rattle.std.specs.Prelude.{pos, slice_get}
use Rattle.law_operands_fetched.specs.bits64.declared.Width.{Width}
use Rattle.law_operands_fetched.specs.bits64.declared.Width.TheVariants.{W64}
use Rattle.law_operands_fetched.specs.rtx_tree.Operands.{operand_at}
use Rattle.law_operands_fetched.specs.rtx_tree.Tree.{head_of, kids_of, mentions_reg}
use Rattle.law_operands_fetched.specs.rtx_tree.declared.code.Code.TheVariants as code
use Rattle.law_operands_fetched.specs.rtx_tree.declared.function.Insn.{Insn}
use Rattle.law_operands_fetched.specs.rtx_tree.declared.function.Kind.TheVariants as kind
use Rattle.law_operands_fetched.specs.rtx_tree.declared.memories.MemByte.{MemByte}
use Rattle.law_operands_fetched.specs.rtx_tree.declared.tree.Rtx.{Rtx}
use Rattle.law_operands_fetched.specs.rtl_func.Shapes.{is_shaped}
use Rattle.law_operands_fetched.proofs.rtl_func.AllPass.{all_pass, within}
use Rattle.law_operands_fetched.specs.rtl_step.Effect.{effects_of, address_of, regs_after, memory_after}
use Rattle.law_operands_fetched.specs.rtl_step.Regs.{Regs}
use Rattle.law_operands_fetched.specs.rtl_step.Value.{value_of}
use Rattle.law_operands_fetched.specs.rtl_step.declared.effect.Effect.{Effect}
use Rattle.law_operands_fetched.specs.rtl_step.declared.step.State.{State}
use Rattle.law_operands_fetched.specs.md_constr.Inputs as inputs
use Rattle.law_operands_fetched.specs.md_match.Pattern.{Ops, role_of}
use Rattle.law_operands_fetched.specs.md_match.declared.role.Role.{Role}
use Rattle.law_operands_fetched.specs.md_match.declared.role.Role.TheVariants.{Operand as Placed, Operator, Itself}
use Rattle.law_operands_fetched.specs.assign.declared.home.Home.{Home}
use Rattle.law_operands_fetched.specs.assign.declared.home.Home.TheVariants.{Hard, Slot}
use Rattle.law_operands_fetched.specs.reload_homes.Homes.{home_of, homed}
use Rattle.law_operands_fetched.specs.reload_operands.declared.operand.Operand.{Operand}
use Rattle.law_operands_fetched.specs.reload_moves.Registers.{is_result}
use Rattle.law_operands_fetched.specs.reload_moves.declared.part.Part.{Part}
use Rattle.law_operands_fetched.specs.reload_choice.Sound.{IsPart}
use Rattle.law_operands_fetched.specs.reload_choice.declared.given.Plan.{Plan}
use Rattle.law_operands_fetched.specs.law_homes.Stands.{content_in, has_home}
use Rattle.law_operands_fetched.proofs.law_homes.HomesApart.{below_itself, slot_within}
use Rattle.law_operands_fetched.proofs.law_homes.Placing.{Machines, AreHomed, placed_stays}
use Rattle.law_operands_fetched.proofs.law_homes.Plain.{PlainDoes}
use Rattle.law_operands_fetched.proofs.law_homes.Setting.{Setting, IsNamed, IsCounted, base, StandsIn, machines, are_homed, frame_is, home_least}
use Rattle.law_operands_fetched.proofs.law_homes.Tamed.{plain_tame}
use Rattle.law_operands_fetched.specs.law_operands_replaced.Spare.{KnowsRest, NamesNoSpare}
use Rattle.law_reload_moves.proofs.Chosen.{given}
use Rattle.law_reload_moves.proofs.GivenNews.{result_at}
use Rattle.law_reload_moves.proofs.GivenSteady.{IsElsewhere, elsewhere, slot_there, address_quiet, some_leave}
use Rattle.law_operands_fetched.proofs.law_operands_replaced.Keyed.{effects_in, last_of}
use Rattle.law_operands_fetched.proofs.law_operands_replaced.Keying.{with_keys}
use Rattle.law_reload_moves.proofs.LeftRegisters.{AreOnHard}
use Rattle.law_reload_moves.proofs.OldAddresses.{HasOld, IsBack, AllBack, insn_back}
use Rattle.law_operands_fetched.proofs.OnRegister.{IsOperand}
use Rattle.law_reload_moves.proofs.OwnHeld.{none_last}
use Rattle.law_reload_moves.proofs.PlainGiven.{all_hard, effect, slots_are_apart, slot_value, w_effect}
use Rattle.law_operands_fetched.proofs.law_operands_replaced.Registers.{value_alike}
use Rattle.law_reload_moves.proofs.Reloaded.{IsReloaded, w, x, w_natural, x_natural, shaped_nodes, stands_at}
use Rattle.law_reload_moves.proofs.ResultRows.{Key, Row, Rows, none, more, IsKeyedRow, keyed_row}
use Rattle.law_reload_moves.proofs.ResultsEnd.{Among, AllAmong, besides, besides_among, all_through, Reached, reached_all}
use Rattle.law_reload_moves.proofs.ResultsHeld.{IsLast, last_cases}
use Rattle.law_reload_moves.proofs.ResultsOrderly.{placed_keys}
use Rattle.law_reload_moves.proofs.RowsThere.{AllRows, all_rows}
use Rattle.law_reload_moves.proofs.SoleRows.{sole_rows}
use Rattle.law_reload_moves.proofs.SparedRows.{rows_spare}
use Rattle.law_reload_moves.proofs.StandingRegisters.{framed_stands, homed_stands}
use Rattle.law_reload_moves.proofs.SteadyAddress.{AllLeave, all_leave}
use Rattle.law_reload_moves.proofs.StillSlots.{Spares, AllSpare, IsStill, still}
use Rattle.law_reload_moves.proofs.TakenThere.{IsAt}
use Rattle.law_operands_fetched.proofs.law_operands_replaced.WholeTurns.{AllNone}

module _ (c : Setting) (place : ℕ) (i : Insn) (at : slice_get c.f.insns place ≡ Some i) (pattern : Rtx) (found : Ops) (plan : Plan)
    (is : IsReloaded c i pattern found plan) (s u : State) (stands : StandsIn c place s u) where
  abbrev W : Rtx
  W = w c place i at pattern found plan is

  abbrev hm : Rtx → Rtx
  hm = homed c.homes c.layout

  one_spares : (b : Rtx) (e : Effect) (es : List Effect) → Among e es → AllSpare c.homes c.layout (base c) b es → Spares c.homes c.layout (base c) b e
  one_spares b e [] among spare = absurd among
  one_spares b e (o ∷ es) (inl same) spare = subst (Spares c.homes c.layout (base c) b) (sym same) spare.0
  one_spares b e (o ∷ es) (inr later) spare = one_spares b e es later spare.1

  some_spare : (b : Rtx) (ds es : List Effect) → AllAmong ds es → AllSpare c.homes c.layout (base c) b es → AllSpare c.homes c.layout (base c) b ds
  some_spare b [] es among spare = tt
  some_spare b (d ∷ ds) es among spare = (one_spares b d es among.0 spare, some_spare b ds es among.1 spare)

  -- ---- the two machines behind some effects

  module _ (b : Rtx) (old : HasOld c place i at s b) (ds : List Effect) (spare : AllSpare c.homes c.layout (base c) b ds)
      (left : (q : ℕ) → mentions_reg q (homed c.homes c.layout b) ≡ true → AllLeave q ds) (pointer : AllLeave 2 ds)
      (quiet : NamesNoSpare (homed c.homes c.layout b)) (shaped : all_pass is_shaped b ≡ true)
      (r : Regs) (knows : KnowsRest (regs_after ds u.regs) r) where
    -- a register of the address
    record IsLate (reg : ℕ) : Type 0 where
      counted : IsCounted c.f place reg
      there : mentions_reg reg b ≡ true

    abbrev late_machines : Machines
    late_machines = record {
      symbols = c.world.symbols;
      regs = s.regs;
      others = r;
      memory = s.memory;
      other = memory_after ds u.memory;
      base = base c;
      top = c.start.sp;
      Named = IsNamed;
      Counts = IsLate;
    }

    here : IsStill c place s u stands b (memory_after ds u.memory)
    here = still c place s u stands b ds spare

    late_value : (reg : ℕ) → IsLate reg → (home : Home) → home_of c.homes reg ≡ home → (wide : Width) (v : ℕ) →
        content_in c.layout (base c) u.regs u.memory reg home wide ≡ Some v → content_in c.layout (base c) r (memory_after ds u.memory) reg home wide ≡ Some v
    late_value reg late (Hard h) home wide v held =
        let has = homed_stands c.homes c.layout b shaped reg h home late.there in
        knows h (quiet h has) wide v (value_alike u.regs (regs_after ds u.regs) h wide (all_leave h ds u.regs (left h has)) ∙ held)
    late_value reg late Slot home wide v held = here.slots reg late.there home wide ∙ held

    late_homed : AreHomed c.homes c.layout late_machines
    late_homed = record {
      within = here.within;
      vars = stands.vars;
      pointer = knows 2 refl W64 (base c) (value_alike u.regs (regs_after ds u.regs) 2 W64 (all_leave 2 ds u.regs pointer) ∙ stands.kept.pointer);
      frame = frame_is c;
      word = c.lawful.words.sp;
      sp_home = below_itself c.f c.homes c.are_homes 2 (omega arith);
      values = λ reg late wide v has. late_value reg late (home_of c.homes reg) refl wide v (stands.values reg late.counted.named.has late.counted.live wide v has);
      named = λ reg late. late.counted.named;
      positive = λ reg named. let least = home_least reg named.has in omega (arith, least);
      slot = λ reg named home. let within = slot_within c.f c.homes c.layout c.frame reg home in omega (arith, within);
      there = λ reg named home wide. here.room reg home wide;
    }

    no_vars : (reg : ℕ) → IsNamed reg → reg ≢ 32
    no_vars reg named same = let has = named.has in let e : false ≡ true = sym (ap has_home same) ∙ has in let no : ⊥ = cc in no

    known_late : (reg : ℕ) → mentions_reg reg old.old ≡ true → (reg ≡ 32) ⊎ IsLate reg
    known_late reg has = elim (old.counted reg has) [
      | inl vars ↦ inl vars
      | inr counted ↦ inr (record {
        counted = counted;
        there = ap (mentions_reg reg) (sym old.framed_is) ∙ framed_stands c.layout.size old.old old.shaped reg (no_vars reg counted.named) has;
      })
    ]

    -- the address has the value that it has in the function
    late_is : value_of c.world.symbols r (memory_after ds u.memory) (homed c.homes c.layout b) W64 ≡ Some old.value
    late_is = ap (λ b. value_of c.world.symbols r (memory_after ds u.memory) (hm b) W64) (sym old.framed_is) ∙
        (placed_stays c.homes c.layout late_machines late_homed old.old old.sized known_late).values W64 old.value old.value_is

  -- as it has before them
  now_is : (b : Rtx) (old : HasOld c place i at s b) → value_of c.world.symbols u.regs u.memory (homed c.homes c.layout b) W64 ≡ Some old.value
  now_is b old = ap (λ b. value_of c.world.symbols u.regs u.memory (hm b) W64) (sym old.framed_is) ∙
      (placed_stays c.homes c.layout (machines c place s u) (are_homed c place s u stands) old.old old.sized old.counted).values W64 old.value old.value_is

  -- ---- a result

  module _ (plain : i.kind ≡ kind.Plain) (es : List Effect) (does : effects_of c.world.symbols s.regs s.memory i.pattern ≡ Some es)
      (d : PlainDoes c place i at plain s u stands es) where
    abbrev Part' : ℕ → Part → Operand → Type 0
    Part' = IsPart (given c.homes c.layout i.kind W pattern found plan) plan

    abbrev RowOf : Rtx → Rtx → Effect → Type 0
    RowOf = Row c.homes c.layout i.kind W pattern found plan is.sound c.world.symbols u.regs u.memory

    abbrev RowsOf : List Rtx → List Rtx → List Effect → Type 0
    RowsOf = Rows c.homes c.layout i.kind W pattern found plan is.sound c.world.symbols u.regs u.memory

    abbrev KeyOf : Rtx → Option ℕ
    KeyOf = Key c.homes c.layout i.kind W pattern found plan is.sound c.world.symbols u.regs u.memory

    hard : AreOnHard d.these × AllLeave 2 d.these
    hard = all_hard c d.these (plain_tame c place i at s u stands plain es d)

    -- the effect that is the last of a result, with the address that it had
    record BackRow (k : ℕ) (e : Effect) : Type 0 where
      q : Rtx
      v : Rtx
      row : RowOf q v e
      key : KeyOf q ≡ Some k
      back : IsBack c place i at s v

    back_row : (qs vs : List Rtx) (es : List Effect) → RowsOf qs vs es → AllBack c place i at s vs → (k : ℕ) (e : Effect) → last_of (with_keys (map KeyOf qs) es) k ≡ Some e →
        BackRow k e
    back_row _ _ _ none back k e last = absurd (let no : ⊥ = cc in no)
    back_row _ _ _ (more q v e' qs vs es row rows) back k e last =
        elim (last_cases (last_of (with_keys (map KeyOf qs) es) k) (KeyOf q) k e' e last) [
          | inl later ↦ back_row qs vs es rows back.1 k e later
          | inr found_here ↦ record { q = q; v = v; row = subst (RowOf q v) found_here.1 row; key = found_here.0; back = back.0 }
        ]

    abbrev Rows' : Type 0
    Rows' = AllRows c.homes c.layout i.kind W pattern found plan is.sound c.world.symbols u.regs u.memory d.these

    module _ (j : ℕ) (p : Part) (o : Operand) (a : Rtx) (at_a : ℕ) (part : Part' j p o) (good : IsOperand o) (result : is_result p ≡ true) (no_base : p.needs.has_base ≡ false)
        (is_a : address_of o.tree ≡ Some a) (value : value_of c.world.symbols u.regs u.memory a W64 ≡ Some at_a)
        (keys : List (Option ℕ)) (last : IsLast (with_keys keys d.these) p.place) (all : effects_in (with_keys keys d.these) ≡ d.these)
        (r0 r : Regs) (n : List MemByte) (reached : Reached (besides p.place (with_keys keys d.these)) u.regs u.memory r0 n) (knows : KnowsRest r0 r) where
      abbrev Late : Type 0
      Late = value_of c.world.symbols r n a W64 ≡ Some at_a

      reached_too : Reached d.these u.regs u.memory r0 n
      reached_too = subst (λ es. Reached es u.regs u.memory r0 n) all (reached_all p.place (with_keys keys d.these) u.regs u.memory r0 n reached)

      among_all : AllAmong reached.made d.these
      among_all = subst (AllAmong reached.made) all (all_through reached.made (besides p.place (with_keys keys d.these)) (effects_in (with_keys keys d.these))
          (besides_among p.place (with_keys keys d.these)) reached.among)

      -- ---- in other memory

      abbrev There : Type 0
      There = IsElsewhere c.homes c.layout i.kind W pattern found plan is.sound c.world.symbols u.regs u.memory d.these
          (x_natural c place i at pattern found plan is) d.is hard.0 hard.1 o a

      abbrev KeyedRow : Rtx → Type 0
      KeyedRow v = IsKeyedRow c.homes c.layout i.kind W pattern found plan is.sound c.world.symbols u.regs u.memory v last.effect p.place

      row_here : keys ≡ map KeyOf (inputs.effects_of pattern) → Rows' → BackRow p.place last.effect
      row_here same rows = back_row (inputs.effects_of pattern) (inputs.effects_of W) d.these rows.rows
          (insn_back c place i at s es (effect c place i at pattern found plan is s u stands) (shaped_nodes c place i at pattern found plan is) does) p.place last.effect
          (ap (λ keys. last_of (with_keys keys d.these) p.place) (sym same) ∙ last.is)

      keyed_here : (b : BackRow p.place last.effect) → KeyedRow b.v
      keyed_here b = keyed_row c.homes c.layout i.kind W pattern found plan is.sound c.world.symbols u.regs u.memory b.q b.v last.effect p.place b.row b.key

      operand_is : (v : Rtx) (row : KeyedRow v) → row.x ≡ o
      operand_is v row =
          let part_here : slice_get plan.parts p.place ≡ Some p = ap (slice_get plan.parts) (is.sound.in_order j p part.stands) ∙ part.stands in
          let p_is : row.p ≡ p = (let both : Some row.p ≡ Some p = sym row.part.stands ∙ part_here in cc) in
          (let both : Some row.x ≡ Some o = sym row.part.of ∙
          ap (λ (p : Part). slice_get (given c.homes c.layout i.kind W pattern found plan).operands p.place) p_is ∙ part.of in cc)

      target_is : (there : There) (v : Rtx) (row : KeyedRow v) → row.t ≡ there.was
      target_is there v row =
          let both : Some row.t ≡ Some there.was = sym row.found_is ∙ ap (λ (o : Operand). operand_at found o.number) (operand_is v row) ∙ there.found_is in cc

      memory_is : (there : There) (v : Rtx) (row : KeyedRow v) → (head_of row.t).code ≡ code.Mem
      memory_is there v row = ap (λ t. (head_of t).code) (target_is there v row) ∙ there.memory

      old_here : (there : There) (b : BackRow p.place last.effect) → KeyedRow b.v → HasOld c place i at s there.address
      old_here there b row = b.back row.t row.s there.address row.is_set row.are (memory_is there b.v row) (ap kids_of (target_is there b.v row) ∙ there.kid)

      first_shaped : (v t : Rtx) (rest : List Rtx) → kids_of v ≡ t ∷ rest → all_pass is_shaped v ≡ true → all_pass is_shaped t ≡ true
      first_shaped v t rest are shaped = (and_parts (all_pass is_shaped t) _ (ap (list_all (all_pass is_shaped)) (sym are) ∙ within is_shaped v shaped)).0

      shaped_here : (there : There) (b : BackRow p.place last.effect) → KeyedRow b.v → all_pass is_shaped there.address ≡ true
      shaped_here there b row = first_shaped there.was there.address [] there.kid (ap (all_pass is_shaped) (sym (target_is there b.v row)) ∙
          first_shaped b.v row.t (row.s ∷ []) row.are b.row.shaped)

      spare_here : keys ≡ map KeyOf (inputs.effects_of pattern) → Rows' → (there : There) (v : Rtx) → KeyedRow v →
          AllSpare c.homes c.layout (base c) there.address (besides p.place (with_keys keys d.these))
      spare_here same rows there v row =
          subst (λ keys. AllSpare c.homes c.layout (base c) there.address (besides p.place (with_keys keys d.these))) (sym same)
          (rows_spare c.homes c.layout i.kind W pattern found plan is.sound c.world.symbols u.regs u.memory (base c)
          (slot_value c place i at pattern found plan is s u stands) (slots_are_apart c) there.address v p.place
          (inputs.effects_of pattern) (inputs.effects_of W) d.these rows.rows
          (record { target = row.t; source = row.s; is_set = row.is_set; are = row.are; memory = memory_is there v row })
          (sole_rows c.homes c.layout i.kind W pattern found plan is.sound c.world.symbols u.regs u.memory (base c)
          (slot_value c place i at pattern found plan is s u stands) (slots_are_apart c) is.operators v o.number p.place
          (inputs.effects_of pattern) (inputs.effects_of W) d.these rows.rows (λ sets. there.alone)
          (is.operators p.place o part.of (is.sound.operator j p o part (and_parts p.is_moved p.needs.is_output result).0))
          (ap (λ (o : Operand). result_at c.homes c.layout i.kind W pattern found plan (pos o.number)) (sym (operand_is v row)) ∙ row.at))
          there.slots)

      homed_left : (there : There) (q : ℕ) → mentions_reg q (hm there.address) ≡ true → AllLeave q reached.made
      homed_left there q has = some_leave q reached.made d.these among_all (there.left q (ap (mentions_reg q) (sym there.homed_is) ∙ has))

      homed_quiet : (there : There) → NamesNoSpare (hm there.address)
      homed_quiet there q has = address_quiet o a good is_a q (ap (mentions_reg q) (sym there.homed_is) ∙ has)

      value_here : (there : There) (old : HasOld c place i at s there.address) → old.value ≡ at_a
      value_here there old =
          let both : Some old.value ≡ Some at_a = sym (now_is there.address old) ∙ ap (λ a. value_of c.world.symbols u.regs u.memory a W64) there.homed_is ∙ value in cc

      elsewhere_late : (there : There) (old : HasOld c place i at s there.address) → all_pass is_shaped there.address ≡ true →
          AllSpare c.homes c.layout (base c) there.address (besides p.place (with_keys keys d.these)) → Late
      elsewhere_late there old shaped spare =
          ap (λ a. value_of c.world.symbols r n a W64) (sym there.homed_is) ∙
          ap (λ n. value_of c.world.symbols r n (hm there.address) W64) reached.memory_is ∙
          late_is there.address old reached.made
          (some_spare there.address reached.made (besides p.place (with_keys keys d.these)) reached.among spare) (homed_left there)
          (some_leave 2 reached.made d.these among_all hard.1) (homed_quiet there) shaped r (subst (λ r0. KnowsRest r0 r) reached.regs_are knows) ∙
          ap Some (value_here there old)

      rows_late : keys ≡ map KeyOf (inputs.effects_of pattern) → Rows' → There → Late
      rows_late same rows there =
          let b = row_here same rows in
          let row = keyed_here b in
          elsewhere_late there (old_here there b row) (shaped_here there b row) (spare_here same rows there b.v row)

      none_late : AllNone keys → Late
      none_late nothing = absurd (none_last keys d.these p.place last.effect nothing last.is)

      -- it has its value still
      pub address_late : (keys ≡ map KeyOf (inputs.effects_of pattern)) ⊎ AllNone keys → Late
      address_late which = by o.in_slot refl
        where
          H : IsAt c.homes c.layout found pattern W (x c place i at pattern found plan is)
          H = stands_at c place i at pattern found plan is

          placed : keys ≡ map KeyOf (inputs.effects_of pattern) → role_of (head_of pattern).code ≢ Itself → Late
          placed same other = none_late (subst AllNone (sym same)
              (placed_keys (result_at c.homes c.layout i.kind W pattern found plan) (head_of pattern).code pattern refl other))

          by_role : o.in_slot ≡ false → (keys ≡ map KeyOf (inputs.effects_of pattern)) ⊎ AllNone keys → (role : Role) → role_of (head_of pattern).code ≡ role → Late
          by_role no_slot (inr nothing) role role_is = none_late nothing
          by_role no_slot (inl same) Itself role_is = rows_late same
              (all_rows c.homes c.layout i.kind W pattern found plan is.sound c.world.symbols u.regs u.memory d.these role_is H.made
              (w_effect c place i at pattern found plan is s u stands) H.shaped (w_natural c place i at pattern found plan is) d.is)
              (elsewhere c.homes c.layout i.kind W pattern found plan is.sound c.world.symbols u.regs u.memory d.these
              (x_natural c place i at pattern found plan is) d.is hard.0 hard.1 j p o a part result no_base no_slot is_a)
          by_role no_slot (inl same) Placed role_is = placed same (λ e. let no' : Placed ≡ Itself = sym role_is ∙ e in let no : ⊥ = cc in no)
          by_role no_slot (inl same) Operator role_is = placed same (λ e. let no' : Operator ≡ Itself = sym role_is ∙ e in let no : ⊥ = cc in no)

          by : (b : Bool) → o.in_slot ≡ b → Late
          by true in_slot = slot_there c.homes c.layout i.kind W pattern found plan is.sound c.world.symbols u.regs u.memory d.these
              (x_natural c place i at pattern found plan is) d.is hard.0 hard.1 j p o a at_a part good in_slot is_a value r0 r n reached_too knows
          by false no_slot = by_role no_slot which (role_of (head_of pattern).code) refl
