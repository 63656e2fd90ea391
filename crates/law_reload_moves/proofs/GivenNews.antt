-- What is new for the operands of a chosen plan, as the effects of the instruction ask it.
use Rattle.std.proofs.Common.{◌≡◌, ◌≢◌, ◌⊎◌, inl, inr, ℕ, zero, suc, ◌≤◌, ◌&&◌, ◌||◌, not, if◌then◌else◌, Bool, true, false, List, [], ◌∷◌, length, Option, Some, None, refl, sym, ap, subst, ◌∙◌, arith}
use Rattle.std.proofs.lemmas.Bool.{and_parts}
use Rattle.std.proofs.lemmas.Bool.Decides.{nat_tests}
use Rattle.std.specs.Option.{option_map_or}
use Rattle.std.specs.Prelude.{ℤ, pos, slice_get, nat_le, ◌==◌}
use Rattle.law_operands_fetched.specs.bits64.declared.Width.{Width}
use Rattle.law_operands_fetched.specs.rtx_tree.Tree.{reg_of}
use Rattle.law_operands_fetched.specs.rtx_tree.declared.class.Class.TheVariants as class
use Rattle.law_operands_fetched.specs.rtx_tree.declared.code.Mode.{Mode}
use Rattle.law_operands_fetched.specs.rtx_tree.declared.code.Mode.TheVariants.{Void}
use Rattle.law_operands_fetched.specs.rtx_tree.declared.function.Kind.{Kind}
use Rattle.law_operands_fetched.specs.rtx_tree.declared.machine.SymbolAt.{SymbolAt}
use Rattle.law_operands_fetched.specs.rtx_tree.declared.memories.MemByte.{MemByte}
use Rattle.law_operands_fetched.specs.rtx_tree.declared.tree.Rtx.{Rtx}
use Rattle.law_operands_fetched.specs.rtl_func.Shapes.{class_at, mode_at, is_shaped}
use Rattle.law_operands_fetched.proofs.rtl_func.AllPass.{all_pass}
use Rattle.law_operands_fetched.specs.rtl_step.Regs.{Regs}
use Rattle.law_operands_fetched.specs.rtl_step.Value.{width_of}
use Rattle.law_operands_fetched.specs.md_match.Pattern.{Ops, operand_numbered, instantiated}
use Rattle.law_operands_fetched.specs.assign.declared.home.HomeOf.{HomeOf}
use Rattle.law_operands_fetched.specs.assign.declared.places.Layout.{Layout}
use Rattle.law_operands_fetched.specs.reload_homes.Homes.{homed}
use Rattle.law_operands_fetched.specs.reload_operands.Directions.{is_clobbered}
use Rattle.law_operands_fetched.specs.reload_operands.declared.operand.Operand.{Operand}
use Rattle.law_operands_fetched.proofs.reload_moves.AskLaws.{own_asked, base_asked}
use Rattle.law_operands_fetched.specs.reload_moves.Moves.{own_of, comes_in}
use Rattle.law_operands_fetched.specs.reload_moves.Registers.{ask, base_ask, holds_base, register_for, is_result}
use Rattle.law_operands_fetched.specs.reload_moves.declared.ask.Ask.{Ask}
use Rattle.law_operands_fetched.specs.reload_moves.declared.ask.What.TheVariants.{Own, StayingBase, ResultBase}
use Rattle.law_operands_fetched.specs.reload_moves.declared.part.Part.{Part}
use Rattle.law_operands_fetched.specs.reload_choice.Insns.{new_tree}
use Rattle.law_operands_fetched.specs.reload_choice.Movable.{are_same_inputs, are_same_outputs, is_alone, share}
use Rattle.law_operands_fetched.specs.reload_choice.Sound.{IsPart, IsSoundPlan}
use Rattle.law_operands_fetched.specs.reload_choice.declared.given.Given.{Given}
use Rattle.law_operands_fetched.specs.reload_choice.declared.given.Plan.{Plan}
use Rattle.law_operands_fetched.specs.law_operands_replaced.Places.{StandsFor}
use Rattle.law_operands_fetched.specs.law_operands_replaced.Spare.{is_spare, KnowsRest}
use Rattle.law_operands_fetched.proofs.law_operands_replaced.Addresses.{IsNewTree}
use Rattle.law_reload_moves.proofs.Chosen.{given, asks, news, moved_tree, known_of, IsNewAt, new_at}
use Rattle.law_operands_fetched.proofs.law_operands_replaced.ElementTurns.{NewFor, stays_for, moves_for}
use Rattle.law_reload_moves.proofs.NewsLaws.{result_numbered}
use Rattle.law_reload_moves.proofs.TakenPlaces.{IsRead}
use Rattle.law_operands_fetched.proofs.law_operands_replaced.Valued.{HasValue}

-- a part that is a result, at a place
pub record IsResultAt (plan : Plan) (k : ℕ) : Type 0 where
  pub p : Part
  pub stands : slice_get plan.parts k ≡ Some p
  pub is : is_result p ≡ true

same_holder : (a b : ℕ) → ask Own a ≡ ask Own b → a ≡ b
same_holder a b is = ap (λ (x : Ask). x.place) is

pub shares : (p q : Part) → p.is_moved ≡ true → q.is_moved ≡ true → p.holder ≡ q.holder → share p q ≡ true
shares p q moved moved' same =
    let eq : (p.holder == q.holder) ≡ true = grind (arith, nat_tests, same) in
    ap (λ b. b && (q.is_moved && (p.holder == q.holder))) moved ∙ ap (λ b. b && (p.holder == q.holder)) moved' ∙ eq

alone_by : (output other : Bool) → output ≡ true → (not output || not other) ≡ true → other ≡ false
alone_by true true is has = absurd (let no : ⊥ = cc in no)
alone_by true false is has = refl
alone_by false other is has = absurd (let no : ⊥ = cc in no)

neither : (a b : Bool) → (a || b) ≡ false → b ≡ false
neither true b is = absurd (let no : ⊥ = cc in no)
neither false b is = is

module _ (homes : List HomeOf) (layout : Layout) (kind : Kind) (w pattern : Rtx) (found : Ops) (plan : Plan) where
  abbrev g : Given
  g = given homes layout kind w pattern found plan

  abbrev list : List Ask
  list = asks homes layout kind w pattern found plan

  -- the register of the operand at a place, its mode, and its tree
  abbrev pub own : ℕ → ℕ
  own k = option_map_or (own_of list) (slice_get plan.parts k) 0

  abbrev pub mode : ℕ → Mode
  mode k = option_map_or (λ x. x.mode) (slice_get g.operands k) Void

  abbrev pub tree : ℕ → Rtx
  tree k = option_map_or (λ x. x.tree) (slice_get g.operands k) g.insn

  abbrev pub result_at : ℤ → Option ℕ
  result_at = result_numbered list g.operands plan.parts

  -- an operand is read, or a clobber names it; a register is that of no result
  abbrev pub Reads : ℤ → Type 0
  Reads number = (k : ℕ) → number ≡ pos k → IsRead pattern k

  abbrev pub Lost : ℤ → Type 0
  Lost number = (k : ℕ) → number ≡ pos k → is_clobbered pattern k ≡ true

  abbrev pub Free : ℕ → Type 0
  Free q = ((k : ℕ) → IsResultAt plan k → q ≢ own k) ×
      ((i : ℕ) (p : Part) → slice_get plan.parts i ≡ Some p → holds_base p ≡ true → q ≢ register_for list (base_ask p))

  module _ (sound : IsSoundPlan g plan) where
    pub at_place : (at : ℕ) (p : Part) (x : Operand) → IsPart g plan at p x → slice_get plan.parts p.place ≡ Some p
    at_place at p x part = ap (slice_get plan.parts) (sound.in_order at p part.stands) ∙ part.stands

    pub own_is : (at : ℕ) (p : Part) (x : Operand) → IsPart g plan at p x → own p.place ≡ own_of list p
    own_is at p x part = ap (λ o. option_map_or (own_of list) o 0) (at_place at p x part)

    pub own_spare : (at : ℕ) (p : Part) → slice_get plan.parts at ≡ Some p → p.is_moved ≡ true → is_spare (own_of list p) ≡ true
    own_spare at p stands moved =
        let asked = own_asked plan.parts at p stands moved in
        let least = sound.least (ask Own p.holder) asked in
        let most = sound.greatest (ask Own p.holder) asked in
        grind (arith, nat_tests, least, most)

    -- two that are moved into one register
    pub one_holder : (i j : ℕ) (p q : Part) → slice_get plan.parts i ≡ Some p → slice_get plan.parts j ≡ Some q → p.is_moved ≡ true → q.is_moved ≡ true →
        own_of list p ≡ own_of list q → p.holder ≡ q.holder
    one_holder i j p q at at' moved moved' same =
        same_holder p.holder q.holder (sound.apart (ask Own p.holder) (ask Own q.holder) (own_asked plan.parts i p at moved) (own_asked plan.parts j q at' moved') same)

    -- the operand of a part
    pub record HasOperand (p : Part) : Type 0 where
      pub x : Operand
      pub of : slice_get g.operands p.place ≡ Some x

    there_by : {A B : Type 0} (xs : List A) (ys : List B) (i : ℕ) (x : A) → length xs ≡ length ys → slice_get xs i ≡ Some x → (y : B) × (slice_get ys i ≡ Some y)
    there_by [] ys i x long is = absurd (let no : ⊥ = cc in no)
    there_by (a ∷ xs) [] i x long is = absurd (omega (arith, long))
    there_by (a ∷ xs) (b ∷ ys) zero x long is = (b, refl)
    there_by (a ∷ xs) (b ∷ ys) (suc i) x long is = there_by xs ys i x (let fewer : length xs ≡ length ys = omega (arith, long) in fewer) is

    pub operand_of : (at : ℕ) (p : Part) → slice_get plan.parts at ≡ Some p → HasOperand p
    operand_of at p is =
        let found' = there_by plan.parts g.operands at p sound.covers is in
        record { x = found'.0; of = ap (slice_get g.operands) (sound.in_order at p is) ∙ found'.1 }

    result_moved : (p : Part) → is_result p ≡ true → (p.is_moved ≡ true) × (p.needs.is_output ≡ true)
    result_moved p is = and_parts p.is_moved p.needs.is_output is

    -- nor of a base
    pub no_base : (at : ℕ) (p : Part) (x : Operand) → IsPart g plan at p x → p.is_moved ≡ true → (i : ℕ) (q : Part) → slice_get plan.parts i ≡ Some q → holds_base q ≡ true →
        own_of list p ≢ register_for list (base_ask q)
    no_base at p x part moved i q stands holds same =
        by q.is_moved (ap (λ (a : Ask). a.what) (sound.apart (ask Own p.holder) (base_ask q) (own_asked plan.parts at p part.stands moved) (base_asked plan.parts i q stands holds) same))
      where
        by : (b : Bool) → Own ≡ (if b then ask ResultBase q.place else ask StayingBase q.holder).what → ⊥
        by true is = let no : ⊥ = cc in no
        by false is = let no : ⊥ = cc in no

    no_result : (at : ℕ) (p : Part) (x : Operand) → IsPart g plan at p x → p.is_moved ≡ true → x.is_clobbered ≡ true → (k : ℕ) → IsResultAt plan k → own_of list p ≢ own k
    no_result at p x part moved lost k r same =
        let both = result_moved r.p r.is in
        let o = operand_of k r.p r.stands in
        let part' : IsPart g plan k r.p o.x = record { stands = r.stands; of = o.of } in
        let own_k : own k ≡ own_of list r.p = ap (λ o. option_map_or (own_of list) o 0) r.stands in
        let holder = one_holder k at r.p p r.stands part.stands both.0 moved (sym own_k ∙ sym same) in
        let may = sound.shared k at r.p p o.x x part' part (shares r.p p both.0 moved holder) in
        let last = (and_parts (are_same_inputs o.x x) _ may).1 in
        let alone = (and_parts (are_same_outputs o.x x) (is_alone o.x x) last).1 in
        let output : o.x.is_output ≡ true = sym (sound.says k r.p o.x part').output ∙ both.1 in
        let none = neither x.is_scratch x.is_clobbered (alone_by o.x.is_output (x.is_scratch || x.is_clobbered) output alone) in
        let e : true ≡ false = sym lost ∙ none in let no : ⊥ = cc in no

    -- the register of what a clobber names is that of no result and of no base
    pub clobbered_free : (at : ℕ) (p : Part) (x : Operand) → IsPart g plan at p x → p.is_moved ≡ true → x.is_clobbered ≡ true → Free (own_of list p)
    clobbered_free at p x part moved lost = (no_result at p x part moved lost, no_base at p x part moved)

    module _ (symbols : List SymbolAt) (regs other : Regs) (m : List MemByte) (known : KnowsRest regs other)
        (made : instantiated pattern found ≡ Some w) (shaped : all_pass is_shaped w ≡ true) where
      -- what is known of new trees where operands and bases are fetched
      pub record AreFetched : Type 0 where
        pub new_tree_is : (at : ℕ) (p : Part) (x : Operand) (y : Rtx) → IsPart g plan at p x →
            (p.is_moved ≡ true → (p.needs.is_input ≡ true) × HasValue symbols regs m x.tree) → new_tree list p x ≡ Some y → IsNewTree symbols regs other m x.tree y
        pub valued : (at : ℕ) (p : Part) (x : Operand) → IsPart g plan at p x → comes_in p ≡ true → HasValue symbols regs m x.tree
        pub place_is : (at : ℕ) (p : Part) (x : Operand) (y : Rtx) → IsPart g plan at p x → p.is_moved ≡ false → new_tree list p x ≡ Some y →
            (class_at y ≡ class.Memory) ⊎ (class_at x.tree ≡ class.Binary)
        pub modes : (at : ℕ) (p : Part) (x : Operand) → IsPart g plan at p x →
            (width_of (mode_at x.tree) ≡ width_of x.mode) ⊎ (width_of (mode_at x.tree) ≡ None)

      abbrev pub IsNewFor : ℤ → Rtx → Rtx → Type 0
      IsNewFor number z r =
          NewFor symbols regs other m known own mode tree Free result_at (news homes layout kind w pattern found plan) Reads Lost number z r

      module _ (fetched : AreFetched) where
        read_is : (at : ℕ) (p : Part) (x : Operand) (y : Rtx) → IsPart g plan at p x → p.is_moved ≡ true → new_tree list p x ≡ Some y → IsRead pattern x.number →
            IsNewTree symbols regs other m x.tree y
        read_is at p x y part moved new (inl input) =
            let k = known_of homes layout kind w pattern found plan p.place x part.of in
            let needs : p.needs.is_input ≡ true = (sound.says at p x part).input ∙ k.input ∙ input in
            fetched.new_tree_is at p x y part (λ _. (needs, fetched.valued at p x part (ap (λ b. b && p.needs.is_input) moved ∙ needs))) new
        read_is at p x y part moved new (inr hidden) =
            let k = known_of homes layout kind w pattern found plan p.place x part.of in
            let e : true ≡ false = sym hidden ∙ sym k.hidden ∙ sound.shown at p x part moved in absurd (let no : ⊥ = cc in no)

        mode_by : (at : ℕ) (p : Part) (x : Operand) → IsPart g plan at p x → (z : Rtx) → z ≡ x.tree → (v : Width) → width_of (mode_at z) ≡ Some v →
            width_of (mode p.place) ≡ Some v
        mode_by at p x part z tree_is v wide =
            let here : mode p.place ≡ x.mode = ap (λ o. option_map_or (λ x. x.mode) o Void) part.of in
            let of_tree : width_of (mode_at x.tree) ≡ Some v = ap (λ z. width_of (mode_at z)) (sym tree_is) ∙ wide in
            elim (fetched.modes at p x part) [
              | inl same ↦ ap width_of here ∙ sym same ∙ of_tree
              | inr none ↦ absurd (let e : ◌≡◌ {A = Option Width} None (Some v) = sym none ∙ of_tree in let no : ⊥ = cc in no)
            ]

        by_part : (number : ℤ) (z r : Rtx) (b : Bool) → (is : IsNewAt homes layout kind w pattern found plan made shaped sound number z r) → is.p.is_moved ≡ b → IsNewFor number z r
        by_part number z r false n stays =
            stays_for (subst (λ z. IsNewTree symbols regs other m z r) (sym n.tree_is)
            (fetched.new_tree_is n.at n.p n.x r n.part (λ moved. absurd (let e : true ≡ false = sym moved ∙ stays in let no : ⊥ = cc in no)) n.new_is))
            (subst (λ z. (class_at r ≡ class.Memory) ⊎ (class_at z ≡ class.Binary)) (sym n.tree_is) (fetched.place_is n.at n.p n.x r n.part stays n.new_is))
            (n.result_is ∙ ap (λ b. if b then Some n.p.place else None) stays)
        by_part number z r true n moved =
            let here : own n.p.place ≡ own_of list n.p = own_is n.at n.p n.x n.part in
            let tree_here : tree n.p.place ≡ n.x.tree = ap (λ o. option_map_or (λ x. x.tree) o g.insn) n.part.of in
            let mode_here : mode n.p.place ≡ n.x.mode = ap (λ o. option_map_or (λ x. x.mode) o Void) n.part.of in
            moves_for n.p.place (n.tree_is ∙ sym tree_here)
            (moved_tree list n.p n.x r moved n.new_is ∙ ap (λ md. reg_of md (own_of list n.p)) (sym mode_here) ∙ ap (reg_of (mode n.p.place)) (sym here))
            (ap is_spare here ∙ own_spare n.at n.p n.part.stands moved)
            (n.result_is ∙ ap (λ b. if b then Some n.p.place else None) moved)
            (mode_by n.at n.p n.x n.part z n.tree_is)
            (λ reads. subst (λ z. IsNewTree symbols regs other m z r) (sym n.tree_is) (read_is n.at n.p n.x r n.part moved n.new_is (reads n.x.number n.number_is)))
            (λ lost. subst Free (sym here) (clobbered_free n.at n.p n.x n.part moved
            ((known_of homes layout kind w pattern found plan n.p.place n.x n.part.of).clobbered ∙ lost n.x.number n.number_is)))

        -- what is new at each place
        pub new_is : (number : ℤ) (z r : Rtx) → StandsFor pattern (homed homes layout w) number z → operand_numbered (news homes layout kind w pattern found plan) number ≡ Some r →
            IsNewFor number z r
        new_is number z r stands has =
            let n = new_at homes layout kind w pattern found plan made shaped sound number z r stands has in
            by_part number z r n.p.is_moved n refl
