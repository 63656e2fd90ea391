-- What registers hold behind the moves before an instruction, of each operand, also of one that shares with another in front of it.
use Rattle.std.proofs.Common.{◌≡◌, ◌⊎◌, ⊎_elim, inl, inr, ℕ, ◌==◌, ◌&&◌, ◌||◌, not, Bool, true, false, if◌then◌else◌, List, slice_get, Option, Some, refl, sym, ap, ◌∙◌, arith}
use Rattle.std.proofs.lemmas.Bool.{and_parts, and_from}
use Rattle.std.proofs.lemmas.Bool.Decides.{nat_tests}
use Rattle.std.specs.FinMap.{get}
use Rattle.std.specs.Prelude.{ℤ}
use Rattle.law_operands_replaced.specs.bits64.declared.Width.{Width}
use Rattle.law_operands_replaced.specs.bits64.declared.Width.TheVariants.{W64}
use Rattle.law_operands_replaced.specs.rtx_tree.declared.machine.SymbolAt.{SymbolAt}
use Rattle.law_operands_replaced.specs.rtx_tree.declared.memories.MemByte.{MemByte}
use Rattle.law_operands_replaced.specs.run_memory.RunMemory.{load}
use Rattle.law_operands_replaced.specs.rtl_step.Regs.{Regs, known_of}
use Rattle.law_operands_replaced.specs.rtl_step.Value.{width_of, value_of}
use Rattle.c_eval.specs.Value.{same_tree, same_mode}
use Rattle.c_eval.proofs.Same.{same_trees, same_modes}
use Rattle.law_operands_replaced.specs.reload_operands.declared.operand.Base.{Base}
use Rattle.law_operands_replaced.specs.reload_operands.declared.operand.Operand.{Operand}
use Rattle.reload_moves.specs.declared.ask.Ask.{Ask}
use Rattle.reload_moves.specs.declared.ask.What.{What}
use Rattle.reload_moves.specs.declared.ask.What.TheVariants.{Own, StayingBase, ResultBase, StayingFar}
use Rattle.reload_moves.specs.declared.part.Part.{Part}
use Rattle.reload_moves.specs.Moves.{own_of, base_of, far_of, comes_in}
use Rattle.reload_moves.specs.Registers.{ask, holds_base, base_ask, stays_far, register_for}
use Rattle.reload_choice.specs.reload_fit.Addressed.{slot_offset, far_offset}
use Rattle.reload_choice.specs.declared.given.Given.{Given}
use Rattle.reload_choice.specs.declared.given.Plan.{Plan}
use Rattle.reload_choice.specs.Movable.{are_same_outputs, is_alone}
use Rattle.reload_choice.specs.Sound.{IsPart}
use Rattle.law_operands_replaced.specs.Held.{Held}
use Rattle.law_operands_fetched.proofs.AsksBefore.{Each, asks_before, stands_at}
use Rattle.law_operands_fetched.proofs.Based.{address_part, base_part, on_slot, base_value}
use Rattle.law_operands_replaced.proofs.Fetches.{offset_by}
use Rattle.law_operands_fetched.proofs.Fetching.{asks, Fetching, Says, own, base, far, Told}
use Rattle.law_operands_fetched.proofs.Firsts.{of_own, of_base, of_far}

module _ (symbols : List SymbolAt) (regs : Regs) (memory : List MemByte) (sp : ℕ) (given : Given) (plan : Plan) where
  abbrev at_ask : Ask → ℕ
  at_ask a = register_for (asks symbols regs memory sp given plan) a

  abbrev pub slot_of : Base → Option ℕ
  slot_of b = load W64 memory (offset_by symbols memory sp (slot_offset b))

  pub record Contents (other : Regs) : Type 0 where
    -- the own register of an input that is moved has its value in the mode of the move
    pub own : (i : ℕ) (p : Part) (x : Operand) (w : Width) (v : ℕ) → IsPart given plan i p x → comes_in p ≡ true →
        width_of x.mode ≡ Some w →
        value_of symbols regs memory x.tree w ≡ Some v → get other (own_of (asks symbols regs memory sp given plan) p) ≡ Some (known_of w v)
    -- the register of a base, of what stays and of a result, has the 64 bits of its slot
    pub base : (i : ℕ) (p : Part) (x : Operand) (b : Base) (v : ℕ) → IsPart given plan i p x → holds_base p ≡ true → x.base ≡ Some b →
        slot_of b ≡ Some v → get other (base_of (asks symbols regs memory sp given plan) p) ≡ Some (known_of W64 v)
    -- that of a far base of what stays has sp and how far it is from it
    pub far : (i : ℕ) (p : Part) (x : Operand) (n : ℤ) → IsPart given plan i p x → stays_far p ≡ true → p.needs.far ≡ Some n →
        get other (far_of (asks symbols regs memory sp given plan) p) ≡ Some (known_of W64 (offset_by symbols memory sp n))

  -- ---- what one that asks was told

  holds_as : (other : Regs) (a : Ask) (h : Held) (w : Width) (v : ℕ) → h.reg ≡ at_ask a → h.width ≡ w → h.value ≡ v →
      get other h.reg ≡ Some (known_of h.width h.value) → get other (at_ask a) ≡ Some (known_of w v)
  holds_as other a h w v reg width value holds =
      ap (get other) (sym reg) ∙ holds ∙ ap (λ w. Some (known_of w h.value)) width ∙ ap (λ v. Some (known_of w v)) value

  same_ask_place : (a b : Ask) → a ≡ b → a.place ≡ b.place
  same_ask_place a b same = ap (λ (a : Ask). a.place) same

  same_ask_what : (a b : Ask) → a ≡ b → a.what ≡ b.what
  same_ask_what a b same = ap (λ (a : Ask). a.what) same

  -- a base that stays, and one of a result
  base_staying : (moved : Bool) (p : Part) (k : ℕ) → (if moved then ask ResultBase p.place else ask StayingBase
      p.holder) ≡ ask StayingBase k →
      (moved ≡ false) × (p.holder ≡ k)
  base_staying false p k same = (refl, same_ask_place _ _ same)
  base_staying true p k same = absurd (let e : ResultBase ≡ StayingBase = same_ask_what _ _ same in let no : ⊥ = cc in no)

  base_result : (moved : Bool) (p : Part) (k : ℕ) → (if moved then ask ResultBase p.place else ask StayingBase
      p.holder) ≡ ask ResultBase k →
      p.place ≡ k
  base_result true p k same = same_ask_place _ _ same
  base_result false p k same = absurd (let e : StayingBase ≡ ResultBase = same_ask_what _ _ same in let no : ⊥ = cc in no)

  base_other : (moved : Bool) (p : Part) (a : Ask) (w : What) → (if moved then ask ResultBase p.place else ask
      StayingBase p.holder) ≡ a → a.what ≡ w →
      (w ≡ Own) ⊎ (w ≡ StayingFar) → ⊥
  base_other true p a w same is kind = ⊎_elim
      (λ (e : w ≡ Own). let f : ResultBase ≡ Own = same_ask_what _ _ same ∙ is ∙ e in let no : ⊥ = cc in no)
      (λ (e : w ≡ StayingFar). let f : ResultBase ≡ StayingFar = same_ask_what _ _ same ∙ is ∙ e in let no : ⊥ = cc in no) kind
  base_other false p a w same is kind = ⊎_elim
      (λ (e : w ≡ Own). let f : StayingBase ≡ Own = same_ask_what _ _ same ∙ is ∙ e in let no : ⊥ = cc in no)
      (λ (e : w ≡ StayingFar). let f : StayingBase ≡ StayingFar = same_ask_what _ _ same ∙ is ∙ e in let no : ⊥ = cc in no) kind

  module _ (f : Fetching symbols regs memory sp given plan) where
    same_inputs : (a b : Bool) (tree mode : Bool) → a ≡ true → b ≡ true → not (a && b) || (tree && mode) ≡ true →
        (tree ≡ true) × (mode ≡ true)
    same_inputs a b tree mode first second may =
        and_parts tree mode (sym (ap (λ a. not (a && b) || (tree && mode)) first ∙ ap (λ b. not b || (tree && mode)) second) ∙ may)

    -- inputs with one register are one tree, and moved in one mode
    inputs_same : (i j : ℕ) (p q : Part) (x y : Operand) → IsPart given plan i p x → IsPart given plan j q y →
        comes_in p ≡ true → comes_in q ≡ true →
        p.holder ≡ q.holder → (x.tree ≡ y.tree) × (x.mode ≡ y.mode)
    inputs_same i j p q x y part part' comes comes' holder =
        let first = and_parts p.is_moved p.needs.is_input comes in
        let second = and_parts q.is_moved q.needs.is_input comes' in
        let one : (p.holder == q.holder) ≡ true = grind (arith, nat_tests, holder) in
        let may = f.sound.shared i j p q x y part part' (and_from p.is_moved _ first.0 (and_from q.is_moved _ second.0 one)) in
        let both = same_inputs x.is_input y.is_input (same_tree x.tree y.tree) (same_mode x.mode y.mode)
        (sym (f.sound.says i p x part).input ∙ first.1) (sym (f.sound.says j q y part').input ∙ second.1)
        (and_parts _ (are_same_outputs x y && is_alone x y) may).0 in
        (same_trees x.tree y.tree both.0, same_modes x.mode y.mode both.1)

    -- what stands at one place is one
    parts_same : (i j : ℕ) (p q : Part) (x y : Operand) → IsPart given plan i p x → IsPart given plan j q y → p.place ≡ q.place → x ≡ y
    parts_same i j p q x y part part' place =
        let e : Some x ≡ Some y = sym part.of ∙ ap (slice_get given.operands) place ∙ part'.of in let same : x ≡ y = cc in same

    -- the slot of a base is told by the tree
    slots_same : (i j : ℕ) (p q : Part) (x y : Operand) (b c : Base) → IsPart given plan i p x → IsPart given plan j q y → x.tree ≡ y.tree →
        x.base ≡ Some b → y.base ≡ Some c → slot_of b ≡ slot_of c
    slots_same i j p q x y b c part part' same at at' =
        let is = f.operands p.place x part.of in
        let is' = f.operands q.place y part'.of in
        sym (base_value symbols regs memory sp f.pointer f.small b (address_part x.tree) (on_slot b x.tree (is.based b at))) ∙
        ap (λ t. value_of symbols regs memory (base_part (address_part t)) W64) same ∙
        base_value symbols regs memory sp f.pointer f.small c (address_part y.tree) (on_slot c y.tree (is'.based c at'))

    own_told : (other : Regs) (a : Ask) (h : Held) → Says symbols regs memory sp given plan a h →
        (i : ℕ) (p : Part) (x : Operand) (w : Width) (v : ℕ) →
        a ≡ ask Own p.holder → IsPart given plan i p x → comes_in p ≡ true → width_of x.mode ≡ Some w →
        value_of symbols regs memory x.tree w ≡ Some v →
        get other h.reg ≡ Some (known_of h.width h.value) → get other (at_ask (ask Own p.holder)) ≡ Some (known_of w v)
    own_told other _ _ (own j q y w' v' part' comes' wide' at') i p x w v same part comes wide at holds =
        let both = inputs_same j i q p y x part' part comes' comes (same_ask_place _ _ same) in
        let e : Some w' ≡ Some w = sym wide' ∙ ap width_of both.1 ∙ wide in
        let width : w' ≡ w = cc in
        let e' : Some v' ≡ Some v = sym at' ∙ ap (λ t. value_of symbols regs memory t w') both.0 ∙
        ap (value_of symbols regs memory x.tree) width ∙ at in
        holds_as other (ask Own p.holder) _ w v (ap at_ask same) width (let value : v' ≡ v = cc in value) holds
    own_told other _ _ (base j q y b v' part' has based at') i p x w v same part comes wide at holds =
        absurd (base_other q.is_moved q (ask Own p.holder) Own same refl (inl refl))
    own_told other _ _ (far j q y n part' stays at') i p x w v same part comes wide at holds =
        absurd (let e : StayingFar ≡ Own = same_ask_what _ _ same in let no : ⊥ = cc in no)

    -- of the parts that ask for a base alike the slots are one
    bases_same : (moved : Bool) (i j : ℕ) (p q : Part) (x y : Operand) → p.is_moved ≡ moved →
        base_ask q ≡ (if moved then ask ResultBase p.place else ask StayingBase p.holder) →
        IsPart given plan i p x → IsPart given plan j q y → y.tree ≡ x.tree
    bases_same true i j p q x y m same part part' = ap (λ (x : Operand). x.tree)
        (parts_same j i q p y x part' part (base_result q.is_moved q p.place same))
    bases_same false i j p q x y m same part part' =
        let staying = base_staying q.is_moved q p.holder same in
        same_trees y.tree x.tree (f.sound.kept j i q p y x part' part staying.1 (stays q.is_moved staying.0))
      where
        stays : (b : Bool) → b ≡ false → b ≡ false
        stays b is = is

    base_told : (other : Regs) (a : Ask) (h : Held) → Says symbols regs memory sp given plan a h →
        (i : ℕ) (p : Part) (x : Operand) (b : Base) (v : ℕ) →
        a ≡ base_ask p → IsPart given plan i p x → x.base ≡ Some b → slot_of b ≡ Some v →
        get other h.reg ≡ Some (known_of h.width h.value) → get other (at_ask (base_ask p)) ≡ Some (known_of W64 v)
    base_told other _ _ (own j q y w' v' part' comes' wide' at') i p x b v same part based at holds =
        absurd (base_other p.is_moved p (ask Own q.holder) Own (sym same) refl (inl refl))
    base_told other _ _ (base j q y c v' part' has based' at') i p x b v same part based at holds =
        let e : Some v' ≡ Some v = sym at' ∙ slots_same j i q p y x c b part' part
        (bases_same p.is_moved i j p q x y refl same part part') based' based ∙ at in
        holds_as other (base_ask p) _ W64 v (ap at_ask same) refl (let value : v' ≡ v = cc in value) holds
    base_told other _ _ (far j q y n part' stays at') i p x b v same part based at holds =
        absurd (base_other p.is_moved p (ask StayingFar q.holder) StayingFar (sym same) refl (inr refl))

    far_told : (other : Regs) (a : Ask) (h : Held) → Says symbols regs memory sp given plan a h → (i : ℕ) (p : Part) (x : Operand) (n : ℤ) →
        a ≡ ask StayingFar p.holder → IsPart given plan i p x → p.needs.far ≡ Some n →
        get other h.reg ≡ Some (known_of h.width h.value) → get other (at_ask (ask StayingFar p.holder)) ≡ Some
        (known_of W64 (offset_by symbols memory sp n))
    far_told other _ _ (own j q y w' v' part' comes' wide' at') i p x n same part far_is holds =
        absurd (let e : Own ≡ StayingFar = same_ask_what _ _ same in let no : ⊥ = cc in no)
    far_told other _ _ (base j q y c v' part' has based' at') i p x n same part far_is holds =
        absurd (base_other q.is_moved q (ask StayingFar p.holder) StayingFar same refl (inr refl))
    far_told other _ _ (far j q y m part' stays far_is') i p x n same part far_is holds =
        let kept : q.is_moved ≡ false = not_true q.is_moved (and_parts (not q.is_moved) _ stays).0 in
        let tree : y.tree ≡ x.tree = same_trees y.tree x.tree (f.sound.kept j i q p y x part' part (same_ask_place _ _ same) kept) in
        let e : Some m ≡ Some n = sym far_is' ∙ (f.sound.says j q y part').far ∙ ap far_offset tree ∙
        sym (f.sound.says i p x part).far ∙ far_is in
        holds_as other (ask StayingFar p.holder) _ W64 (offset_by symbols memory sp n) (ap at_ask same) refl
        (ap (offset_by symbols memory sp) (let value : m ≡ n = cc in value)) holds
      where
        not_true : (b : Bool) → not b ≡ true → b ≡ false
        not_true true is = absurd (let no : ⊥ = cc in no)
        not_true false is = refl

    -- ---- of each operand

    pub contents : (other : Regs) → Each (Told symbols regs memory sp given plan other) (asks_before plan.parts) → Contents other
    contents other told = record {
      own = λ i p x w v part comes wide at.
          let t = of_own plan.parts f.sound.in_order (Told symbols regs memory sp given plan other) told p
          (stands_at plan.parts f.sound.in_order i p part.stands) comes in
          own_told other (ask Own p.holder) t.held t.says i p x w v refl part comes wide at t.holds;
      base = λ i p x b v part holds based at.
          let t = of_base plan.parts f.sound.in_order (Told symbols regs memory sp given plan other) told p
          (stands_at plan.parts f.sound.in_order i p part.stands) holds in
          ap (λ c. get other (if c then at_ask (base_ask p) else at_ask (ask Own p.holder))) holds ∙
          base_told other (base_ask p) t.held t.says i p x b v refl part based at t.holds;
      far = λ i p x n part stays at.
          let t = of_far plan.parts f.sound.in_order (Told symbols regs memory sp given plan other) told p
          (stands_at plan.parts f.sound.in_order i p part.stands) stays in
          far_told other (ask StayingFar p.holder) t.held t.says i p x n refl part at t.holds;
    }
