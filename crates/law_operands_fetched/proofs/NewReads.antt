-- Each new tree of an instruction whose operands are moved is read as the operand in whose place it stands.
use Rattle.std.proofs.Common.{◌≡◌, ◌≢◌, ◌⊎◌, ⊎_elim, inl, inr, ℕ, ◌||◌, not, Bool, true, false, if◌then◌else◌, List, [], ◌∷◌, map, Option, Some, None, refl, sym, ap, subst, ◌∙◌, arith}
use Rattle.std.proofs.lemmas.Bool.{and_parts, and_from}
use Rattle.std.proofs.lemmas.Bool.Decides.{nat_tests}
use Rattle.std.specs.Prelude.{ℤ, is_some, nat_lt}
use Rattle.law_operands_replaced.specs.bits64.declared.Width.{Width}
use Rattle.law_operands_replaced.specs.bits64.declared.Width.TheVariants.{W64}
use Rattle.law_operands_replaced.specs.rtx_tree.Code.{class_of_code, mode_bits}
use Rattle.law_operands_replaced.specs.rtx_tree.Tree.{RtxHead, head_of, kids_of, reg_of}
use Rattle.law_operands_replaced.specs.rtx_tree.declared.class.Class.{Class}
use Rattle.law_operands_replaced.specs.rtx_tree.declared.class.Class.TheVariants as class
use Rattle.law_operands_replaced.specs.rtx_tree.declared.code.Code.{Code}
use Rattle.law_operands_replaced.specs.rtx_tree.declared.code.Mode.{Mode}
use Rattle.law_operands_replaced.specs.rtx_tree.declared.code.Mode.TheVariants.{DI}
use Rattle.law_operands_replaced.specs.rtx_tree.declared.machine.SymbolAt.{SymbolAt}
use Rattle.law_operands_replaced.specs.rtx_tree.declared.memories.MemByte.{MemByte}
use Rattle.law_operands_replaced.specs.rtx_tree.declared.tree.Rtx.{Rtx}
use Rattle.law_operands_replaced.proofs.rtx_tree.Trees.{head_of-tree}
use Rattle.law_operands_replaced.specs.rtl_func.Shapes.{class_at, mode_at, number_at, has_mode, is_narrower, is_bare, fits_row, is_shaped}
use Rattle.law_operands_replaced.proofs.rtl_func.AllPass.{itself}
use Rattle.law_operands_replaced.specs.rtl_step.Regs.{Regs}
use Rattle.law_operands_replaced.specs.rtl_step.Value.{Reading, width_of, value_by, value_of}
use Rattle.same_behaviour.specs.Lawful.{IsMemory}
use Rattle.law_operands_replaced.specs.reload_operands.declared.operand.Operand.{Operand}
use Rattle.reload_moves.specs.declared.ask.What.TheVariants.{Own, StayingFar}
use Rattle.reload_moves.specs.declared.part.Part.{Part}
use Rattle.reload_moves.specs.Moves.{own_of, base_of, far_of, comes_in}
use Rattle.reload_moves.specs.Registers.{ask, holds_base, base_ask, stays_far, register_for}
use Rattle.reload_moves.proofs.AskLaws.{base_asked, far_asked}
use Rattle.reload_choice.specs.reload_fit.Addressed.{on_register}
use Rattle.reload_choice.specs.declared.given.Given.{Given}
use Rattle.reload_choice.specs.declared.given.Plan.{Plan}
use Rattle.reload_choice.specs.Insns.{new_tree}
use Rattle.reload_choice.specs.Sound.{IsPart}
use Rattle.law_operands_replaced.proofs.Addresses.{is_new_class, IsNewTree}
use Rattle.law_operands_fetched.proofs.Bounded.{value_low}
use Rattle.law_operands_fetched.proofs.Contents.{Contents}
use Rattle.law_operands_fetched.proofs.Fetching.{asks, Fetching, spare_of, spare_some}
use Rattle.law_operands_fetched.proofs.NewOnes.{constant_free, moved_reads}
use Rattle.law_operands_fetched.proofs.OnRegister.{based_new, far_new}
use Rattle.law_operands_replaced.proofs.Readings.{IsFree, moded, same_width}
use Rattle.law_operands_replaced.proofs.ReadTrees.{read_in}
use Rattle.law_operands_fetched.proofs.TurnParts.{own_value, base_value, is_own_asked}
use Rattle.law_operands_replaced.proofs.Valued.{IsThere, by_row}

no_mode : {A : Type 0} (mode : Mode) → has_mode mode ≡ true → width_of mode ≡ None → A
no_mode mode has none = absurd (let e : ◌≡◌ {A = Option Width} None (Some (moded mode has).0) = sym none ∙
    (moded mode has).1 in let no : ⊥ = cc in no)

narrow_mode : (a b : Mode) → is_narrower a b ≡ true → has_mode a ≡ true
narrow_mode a b is = (and_parts (has_mode a) _ is).0

nothing_there : {A : Type 0} → IsThere None → A
nothing_there there = absurd (let e : ◌≡◌ {A = Option ℕ} None (Some there.0) = there.1 in let no : ⊥ = cc in no)

module _ (symbols : List SymbolAt) (regs : Regs) (memory : List MemByte) where
  abbrev read : Rtx → Reading
  read = read_in symbols regs memory

  -- what has no mode and a value: a constant, or a comparison
  data NoMode : Class → List Rtx → Type 0 where
    constant : NoMode class.Constant []
    compared : (a b : Rtx) → NoMode class.Comparison (a ∷ b ∷ [])

  row_none : (k : Class) (c : Code) (n : ℤ) (name : List ℕ) (mode : Mode) (number : ℕ) →
      fits_row k mode number [] ≡ true → width_of mode ≡ None →
      IsThere (value_by symbols regs memory k c n name [] W64) → NoMode k []
  row_none class.Constant c n name mode number fits none there = constant
  row_none class.Register c n name mode number fits none there = no_mode mode (and_parts (has_mode mode) _ fits).0 none
  row_none class.Symbol c n name mode number fits none there =
      absurd (let e : ◌≡◌ {A = Option Width} None (Some W64) = sym none ∙ same_width mode DI fits in let no : ⊥ = cc in no)
  row_none _ c n name mode number fits none there = nothing_there there

  row_one : (k : Class) (c : Code) (n : ℤ) (name : List ℕ) (mode : Mode) (number : ℕ) (a : Rtx) → fits_row k mode number (a ∷ []) ≡ true →
      width_of mode ≡ None → IsThere (value_by symbols regs memory k c n name (read a ∷ []) W64) → NoMode k (a ∷ [])
  row_one class.Memory c n name mode number a fits none there = no_mode mode (and_parts (has_mode mode) _ fits).0 none
  row_one class.Lowpart c n name mode number a fits none there = no_mode mode
      (narrow_mode mode (mode_at a) (and_parts _ (is_narrower mode (mode_at a)) fits).1) none
  row_one class.Unary c n name mode number a fits none there = no_mode mode (and_parts (has_mode mode) _ fits).0 none
  row_one class.Extension c n name mode number a fits none there = no_mode mode
      (wider (has_mode (mode_at a)) mode a (and_parts _ (is_narrower (mode_at a) mode) fits).1) none
    where
      more : (a m : ℕ) → nat_lt a m ≡ true → nat_lt 0 m ≡ true
      more a m less = grind (arith, nat_tests, less)

      wider : (b : Bool) (mode : Mode) (a : Rtx) → is_narrower (mode_at a) mode ≡ true → has_mode mode ≡ true
      wider b mode a is = more (mode_bits (mode_at a)) (mode_bits mode) (and_parts (has_mode (mode_at a)) _ is).1
  row_one class.Truncation c n name mode number a fits none there = no_mode mode
      (narrow_mode mode (mode_at a) (and_parts _ (is_narrower mode (mode_at a)) fits).1) none
  row_one _ c n name mode number a fits none there = nothing_there there

  row_two : (k : Class) (c : Code) (n : ℤ) (name : List ℕ) (mode : Mode) (number : ℕ) (a b : Rtx) →
      fits_row k mode number (a ∷ b ∷ []) ≡ true →
      width_of mode ≡ None → IsThere (value_by symbols regs memory k c n name (read a ∷ read b ∷ []) W64) → NoMode k (a ∷ b ∷ [])
  row_two class.Binary c n name mode number a b fits none there = no_mode mode (and_parts (has_mode mode) _ fits).0 none
  row_two class.Shift c n name mode number a b fits none there = no_mode mode (and_parts (has_mode mode) _ fits).0 none
  row_two class.Comparison c n name mode number a b fits none there = compared a b
  row_two _ c n name mode number a b fits none there = nothing_there there

  row_by : (k : Class) (c : Code) (n : ℤ) (name : List ℕ) (mode : Mode) (number : ℕ) (kids : List Rtx) →
      fits_row k mode number kids ≡ true →
      width_of mode ≡ None → IsThere (value_by symbols regs memory k c n name (map read kids) W64) → NoMode k kids
  row_by k c n name mode number [] fits none there = row_none k c n name mode number fits none there
  row_by k c n name mode number (a ∷ []) fits none there = row_one k c n name mode number a fits none there
  row_by k c n name mode number (a ∷ b ∷ []) fits none there = row_two k c n name mode number a b fits none there
  row_by k c n name mode number (a ∷ b ∷ d ∷ kids) fits none there = nothing_there there

  free_by : (x : Rtx) (k : Class) (kids : List Rtx) → IsMemory memory → class_at x ≡ k → kids_of x ≡ kids →
      width_of (mode_at x) ≡ None → NoMode k kids →
      IsFree (read x)
  free_by x _ _ is_memory k are none constant = constant_free symbols regs memory x k are none
  free_by x _ _ is_memory k are none (compared a b) = record {
    modeless = none;
    lows = λ w n at.
        let here : value_of symbols regs memory x w ≡ Some n = by_row symbols regs memory x class.Comparison (a ∷ b ∷ []) w k are ∙
        sym (by_row symbols regs memory x class.Comparison (a ∷ b ∷ []) W64 k are) ∙ at in
        here ∙ ap Some (sym (value_low symbols regs memory is_memory x w n here));
  }

  -- a value without a mode of its own is in each width the low bits of what it is in 64
  pub free : (x : Rtx) → IsMemory memory → is_shaped x ≡ true → width_of (mode_at x) ≡ None →
      IsThere (value_of symbols regs memory x W64) → IsFree (read x)
  free x is_memory shaped none there =
      free_by x (class_at x) (kids_of x) is_memory refl refl none
      (row_by (class_at x) (head_of x).code (head_of x).number (head_of x).name (mode_at x) (number_at x) (kids_of x)
      (and_parts (is_bare (class_at x) (number_at x) (head_of x).name) _ shaped).1 none
      (there.0, sym (by_row symbols regs memory x (class_at x) (kids_of x) W64 refl refl) ∙ there.1))

  module _ (sp : ℕ) (given : Given) (plan : Plan) (f : Fetching symbols regs memory sp given plan) (other : Regs)
      (contents : Contents symbols regs memory sp given plan other) (i : ℕ) (p : Part) (x : Operand) (part : IsPart given plan i p x) where
    abbrev IsNew : Rtx → Type 0
    IsNew y = IsNewTree symbols regs other memory x.tree y

    register_class : (mode : Mode) (reg : ℕ) → class_at (reg_of mode reg) ≡ class.Register
    register_class mode reg = ap (λ (h : RtxHead). class_of_code h.code) (head_of-tree _ _)

    own_width : (w : Width) → width_of x.mode ≡ Some w → comes_in p ≡ true → (width_of (mode_at x.tree) ≡ Some w) ⊎ IsFree (read x.tree)
    own_width w wide comes = ⊎_elim
        (λ (same : width_of (mode_at x.tree) ≡ width_of x.mode). inl (same ∙ wide))
        (λ (none : width_of (mode_at x.tree) ≡ None). inr (free x.tree f.memory_is
        (itself is_shaped x.tree (f.operands p.place x part.of).shaped) none
        (f.valued i p x part comes W64 (λ own at. absurd (let e : ◌≡◌ {A = Option Width} None (Some own) = sym none ∙
        at in let no : ⊥ = cc in no)))))
        (f.operands p.place x part.of).mode

    -- the register of an input that is moved
    pub moved_new : comes_in p ≡ true → IsNew (reg_of x.mode (own_of (asks symbols regs memory sp given plan) p))
    moved_new comes =
        let v = own_value symbols regs memory sp given plan f i p x part comes in
        let a = ask Own p.holder in
        let some = spare_some _ (spare_of symbols regs memory sp given plan f.sound a
        (is_own_asked symbols regs memory sp given plan f i p x part comes)) in
        let reg = own_of (asks symbols regs memory sp given plan) p in record {
          class_is = ap is_new_class (register_class x.mode reg);
          reads = moved_reads symbols regs other memory x.tree x.mode v.width reg some v.wide (own_width v.width v.wide comes)
              (λ n at. (contents.own i p x v.width n part comes v.wide at, value_low symbols regs memory f.memory_is x.tree v.width n at));
          address = λ memory. absurd (let e : class.Register ≡ class.Memory = sym (register_class x.mode reg) ∙
              memory in let no : ⊥ = cc in no);
        }

    -- an operand with the register of its base in its address
    pub based_tree : holds_base p ≡ true → IsNew (on_register (base_of (asks symbols regs memory sp given plan) p) x)
    based_tree holds =
        let b = base_value symbols regs memory sp given plan f i p x part (and_parts p.needs.has_base _ holds).0 in
        let spare = spare_of symbols regs memory sp given plan f.sound (base_ask p) (base_asked plan.parts i p part.stands holds) in
        let reg = base_of (asks symbols regs memory sp given plan) p in
        let some : reg ≢ 0 = λ zero. spare_some _ spare (sym (is_own holds) ∙ zero) in
        based_new symbols regs other memory sp f.pointer f.small f.memory_is x b.base reg b.value
        (f.operands p.place x part.of) b.base_is some b.value_is
        (contents.base i p x b.base b.value part holds b.base_is b.value_is)
      where
        is_own : holds_base p ≡ true → base_of (asks symbols regs memory sp given plan) p ≡ register_for
            (asks symbols regs memory sp given plan) (base_ask p)
        is_own holds = ap (λ c. if c then register_for (asks symbols regs memory sp given plan) (base_ask p) else
            own_of (asks symbols regs memory sp given plan) p) holds

    far_there : (o : Option ℤ) → p.needs.far ≡ o → is_some o ≡ true → (n : ℤ) × (p.needs.far ≡ Some n)
    far_there None at some = absurd (let no : ⊥ = cc in no)
    far_there (Some n) at some = (n, at)

    -- one with its far base there
    pub far_tree : stays_far p ≡ true → IsNew (on_register (far_of (asks symbols regs memory sp given plan) p) x)
    far_tree stays =
        let n = far_there p.needs.far refl (and_parts (not p.is_moved) _ stays).1 in
        let spare = spare_of symbols regs memory sp given plan f.sound (ask StayingFar p.holder)
        (far_asked plan.parts i p part.stands stays) in
        far_new symbols regs other memory sp f.pointer f.small f.memory_is x n.0
        (far_of (asks symbols regs memory sp given plan) p) (f.operands p.place x part.of)
        (sym (f.sound.says i p x part).far ∙ n.1) (spare_some _ spare) (contents.far i p x n.0 part stays n.1)

    one_of : (y z : Rtx) → Some y ≡ Some z → IsNew y → IsNew z
    one_of y z same is = let e : y ≡ z = cc in subst IsNew e is

    by : (moved has far : Bool) (y : Rtx) → p.is_moved ≡ moved → p.needs.has_base ≡ has → is_some p.needs.far ≡ far →
        (p.is_moved ≡ true → p.needs.is_input ≡ true) →
        (if moved then Some (reg_of x.mode (own_of (asks symbols regs memory sp given plan) p))
        else if has then Some (on_register (base_of (asks symbols regs memory sp given plan) p) x)
        else if far then Some (on_register (far_of (asks symbols regs memory sp given plan) p) x)
        else None) ≡ Some y → IsNew y
    by true has far y m h o input is = one_of _ y is (moved_new (and_from p.is_moved _ m (input m)))
    by false true far y m h o input is = one_of _ y is (based_tree (and_from p.needs.has_base _ h (ap (λ b. not b || p.needs.is_output) m)))
    by false false true y m h o input is = one_of _ y is (far_tree (and_from (not p.is_moved) _ (ap not m) o))
    by false false false y m h o input is = absurd (let no : ⊥ = cc in no)

    -- each new tree, but the register of what is moved and is no input
    pub new_tree_is : (y : Rtx) → (p.is_moved ≡ true → p.needs.is_input ≡ true) →
        new_tree (asks symbols regs memory sp given plan) p x ≡ Some y → IsNew y
    new_tree_is y input is = by p.is_moved p.needs.has_base (is_some p.needs.far) y refl refl refl input is
