-- A call in which new trees stand calls the same, with the same arguments.
use Rattle.std.proofs.Common.{◌≡◌, ℕ, not, if◌then◌else◌, Bool, true, false, List, [], ◌∷◌, Option, Some, None, refl, sym, ap, ◌∙◌}
use Rattle.std.specs.Prelude.{option_and_then}
use Rattle.std.specs.List.{list_all}
use Rattle.std.proofs.lemmas.Bool.{and_parts}
use Rattle.bits64.specs.declared.Width.{Width}
use Rattle.bits64.specs.declared.Width.TheVariants.{W64}
use Rattle.rtx_tree.specs.Code.{class_of_code}
use Rattle.rtx_tree.specs.Tree.{RtxHead, head_of, kids_of}
use Rattle.rtx_tree.specs.declared.class.Class.{Class}
use Rattle.rtx_tree.specs.declared.class.Class.TheVariants as class
use Rattle.rtx_tree.specs.declared.code.Code.{Code}
use Rattle.rtx_tree.specs.declared.code.Code.TheVariants as code
use Rattle.rtx_tree.specs.declared.code.Mode.{Mode}
use Rattle.rtx_tree.specs.declared.function.ArgUse.{ArgUse}
use Rattle.rtx_tree.specs.declared.machine.RangeAt.{RangeAt}
use Rattle.rtx_tree.specs.declared.machine.SymbolAt.{SymbolAt}
use Rattle.rtx_tree.specs.declared.memories.MemByte.{MemByte}
use Rattle.rtx_tree.specs.declared.tree.Rtx.{Rtx}
use Rattle.run_memory.specs.RunMemory.{visible}
use Rattle.rtl_func.specs.Kinds.{is_call_by, is_call_tree}
use Rattle.rtl_func.specs.Shapes.{class_at, mode_at, number_at, has_mode, is_memory_class, is_constant, is_called, is_call_class, fits_row, is_shaped}
use Rattle.rtl_func.proofs.AllPass.{all_pass}
use Rattle.rtl_step.specs.Call.{is_result, call_by, target_by, target_of, aligned_target, target_value, result_width, result_width_by, arg_of, args_of, event_of}
use Rattle.rtl_step.specs.Effect.{address_of}
use Rattle.rtl_step.specs.Regs.{Regs, reg_value}
use Rattle.rtl_step.specs.Value.{width_of, value_of}
use Rattle.rtl_step.proofs.Too.{Too, too_then, too_map, too_two}
use Rattle.law_window_kept.specs.Same.{KnownToo}
use Rattle.law_frame.proofs.law_window_replaced.Known.{both_of}
use Rattle.law_operands_replaced.specs.Spare.{is_spare, KnowsRest}
use Rattle.law_operands_replaced.proofs.NewTrees.{Becomes, AllBecome, none, next}
use Rattle.law_operands_replaced.proofs.Addresses.{is_new_class, IsNewTree, IsOver, AddressToo, address_becomes}
use Rattle.law_operands_replaced.proofs.Jumping.{Good, AllGood, good_kids, good_first, good_rest, over_of, row_of}

call_class : (k : Class) → is_call_class k ≡ true → (is_new_class k ≡ false) × (k ≡ class.Call)
call_class class.Call is = (refl, refl)
call_class _ is = absurd (let no : ⊥ = cc in no)

call_code : (c : Code) → class_of_code c ≡ class.Call → c ≡ code.Call
call_code code.Call is = refl
call_code _ is = absurd (let no : ⊥ = cc in no)

called_row : (c : Code) (mode : Mode) (number : ℕ) (a b : Rtx) → c ≡ code.Call → fits_row (class_of_code c) mode number (a ∷ b ∷ []) ≡ true →
    is_called a b ≡ true
called_row code.Call mode number a b is fits = (and_parts (not (has_mode mode)) (is_called a b) fits).1
called_row _ mode number a b is fits = absurd (let no : ⊥ = cc in no)

memory_class : (k : Class) → is_memory_class k ≡ true → k ≡ class.Memory
memory_class class.Memory is = refl
memory_class _ is = absurd (let no : ⊥ = cc in no)

-- the place of a call's result stays
abbrev pub SameResult : Rtx → Rtx → Type 0
SameResult x y = (head_of x).code ≡ code.Set → (p s p' s' : Rtx) → kids_of x ≡ p ∷ s ∷ [] → kids_of y ≡ p' ∷ s' ∷ [] → p' ≡ p

-- none of t3 to t6 is an argument
abbrev pub is_passed : ArgUse → Bool
is_passed arg = not (is_spare arg.reg)

module _ (symbols : List SymbolAt) (regs other : Regs) (memory : List MemByte) (known : KnowsRest regs other) (New : Rtx → Rtx → Type 0)
    (news : (x y : Rtx) → New x y → IsNewTree symbols regs other memory x y) where
  abbrev Over : Rtx → Rtx → Type 0
  Over x y = IsOver symbols regs other memory known New news x y

  abbrev GoodPair : Rtx → Rtx → Type 0
  GoodPair x y = Good symbols regs other memory known New news x y

  abbrev AllGoodPairs : List Rtx → List Rtx → Type 0
  AllGoodPairs xs ys = AllGood symbols regs other memory known New news xs ys

  abbrev value_at : Regs → Option Rtx → Option ℕ
  value_at rs o = option_and_then (λ target. option_and_then aligned_target (value_of symbols rs memory target W64)) o

  addressed : (x y : Rtx) → AddressToo symbols regs other memory x y → Too (value_at regs (address_of x)) (value_at other (address_of y))
  addressed x y a v at =
      ap (value_at other) a.second_is ∙
      too_then aligned_target (value_of symbols regs memory a.first W64) (value_of symbols other memory a.second W64) a.value v
      (sym (ap (value_at regs) a.first_is) ∙ at)

  targets_by : (y : Rtx) (c : Code) (xs ys : List Rtx) → (head_of y).code ≡ c → kids_of y ≡ ys → AllBecome New xs ys → AllGoodPairs xs ys →
      all_pass is_shaped y ≡ true → Too (value_at regs (target_by c xs)) (value_at other (target_by c ys))
  targets_by y code.Call _ _ is are (next p p' _ _ b (next s s' _ _ b' none)) good shaped =
      let row = ap (λ c. fits_row (class_of_code c) (mode_at y) (number_at y) (p' ∷ s' ∷ [])) (sym is) ∙
      ap (fits_row (class_at y) (mode_at y) (number_at y)) (sym are) ∙ row_of y shaped in
      let called = and_parts (is_memory_class (class_at p')) (is_constant s') (called_row code.Call (mode_at y) (number_at y) p' s' refl row) in
      let g = good_first symbols regs other memory known New news p p' (s ∷ []) (s' ∷ []) good in
      addressed p p' (address_becomes symbols regs other memory known New news p p' b g.natural g.quiet g.shaped (memory_class (class_at p') called.0))
  targets_by y code.Call _ _ is are none good shaped = λ v no. absurd (let never : ⊥ = cc in never)
  targets_by y code.Call _ _ is are (next p p' _ _ b none) good shaped = λ v no. absurd (let never : ⊥ = cc in never)
  targets_by y code.Call _ _ is are (next p p' _ _ b (next s s' _ _ b' (next q q' _ _ b'' all))) good shaped =
      λ v no. absurd (let never : ⊥ = cc in never)
  targets_by y _ xs ys is are all good shaped = λ v no. absurd (let never : ⊥ = cc in never)

  target_over : (x y : Rtx) → Over x y → GoodPair x y → Too (value_at regs (target_of x)) (value_at other (target_of y))
  target_over x y o good v at =
      targets_by y (head_of y).code (kids_of x) (kids_of y) refl refl o.parts (good_kids symbols regs other memory known New news x y good) good.shaped v
      (ap (λ (h : RtxHead). value_at regs (target_by h.code (kids_of x))) o.head ∙ at)

  no_target : (x : Rtx) → (head_of x).code ≡ code.Set → target_of x ≡ None
  no_target x is = ap (λ c. target_by c (kids_of x)) is

  result_by : (b b' : Bool) (x y s s' : Rtx) → (head_of x).code ≡ code.Set → b' ≡ b → Too (value_at regs (target_of s)) (value_at other (target_of s')) →
      Too (value_at regs (target_of (if b then s else x))) (value_at other (target_of (if b' then s' else y)))
  result_by true true x y s s' is same too = too
  result_by true false x y s s' is same too = absurd (let never : ⊥ = cc in never)
  result_by false b' x y s s' is same too = λ v at.
      absurd (let e : ◌≡◌ {A = Option ℕ} None (Some v) = sym (ap (value_at regs) (no_target x is)) ∙ at in let never : ⊥ = cc in never)

  -- by the code of both
  calls_by : (x y : Rtx) (c : Code) (xs ys : List Rtx) → (head_of x).code ≡ c → (head_of y).code ≡ c → kids_of x ≡ xs → kids_of y ≡ ys → Over x y →
      AllBecome New xs ys → AllGoodPairs xs ys → GoodPair x y → SameResult x y → is_call_by (class_of_code c) ys ≡ true →
      Too (value_at regs (target_of (call_by c xs x))) (value_at other (target_of (call_by c ys y)))
  calls_by x y code.Set _ _ is is' are are' o (next p p' _ _ b (next s s' _ _ b' none)) good both same calls =
      let k = call_class (class_at s') calls in
      let g = good_first symbols regs other memory known New news s s' [] [] (good_rest symbols regs other memory known New news p p' (s ∷ []) (s' ∷ []) good) in
      result_by (is_result p) (is_result p') x y s s' is (ap is_result (same is p s p' s' are are'))
      (target_over s s' (over_of symbols regs other memory known New news s s' b' k.0) g)
  calls_by x y code.Set _ _ is is' are are' o none good both same calls = absurd (let never : ⊥ = cc in never)
  calls_by x y code.Set _ _ is is' are are' o (next p p' _ _ b none) good both same calls = absurd (let never : ⊥ = cc in never)
  calls_by x y code.Set _ _ is is' are are' o (next p p' _ _ b (next s s' _ _ b' (next q q' _ _ b'' all))) good both same calls =
      absurd (let never : ⊥ = cc in never)
  calls_by x y _ xs ys is is' are are' o all good both same calls = target_over x y o both

  call_tree_class : (k : Class) (kids : List Rtx) → is_call_by k kids ≡ true → is_new_class k ≡ false
  call_tree_class class.Call kids is = refl
  call_tree_class class.Setting kids is = refl
  call_tree_class _ kids is = absurd (let never : ⊥ = cc in never)

  call_over : (x y : Rtx) → Becomes New x y → is_call_tree y ≡ true → Over x y
  call_over x y becomes is = over_of symbols regs other memory known New news x y becomes (call_tree_class (class_at y) (kids_of y) is)

  -- the target's address
  pub target_becomes : (x y : Rtx) → Becomes New x y → GoodPair x y → SameResult x y → is_call_tree y ≡ true →
      Too (target_value symbols regs memory x) (target_value symbols other memory y)
  target_becomes x y becomes good same is v at =
      let o = call_over x y becomes is in
      calls_by x y (head_of y).code (kids_of x) (kids_of y) (ap (λ (h : RtxHead). h.code) (sym o.head)) refl refl refl o o.parts
      (good_kids symbols regs other memory known New news x y good) good same is v
      (ap (λ (h : RtxHead). value_at regs (target_of (call_by h.code (kids_of x) x))) o.head ∙ at)

  -- ---- arguments

  arg_known : (reg : ℕ) (w : Option Width) → KnownToo regs other reg → Too (option_and_then (reg_value regs reg) w) (option_and_then (reg_value other reg) w)
  arg_known reg None too = λ v no. absurd (let never : ⊥ = cc in never)
  arg_known reg (Some w) too = too w

  not_spare : (b : Bool) → not b ≡ true → b ≡ false
  not_spare true is = absurd (let never : ⊥ = cc in never)
  not_spare false is = refl

  args_too : (uses : List ArgUse) → list_all is_passed uses ≡ true → Too (args_of regs uses) (args_of other uses)
  args_too [] passed = λ v is. is
  args_too (arg ∷ uses) passed =
      let both = both_of (is_passed arg) (list_all is_passed uses) passed in
      too_two (λ value args. Some (value ∷ args)) (arg_of regs arg) (arg_of other arg) (args_of regs uses) (args_of other uses)
      (too_map (λ value. record { reg = arg.reg; mode = arg.mode; value = value }) (option_and_then (reg_value regs arg.reg) (width_of arg.mode))
      (option_and_then (reg_value other arg.reg) (width_of arg.mode)) (arg_known arg.reg (width_of arg.mode) (known arg.reg (not_spare (is_spare arg.reg) both.0))))
      (args_too uses both.1)

  -- a call that becomes a call tells the same
  pub event_becomes : (ranges : List RangeAt) (x y : Rtx) (uses : List ArgUse) → Becomes New x y → GoodPair x y → SameResult x y →
      is_call_tree y ≡ true → list_all is_passed uses ≡ true →
      Too (event_of symbols regs memory ranges x uses) (event_of symbols other memory ranges y uses)
  event_becomes ranges x y uses becomes good same is passed =
      too_two (λ target args. Some (record { target = target; args = args; memory = visible ranges memory }))
      (target_value symbols regs memory x) (target_value symbols other memory y) (args_of regs uses) (args_of other uses)
      (target_becomes x y becomes good same is) (args_too uses passed)

  widths_by : (c : Code) (xs ys : List Rtx) → AllBecome New xs ys → (c ≡ code.Set → (p s p' s' : Rtx) → xs ≡ p ∷ s ∷ [] → ys ≡ p' ∷ s' ∷ [] → p' ≡ p) →
      result_width_by c ys ≡ result_width_by c xs
  widths_by code.Set _ _ (next p p' _ _ b (next s s' _ _ b' none)) same = ap (λ p. width_of (mode_at p)) (same refl p s p' s' refl refl)
  widths_by code.Set _ _ none same = refl
  widths_by code.Set _ _ (next p p' _ _ b none) same = refl
  widths_by code.Set _ _ (next p p' _ _ b (next s s' _ _ b' (next q q' _ _ b'' all))) same = refl
  widths_by _ xs ys all same = refl

  -- and its result is known in the same width
  pub width_becomes : (x y : Rtx) → Becomes New x y → SameResult x y → is_call_tree y ≡ true → result_width y ≡ result_width x
  width_becomes x y becomes same is =
      let o = call_over x y becomes is in
      widths_by (head_of y).code (kids_of x) (kids_of y) o.parts (λ is. same (ap (λ (h : RtxHead). h.code) (sym o.head) ∙ is)) ∙ ap (λ (h : RtxHead). result_width_by h.code (kids_of x)) o.head
