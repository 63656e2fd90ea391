-- Of a register that no `set` of an instruction sets, no more is known behind it than before, and then it does not define it.
use Rattle.std.proofs.Common.{◌≡◌, ℕ, zero, suc, pos, ◌<◌, ◌==◌, ◌||◌, ◌&&◌, not, arith, if◌then◌else◌, Bool, true, false, List, [], ◌∷◌, Option, Some, None, refl, sym, ap, subst, ◌∙◌}
use Rattle.std.proofs.lemmas.Bool.Decides.{nat_tests}
use Rattle.std.proofs.lemmas.List.Elements.{All-head, All-tail}
use Rattle.std.specs.Cmp.{nat_cmp_total}
use Rattle.std.specs.FinMap.{get, get-insert}
use Rattle.std.specs.List.{All, list_any}
use Rattle.std.specs.Int.{cast_unsigned, w64}
use Rattle.std.specs.Ordering.{int_eq}
use Rattle.std.specs.Prelude.{option_map, option_and_then, is_some}
use Rattle.bits64.specs.declared.Width.{Width}
use Rattle.bits64.specs.declared.Width.TheVariants.{W64}
use Rattle.rtx_tree.specs.Patterns.{is_pc, is_pc_code}
use Rattle.rtx_tree.specs.Tree.{head_of, kids_of, is_reg_numbered}
use Rattle.rtx_tree.specs.declared.function.ArgUse.{ArgUse}
use Rattle.rtx_tree.specs.declared.machine.RangeAt.{RangeAt}
use Rattle.rtx_tree.specs.declared.code.Code.{Code}
use Rattle.rtx_tree.specs.declared.code.Code.TheVariants.{Reg, Pc, Set, Call, Return, Use, Clobber, Parallel}
use Rattle.rtx_tree.specs.declared.machine.SymbolAt.{SymbolAt}
use Rattle.rtx_tree.specs.declared.memories.MemByte.{MemByte}
use Rattle.rtx_tree.specs.declared.tree.Rtx.{Rtx, out-Rtx}
use Rattle.run_memory.specs.RunMemory.{load, visible}
use Rattle.rtl_step.specs.Call.{is_result, is_result_by, call_by, call_part, target_by, target_of, aligned_target, args_of, event_of}
use Rattle.rtl_step.specs.Effect as step
use Rattle.rtl_step.specs.Effect.{reg_after, regs_after, register_of, address_of}
use Rattle.rtl_step.specs.Jump.{jump_by, jump_of, way_of}
use Rattle.rtl_step.specs.Regs.{Regs, known_in, known_of, reg_value, with_reg}
use Rattle.rtl_step.specs.Value.{width_of, value_of, of_two}
use Rattle.rtl_step.specs.declared.call.ArgValue.{ArgValue}
use Rattle.rtl_step.specs.declared.call.CallEvent.{CallEvent}
use Rattle.rtl_step.specs.declared.effect.Effect.{Effect}
use Rattle.rtl_step.specs.declared.effect.Effect.TheVariants.{Sets, Stores}
use Rattle.rtl_step.specs.declared.jump.Way.{Way}
use Rattle.rtl_step.specs.declared.regs.Known.{Known}
use Rattle.reg_uses.specs.Effects.{place_is, place_is_by, effect_defines_by, effect_sets_by, effect_defines, effect_sets, effects_of, effects_by, all_define, pattern_defines}
use Rattle.law_window_lines.specs.Left.{IsNamed, IsSetNamed}
use Rattle.law_window_lines.proofs.Quiet.{Leaves, quiet_by, no_register, unset_is}
use Rattle.law_window_lines.proofs.Small.{is_other, or_none, or_false}

-- ---- a register that another one leaves alone

known_with : (regs : Regs) (t reg : ℕ) (k : Known) (w : Width) → (t ≡ reg → ⊥) → reg_value (with_reg regs t k) reg w ≡ reg_value regs reg w
known_with regs zero reg k w other = refl
known_with regs (suc t) zero k w other = refl
known_with regs (suc t) (suc reg) k w other = ap (option_and_then (known_in w))
    (get-insert nat_cmp_total regs (suc t) k (suc reg) ∙
    ap (λ b. if b then Some k else get regs (suc reg)) (is_other (suc reg) (suc t) other))

module _ (symbols : List SymbolAt) (regs : Regs) (memory : List MemByte) where
  -- what an effect leaves known of a register
  abbrev Keeps : ℕ → Bool → Effect → Type 0
  Keeps reg defines e = (before : Regs) (w : Width) (v : ℕ) → reg_value (reg_after e before) reg w ≡ Some v →
      (defines ≡ false) × (reg_value before reg w ≡ Some v)

  -- ---- a set

  sets_other : (place : Rtx) (reg t : ℕ) → IsNamed place → register_of place ≡ Some t → 0 < reg → place_is reg place ≡ false → t ≡ reg → ⊥
  sets_other place reg t named is some none same =
      let yes : place_is reg place ≡ true = named reg (is ∙ ap Some same) some in let no : true ≡ false = sym yes ∙ none in cc

  set_by : (place : Rtx) (reg : ℕ) (target value : Option ℕ) (w : Width) (e : Effect) → register_of place ≡ target → IsNamed place →
      0 < reg →
      place_is reg place ≡ false → of_two (λ t value. Some (Sets t (known_of w value))) target value ≡ Some e →
      Keeps reg (place_is reg place) e
  set_by place reg None value w e target_is named some none is = absurd (let no : ⊥ = cc in no)
  set_by place reg (Some t) None w e target_is named some none is = absurd (let no : ⊥ = cc in no)
  set_by place reg (Some t) (Some value) w e target_is named some none is = let here : Sets t (known_of w value) ≡ e = cc in
      subst (Keeps reg (place_is reg place)) here
      (λ before w' v known. (
        none,
        sym (known_with before t reg (known_of w value) w'
            (sets_other place reg t named target_is some none)) ∙ known,
      ))

  stored_by : (place : Rtx) (reg : ℕ) (b : Bool) (w : Width) (at value : ℕ) (e : Effect) → place_is reg place ≡ false →
      (if b then Some (Stores w at value) else None) ≡ Some e → Keeps reg (place_is reg place) e
  stored_by place reg true w at value e none is = let here : Stores w at value ≡ e = cc in
      subst (Keeps reg (place_is reg place)) here (λ before w' v known. (none, known))
  stored_by place reg false w at value e none is = absurd (let no : ⊥ = cc in no)

  stores_by : (place : Rtx) (reg : ℕ) (at value : Option ℕ) (w : Width) (e : Effect) → place_is reg place ≡ false →
      of_two (λ at value. if is_some (load w memory at) then Some (Stores w at value) else None) at value ≡ Some e →
      Keeps reg (place_is reg place) e
  stores_by place reg None value w e none is = absurd (let no : ⊥ = cc in no)
  stores_by place reg (Some at) None w e none is = absurd (let no : ⊥ = cc in no)
  stores_by place reg (Some at) (Some value) w e none is = stored_by place reg (is_some (load w memory at)) w at value e none is

  set_in : (place source : Rtx) (reg : ℕ) (address : Option Rtx) (w : Width) (e : Effect) → IsNamed place → 0 < reg →
      place_is reg place ≡ false →
      step.set_place address symbols regs memory place source w ≡ Some e → Keeps reg (place_is reg place) e
  set_in place source reg None w e named some none is =
      set_by place reg (register_of place) (value_of symbols regs memory source w) w e refl named some none is
  set_in place source reg (Some address) w e named some none is =
      stores_by place reg (value_of symbols regs memory address W64) (value_of symbols regs memory source w) w e none is

  set_keeps : (place source : Rtx) (reg : ℕ) (w : Option Width) (e : Effect) → IsNamed place → 0 < reg → place_is reg place ≡ false →
      option_and_then (step.set_place (address_of place) symbols regs memory place source) w ≡ Some e → Keeps reg (place_is reg place) e
  set_keeps place source reg None e named some none is = absurd (let no : ⊥ = cc in no)
  set_keeps place source reg (Some w) e named some none is = set_in place source reg (address_of place) w e named some none is

  -- ---- one effect

  quiet_keeps : (code : Code) (kids : List Rtx) (reg : ℕ) (e : Effect) →
      Leaves symbols regs memory (λ reg. effect_defines_by reg code kids) e →
      Keeps reg (effect_defines_by reg code kids) e
  quiet_keeps code kids reg e leaves = λ before w v known. leaves.known before reg w v known

  part_by : (code : Code) (kids : List Rtx) (reg : ℕ) (e : Effect) → step.effect_by code kids symbols regs memory ≡ Some e →
      IsSetNamed code kids →
      0 < reg → effect_sets_by reg code kids ≡ false → Keeps reg (effect_defines_by reg code kids) e
  part_by Set (place ∷ source ∷ []) reg e is named some none = set_keeps place source reg (width_of
      (out-Rtx place).mode) e named some none is
  part_by Use kids reg e is named some none = quiet_keeps Use kids reg e (quiet_by symbols regs memory Use kids e refl is)
  part_by Clobber kids reg e is named some none = quiet_keeps Clobber kids reg e (quiet_by symbols regs memory Clobber kids e refl is)
  part_by _ kids reg e is named some none = absurd (let no : ⊥ = cc in no)

  -- ---- all effects

  abbrev AllKeep : List Rtx → List Effect → ℕ → Type 0
  AllKeep xs es reg = (before : Regs) (w : Width) (v : ℕ) → reg_value (regs_after es before) reg w ≡ Some v →
      (all_define reg xs ≡ false) × (reg_value before reg w ≡ Some v)

  abbrev IsNamedPart : Rtx → Type 0
  IsNamedPart x = IsSetNamed (head_of x).code (kids_of x)

  abbrev Named : List Rtx → Type 0
  Named xs = All IsNamedPart xs

  both_keep : (x : Rtx) (xs : List Rtx) (e : Effect) (es : List Effect) (reg : ℕ) → Keeps reg (effect_defines reg x) e → AllKeep xs es reg →
      AllKeep (x ∷ xs) (e ∷ es) reg
  both_keep x xs e es reg first rest = λ before w v known.
      let later = rest (reg_after e before) w v known in let here = first before w v later.1 in
      (ap (λ b. b || all_define reg xs) here.0 ∙ later.0, here.1)

  all_by : (x : Rtx) (xs : List Rtx) (es : List Effect) (reg : ℕ) (e : Option Effect) (rest : Option (List Effect)) →
      step.effect_of symbols regs memory x ≡ e → step.all_effects symbols regs memory xs ≡ rest →
      option_and_then (λ e. option_map (λ es. e ∷ es) rest) e ≡ Some es →
      ((e : Effect) → step.effect_of symbols regs memory x ≡ Some e → Keeps reg (effect_defines reg x) e) →
      ((es : List Effect) → step.all_effects symbols regs memory xs ≡ Some es → AllKeep xs es reg) → AllKeep (x ∷ xs) es reg
  all_by x xs es reg None rest e_is rest_is is first later = absurd (let no : ⊥ = cc in no)
  all_by x xs es reg (Some e) None e_is rest_is is first later = absurd (let no : ⊥ = cc in no)
  all_by x xs es reg (Some e) (Some rest) e_is rest_is is first later = let here : e ∷ rest ≡ es = cc in
      subst (λ es. AllKeep (x ∷ xs) es reg) here (both_keep x xs e rest reg (first e e_is) (later rest rest_is))

  all_keep : (xs : List Rtx) (es : List Effect) (reg : ℕ) → step.all_effects symbols regs memory xs ≡ Some es → Named xs → 0 < reg →
      list_any (effect_sets reg) xs ≡ false → AllKeep xs es reg
  all_keep [] es reg is named some none = let here : [] ≡ es = cc in
      subst (λ es. AllKeep [] es reg) here (λ before w v known. (refl, known))
  all_keep (x ∷ xs) es reg is named some none =
      let parts = or_false (effect_sets reg x) (list_any (effect_sets reg) xs) none in
      all_by x xs es reg (step.effect_of symbols regs memory x) (step.all_effects symbols regs memory xs) refl refl is
      (λ e e_is. part_by (out-Rtx x).code (out-Rtx x).kids reg e e_is (All-head IsNamedPart x xs named) some parts.0)
      (λ es es_is. all_keep xs es reg es_is (All-tail IsNamedPart x xs named) some parts.1)

  -- ---- an instruction

  one_is_all : (x : Rtx) (e : Option Effect) → step.effect_of symbols regs memory x ≡ e →
      step.one_effect symbols regs memory x ≡ step.all_effects symbols regs memory (x ∷ [])
  one_is_all x None is = ap (option_map (λ e. e ∷ [])) is ∙ sym (ap (option_and_then (λ e. option_map (λ es. e ∷ es) (Some []))) is)
  one_is_all x (Some e) is = ap (option_map (λ e. e ∷ [])) is ∙ sym (ap (option_and_then (λ e. option_map (λ es. e ∷ es) (Some []))) is)

  same_effects : (code : Code) (kids : List Rtx) (x : Rtx) → (out-Rtx x).kids ≡ kids →
      step.effects_by code x symbols regs memory ≡ step.all_effects symbols regs memory (effects_by code kids x)
  same_effects Parallel kids x is = ap (step.all_effects symbols regs memory) is
  same_effects _ kids x is = one_is_all x (step.effect_of symbols regs memory x) refl

  -- of a register that no `set` sets
  pub plain_keeps : (x : Rtx) (es : List Effect) (reg : ℕ) → step.effects_of symbols regs memory x ≡ Some es → Named (effects_of x) →
      0 < reg →
      list_any (effect_sets reg) (effects_of x) ≡ false → (w : Width) (v : ℕ) → reg_value (regs_after es regs) reg w ≡ Some v →
      (pattern_defines reg x ≡ false) × (reg_value regs reg w ≡ Some v)
  plain_keeps x es reg is named some none w v known =
      all_keep (effects_of x) es reg (sym (same_effects (out-Rtx x).code (out-Rtx x).kids x refl) ∙ is) named some none regs w v known

  -- ---- jumps and calls

  -- it stands alone, and defines not the register
  abbrev IsAlone : ℕ → Code → List Rtx → Type 0
  IsAlone reg code kids = ((x : Rtx) → effects_by code kids x ≡ x ∷ []) × (effect_defines_by reg code kids ≡ false)

  alone_defines : (x : Rtx) (reg : ℕ) → IsAlone reg (out-Rtx x).code (out-Rtx x).kids → pattern_defines reg x ≡ false
  alone_defines x reg alone = ap (all_define reg) (alone.0 x) ∙ or_none (effect_defines reg x) ∙ alone.1

  pc_by : (code : Code) (kids : List Rtx) (place : Rtx) (reg : ℕ) → (out-Rtx place).code ≡ code → is_pc_code code ≡ true →
      place_is_by reg code kids place ≡ false
  pc_by Pc kids place reg is pc = no_register symbols regs memory reg Pc place is (λ number. refl)
  pc_by _ kids place reg is pc = absurd (let no : ⊥ = cc in no)

  pc_alone : (b : Bool) (place source : Rtx) (reg : ℕ) (w : Way) → is_pc place ≡ b →
      (if b then way_of symbols regs memory source else None) ≡ Some w → IsAlone reg Set (place ∷ source ∷ [])
  pc_alone true place source reg w pc is = (λ x. refl, pc_by (out-Rtx place).code (out-Rtx place).kids place reg refl pc)
  pc_alone false place source reg w pc is = absurd (let no : ⊥ = cc in no)

  jump_alone : (code : Code) (kids : List Rtx) (reg : ℕ) (w : Way) → jump_by code kids symbols regs memory ≡ Some w → IsAlone reg code kids
  jump_alone Return kids reg w is = (λ x. refl, refl)
  jump_alone Set (place ∷ source ∷ []) reg w is = pc_alone (is_pc place) place source reg w refl is
  jump_alone _ kids reg w is = absurd (let no : ⊥ = cc in no)

  -- a jump defines none
  pub jump_defines : (x : Rtx) (reg : ℕ) (w : Way) → jump_of symbols regs memory x ≡ Some w → pattern_defines reg x ≡ false
  jump_defines x reg w is = alone_defines x reg (jump_alone (out-Rtx x).code (out-Rtx x).kids reg w is)

  result_by : (code : Code) (kids : List Rtx) (place : Rtx) (reg : ℕ) → (out-Rtx place).code ≡ code → (reg ≡ 10 → ⊥) →
      is_result_by code (cast_unsigned w64 (out-Rtx place).number) ≡ true → place_is_by reg code kids place ≡ false
  result_by Reg kids place reg is other result =
      ap (λ c. not (reg == 0) && is_reg_numbered c (out-Rtx place).number reg) is ∙
      unset_is (out-Rtx place).number reg (not (reg == 0) && int_eq (out-Rtx place).number (pos reg)) refl
      (λ some same. let ten : cast_unsigned w64 (out-Rtx place).number ≡ 10 = grind (arith, nat_tests, result) in other (same ∙ ten))
  result_by _ kids place reg is other result = absurd (let no : ⊥ = cc in no)

  set_call : (b : Bool) (place source x address : Rtx) (reg : ℕ) → is_result place ≡ b → (reg ≡ 10 → ⊥) → (out-Rtx x).code ≡ Set →
      target_of (if b then source else x) ≡ Some address → IsAlone reg Set (place ∷ source ∷ [])
  set_call true place source x address reg result other is target =
      (λ x. refl, result_by (out-Rtx place).code (out-Rtx place).kids place reg refl other result)
  set_call false place source x address reg result other is target =
      absurd (let none : ◌≡◌ {A = Option Rtx} None (Some address) = sym (ap (λ c. target_by c (out-Rtx x).kids) is) ∙
      target in let no : ⊥ = cc in no)

  call_alone : (code : Code) (kids : List Rtx) (x address : Rtx) (reg : ℕ) → (out-Rtx x).code ≡ code → (reg ≡ 10 → ⊥) →
      target_of (call_by code kids x) ≡ Some address → IsAlone reg code kids
  call_alone Call kids x address reg is other target = (λ x. refl, refl)
  call_alone Set (place ∷ source ∷ []) x address reg is other target =
      set_call (is_result place) place source x address reg refl other is target
  call_alone _ kids x address reg is other target =
      absurd (let none : ◌≡◌ {A = Option Rtx} None (Some address) = sym (ap (λ c. target_by c (out-Rtx x).kids) is) ∙
      target in let no : ⊥ = cc in no)

  call_by_target : (x : Rtx) (reg : ℕ) (target : Option Rtx) (args : Option (List ArgValue)) (ranges : List RangeAt) (event : CallEvent) →
      target_of (call_part x) ≡ target → (reg ≡ 10 → ⊥) →
      of_two (λ target args. Some (record { target = target; args = args; memory = visible ranges memory }))
      (option_and_then (λ target. option_and_then aligned_target (value_of symbols regs memory target W64)) target) args ≡ Some event →
      pattern_defines reg x ≡ false
  call_by_target x reg None args ranges event target_is other is = absurd (let no : ⊥ = cc in no)
  call_by_target x reg (Some address) args ranges event target_is other is =
      alone_defines x reg (call_alone (out-Rtx x).code (out-Rtx x).kids x address reg refl other target_is)

  -- a call defines none but a0
  pub call_defines : (x : Rtx) (uses : List ArgUse) (ranges : List RangeAt) (reg : ℕ) (event : CallEvent) →
      event_of symbols regs memory ranges x uses ≡ Some event → (reg ≡ 10 → ⊥) → pattern_defines reg x ≡ false
  call_defines x uses ranges reg event is other = call_by_target x reg (target_of (call_part x))
      (args_of regs uses) ranges event refl other is
