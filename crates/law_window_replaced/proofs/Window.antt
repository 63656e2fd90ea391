-- What a window of a function uses, defines and leaves, by what is live before it and known behind it.
use Rattle.std.proofs.Common.{◌≡◌, ◌≢◌, ℕ, zero, suc, ◌+◌, ◌<◌, ◌==◌, ◌||◌, ◌&&◌, not, arith, Bool, true, false, drop, length, List, [], ◌∷◌, ◌++◌, Option, Some, None, refl, sym, ap, subst, ◌∙◌}
use Rattle.std.proofs.lemmas.List.Elements.{All-cons, All-nil}
use Rattle.std.specs.Int.{cast_unsigned, w64}
use Rattle.std.specs.List.{All, list_any, list_all}
use Rattle.std.specs.Prelude.{slice_get, option_map, option_and_then}
use Rattle.bits64.specs.declared.Width.{Width}
use Rattle.rtx_tree.specs.Registers.{is_call_used}
use Rattle.rtx_tree.specs.Tree.{head_of, kids_of, is_reg_numbered}
use Rattle.rtx_tree.specs.declared.code.Code.{Code}
use Rattle.rtx_tree.specs.declared.code.Code.TheVariants.{Reg, Subreg, Set, Parallel}
use Rattle.rtx_tree.specs.declared.function.Insn.{Insn}
use Rattle.rtx_tree.specs.declared.function.Kind.{Kind}
use Rattle.rtx_tree.specs.declared.function.Kind.TheVariants as kind
use Rattle.rtx_tree.specs.declared.machine.RangeAt.{RangeAt}
use Rattle.rtx_tree.specs.declared.memories.MemByte.{MemByte}
use Rattle.rtx_tree.specs.declared.tree.Rtx.{Rtx, out-Rtx}
use Rattle.rtl_step.specs.Call.{event_of, result_width}
use Rattle.rtl_step.specs.Effect.{effects_of, regs_after, memory_after, register_by, inner_number}
use Rattle.rtl_step.specs.Jump.{jump_of}
use Rattle.rtl_step.specs.Regs.{Regs, reg_value}
use Rattle.rtl_step.specs.Step.{is_mark}
use Rattle.rtl_step.specs.Value.{of_two}
use Rattle.rtl_step.specs.declared.call.CallEvent.{CallEvent}
use Rattle.rtl_step.specs.declared.effect.Effect.{Effect}
use Rattle.rtl_step.specs.declared.jump.Way.{Way}
use Rattle.rtl_step.specs.declared.jump.Way.TheVariants as way
use Rattle.rtl_func.specs.Paths.{leads}
use Rattle.reg_uses.specs.Effects as uses
use Rattle.reg_uses.specs.Effects.{place_is, place_is_by}
use Rattle.reg_uses.specs.Uses.{insn_uses, insn_defines, insn_sets, function_sets}
use Rattle.live.specs.Live.{IsLive, IsLiveAfter, AtUse, Passing}
use Rattle.same_behaviour.proofs.Places.{get_dropped, drop_next}
use Rattle.law_window_runs.specs.Insns as window
use Rattle.law_window_runs.specs.Insns.{InsnsCome, InsnsEnd, insns_come, insn_comes, come_to, come_after, end_of_way}
use Rattle.law_window_runs.specs.Same.{IsKept}
use Rattle.law_window_runs.specs.Uses.{window_uses, window_defines}
use Rattle.law_window_kept.specs.Same.{leads_last, is_plain}
use Rattle.law_window_lines.specs.Left.{IsNamed, IsSetNamed}
use Rattle.law_window_lines.proofs.Leads.{leads_on}
use Rattle.law_window_lines.proofs.Sets.{plain_keeps, jump_defines, call_defines}
use Rattle.sym_insns.specs.Shape.{is_natural, all_natural}
use Rattle.law_window_replaced.proofs.Known.{both_of, or_first, numbered}
use Rattle.law_window_replaced.proofs.Outside.{plain_defines, call_leaves, not_result}
use Rattle.law_window_replaced.proofs.Setting.{Setting}
use Rattle.law_window_replaced.proofs.Trees.{natural_here, natural_kids, positive}
use Rattle.law_window_replaced.proofs.Twins.{rest_leads}

-- ---- places that are named

register_is : (n : ℕ) (x : Rtx) (reg : ℕ) → reg ≡ suc n → (out-Rtx x).code ≡ Reg → all_natural x ≡ true →
    cast_unsigned w64 (out-Rtx x).number ≡ reg → uses.is_register reg x ≡ true
register_is n x reg some is natural same =
    ap (λ b. not b && is_reg_numbered (out-Rtx x).code (out-Rtx x).number reg) (ap (λ r. r == 0) some ∙ positive n) ∙
    ap (λ c. is_reg_numbered c (out-Rtx x).number reg) is ∙
    numbered (out-Rtx x).number reg (ap (λ c. is_natural c (out-Rtx x).number) (sym is) ∙ natural_here x natural) same

inner_named : (n : ℕ) (code : Code) (x : Rtx) (reg : ℕ) → reg ≡ suc n → (out-Rtx x).code ≡ code → all_natural x ≡ true →
    inner_number code (out-Rtx x).number ≡ Some reg → uses.is_register reg x ≡ true
inner_named n Reg x reg some is natural at =
    let same : cast_unsigned w64 (out-Rtx x).number ≡ reg = cc in register_is n x reg some is natural same
inner_named n _ x reg some is natural at = absurd (let no : ⊥ = cc in no)

named_by : (n : ℕ) (code : Code) (kids : List Rtx) (x : Rtx) (reg : ℕ) → reg ≡ suc n → (out-Rtx x).code ≡ code → all_natural x ≡ true →
    list_all all_natural kids ≡ true → register_by code (out-Rtx x).number kids ≡ Some reg → place_is_by reg code kids x ≡ true
named_by n Reg kids x reg some is natural naturals at =
    let same : cast_unsigned w64 (out-Rtx x).number ≡ reg = cc in register_is n x reg some is natural same
named_by n Subreg (inner ∷ []) x reg some is natural naturals at =
    inner_named n (out-Rtx inner).code inner reg some refl (both_of (all_natural inner) _ naturals).0 at
named_by n _ kids x reg some is natural naturals at = absurd (let no : ⊥ = cc in no)

place_named : (x : Rtx) → all_natural x ≡ true → IsNamed x
place_named x natural zero at some = absurd (omega (arith, some))
place_named x natural (suc n) at some =
    named_by n (out-Rtx x).code (kids_of x) x (suc n) refl refl natural (natural_kids x natural) at

part_named : (code : Code) (kids : List Rtx) → list_all all_natural kids ≡ true → IsSetNamed code kids
part_named Set (place ∷ parts) natural = place_named place (both_of (all_natural place) _ natural).0
part_named _ kids natural = tt

abbrev PartNamed : Rtx → Type 0
PartNamed x = IsSetNamed (head_of x).code (kids_of x)

all_named : (xs : List Rtx) → list_all all_natural xs ≡ true → All PartNamed xs
all_named [] natural = All-nil PartNamed
all_named (x ∷ xs) natural = let both = both_of (all_natural x) _ natural in
    All-cons PartNamed x xs (part_named (out-Rtx x).code (kids_of x) (natural_kids x both.0)) (all_named xs both.1)

named_in : (code : Code) (x : Rtx) → all_natural x ≡ true → All PartNamed (uses.effects_by code (kids_of x) x)
named_in Parallel x natural = all_named (kids_of x) (natural_kids x natural)
named_in _ x natural = all_named (x ∷ []) (ap (λ b. b && true) natural)

-- each `set` of a pattern names its register
pub sets_named : (x : Rtx) → all_natural x ≡ true → All PartNamed (uses.effects_of x)
sets_named x natural = named_in (out-Rtx x).code x natural

-- ---- small laws

none_of : {X : Type 0} (p : X → Bool) (xs : List X) (n : ℕ) (x : X) → list_any p xs ≡ false → slice_get xs n ≡ Some x → p x ≡ false
none_of p [] n x none at = absurd (let no : ⊥ = cc in no)
none_of p (y ∷ ys) zero x none at = let same : y ≡ x = cc in subst (λ x. p x ≡ false) same (first (p y) none)
  where
    first : (b : Bool) → b || list_any p ys ≡ false → b ≡ false
    first true is = is
    first false is = refl
none_of p (y ∷ ys) (suc n) x none at = none_of p ys n x (rest (p y) none) at
  where
    rest : (b : Bool) → b || list_any p ys ≡ false → list_any p ys ≡ false
    rest true is = absurd (let no : ⊥ = cc in no)
    rest false is = is

both_false : (a b : Bool) → a ≡ false → b ≡ false → a || b ≡ false
both_false a b none none' = ap (λ a. a || b) none ∙ none'

either_false : (a b : Bool) → a || b ≡ false → (a ≡ false) × (b ≡ false)
either_false true b is = absurd (let no : ⊥ = cc in no)
either_false false b is = (refl, is)

plain_jumps_not : (k : Kind) → is_plain k ≡ true → k ≢ kind.Jump
plain_jumps_not kind.Plain is = λ jumps. cc
plain_jumps_not kind.Barrier is = λ jumps. cc
plain_jumps_not kind.Jump is = absurd (let no : ⊥ = cc in no)
plain_jumps_not kind.Call is = absurd (let no : ⊥ = cc in no)
plain_jumps_not kind.Label is = absurd (let no : ⊥ = cc in no)

module _ (c : Setting) (back : List Insn) (end : ℕ) where
  -- the rest of the window from a place on
  abbrev Rest : List Insn → ℕ → Type 0
  Rest rest q = drop q c.f.insns ≡ rest ++ back

  -- one that is not the last leads to the next
  goes_next : (i j : Insn) (rest : List Insn) (q : ℕ) → Rest (i ∷ j ∷ rest) q → leads_last (i ∷ j ∷ rest) ≡ true →
      leads c.f.insns q (q + 1) ≡ true
  goes_next i j rest q at led = leads_on c.f.insns q i (get_dropped c.f.insns q i (j ∷ (rest ++ back)) at)
      (plain_jumps_not i.kind (both_of (is_plain i.kind) _ led).0)

  -- ---- what a window uses is live before it

  uses_by : (i : Insn) (rest : List Insn) (q reg : ℕ) (b : Bool) → insn_uses i reg ≡ b → Rest (i ∷ rest) q →
      leads_last (i ∷ rest) ≡ true → b || (not (insn_defines i reg) && window_uses rest reg) ≡ true →
      (window_uses rest reg ≡ true → IsLive c.f reg (q + 1)) → IsLive c.f reg q
  uses_by i rest q reg true is at led some later =
      AtUse q i (get_dropped c.f.insns q i (rest ++ back) at) (or_first (insn_uses i reg) _ is)
  uses_by i [] q reg false is at led some later =
      absurd (let no : false ≡ true = (both_of (not (insn_defines i reg)) false some).1 in let none : ⊥ = cc in none)
  uses_by i (j ∷ rest) q reg false is at led some later =
      let both = both_of (not (insn_defines i reg)) _ some in
      Passing q (q + 1) i (get_dropped c.f.insns q i (j ∷ (rest ++ back)) at) (not_true (insn_defines i reg) both.0)
      (goes_next i j rest q at led) (later both.1)
    where
      not_true : (b : Bool) → not b ≡ true → b ≡ false
      not_true true is = absurd (let no : ⊥ = cc in no)
      not_true false is = refl

  pub uses_live : (rest : List Insn) (q reg : ℕ) → Rest rest q → leads_last rest ≡ true → window_uses rest reg ≡ true →
      IsLive c.f reg q
  uses_live [] q reg at led some = absurd (let no : ⊥ = cc in no)
  uses_live (i ∷ rest) q reg at led some =
      uses_by i rest q reg (insn_uses i reg) refl at led some
      (λ more. uses_live rest (q + 1) reg (drop_next c.f.insns q i (rest ++ back) at) (rest_leads i rest led) more)

  -- ---- what is live behind a window and not defined in it is live before it

  pub passed_live : (rest : List Insn) (q reg : ℕ) → Rest rest q → leads_last rest ≡ true → 0 < length rest →
      q + length rest ≡ end + 1 → IsLiveAfter c.f reg end → window_defines rest reg ≡ false → IsLive c.f reg q
  passed_live [] q reg at led some last lives none = absurd (omega (arith, some))
  passed_live (i ∷ []) q reg at led some last lives none =
      let here : end ≡ q = omega (arith, last) in
      Passing q lives.0 i (get_dropped c.f.insns q i back at) (either_false (insn_defines i reg) false none).0
      (subst (λ p. leads c.f.insns p lives.0 ≡ true) here lives.1) lives.2
  passed_live (i ∷ j ∷ rest) q reg at led some last lives none =
      let both = either_false (insn_defines i reg) _ none in
      Passing q (q + 1) i (get_dropped c.f.insns q i (j ∷ (rest ++ back)) at) both.0 (goes_next i j rest q at led)
      (passed_live (j ∷ rest) (q + 1) reg (drop_next c.f.insns q i (j ∷ (rest ++ back)) at) (rest_leads i (j ∷ rest) led)
      (omega arith) (omega (arith, last)) lives both.1)

  -- ---- of a register that no `set` sets no more is known behind a window, and then the window does not define it

  abbrev Left : List Insn → Regs → ℕ → Width → ℕ → Type 0
  Left rest regs reg w v = (window_defines rest reg ≡ false) × (reg_value regs reg w ≡ Some v)

  module _ (ranges : List RangeAt) (reg : ℕ) (some : 0 < reg) (unset : function_sets c.f reg ≡ false) (w : Width) (v : ℕ)
      (came : InsnsCome) (kept : IsKept came.ending reg) (known : reg_value came.regs reg w ≡ Some v) where
    abbrev Comes : List Insn → Regs → List MemByte → Type 0
    Comes rest regs memory = insns_come c.world.symbols ranges rest regs memory ≡ Some came

    module _ (i : Insn) (rest : List Insn) (q : ℕ) (regs : Regs) (memory : List MemByte) (there : slice_get c.f.insns q ≡ Some i)
        (later : (regs : Regs) (memory : List MemByte) → Comes rest regs memory → Left rest regs reg w v) where
      abbrev after_it : InsnsCome → Option InsnsCome
      after_it it = window.goes_on it.ending it (insns_come c.world.symbols ranges rest)

      plain_left : (o : Option (List Effect)) → effects_of c.world.symbols regs memory i.pattern ≡ o → i.kind ≡ kind.Plain →
          option_and_then after_it (option_map (come_after regs memory) o) ≡ Some came → Left (i ∷ rest) regs reg w v
      plain_left None are plain comes = absurd (let no : ⊥ = cc in no)
      plain_left (Some es) are plain comes =
          let behind = later (regs_after es regs) (memory_after es memory) comes in
          let before = plain_keeps c.world.symbols regs memory i.pattern es reg are
          (sets_named i.pattern (c.natural q i there)) some (none_of (insn_sets reg) c.f.insns q i unset there) w v behind.1 in
          (both_false (insn_defines i reg) _ (plain_defines i reg kind.Plain plain refl before.0) behind.0, before.1)

      stays : (insn_defines i reg ≡ false) → Left rest regs reg w v → Left (i ∷ rest) regs reg w v
      stays none behind = (both_false (insn_defines i reg) _ none behind.0, behind.1)

      -- one that is not plain is the last
      ends_it : (k : Kind) (insns : List Insn) → i.kind ≡ k → is_plain k ≡ false → leads_last (i ∷ insns) ≡ true →
          window_defines insns reg ≡ false
      ends_it k [] is other led = refl
      ends_it k (j ∷ insns) is other led =
          absurd (let no : true ≡ false = sym (both_of (is_plain i.kind) _ led).0 ∙ ap is_plain is ∙ other in let none : ⊥ = cc in none)

      -- it ends the window, with the registers as they were
      over : (e : InsnsEnd) → come_to regs memory e ≡ came → insn_defines i reg ≡ false → window_defines rest reg ≡ false →
          Left (i ∷ rest) regs reg w v
      over e same none none' =
          (both_false (insn_defines i reg) _ none none', ap (λ (x : InsnsCome). reg_value x.regs reg w) same ∙ known)

      way_left : (way : Way) → jump_of c.world.symbols regs memory i.pattern ≡ Some way → i.kind ≡ kind.Jump →
          leads_last (i ∷ rest) ≡ true → after_it (come_to regs memory (end_of_way way)) ≡ Some came → Left (i ∷ rest) regs reg w v
      way_left way.Falls goes jumps led comes =
          stays (plain_defines i reg kind.Jump jumps refl (jump_defines c.world.symbols regs memory i.pattern reg way.Falls goes))
          (later regs memory comes)
      way_left (way.Goes uid) goes jumps led comes =
          let same : come_to regs memory (window.Goes uid) ≡ came = cc in
          over (window.Goes uid) same
          (plain_defines i reg kind.Jump jumps refl (jump_defines c.world.symbols regs memory i.pattern reg (way.Goes uid) goes))
          (ends_it kind.Jump rest jumps refl led)
      way_left way.Leaves goes jumps led comes =
          let same : come_to regs memory window.Returns ≡ came = cc in
          over window.Returns same
          (plain_defines i reg kind.Jump jumps refl (jump_defines c.world.symbols regs memory i.pattern reg way.Leaves goes))
          (ends_it kind.Jump rest jumps refl led)

      jump_left : (o : Option Way) → jump_of c.world.symbols regs memory i.pattern ≡ o → i.kind ≡ kind.Jump →
          leads_last (i ∷ rest) ≡ true →
          option_and_then after_it (option_map (λ way. come_to regs memory (end_of_way way)) o) ≡ Some came →
          Left (i ∷ rest) regs reg w v
      jump_left None goes jumps led comes = absurd (let no : ⊥ = cc in no)
      jump_left (Some way) goes jumps led comes = way_left way goes jumps led comes

      call_left : (event : Option CallEvent) (width : Option Width) →
          event_of c.world.symbols regs memory ranges i.pattern i.uses ≡ event → i.kind ≡ kind.Call → leads_last (i ∷ rest) ≡ true →
          option_and_then after_it (of_two (λ event w. Some (come_to regs memory (window.Calls event w))) event width) ≡ Some came →
          Left (i ∷ rest) regs reg w v
      call_left None width is calls led comes = absurd (let no : ⊥ = cc in no)
      call_left (Some event) None is calls led comes = absurd (let no : ⊥ = cc in no)
      call_left (Some event) (Some w') is calls led comes =
          let same : come_to regs memory (window.Calls event w') ≡ came = cc in
          let preserved : is_call_used reg ≡ false = subst (λ (x : InsnsCome). IsKept x.ending reg) (sym same) kept in
          over (window.Calls event w') same
          (call_leaves i reg preserved
          (call_defines c.world.symbols regs memory i.pattern i.uses ranges reg event is (not_result reg preserved)))
          (ends_it kind.Call rest calls refl led)

      left_by : (k : Kind) → i.kind ≡ k → leads_last (i ∷ rest) ≡ true →
          option_and_then after_it (insn_comes k c.world.symbols ranges i regs memory) ≡ Some came → Left (i ∷ rest) regs reg w v
      left_by kind.Plain is led comes = plain_left (effects_of c.world.symbols regs memory i.pattern) refl is comes
      left_by kind.Jump is led comes = jump_left (jump_of c.world.symbols regs memory i.pattern) refl is led comes
      left_by kind.Call is led comes =
          call_left (event_of c.world.symbols regs memory ranges i.pattern i.uses) (result_width i.pattern) refl is led comes
      left_by kind.Label is led comes = absurd (let no : ⊥ = cc in no)
      left_by kind.Barrier is led comes =
          stays (plain_defines i reg kind.Barrier is refl (c.marks q reg i there (ap is_mark is))) (later regs memory comes)

    pub window_left : (rest : List Insn) (q : ℕ) (regs : Regs) (memory : List MemByte) → Rest rest q → leads_last rest ≡ true →
        Comes rest regs memory → Left rest regs reg w v
    window_left [] q regs memory at led comes =
        let same : come_to regs memory window.Falls ≡ came = cc in
        (refl, ap (λ (x : InsnsCome). reg_value x.regs reg w) same ∙ known)
    window_left (i ∷ rest) q regs memory at led comes =
        left_by i rest q regs memory (get_dropped c.f.insns q i (rest ++ back) at)
        (λ regs memory more. window_left rest (q + 1) regs memory (drop_next c.f.insns q i (rest ++ back) at)
        (rest_leads i rest led) more) i.kind refl led comes
