-- An effect in which only trees stand that are read as those in whose places they stand has the effect that it had.
use Rattle.std.proofs.Common.{◌≡◌, ◌≢◌, ◌⊎◌, inl, inr, ℕ, Bool, true, false, List, [], ◌∷◌, Option, Some, None, refl, sym, ap, subst, ◌∙◌}
use Rattle.std.proofs.lemmas.Bool.{and_parts}
use Rattle.std.specs.List.{list_all}
use Rattle.std.specs.Prelude.{option_and_then}
use Rattle.rtx_tree.specs.Code.{class_of_code}
use Rattle.rtx_tree.specs.Tree.{RtxHead, head_of, kids_of}
use Rattle.rtx_tree.specs.declared.class.Class.TheVariants as class
use Rattle.rtx_tree.specs.declared.code.Code.{Code}
use Rattle.rtx_tree.specs.declared.code.Code.TheVariants as code
use Rattle.rtx_tree.specs.declared.machine.SymbolAt.{SymbolAt}
use Rattle.rtx_tree.specs.declared.memories.MemByte.{MemByte}
use Rattle.rtx_tree.specs.declared.tree.Rtx.{Rtx}
use Rattle.rtl_func.specs.Shapes.{class_at, mode_at, is_place, is_effect}
use Rattle.rtl_func.proofs.AllPass as nodes
use Rattle.rtl_func.proofs.AllPass.{all_pass}
use Rattle.rtl_step.specs.Effect.{effect_of, effect_by, clobber_effect, address_of, set_place}
use Rattle.rtl_step.specs.Regs.{Regs}
use Rattle.rtl_step.specs.Value.{width_of}
use Rattle.rtl_step.specs.declared.effect.Effect.{Effect}
use Rattle.law_operands_replaced.specs.Spare.{KnowsRest}
use Rattle.law_operands_replaced.proofs.Addresses.{IsNewTree, AddressToo, all_same}
use Rattle.law_operands_replaced.proofs.EffectTurns.{effect_class, clobber_same, memory_clobber, binary_no_clobber}
use Rattle.law_operands_replaced.proofs.ElementTurns.{effect_code, memory_code_of}
use Rattle.law_operands_replaced.proofs.NewTrees.{Becomes, AllBecome, is_whole, is_lowpart, whole_low}
use Rattle.law_operands_replaced.proofs.NewTrees as trees
use Rattle.law_operands_replaced.proofs.PutParts.{IsOver}
use Rattle.law_operands_replaced.proofs.SetTurns.{Fit, fit_first, fit_second, plain_set, TargetToo, memory_too, set_stays, target_over}
use Rattle.law_operands_replaced.proofs.SetWidth.{binary_none, no_register}
use Rattle.law_operands_replaced.proofs.Turning.{IsSetting, IsLone, lone_opened, setting_opened}

module _ (symbols : List SymbolAt) (regs other : Regs) (m : List MemByte) (known : KnowsRest regs other) where
  -- a tree that is read as the one in whose place it stands, and is memory where that is a place
  pub record Read (z r : Rtx) : Type 0 where
    pub new : IsNewTree symbols regs other m z r
    pub place : (class_at r ≡ class.Memory) ⊎ (class_at z ≡ class.Binary)

  abbrev Target : Rtx → Rtx → Type 0
  Target t t' = TargetToo symbols regs other m known Read (λ x y is. is.new) t t'

  -- an effect keeps its head
  pub effect_over : (x y : Rtx) → Becomes Read x y → is_effect y ≡ true → IsOver Read x y
  effect_over _ _ (trees.same x) is = record { head = refl; parts = all_same Read (kids_of x) }
  effect_over _ _ (trees.new x y n) is =
      absurd (let e : true ≡ false = sym n.new.class_is ∙ effect_class (class_at y) is in let no : ⊥ = cc in no)
  effect_over _ _ (trees.over x y head low all) is = record { head = head; parts = all }

  target_stays : (t t' s : Rtx) (e : Effect) → Becomes Read t t' → Fit t t' → is_lowpart t ≡ false → is_place t' ≡ true →
      option_and_then (set_place (address_of t) symbols regs m t s) (width_of (mode_at t)) ≡ Some e → Target t t'
  target_stays _ _ s e (trees.same t) fit low place does =
      target_over symbols regs other m known Read (λ x y is. is.new) t t place low (record { head = refl; parts = all_same Read (kids_of t) }) fit
  target_stays _ _ s e (trees.new t t' n) fit low place does = by n.place
    where
      by : (class_at t' ≡ class.Memory) ⊎ (class_at t ≡ class.Binary) → Target t t'
      by (inl memory) = memory_too (n.new.address memory)
      by (inr binary) =
          let none = binary_none (head_of t).code (head_of t).number (kids_of t) binary in
          absurd (no_register symbols regs m (width_of (mode_at t)) t s e none.0 none.1 does)
  target_stays _ _ s e (trees.over t t' head low' all) fit low place does =
      target_over symbols regs other m known Read (λ x y is. is.new) t t' place low (record { head = head; parts = all }) fit

  clobber_stays : (t t' : Rtx) (e : Effect) → Becomes Read t t' → is_lowpart t ≡ false → clobber_effect t ≡ Some e → clobber_effect t' ≡ clobber_effect t
  clobber_stays _ _ e (trees.same t) low does = refl
  clobber_stays _ _ e (trees.new t t' n) low does = by n.place
    where
      was_memory : AddressToo symbols regs other m t t' → class_at t ≡ class.Memory
      was_memory a = ap class_of_code (memory_code_of (head_of t).code (kids_of t) a.first a.first_is)

      by : (class_at t' ≡ class.Memory) ⊎ (class_at t ≡ class.Binary) → clobber_effect t' ≡ clobber_effect t
      by (inl memory) = memory_clobber t' memory ∙ sym (memory_clobber t (was_memory (n.new.address memory)))
      by (inr binary) = absurd (binary_no_clobber t e binary does)
  clobber_stays _ _ e (trees.over t t' head low' all) low does = clobber_same t t' head low

  -- two parts become two, and one one
  pub data TwoBecome (t s : Rtx) : List Rtx → Type 0 where
    two : (t' s' : Rtx) → Becomes Read t t' → Becomes Read s s' → TwoBecome t s (t' ∷ s' ∷ [])

  two_become : (us vs : List Rtx) (t s : Rtx) → us ≡ t ∷ s ∷ [] → AllBecome Read us vs → TwoBecome t s vs
  two_become _ _ t s are (trees.next a a' _ _ b (trees.next c c' _ _ d trees.none)) =
      let first : a ≡ t = cc in let second : c ≡ s = cc in
      subst (λ t. TwoBecome t s (a' ∷ c' ∷ [])) first (subst (λ s. TwoBecome a s (a' ∷ c' ∷ [])) second (two a' c' b d))
  two_become _ _ t s are trees.none = absurd (let no : ⊥ = cc in no)
  two_become _ _ t s are (trees.next a a' _ _ b trees.none) = absurd (let no : ⊥ = cc in no)
  two_become _ _ t s are (trees.next a a' _ _ b (trees.next c c' _ _ d (trees.next f f' us vs g more))) = absurd (let no : ⊥ = cc in no)

  pub data OneBecomes (t : Rtx) : List Rtx → Type 0 where
    one : (t' : Rtx) → Becomes Read t t' → OneBecomes t (t' ∷ [])

  one_becomes : (us vs : List Rtx) (t : Rtx) → us ≡ t ∷ [] → AllBecome Read us vs → OneBecomes t vs
  one_becomes _ _ t are (trees.next a a' _ _ b trees.none) =
      let first : a ≡ t = cc in subst (λ t. OneBecomes t (a' ∷ [])) first (one a' b)
  one_becomes _ _ t are trees.none = absurd (let no : ⊥ = cc in no)
  one_becomes _ _ t are (trees.next a a' _ _ b (trees.next c c' us vs d more)) = absurd (let no : ⊥ = cc in no)

  abbrev Same : Rtx → Rtx → Effect → Type 0
  Same x y e = effect_of symbols other m y ≡ Some e

  set_by : (x y t s : Rtx) (kids : List Rtx) (e : Effect) → IsSetting x t s → (head_of y).code ≡ code.Set → kids_of y ≡ kids → TwoBecome t s kids → Fit x y →
      all_pass is_whole x ≡ true → effect_of symbols regs m x ≡ Some e → Same x y e
  set_by x y t s _ e is is_set are (two t' s' b b') fit whole does =
      let is' : IsSetting y t' s' = record { code_is = is_set; parts = are } in
      let plain = plain_set y t' s' is' fit.shaped fit.plain in
      let wholes = and_parts (all_pass is_whole t) _ (ap (λ ts. list_all (all_pass is_whole) ts) (sym is.parts) ∙ nodes.within is_whole x whole) in
      set_stays symbols regs other m known Read (λ x y is. is.new) x y t t' s s' is is'
      (target_stays t t' s e b (fit_first x y t t' (s ∷ []) (s' ∷ []) is.parts are fit) (whole_low (is_lowpart t) (nodes.itself is_whole t wholes.0)) plain.place
      (sym (setting_opened symbols regs other m regs x t s is) ∙ does))
      b' (fit_second x y t t' s s' [] [] is.parts are fit) plain.value e does

  lone_by : (c : Code) (x y t : Rtx) (kids : List Rtx) (e : Effect) → IsLone c x t → (head_of y).code ≡ c → kids_of y ≡ kids → OneBecomes t kids →
      ((t' : Rtx) → Becomes Read t t' → effect_by c (t' ∷ []) symbols other m ≡ effect_by c (t ∷ []) symbols regs m) → effect_of symbols regs m x ≡ Some e → Same x y e
  lone_by c x y t _ e is code_is are (one t' b) alike does =
      lone_opened symbols regs other m other c y t' (record { code_is = code_is; parts = are }) ∙ alike t' b ∙
      sym (lone_opened symbols regs other m regs c x t is) ∙ does

  -- the same effect
  pub read_turns : (x y : Rtx) (e : Effect) → Becomes Read x y → Fit x y → all_pass is_whole x ≡ true → is_effect y ≡ true →
      effect_of symbols regs m x ≡ Some e → effect_of symbols other m y ≡ Some e
  read_turns x y e becomes fit whole effect does =
      let o = effect_over x y becomes effect in
      let same_code : (head_of y).code ≡ (head_of x).code = ap (λ (h : RtxHead). h.code) o.head in
      elim (effect_code (head_of x).code (kids_of x) symbols regs m e does) [
        | inl (is_set, (t, (s, are))) ↦ set_by x y t s (kids_of y) e (record { code_is = is_set; parts = are }) (same_code ∙ is_set) refl
            (two_become (kids_of x) (kids_of y) t s are o.parts) fit whole does
        | inr more ↦ elim more [
          | inl (is_use, (t, are)) ↦ lone_by code.Use x y t (kids_of y) e (record { code_is = is_use; parts = are }) (same_code ∙ is_use) refl
              (one_becomes (kids_of x) (kids_of y) t are o.parts) (λ t' b. refl) does
          | inr (is_clobber, (t, are)) ↦
              let is : IsLone code.Clobber x t = record { code_is = is_clobber; parts = are } in
              let whole_t : all_pass is_whole t ≡ true = (and_parts (all_pass is_whole t) true (ap (λ ts. list_all (all_pass is_whole) ts) (sym are) ∙ nodes.within is_whole x whole)).0 in
              lone_by code.Clobber x y t (kids_of y) e is (same_code ∙ is_clobber) refl
              (one_becomes (kids_of x) (kids_of y) t are o.parts)
              (λ t' b. clobber_stays t t' e b (whole_low (is_lowpart t) (nodes.itself is_whole t whole_t)) (sym (lone_opened symbols regs other m regs code.Clobber x t is) ∙ does)) does
        ]
      ]
