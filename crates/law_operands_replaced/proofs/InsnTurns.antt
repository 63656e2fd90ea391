-- All effects of an instruction with new trees put in, by the pattern beside it.
use Rattle.std.proofs.Common.{◌≡◌, ◌≢◌, ◌⊎◌, inl, inr, ℕ, eqb, Bool, true, false, List, [], ◌∷◌, length, map, not, Option, Some, None, refl, sym, ap, subst, ◌∙◌, arith}
use Rattle.std.specs.List.{list_all}
use Rattle.std.specs.Prelude.{ℤ, option_map, option_and_then, unwrap_or}
use Rattle.std.proofs.lemmas.Bool.{and_parts}
use Rattle.std.proofs.lemmas.Bool.Decides.{nat_tests}
use Rattle.rtx_tree.specs.Code.{class_of_code, is_effect_class}
use Rattle.rtx_tree.specs.Tree.{RtxHead, head_of, kids_of}
use Rattle.rtx_tree.specs.declared.class.Class.TheVariants as class
use Rattle.rtx_tree.specs.declared.code.Code.{Code}
use Rattle.rtx_tree.specs.declared.code.Code.TheVariants as code
use Rattle.rtx_tree.specs.declared.code.Mode.{Mode}
use Rattle.rtx_tree.specs.declared.machine.SymbolAt.{SymbolAt}
use Rattle.rtx_tree.specs.declared.memories.MemByte.{MemByte}
use Rattle.rtx_tree.specs.declared.tree.Rtx.{Rtx, out-roll-Rtx}
use Rattle.rtx_tree.specs.declared.tree.Rtx.TheOpen.{Rtx-F}
use Rattle.rtl_func.specs.Shapes.{class_at, mode_at, number_at, has_mode, is_effect, fits_row, is_bare, is_shaped}
use Rattle.rtl_func.proofs.AllPass.{all_pass}
use Rattle.rtl_step.specs.Effect.{effect_of}
use Rattle.rtl_step.specs.Regs.{Regs}
use Rattle.rtl_step.specs.declared.effect.Effect.{Effect}
use Rattle.md_constr.specs.Inputs as inputs
use Rattle.md_match.specs.Pattern.{Ops, role_of, operand_numbered}
use Rattle.md_match.specs.declared.role.Role.{Role}
use Rattle.md_match.specs.declared.role.Role.TheVariants.{Operand, Operator, Itself}
use Rattle.reload_operands.specs.Put.{put}
use Rattle.law_operands_replaced.specs.Places.{StandsFor}
use Rattle.law_operands_replaced.specs.Places as places
use Rattle.law_operands_replaced.specs.Spare.{KnowsRest}
use Rattle.reload_operands.proofs.PutLaws.{put_operand}
use Rattle.law_operands_replaced.proofs.Addresses.{is_new_class}
use Rattle.law_operands_replaced.proofs.EffectTurns.{effect_class, use_turns, clobber_turns}
use Rattle.law_operands_replaced.proofs.ElementTurns.{effect_code, key_by, key_of, NewFor, stays_for, moves_for, AllNew, AllReads, set_turns}
use Rattle.law_operands_replaced.proofs.HiddenTurns.{Read, read_turns}
use Rattle.law_operands_replaced.proofs.Keying as keying
use Rattle.law_operands_replaced.proofs.Keying.{TurnedAs}
use Rattle.law_operands_replaced.proofs.NewTrees.{Becomes, is_whole}
use Rattle.law_operands_replaced.proofs.NewTrees as trees
use Rattle.law_operands_replaced.proofs.Putting.{put_becomes}
use Rattle.law_operands_replaced.proofs.SetTurns.{Fit}

pub effect_codes : (c : Code) → (c ≡ code.Set) ⊎ ((c ≡ code.Use) ⊎ (c ≡ code.Clobber)) → is_effect_class (class_of_code c) ≡ true
effect_codes c (inl is) = ap (λ c. is_effect_class (class_of_code c)) is
effect_codes c (inr (inl is)) = ap (λ c. is_effect_class (class_of_code c)) is
effect_codes c (inr (inr is)) = ap (λ c. is_effect_class (class_of_code c)) is

-- the parts of a parallel are effects
parallel_row : (c : Code) (mode : Mode) (number : ℕ) (kids : List Rtx) → c ≡ code.Parallel → fits_row (class_of_code c) mode number kids ≡ true → list_all is_effect kids ≡ true
parallel_row code.Parallel mode number kids is fits = (and_parts (not (has_mode mode)) (list_all is_effect kids) fits).1
parallel_row _ mode number kids is fits = absurd (let no : ⊥ = cc in no)

pub effects_are : (y : Rtx) → (head_of y).code ≡ code.Parallel → is_shaped y ≡ true → list_all is_effect (kids_of y) ≡ true
effects_are y is shaped = parallel_row (head_of y).code (mode_at y) (number_at y) (kids_of y) is
    (and_parts (is_bare (class_at y) (number_at y) (head_of y).name) _ shaped).1

pub two_of : (us : List Rtx) → length us ≡ 2 → (a : Rtx) × ((b : Rtx) × (us ≡ a ∷ b ∷ []))
two_of [] is = absurd (omega (arith, is))
two_of (a ∷ []) is = absurd (omega (arith, is))
two_of (a ∷ b ∷ []) is = (a, (b, refl))
two_of (a ∷ b ∷ c ∷ us) is = absurd (omega (arith, is))

one_of : (us : List Rtx) → length us ≡ 1 → (a : Rtx) × (us ≡ a ∷ [])
one_of [] is = absurd (omega (arith, is))
one_of (a ∷ []) is = (a, refl)
one_of (a ∷ b ∷ us) is = absurd (omega (arith, is))

module _ (symbols : List SymbolAt) (regs other : Regs) (m : List MemByte) (known : KnowsRest regs other)
    (own : ℕ → ℕ) (mode : ℕ → Mode) (tree : ℕ → Rtx) (Free : ℕ → Type 0) (result_at : ℤ → Option ℕ) (news : Ops) (Reads Lost : ℤ → Type 0)
    (none_new : (number : ℤ) → operand_numbered news number ≡ None → result_at number ≡ None) where
  abbrev New : ℤ → Rtx → Rtx → Type 0
  New number z r = NewFor symbols regs other m known own mode tree Free result_at news Reads Lost number z r

  abbrev News : Rtx → Rtx → Type 0
  News q x = AllNew symbols regs other m known own mode tree Free result_at news Reads Lost q x

  abbrev ReadsAll : Rtx → Rtx → Type 0
  ReadsAll q x = AllReads symbols regs other m known own mode tree Free result_at news Reads Lost q x

  abbrev Turns : Option ℕ → Rtx → Rtx → Type 0
  Turns key x y = TurnedAs symbols regs other m own mode tree Free key x y

  -- An effect of a pattern beside one of an instruction: what is new for its operands; it has the pattern's head, where that stands for itself;
  -- what is new in what a set reads is read; and of an operator nothing is moved.
  pub record IsBeside (q x : Rtx) : Type 0 where
    pub new : News q x
    pub head_is : role_of (head_of q).code ≡ Itself → is_effect x ≡ true → (head_of x ≡ head_of q) × (length (kids_of q) ≡ length (kids_of x))
    pub set_reads : (a b t s : Rtx) → (head_of q).code ≡ code.Set → kids_of q ≡ a ∷ b ∷ [] → kids_of x ≡ t ∷ s ∷ [] →
        (role_of (head_of a).code ≢ Operand → ReadsAll a t) × ReadsAll b s
    pub loses : (a : Rtx) → (head_of q).code ≡ code.Clobber → kids_of q ≡ a ∷ [] → role_of (head_of a).code ≡ Operand → Lost (head_of a).number
    pub hidden : role_of (head_of q).code ≢ Itself → (number : ℤ) (z r : Rtx) → StandsFor q x number z → operand_numbered news number ≡ Some r →
        role_of (head_of q).code ≡ Operator → result_at number ≡ None

  still_read : (number : ℤ) (z r : Rtx) → New number z r → result_at number ≡ None → Read symbols regs other m known z r
  still_read number z r (stays_for is place none) at = record { new = is; place = place }
  still_read number z r (moves_for k tree_is reg_is spare here modes may lost) at =
      absurd (let e : ◌≡◌ {A = Option ℕ} (Some k) None = sym here ∙ at in let no : ⊥ = cc in no)

  -- where an operator stands for it nothing is moved
  pub operator_becomes : (q x : Rtx) → IsBeside q x → role_of (head_of q).code ≡ Operator → all_pass is_whole x ≡ true →
      Becomes (Read symbols regs other m known) x (put q news x)
  operator_becomes q x b is whole = put_becomes (Read symbols regs other m known) news q x
      (λ number z r stands has. still_read number z r (b.new number z r stands has)
      (b.hidden (λ e. let no : Operator ≡ Itself = sym is ∙ e in let never : ⊥ = cc in never) number z r stands has is)) whole

  -- an operand that is an effect stays
  pub operand_stays : (q x : Rtx) → IsBeside q x → role_of (head_of q).code ≡ Operand → is_effect (put q news x) ≡ true → put q news x ≡ x
  operand_stays q x b is effect = by (operand_numbered news (head_of q).number) refl
    where
      new_class : (r : Rtx) → New (head_of q).number x r → is_new_class (class_at r) ≡ true
      new_class r (stays_for new place none) = new.class_is
      new_class r (moves_for k tree_is reg_is spare here modes may lost) =
          ap (λ r. is_new_class (class_at r)) reg_is ∙ ap (λ (o : Rtx-F Rtx). is_new_class (class_of_code o.code)) (out-roll-Rtx _)

      by : (o : Option Rtx) → operand_numbered news (head_of q).number ≡ o → put q news x ≡ x
      by None none = put_operand q news x is ∙ ap (λ o. unwrap_or o x) none
      by (Some r) has =
          let here : put q news x ≡ r = put_operand q news x is ∙ ap (λ o. unwrap_or o x) has in
          let e : true ≡ false = sym (new_class r (b.new (head_of q).number x r (places.itself q x is) has)) ∙
          effect_class (class_at r) (ap is_effect (sym here) ∙ effect) in absurd (let no : ⊥ = cc in no)

  itself_key : (c : Code) (kids : List Rtx) (q : Rtx) → role_of (head_of q).code ≢ Itself → key_of result_at q ≡ None
  itself_key c kids q other = by (head_of q).code other
    where
      by : (c : Code) → role_of c ≢ Itself → key_by result_at c (kids_of q) ≡ None
      by code.Set other = absurd (other refl)
      by _ other = refl

  other_key : (c : Code) (q : Rtx) → (head_of q).code ≡ c → c ≢ code.Set → key_of result_at q ≡ None
  other_key c q is other = ap (λ c. key_by result_at c (kids_of q)) is ∙ by c other
    where
      by : (c : Code) → c ≢ code.Set → key_by result_at c (kids_of q) ≡ None
      by code.Set other = absurd (other refl)
      by _ other = refl

  abbrev AsKey : Rtx → Rtx → Type 0
  AsKey q x = Turns (key_of result_at q) x (put q news x)

  itself_turns : (q x : Rtx) (e : Effect) → IsBeside q x → role_of (head_of q).code ≡ Itself → Fit x (put q news x) → all_pass is_whole x ≡ true →
      effect_of symbols regs m x ≡ Some e → AsKey q x
  itself_turns q x e b is fit whole does = elim (effect_code (head_of x).code (kids_of x) symbols regs m e does) [
    | inl (is_set, (t, (s, are))) ↦
        let h = b.head_is is (effect_codes (head_of x).code (inl is_set)) in
        let q_set : (head_of q).code ≡ code.Set = ap (λ (h : RtxHead). h.code) (sym h.0) ∙ is_set in
        let two = two_of (kids_of q) (h.1 ∙ ap length are) in
        let reads = b.set_reads two.0 two.1.0 t s q_set two.1.1 are in
        set_turns symbols regs other m known own mode tree Free result_at news Reads Lost none_new q x two.0 two.1.0 t s e q_set two.1.1
        (record { code_is = is_set; parts = are }) b.new reads.0 reads.1 whole fit does
    | inr more ↦ elim more [
      | inl (is_use, (t, are)) ↦
          let h = b.head_is is (effect_codes (head_of x).code (inr (inl is_use))) in
          let q_use : (head_of q).code ≡ code.Use = ap (λ (h : RtxHead). h.code) (sym h.0) ∙ is_use in
          let one = one_of (kids_of q) (h.1 ∙ ap length are) in
          subst (λ key. Turns key x (put q news x)) (sym (other_key code.Use q q_use (λ no. let never : ⊥ = cc in never)))
          (use_turns symbols regs other m known own mode tree Free result_at news Reads Lost q x one.0 t q_use one.1 (record { code_is = is_use; parts = are }))
      | inr (is_clobber, (t, are)) ↦
          let h = b.head_is is (effect_codes (head_of x).code (inr (inr is_clobber))) in
          let q_clobber : (head_of q).code ≡ code.Clobber = ap (λ (h : RtxHead). h.code) (sym h.0) ∙ is_clobber in
          let one = one_of (kids_of q) (h.1 ∙ ap length are) in
          subst (λ key. Turns key x (put q news x)) (sym (other_key code.Clobber q q_clobber (λ no. let never : ⊥ = cc in never)))
          (clobber_turns symbols regs other m known own mode tree Free result_at news Reads Lost q x one.0 t e q_clobber one.1 (record { code_is = is_clobber; parts = are })
          b.new (b.loses one.0 q_clobber one.1) whole does)
    ]
  ]

  pub stays_turns : (x y : Rtx) → Becomes (Read symbols regs other m known) x y → Fit x y → all_pass is_whole x ≡ true → is_effect y ≡ true → Turns None x y
  stays_turns x y becomes fit whole effect = keying.stays x y (λ e does. read_turns symbols regs other m known x y e becomes fit whole effect does)

  -- an effect beside one of the pattern
  pub element_turns : (q x : Rtx) (e : Effect) → IsBeside q x → Fit x (put q news x) → all_pass is_whole x ≡ true → is_effect (put q news x) ≡ true →
      effect_of symbols regs m x ≡ Some e → AsKey q x
  element_turns q x e b fit whole effect does = by (role_of (head_of q).code) refl
    where
      by : (r : Role) → role_of (head_of q).code ≡ r → AsKey q x
      by Itself is = itself_turns q x e b is fit whole does
      by Operator is = subst (λ key. Turns key x (put q news x))
          (sym (itself_key (head_of q).code (kids_of q) q (λ i. let no : Operator ≡ Itself = sym is ∙ i in let never : ⊥ = cc in never)))
          (stays_turns x (put q news x) (operator_becomes q x b is whole) fit whole effect)
      by Operand is = subst (λ key. Turns key x (put q news x))
          (sym (itself_key (head_of q).code (kids_of q) q (λ i. let no : Operand ≡ Itself = sym is ∙ i in let never : ⊥ = cc in never)))
          (stays_turns x (put q news x) (subst (Becomes (Read symbols regs other m known) x) (sym (operand_stays q x b is effect)) (trees.same x)) fit whole effect)
