-- An effect of a pattern beside an instruction: what the instruction's becomes where new trees are put in.
use Rattle.std.proofs.Common.{◌≡◌, ◌≢◌, ◌⊎◌, ⊎_elim, inl, inr, ℕ, suc, Bool, true, false, List, [], ◌∷◌, length, map, Option, Some, None, refl, sym, ap, subst, ◌∙◌, arith}
use Rattle.std.specs.List.{list_all}
use Rattle.std.specs.Prelude.{ℤ, unwrap_or, option_and_then}
use Rattle.std.proofs.lemmas.Bool.{and_parts}
use Rattle.bits64.specs.declared.Width.{Width}
use Rattle.rtx_tree.proofs.Trees.{head_of-tree, kids_of-tree}
use Rattle.rtx_tree.specs.Code.{class_of_code}
use Rattle.rtx_tree.specs.Tree.{RtxHead, head_of, kids_of, reg_of}
use Rattle.rtx_tree.specs.declared.class.Class.TheVariants as class
use Rattle.rtx_tree.specs.declared.code.Code.{Code}
use Rattle.rtx_tree.specs.declared.code.Code.TheVariants as code
use Rattle.rtx_tree.specs.declared.code.Mode.{Mode}
use Rattle.rtx_tree.specs.declared.machine.SymbolAt.{SymbolAt}
use Rattle.rtx_tree.specs.declared.memories.MemByte.{MemByte}
use Rattle.rtx_tree.specs.declared.tree.Rtx.{Rtx, out-roll-Rtx}
use Rattle.rtx_tree.specs.declared.tree.Rtx.TheOpen.{Rtx-F}
use Rattle.rtl_func.specs.Shapes.{class_at, mode_at, is_place, is_operand}
use Rattle.rtl_func.proofs.AllPass as nodes
use Rattle.rtl_func.proofs.AllPass.{all_pass}
use Rattle.rtl_step.specs.Effect.{effect_of, effect_by, set_place, address_of, address_part}
use Rattle.rtl_step.specs.Regs.{Regs}
use Rattle.rtl_step.specs.Value.{width_of}
use Rattle.rtl_step.specs.declared.effect.Effect.{Effect}
use Rattle.md_match.specs.Pattern.{Ops, role_of, operand_numbered}
use Rattle.md_match.specs.declared.role.Role.{Role}
use Rattle.md_match.specs.declared.role.Role.TheVariants.{Operand, Operator, Itself}
use Rattle.reload_operands.specs.Put.{put, parts_by}
use Rattle.reload_operands.proofs.PutLaws.{put_operand}
use Rattle.law_operands_replaced.specs.Places.{AtOnePlace, first, later, StandsFor, itself, part}
use Rattle.law_operands_replaced.specs.Spare.{is_spare, KnowsRest}
use Rattle.law_operands_replaced.proofs.Addresses.{IsNewTree, AddressToo, address_becomes}
use Rattle.law_operands_replaced.proofs.Keying.{TurnedAs, stays, result}
use Rattle.law_operands_replaced.proofs.NewTrees.{Becomes, is_whole, is_lowpart, whole_low}
use Rattle.law_operands_replaced.proofs.NewTrees as trees
use Rattle.law_operands_replaced.proofs.PutParts.{each_put, over_is, put_over}
use Rattle.law_operands_replaced.proofs.Putting.{MayStand, put_becomes}
use Rattle.law_operands_replaced.proofs.SetTurns.{Fit, fit_first, fit_second, plain_set, TargetToo, register_same, memory_too, set_stays, target_over, source_too}
use Rattle.law_operands_replaced.proofs.SetWidth.{set_width, no_register, binary_none}
use Rattle.law_operands_replaced.proofs.Turning.{IsSetting, SourceToo, setting_opened}

-- the place of the result that an effect of a pattern sets, where it is an operand that is moved
abbrev pub target_key : (ℤ → Option ℕ) → Role → ℤ → Option ℕ
target_key at_result Operand number = at_result number
target_key at_result _ number = None

abbrev pub key_by : (ℤ → Option ℕ) → Code → List Rtx → Option ℕ
key_by at_result code.Set (t ∷ s ∷ []) = target_key at_result (role_of (head_of t).code) (head_of t).number
key_by at_result _ parts = None

abbrev pub key_of : (ℤ → Option ℕ) → Rtx → Option ℕ
key_of at_result q = key_by at_result (head_of q).code (kids_of q)

-- ---- effects

pub effect_code : (c : Code) (kids : List Rtx) (symbols : List SymbolAt) (regs : Regs) (m : List MemByte) (e : Effect) → effect_by c kids symbols regs m ≡ Some e →
    ((c ≡ code.Set) × ((t : Rtx) × ((s : Rtx) × (kids ≡ t ∷ s ∷ [])))) ⊎
    (((c ≡ code.Use) × ((t : Rtx) × (kids ≡ t ∷ []))) ⊎ ((c ≡ code.Clobber) × ((t : Rtx) × (kids ≡ t ∷ []))))
effect_code code.Set (t ∷ s ∷ []) symbols regs m e is = inl (refl, (t, (s, refl)))
effect_code code.Use (t ∷ []) symbols regs m e is = inr (inl (refl, (t, refl)))
effect_code code.Clobber (t ∷ []) symbols regs m e is = inr (inr (refl, (t, refl)))
effect_code _ kids symbols regs m e is = absurd (let no : ⊥ = cc in no)

pub memory_code_of : (c : Code) (kids : List Rtx) (a : Rtx) → address_part c kids ≡ Some a → c ≡ code.Mem
memory_code_of code.Mem kids a is = refl
memory_code_of _ kids a is = absurd (let no : ⊥ = cc in no)

module _ (symbols : List SymbolAt) (regs other : Regs) (m : List MemByte) (known : KnowsRest regs other)
    (own : ℕ → ℕ) (mode : ℕ → Mode) (tree : ℕ → Rtx) (Free : ℕ → Type 0) (result_at : ℤ → Option ℕ) (news : Ops) where
  abbrev NewTree : Rtx → Rtx → Type 0
  NewTree z r = IsNewTree symbols regs other m z r

  module _ (Reads Lost : ℤ → Type 0) where
    -- What is new for an operand: a tree that is read as the operand, memory where that is a place; or the register of one that is moved, which
    -- is read so where the operand is read.
    pub data NewFor (number : ℤ) (z r : Rtx) : Type 0 where
      stays_for : NewTree z r → (class_at r ≡ class.Memory) ⊎ (class_at z ≡ class.Binary) → result_at number ≡ None → NewFor number z r
      moves_for : (k : ℕ) → z ≡ tree k → r ≡ reg_of (mode k) (own k) → is_spare (own k) ≡ true → result_at number ≡ Some k →
          ((w : Width) → width_of (mode_at z) ≡ Some w → width_of (mode k) ≡ Some w) → (Reads number → NewTree z r) → (Lost number → Free (own k)) →
          NewFor number z r

    abbrev pub AllNew : Rtx → Rtx → Type 0
    AllNew q x = (number : ℤ) (z r : Rtx) → StandsFor q x number z → operand_numbered news number ≡ Some r → NewFor number z r

    -- what has something new is read
    abbrev pub AllReads : Rtx → Rtx → Type 0
    AllReads q x = (number : ℤ) (z r : Rtx) → StandsFor q x number z → operand_numbered news number ≡ Some r → Reads number

    read_new : (number : ℤ) (z r : Rtx) → NewFor number z r → Reads number → NewTree z r
    read_new number z r (stays_for new place none) reads = new
    read_new number z r (moves_for k tree_is reg_is spare at modes may lost) reads = may reads

    -- then each of its new trees is read so
    pub all_read : (q x : Rtx) → AllNew q x → AllReads q x → MayStand NewTree news q x
    all_read q x new reads number z r stands has = read_new number z r (new number z r stands has) (reads number z r stands has)

    pub becomes_read : (q x : Rtx) → AllNew q x → AllReads q x → all_pass is_whole x ≡ true → Becomes NewTree x (put q news x)
    becomes_read q x new reads whole = put_becomes NewTree news q x (all_read q x new reads) whole

    -- ---- parts

    pub part_new : (q x p y : Rtx) → role_of (head_of q).code ≢ Operand → length (kids_of q) ≡ length (kids_of x) → AtOnePlace (kids_of q) (kids_of x) p y →
        AllNew q x → AllNew p y
    part_new q x p y other long at new number z r stands has = new number z r (part q x p y z number other long at stands) has

    pub two_parts : (q x a b t s : Rtx) → role_of (head_of q).code ≢ Operand → kids_of q ≡ a ∷ b ∷ [] → kids_of x ≡ t ∷ s ∷ [] →
        kids_of (put q news x) ≡ put a news t ∷ put b news s ∷ []
    two_parts q x a b t s other are are' =
        ap kids_of (over_is q news x other) ∙ kids_of-tree (head_of x) (parts_by (each_put (kids_of q) news) (kids_of x)) ∙
        ap (λ ps. parts_by (each_put ps news) (kids_of x)) are ∙ ap (parts_by (each_put (a ∷ b ∷ []) news)) are'

    pub one_part : (q x a t : Rtx) → role_of (head_of q).code ≢ Operand → kids_of q ≡ a ∷ [] → kids_of x ≡ t ∷ [] → kids_of (put q news x) ≡ put a news t ∷ []
    one_part q x a t other are are' =
        ap kids_of (over_is q news x other) ∙ kids_of-tree (head_of x) (parts_by (each_put (kids_of q) news) (kids_of x)) ∙
        ap (λ ps. parts_by (each_put ps news) (kids_of x)) are ∙ ap (parts_by (each_put (a ∷ []) news)) are'

    pub same_head : (q x : Rtx) → role_of (head_of q).code ≢ Operand → head_of (put q news x) ≡ head_of x
    same_head q x other = ap head_of (over_is q news x other) ∙ head_of-tree (head_of x) (parts_by (each_put (kids_of q) news) (kids_of x))

    pub at_first : (p q : Rtx) (ps : List Rtx) (x y : Rtx) (xs : List Rtx) (us vs : List Rtx) → us ≡ p ∷ ps → vs ≡ x ∷ xs → AtOnePlace us vs p x
    at_first p q ps x y xs us vs are are' = subst (λ us. AtOnePlace us vs p x) (sym are) (subst (λ vs. AtOnePlace (p ∷ ps) vs p x) (sym are') (first p x ps xs))

    pub at_second : (p q : Rtx) (ps : List Rtx) (x y : Rtx) (xs : List Rtx) (us vs : List Rtx) → us ≡ p ∷ q ∷ ps → vs ≡ x ∷ y ∷ xs → AtOnePlace us vs q y
    at_second p q ps x y xs us vs are are' = subst (λ us. AtOnePlace us vs q y) (sym are)
        (subst (λ vs. AtOnePlace (p ∷ q ∷ ps) vs q y) (sym are') (later q y p x (q ∷ ps) (y ∷ xs) (first q y ps xs)))

    pub whole_kids : (x : Rtx) (ts : List Rtx) → kids_of x ≡ ts → all_pass is_whole x ≡ true → list_all (all_pass is_whole) ts ≡ true
    whole_kids x ts are whole = ap (list_all (all_pass is_whole)) (sym are) ∙ nodes.within is_whole x whole

    pub no_low : (x : Rtx) → all_pass is_whole x ≡ true → is_lowpart x ≡ false
    no_low x whole = whole_low (is_lowpart x) (nodes.itself is_whole x whole)

    pub memory_is : (t t' : Rtx) → Becomes NewTree t t' → Fit t t' → class_at t' ≡ class.Memory → TargetToo symbols regs other m known NewTree (λ x y new. new) t t'
    memory_is t t' becomes fit is = memory_too (address_becomes symbols regs other m known NewTree (λ x y new. new) t t' becomes fit.natural fit.quiet fit.shaped is)

    abbrev pub Target : Rtx → Rtx → Type 0
    Target t t' = TargetToo symbols regs other m known NewTree (λ x y new. new) t t'

    -- a place that is the same
    pub same_target : (t : Rtx) → Fit t t → Target t t
    same_target t fit = by (address_of t) refl
      where
        by : (o : Option Rtx) → address_of t ≡ o → Target t t
        by None absent = register_same absent refl
        by (Some a) at = memory_is t t (trees.same t) fit (ap class_of_code (memory_code_of (head_of t).code (kids_of t) a at))

    -- ---- an effect that is not hidden

    module _ (none_new : (number : ℤ) → operand_numbered news number ≡ None → result_at number ≡ None) where
      -- what an operand that is set becomes
      pub data Ends (t t' : Rtx) : Option ℕ → Type 0 where
        stays_it : Target t t' → Ends t t' None
        moves_it : (k : ℕ) → t ≡ tree k → t' ≡ reg_of (mode k) (own k) → is_spare (own k) ≡ true → ((w : Width) → width_of (mode_at t) ≡ Some w → width_of (mode k) ≡ Some w) →
            Ends t t' (Some k)

      new_ends : (number : ℤ) (t t' r s : Rtx) (w : Option Width) (e : Effect) → t' ≡ r → NewFor number t r → Fit t t' →
          option_and_then (set_place (address_of t) symbols regs m t s) w ≡ Some e → Ends t t' (result_at number)
      new_ends number t t' r s w e here (stays_for is (inl place) none) fit does =
          subst (Ends t t') (sym none) (stays_it (memory_too (subst (AddressToo symbols regs other m t) (sym here) (is.address place))))
      new_ends number t t' r s w e here (stays_for is (inr binary) none) fit does =
          let n = binary_none (head_of t).code (head_of t).number (kids_of t) binary in
          absurd (no_register symbols regs m w t s e n.0 n.1 does)
      new_ends number t t' r s w e here (moves_for k tree_is reg_is spare at modes may lost) fit does =
          subst (Ends t t') (sym at) (moves_it k tree_is (here ∙ reg_is) spare modes)

      target_ends : (role : Role) (a t s : Rtx) (w : Option Width) (e : Effect) → role_of (head_of a).code ≡ role → AllNew a t →
          (role_of (head_of a).code ≢ Operand → AllReads a t) → all_pass is_whole t ≡ true → Fit t (put a news t) → is_place (put a news t) ≡ true →
          option_and_then (set_place (address_of t) symbols regs m t s) w ≡ Some e → Ends t (put a news t) (target_key result_at role (head_of a).number)
      target_ends Operand a t s w e is new reads whole fit place does = by (operand_numbered news (head_of a).number) refl
        where
          by : (o : Option Rtx) → operand_numbered news (head_of a).number ≡ o → Ends t (put a news t) (result_at (head_of a).number)
          by None none =
              let here : put a news t ≡ t = put_operand a news t is ∙ ap (λ o. unwrap_or o t) none in
              subst (Ends t (put a news t)) (sym (none_new (head_of a).number none))
              (stays_it (subst (Target t) (sym here) (same_target t (subst (Fit t) here fit))))
          by (Some r) has =
              let here : put a news t ≡ r = put_operand a news t is ∙ ap (λ o. unwrap_or o t) has in
              new_ends (head_of a).number t (put a news t) r s w e here (new (head_of a).number t r (itself a t is) has) fit does
      target_ends Operator a t s w e is new reads whole fit place does =
          let differ : role_of (head_of a).code ≢ Operand = λ o. let no : Operator ≡ Operand = sym is ∙ o in let never : ⊥ = cc in never in
          stays_it (target_over symbols regs other m known NewTree (λ x y new. new) t (put a news t) place (no_low t whole)
          (put_over NewTree news a t differ (all_read a t new (reads differ)) whole) fit)
      target_ends Itself a t s w e is new reads whole fit place does =
          let differ : role_of (head_of a).code ≢ Operand = λ o. let no : Itself ≡ Operand = sym is ∙ o in let never : ⊥ = cc in never in
          stays_it (target_over symbols regs other m known NewTree (λ x y new. new) t (put a news t) place (no_low t whole)
          (put_over NewTree news a t differ (all_read a t new (reads differ)) whole) fit)

      abbrev Turns : Option ℕ → Rtx → Rtx → Type 0
      Turns key x y = TurnedAs symbols regs other m own mode tree Free key x y

      set_by : (x y t t' s s' : Rtx) (key : Option ℕ) (e : Effect) → IsSetting x t s → IsSetting y t' s' → Ends t t' key → Becomes NewTree s s' → Fit s s' →
          is_operand (mode_at t') s' ≡ true → effect_of symbols regs m x ≡ Some e → Turns key x y
      set_by x y t t' s s' _ e is is' (stays_it target) becomes fit fits does =
          stays x y (set_stays symbols regs other m known NewTree (λ x y new. new) x y t t' s s' is is' target becomes fit fits)
      set_by x y t t' s s' _ e is is' (moves_it k tree_is reg_is spare modes) becomes fit fits does =
          let w = set_width (width_of (mode_at t)) (set_place (address_of t) symbols regs m t s) e (sym (setting_opened symbols regs other m regs x t s is) ∙ does) in
          let wide : width_of (mode k) ≡ Some w.0 = modes w.0 w.1 in
          let own_mode : width_of (mode_at t') ≡ width_of (mode_at t) =
          ap (λ t. width_of (mode_at t)) reg_is ∙ ap (λ (o : Rtx-F Rtx). width_of o.mode) (out-roll-Rtx _) ∙ wide ∙ sym w.1 in
          result k x y s s' w.0 (record { code_is = is.code_is; parts = is.parts ∙ ap (λ t. t ∷ s ∷ []) tree_is })
          (record { code_is = is'.code_is; parts = is'.parts ∙ ap (λ t. t ∷ s' ∷ []) reg_is }) spare
          (ap (λ t. width_of (mode_at t)) (sym tree_is) ∙ w.1) wide
          (subst (λ t. SourceToo symbols regs other m t s s') tree_is
          (source_too symbols regs other m known NewTree (λ x y new. new) t t' s s' becomes fit fits own_mode))

      -- a set
      pub set_turns : (q x a b t s : Rtx) (e : Effect) → (head_of q).code ≡ code.Set → kids_of q ≡ a ∷ b ∷ [] → IsSetting x t s → AllNew q x →
          (role_of (head_of a).code ≢ Operand → AllReads a t) → AllReads b s → all_pass is_whole x ≡ true → Fit x (put q news x) →
          effect_of symbols regs m x ≡ Some e → Turns (key_of result_at q) x (put q news x)
      set_turns q x a b t s e is_set are is new reads reads' whole fit does =
          let other' : role_of (head_of q).code ≢ Operand = λ o. (let no : Itself ≡ Operand = sym (ap role_of is_set) ∙ o in let never : ⊥ = cc in never) in
          let kids = two_parts q x a b t s other' are is.parts in
          let is' : IsSetting (put q news x) (put a news t) (put b news s) = record {
            code_is = ap (λ (h : RtxHead). h.code) (same_head q x other') ∙ is.code_is;
            parts = kids;
          } in
          let long : length (kids_of q) ≡ length (kids_of x) = ap length are ∙ sym (ap length is.parts) in
          let wholes = and_parts (all_pass is_whole t) _ (whole_kids x (t ∷ s ∷ []) is.parts whole) in
          let whole_s : all_pass is_whole s ≡ true = (and_parts (all_pass is_whole s) _ wholes.1).0 in
          let new_a = part_new q x a t other' long (at_first a b (b ∷ []) t s (s ∷ []) (kids_of q) (kids_of x) are is.parts) new in
          let new_b = part_new q x b s other' long (at_second a b [] t s [] (kids_of q) (kids_of x) are is.parts) new in
          let plain = plain_set (put q news x) (put a news t) (put b news s) is' fit.shaped fit.plain in
          let key : key_of result_at q ≡ target_key result_at (role_of (head_of a).code) (head_of a).number =
          ap (λ c. key_by result_at c (kids_of q)) is_set ∙ ap (key_by result_at code.Set) are in
          subst (λ key. Turns key x (put q news x)) (sym key)
          (set_by x (put q news x) t (put a news t) s (put b news s) (target_key result_at (role_of (head_of a).code) (head_of a).number) e is is'
          (target_ends (role_of (head_of a).code) a t s (width_of (mode_at t)) e refl new_a reads wholes.0
          (fit_first x (put q news x) t (put a news t) (s ∷ []) (put b news s ∷ []) is.parts kids fit) plain.place
          (sym (setting_opened symbols regs other m regs x t s is) ∙ does))
          (becomes_read b s new_b reads' whole_s)
          (fit_second x (put q news x) t (put a news t) s (put b news s) [] [] is.parts kids fit) plain.value does)
