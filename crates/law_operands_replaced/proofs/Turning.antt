-- The effects of an instruction of which operands are moved: each is as before, or sets the register of the operand that it changes.
use Rattle.std.proofs.Common.{◌≡◌, ℕ, true, List, [], ◌∷◌, Option, Some, None, refl, sym, ap, subst, ◌∙◌}
use Rattle.std.specs.Prelude.{option_map, option_and_then}
use Rattle.bits64.specs.declared.Width.{Width}
use Rattle.rtx_tree.specs.Tree.{head_of, kids_of, reg_of}
use Rattle.rtx_tree.specs.declared.code.Code.{Code}
use Rattle.rtx_tree.specs.declared.code.Code.TheVariants as code
use Rattle.rtx_tree.specs.declared.code.Mode.{Mode}
use Rattle.rtx_tree.specs.declared.machine.SymbolAt.{SymbolAt}
use Rattle.rtx_tree.specs.declared.memories.MemByte.{MemByte}
use Rattle.rtx_tree.specs.declared.tree.Rtx.{Rtx, out-roll-Rtx}
use Rattle.rtx_tree.specs.declared.tree.Rtx.TheOpen.{Rtx-F}
use Rattle.rtl_func.specs.Shapes.{mode_at}
use Rattle.rtl_step.specs.Effect.{address_of, register_by, set_effect, clobber_by, clobber_effect, effect_by, effect_of, all_effects, one_effect}
use Rattle.rtl_step.specs.Regs.{Regs, known_of}
use Rattle.rtl_step.specs.Value.{width_of}
use Rattle.rtl_step.specs.declared.effect.Effect.{Effect}
use Rattle.rtl_step.specs.declared.effect.Effect.TheVariants.{Nothing, Sets, Unsets}
use Rattle.law_operands_replaced.specs.Spare.{is_spare}
use Rattle.law_operands_replaced.proofs.Instead as instead
use Rattle.law_operands_replaced.proofs.Instead.{Instead}
use Rattle.law_operands_replaced.proofs.Elements.{Source, IsSet, taken, moved_set, register_stays, memory_stays}
use Rattle.law_operands_replaced.proofs.Addresses.{AddressToo}

-- (set TARGET SOURCE)
pub record IsSetting (x t s : Rtx) : Type 0 where
  pub code_is : (head_of x).code ≡ code.Set
  pub parts : kids_of x ≡ t ∷ s ∷ []

-- (use X) and (clobber X)
pub record IsLone (c : Code) (x t : Rtx) : Type 0 where
  pub code_is : (head_of x).code ≡ c
  pub parts : kids_of x ≡ t ∷ []

-- what may be left as it is where it is to be unset: a register that is unset, or nothing
pub data IsLeft : Effect → Type 0 where
  known : (r : ℕ) → IsLeft (Unsets r)
  nothing : IsLeft Nothing

pub left_instead : (e : Effect) (kept others : List Effect) → IsLeft e → Instead kept others → Instead (e ∷ kept) others
left_instead _ kept others (known r) more = instead.left r kept others more
left_instead _ kept others nothing more = instead.idle kept others more

module _ (symbols : List SymbolAt) (regs other : Regs) (memory : List MemByte) where
  abbrev effect_at : Regs → Rtx → Option Effect
  effect_at rs x = effect_of symbols rs memory x

  -- the source of a set has its value in the mode of the target
  abbrev pub SourceToo : Rtx → Rtx → Rtx → Type 0
  SourceToo t s s' = (w : Width) → width_of (mode_at t) ≡ Some w → Source symbols regs other memory s s' w

  -- What an element of an instruction becomes: a set of the same register, or of memory at the same address, or of the register of an operand
  -- that is moved; a use; and a clobber of the same, or of such a register.
  pub data Turned : Rtx → Rtx → Type 0 where
    register : (x y t s s' : Rtx) → IsSetting x t s → IsSetting y t s' → address_of t ≡ None → SourceToo t s s' → Turned x y
    place : (x y t t' s s' : Rtx) → IsSetting x t s → IsSetting y t' s' → AddressToo symbols regs other memory t t' → SourceToo t s s' → Turned x y
    moved : (x y t s s' : Rtx) (mode : Mode) (own : ℕ) (w : Width) → IsSetting x t s → IsSetting y (reg_of mode own) s' → is_spare own ≡ true →
        width_of (mode_at t) ≡ Some w → width_of mode ≡ Some w → SourceToo t s s' → Turned x y
    used : (x y a b : Rtx) → IsLone code.Use x a → IsLone code.Use y b → Turned x y
    clobbered : (x y t t' : Rtx) → IsLone code.Clobber x t → IsLone code.Clobber y t' → clobber_effect t' ≡ clobber_effect t → Turned x y
    unset : (x y t : Rtx) (mode : Mode) (own : ℕ) → IsLone code.Clobber x t → IsLone code.Clobber y (reg_of mode own) → is_spare own ≡ true → Turned x y

  -- Of the effects of one and of the other those that are not moved: the rest sets registers of t3 to t6.
  pub data Made : List Effect → List Effect → List Effect → Type 0 where
    none : Made [] [] []
    keeps : (e : Effect) (es others kept : List Effect) → Made es others kept → Made (e ∷ es) (e ∷ others) (e ∷ kept)
    moves : (e : Effect) (own : ℕ) (w : Width) (v : ℕ) (es others kept : List Effect) → IsSet symbols regs other memory w v e → is_spare own ≡ true →
        Made es others kept → Made (e ∷ es) (Sets own (known_of w v) ∷ others) kept
    unsets : (e : Effect) (own : ℕ) (es others kept : List Effect) → IsLeft e → is_spare own ≡ true → Made es others kept →
        Made (e ∷ es) (Unsets own ∷ others) (e ∷ kept)

  -- then the others stand for those that are kept
  pub made_instead : (es others kept : List Effect) → Made es others kept → Instead kept others
  made_instead _ _ _ none = instead.none
  made_instead _ _ _ (keeps e es others kept more) = instead.same e kept others (made_instead es others kept more)
  made_instead _ _ _ (moves e own w v es others kept set is more) = instead.spare (Sets own (known_of w v)) kept others is (made_instead es others kept more)
  made_instead _ _ _ (unsets e own es others kept left is more) =
      left_instead e kept (Unsets own ∷ others) left (instead.spare (Unsets own) kept others is (made_instead es others kept more))

  -- ---- one element

  pub record OneMade (e : Effect) (y : Rtx) : Type 0 where
    pub effect : Effect
    pub effect_is : effect_at other y ≡ Some effect
    pub kept : List Effect → List Effect
    pub made : (es others rest : List Effect) → Made es others rest → Made (e ∷ es) (effect ∷ others) (kept rest)

  pub setting_opened : (rs : Regs) (x t s : Rtx) → IsSetting x t s → effect_at rs x ≡ set_effect symbols rs memory t s
  setting_opened rs x t s is = ap (λ c. effect_by c (kids_of x) symbols rs memory) is.code_is ∙ ap (λ ks. effect_by code.Set ks symbols rs memory) is.parts

  pub lone_opened : (rs : Regs) (c : Code) (x t : Rtx) → IsLone c x t → effect_at rs x ≡ effect_by c (t ∷ []) symbols rs memory
  lone_opened rs c x t is = ap (λ c. effect_by c (kids_of x) symbols rs memory) is.code_is ∙ ap (λ ks. effect_by c ks symbols rs memory) is.parts

  the_same : (e : Effect) (y : Rtx) → effect_at other y ≡ Some e → OneMade e y
  the_same e y is = record { effect = e; effect_is = is; kept = λ rest. e ∷ rest; made = λ es others rest more. keeps e es others rest more }

  pub clobber_left : (c : Code) (o : Option ℕ) (e : Effect) → clobber_by c o ≡ Some e → IsLeft e
  clobber_left code.Mem o e is = let here : Nothing ≡ e = cc in subst IsLeft here nothing
  clobber_left code.Scratch o e is = let here : Nothing ≡ e = cc in subst IsLeft here nothing
  clobber_left _ (Some r) e is = let here : Unsets r ≡ e = cc in subst IsLeft here (known r)
  clobber_left _ None e is = absurd (let never : ⊥ = cc in never)

  pub unset_register : (mode : Mode) (own : ℕ) → clobber_effect (reg_of mode own) ≡ Some (Unsets own)
  unset_register mode own = ap (λ (o : Rtx-F Rtx). clobber_by o.code (register_by o.code o.number o.kids)) (out-roll-Rtx _)

  pub one_turned : (x y : Rtx) (e : Effect) → Turned x y → effect_at regs x ≡ Some e → OneMade e y
  one_turned x y e (register _ _ t s s' is is' no_memory source) at =
      the_same e y (setting_opened other y t s' is' ∙
      register_stays symbols regs other memory t s s' no_memory source e (sym (setting_opened regs x t s is) ∙ at))
  one_turned x y e (place _ _ t t' s s' is is' address source) at =
      the_same e y (setting_opened other y t' s' is' ∙
      memory_stays symbols regs other memory t t' s s' address.first address.second address.first_is address.second_is address.mode_is address.value source e
      (sym (setting_opened regs x t s is) ∙ at))
  one_turned x y e (moved _ _ t s s' mode own w is is' spare wide wide' source) at =
      let took = taken symbols regs other memory t s w e wide (sym (setting_opened regs x t s is) ∙ at) in record {
        effect = Sets own (known_of w took.value);
        effect_is = setting_opened other y (reg_of mode own) s' is' ∙ moved_set symbols regs other memory s s' mode own w e wide' (source w wide) took;
        kept = λ rest. rest;
        made = λ es others rest more. moves e own w took.value es others rest took.sets spare more;
      }
  one_turned x y e (used _ _ a b is is') at =
      the_same e y (lone_opened other code.Use y b is' ∙ sym (lone_opened regs code.Use x a is) ∙ at)
  one_turned x y e (clobbered _ _ t t' is is' same) at =
      the_same e y (lone_opened other code.Clobber y t' is' ∙ same ∙ sym (lone_opened regs code.Clobber x t is) ∙ at)
  one_turned x y e (unset _ _ t mode own is is' spare) at = record {
    effect = Unsets own;
    effect_is = lone_opened other code.Clobber y (reg_of mode own) is' ∙ unset_register mode own;
    kept = λ rest. e ∷ rest;
    made = λ es others rest more. unsets e own es others rest
        (clobber_left (head_of t).code _ e (sym (lone_opened regs code.Clobber x t is) ∙ at)) spare more;
  }

  -- ---- all elements

  pub data AllTurned : List Rtx → List Rtx → Type 0 where
    none : AllTurned [] []
    next : (x y : Rtx) (xs ys : List Rtx) → Turned x y → AllTurned xs ys → AllTurned (x ∷ xs) (y ∷ ys)

  pub record AllMade (es : List Effect) (found : Option (List Effect)) : Type 0 where
    pub effects : List Effect
    pub effects_are : found ≡ Some effects
    pub kept : List Effect
    pub made : Made es effects kept

  both_made : (x y : Rtx) (xs ys : List Rtx) (o : Option Effect) (rest : Option (List Effect)) (es : List Effect) → effect_at regs x ≡ o →
      all_effects symbols regs memory xs ≡ rest → option_and_then (λ e. option_map (λ es. e ∷ es) rest) o ≡ Some es →
      ((e : Effect) → effect_at regs x ≡ Some e → OneMade e y) →
      ((es : List Effect) → all_effects symbols regs memory xs ≡ Some es → AllMade es (all_effects symbols other memory ys)) →
      AllMade es (all_effects symbols other memory (y ∷ ys))
  both_made x y xs ys None rest es is is' at first more = absurd (let never : ⊥ = cc in never)
  both_made x y xs ys (Some e) None es is is' at first more = absurd (let never : ⊥ = cc in never)
  both_made x y xs ys (Some e) (Some rest) es is is' at first more =
      let one = first e is in
      let all = more rest is' in
      let here : e ∷ rest ≡ es = cc in
      subst (λ es. AllMade es (all_effects symbols other memory (y ∷ ys))) here (record {
        effects = one.effect ∷ all.effects;
        effects_are = ap (option_and_then (λ e. option_map (λ es. e ∷ es) (all_effects symbols other memory ys))) one.effect_is ∙
            ap (option_map (λ es. one.effect ∷ es)) all.effects_are;
        kept = one.kept all.kept;
        made = one.made rest all.effects all.kept all.made;
      })

  -- the elements of a parallel
  pub all_turned : (xs ys : List Rtx) → AllTurned xs ys → (es : List Effect) → all_effects symbols regs memory xs ≡ Some es →
      AllMade es (all_effects symbols other memory ys)
  all_turned _ _ none es is = let here : [] ≡ es = cc in
      subst (λ es. AllMade es (Some [])) here (record { effects = []; effects_are = refl; kept = []; made = none })
  all_turned _ _ (next x y xs ys turned more) es is =
      both_made x y xs ys (effect_at regs x) (all_effects symbols regs memory xs) es refl refl is (λ e at. one_turned x y e turned at)
      (λ es at. all_turned xs ys more es at)

  alone_made : (x y : Rtx) (o : Option Effect) (es : List Effect) → effect_at regs x ≡ o → option_map (λ e. e ∷ []) o ≡ Some es →
      ((e : Effect) → effect_at regs x ≡ Some e → OneMade e y) → AllMade es (one_effect symbols other memory y)
  alone_made x y None es is at first = absurd (let never : ⊥ = cc in never)
  alone_made x y (Some e) es is at first =
      let one = first e is in
      let here : e ∷ [] ≡ es = cc in
      subst (λ es. AllMade es (one_effect symbols other memory y)) here (record {
        effects = one.effect ∷ [];
        effects_are = ap (option_map (λ e. e ∷ [])) one.effect_is;
        kept = one.kept [];
        made = one.made [] [] [] none;
      })

  -- an element that stands alone
  pub one_alone : (x y : Rtx) → Turned x y → (es : List Effect) → one_effect symbols regs memory x ≡ Some es → AllMade es (one_effect symbols other memory y)
  one_alone x y turned es is = alone_made x y (effect_at regs x) es refl is (λ e at. one_turned x y e turned at)
