-- An instruction changes no register of an address, where its effects change none: what each effect sets or unsets is a register that a set or a
-- clobber names.
use Rattle.std.proofs.Common.{◌≡◌, ◌≢◌, ◌⊎◌, inl, inr, ℕ, ◌<◌, ◌&&◌, ◌||◌, Bool, true, false, List, [], ◌∷◌, Option, Some, None, refl, sym, ap, subst, ◌∙◌, arith}
use Rattle.std.proofs.lemmas.Bool.{and_parts}
use Rattle.std.proofs.lemmas.Bool.Decides.{nat_tests}
use Rattle.std.specs.Int.{cast_unsigned, w64}
use Rattle.std.specs.List.{cons_option, filter_map, list_all, list_any}
use Rattle.std.specs.Prelude.{ℤ, pos, negsuc, nat_lt, option_and_then}
use Rattle.law_operands_fetched.specs.bits64.declared.Width.{Width}
use Rattle.law_operands_fetched.specs.rtx_tree.Tree.{head_of, kids_of, mentions_reg}
use Rattle.law_operands_fetched.specs.rtx_tree.declared.code.Code.{Code}
use Rattle.law_operands_fetched.specs.rtx_tree.declared.code.Code.TheVariants as code
use Rattle.law_operands_fetched.specs.rtx_tree.declared.machine.SymbolAt.{SymbolAt}
use Rattle.law_operands_fetched.specs.rtx_tree.declared.memories.MemByte.{MemByte}
use Rattle.law_operands_fetched.specs.rtx_tree.declared.tree.Rtx.{Rtx}
use Rattle.law_operands_fetched.specs.rtl_func.Shapes.{mode_at}
use Rattle.law_operands_fetched.specs.rtl_step.Effect as effects
use Rattle.law_operands_fetched.specs.rtl_step.Effect.{address_of, register_of, set_place, set_effect, clobber_by, effect_by, effect_of, all_effects}
use Rattle.law_operands_fetched.specs.rtl_step.Regs.{Regs, known_of}
use Rattle.law_operands_fetched.specs.rtl_step.Value.{width_of, value_of, of_two}
use Rattle.law_operands_fetched.specs.rtl_step.declared.effect.Effect.{Effect}
use Rattle.law_operands_fetched.specs.rtl_step.declared.effect.Effect.TheVariants.{Nothing, Sets, Unsets, Stores}
use Rattle.law_operands_fetched.specs.sym_insns.Shape.{is_natural, all_natural}
use Rattle.law_operands_fetched.proofs.law_frame.law_window_replaced.Trees.{natural_here, natural_kids}
use Rattle.law_operands_fetched.specs.reload_homes.Homes as places
use Rattle.law_operands_fetched.specs.reload_homes.Homes.{register_at}
use Rattle.law_operands_fetched.specs.reload_operands.Changes.{changed_register, is_hard}
use Rattle.law_operands_fetched.specs.md_constr.Inputs.{target_by}
use Rattle.law_operands_fetched.proofs.law_operands_replaced.ElementTurns.{effect_code}
use Rattle.law_reload_moves.proofs.RowsThere.{effects_front}
use Rattle.law_operands_fetched.proofs.law_operands_replaced.SetWidth.{set_width}
use Rattle.law_reload_moves.proofs.SteadyAddress.{Leaves, AllLeave}
use Rattle.law_reload_moves.proofs.Touches.{store_inverse}

-- ---- the register of a place

pos_number : (r h : ℕ) → is_natural code.Reg (pos r) ≡ true → cast_unsigned w64 (pos r) ≡ h → r ≡ h
pos_number r h natural is = grind (arith, nat_tests, natural, is)

some_number : (r h : ℕ) → Some r ≡ Some h → r ≡ h
some_number r h is = cc

numbered : (c : Code) (n : ℤ) (h : ℕ) → is_natural c n ≡ true → effects.inner_number c n ≡ Some h → places.register_numbered c n ≡ Some h
numbered code.Reg (pos r) h natural is = ap Some (pos_number r h natural (some_number (cast_unsigned w64 (pos r)) h is))
numbered code.Reg (negsuc r) h natural is = absurd (let no : ⊥ = cc in no)
numbered _ n h natural is = absurd (let no : ⊥ = cc in no)

inner_is : (x : Rtx) (h : ℕ) → all_natural x ≡ true → effects.inner_register x ≡ Some h → places.register_in x ≡ Some h
inner_is x h natural is = numbered (head_of x).code (head_of x).number h (natural_here x natural) is

by_code : (c : Code) (x : Rtx) (kids : List Rtx) (h : ℕ) → (head_of x).code ≡ c → kids_of x ≡ kids → all_natural x ≡ true →
    effects.register_by c (head_of x).number kids ≡ Some h → places.register_by c x kids ≡ Some h
by_code code.Reg x kids h is are natural at = inner_is x h natural (ap (λ c. effects.inner_number c (head_of x).number) is ∙ at)
by_code code.Subreg x (inner ∷ []) h is are natural at =
    inner_is inner h (and_parts (all_natural inner) true (ap (list_all all_natural) (sym are) ∙ natural_kids x natural)).0 at
by_code code.Subreg x [] h is are natural at = absurd (let no : ⊥ = cc in no)
by_code code.Subreg x (a ∷ b ∷ kids) h is are natural at = absurd (let no : ⊥ = cc in no)
by_code _ x kids h is are natural at = absurd (let no : ⊥ = cc in no)

-- the register that is set is that which the place is
pub register_there : (x : Rtx) (h : ℕ) → all_natural x ≡ true → register_of x ≡ Some h → register_at x ≡ Some h
register_there x h natural is = by_code (head_of x).code x (kids_of x) h refl refl natural is

-- ---- what an effect sets or unsets

abbrev pub Changes : ℕ → Effect → Type 0
Changes h (Sets r known) = r ≡ h
Changes h (Unsets r) = r ≡ h
Changes h _ = ⊥

module _ (symbols : List SymbolAt) (regs : Regs) (m : List MemByte) where
  pub set_there : (t s : Rtx) (e : Effect) (h : ℕ) → set_effect symbols regs m t s ≡ Some e → Changes h e → register_of t ≡ Some h
  set_there t s e h does changes =
      let w = set_width (width_of (mode_at t)) (set_place (address_of t) symbols regs m t s) e does in
      by w.0 (address_of t) refl (sym (ap (option_and_then (set_place (address_of t) symbols regs m t s)) w.1) ∙ does)
    where
      of_set : (w : Width) (r v : Option ℕ) → of_two (λ reg value. Some (Sets reg (known_of w value))) r v ≡ Some e → r ≡ Some h
      of_set w None v at = absurd (let no : ⊥ = cc in no)
      of_set w (Some r) None at = absurd (let no : ⊥ = cc in no)
      of_set w (Some r) (Some v) at =
          let same : Sets r (known_of w v) ≡ e = cc in ap Some (subst (Changes h) (sym same) changes)

      by : (w : Width) (o : Option Rtx) → address_of t ≡ o → set_place (address_of t) symbols regs m t s w ≡ Some e → register_of t ≡ Some h
      by w None none at = of_set w (register_of t) (value_of symbols regs m s w) (sym (ap (λ o. set_place o symbols regs m t s w) none) ∙ at)
      by w (Some a) is at =
          let k = store_inverse symbols regs m t s a w e is at in
          absurd (subst (Changes h) k.1.1.1 changes)

  clobbered : (c : Code) (o : Option ℕ) (e : Effect) (h : ℕ) → clobber_by c o ≡ Some e → Changes h e → o ≡ Some h
  clobbered code.Mem o e h is changes = let same : Nothing ≡ e = cc in absurd (subst (Changes h) (sym same) changes)
  clobbered code.Scratch o e h is changes = let same : Nothing ≡ e = cc in absurd (subst (Changes h) (sym same) changes)
  clobbered _ None e h is changes = absurd (let no : ⊥ = cc in no)
  clobbered _ (Some r) e h is changes = let same : Unsets r ≡ e = cc in ap Some (subst (Changes h) (sym same) changes)

  target_natural : (y t : Rtx) (rest : List Rtx) → kids_of y ≡ t ∷ rest → all_natural y ≡ true → all_natural t ≡ true
  target_natural y t rest are natural = (and_parts (all_natural t) _ (ap (list_all all_natural) (sym are) ∙ natural_kids y natural)).0

  -- it is the register that the set or the clobber changes
  pub changed_there : (y : Rtx) (e : Effect) (h : ℕ) → all_natural y ≡ true → effect_of symbols regs m y ≡ Some e → Changes h e → changed_register y ≡ Some h
  changed_there y e h natural does changes = elim (effect_code (head_of y).code (kids_of y) symbols regs m e does) [
    | inl s ↦
        let t = s.1.0 in
        let target : option_and_then register_at (target_by (head_of y).code (kids_of y)) ≡ register_at t =
        ap (λ c. option_and_then register_at (target_by c (kids_of y))) s.0 ∙ ap (λ ks. option_and_then register_at (target_by code.Set ks)) s.1.1.1 in
        target ∙ register_there t h (target_natural y t (s.1.1.0 ∷ []) s.1.1.1 natural)
        (set_there t s.1.1.0 e h (sym (ap (λ c. effect_by c (kids_of y) symbols regs m) s.0 ∙ ap (λ ks. effect_by code.Set ks symbols regs m) s.1.1.1) ∙ does) changes)
    | inr more ↦ elim more [
      | inl u ↦
          let nothing : Some Nothing ≡ Some e = sym (ap (λ c. effect_by c (kids_of y) symbols regs m) u.0 ∙ ap (λ ks. effect_by code.Use ks symbols regs m) u.1.1) ∙ does in
          let same : Nothing ≡ e = cc in
          absurd (subst (Changes h) (sym same) changes)
      | inr c ↦
          let t = c.1.0 in
          let target : option_and_then register_at (target_by (head_of y).code (kids_of y)) ≡ register_at t =
          ap (λ c. option_and_then register_at (target_by c (kids_of y))) c.0 ∙ ap (λ ks. option_and_then register_at (target_by code.Clobber ks)) c.1.1 in
          target ∙ register_there t h (target_natural y t [] c.1.1 natural)
          (clobbered (head_of t).code (register_of t) e h
          (sym (ap (λ c. effect_by c (kids_of y) symbols regs m) c.0 ∙ ap (λ ks. effect_by code.Clobber ks symbols regs m) c.1.1) ∙ does) changes)
    ]
  ]

-- ---- all effects

-- what it changes is a hard register
abbrev pub IsOnHard : Effect → Type 0
IsOnHard (Sets r known) = is_hard r ≡ true
IsOnHard (Unsets r) = is_hard r ≡ true
IsOnHard _ = Unit {0}

abbrev pub AreOnHard : List Effect → Type 0
AreOnHard [] = Unit {0}
AreOnHard (e ∷ es) = IsOnHard e × AreOnHard es

neither : (a b : Bool) → a || b ≡ false → (a ≡ false) × (b ≡ false)
neither true b is = absurd (let no : ⊥ = cc in no)
neither false b is = (refl, is)

both_false : (a b : Bool) → a && b ≡ false → a ≡ true → b ≡ true → ⊥
both_false true true is first second = let no : ⊥ = cc in no
both_false true false is first second = let no : ⊥ = cc in no
both_false false b is first second = let no : ⊥ = cc in no

leaves_by : (q : ℕ) (e : Effect) → ((h : ℕ) → Changes h e → q ≢ h) → Leaves q e
leaves_by q (Sets r known) each = each r refl
leaves_by q (Unsets r) each = each r refl
leaves_by q (Stores w at v) each = tt
leaves_by q Nothing each = tt

hard_by : (e : Effect) (h : ℕ) → IsOnHard e → Changes h e → is_hard h ≡ true
hard_by (Sets r known) h on changes = ap is_hard (sym changes) ∙ on
hard_by (Unsets r) h on changes = ap is_hard (sym changes) ∙ on
hard_by (Stores w at v) h on changes = absurd changes
hard_by Nothing h on changes = absurd changes

module _ (symbols : List SymbolAt) (regs : Regs) (m : List MemByte) (a : Rtx) (q : ℕ) (has : mentions_reg q a ≡ true) where
  abbrev test : ℕ → Bool
  test reg = is_hard reg && mentions_reg reg a

  -- a register of an address of which some elements change none
  pub lists_leave : (ys : List Rtx) (es : List Effect) → list_all all_natural ys ≡ true → all_effects symbols regs m ys ≡ Some es → AreOnHard es →
      list_any test (filter_map changed_register ys) ≡ false → AllLeave q es
  lists_leave [] es natural does hard none = let same : [] ≡ es = cc in subst (AllLeave q) same tt
  lists_leave (y ∷ ys) es natural does hard none =
      let f = effects_front (effect_of symbols regs m y) (all_effects symbols regs m ys) es does in
      let on : AreOnHard (f.0 ∷ f.1.0) = subst AreOnHard f.1.1.0 hard in
      let kids = and_parts (all_natural y) (list_all all_natural ys) natural in
      subst (AllLeave q) (sym f.1.1.0) (
        leaves_by q f.0 (λ h changes same. both_false (is_hard h) (mentions_reg h a)
            (first_none (changed_register y) h (changed_there symbols regs m y f.0 h kids.0 f.1.1.1.0 changes) none)
            (hard_by f.0 h on.0 changes) (ap (λ q. mentions_reg q a) (sym same) ∙ has)),
        lists_leave ys f.1.0 kids.1 f.1.1.1.1 on.1 (rest_none (changed_register y) none),
      )
    where
      rest_none : (o : Option ℕ) → list_any test (cons_option o (filter_map changed_register ys)) ≡ false → list_any test (filter_map changed_register ys) ≡ false
      rest_none None is = is
      rest_none (Some r) is = (neither (test r) _ is).1

      first_none : (o : Option ℕ) (h : ℕ) → o ≡ Some h → list_any test (cons_option o (filter_map changed_register ys)) ≡ false → test h ≡ false
      first_none None h is none = absurd (let no : ⊥ = cc in no)
      first_none (Some r) h is none = let same : r ≡ h = cc in ap test (sym same) ∙ (neither (test r) _ none).0
