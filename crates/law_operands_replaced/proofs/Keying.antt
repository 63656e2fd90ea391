-- The effects of an instruction of which operands are moved, by the operand whose result each is: the effect stays, or it sets the register of
-- the operand in the place of what it changes.
use Rattle.std.proofs.Common.{◌≡◌, ◌≢◌, ◌⊎◌, inl, inr, ℕ, zero, suc, eqb, if◌then◌else◌, Bool, true, false, List, [], ◌∷◌, Option, Some, None, refl, sym, ap, subst, ◌∙◌, arith}
use Rattle.std.proofs.lemmas.Bool.Decides.{nat_tests}
use Rattle.std.specs.FinMap.{get}
use Rattle.std.specs.Prelude.{option_map, option_and_then}
use Rattle.bits64.specs.declared.Width.{Width}
use Rattle.rtx_tree.specs.Tree.{head_of, reg_of}
use Rattle.rtx_tree.specs.declared.code.Code.TheVariants as code
use Rattle.rtx_tree.specs.declared.code.Mode.{Mode}
use Rattle.rtx_tree.specs.declared.machine.SymbolAt.{SymbolAt}
use Rattle.rtx_tree.specs.declared.memories.MemByte.{MemByte}
use Rattle.rtx_tree.specs.declared.tree.Rtx.{Rtx}
use Rattle.rtl_func.specs.Shapes.{mode_at}
use Rattle.rtl_step.specs.Effect.{effect_of, all_effects, one_effect, regs_after, reg_after}
use Rattle.rtl_step.specs.Regs.{Regs, known_of}
use Rattle.rtl_step.specs.Value.{width_of}
use Rattle.rtl_step.specs.declared.effect.Effect.{Effect}
use Rattle.rtl_step.specs.declared.effect.Effect.TheVariants.{Sets, Unsets}
use Rattle.law_operands_replaced.specs.Spare.{is_spare}
use Rattle.law_operands_replaced.proofs.Elements.{IsSet, taken, moved_set}
use Rattle.law_operands_replaced.proofs.Ends.{IsOnRest, rest_alone}
use Rattle.law_operands_replaced.proofs.Instead as instead
use Rattle.law_operands_replaced.proofs.Instead.{Instead}
use Rattle.law_operands_replaced.proofs.Keyed.{Keyed, effects_in, with_kept, kept_of, last_by, last_of}
use Rattle.law_operands_replaced.proofs.Registers.{set_is, set_other, unset_other}
use Rattle.law_operands_replaced.proofs.Turning.{IsSetting, IsLone, IsLeft, left_instead, SourceToo, setting_opened, lone_opened, clobber_left, unset_register}

-- some effects, each with a key
abbrev pub with_keys : List (Option ℕ) → List Effect → List Keyed
with_keys [] es = []
with_keys (key ∷ keys) [] = []
with_keys (key ∷ keys) (e ∷ es) = record { key = key; effect = e } ∷ with_keys keys es

module _ (symbols : List SymbolAt) (regs other : Regs) (memory : List MemByte) (own : ℕ → ℕ) (mode : ℕ → Mode) (tree : ℕ → Rtx) (Free : ℕ → Type 0) where
  -- What an element becomes, by the operand whose result it sets: it has its effect still; or it sets the register of the operand; or a clobber
  -- unsets a register that is none of a result.
  pub data TurnedAs : Option ℕ → Rtx → Rtx → Type 0 where
    stays : (x y : Rtx) → ((e : Effect) → effect_of symbols regs memory x ≡ Some e → effect_of symbols other memory y ≡ Some e) → TurnedAs None x y
    result : (k : ℕ) (x y s s' : Rtx) (w : Width) → IsSetting x (tree k) s → IsSetting y (reg_of (mode k) (own k)) s' → is_spare (own k) ≡ true →
        width_of (mode_at (tree k)) ≡ Some w → width_of (mode k) ≡ Some w → SourceToo symbols regs other memory (tree k) s s' → TurnedAs (Some k) x y
    unsets : (x y t : Rtx) (m : Mode) (q : ℕ) → IsLone code.Clobber x t → IsLone code.Clobber y (reg_of m q) → is_spare q ≡ true → Free q →
        TurnedAs None x y

  -- what its effect becomes
  pub data OneKeyed : Option ℕ → Effect → Effect → Type 0 where
    still : (e : Effect) → OneKeyed None e e
    held : (k : ℕ) (e : Effect) (w : Width) (v : ℕ) → IsSet symbols regs other memory w v e → is_spare (own k) ≡ true → width_of (mode k) ≡ Some w →
        OneKeyed (Some k) e (Sets (own k) (known_of w v))
    lost : (e : Effect) (q : ℕ) → IsLeft e → is_spare q ≡ true → Free q → OneKeyed None e (Unsets q)

  pub record HasKeyed (key : Option ℕ) (e : Effect) (y : Rtx) : Type 0 where
    pub effect : Effect
    pub effect_is : effect_of symbols other memory y ≡ Some effect
    pub keyed : OneKeyed key e effect

  pub one_keyed : (key : Option ℕ) (x y : Rtx) (e : Effect) → TurnedAs key x y → effect_of symbols regs memory x ≡ Some e → HasKeyed key e y
  one_keyed _ x y e (stays _ _ may) at = record { effect = e; effect_is = may e at; keyed = still e }
  one_keyed _ x y e (result k _ _ s s' w is is' spare wide wide' source) at =
      let took = taken symbols regs other memory (tree k) s w e wide (sym (setting_opened symbols regs other memory regs x (tree k) s is) ∙ at) in record {
        effect = Sets (own k) (known_of w took.value);
        effect_is = setting_opened symbols regs other memory other y (reg_of (mode k) (own k)) s' is' ∙
            moved_set symbols regs other memory s s' (mode k) (own k) w e wide' (source w wide) took;
        keyed = held k e w took.value took.sets spare wide';
      }
  one_keyed _ x y e (unsets _ _ t m q is is' spare free) at = record {
    effect = Unsets q;
    effect_is = lone_opened symbols regs other memory other code.Clobber y (reg_of m q) is' ∙ unset_register symbols regs other memory m q;
    keyed = lost e q (clobber_left symbols regs other memory (head_of t).code _ e (sym (lone_opened symbols regs other memory regs code.Clobber x t is) ∙ at)) spare free;
  }

  -- ---- all elements

  pub data AllTurnedAs : List (Option ℕ) → List Rtx → List Rtx → Type 0 where
    none : AllTurnedAs [] [] []
    next : (key : Option ℕ) (keys : List (Option ℕ)) (x y : Rtx) (xs ys : List Rtx) → TurnedAs key x y → AllTurnedAs keys xs ys →
        AllTurnedAs (key ∷ keys) (x ∷ xs) (y ∷ ys)

  pub data AllKeyed : List Keyed → List Effect → Type 0 where
    no_more : AllKeyed [] []
    one_more : (x : Keyed) (d : Effect) (xs : List Keyed) (ds : List Effect) → OneKeyed x.key x.effect d → AllKeyed xs ds → AllKeyed (x ∷ xs) (d ∷ ds)

  pub record HasAllKeyed (keys : List (Option ℕ)) (es : List Effect) (made : Option (List Effect)) : Type 0 where
    pub effects : List Effect
    pub effects_are : made ≡ Some effects
    pub same : effects_in (with_keys keys es) ≡ es
    pub keyed : AllKeyed (with_keys keys es) effects

  both_keyed : (key : Option ℕ) (keys : List (Option ℕ)) (x y : Rtx) (ys : List Rtx) (o : Option Effect) (rest : Option (List Effect)) (es : List Effect) →
      option_and_then (λ e. option_map (λ es. e ∷ es) rest) o ≡ Some es →
      ((e : Effect) → o ≡ Some e → HasKeyed key e y) → ((es : List Effect) → rest ≡ Some es → HasAllKeyed keys es (all_effects symbols other memory ys)) →
      HasAllKeyed (key ∷ keys) es (all_effects symbols other memory (y ∷ ys))
  both_keyed key keys x y ys None rest es at first more = absurd (let never : ⊥ = cc in never)
  both_keyed key keys x y ys (Some e) None es at first more = absurd (let never : ⊥ = cc in never)
  both_keyed key keys x y ys (Some e) (Some rest) es at first more =
      let one = first e refl in
      let all = more rest refl in
      let here : e ∷ rest ≡ es = cc in
      subst (λ es. HasAllKeyed (key ∷ keys) es (all_effects symbols other memory (y ∷ ys))) here (record {
        effects = one.effect ∷ all.effects;
        effects_are = ap (option_and_then (λ e. option_map (λ es. e ∷ es) (all_effects symbols other memory ys))) one.effect_is ∙
            ap (option_map (λ es. one.effect ∷ es)) all.effects_are;
        same = ap (λ (es : List Effect). e ∷ es) all.same;
        keyed = one_more (record { key = key; effect = e }) one.effect (with_keys keys rest) all.effects one.keyed all.keyed;
      })

  -- the elements of a parallel
  pub all_keyed : (keys : List (Option ℕ)) (xs ys : List Rtx) → AllTurnedAs keys xs ys → (es : List Effect) → all_effects symbols regs memory xs ≡ Some es →
      HasAllKeyed keys es (all_effects symbols other memory ys)
  all_keyed _ _ _ none es is = let here : [] ≡ es = cc in
      subst (λ es. HasAllKeyed [] es (Some [])) here (record { effects = []; effects_are = refl; same = refl; keyed = no_more })
  all_keyed _ _ _ (next key keys x y xs ys turned more) es is =
      both_keyed key keys x y ys (effect_of symbols regs memory x) (all_effects symbols regs memory xs) es is
      (λ e at. one_keyed key x y e turned at) (λ es at. all_keyed keys xs ys more es at)

  alone_keyed : (key : Option ℕ) (y : Rtx) (o : Option Effect) (es : List Effect) → option_map (λ e. e ∷ []) o ≡ Some es →
      ((e : Effect) → o ≡ Some e → HasKeyed key e y) → HasAllKeyed (key ∷ []) es (one_effect symbols other memory y)
  alone_keyed key y None es at first = absurd (let never : ⊥ = cc in never)
  alone_keyed key y (Some e) es at first =
      let one = first e refl in
      let here : e ∷ [] ≡ es = cc in
      subst (λ es. HasAllKeyed (key ∷ []) es (one_effect symbols other memory y)) here (record {
        effects = one.effect ∷ [];
        effects_are = ap (option_map (λ e. e ∷ [])) one.effect_is;
        same = refl;
        keyed = one_more (record { key = key; effect = e }) one.effect [] [] one.keyed no_more;
      })

  -- an element that stands alone
  pub one_keyed_alone : (key : Option ℕ) (x y : Rtx) → TurnedAs key x y → (es : List Effect) → one_effect symbols regs memory x ≡ Some es →
      HasAllKeyed (key ∷ []) es (one_effect symbols other memory y)
  one_keyed_alone key x y turned es is = alone_keyed key y (effect_of symbols regs memory x) es is (λ e at. one_keyed key x y e turned at)

  -- ---- those that are kept

  one_instead : (key : Option ℕ) (e d : Effect) (kept ds : List Effect) → OneKeyed key e d → Instead kept ds → Instead (with_kept key e kept) (d ∷ ds)
  one_instead _ e _ kept ds (still _) more = instead.same e kept ds more
  one_instead _ e _ kept ds (held k _ w v is spare wide) more = instead.spare (Sets (own k) (known_of w v)) kept ds spare more
  one_instead _ e _ kept ds (lost _ q left spare free) more = left_instead e kept (Unsets q ∷ ds) left (instead.spare (Unsets q) kept ds spare more)

  pub keyed_instead : (xs : List Keyed) (ds : List Effect) → AllKeyed xs ds → Instead (kept_of xs) ds
  keyed_instead _ _ no_more = instead.none
  keyed_instead _ _ (one_more x d xs ds one more) = one_instead x.key x.effect d (kept_of xs) ds one (keyed_instead xs ds more)

  -- ---- what the register of a result has behind them

  -- each effect that stays changes none of t3 to t6
  abbrev pub AreOnRest : List Keyed → Type 0
  AreOnRest [] = Unit {0}
  AreOnRest (x ∷ xs) = IsOnRest x.effect × AreOnRest xs

  -- each key is that of a result
  abbrev pub AreResults : (ℕ → Type 0) → List Keyed → Type 0
  AreResults IsResult [] = Unit {0}
  AreResults IsResult (x ∷ xs) = ((j : ℕ) → x.key ≡ Some j → IsResult j) × AreResults IsResult xs

  -- the registers of results are apart, also from those that are unset
  module _ (IsResult : ℕ → Type 0) (own_apart : (j k : ℕ) → IsResult j → IsResult k → j ≢ k → own j ≢ own k)
      (free_apart : (q k : ℕ) → Free q → IsResult k → q ≢ own k) (k : ℕ) (is_k : IsResult k) (spare : is_spare (own k) ≡ true) where
    last_none : (x : Keyed) (xs : List Keyed) → last_by (last_of xs k) x.key k x.effect ≡ None → (last_of xs k ≡ None) × (x.key ≢ Some k)
    last_none x xs is = by (last_of xs k) x.key refl refl is
      where
        by : (o : Option Effect) (key : Option ℕ) → last_of xs k ≡ o → x.key ≡ key → last_by o key k x.effect ≡ None → (last_of xs k ≡ None) × (x.key ≢ Some k)
        by (Some o) key here at is = absurd (let never : ⊥ = cc in never)
        by None None here at is = (here, λ same. let e : ◌≡◌ {A = Option ℕ} None (Some k) = sym at ∙ same in let never : ⊥ = cc in never)
        by None (Some j) here at is = (
          here,
          λ same. let e : j ≡ k = (let e : ◌≡◌ {A = Option ℕ} (Some j) (Some k) = sym at ∙ same in cc) in
              let yes' : eqb j k ≡ true = grind (arith, nat_tests, e) in
              let found : ◌≡◌ {A = Option Effect} (Some x.effect) None = sym (ap (λ b. if b then Some x.effect else None) yes') ∙ is in
              let never : ⊥ = cc in never,
        )

    -- one that is none of its results leaves it
    one_left : (key : Option ℕ) (e d : Effect) (r : Regs) → OneKeyed key e d → key ≢ Some k → ((j : ℕ) → key ≡ Some j → IsResult j) → IsOnRest e → get (reg_after d r) (own k) ≡ get r (own k)
    one_left _ e _ r (still _) other results on = rest_alone (own k) e r spare on
    one_left _ e _ r (held j _ w v is _ wide) other results on =
        set_other r (own j) (known_of w v) (own k) (λ same. own_apart j k (results j refl) is_k (λ e. other (ap Some e)) (sym same))
    one_left _ e _ r (lost _ q left _ free) other results on = unset_other r q (own k) (λ same. free_apart q k free is_k (sym same))

    pub all_left : (xs : List Keyed) (ds : List Effect) (r : Regs) → AllKeyed xs ds → AreOnRest xs → AreResults IsResult xs → last_of xs k ≡ None → get (regs_after ds r) (own k) ≡ get r (own k)
    all_left _ _ r no_more on results is = refl
    all_left _ _ r (one_more x d xs ds one more) on results is =
        let both = last_none x xs is in
        all_left xs ds (reg_after d r) more on.1 results.1 both.0 ∙ one_left x.key x.effect d r one both.1 results.0 on.0

    -- what the last of its effects has set
    pub record IsHeld (ds : List Effect) (e : Effect) : Type 0 where
      pub width : Width
      pub value : ℕ
      pub sets : IsSet symbols regs other memory width value e
      pub wide : width_of (mode k) ≡ Some width
      pub holds : (r : Regs) → get (regs_after ds r) (own k) ≡ Some (known_of width value)

    one_held : (key : Option ℕ) (e d : Effect) (ds : List Effect) → OneKeyed key e d → key ≡ Some k → own k ≢ 0 →
        ((r : Regs) → get (regs_after ds r) (own k) ≡ get r (own k)) → IsHeld (d ∷ ds) e
    one_held _ e _ ds (still _) is some left = absurd (let never : ⊥ = cc in never)
    one_held _ e _ ds (held j _ w v sets _ wide) is some left =
        let same : j ≡ k = cc in record {
          width = w;
          value = v;
          sets = sets;
          wide = ap (λ j. width_of (mode j)) (sym same) ∙ wide;
          holds = λ r. left (reg_after (Sets (own j) (known_of w v)) r) ∙
              ap (λ q. get (reg_after (Sets q (known_of w v)) r) (own k)) (ap own same) ∙ set_is r (own k) (known_of w v) some;
        }
    one_held _ e _ ds (lost _ q left' _ free) is some left = absurd (let never : ⊥ = cc in never)

    pub all_held : (xs : List Keyed) (ds : List Effect) (e : Effect) → own k ≢ 0 → AllKeyed xs ds → AreOnRest xs → AreResults IsResult xs → last_of xs k ≡ Some e → IsHeld ds e
    all_held _ _ e some no_more on results is = absurd (let never : ⊥ = cc in never)
    all_held _ _ e some (one_more x d xs ds one more) on results is =
        by (last_of xs k) x.key refl refl is (λ found. all_held xs ds e some more on.1 results.1 found)
      where
        by : (o : Option Effect) (key : Option ℕ) → last_of xs k ≡ o → x.key ≡ key → last_by o key k x.effect ≡ Some e →
            (last_of xs k ≡ Some e → IsHeld ds e) → IsHeld (d ∷ ds) e
        by (Some o) key here at is rest =
            let h = rest (here ∙ is) in record {
              width = h.width;
              value = h.value;
              sets = h.sets;
              wide = h.wide;
              holds = λ r. h.holds (reg_after d r);
            }
        by None None here at is rest = absurd (let never : ⊥ = cc in never)
        by None (Some j) here at is rest = found (eqb j k) refl is
          where
            found : (b : Bool) → eqb j k ≡ b → (if b then Some x.effect else None) ≡ Some e → IsHeld (d ∷ ds) e
            found true same is =
                let here' : x.effect ≡ e = cc in
                subst (λ e. IsHeld (d ∷ ds) e) here'
                (one_held x.key x.effect d ds one (at ∙ ap Some (let e : j ≡ k = grind (arith, nat_tests, same) in e)) some
                (λ r. all_left xs ds r more on.1 results.1 here))
            found false same is = absurd (let never : ⊥ = cc in never)
