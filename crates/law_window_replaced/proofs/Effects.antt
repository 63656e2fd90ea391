-- What an instruction does by registers it does by others, of which as much is known where it uses them; and of a register that it
-- defines as much is known behind it.
use Rattle.std.proofs.Common.{◌≡◌, ℕ, zero, suc, ◌||◌, if◌then◌else◌, Bool, true, false, List, [], ◌∷◌, Option, Some, None, refl, sym, ap, subst, ◌∙◌}
use Rattle.std.specs.Cmp.{nat_cmp_total}
use Rattle.std.specs.FinMap.{get, get-insert, get-remove}
use Rattle.std.specs.Int.{cast_unsigned, w64}
use Rattle.std.specs.List.{list_all, list_any}
use Rattle.std.specs.Ordering.{nat_cmp, eq_by_cmp}
use Rattle.std.specs.Prelude.{option_and_then, option_map, is_some}
use Rattle.bits64.specs.declared.Width.{Width}
use Rattle.bits64.specs.declared.Width.TheVariants.{W64}
use Rattle.rtx_tree.specs.Tree.{kids_of, mentions_reg}
use Rattle.rtx_tree.specs.declared.code.Code.{Code}
use Rattle.rtx_tree.specs.declared.code.Code.TheVariants.{Reg, Subreg, Mem, Scratch, Set, Use, Clobber, Parallel}
use Rattle.rtx_tree.specs.declared.machine.SymbolAt.{SymbolAt}
use Rattle.rtx_tree.specs.declared.memories.MemByte.{MemByte}
use Rattle.rtx_tree.specs.declared.tree.Rtx.{Rtx, out-Rtx}
use Rattle.run_memory.specs.RunMemory.{load}
use Rattle.rtl_step.specs.Effect as step
use Rattle.rtl_step.specs.Effect.{reg_after, regs_after, register_of, register_by, inner_number, address_of, address_part}
use Rattle.rtl_step.specs.Regs.{Regs, known_in, known_of, with_reg, without_reg}
use Rattle.rtl_step.specs.Value.{width_of, value_of, of_two}
use Rattle.rtl_step.specs.declared.effect.Effect.{Effect}
use Rattle.rtl_step.specs.declared.effect.Effect.TheVariants.{Nothing, Sets, Unsets, Stores}
use Rattle.rtl_step.specs.declared.regs.Known.{Known}
use Rattle.rtl_step.proofs.Too.{Too, too_map, too_two}
use Rattle.reg_uses.specs.Effects.{is_register, reads, place_is, place_is_by, place_reads, place_reads_by, effect_uses_by, effect_defines_by, effect_uses, effect_defines, effects_by, all_use, all_define, pattern_uses, pattern_defines}
use Rattle.law_window_kept.specs.Same.{KnownToo}
use Rattle.law_window_lines.proofs.Small.{is_here}
use Rattle.sym_insns.specs.Shape.{is_natural, all_natural}
use Rattle.law_window_replaced.proofs.Known.{both_of, or_first, or_later, number_of, Had, values_too}
use Rattle.law_window_replaced.proofs.Trees.{natural_here, natural_kids, reads_it, mentions_kid, is_it}

-- ---- what is known behind an effect

get_with : (regs : Regs) (t : ℕ) (k : Known) (reg : ℕ) →
    get (with_reg regs (suc t) k) reg ≡ (if eq_by_cmp nat_cmp reg (suc t) then Some k else get regs reg)
get_with regs t k reg = get-insert nat_cmp_total regs (suc t) k reg

get_without : (regs : Regs) (t reg : ℕ) → get (without_reg regs t) reg ≡ (if eq_by_cmp nat_cmp reg t then None else get regs reg)
get_without regs t reg = get-remove nat_cmp_total regs t reg

too_either : (b : Bool) (one : Option Known) (x y : Option Known) (w : Width) → Too (option_and_then (known_in w) x) (option_and_then
    (known_in w) y) →
    Too (option_and_then (known_in w) (if b then one else x)) (option_and_then (known_in w) (if b then one else y))
too_either true one x y w too = λ v is. is
too_either false one x y w too = too

with_too : (a b : Regs) (t : ℕ) (k : Known) (reg : ℕ) → KnownToo a b reg → KnownToo (with_reg a t k) (with_reg b t k) reg
with_too a b zero k reg too = too
with_too a b (suc t) k zero too = λ w v is. is
with_too a b (suc t) k (suc reg) too = λ w v is. ap (option_and_then (known_in w)) (get_with b t k (suc reg)) ∙
    too_either (eq_by_cmp nat_cmp (suc reg) (suc t)) (Some k) (get a (suc reg)) (get b (suc reg)) w (too w) v
    (sym (ap (option_and_then (known_in w)) (get_with a t k (suc reg))) ∙ is)

without_too : (a b : Regs) (t reg : ℕ) → KnownToo a b reg → KnownToo (without_reg a t) (without_reg b t) reg
without_too a b t zero too = λ w v is. is
without_too a b t (suc reg) too = λ w v is. ap (option_and_then (known_in w)) (get_without b t (suc reg)) ∙
    too_either (eq_by_cmp nat_cmp (suc reg) t) None (get a (suc reg)) (get b (suc reg)) w (too w) v
    (sym (ap (option_and_then (known_in w)) (get_without a t (suc reg))) ∙ is)

after_one : (e : Effect) (a b : Regs) (reg : ℕ) → KnownToo a b reg → KnownToo (reg_after e a) (reg_after e b) reg
after_one (Sets t k) a b reg too = with_too a b t k reg too
after_one (Unsets t) a b reg too = without_too a b t reg too
after_one Nothing a b reg too = too
after_one (Stores w at value) a b reg too = too

-- as much is known behind effects as before
pub after_too : (es : List Effect) (a b : Regs) (reg : ℕ) → KnownToo a b reg → KnownToo (regs_after es a) (regs_after es b) reg
after_too [] a b reg too = too
after_too (e ∷ es) a b reg too = after_too es (reg_after e a) (reg_after e b) reg (after_one e a b reg too)

-- an effect changes a register, whatever was known
abbrev Fixes : Effect → ℕ → Type 0
Fixes e reg = (a b : Regs) → KnownToo (reg_after e a) (reg_after e b) reg

sets_here : (q : ℕ) (k : Known) → Fixes (Sets (suc q) k) (suc q)
sets_here q k a b w v is =
    let at : (c : Regs) → get (with_reg c (suc q) k) (suc q) ≡ Some k = λ c. get_with c q k (suc q) ∙
    ap (λ e. if e then Some k else get c (suc q)) (is_here (suc q)) in
    ap (option_and_then (known_in w)) (at b ∙ sym (at a)) ∙ is

unsets_here : (q : ℕ) → Fixes (Unsets (suc q)) (suc q)
unsets_here q a b w v is =
    let at : (c : Regs) → get (without_reg c (suc q)) (suc q) ≡ None = λ c. get_without c (suc q) (suc q) ∙
    ap (λ e. if e then None else get c (suc q)) (is_here (suc q)) in
    ap (option_and_then (known_in w)) (at b ∙ sym (at a)) ∙ is

sets_fix : (target value : Option ℕ) (w : Width) (e : Effect) (q : ℕ) → ((r : ℕ) → target ≡ Some r → r ≡ suc q) →
    of_two (λ t value. Some (Sets t (known_of w value))) target value ≡ Some e → Fixes e (suc q)
sets_fix None value w e q only is = absurd (let no : ⊥ = cc in no)
sets_fix (Some t) None w e q only is = absurd (let no : ⊥ = cc in no)
sets_fix (Some t) (Some value) w e q only is =
    let here : Sets t (known_of w value) ≡ e = cc in
    subst (λ e. Fixes e (suc q)) here (subst (λ t. Fixes (Sets t (known_of w value)) (suc q)) (sym (only t refl))
    (sets_here q (known_of w value)))

unsets_fix : (target : Option ℕ) (e : Effect) (q : ℕ) → ((r : ℕ) → target ≡ Some r → r ≡ suc q) → option_map Unsets target ≡ Some e →
    Fixes e (suc q)
unsets_fix None e q only is = absurd (let no : ⊥ = cc in no)
unsets_fix (Some t) e q only is = let here : Unsets t ≡ e = cc in
    subst (λ e. Fixes e (suc q)) here (subst (λ t. Fixes (Unsets t) (suc q)) (sym (only t refl)) (unsets_here q))

-- ---- places

inner_is : (c : Code) (x : Rtx) (q r : ℕ) → (out-Rtx x).code ≡ c → all_natural x ≡ true → is_register (suc q) x ≡ true →
    inner_number c (out-Rtx x).number ≡ Some r → r ≡ suc q
inner_is Reg x q r is natural same at =
    let here : cast_unsigned w64 (out-Rtx x).number ≡ r = cc in
    sym here ∙ number_of (out-Rtx x).number (suc q) (ap (λ c. is_natural c (out-Rtx x).number) (sym is) ∙ natural_here x natural)
    (is_it q Reg x is same)
inner_is _ x q r is natural same at = absurd (let no : ⊥ = cc in no)

first_natural : (x : Rtx) (inner : Rtx) (kids : List Rtx) → kids_of x ≡ inner ∷ kids → all_natural x ≡ true → all_natural inner ≡ true
first_natural x inner kids are natural =
    (both_of (all_natural inner) (list_all all_natural kids) (ap (list_all all_natural) (sym are) ∙ natural_kids x natural)).0

-- a place that is a register, or the low part of one, is set in that register
target_is : (code : Code) (kids : List Rtx) (place : Rtx) (q : ℕ) → (out-Rtx place).code ≡ code → kids_of place ≡ kids →
    all_natural place ≡ true → place_is_by (suc q) code kids place ≡ true →
    (address_part code kids ≡ None) × ((r : ℕ) → register_by code (out-Rtx place).number kids ≡ Some r → r ≡ suc q)
target_is Reg kids place q is are natural same = (refl, λ r at. inner_is Reg place q r is natural same at)
target_is Subreg (inner ∷ []) place q is are natural same =
    (refl, λ r at. inner_is (out-Rtx inner).code inner q r refl (first_natural place inner [] are natural) same at)
target_is Mem kids place q is are natural same = absurd (let no : false ≡ true = is_it q Mem place is same in let none : ⊥ = cc in none)
target_is _ kids place q is are natural same = (refl, λ r at. absurd (let no : ⊥ = cc in no))

module _ (symbols : List SymbolAt) (regs other : Regs) (memory : List MemByte) where
  -- as much is known of the registers that are used
  abbrev pub AsMuch : (ℕ → Bool) → Type 0
  AsMuch uses = (q : ℕ) → uses (suc q) ≡ true → KnownToo regs other (suc q)

  address_had : (code : Code) (kids : List Rtx) (place address : Rtx) → (out-Rtx place).code ≡ code → kids_of place ≡ kids →
      all_natural place ≡ true → AsMuch (λ reg. place_reads_by reg code place) → address_part code kids ≡ Some address →
      (all_natural address ≡ true) × Had symbols regs other memory address
  address_had Mem (a ∷ []) place address is are natural known at =
      let same : a ≡ address = cc in
      subst (λ x. (all_natural x ≡ true) × Had symbols regs other memory x) same (
        first_natural place a [] are natural,
        λ q stands. known q (reads_it q place (mentions_kid place (suc q)
            (ap (list_any (mentions_reg (suc q))) are ∙ or_first (mentions_reg (suc q) a) _ stands))),
      )
  address_had _ kids place address is are natural known at = absurd (let no : ⊥ = cc in no)

  set_part : (address : Option Rtx) (place source : Rtx) (w : Width) → address_of place ≡ address → all_natural place ≡ true →
      all_natural source ≡ true → AsMuch (λ reg. place_reads reg place || reads reg source) →
      Too (step.set_place address symbols regs memory place source w) (step.set_place address symbols other memory place source w)
  set_part None place source w is natural natural' known =
      too_two (λ reg value. Some (Sets reg (known_of w value))) (register_of place) (register_of place)
      (value_of symbols regs memory source w) (value_of symbols other memory source w) (λ v is. is)
      (values_too symbols regs other memory source w natural'
      (λ q stands. known q (or_later (place_reads (suc q) place) _ (reads_it q source stands))))
  set_part (Some address) place source w is natural natural' known =
      let had = address_had (out-Rtx place).code (kids_of place) place address refl refl natural
      (λ q uses. known q (or_first (place_reads (suc q) place) _ uses)) is in
      too_two (λ at value. if is_some (load w memory at) then Some (Stores w at value) else None)
      (value_of symbols regs memory address W64) (value_of symbols other memory address W64)
      (value_of symbols regs memory source w) (value_of symbols other memory source w)
      (values_too symbols regs other memory address W64 had.0 had.1)
      (values_too symbols regs other memory source w natural'
      (λ q stands. known q (or_later (place_reads (suc q) place) _ (reads_it q source stands))))

  set_too : (mode : Option Width) (place source : Rtx) → all_natural place ≡ true → all_natural source ≡ true →
      AsMuch (λ reg. place_reads reg place || reads reg source) →
      Too (option_and_then (step.set_place (address_of place) symbols regs memory place source) mode)
      (option_and_then (step.set_place (address_of place) symbols other memory place source) mode)
  set_too None place source natural natural' known = λ v is. absurd (let no : ⊥ = cc in no)
  set_too (Some w) place source natural natural' known = set_part (address_of place) place source w refl natural natural' known

  -- ---- one effect

  effect_too : (code : Code) (kids : List Rtx) (x : Rtx) → list_all all_natural kids ≡ true →
      AsMuch (λ reg. effect_uses_by reg code kids x) →
      Too (step.effect_by code kids symbols regs memory) (step.effect_by code kids symbols other memory)
  effect_too Set (place ∷ source ∷ []) x natural known =
      let first = both_of (all_natural place) _ natural in
      set_too (width_of (out-Rtx place).mode) place source first.0 (both_of (all_natural source) _ first.1).0 known
  effect_too Use (y ∷ []) x natural known = λ v is. is
  effect_too Clobber (place ∷ []) x natural known = λ v is. is
  effect_too _ kids x natural known = λ v is. absurd (let no : ⊥ = cc in no)

  set_fixes : (address : Option Rtx) (place source : Rtx) (w : Width) (e : Effect) (q : ℕ) → address ≡ None →
      ((r : ℕ) → register_of place ≡ Some r → r ≡ suc q) → step.set_place address symbols regs memory place source w ≡ Some e →
      Fixes e (suc q)
  set_fixes None place source w e q none only is =
      sets_fix (register_of place) (value_of symbols regs memory source w) w e q only is
  set_fixes (Some address) place source w e q none only is = absurd (let no : ⊥ = cc in no)

  set_mode_fixes : (mode : Option Width) (place source : Rtx) (e : Effect) (q : ℕ) → all_natural place ≡ true →
      place_is (suc q) place ≡ true →
      option_and_then (step.set_place (address_of place) symbols regs memory place source) mode ≡ Some e → Fixes e (suc q)
  set_mode_fixes None place source e q natural same is = absurd (let no : ⊥ = cc in no)
  set_mode_fixes (Some w) place source e q natural same is =
      let target = target_is (out-Rtx place).code (kids_of place) place q refl refl natural same in
      set_fixes (address_of place) place source w e q target.0 target.1 is

  clobber_fixes : (code : Code) (kids : List Rtx) (place : Rtx) (e : Effect) (q : ℕ) → (out-Rtx place).code ≡ code →
      kids_of place ≡ kids → all_natural place ≡ true → place_is_by (suc q) code kids place ≡ true →
      step.clobber_by code (register_by code (out-Rtx place).number kids) ≡ Some e → Fixes e (suc q)
  clobber_fixes Reg kids place e q is are natural same at =
      unsets_fix (register_by Reg (out-Rtx place).number kids) e q (target_is Reg kids place q is are natural same).1 at
  clobber_fixes Subreg kids place e q is are natural same at =
      unsets_fix (register_by Subreg (out-Rtx place).number kids) e q (target_is Subreg kids place q is are natural same).1 at
  clobber_fixes Mem kids place e q is are natural same at =
      absurd (let no : false ≡ true = is_it q Mem place is same in let none : ⊥ = cc in none)
  clobber_fixes Scratch kids place e q is are natural same at =
      absurd (let no : false ≡ true = is_it q Scratch place is same in let none : ⊥ = cc in none)
  clobber_fixes _ kids place e q is are natural same at = absurd (let no : ⊥ = cc in no)

  -- an effect that defines a register changes it, whatever was known
  effect_fixes : (code : Code) (kids : List Rtx) (e : Effect) (q : ℕ) → list_all all_natural kids ≡ true →
      step.effect_by code kids symbols regs memory ≡ Some e → effect_defines_by (suc q) code kids ≡ true → Fixes e (suc q)
  effect_fixes Set (place ∷ source ∷ []) e q natural is defines =
      set_mode_fixes (width_of (out-Rtx place).mode) place source e q (both_of (all_natural place) _ natural).0 defines is
  effect_fixes Use (y ∷ []) e q natural is defines = absurd (let no : ⊥ = cc in no)
  effect_fixes Clobber (place ∷ []) e q natural is defines =
      clobber_fixes (out-Rtx place).code (kids_of place) place e q refl refl (both_of (all_natural place) _ natural).0 defines is
  effect_fixes _ kids e q natural is defines = absurd (let no : ⊥ = cc in no)

  -- ---- all effects

  both_too : (a a' : Option Effect) (b b' : Option (List Effect)) → Too a a' → Too b b' →
      Too (option_and_then (λ e. option_map (λ es. e ∷ es) b) a) (option_and_then (λ e. option_map (λ es. e ∷ es) b') a')
  both_too None a' b b' first second v is = absurd (let no : ⊥ = cc in no)
  both_too (Some e) a' None b' first second v is = absurd (let no : ⊥ = cc in no)
  both_too (Some e) a' (Some es) b' first second v is =
      ap (option_and_then (λ e. option_map (λ es. e ∷ es) b')) (first e refl) ∙
      ap (option_map (λ es. e ∷ es)) (second es refl) ∙ is

  all_too : (xs : List Rtx) → list_all all_natural xs ≡ true → AsMuch (λ reg. all_use reg xs) →
      Too (step.all_effects symbols regs memory xs) (step.all_effects symbols other memory xs)
  all_too [] natural known = λ v is. is
  all_too (x ∷ xs) natural known =
      let both = both_of (all_natural x) _ natural in
      both_too (step.effect_of symbols regs memory x) (step.effect_of symbols other memory x)
      (step.all_effects symbols regs memory xs) (step.all_effects symbols other memory xs)
      (effect_too (out-Rtx x).code (kids_of x) x (natural_kids x both.0) (λ q uses. known q (or_first (effect_uses (suc q) x) _ uses)))
      (all_too xs both.1 (λ q uses. known q (or_later (effect_uses (suc q) x) _ uses)))

  by_code : (code : Code) (x : Rtx) → all_natural x ≡ true → AsMuch (λ reg. all_use reg (effects_by code (kids_of x) x)) →
      Too (step.effects_by code x symbols regs memory) (step.effects_by code x symbols other memory)
  by_code Parallel x natural known = all_too (kids_of x) (natural_kids x natural) known
  by_code _ x natural known =
      too_map (λ e. e ∷ []) (step.effect_of symbols regs memory x) (step.effect_of symbols other memory x)
      (effect_too (out-Rtx x).code (kids_of x) x (natural_kids x natural) (λ q uses. known q (or_first (effect_uses (suc q) x) _ uses)))

  -- an instruction has the same effects
  pub effects_too : (x : Rtx) → all_natural x ≡ true → AsMuch (λ reg. pattern_uses reg x) →
      Too (step.effects_of symbols regs memory x) (step.effects_of symbols other memory x)
  effects_too x natural known = by_code (out-Rtx x).code x natural known

  abbrev AllFix : List Effect → ℕ → Type 0
  AllFix es reg = (a b : Regs) → KnownToo (regs_after es a) (regs_after es b) reg

  fix_here : (b : Bool) (x : Rtx) (xs : List Rtx) (e : Effect) (es : List Effect) (q : ℕ) → effect_defines (suc q) x ≡ b →
      b || all_define (suc q) xs ≡ true → (effect_defines (suc q) x ≡ true → Fixes e (suc q)) →
      (all_define (suc q) xs ≡ true → AllFix es (suc q)) → AllFix (e ∷ es) (suc q)
  fix_here true x xs e es q is defines first rest a b = after_too es (reg_after e a) (reg_after e b) (suc q) (first is a b)
  fix_here false x xs e es q is defines first rest a b = rest defines (reg_after e a) (reg_after e b)

  fix_parts : (x : Rtx) (xs : List Rtx) (o : Option Effect) (rest : Option (List Effect)) (es : List Effect) (q : ℕ) →
      step.effect_of symbols regs memory x ≡ o → step.all_effects symbols regs memory xs ≡ rest →
      option_and_then (λ e. option_map (λ es. e ∷ es) rest) o ≡ Some es → all_define (suc q) (x ∷ xs) ≡ true →
      ((e : Effect) → step.effect_of symbols regs memory x ≡ Some e → effect_defines (suc q) x ≡ true → Fixes e (suc q)) →
      ((es : List Effect) → step.all_effects symbols regs memory xs ≡ Some es → all_define (suc q) xs ≡ true → AllFix es (suc q)) →
      AllFix es (suc q)
  fix_parts x xs None rest es q at at' is defines first later = absurd (let no : ⊥ = cc in no)
  fix_parts x xs (Some e) None es q at at' is defines first later = absurd (let no : ⊥ = cc in no)
  fix_parts x xs (Some e) (Some rest) es q at at' is defines first later =
      let here : e ∷ rest ≡ es = cc in
      subst (λ es. AllFix es (suc q)) here
      (fix_here (effect_defines (suc q) x) x xs e rest q refl defines (first e at) (later rest at'))

  all_fix : (xs : List Rtx) (es : List Effect) (q : ℕ) → list_all all_natural xs ≡ true →
      step.all_effects symbols regs memory xs ≡ Some es → all_define (suc q) xs ≡ true → AllFix es (suc q)
  all_fix [] es q natural is defines = absurd (let no : ⊥ = cc in no)
  all_fix (x ∷ xs) es q natural is defines =
      let both = both_of (all_natural x) _ natural in
      fix_parts x xs (step.effect_of symbols regs memory x) (step.all_effects symbols regs memory xs) es q refl refl is defines
      (λ e at. effect_fixes (out-Rtx x).code (kids_of x) e q (natural_kids x both.0) at)
      (λ es at. all_fix xs es q both.1 at)

  one_fix : (x : Rtx) (o : Option Effect) (es : List Effect) (q : ℕ) → step.effect_of symbols regs memory x ≡ o →
      option_map (λ e. e ∷ []) o ≡ Some es → all_natural x ≡ true → all_define (suc q) (x ∷ []) ≡ true → AllFix es (suc q)
  one_fix x None es q at is natural defines = absurd (let no : ⊥ = cc in no)
  one_fix x (Some e) es q at is natural defines =
      let here : e ∷ [] ≡ es = cc in
      subst (λ es. AllFix es (suc q)) here
      (fix_here (effect_defines (suc q) x) x [] e [] q refl defines
      (effect_fixes (out-Rtx x).code (kids_of x) e q (natural_kids x natural) at) (λ no. absurd (let none : ⊥ = cc in none)))

  fix_by : (code : Code) (x : Rtx) (es : List Effect) (q : ℕ) → all_natural x ≡ true →
      step.effects_by code x symbols regs memory ≡ Some es → all_define (suc q) (effects_by code (kids_of x) x) ≡ true →
      AllFix es (suc q)
  fix_by Parallel x es q natural is defines = all_fix (kids_of x) es q (natural_kids x natural) is defines
  fix_by _ x es q natural is defines = one_fix x (step.effect_of symbols regs memory x) es q refl is natural defines

  -- of a register that an instruction defines as much is known behind it
  pub effects_fix : (x : Rtx) (es : List Effect) (q : ℕ) → all_natural x ≡ true → step.effects_of symbols regs memory x ≡ Some es →
      pattern_defines (suc q) x ≡ true → (a b : Regs) → KnownToo (regs_after es a) (regs_after es b) (suc q)
  effects_fix x es q natural is defines = fix_by (out-Rtx x).code x es q natural is defines
