-- What an instruction defines is what is changed in the symbolic state after it.
use Rattle.std.proofs.Math.Bool.{or-true, or-false, or_assoc}
use Rattle.std.proofs.lemmas.Bool.Decides.{nat_tests}
use Rattle.std.proofs.Common.{◌≡◌, ◌≢◌, ℕ, zero, suc, ◌==◌, ◌||◌, Bool, true, false, List, [], ◌∷◌, map, Option, Some, None, refl, sym, ◌∙◌, ap, arith}
use Rattle.std.specs.Prelude.{is_some}
use Rattle.std.specs.List.{list_any, AllByRecursion}
use Rattle.bits64.specs.declared.Width.{Width}
use Rattle.rtx_tree.specs.Code.{class_of_code}
use Rattle.rtx_tree.specs.declared.class.Class.TheVariants as class
use Rattle.rtx_tree.specs.declared.code.Code.{Code}
use Rattle.rtx_tree.specs.declared.code.Code.TheVariants as code
use Rattle.rtx_tree.specs.declared.code.Mode.{Mode}
use Rattle.rtx_tree.specs.declared.code.Mode.TheVariants.{Void, QI, HI, SI, DI}
use Rattle.rtx_tree.specs.declared.tree.Rtx.{Rtx, out-Rtx}
use Rattle.rtl_step.specs.Value as rtl
use Rattle.rtl_step.specs.Effect.{register_of, address_of, register_by}
use Rattle.rtl_func.specs.Shapes.{mode_at, number_at, has_mode, fits_row}
use Rattle.reg_uses.specs.Effects as uses
use Rattle.term_tree.specs.Tree.{Tree}
use Rattle.term_mean.specs.Stores.{Store}
use Rattle.sym_insns.specs.sym_state.State.{State, Changed}
use Rattle.sym_insns.specs.sym_state.Registers.{held, put}
use Rattle.sym_insns.specs.Value.{Made, made_of}
use Rattle.sym_insns.specs.Effects as spec
use Rattle.law_insn_terms.proofs.Changes.{same_number, held_placed, held_kept}
use Rattle.law_insn_terms.proofs.JumpShapes.{IsSound, sound_kids, row_by}
use Rattle.law_insn_terms.proofs.Places.{IsNatural, natural_kids, is_that, place_as, memory_none, modeless_none}

-- ---- effects on registers

-- an effect changes the register
abbrev pub changes : spec.Effect → ℕ → Bool
changes (spec.Sets reg t) q = reg == q
changes (spec.Unsets reg) q = reg == q
changes _ q = false

put_by : (regs : List Changed) (r q : ℕ) (value : Option Tree) (same : Bool) → (suc r == suc q) ≡ same → is_some (held (put regs (suc r) value) (suc q)) ≡ (is_some (held regs (suc q)) || same)
put_by regs r q value true is =
    let e : suc r ≡ suc q = same_number (suc r) (suc q) is in
    ap (λ n. is_some (held (put regs (suc r) value) n)) (sym e) ∙ (ap is_some (held_placed regs (suc r) value) ∙ sym (or-true (is_some (held regs (suc q)))))
put_by regs r q value false is =
    let other : suc r ≢ suc q = λ same. (let yes : (suc r == suc q) ≡ true = grind (arith, nat_tests, same) in absurd (let no : ⊥ = cc in no)) in
    ap is_some (held_kept regs (suc r) (suc q) value other) ∙ sym (or-false (is_some (held regs (suc q))))

put_held : (regs : List Changed) (reg q : ℕ) (value : Option Tree) → is_some (held (put regs reg value) (suc q)) ≡ (is_some (held regs (suc q)) || (reg == suc q))
put_held regs zero q value =
    let none : (0 == suc q) ≡ false = grind (arith, nat_tests) in sym (ap (λ b. is_some (held regs (suc q)) || b) none ∙ or-false (is_some (held regs (suc q))))
put_held regs (suc r) q value = put_by regs r q value (suc r == suc q) refl

changes_held : (e : spec.Effect) (regs : List Changed) (q : ℕ) → is_some (held (spec.reg_after e regs) (suc q)) ≡ (is_some (held regs (suc q)) || changes e (suc q))
changes_held spec.Nothing regs q = sym (or-false (is_some (held regs (suc q))))
changes_held (spec.Sets reg t) regs q = put_held regs reg q (Some t)
changes_held (spec.Unsets reg) regs q = put_held regs reg q None
changes_held (spec.Stores address value) regs q = sym (or-false (is_some (held regs (suc q))))

abbrev pub all_change : List spec.Effected → ℕ → Bool
all_change es q = list_any (λ e. changes e.effect q) es

pub made_held : (index : ℕ) (es : List spec.Effected) (s : State) (q : ℕ) → is_some (held (spec.make_all index es s).regs (suc q)) ≡ (is_some (held s.regs (suc q)) || all_change es (suc q))
made_held index [] s q = sym (or-false (is_some (held s.regs (suc q))))
made_held index (e ∷ es) s q =
    made_held index es (spec.make index e s) q
    ∙ (ap (λ b. b || all_change es (suc q)) (changes_held e.effect s.regs q)
    ∙ or_assoc (is_some (held s.regs (suc q))) (changes e.effect (suc q)) (all_change es (suc q)))

-- ---- one effect

register_changes : (o : Option ℕ) (m : Made) (q : ℕ) → changes (spec.set_register o m).effect q ≡ is_that o q
register_changes None m q = refl
register_changes (Some reg) m q = refl

unset_changes : (o : Option ℕ) (q : ℕ) → changes (spec.unset o).effect q ≡ is_that o q
unset_changes None q = refl
unset_changes (Some reg) q = refl

module _ (regs : List Changed) (stores : List Store) (q : ℕ) where
  place_changes : (o : Option Rtx) (place source : Rtx) (w : Width) → (is_some o ≡ true → is_that (register_of place) (suc q) ≡ false) →
      changes (spec.set_place o regs stores place source w).effect (suc q) ≡ is_that (register_of place) (suc q)
  place_changes None place source w none = register_changes (register_of place) (made_of regs stores source w) (suc q)
  place_changes (Some address) place source w none = sym (none refl)

  no_mode : (m : Mode) → rtl.width_of m ≡ None → has_mode m ≡ false
  no_mode Void is = refl
  no_mode QI is = absurd (let no : ⊥ = cc in no)
  no_mode HI is = absurd (let no : ⊥ = cc in no)
  no_mode SI is = absurd (let no : ⊥ = cc in no)
  no_mode DI is = absurd (let no : ⊥ = cc in no)

  set_changes : (place source : Rtx) (o : Option Width) → rtl.width_of (mode_at place) ≡ o → IsSound place → changes (spec.set_in o regs stores place source).effect (suc q) ≡ is_that (register_of place) (suc q)
  set_changes place source None is sound = sym (modeless_none place (suc q) sound (no_mode (mode_at place) is))
  set_changes place source (Some w) is sound = place_changes (address_of place) place source w (memory_none place (suc q))

  clobber_by : (c : Code) (number : _) (parts : List Rtx) → changes (spec.clobber_by c (register_by c number parts)).effect (suc q) ≡ is_that (register_by c number parts) (suc q)
  clobber_by code.Mem number parts = refl
  clobber_by code.Scratch number parts = refl
  clobber_by c number parts = unset_changes (register_by c number parts) (suc q)

  set_part : (m : Mode) (reg : ℕ) (parts : List Rtx) → fits_row class.Setting m reg parts ≡ true → AllByRecursion IsSound parts → AllByRecursion IsNatural parts →
      changes (spec.effect_by code.Set parts regs stores).effect (suc q) ≡ uses.effect_defines_by (suc q) code.Set parts
  set_part m reg [] fits sound natural = absurd (let no : ⊥ = cc in no)
  set_part m reg (a ∷ []) fits sound natural = absurd (let no : ⊥ = cc in no)
  set_part m reg (place ∷ source ∷ []) fits sound natural = set_changes place source (rtl.width_of (mode_at place)) refl sound.0 ∙ place_as place q sound.0 natural.0
  set_part m reg (a ∷ b ∷ c ∷ []) fits sound natural = absurd (let no : ⊥ = cc in no)
  set_part m reg (a ∷ b ∷ c ∷ d ∷ parts) fits sound natural = absurd (let no : ⊥ = cc in no)

  clobber_part : (m : Mode) (reg : ℕ) (parts : List Rtx) → fits_row class.Clobber m reg parts ≡ true → AllByRecursion IsSound parts → AllByRecursion IsNatural parts →
      changes (spec.effect_by code.Clobber parts regs stores).effect (suc q) ≡ uses.effect_defines_by (suc q) code.Clobber parts
  clobber_part m reg [] fits sound natural = absurd (let no : ⊥ = cc in no)
  clobber_part m reg (place ∷ []) fits sound natural = clobber_by (out-Rtx place).code (out-Rtx place).number (out-Rtx place).kids ∙ place_as place q sound.0 natural.0
  clobber_part m reg (a ∷ b ∷ []) fits sound natural = absurd (let no : ⊥ = cc in no)
  clobber_part m reg (a ∷ b ∷ c ∷ []) fits sound natural = absurd (let no : ⊥ = cc in no)
  clobber_part m reg (a ∷ b ∷ c ∷ d ∷ parts) fits sound natural = absurd (let no : ⊥ = cc in no)

  use_part : (parts : List Rtx) → changes (spec.effect_by code.Use parts regs stores).effect (suc q) ≡ uses.effect_defines_by (suc q) code.Use parts
  use_part [] = refl
  use_part (x ∷ []) = refl
  use_part (x ∷ y ∷ parts) = refl

  part_by : (c : Code) (m : Mode) (reg : ℕ) (parts : List Rtx) → fits_row (class_of_code c) m reg parts ≡ true → AllByRecursion IsSound parts → AllByRecursion IsNatural parts →
      changes (spec.effect_by c parts regs stores).effect (suc q) ≡ uses.effect_defines_by (suc q) c parts
  part_by code.Set m reg parts fits sound natural = set_part m reg parts fits sound natural
  part_by code.Clobber m reg parts fits sound natural = clobber_part m reg parts fits sound natural
  part_by code.Use m reg parts fits sound natural = use_part parts
  part_by c m reg parts fits sound natural = refl

  pub part_changes : (x : Rtx) → IsSound x → IsNatural x → changes (spec.effect_of regs stores x).effect (suc q) ≡ uses.effect_defines (suc q) x
  part_changes x sound natural =
      part_by (out-Rtx x).code (mode_at x) (number_at x) (out-Rtx x).kids (row_by x (out-Rtx x).code sound refl) (sound_kids x sound) (natural_kids x natural)

  -- ---- all effects

  parts_change : (parts : List Rtx) → AllByRecursion IsSound parts → AllByRecursion IsNatural parts → all_change (map (spec.effect_of regs stores) parts) (suc q) ≡ uses.all_define (suc q) parts
  parts_change [] sound natural = refl
  parts_change (x ∷ parts) sound natural =
      ap (λ b. b || all_change (map (spec.effect_of regs stores) parts) (suc q)) (part_changes x sound.0 natural.0) ∙ ap (λ b. uses.effect_defines (suc q) x || b) (parts_change parts sound.1 natural.1)

  all_by : (c : Code) (x : Rtx) → IsSound x → IsNatural x → all_change (spec.effects_by c x regs stores) (suc q) ≡ uses.all_define (suc q) (uses.effects_by c (out-Rtx x).kids x)
  all_by code.Parallel x sound natural = parts_change (out-Rtx x).kids (sound_kids x sound) (natural_kids x natural)
  all_by c x sound natural = ap (λ b. b || false) (part_changes x sound natural)

  -- the effects of an instruction change what its pattern defines
  pub effects_change : (x : Rtx) → IsSound x → IsNatural x → all_change (spec.effects_of regs stores x) (suc q) ≡ uses.pattern_defines (suc q) x
  effects_change x sound natural = all_by (out-Rtx x).code x sound natural
