-- The operations on a register and a constant by which lowering sets the constant before: of each the form.
use Rattle.std.proofs.Common.{◌≡◌, ℕ, true, List, [], ◌∷◌, ◌++◌, codes, refl}
use Rattle.rtx_tree.specs.declared.code.Code.{Code}
use Rattle.rtx_tree.specs.declared.code.Code.TheVariants as code
use Rattle.rtx_tree.specs.declared.code.Mode.{Mode}
use Rattle.rtx_tree.specs.declared.code.Mode.TheVariants.{SI, DI}
use Rattle.rtx_tree.specs.declared.tree.Rtx.{Rtx, out-Rtx}
use Rattle.rtx_tree.specs.Patterns.{set_rtx}
use Rattle.rtx_tree.specs.Tree.{node_of}
use Rattle.text_words.specs.Words.{fits_i64}
use Rattle.md_operand.specs.Operand.{register_operand}
use Rattle.md_text.specs.declared.template.Template.TheVariants.{One}
use Rattle.plain_forms.specs.Parts as parts
use Rattle.plain_forms.specs.Forms as plain
use Rattle.plain_forms.specs.Forms.{plain_forms}
use Rattle.law_plain_operands.proofs.Plain.{have_plain}
use Rattle.law_plain_taken.proofs.Takes.{register_for_0}
use Rattle.law_plain_matched.specs.Matched.{IsConstantOf, takes_registers, is_word}
use Rattle.law_plain_matched.proofs.Found.{among_arithmetic}
use Rattle.law_plain_planned.specs.Planned.{new}
use Rattle.law_plain_planned.proofs.Steps.{HasPlan}
use Rattle.law_plain_planned.proofs.Registers.{Lawful}
use Rattle.law_plain_planned.proofs.Named as named
use Rattle.law_plain_planned.proofs.Operations.{operation_planned}

module _ (place a other : Rtx) (next : ℕ) (fits : fits_i64 (out-Rtx place).number ≡ true) where
  abbrev made : Code → Mode → Rtx
  made c m = set_rtx place (node_of c m (a ∷ new m next ∷ []))

  abbrev Planned : Code → Mode → Type 0
  Planned c m =
      register_operand m place ≡ true → register_operand m a ≡ true → IsConstantOf m other → Lawful (made c m) →
      HasPlan (set_rtx place (node_of c m (a ∷ other ∷ []))) next (set_rtx (new m next) other ∷ made c m ∷ [])

  minus : (m : Mode) → is_word m ≡ true → Planned code.Minus m
  minus SI word first left constant lawful =
      operation_planned code.Minus SI refl refl refl (codes "reg_or_0_operand") (register_for_0 plain_forms have_plain SI) 19 (codes "subsi3") parts.from_zero (One (plain.subtracts SI)) named.subtracts_si refl (among_arithmetic 3 (plain.subs SI) refl)
      place a other next first fits left constant lawful
  minus DI word first left constant lawful =
      operation_planned code.Minus DI refl refl refl (codes "reg_or_0_operand") (register_for_0 plain_forms have_plain DI) 20 (codes "subdi3") parts.from_zero (One (plain.subtracts DI)) named.subtracts_di refl (among_arithmetic 4 (plain.subs DI) refl)
      place a other next first fits left constant lawful
  minus _ word first left constant lawful = absurd (let no : ⊥ = cc in no)

  mult : (m : Mode) → is_word m ≡ true → Planned code.Mult m
  mult SI word first left constant lawful =
      operation_planned code.Mult SI refl refl refl (codes "register_operand") (λ y is. is) 22 (codes "mulsi3") parts.binary (One (parts.on_three (codes "mul" ++ plain.w SI))) named.multiplies_si refl (among_arithmetic 6 (plain.muls SI) refl)
      place a other next first fits left constant lawful
  mult DI word first left constant lawful =
      operation_planned code.Mult DI refl refl refl (codes "register_operand") (λ y is. is) 23 (codes "muldi3") parts.binary (One (parts.on_three (codes "mul" ++ plain.w DI))) named.multiplies_di refl (among_arithmetic 7 (plain.muls DI) refl)
      place a other next first fits left constant lawful
  mult _ word first left constant lawful = absurd (let no : ⊥ = cc in no)

  div : (m : Mode) → is_word m ≡ true → Planned code.Div m
  div SI word first left constant lawful =
      operation_planned code.Div SI refl refl refl (codes "register_operand") (λ y is. is) 24 (codes "divsi3") parts.binary (One (parts.on_three (plain.ins code.Div ++ plain.w SI))) named.divides_si refl (among_arithmetic 8 (plain.divides SI code.Div) refl)
      place a other next first fits left constant lawful
  div DI word first left constant lawful =
      operation_planned code.Div DI refl refl refl (codes "register_operand") (λ y is. is) 28 (codes "divdi3") parts.binary (One (parts.on_three (plain.ins code.Div ++ plain.w DI))) named.divides_di refl (among_arithmetic 12 (plain.divides DI code.Div) refl)
      place a other next first fits left constant lawful
  div _ word first left constant lawful = absurd (let no : ⊥ = cc in no)

  udiv : (m : Mode) → is_word m ≡ true → Planned code.Udiv m
  udiv SI word first left constant lawful =
      operation_planned code.Udiv SI refl refl refl (codes "register_operand") (λ y is. is) 25 (codes "udivsi3") parts.binary (One (parts.on_three (plain.ins code.Udiv ++ plain.w SI))) named.udivides_si refl (among_arithmetic 9 (plain.divides SI code.Udiv) refl)
      place a other next first fits left constant lawful
  udiv DI word first left constant lawful =
      operation_planned code.Udiv DI refl refl refl (codes "register_operand") (λ y is. is) 29 (codes "udivdi3") parts.binary (One (parts.on_three (plain.ins code.Udiv ++ plain.w DI))) named.udivides_di refl (among_arithmetic 13 (plain.divides DI code.Udiv) refl)
      place a other next first fits left constant lawful
  udiv _ word first left constant lawful = absurd (let no : ⊥ = cc in no)

  modulo : (m : Mode) → is_word m ≡ true → Planned code.Mod m
  modulo SI word first left constant lawful =
      operation_planned code.Mod SI refl refl refl (codes "register_operand") (λ y is. is) 26 (codes "modsi3") parts.binary (One (parts.on_three (plain.ins code.Mod ++ plain.w SI))) named.mods_si refl (among_arithmetic 10 (plain.divides SI code.Mod) refl)
      place a other next first fits left constant lawful
  modulo DI word first left constant lawful =
      operation_planned code.Mod DI refl refl refl (codes "register_operand") (λ y is. is) 30 (codes "moddi3") parts.binary (One (parts.on_three (plain.ins code.Mod ++ plain.w DI))) named.mods_di refl (among_arithmetic 14 (plain.divides DI code.Mod) refl)
      place a other next first fits left constant lawful
  modulo _ word first left constant lawful = absurd (let no : ⊥ = cc in no)

  umod : (m : Mode) → is_word m ≡ true → Planned code.Umod m
  umod SI word first left constant lawful =
      operation_planned code.Umod SI refl refl refl (codes "register_operand") (λ y is. is) 27 (codes "umodsi3") parts.binary (One (parts.on_three (plain.ins code.Umod ++ plain.w SI))) named.umods_si refl (among_arithmetic 11 (plain.divides SI code.Umod) refl)
      place a other next first fits left constant lawful
  umod DI word first left constant lawful =
      operation_planned code.Umod DI refl refl refl (codes "register_operand") (λ y is. is) 31 (codes "umoddi3") parts.binary (One (parts.on_three (plain.ins code.Umod ++ plain.w DI))) named.umods_di refl (among_arithmetic 15 (plain.divides DI code.Umod) refl)
      place a other next first fits left constant lawful
  umod _ word first left constant lawful = absurd (let no : ⊥ = cc in no)

  pub computed : (c : Code) (m : Mode) → takes_registers c ≡ true → is_word m ≡ true → Planned c m
  computed code.Minus m takes word = minus m word
  computed code.Mult m takes word = mult m word
  computed code.Div m takes word = div m word
  computed code.Udiv m takes word = udiv m word
  computed code.Mod m takes word = modulo m word
  computed code.Umod m takes word = umod m word
  computed _ m takes word = absurd (let no : ⊥ = cc in no)
