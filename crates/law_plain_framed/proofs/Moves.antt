-- Moves, sums and a return are matched by a plain form, whatever is known of registers.
use Rattle.std.proofs.Common.{◌≡◌, ℕ, true, ◌||◌, [], ◌∷◌, codes, Some, Ok, refl}
use Rattle.std.specs.Prelude.{ℤ}
use Rattle.rtx_tree.specs.declared.code.Code.TheVariants as code
use Rattle.rtx_tree.specs.declared.code.Mode.{Mode}
use Rattle.rtx_tree.specs.declared.code.Mode.TheVariants.{Void, QI, HI, SI, DI}
use Rattle.rtx_tree.specs.declared.tree.Rtx.{Rtx}
use Rattle.rtx_tree.specs.Patterns.{set_rtx, sum_rtx, return_rtx}
use Rattle.rtx_tree.specs.Tree.{reg_of, const_of}
use Rattle.c_eval.specs.declared.facts.Facts.{Facts}
use Rattle.pred_expr.specs.Texts.{always}
use Rattle.md_text.specs.declared.template.Template.TheVariants.{One}
use Rattle.md_operand.specs.Operand.{accepts, register_operand, immediate_operand, memory_operand, const_int_operand, symbol_operand}
use Rattle.md_operand.specs.declared.built_in.BuiltIn.TheVariants as own
use Rattle.md_match.specs.Pattern.{Ops}
use Rattle.md_recog.specs.Match.{IsMatch}
use Rattle.md_recog.specs.Recog.{is_instruction}
use Rattle.md_forms.specs.declared.form.Entry.{Entry}
use Rattle.md_forms.specs.declared.form.Form.{Form}
use Rattle.md_pred.specs.Holds.{holds}
use Rattle.plain_forms.specs.Conditions as condition
use Rattle.plain_forms.specs.Makers.{insn}
use Rattle.plain_forms.specs.Parts as parts
use Rattle.plain_forms.specs.Forms as plain
use Rattle.plain_forms.specs.Forms.{plain_forms}
use Rattle.law_plain_operands.proofs.Plain.{have_plain}
use Rattle.law_plain_taken.proofs.Conditions.{always_met, moves_met}
use Rattle.law_plain_taken.proofs.Leads.{returns}
use Rattle.law_plain_taken.proofs.Sets.{copy, binary}
use Rattle.law_plain_taken.proofs.Takes.{register_or_int, register_for_0}
use Rattle.law_plain_matched.proofs.Found.{Has, among_moves, among_arithmetic, among_jumps}
use Rattle.law_plain_known.specs.Registers.{IsTrueRegister}
use Rattle.law_plain_framed.specs.Framed.{IsTaken}
use Rattle.law_plain_known.proofs.Trees.{first_true, second_true, register_taken, constant_taken}

-- a mode that is moved in
abbrev pub IsMoved : Mode → Type 0
IsMoved Void = ⊥
IsMoved _ = Unit {0}

module _ (facts : Facts) where
  abbrev pub Taken : Rtx → Type 0
  Taken x = IsTaken facts x

  pub taken : (e : Entry) (f : Form) (x : Rtx) (operands : Ops) → Has plain_forms e → e.form ≡ Ok f → is_instruction f.head ≡ true →
      IsMatch (holds plain_forms) facts f.patterns f.condition (x ∷ []) operands → Taken x
  taken e f x operands has form head matches = record {
    form = has.index;
    operands = operands;
    matches = record { entry = e; at = has.at; matches = record { says = f; accepted = form; matches = record { has = head; matches = matches } } };
  }

  -- ---- moves

  pub moved : (m : Mode) → IsMoved m → (a b : Rtx) → accepts own.Nonimmediate m a ≡ true → accepts own.General m b ≡ true →
      (register_operand m a || holds plain_forms (codes "reg_or_0_operand") b m) ≡ true → Taken (set_rtx a b)
  moved Void never a b place source either = absurd never
  moved QI is a b place source either =
      taken (plain.moves_narrow QI) _ (set_rtx a b) _ (among_moves 6 (plain.moves_narrow QI) refl) refl refl
      (copy (holds plain_forms) facts (condition.moves QI) (codes "nonimmediate_operand") QI a place (codes "general_operand") QI b source (moves_met (holds plain_forms) facts a b QI either))
  moved HI is a b place source either =
      taken (plain.moves_narrow HI) _ (set_rtx a b) _ (among_moves 7 (plain.moves_narrow HI) refl) refl refl
      (copy (holds plain_forms) facts (condition.moves HI) (codes "nonimmediate_operand") HI a place (codes "general_operand") HI b source (moves_met (holds plain_forms) facts a b HI either))
  moved SI is a b place source either =
      taken (plain.moves_narrow SI) _ (set_rtx a b) _ (among_moves 8 (plain.moves_narrow SI) refl) refl refl
      (copy (holds plain_forms) facts (condition.moves SI) (codes "nonimmediate_operand") SI a place (codes "general_operand") SI b source (moves_met (holds plain_forms) facts a b SI either))
  moved DI is a b place source either =
      taken plain.moves_di _ (set_rtx a b) _ (among_moves 5 plain.moves_di refl) refl refl
      (copy (holds plain_forms) facts (condition.moves DI) (codes "nonimmediate_operand") DI a place (codes "general_operand") DI b source (moves_met (holds plain_forms) facts a b DI either))

  module _ (m : Mode) (of_mode : IsMoved m) (a b : Rtx) where
    -- a register is set to what is general
    pub set_register : register_operand m a ≡ true → accepts own.General m b ≡ true → Taken (set_rtx a b)
    set_register place source =
        moved m of_mode a b (first_true (register_operand m a) (memory_operand m a) place) source (first_true (register_operand m a) (holds plain_forms (codes "reg_or_0_operand") b m) place)

    pub of_register : register_operand m a ≡ true → register_operand m b ≡ true → Taken (set_rtx a b)
    of_register place is = set_register place (first_true (register_operand m b) (immediate_operand m b || memory_operand m b) is)

    pub of_constant : register_operand m a ≡ true → const_int_operand m b ≡ true → Taken (set_rtx a b)
    of_constant place is =
        set_register place (second_true (register_operand m b) (immediate_operand m b || memory_operand m b) (first_true (immediate_operand m b) (memory_operand m b) (first_true (const_int_operand m b) (symbol_operand m b) is)))

    pub of_symbol : register_operand m a ≡ true → symbol_operand m b ≡ true → Taken (set_rtx a b)
    of_symbol place is =
        set_register place (second_true (register_operand m b) (immediate_operand m b || memory_operand m b) (first_true (immediate_operand m b) (memory_operand m b) (second_true (const_int_operand m b) (symbol_operand m b) is)))

    pub of_memory : register_operand m a ≡ true → memory_operand m b ≡ true → Taken (set_rtx a b)
    of_memory place is =
        set_register place (second_true (register_operand m b) (immediate_operand m b || memory_operand m b) (second_true (immediate_operand m b) (memory_operand m b) is))

    -- memory is set to a register
    pub stored : memory_operand m a ≡ true → register_operand m b ≡ true → Taken (set_rtx a b)
    stored place is =
        moved m of_mode a b (second_true (register_operand m a) (memory_operand m a) place) (first_true (register_operand m b) (immediate_operand m b || memory_operand m b) is)
        (second_true (register_operand m a) (holds plain_forms (codes "reg_or_0_operand") b m) (register_for_0 plain_forms have_plain m b is))

  -- ---- sums in DI

  module _ (a b d : Rtx) (place : register_operand DI a ≡ true) (left : register_operand DI b ≡ true) where
    pub added : (register_operand DI d || const_int_operand DI d) ≡ true → Taken (set_rtx a (sum_rtx b d))
    added is =
        taken (plain.adds DI) _ (set_rtx a (sum_rtx b d)) _ (among_arithmetic 1 (plain.adds DI) refl) refl refl
        (binary (holds plain_forms) facts always (codes "register_operand") DI a place (codes "register_operand") DI b left code.Plus DI refl (codes "reg_or_int_operand") DI d
        (register_or_int plain_forms have_plain DI d is) (always_met (holds plain_forms) facts (Some a ∷ Some b ∷ Some d ∷ [])))

    pub register_added : register_operand DI d ≡ true → Taken (set_rtx a (sum_rtx b d))
    register_added is = added (first_true (register_operand DI d) (const_int_operand DI d) is)

    pub constant_added : const_int_operand DI d ≡ true → Taken (set_rtx a (sum_rtx b d))
    constant_added is = added (second_true (register_operand DI d) (const_int_operand DI d) is)

  -- ---- a register is loaded with a number, and a register added to it

  pub loads_number : (reg : ℕ) (z : ℤ) → IsTrueRegister reg → Taken (set_rtx (reg_of DI reg) (const_of z))
  loads_number reg z other = of_constant DI tt (reg_of DI reg) (const_of z) (register_taken DI reg other) (constant_taken z)

  pub adds_register : (to from reg : ℕ) → IsTrueRegister to → IsTrueRegister from → IsTrueRegister reg → Taken (set_rtx (reg_of DI to) (sum_rtx (reg_of DI from) (reg_of DI reg)))
  adds_register to from reg one other third =
      register_added (reg_of DI to) (reg_of DI from) (reg_of DI reg) (register_taken DI to one) (register_taken DI from other) (register_taken DI reg third)

  pub adds_number : (to from : ℕ) (z : ℤ) → IsTrueRegister to → IsTrueRegister from → Taken (set_rtx (reg_of DI to) (sum_rtx (reg_of DI from) (const_of z)))
  adds_number to from z one other =
      constant_added (reg_of DI to) (reg_of DI from) (const_of z) (register_taken DI to one) (register_taken DI from other) (constant_taken z)

  -- ---- a return

  pub return : Taken return_rtx
  return =
      taken (insn (codes "return") return_rtx [] (One (parts.text (codes "ret")))) _ return_rtx [] (among_jumps 5 _ refl) refl refl
      (returns (holds plain_forms) facts always (always_met (holds plain_forms) facts []))
