-- The shape of a call that can be compared: a call, or a set of register a0 to one.
use Rattle.std.proofs.Common.{◌≡◌, ℕ, ◌==◌, true, List, [], ◌∷◌, Option, Some, refl, sym, ◌∙◌, ap, subst}
use Rattle.std.specs.List.{AllByRecursion}
use Rattle.bits64.specs.declared.Width.{Width}
use Rattle.bits64.specs.declared.Width.TheVariants.{W8, W16, W32, W64}
use Rattle.rtx_tree.specs.Code.{class_of_code}
use Rattle.rtx_tree.specs.declared.class.Class.TheVariants as class
use Rattle.rtx_tree.specs.declared.code.Code.{Code}
use Rattle.rtx_tree.specs.declared.code.Code.TheVariants as code
use Rattle.rtx_tree.specs.declared.code.Mode.{Mode}
use Rattle.rtx_tree.specs.declared.code.Mode.TheVariants.{Void, QI, HI, SI, DI}
use Rattle.rtx_tree.specs.declared.function.ArgUse.{ArgUse}
use Rattle.rtx_tree.specs.declared.function.Kind.TheVariants as kind
use Rattle.rtx_tree.specs.declared.tree.Rtx.{Rtx, out-Rtx}
use Rattle.rtl_step.specs.Value as rtl
use Rattle.rtl_step.specs.Call as call
use Rattle.rtl_func.specs.Kinds.{is_call_by, is_call_tree}
use Rattle.rtl_func.specs.Modes.{shapes_agree}
use Rattle.rtl_func.specs.Calls.{is_result, is_result_by, has_result, has_result_by, are_lawful_uses, call_result_agrees}
use Rattle.rtl_func.specs.Shapes.{class_at, mode_at, number_at, has_mode, is_register_number, is_call_class, fits_row}
use Rattle.sym_insns.specs.Effects as spec
use Rattle.law_insn_terms.specs.Means.{result_width}
use Rattle.law_insn_terms.proofs.JumpShapes.{IsSound, sound_kids, sound_pattern, row_by, set_parts}
use Rattle.law_insn_terms.proofs.Bools.{both_of}

-- ---- the width of a result

-- it is the one in which a symbolic call takes its result
pub width_as : (x : Rtx) → call.result_width x ≡ result_width (spec.result_mode x)
width_as x = by (out-Rtx x).code (out-Rtx x).kids
  where
    by : (c : Code) (parts : List Rtx) → call.result_width_by c parts ≡ result_width (spec.result_by c parts)
    by code.Set (place ∷ source ∷ []) = refl
    by c parts = refl

pub record HasWidth (o : Option Width) : Type 0 where
  pub width : Width
  pub width_is : o ≡ Some width

mode_width : (m : Mode) → has_mode m ≡ true → HasWidth (rtl.width_of m)
mode_width Void is = absurd (let no : ⊥ = cc in no)
mode_width QI is = record { width = W8; width_is = refl }
mode_width HI is = record { width = W16; width_is = refl }
mode_width SI is = record { width = W32; width_is = refl }
mode_width DI is = record { width = W64; width_is = refl }

register_mode : (m : Mode) (reg : ℕ) (parts : List Rtx) → fits_row class.Register m reg parts ≡ true → has_mode m ≡ true
register_mode m reg [] fits = (both_of (has_mode m) (is_register_number reg) fits).0
register_mode m reg (a ∷ []) fits = absurd (let no : ⊥ = cc in no)
register_mode m reg (a ∷ b ∷ []) fits = absurd (let no : ⊥ = cc in no)
register_mode m reg (a ∷ b ∷ c ∷ []) fits = absurd (let no : ⊥ = cc in no)
register_mode m reg (a ∷ b ∷ c ∷ d ∷ parts) fits = absurd (let no : ⊥ = cc in no)

-- ---- the codes

result_code : (c : Code) (reg : ℕ) → is_result_by (class_of_code c) reg ≡ true → (c ≡ code.Reg) × ((reg == 10) ≡ true)
result_code code.Reg reg is = (refl, is)
result_code _ reg is = absurd (let no : ⊥ = cc in no)

call_code : (c : Code) → is_call_class (class_of_code c) ≡ true → c ≡ code.Call
call_code code.Call is = refl
call_code _ is = absurd (let no : ⊥ = cc in no)

data CallCode (c : Code) : Type 0 where
  alone : c ≡ code.Call → CallCode c
  setting : c ≡ code.Set → CallCode c

call_codes : (c : Code) (parts : List Rtx) → is_call_by (class_of_code c) parts ≡ true → CallCode c
call_codes code.Call parts is = alone refl
call_codes code.Set parts is = setting refl
call_codes _ parts is = absurd (let no : ⊥ = cc in no)

-- ---- calls

-- a call alone, or a0 set to a call
pub data IsCall (x : Rtx) : Type 0 where
  alone : (out-Rtx x).code ≡ code.Call → IsCall x
  sets : (place source : Rtx) → (out-Rtx x).code ≡ code.Set → (out-Rtx x).kids ≡ place ∷ source ∷ [] → (out-Rtx place).code ≡ code.Reg → (number_at place == 10) ≡ true →
      has_mode (mode_at place) ≡ true → (out-Rtx source).code ≡ code.Call → IsCall x

is_call : (x : Rtx) → IsSound x → CallCode (out-Rtx x).code → is_call_tree x ≡ true → has_result x ≡ true → IsCall x
is_call x sound (alone is) calls result = alone is
is_call x sound (setting is) calls result =
    let parts = set_parts (mode_at x) (number_at x) (out-Rtx x).kids (row_by x code.Set sound is) in
    let kids = subst (AllByRecursion IsSound) parts.parts_are (sound_kids x sound) in
    let calls' : is_call_class (class_at parts.second) ≡ true = sym (ap (λ c. is_call_by (class_of_code c) (out-Rtx x).kids) is ∙ ap (is_call_by class.Setting) parts.parts_are) ∙ calls in
    let result' : is_result parts.first ≡ true = sym (ap (λ c. has_result_by (class_of_code c) (out-Rtx x).kids) is ∙ ap (has_result_by class.Setting) parts.parts_are) ∙ result in
    let register = result_code (out-Rtx parts.first).code (number_at parts.first) result' in
    let moded = register_mode (mode_at parts.first) (number_at parts.first) (out-Rtx parts.first).kids (row_by parts.first code.Reg kids.0 register.0) in
    sets parts.first parts.second is parts.parts_are register.0 register.1 moded (call_code (out-Rtx parts.second).code calls')

pub call_shape : (x : Rtx) (uses : List ArgUse) → shapes_agree x ≡ true → is_call_tree x ≡ true → call_result_agrees kind.Call x uses ≡ true → IsCall x
call_shape x uses agrees calls result =
    is_call x (sound_pattern x agrees) (call_codes (out-Rtx x).code (out-Rtx x).kids calls) calls (both_of (has_result x) (are_lawful_uses uses) result).0

-- its result has a width
pub call_width : (x : Rtx) → IsCall x → HasWidth (call.result_width x)
call_width x (alone is) = record { width = W64; width_is = ap (λ c. call.result_width_by c (out-Rtx x).kids) is }
call_width x (sets place source is kids register number moded calls) =
    let has = mode_width (mode_at place) moded in record {
      width = has.width;
      width_is = ap (λ c. call.result_width_by c (out-Rtx x).kids) is ∙ (ap (call.result_width_by code.Set) kids ∙ has.width_is);
    }
