-- Which operands letters and defined constraints admit: GCC Internals, "Simple Constraints" and
-- "Defining Machine-Specific Constraints".
use Rattle.std.specs.Prelude.{ℕ, Bool, true, false, ◌||◌, List, [], ◌∷◌, Option, Some, None, option_and_then}
use Rattle.std.specs.Option.{option_map_or}
use Rattle.rtx_tree.specs.declared.code.Code.{Code}
use Rattle.rtx_tree.specs.declared.code.Code.TheVariants.{Reg, Subreg}
use Rattle.rtx_tree.specs.declared.code.Mode.TheVariants.{Void}
use Rattle.rtx_tree.specs.declared.tree.Rtx.{Rtx, out-Rtx}
use Rattle.rv_regs.specs.declared.classes.Class.{Class}
use Rattle.rv_regs.specs.declared.classes.Class.TheVariants as class
use Rattle.rv_regs.specs.Classes.{is_in_class}
use Rattle.md_operand.specs.Addresses.{is_legitimate_address}
use Rattle.md_operand.specs.Operand.{is_register, is_memory, is_constant, is_symbol}
use Rattle.c_eval.specs.Value.{register_in}
use Rattle.pred_expr.specs.declared.question.Test.{Test}
use Rattle.pred_rows.specs.Tests.{Accepts, test_holds}
use Rattle.md_text.specs.declared.constraint.Letter.{Letter}
use Rattle.md_text.specs.declared.constraint.Letter.TheVariants as letter
use Rattle.md_forms.specs.md_draft.declared.head.RegisterClass.{RegisterClass}
use Rattle.md_forms.specs.md_draft.declared.head.RegisterClass.TheVariants as named
use Rattle.md_forms.specs.declared.form.Form.{Form}
use Rattle.md_forms.specs.declared.form.Entry.{Entry}
use Rattle.md_forms.specs.md_tables.Tables.{defines_constraint}
use Rattle.md_attr.specs.Alternatives.{accepted, definition_of}

-- ---- letters

abbrev pub is_immediate : Rtx → Bool
is_immediate x = is_constant x || is_symbol x

-- r, m, i, n, s, g, X and p
abbrev pub letter_admits : Letter → Rtx → Bool
letter_admits letter.Register x = is_register x
letter_admits letter.Memory x = is_memory x
letter_admits letter.Immediate x = is_immediate x
letter_admits letter.Constant x = is_constant x
letter_admits letter.Symbol x = is_symbol x
letter_admits letter.General x = is_register x || (is_memory x || is_immediate x)
letter_admits letter.Anything x = true
letter_admits letter.Address x = is_legitimate_address x

-- ---- classes of registers

abbrev pub register_by : Code → Rtx → List Rtx → Option ℕ
register_by Reg x kids = register_in x
register_by Subreg x (inner ∷ []) = register_in inner
register_by _ x kids = None

-- the number of the register that an operand is, or is the low part of
abbrev pub register_of : Rtx → Option ℕ
register_of x = register_by (out-Rtx x).code x (out-Rtx x).kids

abbrev pub class_of : RegisterClass → Class
class_of named.General = class.General
class_of named.Args = class.Args
class_of named.Saved = class.Saved
class_of named.Nothing = class.Nothing

-- a class admits its registers
abbrev pub class_admits : RegisterClass → Rtx → Bool
class_admits k x = option_map_or (is_in_class (class_of k)) (register_of x) false

-- ---- what a description defines

-- A constraint with a class admits what the class does, and any other the operands for which its
-- test holds, asked in no mode.
abbrev pub admits_by : Accepts → Option RegisterClass → Option Test → Rtx → Bool
admits_by accepts (Some k) test x = class_admits k x
admits_by accepts None (Some test) x = test_holds accepts x Void test
admits_by accepts None None x = false

abbrev pub form_admits : Accepts → Form → Rtx → Bool
form_admits accepts f x = admits_by accepts f.class f.test x

-- whether the constraint with a name, whose first definition counts, admits an operand
abbrev pub name_admits : List Entry → Accepts → List ℕ → Rtx → Bool
name_admits forms accepts name x = option_map_or (λ f. form_admits accepts f x) (option_and_then accepted (definition_of defines_constraint forms name)) false
