-- The heads of forms, and the classes of registers, by their names: GCC Internals, "Machine
-- Descriptions" and, for the classes, this project's profile of "Register Classes".
use Rattle.std.specs.Prelude.{ℕ, List, [], ◌∷◌, Option, codes, find}
use Rattle.std.specs.Str.{bytes_eq}
use Rattle.md_draft.specs.declared.head.FormHead.{FormHead}
use Rattle.md_draft.specs.declared.head.FormHead.TheVariants.{Insn, Expand, Split, InsnAndSplit, Peephole2, Predicate, SpecialPredicate, Constraint, RegisterConstraint, MemoryConstraint, Attr, Include, Constants, ModeIterator, ModeAttr, CodeIterator, CodeAttr, IntIterator, IntAttr}
use Rattle.md_draft.specs.declared.head.RegisterClass.{RegisterClass}
use Rattle.md_draft.specs.declared.head.RegisterClass.TheVariants as class

abbrev pub head_name : FormHead → List ℕ
head_name Insn = codes "define_insn"
head_name Expand = codes "define_expand"
head_name Split = codes "define_split"
head_name InsnAndSplit = codes "define_insn_and_split"
head_name Peephole2 = codes "define_peephole2"
head_name Predicate = codes "define_predicate"
head_name SpecialPredicate = codes "define_special_predicate"
head_name Constraint = codes "define_constraint"
head_name RegisterConstraint = codes "define_register_constraint"
head_name MemoryConstraint = codes "define_memory_constraint"
head_name Attr = codes "define_attr"
head_name Include = codes "include"
head_name Constants = codes "define_constants"
head_name ModeIterator = codes "define_mode_iterator"
head_name ModeAttr = codes "define_mode_attr"
head_name CodeIterator = codes "define_code_iterator"
head_name CodeAttr = codes "define_code_attr"
head_name IntIterator = codes "define_int_iterator"
head_name IntAttr = codes "define_int_attr"

abbrev pub all_heads : List FormHead
all_heads =
    Insn ∷ Expand ∷ Split ∷ InsnAndSplit ∷ Peephole2 ∷ Predicate ∷ SpecialPredicate ∷ Constraint ∷ RegisterConstraint ∷ MemoryConstraint ∷ Attr ∷
    Include ∷ Constants ∷ ModeIterator ∷ ModeAttr ∷ CodeIterator ∷ CodeAttr ∷ IntIterator ∷ IntAttr ∷ []

-- the head with a name
unfoldable pub head_named : List ℕ → Option FormHead
head_named text = find (λ h. bytes_eq (head_name h) text) all_heads

abbrev pub class_name : RegisterClass → List ℕ
class_name class.General = codes "GR_REGS"
class_name class.Args = codes "ARG_REGS"
class_name class.Saved = codes "SAVED_REGS"
class_name class.Nothing = codes "NO_REGS"

abbrev pub all_classes : List RegisterClass
all_classes = class.General ∷ class.Args ∷ class.Saved ∷ class.Nothing ∷ []

-- the class with a name
unfoldable pub class_named : List ℕ → Option RegisterClass
class_named text = find (λ c. bytes_eq (class_name c) text) all_classes
