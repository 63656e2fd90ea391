-- What a word means where an expression of C may begin: a fact, a number, a call, or the name of a
-- predicate (GCC Internals, "Machine-Independent Predicates" and "Defining Machine-Specific
-- Predicates").
use Rattle.std.specs.Prelude.{ℕ, ℤ, pos, List, Bool, true, false, Option, Some, None, is_some, if◌then◌else◌}
use Rattle.rtx_tree.specs.declared.code.Code.{Code}
use Rattle.rtx_tree.specs.declared.code.Mode.{Mode}
use Rattle.rtx_tree.specs.declared.constants.Constant.{Constant}
use Rattle.md_operand.specs.Operand.{built_in_named}
use Rattle.name_places.specs.Names.{constant_named}
use Rattle.c_words.specs.declared.head.Call.{Call}
use Rattle.c_words.specs.declared.head.Call.TheVariants as call
use Rattle.c_words.specs.declared.head.CondHead.TheVariants as head
use Rattle.c_words.specs.declared.keyword.Keyword.{Keyword}
use Rattle.c_words.specs.declared.keyword.Keyword.TheVariants as keyword
use Rattle.c_words.specs.declared.atom.Atom.{Atom}
use Rattle.c_words.specs.declared.atom.Atom.TheVariants as atom
use Rattle.c_words.specs.declared.atom.Dialect.{Dialect}
use Rattle.c_words.specs.declared.atom.Dialect.TheVariants as dialect
use Rattle.c_words.specs.declared.atom.Property.TheVariants as property
use Rattle.c_words.specs.Words.{keyword_named, mode_named, code_in_capitals, is_target, target_holds}

-- the calls that have a number as their value; the others make operands or instructions
abbrev pub is_question : Call → Bool
is_question call.GenInt = false
is_question call.GenIntMode = false
is_question call.GenReg = false
is_question call.ForceReg = false
is_question call.GenLowpart = false
is_question call.EmitMove = false
is_question _ = true

-- the number of the operand under test is there in a test alone
abbrev ival_in : Dialect → Atom
ival_in dialect.Condition = atom.Nothing
ival_in dialect.Test = atom.Leaf head.Ival

abbrev pub atom_of_keyword : Dialect → Keyword → Atom
atom_of_keyword d (keyword.Call c) = if is_question c then atom.Call c else atom.Nothing
atom_of_keyword d keyword.GetCode = atom.Compare property.Code
atom_of_keyword d keyword.GetMode = atom.Compare property.Mode
atom_of_keyword d keyword.ReloadCompleted = atom.Leaf head.ReloadCompleted
atom_of_keyword d keyword.Ival = ival_in d
atom_of_keyword d _ = atom.Nothing

abbrev pub target_number : List ℕ → ℤ
target_number word = if target_holds word then pos 1 else pos 0

-- a name that means nothing else is a predicate, but in a test, where no predicate may be called
abbrev pub predicate_or_nothing : Dialect → Option Code → Option Mode → Atom
predicate_or_nothing dialect.Condition None None = atom.Predicate
predicate_or_nothing _ _ _ = atom.Nothing

-- a predicate that is there without a definition, where predicates may be called
abbrev pub is_own_predicate : Dialect → List ℕ → Bool
is_own_predicate dialect.Condition word = is_some (built_in_named word)
is_own_predicate dialect.Test word = false

abbrev pub atom_of_name : Dialect → List ℕ → Option ℤ → Atom
atom_of_name d word (Some number) =
    if is_own_predicate d word then atom.Predicate else atom.Leaf (head.Number number)
atom_of_name d word None = predicate_or_nothing d (code_in_capitals word) (mode_named word)

-- a word that means nothing else is the name of a constant, where there is one
abbrev pub or_constant : Option ℤ → Atom → Atom
or_constant (Some number) atom.Nothing = atom.Leaf (head.Number number)
or_constant _ meaning = meaning

abbrev pub atom_by : Dialect → List Constant → List ℕ → Option Keyword → Atom
atom_by d constants word (Some k) =
    or_constant (constant_named constants word) (atom_of_keyword d k)
atom_by d constants word None =
    if is_target word then atom.Leaf (head.Number (target_number word)) else atom_of_name d word (constant_named constants word)

-- A word that has a meaning of its own where an expression may begin has no other; then come facts
-- of the target, the predicates that are there without a definition, constants, and other
-- predicates.
abbrev pub atom_of : Dialect → List Constant → List ℕ → Atom
atom_of d constants word = atom_by d constants word (keyword_named word)
