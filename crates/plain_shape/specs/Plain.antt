-- Which instructions have a shape of the plain profile: GCC Internals, "RTL Template" and
-- "Machine-Independent Predicates".
use Rattle.std.specs.Prelude.{◌≡◌, ℕ, pos, int_le, int_lt, ◌||◌, ◌&&◌, not, Bool, true, false, List, [], ◌∷◌, find, Option, None, option_map}
use Rattle.std.specs.List.{list_any}
use Rattle.rtx_tree.specs.Code.{mode_bits, same_code}
use Rattle.rtx_tree.specs.declared.code.Code.{Code}
use Rattle.rtx_tree.specs.declared.code.Code.TheVariants as code
use Rattle.rtx_tree.specs.declared.code.Mode.{Mode}
use Rattle.rtx_tree.specs.declared.code.Mode.TheVariants.{Void, QI, SI, DI}
use Rattle.rtx_tree.specs.declared.function.Function.{Function}
use Rattle.rtx_tree.specs.declared.function.Insn.{Insn}
use Rattle.rtx_tree.specs.declared.tree.Rtx.{Rtx, out-Rtx}
use Rattle.rtx_tree.specs.Patterns.{is_pc}
use Rattle.rtx_tree.specs.Tree.{kids_of}
use Rattle.md_operand.specs.Operand.{is_constant, is_symbol, has_mode, accepts}
use Rattle.md_operand.specs.declared.built_in.BuiltIn.TheVariants as own
use Rattle.rtl_chain.specs.Counts.{is_instruction}
use Rattle.plain_shape.specs.declared.shape.Part.{Part}
use Rattle.plain_shape.specs.declared.shape.Part.TheVariants.{Register, AnyRegister, Constant, RegisterOrConstant, Count, Memory, RegisterOrMemory, Symbol, Frame}
use Rattle.plain_shape.specs.declared.shape.Source.{Source}
use Rattle.plain_shape.specs.declared.shape.Source.TheVariants as source
use Rattle.plain_shape.specs.declared.shape.Shape.{Shape}
use Rattle.plain_shape.specs.declared.shape.Shape.TheVariants.{Set, Jump, Branch, Return, Call, Use, Clobber}
use Rattle.plain_shape.specs.Shapes.{all_shapes}

-- ---- operands

abbrev pub register_or_constant : Mode → Rtx → Bool
register_or_constant m x = accepts own.Register m x || accepts own.ConstInt m x

-- by how much a value of the mode is shifted: 0 to its width minus 1
abbrev pub is_count_in : Mode → Rtx → Bool
is_count_in m x = is_constant x && (int_le (pos 0) (out-Rtx x).number && int_lt (out-Rtx x).number (pos (mode_bits m)))

abbrev pub is_count : Mode → Rtx → Bool
is_count m x = accepts own.Register QI x || is_count_in m x

-- a tree is such an operand
abbrev pub is_part : Part → Rtx → Bool
is_part (Register m) x = accepts own.Register m x
is_part AnyRegister x = accepts own.Register Void x
is_part (Constant m) x = accepts own.ConstInt m x
is_part (RegisterOrConstant m) x = register_or_constant m x
is_part (Count m) x = is_count m x
is_part (Memory m) x = accepts own.Memory m x
is_part (RegisterOrMemory m) x = accepts own.Nonimmediate m x
is_part Symbol x = is_symbol x
is_part Frame x = accepts own.Frame DI x

-- trees are one operand, or two
abbrev pub is_one : Part → List Rtx → Bool
is_one a (x ∷ []) = is_part a x
is_one a kids = false

abbrev pub are_two : Part → Part → List Rtx → Bool
are_two a b (x ∷ y ∷ []) = is_part a x && is_part b y
are_two a b kids = false

-- ---- sources

-- an operation of a code and a mode
abbrev pub is_operation : Code → Mode → Rtx → Bool
is_operation c m x = same_code (out-Rtx x).code c && has_mode m x

-- a comparison, in a mode if one is given, of operands in another
abbrev pub is_test : Mode → Mode → Rtx → Bool
is_test to from x =
    accepts own.Comparison to x && are_two (Register from) (RegisterOrConstant from) (kids_of x)

abbrev pub is_target_by : Part → Code → List Rtx → Bool
is_target_by part code.Mem kids = is_one part kids
is_target_by part _ kids = false

-- (mem:SI PART)
abbrev pub is_target : Part → Rtx → Bool
is_target part x = has_mode SI x && is_target_by part (out-Rtx x).code (kids_of x)

abbrev pub is_call_by : Part → Code → List Rtx → Bool
is_call_by part code.Call (place ∷ size ∷ []) = is_target part place && is_constant size
is_call_by part _ kids = false

-- (call (mem:SI PART) SIZE)
abbrev pub is_call : Part → Rtx → Bool
is_call part x = is_call_by part (out-Rtx x).code (kids_of x)

abbrev pub is_source : Source → Rtx → Bool
is_source (source.Only part) x = is_part part x
is_source (source.Unary c m a) x = is_operation c m x && is_one a (kids_of x)
is_source (source.Binary c m a b) x = is_operation c m x && are_two a b (kids_of x)
is_source (source.Comparison to from) x = is_test to from x
is_source (source.Call part) x = is_call part x

-- ---- jumps

abbrev pub is_uid : List Rtx → Bool
is_uid (uid ∷ []) = is_constant uid
is_uid kids = false

abbrev pub is_label_by : Code → List Rtx → Bool
is_label_by code.LabelRef kids = is_uid kids
is_label_by _ kids = false

-- (label_ref UID)
abbrev pub is_label : Rtx → Bool
is_label x = is_label_by (out-Rtx x).code (kids_of x)

-- a label, and the next instruction
abbrev pub are_ways : Rtx → Rtx → Bool
are_ways label next = is_label label && is_pc next

abbrev pub are_choice : Mode → List Rtx → Bool
are_choice m (test ∷ label ∷ next ∷ []) = is_test Void m test && are_ways label next
are_choice m kids = false

abbrev pub is_choice_by : Mode → Code → List Rtx → Bool
is_choice_by m code.IfThenElse kids = are_choice m kids
is_choice_by m _ kids = false

-- (if_then_else (COMPARISON A B) (label_ref UID) (pc))
abbrev pub is_choice : Mode → Rtx → Bool
is_choice m x = is_choice_by m (out-Rtx x).code (kids_of x)

-- ---- instructions

abbrev pub is_set_by : Part → Source → Code → List Rtx → Bool
is_set_by target from code.Set (x ∷ y ∷ []) = is_part target x && is_source from y
is_set_by target from _ kids = false

abbrev pub is_jump_by : Code → List Rtx → Bool
is_jump_by code.Set (x ∷ y ∷ []) = is_pc x && is_label y
is_jump_by _ kids = false

abbrev pub is_branch_by : Mode → Code → List Rtx → Bool
is_branch_by m code.Set (x ∷ y ∷ []) = is_pc x && is_choice m y
is_branch_by m _ kids = false

abbrev pub is_return_by : Code → List Rtx → Bool
is_return_by code.Return [] = true
is_return_by _ kids = false

abbrev pub is_use_by : Part → Code → List Rtx → Bool
is_use_by part code.Use kids = is_one part kids
is_use_by part _ kids = false

abbrev pub is_clobber_by : Part → Code → List Rtx → Bool
is_clobber_by part code.Clobber kids = is_one part kids
is_clobber_by part _ kids = false

-- a pattern has a shape
abbrev pub has_shape : Shape → Rtx → Bool
has_shape (Set target from) x = is_set_by target from (out-Rtx x).code (kids_of x)
has_shape Jump x = is_jump_by (out-Rtx x).code (kids_of x)
has_shape (Branch m) x = is_branch_by m (out-Rtx x).code (kids_of x)
has_shape Return x = is_return_by (out-Rtx x).code (kids_of x)
has_shape (Call part) x = is_call part x
has_shape (Use part) x = is_use_by part (out-Rtx x).code (kids_of x)
has_shape (Clobber part) x = is_clobber_by part (out-Rtx x).code (kids_of x)

-- one of the shapes is the pattern's
abbrev pub is_plain : Rtx → Bool
is_plain x = list_any (λ shape. has_shape shape x) all_shapes

-- ---- functions

-- an instruction outside of the profile; labels and barriers are none
abbrev pub is_outside : Insn → Bool
is_outside i = is_instruction i && not (is_plain i.pattern)

-- the uid of the first instruction outside, in the order of the chain
abbrev pub first_outside : Function → Option ℕ
first_outside f = option_map (λ i. i.uid) (find is_outside f.insns)

-- every instruction is of the profile
abbrev pub IsPlain : Function → Type 0
IsPlain f = first_outside f ≡ None
