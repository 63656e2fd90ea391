-- The plain profile: the instructions for which the shipped description is made, in 81 shapes. Each
-- is a pattern of GCC Internals, "Standard Pattern Names For Generation", "Registers and Memory" or
-- "Side Effect Expressions", by its codes and modes.
use Rattle.std.specs.Prelude.{List, [], ◌∷◌, ◌++◌, map}
use Rattle.std.specs.List.{flat_map}
use Rattle.rtx_tree.specs.declared.code.Code.{Code}
use Rattle.rtx_tree.specs.declared.code.Code.TheVariants as code
use Rattle.rtx_tree.specs.declared.code.Mode.{Mode}
use Rattle.rtx_tree.specs.declared.code.Mode.TheVariants.{QI, HI, SI, DI}
use Rattle.plain_shape.specs.declared.shape.Shape.{Shape}
use Rattle.plain_shape.specs.declared.shape.Shape.TheVariants.{Set, Jump, Branch, Return, Call, Use, Clobber}
use Rattle.plain_shape.specs.declared.shape.Source.TheVariants as source
use Rattle.plain_shape.specs.declared.shape.Part.{Part}
use Rattle.plain_shape.specs.declared.shape.Part.TheVariants.{Register, AnyRegister, Constant, RegisterOrConstant, Count, Memory, RegisterOrMemory, Symbol, Frame}

-- a part is moved to another
abbrev move : Part → Part → Shape
move target part = Set target (source.Only part)

-- ---- moves: a register set to a register, a constant or memory, memory set to a register or a
-- constant, in four modes; a symbol's address; the frame's

abbrev pub moves_in : Mode → List Shape
moves_in m =
    move (Register m) (Register m) ∷ move (Register m) (Constant m) ∷ move (Register m) (Memory m) ∷
    move (Memory m) (Register m) ∷ move (Memory m) (Constant m) ∷ []

abbrev pub moves : List Shape
moves =
    flat_map moves_in (QI ∷ HI ∷ SI ∷ DI ∷ []) ++
    (move (Register DI) Symbol ∷ move (Register DI) Frame ∷ [])

-- ---- operations on two operands, of which the second may be a constant, in SI and DI

abbrev binary : Mode → Code → Shape
binary m c = Set (Register m) (source.Binary c m (Register m) (RegisterOrConstant m))

abbrev shift : Mode → Code → Shape
shift m c = Set (Register m) (source.Binary c m (Register m) (Count m))

abbrev pub binaries_in : Mode → List Shape
binaries_in m =
    map (binary m) (code.Plus ∷ code.Minus ∷ code.Mult ∷ code.Div ∷ code.Udiv ∷ code.Mod ∷ code.Umod ∷
    code.And ∷ code.Ior ∷ code.Xor ∷ []) ++
    map (shift m) (code.Ashift ∷ code.Ashiftrt ∷ code.Lshiftrt ∷ [])

abbrev pub binaries : List Shape
binaries = flat_map binaries_in (SI ∷ DI ∷ [])

-- ---- operations on one operand: from a mode to a mode, which is the same where the operation isn't
-- a conversion

abbrev unary : Code → Mode → Mode → Shape
unary c to from = Set (Register to) (source.Unary c to (Register from))

abbrev extension : Code → Mode → Mode → Shape
extension c to from = Set (Register to) (source.Unary c to (RegisterOrMemory from))

abbrev pub unaries_in : Mode → List Shape
unaries_in m = unary code.Neg m m ∷ unary code.Not m m ∷ []

-- to SI and DI from what is narrower
abbrev pub extensions_of : Code → List Shape
extensions_of c =
    extension c SI QI ∷ extension c SI HI ∷ extension c DI QI ∷ extension c DI HI ∷ extension c DI SI ∷ []

-- from SI and DI to what is narrower
abbrev pub truncations : List Shape
truncations =
    unary code.Truncate QI SI ∷ unary code.Truncate HI SI ∷ unary code.Truncate QI DI ∷
    unary code.Truncate HI DI ∷ unary code.Truncate SI DI ∷ []

abbrev pub unaries : List Shape
unaries =
    flat_map unaries_in (SI ∷ DI ∷ []) ++
    (flat_map extensions_of (code.SignExtend ∷ code.ZeroExtend ∷ []) ++ truncations)

-- ---- comparisons in SI and DI of operands in SI and DI

abbrev comparison : Mode → Mode → Shape
comparison to from = Set (Register to) (source.Comparison to from)

abbrev pub comparisons : List Shape
comparisons = comparison SI SI ∷ comparison SI DI ∷ comparison DI SI ∷ comparison DI DI ∷ []

-- ---- jumps, and branches on operands in SI and DI

abbrev pub jumps : List Shape
jumps = Branch SI ∷ Branch DI ∷ Jump ∷ Return ∷ []

-- ---- calls of a symbol or a register, with a result and without one

abbrev pub calls : List Shape
calls =
    Call Symbol ∷ Call (Register DI) ∷ Set AnyRegister (source.Call Symbol) ∷
    Set AnyRegister (source.Call (Register DI)) ∷ []

-- ---- all shapes

abbrev pub all_shapes : List Shape
all_shapes =
    moves ++ (binaries ++ (unaries ++ (comparisons ++ (jumps ++ (calls ++ (Use AnyRegister ∷ Clobber AnyRegister ∷ []))))))
