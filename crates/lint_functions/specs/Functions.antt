-- The functions that are tried: each has a result in a0 (GCC Internals, "Insns"; RISC-V ELF psABI,
-- "Integer Calling Convention").
use Rattle.std.specs.Prelude.{ℕ, ◌+◌, ◌*◌, pos, negsuc, Bool, List, [], ◌∷◌, ◌++◌, map, codes, Some, if◌then◌else◌}
use Rattle.rtx_tree.specs.declared.code.Code.TheVariants as code
use Rattle.rtx_tree.specs.declared.code.Mode.{Mode}
use Rattle.rtx_tree.specs.declared.code.Mode.TheVariants.{Void, DI}
use Rattle.rtx_tree.specs.declared.function.ArgUse.{ArgUse}
use Rattle.rtx_tree.specs.declared.function.Kind.{Kind}
use Rattle.rtx_tree.specs.declared.function.Kind.TheVariants as kind
use Rattle.rtx_tree.specs.declared.function.Insn.{Insn}
use Rattle.rtx_tree.specs.declared.function.Function.{Function}
use Rattle.rtx_tree.specs.declared.tree.Rtx.{Rtx}
use Rattle.rtx_tree.specs.Tree.{reg_of}
use Rattle.rtx_tree.specs.Patterns.{set_rtx, nothing_rtx}
use Rattle.rtx_tree.specs.Registers.{virtual_stack_vars, pseudo}
use Rattle.lint_made.specs.Candidates.{memory_at, symbol_tree}
use Rattle.plain_shape.specs.declared.shape.Part.TheVariants as part
use Rattle.plain_shape.specs.declared.shape.Source.{Source}
use Rattle.plain_shape.specs.declared.shape.Source.TheVariants as source
use Rattle.plain_shape.specs.declared.shape.Shape.{Shape}
use Rattle.plain_shape.specs.declared.shape.Shape.TheVariants as shape
use Rattle.lint_functions.specs.Patterns.{unary, call_rtx}

-- ---- instructions

abbrev pub insn_with : ℕ → Kind → Rtx → List ArgUse → Insn
insn_with uid k pattern uses = record { uid = uid; kind = k; pattern = pattern; uses = uses }

abbrev pub plain : ℕ → Rtx → Insn
plain uid pattern = insn_with uid kind.Plain pattern []

-- the label that is jumped to, and what is not passed
abbrev pub label : Insn
label = insn_with 8 kind.Label nothing_rtx []

abbrev pub barrier : Insn
barrier = insn_with 0 kind.Barrier nothing_rtx []

-- a function of some instructions, with so many bytes of locals
abbrev pub tried : ℕ → List Insn → Function
tried locals insns = record {
  name = codes "tried";
  insns = insns;
  locals = locals;
  result = Some DI;
  result_reg = 10;
}

-- ---- an instruction of a shape

abbrev pub source_kind : Source → Kind
source_kind (source.Call p) = kind.Call
source_kind _ = kind.Plain

abbrev pub kind_of : Shape → Kind
kind_of (shape.Set target source) = source_kind source
kind_of (shape.Call p) = kind.Call
kind_of shape.Jump = kind.Jump
kind_of (shape.Branch mode) = kind.Jump
kind_of shape.Return = kind.Jump
kind_of _ = kind.Plain

-- what a call's target reads: a0
abbrev pub argument : ArgUse
argument = record { reg = 10; mode = DI }

abbrev pub uses_of : Kind → List ArgUse
uses_of kind.Call = argument ∷ []
uses_of _ = []

abbrev pub insn_of : Shape → Rtx → Insn
insn_of s pattern = insn_with 2 (kind_of s) pattern (uses_of (kind_of s))

-- what a branch passes
abbrev pub passed : Insn
passed = plain 6 (set_rtx (reg_of DI 10) (reg_of DI 11))

-- what stands behind it: a jump's label, and what a branch passes
abbrev pub behind : Shape → List Insn
behind shape.Jump = barrier ∷ label ∷ []
behind (shape.Branch mode) = passed ∷ label ∷ []
behind shape.Return = barrier ∷ []
behind _ = []

-- the bytes of a large frame's locals
abbrev pub far_bytes : ℕ
far_bytes = 40000

abbrev pub source_locals : Source → ℕ
source_locals (source.Only part.Frame) = far_bytes
source_locals _ = 0

abbrev pub locals_of : Shape → ℕ
locals_of (shape.Set target source) = source_locals source
locals_of _ = 0

-- a function with an instruction of a shape
abbrev pub function_of : Shape → Rtx → Function
function_of s pattern = tried (locals_of s) (insn_of s pattern ∷ behind s)

-- ---- values kept over a call

-- more of them than there are registers that a call keeps
abbrev pub kept : List ℕ
kept = 1 ∷ 2 ∷ 3 ∷ 4 ∷ 5 ∷ 6 ∷ 7 ∷ 8 ∷ 9 ∷ 10 ∷ 11 ∷ 12 ∷ 13 ∷ []

-- the place of a value, eight bytes from that of the one before
abbrev pub slot : Mode → ℕ → Rtx
slot mode k = memory_at mode 10 (pos (8 * k))

abbrev pub value : Mode → ℕ → Rtx
value mode k = reg_of mode (pseudo k)

-- a plain instruction that sets a place to a value
abbrev pub setting : ℕ → Rtx → Rtx → Insn
setting uid place value = plain uid (set_rtx place value)

abbrev pub load : Mode → ℕ → Insn
load mode k = setting (100 + k) (value mode k) (slot mode k)

abbrev pub store : Mode → ℕ → Insn
store mode k = setting (200 + k) (slot mode k) (value mode k)

-- the call that they are kept over
abbrev pub call : Insn
call = insn_with 5 kind.Call (set_rtx (reg_of DI 10) (call_rtx symbol_tree)) (argument ∷ [])

-- a store to a local so far down that slots below it are out of the reach of an offset
abbrev pub far_store : Insn
far_store = setting 3 (memory_at DI virtual_stack_vars (negsuc 39999)) (reg_of DI 10)

abbrev pub far_stores : Bool → List Insn
far_stores is_far = if is_far then far_store ∷ [] else []

-- values in a mode are loaded, kept over the call, and stored
abbrev pub keeps : Mode → List Insn
keeps mode = map (load mode) kept ++ (call ∷ [] ++ map (store mode) kept)

abbrev pub kept_locals : Bool → ℕ
kept_locals is_far = if is_far then far_bytes else 0

-- a function that keeps values in a mode over a call; where it is asked for, with its slots out of
-- the reach of an offset
abbrev pub keeping : Mode → Bool → Function
keeping mode is_far =
    tried (kept_locals is_far) (far_stores is_far ++ keeps mode)

-- ---- some plain instructions

-- plain instructions of some patterns, with uids from one on
abbrev pub numbered : ℕ → List Rtx → List Insn
numbered uid [] = []
numbered uid (pattern ∷ patterns) = plain uid pattern ∷ numbered (uid + 1) patterns

abbrev pub use_of : ℕ → Insn
use_of reg = plain (100 + reg) (unary code.Use Void (reg_of DI reg))

-- uses of a0 to a7, which make them live
abbrev pub arguments : List ℕ
arguments = 10 ∷ 11 ∷ 12 ∷ 13 ∷ 14 ∷ 15 ∷ 16 ∷ 17 ∷ []

abbrev pub uses : List Insn
uses = map use_of arguments

abbrev pub uses_if : Bool → List Insn
uses_if are_live = if are_live then uses else []

-- a function of plain instructions, behind which a0 to a7 are live, or a0 alone
abbrev pub several : List Rtx → Bool → Function
several patterns are_live = tried 0 (numbered 200 patterns ++ uses_if are_live)
