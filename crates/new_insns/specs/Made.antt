-- The instructions that patterns make in the place of a window: GCC Internals, "Insns" (insn,
-- jump_insn and call_insn; their uids; CALL_INSN_FUNCTION_USAGE).
use Rattle.std.specs.Prelude.{ℕ, ◌+◌, if◌then◌else◌, List, [], ◌∷◌}
use Rattle.rtx_tree.specs.declared.function.ArgUse.{ArgUse}
use Rattle.rtx_tree.specs.declared.function.Insn.{Insn}
use Rattle.rtx_tree.specs.declared.function.Kind.{Kind}
use Rattle.rtx_tree.specs.declared.function.Kind.TheVariants.{Plain, Jump, Call}
use Rattle.rtx_tree.specs.declared.tree.Rtx.{Rtx}
use Rattle.rtl_func.specs.Kinds.{is_jump_tree, is_call_tree}

-- the kind of an instruction that has a pattern
abbrev pub kind_of : Rtx → Kind
kind_of x = if is_jump_tree x then Jump else (if is_call_tree x then Call else Plain)

-- the uses of a call in the place of a call
abbrev pub uses_between : Kind → Kind → List ArgUse → List ArgUse
uses_between Call Call uses = uses
uses_between _ _ uses = []

-- an instruction in the place of another, with a uid
abbrev pub insn_for : Insn → ℕ → Rtx → Insn
insn_for old uid x = record { uid = uid; kind = kind_of x; pattern = x; uses = uses_between old.kind (kind_of x) old.uses }

-- The instructions of a sequence in the place of a window that ends with an instruction: the last
-- has its uid, and the others take uids from a number on.
abbrev pub insns_for : Insn → ℕ → List Rtx → List Insn
insns_for old uid [] = []
insns_for old uid (x ∷ []) = insn_for old old.uid x ∷ []
insns_for old uid (x ∷ y ∷ more) = insn_for old uid x ∷ insns_for old (uid + 1) (y ∷ more)
