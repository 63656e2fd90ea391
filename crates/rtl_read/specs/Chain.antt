-- The chain of a function's instructions: GCC Internals, "Insns" and "Basic Blocks", in the compact
-- form that GCC dumps for reading by its RTL front end.
use Rattle.std.specs.Prelude.{ℕ, Bool, ◌&&◌, ◌||◌, List, [], ◌∷◌, ◌++◌, is_some, Option, Some, None, if◌then◌else◌, option_map, codes}
use Rattle.std.specs.List.{list_all}
use Rattle.rtx_tree.specs.declared.function.ArgUse.{ArgUse}
use Rattle.rtx_tree.specs.declared.function.Kind.{Kind}
use Rattle.rtx_tree.specs.declared.function.Kind.TheVariants.{Plain, Jump, Call, Label, Barrier}
use Rattle.rtx_tree.specs.declared.function.Insn.{Insn}
use Rattle.rtx_tree.specs.declared.tree.Rtx.{Rtx}
use Rattle.rtx_tree.specs.Patterns.{nothing_rtx}
use Rattle.lisp_read.specs.declared.tree.Tree.{Tree}
use Rattle.lisp_read.specs.declared.position.Position.TheVariants.{Pattern}
use Rattle.lisp_read.specs.Shape.{items_of, is_nested, is_word}
use Rattle.lisp_read.specs.Parsed.{Parsed, stands, outside, parsed_map, parsed_then}
use Rattle.lisp_read.specs.Expression.{read_at}
use Rattle.rtl_read.specs.Word.{number_of}
use Rattle.rtl_read.specs.Call.{call_of, uses_of}

-- ---- instructions

abbrev pub insn_with : Kind → ℕ → List ArgUse → Rtx → Insn
insn_with kind uid uses pattern = record { uid = uid; kind = kind; pattern = pattern; uses = uses }

-- an instruction's number and its pattern, and what stands behind them
pub record InsnParts : Type 0 where
  pub uid : ℕ
  pub pattern : Tree
  pub rest : List Tree

abbrev pub parts_with : Tree → List Tree → ℕ → InsnParts
parts_with pattern rest uid = record { uid = uid; pattern = pattern; rest = rest }

abbrev pub insn_parts : List Tree → Option InsnParts
insn_parts (u ∷ p ∷ rest) =
    if is_nested p then option_map (parts_with p rest) (number_of u) else None
insn_parts _ = None

abbrev pub insn_of_parts : Kind → ℕ → Tree → Parsed (List Insn)
insn_of_parts kind uid pattern =
    parsed_map (λ x. insn_with kind uid [] x ∷ []) (read_at Pattern pattern)

-- a plain instruction or a jump; what stands behind the pattern is passed over
abbrev pub insn_by : Kind → Tree → Option InsnParts → Parsed (List Insn)
insn_by kind t (Some parts) = insn_of_parts kind parts.uid parts.pattern
insn_by kind t None = outside t

abbrev pub call_with : ℕ → Rtx → List ArgUse → List Insn
call_with uid pattern uses = insn_with Call uid uses pattern ∷ []

abbrev pub call_of_parts : ℕ → Tree → List Tree → Parsed (List Insn)
call_of_parts uid pattern rest =
    parsed_then (call_of pattern) (λ x. parsed_map (call_with uid x) (uses_of rest))

abbrev pub call_by : Tree → Option InsnParts → Parsed (List Insn)
call_by t (Some parts) = call_of_parts parts.uid parts.pattern parts.rest
call_by t None = outside t

-- the number that the first tree writes, whatever follows
abbrev pub leading_number : List Tree → Option ℕ
leading_number (u ∷ rest) = number_of u
leading_number [] = None

abbrev pub label_by : Tree → Option ℕ → Parsed (List Insn)
label_by t (Some uid) = stands (insn_with Label uid [] nothing_rtx ∷ [])
label_by t None = outside t

-- a barrier has no number
abbrev pub barrier : Insn
barrier = insn_with Barrier 0 [] nothing_rtx

abbrev pub one_barrier : Parsed (List Insn)
one_barrier = stands (barrier ∷ [])

-- notes and the edges of blocks are passed over
abbrev pub is_passed : Tree → Bool
is_passed h =
    is_word (codes "cnote") h || is_word (codes "edge-from") h || is_word (codes "edge-to") h

abbrev pub entry_by : Tree → List Tree → Parsed (List Insn)
entry_by t (h ∷ parts) =
    if is_word (codes "cinsn") h then insn_by Plain t (insn_parts parts)
    else (if is_word (codes "cjump_insn") h then insn_by Jump t (insn_parts parts)
    else (if is_word (codes "ccall_insn") h then call_by t (insn_parts parts)
    else (if is_word (codes "clabel") h then label_by t (leading_number parts)
    else (if is_word (codes "cbarrier") h then one_barrier
    else (if is_passed h then stands [] else outside t)))))
entry_by t [] = outside t

-- (cinsn UID PATTERN ..), (cjump_insn UID PATTERN ..), (ccall_insn UID PATTERN ..), (clabel UID ..)
-- or (cbarrier ..): one instruction; (cnote ..), (edge-from ..) or (edge-to ..): none
abbrev pub entry_of : Tree → Parsed (List Insn)
entry_of t = entry_by t (items_of t)

-- ---- the chain

-- what some trees give, one after the other
abbrev pub each_joined : {A : Type 0} → (Tree → Parsed (List A)) → List Tree → Parsed (List A)
each_joined read [] = stands []
each_joined read (t ∷ ts) =
    parsed_then (read t) (λ xs. parsed_map (λ ys. xs ++ ys) (each_joined read ts))

abbrev pub entries_of : List Tree → Parsed (List Insn)
entries_of trees = each_joined entry_of trees

-- (block N ENTRIES)
abbrev pub block_entries : List Tree → Option (List Tree)
block_entries (h ∷ n ∷ entries) =
    if is_word (codes "block") h && is_some (number_of n) &&
    list_all is_nested entries then Some entries else None
block_entries _ = None

abbrev pub item_by : Tree → Option (List Tree) → Parsed (List Insn)
item_by t (Some entries) = entries_of entries
item_by t None = entry_of t

-- a block of entries, or an entry by itself
abbrev pub item_of : Tree → Parsed (List Insn)
item_of t = item_by t (block_entries (items_of t))

abbrev pub items_joined : List Tree → Parsed (List Insn)
items_joined trees = each_joined item_of trees

abbrev pub chain_items : List Tree → Option (List Tree)
chain_items (h ∷ items) =
    if is_word (codes "insn-chain") h && list_all is_nested items then Some items else None
chain_items [] = None

abbrev pub chain_by : Tree → Option (List Tree) → Parsed (List Insn)
chain_by t (Some items) = items_joined items
chain_by t None = outside t

-- (insn-chain ITEMS)
abbrev pub chain_of : Tree → Parsed (List Insn)
chain_of t = chain_by t (chain_items (items_of t))
