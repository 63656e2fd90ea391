-- Calls: what a call does, and the registers that its target reads. GCC Internals, "Insns"
-- (CALL_INSN_FUNCTION_USAGE) and "Side Effect Expressions" (`call`, `use`, `clobber`, `parallel`).
use Rattle.std.specs.Prelude.{ℕ, ◌-◌, length, slice_get, ℤ, Bool, true, false, not, ◌&&◌, List, [], ◌∷◌, filter, Option, Some, None, if◌then◌else◌, option_map, option_and_then, codes}
use Rattle.std.specs.List.{list_all}
use Rattle.std.specs.Str.{bytes_eq}
use Rattle.rtx_tree.specs.declared.code.Code.{Code}
use Rattle.rtx_tree.specs.declared.code.Code.TheVariants.{Reg, Use, Clobber, Parallel}
use Rattle.rtx_tree.specs.declared.code.Mode.{Mode}
use Rattle.rtx_tree.specs.declared.code.Mode.TheVariants.{Void}
use Rattle.rtx_tree.specs.declared.function.ArgUse.{ArgUse}
use Rattle.rtx_tree.specs.declared.tree.Rtx.{Rtx, out-Rtx}
use Rattle.rtx_tree.specs.Tree.{node_of}
use Rattle.lisp_read.specs.declared.tree.Tree.{Tree}
use Rattle.lisp_read.specs.declared.tree.Tree.TheOpen.{Tree-F}
use Rattle.lisp_read.specs.declared.tree.Tree.TheFolds.{fold-Tree}
use Rattle.rtx_tree.specs.declared.class.Class.{Class}
use Rattle.rtx_tree.specs.declared.class.Class.TheVariants as class
use Rattle.lisp_read.specs.declared.position.Position.TheVariants.{Pattern}
use Rattle.lisp_read.specs.Leaf.{below}
use Rattle.lisp_read.specs.Parsed.{Parsed, stands, outside, or_outside, parsed_map, parsed_then, each_parsed}
use Rattle.lisp_read.specs.Expression.{head_is, head_at, read_at}
use Rattle.lisp_read.specs.Shape.{items_of, vector_of, is_vector, is_nested, atom_of}
use Rattle.rtl_read.specs.Word.{head_word, head_of_list, named_code, is_alone, expression_of}

-- ---- what a call does

abbrev pub is_class_parallel : Class → Bool
is_class_parallel class.Parallel = true
is_class_parallel _ = false

-- the tree begins as a `parallel` does
abbrev pub is_parallel : Tree → Bool
is_parallel t = head_is is_class_parallel (head_at Pattern t)

abbrev pub is_dropped_code : Option Code → Bool
is_dropped_code (Some Use) = true
is_dropped_code (Some Clobber) = true
is_dropped_code _ = false

-- a `use` or a `clobber`, which is not looked at
abbrev pub is_dropped : Tree → Bool
is_dropped t = is_dropped_code (named_code t)

abbrev pub is_kept : Tree → Bool
is_kept t = not (is_dropped t)

-- some effects at once; one alone stands for itself
abbrev pub together : List Rtx → Rtx
together (x ∷ []) = x
together xs = node_of Parallel Void xs

-- the vector of a call's `parallel`, if it is a vector of lists and vectors
abbrev pub effects_by : Tree → List Tree → Option (List Tree)
effects_by t (h ∷ v ∷ []) =
    if is_parallel t && is_vector v &&
    list_all is_nested (vector_of v) then Some (vector_of v) else None
effects_by t _ = None

abbrev pub effects_of : Tree → Option (List Tree)
effects_of t = effects_by t (items_of t)

abbrev pub call_by : Tree → Option (List Tree) → Parsed Rtx
call_by t (Some effects) =
    parsed_map together (each_parsed (read_at Pattern) (filter is_kept effects))
call_by t None = read_at Pattern t

-- the pattern of a call: `use` and `clobber` in its `parallel` are dropped
abbrev pub call_of : Tree → Parsed Rtx
call_of t = call_by t (effects_of t)

-- ---- what its target reads

abbrev pub arg_use : Mode → ℕ → ArgUse
arg_use mode reg = record { reg = reg; mode = mode }

abbrev pub use_by_code : Code → Mode → ℤ → Option ArgUse
use_by_code Reg mode number = option_map (arg_use mode) (below 32 number)
use_by_code _ mode number = None

-- a hard register in a mode
abbrev pub use_of_register : Rtx → Option ArgUse
use_of_register x = use_by_code (out-Rtx x).code (out-Rtx x).mode (out-Rtx x).number

abbrev pub use_by : Code → List Rtx → Option ArgUse
use_by Use (x ∷ []) = use_of_register x
use_by _ kids = None

-- (use (reg:MODE R)), R being a hard register
abbrev pub use_in : Rtx → Option ArgUse
use_in x = use_by (out-Rtx x).code (out-Rtx x).kids

abbrev pub use_of : Tree → Parsed ArgUse
use_of t = or_outside t (option_and_then use_in (expression_of t))

-- the head `expr_list`, whatever its flags and its mode
abbrev pub is_link_head : Option (List ℕ) → Bool
is_link_head None = false
is_link_head (Some text) = bytes_eq (head_word text) (codes "expr_list")

abbrev pub is_link : List Tree → Bool
is_link items = is_link_head (head_of_list items)

-- (expr_list USE CHAIN), by its items
abbrev pub is_whole_link : List Tree → Bool
is_whole_link (h ∷ element ∷ more ∷ []) =
    is_link_head (atom_of h) && is_nested element && is_nested more
is_whole_link _ = false

-- the use of a link, and what the chain behind it gives
abbrev pub link_by : List Tree → List (Parsed (List ArgUse)) → Parsed (List ArgUse)
link_by (h ∷ element ∷ more ∷ []) (x ∷ y ∷ rest ∷ []) =
    parsed_then (use_of element) (λ first. parsed_map (λ uses. first ∷ uses) rest)
link_by _ _ = stands []

-- (nil)
abbrev pub end_of : Tree → Parsed (List ArgUse)
end_of t = if is_alone (codes "nil") (items_of t) then stands [] else outside t

-- a chain, by what its items are as chains
abbrev pub uses_by : Tree → List Tree → List (Parsed (List ArgUse)) → Parsed (List ArgUse)
uses_by t items inside = if is_whole_link items then link_by items inside else end_of t

-- the trees of a list are handed to those that read them
abbrev pub each_chain : List (Tree → Parsed (List ArgUse)) → List Tree → List (Parsed (List ArgUse))
each_chain (read ∷ reads) (t ∷ ts) = read t ∷ each_chain reads ts
each_chain _ _ = []

abbrev pub readers_at : Tree-F (Tree → Parsed (List ArgUse)) → List (Tree → Parsed (List ArgUse))
readers_at (Tree-F.List place items) = items
readers_at _ = []

abbrev pub chain_step : Tree-F (Tree → Parsed (List ArgUse)) → Tree → Parsed (List ArgUse)
chain_step x t = uses_by t (items_of t) (each_chain (readers_at x) (items_of t))

-- a chain of uses
unfoldable pub uses_in : Tree → Parsed (List ArgUse)
uses_in t = fold-Tree (Tree → Parsed (List ArgUse)) chain_step t t

abbrev pub uses_told : Option Tree → Parsed (List ArgUse)
uses_told None = stands []
uses_told (Some t) = if is_link (items_of t) then uses_in t else stands []

-- the last of some trees, if it is a chain, tells the uses
abbrev pub uses_of : List Tree → Parsed (List ArgUse)
uses_of trees = uses_told (slice_get trees (length trees - 1))
