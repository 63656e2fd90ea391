-- An expression of RTL by its tree: GCC Internals, "RTL Expressions" and "Reading RTL". A tree that
-- may not stand where it stands, or whose parts are not those of its code, is itself a construct
-- outside the language, also where a part of it is one.
use Rattle.std.specs.Prelude.{◌+◌, ◌==◌, nat_lt, Bool, true, false, ◌&&◌, List, [], ◌∷◌, Option, Some, None, if◌then◌else◌, option_map, option_and_then, take, drop, length, codes}
use Rattle.std.specs.List.{list_all}
use Rattle.rtx_tree.specs.declared.code.Code.TheVariants as code
use Rattle.rtx_tree.specs.declared.code.Mode.TheVariants.{Void}
use Rattle.rtx_tree.specs.declared.tree.Rtx.{Rtx}
use Rattle.rtx_tree.specs.Tree.{node_of}
use Rattle.lisp_read.specs.declared.tree.Tree.{Tree, out-Tree}
use Rattle.lisp_read.specs.declared.tree.Tree.TheOpen.{Tree-F}
use Rattle.lisp_read.specs.declared.tree.Tree.TheFolds.{fold-Tree}
use Rattle.lisp_read.specs.declared.head.Opening.{Opening}
use Rattle.rtx_tree.specs.declared.class.Class.{Class}
use Rattle.rtx_tree.specs.declared.class.Class.TheVariants as class
use Rattle.lisp_read.specs.declared.position.Position.{Position}
use Rattle.lisp_read.specs.declared.position.Position.TheVariants.{Top, Value, Place, Clobbered, Source, Pattern, Pc, Jump, Test, Target, Callee, Words, Inner}
use Rattle.lisp_read.specs.Shape.{atom_of, items_of, vector_of, is_vector, is_nested, is_word}
use Rattle.lisp_read.specs.Parsed.{Parsed, stands, outside, parsed_map, parsed_then}
use Rattle.rtx_tree.specs.Code.{class_of_code, is_constant_class, is_counter_class}
use Rattle.lisp_read.specs.Positions.{admits, mode_at}
use Rattle.lisp_read.specs.Head.{head_in}
use Rattle.lisp_read.specs.Leaf.{word_with, symbol_with}

-- ---- the head

-- the head that a list begins with
abbrev pub head_of_items : List Tree → Option Opening
head_of_items (h ∷ rest) = option_and_then head_in (atom_of h)
head_of_items [] = None

abbrev pub head_of : Tree → Option Opening
head_of t = head_of_items (items_of t)

abbrev pub class_of : Opening → Class
class_of h = class_of_code h.code

-- a head with the mode that it has at a position, if it may stand there
abbrev pub placed : Position → Opening → Option Opening
placed p h = if admits p (class_of h) then option_map (λ m. record { code = h.code; mode = m }) (mode_at p (class_of h) h.mode) else None

abbrev pub head_at : Position → Tree → Option Opening
head_at p t = option_and_then (placed p) (head_of t)

-- ---- the parts

abbrev pub head_is : (Class → Bool) → Option Opening → Bool
head_is test None = false
head_is test (Some h) = test (class_of h)

-- the tree begins as the program counter does, or as a constant
abbrev pub is_counter : Tree → Bool
is_counter t = head_is is_counter_class (head_of t)

abbrev pub is_constant : Tree → Bool
is_constant t = head_is is_constant_class (head_of t)

-- expressions at these positions behind the head, and no more
abbrev pub exactly : List Position → List Tree → Option (List Position)
exactly ps items = if length items == length ps + 1 then Some ps else None

-- expressions at these positions behind the head, and anything behind, which is passed over
abbrev pub at_least : List Position → List Tree → Option (List Position)
at_least ps items = if nat_lt (length ps) (length items) then Some ps else None

-- a register and the offset 0
abbrev pub lowpart_parts : List Tree → Option (List Position)
lowpart_parts (h ∷ a ∷ offset ∷ []) = if is_word (codes "0") offset then Some (Inner ∷ []) else None
lowpart_parts _ = None

-- two values, not both of them constants
abbrev pub comparison_parts : List Tree → Option (List Position)
comparison_parts (h ∷ a ∷ b ∷ []) =
    if is_constant a && is_constant b then None else Some (Value ∷ Value ∷ [])
comparison_parts _ = None

-- a place and its source; what the program counter is set to is a place in the code
abbrev pub setting_parts : List Tree → Option (List Position)
setting_parts (h ∷ a ∷ b ∷ []) =
    if is_counter a then Some (Pc ∷ Jump ∷ []) else Some (Place ∷ Source ∷ [])
setting_parts _ = None

-- the positions of the expressions behind the head, by the items of the list
abbrev pub positions_of : Class → List Tree → Option (List Position)
positions_of class.Memory items = at_least (Value ∷ []) items
positions_of class.Lowpart items = lowpart_parts items
positions_of class.Unary items = exactly (Value ∷ []) items
positions_of class.Extension items = exactly (Value ∷ []) items
positions_of class.Truncation items = exactly (Value ∷ []) items
positions_of class.Binary items = exactly (Value ∷ Value ∷ []) items
positions_of class.Shift items = exactly (Value ∷ Value ∷ []) items
positions_of class.Comparison items = comparison_parts items
positions_of class.Setting items = setting_parts items
positions_of class.Use items = exactly (Value ∷ []) items
positions_of class.Clobber items = exactly (Clobbered ∷ []) items
positions_of class.Call items = exactly (Callee ∷ Words ∷ []) items
positions_of class.Return items = exactly [] items
positions_of class.Counter items = exactly [] items
positions_of class.Branch items = exactly (Test ∷ Target ∷ Pc ∷ []) items
positions_of class.Scratch items = exactly [] items
positions_of _ items = None

-- where an expression should stand there is a list or a vector
abbrev pub if_nested : List Tree → List Position → Option (List Position)
if_nested items ps = if list_all is_nested (take (length ps) (drop 1 items)) then Some ps else None

abbrev pub parts_of_class : Class → List Tree → Option (List Position)
parts_of_class c items = option_and_then (if_nested items) (positions_of c items)

-- ---- reading

-- what a tree stands for at each position, and as the vector of a `parallel`
pub record Meaning : Type 0 where
  pub at : Position → Parsed Rtx
  pub elements : Parsed (List Rtx)

-- each of some trees at its position, in the order of the text
abbrev pub each_at : List Position → List Meaning → Parsed (List Rtx)
each_at (p ∷ ps) (x ∷ xs) = parsed_then (x.at p) (λ y. parsed_map (λ ys. y ∷ ys) (each_at ps xs))
each_at _ _ = stands []

abbrev pub patterns : List Meaning → Parsed (List Rtx)
patterns [] = stands []
patterns (x ∷ xs) = parsed_then (x.at Pattern) (λ y. parsed_map (λ ys. y ∷ ys) (patterns xs))

abbrev pub node_by : Tree → Opening → Option (List Position) → List Meaning → Parsed Rtx
node_by t h None inside = outside t
node_by t h (Some ps) inside = parsed_map (node_of h.code h.mode) (each_at ps (drop 1 inside))

-- (parallel [PATTERNS])
abbrev pub parallel_by : Tree → List Tree → List Meaning → Parsed Rtx
parallel_by t (h ∷ v ∷ []) (x ∷ y ∷ []) =
    if is_nested v then parsed_map (node_of code.Parallel Void) y.elements else outside t
parallel_by t _ _ = outside t

-- the list t with a head, by what its items stand for
abbrev pub list_by : Class → Position → Opening → Tree → List Meaning → Parsed Rtx
list_by class.Register p h t inside = word_with t (class_of h) p h.mode (items_of t)
list_by class.Constant p h t inside = word_with t (class_of h) p h.mode (items_of t)
list_by class.Label p h t inside = word_with t (class_of h) p h.mode (items_of t)
list_by class.Symbol p h t inside = symbol_with t h.mode (items_of t)
list_by class.Parallel p h t inside = parallel_by t (items_of t) inside
list_by c p h t inside = node_by t h (parts_of_class c (items_of t)) inside

abbrev pub expression_by : Position → Option Opening → Tree → List Meaning → Parsed Rtx
expression_by p None t inside = outside t
expression_by p (Some h) t inside = list_by (class_of h) p h t inside

-- the vector of a `parallel`: of lists and vectors alone
abbrev pub elements_by : Tree → List Meaning → Parsed (List Rtx)
elements_by t inside =
    if is_vector t && list_all is_nested (vector_of t) then patterns inside else outside t

-- a tree, by what the trees in it stand for
abbrev pub meaning_by : Tree → List Meaning → Meaning
meaning_by t inside = record {
  at = λ p. expression_by p (head_at p t) t inside;
  elements = elements_by t inside;
}

abbrev pub inside_at : {A : Type 0} → Tree-F A → List A
inside_at (Tree-F.List place items) = items
inside_at (Tree-F.Vector place items) = items
inside_at _ = []

-- the trees of a list or a vector
abbrev pub inside_of : Tree → List Tree
inside_of t = inside_at (out-Tree t)

-- each tree is handed to the one that reads it
abbrev pub each_read : List (Tree → Meaning) → List Tree → List Meaning
each_read (read ∷ reads) (t ∷ ts) = read t ∷ each_read reads ts
each_read _ _ = []

abbrev pub meaning_step : Tree-F (Tree → Meaning) → Tree → Meaning
meaning_step x t = meaning_by t (each_read (inside_at x) (inside_of t))

unfoldable pub meaning_of : Tree → Meaning
meaning_of t = fold-Tree (Tree → Meaning) meaning_step t t

abbrev pub elements_of : Tree → Parsed (List Rtx)
elements_of t = (meaning_of t).elements

-- the expression that a tree stands for at a position
abbrev pub read_at : Position → Tree → Parsed Rtx
read_at p t = (meaning_of t).at p

-- the expression that a tree stands for by itself
abbrev pub rtx_in : Tree → Parsed Rtx
rtx_in t = read_at Top t
