-- A tree of a description as a pattern, or why it is set aside: GCC Internals, "RTL Template". A
-- pattern is an expression of any codes with the parts that they have; the five `match` codes may
-- stand wherever an expression may.
use Rattle.std.specs.Prelude.{ℕ, pos, ◌==◌, Bool, true, false, List, [], ◌∷◌, ◌++◌, Option, Some, None, Result, Ok, Err, if◌then◌else◌, option_and_then, take, length, codes}
use Rattle.rtx_tree.specs.declared.code.Code.{Code}
use Rattle.rtx_tree.specs.declared.code.Code.TheVariants.{SymbolRef}
use Rattle.rtx_tree.specs.declared.code.Mode.{Mode}
use Rattle.rtx_tree.specs.declared.code.Mode.TheVariants.{Void}
use Rattle.rtx_tree.specs.declared.constants.Constant.{Constant}
use Rattle.rtx_tree.specs.declared.tree.Rtx.{Rtx}
use Rattle.rtx_tree.specs.Tree.{tree_of, node_of, named_of, reg_of, const_of}
use Rattle.lisp_read.specs.declared.tree.Tree.{Tree}
use Rattle.lisp_read.specs.declared.tree.Tree.TheOpen.{Tree-F}
use Rattle.lisp_read.specs.declared.tree.Tree.TheFolds.{fold-Tree}
use Rattle.lisp_read.specs.Shape.{atom_of, items_of, is_word, is_vector}
use Rattle.lisp_read.specs.Head.{code_of_head, mode_of_head}
use Rattle.lisp_read.specs.Leaf.{quoted_name}
use Rattle.lisp_read.specs.Expression.{inside_at, inside_of}
use Rattle.md_pattern.specs.declared.reason.Reason.{Reason}
use Rattle.md_pattern.specs.declared.reason.Reason.TheVariants as reason
use Rattle.rtx_tree.specs.declared.class.HeadMode.{HeadMode}
use Rattle.rtx_tree.specs.declared.class.HeadMode.TheVariants.{Needed, Optional}
use Rattle.rtx_tree.specs.declared.class.Parts.{Parts}
use Rattle.rtx_tree.specs.declared.class.Parts.TheVariants as parts
use Rattle.md_pattern.specs.declared.operand.Operand.{Operand}
use Rattle.md_pattern.specs.declared.pattern.Pattern.{Pattern}
use Rattle.md_pattern.specs.declared.pattern.Patterns.{Patterns}
use Rattle.md_pattern.specs.Reason.{judged_with}
use Rattle.rtx_tree.specs.Code.{class_of_code, parts_of, head_mode_of}
use Rattle.md_pattern.specs.Word.{number_of, register_of}
use Rattle.md_pattern.specs.Operand.{numbered, predicated, operand_in, scratch_in, dup_in}

-- ---- several patterns

abbrev pub no_patterns : Patterns
no_patterns = record { trees = []; texts = [] }

abbrev pub in_front : Pattern → Patterns → Patterns
in_front p ps = record { trees = p.tree ∷ ps.trees; texts = p.texts ++ ps.texts }

-- what a tree stands for: as an expression, and as a vector of expressions
pub record Meaning : Type 0 where
  pub pattern : Result Pattern Reason
  pub vector : Result Patterns Reason

-- each of some trees as an expression
abbrev pub each : List Meaning → Result Patterns Reason
each [] = Ok no_patterns
each (m ∷ ms) = judged_with in_front m.pattern (each ms)

-- ---- what the words behind a head make

-- a tree that has no operands in it
abbrev pub bare : Rtx → Pattern
bare x = record { tree = x; texts = [] }

-- there is what there should be, or the reason says that there isn't
abbrev pub or_aside : {A : Type 0} → Reason → Option A → Result A Reason
or_aside r (Some x) = Ok x
or_aside r None = Err r

-- an expression of a code has a mode where one may be written that is not passed over
abbrev is_moded : HeadMode → Bool
is_moded Needed = true
is_moded Optional = true
is_moded _ = false

abbrev pub has_mode : Code → Bool
has_mode c = is_moded (head_mode_of (class_of_code c))

-- a mode outside is looked at before the mode of a code that has none is dropped
abbrev pub mode_for : Code → Option Mode → Result Mode Reason
mode_for c None = Err reason.Mode
mode_for c (Some m) = if has_mode c then Ok m else Ok Void

-- an expression that is made of others
abbrev pub node_with : Code → Mode → Patterns → Pattern
node_with c m ps = record { tree = node_of c m ps.trees; texts = ps.texts }

-- an operand of the pattern, with the expressions in it
abbrev pub matching_with : Code → Operand → Mode → Patterns → Pattern
matching_with c o m ps = record {
  tree = tree_of (record { code = c; mode = m; number = pos o.number; name = o.predicate }) ps.trees;
  texts = o.texts ++ ps.texts;
}

abbrev pub register_by : List Constant → Result Mode Reason → Option (List ℕ) →
    Result Pattern Reason
register_by constants m None = Err reason.Parts
register_by constants m (Some text) = judged_with (λ mode r. bare (reg_of mode r)) m (or_aside reason.Code (register_of constants text))

-- the one word behind a head
abbrev pub word_in : List Tree → Option (List ℕ)
word_in (w ∷ []) = atom_of w
word_in _ = None

abbrev pub number_by : Result Mode Reason → List Constant → List Tree → Result Pattern Reason
number_by m constants ts = judged_with (λ mode n. bare (const_of n)) m (or_aside reason.Parts (option_and_then (number_of constants) (word_in ts)))

-- the symbol in the one list behind a head
abbrev pub symbol_in : List Tree → Option (List ℕ)
symbol_in (l ∷ []) = quoted_name (items_of l)
symbol_in _ = None

abbrev pub symbol_by : Result Mode Reason → List Tree → Result Pattern Reason
symbol_by m ts = judged_with (λ mode name. bare (named_of SymbolRef mode name)) m (or_aside reason.Parts (symbol_in ts))

-- expressions, and no more
abbrev pub node_by : Bool → Code → Result Mode Reason → List Meaning → Result Pattern Reason
node_by true c m ms = judged_with (node_with c) m (each ms)
node_by false c m ms = Err reason.Parts

-- one expression and the offset 0
abbrev pub is_lowpart : List Tree → Bool
is_lowpart (x ∷ offset ∷ []) = is_word (codes "0") offset
is_lowpart _ = false

abbrev pub parallel_by : Code → Result Mode Reason → List Meaning → Result Pattern Reason
parallel_by c m (v ∷ []) = judged_with (node_with c) m v.vector
parallel_by c m _ = Err reason.Parts

abbrev pub operand_by : Code → Result Mode Reason → Option Operand → Result Patterns Reason →
    Result Pattern Reason
operand_by c m None ps = Err reason.Parts
operand_by c m (Some o) ps = judged_with (matching_with c o) m ps

abbrev pub operator_by : Code → Result Mode Reason → List Tree → List Meaning →
    Result Pattern Reason
operator_by c m (n ∷ p ∷ v ∷ []) (a ∷ b ∷ vector ∷ []) =
    operand_by c m (predicated n p) vector.vector
operator_by c m _ _ = Err reason.Parts

abbrev pub operator_dup_by : Code → Result Mode Reason → List Tree → List Meaning →
    Result Pattern Reason
operator_dup_by c m (n ∷ v ∷ []) (a ∷ vector ∷ []) = operand_by c m (numbered n) vector.vector
operator_dup_by c m _ _ = Err reason.Parts

-- ---- a tree

-- what stands behind a code, by the trees there and what they stand for
abbrev pub behind : List Constant → Code → Result Mode Reason → Parts → List Tree → List Meaning →
    Result Pattern Reason
behind constants c m parts.Register ts ms = register_by constants m (word_in ts)
behind constants c m parts.Number ts ms = number_by m constants ts
behind constants c m parts.Symbol ts ms = symbol_by m ts
behind constants c m parts.Lowpart ts ms = node_by (is_lowpart ts) c m (take 1 ms)
behind constants c m (parts.Expressions n) ts ms = node_by (length ts == n) c m ms
behind constants c m parts.Vector ts ms = parallel_by c m ms
behind constants c m parts.Operand ts ms = operand_by c m (operand_in ts) (Ok no_patterns)
behind constants c m parts.Scratch ts ms = operand_by c m (scratch_in ts) (Ok no_patterns)
behind constants c m parts.Dup ts ms = operand_by c m (dup_in ts) (Ok no_patterns)
behind constants c m parts.Operator ts ms = operator_by c m ts ms
behind constants c m parts.OperatorDup ts ms = operator_dup_by c m ts ms

-- what stands behind an unknown code isn't looked at
abbrev pub of_code : List Constant → Option Code → Option Mode → List Tree → List Meaning →
    Result Pattern Reason
of_code constants None m ts ms = Err reason.Code
of_code constants (Some c) m ts ms =
    behind constants c (mode_for c m) (parts_of (class_of_code c)) ts ms

-- a list with an atom at its head; any other tree is no expression
abbrev pub of_head : List Constant → Option (List ℕ) → List Tree → List Meaning →
    Result Pattern Reason
of_head constants None ts ms = Err reason.Parts
of_head constants (Some text) ts ms =
    of_code constants (code_of_head text) (mode_of_head text) ts ms

abbrev pub list_by : List Constant → List Tree → List Meaning → Result Pattern Reason
list_by constants (h ∷ ts) (m ∷ ms) = of_head constants (atom_of h) ts ms
list_by constants _ _ = Err reason.Parts

abbrev pub vector_by : Tree → List Meaning → Result Patterns Reason
vector_by t inside = if is_vector t then each inside else Err reason.Parts

abbrev pub meaning_by : List Constant → Tree → List Meaning → Meaning
meaning_by constants t inside = record { pattern = list_by constants (items_of t) inside; vector = vector_by t inside }

-- each tree is handed to the one that reads it
abbrev pub each_read : List (Tree → Meaning) → List Tree → List Meaning
each_read (read ∷ reads) (t ∷ ts) = read t ∷ each_read reads ts
each_read _ _ = []

abbrev pub meaning_step : List Constant → Tree-F (Tree → Meaning) → Tree → Meaning
meaning_step constants x t = meaning_by constants t (each_read (inside_at x) (inside_of t))

unfoldable pub meaning_of : List Constant → Tree → Meaning
meaning_of constants t = fold-Tree (Tree → Meaning) (meaning_step constants) t t

-- the pattern that a tree writes, or the smallest of the reasons that it has (HasReason)
abbrev pub pattern_of : List Constant → Tree → Result Pattern Reason
pattern_of constants t = (meaning_of constants t).pattern

-- the patterns in a vector, or the smallest of the reasons that it has (VectorHasReason)
abbrev pub patterns_of : List Constant → Tree → Result Patterns Reason
patterns_of constants t = (meaning_of constants t).vector
