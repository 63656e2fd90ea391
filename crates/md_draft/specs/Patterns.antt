-- The patterns of forms: GCC Internals, "RTL Template", "Defining How to Split Instructions" and
-- "RTL to RTL Peephole Optimizers".
use Rattle.std.specs.Prelude.{ℕ, nat_lt, nat_le, ◌==◌, Bool, true, false, not, ◌&&◌, List, [], ◌∷◌, Option, Some, None, Result, Ok, Err, if◌then◌else◌, length, option_and_then}
use Rattle.std.specs.List.{list_any, count_by}
use Rattle.rtx_tree.specs.declared.code.Code.{Code}
use Rattle.rtx_tree.specs.declared.code.Code.TheVariants.{Parallel, MatchDup, MatchScratch}
use Rattle.rtx_tree.specs.declared.code.Mode.TheVariants.{Void}
use Rattle.rtx_tree.specs.declared.constants.Constant.{Constant}
use Rattle.rtx_tree.specs.declared.tree.Rtx.{Rtx}
use Rattle.rtx_tree.specs.Tree.{node_of}
use Rattle.lisp_read.specs.declared.tree.Tree.{Tree}
use Rattle.lisp_read.specs.Head.{code_of_head}
use Rattle.lisp_read.specs.Shape.{atom_of, items_of, vector_of}
use Rattle.md_pattern.specs.declared.reason.Reason.{Reason}
use Rattle.md_pattern.specs.declared.reason.Reason.TheVariants as reason
use Rattle.md_pattern.specs.declared.pattern.Patterns.{Patterns}
use Rattle.md_pattern.specs.Reason.{judged_map}
use Rattle.md_pattern.specs.Pattern as pattern
use Rattle.md_pattern.specs.Pattern.{patterns_of}
use Rattle.md_draft.specs.declared.head.FormHead.{FormHead}
use Rattle.md_draft.specs.declared.head.FormHead.TheVariants as head

abbrev pub Judged : Type 0 → Type 0
Judged A = Result A Reason

abbrev pub no_patterns : Patterns
no_patterns = pattern.no_patterns

-- ---- one instruction

-- several elements of one instruction are a `parallel`
abbrev pub as_one : List Rtx → List Rtx
as_one (x ∷ y ∷ more) = node_of Parallel Void (x ∷ y ∷ more) ∷ []
as_one xs = xs

abbrev pub one_instruction : Patterns → Patterns
one_instruction ps = record { trees = as_one ps.trees; texts = ps.texts }

-- an instruction has an element
unfoldable pub insn_patterns : List Constant → Tree → Judged Patterns
insn_patterns constants t =
    if length (vector_of t) == 0 then Err reason.Parts
    else judged_map one_instruction (patterns_of constants t)

-- ---- a window

abbrev pub code_at : List Tree → Option Code
code_at [] = None
code_at (h ∷ ts) = option_and_then code_of_head (atom_of h)

-- the code at the head of a list
abbrev pub code_in : Tree → Option Code
code_in t = code_at (items_of t)

abbrev pub is_scratch_code : Option Code → Bool
is_scratch_code (Some MatchScratch) = true
is_scratch_code _ = false

abbrev pub is_dup_code : Option Code → Bool
is_dup_code (Some MatchDup) = true
is_dup_code _ = false

-- an element that asks for a scratch register is no instruction
abbrev pub is_scratch : Tree → Bool
is_scratch t = is_scratch_code (code_in t)

-- an operand once more can't stand in the place of an instruction
abbrev pub is_dup : Tree → Bool
is_dup t = is_dup_code (code_in t)

abbrev pub instructions : List Tree → ℕ
instructions ts = count_by (λ t. not (is_scratch t)) ts

abbrev pub fits_window : ℕ → Bool
fits_window n = nat_lt 0 n && nat_le n 16

-- a window has an instruction, 16 at most, and no operand once more in the place of one
abbrev pub is_window : List Tree → Bool
is_window ts = fits_window (instructions ts) && not (list_any is_dup ts)

-- elements that are no window have wrong parts, whatever else is wrong with them
unfoldable pub window_patterns : List Constant → Tree → Judged Patterns
window_patterns constants t =
    if is_window (vector_of t) then patterns_of constants t else Err reason.Parts

-- ---- the patterns of a form

-- an expander makes its patterns, a peephole optimization matches a window of them, any other form
-- one instruction
abbrev pub patterns_by : List Constant → FormHead → Tree → Judged Patterns
patterns_by constants head.Expand t = patterns_of constants t
patterns_by constants head.Peephole2 t = window_patterns constants t
patterns_by constants _ t = insn_patterns constants t

-- what a part is, or what stands for one that isn't there
abbrev pub if_there : {A : Type 0} → A → (Tree → Judged A) → Option Tree → Judged A
if_there none read None = Ok none
if_there none read (Some t) = read t

unfoldable pub patterns_in : List Constant → FormHead → Option Tree → Judged Patterns
patterns_in constants h t = if_there no_patterns (patterns_by constants h) t

unfoldable pub sequence_in : List Constant → Option Tree → Judged Patterns
sequence_in constants t = if_there no_patterns (patterns_of constants) t
