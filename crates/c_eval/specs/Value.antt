-- The value of a condition: GCC Internals, "Defining RTL Patterns" (the condition of define_insn),
-- "Machine-Independent Predicates", "Defining Machine-Specific Predicates" (op and ival in a
-- match_test), and "Defining Machine-Specific Peephole Optimizers" (peep2_reg_dead_p). What a part
-- means is the profile of this project.
use Rattle.std.specs.Prelude.{ℕ, ℤ, pos, negsuc, neg_ℤ, Bool, true, false, not, ◌&&◌, ◌^◌, nat_lt, List, [], ◌∷◌, Option, Some, None, slice_get, if◌then◌else◌, option_map, option_and_then, unwrap_or, int_lt}
use Rattle.std.specs.Str.{bytes_eq}
use Rattle.std.specs.Ordering.{int_eq}
use Rattle.rtx_tree.specs.declared.code.Code.{Code}
use Rattle.rtx_tree.specs.declared.code.Code.TheVariants as code
use Rattle.rtx_tree.specs.declared.code.Mode.{Mode}
use Rattle.rtx_tree.specs.declared.tree.Rtx.{Rtx, out-Rtx}
use Rattle.rtx_tree.specs.declared.tree.Rtx.TheOpen.{Rtx-F}
use Rattle.rtx_tree.specs.declared.tree.Rtx.TheFolds.{fold-Rtx}
pub use Rattle.rtx_tree.specs.Code.{same_code, same_mode}
use Rattle.rtx_tree.specs.Operands.{operand_at}
use Rattle.rtx_tree.specs.RegSet.{has_reg}
use Rattle.c_cond.specs.c_words.declared.head.Call.{Call}
use Rattle.c_cond.specs.c_words.declared.head.Call.TheVariants as call
use Rattle.c_cond.specs.c_words.declared.head.CondHead.{CondHead}
use Rattle.c_cond.specs.c_words.declared.head.CondHead.TheVariants as head
use Rattle.c_cond.specs.declared.tree.Tree.{Tree}
use Rattle.c_eval.specs.declared.facts.Facts.{Facts}
use Rattle.c_eval.specs.declared.reading.Reading.{Reading}
use Rattle.c_eval.specs.declared.reading.Reading.TheVariants as reading
use Rattle.c_eval.specs.Numbers.{truth, unary_of, joined, chosen}
use Rattle.c_eval.specs.Fold.{fold_by}

-- What a condition is read with: facts, the operands, and the trees that predicates accept in a
-- mode, by their names.
pub record Setting : Type 0 where
  pub facts : Facts
  pub operands : List (Option Rtx)
  pub accepts : List ℕ → Rtx → Mode → Bool

abbrev pub setting : Facts → List (Option Rtx) → (List ℕ → Rtx → Mode → Bool) → Setting
setting facts operands accepts = record { facts = facts; operands = operands; accepts = accepts }

-- the facts where a predicate tests an operand: registers have no homes yet, new ones may be made,
-- and there is no window
abbrev pub test_facts : Facts
test_facts = record { reloaded = false; new_pseudos = true; dead = [] }

-- where a predicate tests an operand: that is operand 0, and no predicate accepts anything
abbrev pub under_test : Rtx → Setting
under_test x = setting test_facts (Some x ∷ []) (λ name tree mode. false)

-- ---- accessors

abbrev pub is_a : Code → Rtx → Bool
is_a c x = same_code (out-Rtx x).code c

-- the number of a tree of a code; any other tree has none
abbrev pub number_in : Code → Rtx → Option ℤ
number_in c x = if is_a c x then Some (out-Rtx x).number else None

-- whether two trees are the same, part by part
abbrev pub all_same : List (Rtx → Bool) → List Rtx → Bool
all_same [] [] = true
all_same (same ∷ more) (x ∷ xs) = same x && all_same more xs
all_same _ _ = false

abbrev pub same_step : Rtx-F (Rtx → Bool) → Rtx → Bool
same_step x y =
    same_code x.code (out-Rtx y).code && (same_mode x.mode (out-Rtx y).mode && (int_eq x.number (out-Rtx y).number && (bytes_eq x.name (out-Rtx y).name && all_same x.kids (out-Rtx y).kids)))

abbrev pub same_tree : Rtx → Rtx → Bool
same_tree = fold-Rtx (Rtx → Bool) same_step

-- registers are numbered by 32 bits
abbrev pub register_numbered : ℤ → Option ℕ
register_numbered (pos n) = if nat_lt n (2 ^ 32) then Some n else None
register_numbered (negsuc n) = None

-- the register that a tree is; any other tree is none
abbrev pub register_in : Rtx → Option ℕ
register_in x = option_and_then register_numbered (number_in code.Reg x)

-- whether the registers that are dead right before an instruction of the window, which may be its
-- end, have this one
abbrev pub dead_at : List (List ℕ) → ℕ → ℕ → Option ℤ
dead_at dead place reg = option_map (λ regs. truth (has_reg regs reg)) (slice_get dead place)

abbrev pub is_dead : List (List ℕ) → ℕ → Rtx → Option ℤ
is_dead dead place x = option_and_then (dead_at dead place) (register_in x)

-- both bounds are in the range
abbrev pub in_range : ℤ → ℤ → ℤ → ℤ
in_range a low high = truth (not (int_lt a low) && not (int_lt high a))

-- ---- parts

-- the number that a part is, where it is an expression that has a value
abbrev pub number_of : Reading → Option ℤ
number_of (reading.Number n) = Some n
number_of _ = None

-- the operand that a part names, where it is not missing
abbrev pub operand_of : List (Option Rtx) → Reading → Option Rtx
operand_of operands (reading.Operand k) = operand_at operands k
operand_of operands _ = None

-- the mode that a part is
abbrev pub mode_of : Reading → Option Mode
mode_of (reading.Mode m) = Some m
mode_of _ = None

-- the place in the window that a part is
abbrev pub place_of : Reading → Option ℕ
place_of (reading.Window n) = Some n
place_of _ = None

-- of a comparison with == or !=
abbrev pub compared : Bool → Bool → ℤ
compared equal same = truth (if equal then same else not same)

abbrev pub code_is : Code → Bool → Rtx → ℤ
code_is c equal x = compared equal (is_a c x)

abbrev pub mode_is : Mode → Bool → Rtx → ℤ
mode_is m equal x = compared equal (same_mode (out-Rtx x).mode m)

-- what is asked of one operand
abbrev pub asked : Call → Rtx → Option ℤ
asked call.Intval x = number_in code.ConstInt x
asked call.Regno x = number_in code.Reg x
asked call.RegP x = Some (truth (is_a code.Reg x))
asked call.MemP x = Some (truth (is_a code.Mem x))
asked call.ConstIntP x = Some (truth (is_a code.ConstInt x))
asked call.SymbolRefP x = Some (truth (is_a code.SymbolRef x))
asked _ x = None

-- rtx_equal_p
abbrev pub equal_of : List (Option Rtx) → Reading → Reading → Option ℤ
equal_of operands x y = option_and_then (λ a. option_map (λ b. truth (same_tree a b)) (operand_of operands y)) (operand_of operands x)

-- IN_RANGE: a number, and the bounds
abbrev pub range_of : Reading → Reading → Reading → Option ℤ
range_of a low high = option_and_then (λ n. option_and_then (λ l. option_map (in_range n l) (number_of high)) (number_of low)) (number_of a)

-- SMALL_OPERAND: a number of 12 signed bits
abbrev pub small_of : Reading → Option ℤ
small_of a = option_map (λ n. in_range n (neg_ℤ (pos 2048)) (pos 2047)) (number_of a)

-- peep2_reg_dead_p
abbrev pub dead_of : List (List ℕ) → List (Option Rtx) → Reading → Reading → Option ℤ
dead_of dead operands place x =
    option_and_then (λ n. option_and_then (is_dead dead n) (operand_of operands x)) (place_of place)

abbrev pub asked_of : List (Option Rtx) → Call → Reading → Option ℤ
asked_of operands c x = option_and_then (asked c) (operand_of operands x)

-- The value of a call. Each operand among its parts must be there, and each expression must have a
-- value.
abbrev pub call_value : Setting → Call → List Reading → Option ℤ
call_value s call.CanCreatePseudo [] = Some (truth s.facts.new_pseudos)
call_value s call.RtxEqual (x ∷ y ∷ []) = equal_of s.operands x y
call_value s call.InRange (a ∷ low ∷ high ∷ []) = range_of a low high
call_value s call.SmallOperand (a ∷ []) = small_of a
call_value s call.RegDead (place ∷ x ∷ []) = dead_of s.facts.dead s.operands place x
call_value s c (x ∷ []) = asked_of s.operands c x
call_value s c _ = None

-- the call of a predicate, by its name
abbrev pub accepted_of : (List ℕ → Rtx → Mode → Bool) → List (Option Rtx) → List ℕ → Reading →
    Reading → Option ℤ
accepted_of accepts operands name x mode = option_and_then (λ tree. option_map (λ m. truth (accepts name tree m)) (mode_of mode)) (operand_of operands x)

-- The value of an expression by its parts. Other heads have none.
abbrev pub value_by : Setting → CondHead → List Reading → Option ℤ
value_by s (head.Number n) [] = Some n
value_by s head.ReloadCompleted [] = Some (truth s.facts.reloaded)
value_by s head.Ival [] = option_and_then (number_in code.ConstInt) (operand_at s.operands 0)
value_by s (head.CodeIs c equal) (x ∷ []) = option_map (code_is c equal) (operand_of s.operands x)
value_by s (head.ModeIs m equal) (x ∷ []) = option_map (mode_is m equal) (operand_of s.operands x)
value_by s (head.Unary u) (a ∷ []) = option_map (unary_of u) (number_of a)
value_by s (head.Binary op) (a ∷ b ∷ []) = joined op (number_of a) (number_of b)
value_by s head.Choose (a ∷ b ∷ c ∷ []) = chosen (number_of a) (number_of b) (number_of c)
value_by s (head.Call c) parts = call_value s c parts
value_by s (head.Predicate name) (x ∷ mode ∷ []) = accepted_of s.accepts s.operands name x mode
value_by s _ _ = None

-- a number where there is a value, else nothing
abbrev pub as_reading : Option ℤ → Reading
as_reading (Some n) = reading.Number n
as_reading None = reading.Nothing

-- what a head is read as by its parts
abbrev pub read_by : Setting → CondHead → List Reading → Reading
read_by s (head.Operand k) [] = reading.Operand k
read_by s (head.Mode m) [] = reading.Mode m
read_by s (head.Window n) [] = reading.Window n
read_by s h parts = as_reading (value_by s h parts)

-- what a tree is read as
abbrev pub reading_of : Setting → Tree → Reading
reading_of s = fold_by (read_by s)

-- What a condition is worth: its value, or 0 where it has none.
abbrev pub worth : Setting → Tree → ℤ
worth s condition = unwrap_or (number_of (reading_of s condition)) (pos 0)
