-- What preparation statements do: GCC Internals, "Defining RTL Sequences for Code Generation" (DONE
-- and FAIL). Which values they have, and what they mean where one has none, is the profile of this
-- project.
use Rattle.std.specs.Prelude.{ℕ, ℤ, List, [], ◌∷◌, map, if◌then◌else◌, Option, Some, None, option_map, option_and_then}
use Rattle.rtx_tree.specs.declared.code.Mode.{Mode}
use Rattle.rtx_tree.specs.Tree.{const_of}
use Rattle.rtx_tree.specs.Operands.{operand_at}
use Rattle.c_words.specs.declared.head.Call.{Call}
use Rattle.c_words.specs.declared.head.Call.TheVariants as call
use Rattle.c_words.specs.declared.head.CondHead.{CondHead}
use Rattle.c_words.specs.declared.head.CondHead.TheVariants as head
use Rattle.c_cond.specs.declared.tree.Tree.{Tree, out-Tree}
use Rattle.c_cond.specs.declared.tree.Tree.TheOpen.{Tree-F}
use Rattle.c_cond.specs.declared.tree.Tree.TheFolds.{fold-Tree}
use Rattle.c_cond.specs.Tree.{node}
use Rattle.c_eval.specs.declared.facts.Facts.{Facts}
use Rattle.c_eval.specs.Numbers.{is_zero}
use Rattle.c_eval.specs.Value.{setting, number_of, reading_of}
use Rattle.md_recog.specs.Match.{Accepts}
use Rattle.gen_emit.specs.declared.draft.Draft.{Draft}
use Rattle.gen_emit.specs.declared.draft.Ended.{Ended}
use Rattle.gen_emit.specs.declared.draft.Ended.TheVariants.{Through, Done}
use Rattle.gen_emit.specs.Values.{Made, made, moved, assigned, extended, fresh, forced, lowered}

-- A tree, the value that it makes, and what it does as a statement. None fails.
pub record Meaning : Type 0 where
  pub tree : Tree
  pub value : Draft → Option Made
  pub run : Draft → Option Ended

-- the mode that a part is
abbrev pub mode_in : CondHead → Option Mode
mode_in (head.Mode m) = Some m
mode_in _ = None

abbrev pub mode_of : Tree → Option Mode
mode_of t = mode_in (out-Tree t).head

-- the number that an expression is with the operands of a draft
abbrev pub number_in : Facts → Accepts → Tree → Draft → Option ℤ
number_in facts accepts e d = number_of (reading_of (setting facts d.operands accepts) e)

-- ---- values

-- (gen_int_mode)
abbrev pub constant_in : Option Mode → Option ℤ → Draft → Option Made
constant_in m n d =
    option_and_then (λ mode. option_map (λ k. made (const_of (extended mode k)) d) n) m

-- what a maker of a mode makes of a value
abbrev pub made_in : (Mode → Made → Option Made) → Option Mode → Option Made → Option Made
made_in maker m x = option_and_then (λ mode. option_and_then (maker mode) x) m

-- the value of a call
abbrev pub value_of_call : Facts → Accepts → Call → List Meaning → Draft → Option Made
value_of_call facts accepts call.GenInt (e ∷ []) d =
    option_map (λ n. made (const_of n) d) (number_in facts accepts e.tree d)
value_of_call facts accepts call.GenIntMode (e ∷ m ∷ []) d =
    constant_in (mode_of m.tree) (number_in facts accepts e.tree d) d
value_of_call facts accepts call.GenReg (m ∷ []) d =
    option_and_then (λ mode. fresh facts.new_pseudos mode d) (mode_of m.tree)
value_of_call facts accepts call.ForceReg (m ∷ x ∷ []) d =
    made_in (forced facts.new_pseudos) (mode_of m.tree) (x.value d)
value_of_call facts accepts call.GenLowpart (m ∷ x ∷ []) d =
    made_in lowered (mode_of m.tree) (x.value d)
value_of_call facts accepts c parts d = None

-- the value of a part; an operand must be there
abbrev pub value_by : Facts → Accepts → CondHead → List Meaning → Draft → Option Made
value_by facts accepts (head.Operand k) [] d = option_map (λ x. made x d) (operand_at d.operands k)
value_by facts accepts (head.Call c) parts d = value_of_call facts accepts c parts d
value_by facts accepts h parts d = None

-- ---- statements

-- what goes on where the next statement is reached
abbrev pub and_then : (Draft → Option Ended) → Ended → Option Ended
and_then next (Through d) = next d
and_then next (Done d) = Some (Done d)

-- the statement that a condition chooses, the second where it is 0; a condition without a value
-- fails
abbrev pub chosen : (Draft → Option Ended) → (Draft → Option Ended) → Draft → Option ℤ →
    Option Ended
chosen first second d test = option_and_then (λ n. if is_zero n then second d else first d) test

-- emit_move_insn: the values from the left, then the move
abbrev pub emitted_move : Meaning → Meaning → Draft → Option Ended
emitted_move target source d = option_and_then (λ (x : Made). option_map (λ (y : Made). Through (moved x.value y.value y.draft)) (source.value x.draft)) (target.value d)

-- what a statement does
abbrev pub run_by : Facts → Accepts → CondHead → List Meaning → Draft → Option Ended
run_by facts accepts (head.Assign k) (x ∷ []) d =
    option_map (λ (y : Made). Through (assigned k y.value y.draft)) (x.value d)
run_by facts accepts (head.Call call.EmitMove) (x ∷ y ∷ []) d = emitted_move x y d
run_by facts accepts head.Done [] d = Some (Done d)
run_by facts accepts head.Nothing [] d = Some (Through d)
run_by facts accepts head.If (e ∷ s ∷ []) d =
    chosen s.run (λ same. Some (Through same)) d (number_in facts accepts e.tree d)
run_by facts accepts head.IfElse (e ∷ s ∷ t ∷ []) d =
    chosen s.run t.run d (number_in facts accepts e.tree d)
run_by facts accepts head.Then (s ∷ t ∷ []) d = option_and_then (and_then t.run) (s.run d)
run_by facts accepts h parts d = None

-- ---- trees

abbrev pub meaning_by : Facts → Accepts → CondHead → List Meaning → Meaning
meaning_by facts accepts h parts = record {
  tree = node h (map (λ (part : Meaning). part.tree) parts);
  value = value_by facts accepts h parts;
  run = run_by facts accepts h parts;
}

abbrev pub meaning_step : Facts → Accepts → Tree-F Meaning → Meaning
meaning_step facts accepts x = meaning_by facts accepts x.head x.parts

unfoldable pub meaning : Facts → Accepts → Tree → Meaning
meaning facts accepts = fold-Tree Meaning (meaning_step facts accepts)
