-- What is written at the places of a function is what stands there.
use Rattle.std.proofs.Common.{◌≡◌, ℕ, suc, ◌+◌, ◌^◌, inl, inr, ◌&&◌, nat_lt, Bool, true, false, List, [], ◌∷◌, map, Some, refl, sym, ◌∙◌, ap, subst, arith, tests}
use Rattle.std.specs.Prelude.{slice_get}
use Rattle.rtx_tree.specs.declared.function.Insn.{Insn}
use Rattle.rtx_tree.specs.declared.function.Function.{Function}
use Rattle.rtx_tree.specs.declared.function.Kind.{Kind}
use Rattle.rtx_tree.specs.declared.function.Kind.TheVariants as kind
use Rattle.rv_text.specs.declared.line.Line.{Line}
use Rattle.rv_text.specs.declared.line.CodeItem.{CodeItem}
use Rattle.rv_text.specs.declared.line.CodeItem.TheVariants as item
use Rattle.asm_out.specs.md_desc.declared.output.Chosen.{Chosen}
use Rattle.md_forms.specs.declared.form.Entry.{Entry}
use Rattle.live.specs.Live.{AreLiveAfter}
use Rattle.asm_out.specs.form_needs.Needs.{is_label}
use Rattle.asm_out.specs.sym_diff.Registers.{is_live}
use Rattle.asm_out.specs.equate.Side.{Lines, both_return}
use Rattle.asm_out.proofs.equate.VerdictLaws.{verdict_same}
use Rattle.asm_out.proofs.equate.Soundness.{few_do}
use Rattle.asm_out.specs.Written as written
use Rattle.asm_out.specs.Written.{AreInsnLines, AreWritten}
use Rattle.law_window_lines.specs.Items.{IsLiveBehind, AreItemsAt, AreItemsFrom}
use Rattle.law_window_lines.specs.Items as items
use Rattle.law_pass_needs.specs.law_rules.ForLines.{IsQuiet}
use Rattle.law_pass_needs.proofs.Places.{at_place}
use Rattle.law_output.specs.Ready.{IsInsnWritable, AreWritable}
use Rattle.law_output.proofs.Shapes.{runs_last, both_returning}

-- ---- an instruction with lines

-- the hard registers that are live behind a place are among those that are compared
compared : (f : Function) (place : ℕ) (live : List ℕ) → AreLiveAfter f place live → (reg : ℕ) → IsLiveBehind f place reg → is_live live reg ≡ true
compared f place live are reg behind = (are.each reg).1 behind.0

module _ (forms : List Entry) (number : ℕ) (f : Function) (ready : AreWritable f) where
  one_is : (place : ℕ) (i : Insn) → slice_get f.insns place ≡ Some i → IsInsnWritable i
  one_is place i stands = at_place IsInsnWritable f.insns ready place i stands

  lines_by : (place : ℕ) (i : Insn) (lines : List Line) (c : Chosen) → slice_get f.insns place ≡ Some i → AreInsnLines forms number f place i c lines → (b : Bool) → both_return (i ∷ []) (Lines number lines) ≡ b →
      AreItemsAt number f place i (map item.Code lines)
  lines_by place i lines c stands are true returns =
      let back = both_returning number i lines returns in
      subst (λ l. AreItemsAt number f place i (map item.Code l)) (sym back.lines_are) (items.returning back.line back.is_jump back.is_return back.returns)
  lines_by place i lines c stands are false goes_on =
      let hard = (one_is place i stands).formed are.tried.needs in
      let alike = verdict_same (i ∷ []) (Lines number lines) are.live are.equated goes_on in
      items.window lines (record {
        is_none = hard.is_none;
        last = runs_last number lines alike.second alike.runs_second;
        hard = hard.hard;
        same = few_do (i ∷ []) number lines are.live are.equated goes_on (IsLiveBehind f place) (compared f place are.live are.tried.live_after);
      })

  -- ---- the others

  label_kind : (k : Kind) → is_label k ≡ true → k ≡ kind.Label
  label_kind kind.Label is = refl
  label_kind kind.Plain is = absurd (let no : ⊥ = cc in no)
  label_kind kind.Jump is = absurd (let no : ⊥ = cc in no)
  label_kind kind.Call is = absurd (let no : ⊥ = cc in no)
  label_kind kind.Barrier is = absurd (let no : ⊥ = cc in no)

  quiet_by : (place : ℕ) (i : Insn) → IsQuiet i → AreItemsAt number f place i []
  quiet_by place i (inl barrier) = items.barrier barrier
  quiet_by place i (inr plain) = items.quiet plain.0 plain.1

  -- what stands at the places from one on
  abbrev Stand : ℕ → List Insn → Type 0
  Stand place insns = (k : ℕ) (i : Insn) → slice_get insns k ≡ Some i → slice_get f.insns (place + k) ≡ Some i

  here : (place : ℕ) (i : Insn) (insns : List Insn) → Stand place (i ∷ insns) → slice_get f.insns place ≡ Some i
  here place i insns stand = let e : place + 0 ≡ place = omega arith in subst (λ n. slice_get f.insns n ≡ Some i) e (stand 0 i refl)

  later : (place : ℕ) (i : Insn) (insns : List Insn) → Stand place (i ∷ insns) → Stand (place + 1) insns
  later place i insns stand k j at = let e : place + suc k ≡ place + 1 + k = omega arith in subst (λ n. slice_get f.insns n ≡ Some j) e (stand (suc k) j at)

  pub items_from : (place : ℕ) (insns : List Insn) (text : List ℕ) (its : List CodeItem) → AreWritten forms number f place insns text its → Stand place insns → AreItemsFrom number f place insns its
  items_from _ _ _ _ (written.none place) stand = items.end place
  items_from _ _ _ _ (written.label place i insns text its is small rest) stand =
      items.next place i insns (item.Label number i.uid ∷ []) its (items.label (label_kind i.kind is) small) (items_from (place + 1) insns text its rest (later place i insns stand))
  items_from _ _ _ _ (written.silent place i insns text its is rest) stand =
      items.next place i insns [] its (quiet_by place i ((one_is place i (here place i insns stand)).silent is)) (items_from (place + 1) insns text its rest (later place i insns stand))
  items_from _ _ _ _ (written.lines place i insns c lines text its are rest) stand =
      items.next place i insns (map item.Code lines) its (lines_by place i lines c (here place i insns stand) are (both_return (i ∷ []) (Lines number lines)) refl)
      (items_from (place + 1) insns text its rest (later place i insns stand))
