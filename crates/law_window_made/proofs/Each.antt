-- What is known of each instruction that a sequence makes in a window's place.
use Rattle.std.proofs.Common.{◌≡◌, ℕ, ◌+◌, Bool, true, false, if◌then◌else◌, List, [], ◌∷◌, ◌++◌, take, drop, refl, sym, ap, ◌∙◌}
use Rattle.std.specs.List.{AllByRecursion}
use Rattle.std.proofs.lemmas.Bool.{false≢true}
use Rattle.rtx_tree.specs.declared.tree.Rtx.{Rtx}
use Rattle.rtx_tree.specs.declared.function.Insn.{Insn}
use Rattle.rtx_tree.specs.declared.function.Function.{Function}
use Rattle.rtx_tree.specs.declared.function.Kind.TheVariants.{Plain, Jump, Call}
use Rattle.rtl_func.specs.Kinds.{is_jump_tree, is_call_tree}
use Rattle.rtl_chain.specs.Counts.{greatest_uid}
use Rattle.law_pass_needs.specs.form_needs.Needs.{is_kind}
use Rattle.law_pass_needs.proofs.Places.{all_joined, all_taken, all_dropped, all_weaker}
use Rattle.new_insns.specs.Made.{kind_of, insn_for, insns_for}
use Rattle.new_insns.specs.Replaced.{window}
use Rattle.equate.specs.Side.{Insns}
use Rattle.equate.specs.Told.{Alike}
use Rattle.equate.proofs.VerdictLaws.{verdict_same}
use Rattle.equate.proofs.Soundness.{no_return}
use Rattle.law_insn_replaced.specs.insn_replace.Replace.{made}
use Rattle.law_insn_replaced.proofs.Shapes.{IsNoBarrier, IsShaped, runs_shaped}
use Rattle.law_window_made.specs.Made.{IsInstruction, AreInstructions, with_sequence, IsMadePut, IsMadeFor}

-- ---- kinds

kind_by : (jump call : Bool) → is_kind (if jump then Jump else (if call then Call else Plain)) ≡ true
kind_by true call = refl
kind_by false true = refl
kind_by false false = refl

pattern_kind : (x : Rtx) → is_kind (kind_of x) ≡ true
pattern_kind x = kind_by (is_jump_tree x) (is_call_tree x)

-- what patterns make is no label and no barrier
pub made_kinds : (last : Insn) (uid : ℕ) (sequence : List Rtx) → AreInstructions (insns_for last uid sequence)
made_kinds last uid [] = tt
made_kinds last uid (x ∷ []) = (pattern_kind x, tt)
made_kinds last uid (x ∷ y ∷ more) = (pattern_kind x, made_kinds last (uid + 1) (y ∷ more))

no_barrier : (i : Insn) → IsInstruction i → IsNoBarrier i
no_barrier i is barrier = false≢true (sym (ap is_kind barrier) ∙ is)

-- ---- each of them

made_one : (last : Insn) (uid : ℕ) (x : Rtx) → IsShaped (insn_for last uid x) → IsMadeFor last (insn_for last uid x)
made_one last uid x shaped = record { uid = uid; pattern = x; is = refl; instruction = pattern_kind x; shaped = shaped }

made_from : (last : Insn) (uid : ℕ) (sequence : List Rtx) → AllByRecursion IsShaped (insns_for last uid sequence) → AllByRecursion (IsMadeFor last) (insns_for last uid sequence)
made_from last uid [] all = tt
made_from last uid (x ∷ []) all = (made_one last last.uid x all.0, tt)
made_from last uid (x ∷ y ∷ more) all = (made_one last uid x all.0, made_from last (uid + 1) (y ∷ more) all.1)

module _ (f : Function) (first end : ℕ) (last : Insn) (sequence : List Rtx) (is : IsMadePut f first end last sequence) where
  abbrev new : List Insn
  new = made f last sequence

  alike : Alike (window f first end) (Insns new) is.put.live
  alike = verdict_same (window f first end) (Insns new) is.put.live is.put.equated (no_return (window f first end) new)

  shaped : AllByRecursion IsShaped new
  shaped = runs_shaped new alike.second (all_weaker IsInstruction IsNoBarrier no_barrier new (made_kinds last (greatest_uid f.insns + 1) sequence)) alike.runs_second

  -- each is made for a pattern
  pub made_each : AllByRecursion (IsMadeFor last) (made f last sequence)
  made_each = made_from last (greatest_uid f.insns + 1) sequence shaped

  -- what holds of each instruction, and of each that is made, holds of each behind
  pub made_all : (P : Insn → Type 0) → ((i : Insn) → IsMadeFor last i → P i) → AllByRecursion P f.insns → AllByRecursion P (with_sequence f first end last sequence).insns
  made_all P step all =
      all_joined P (take first f.insns) (new ++ drop end f.insns) (all_taken P first f.insns all)
      (all_joined P new (drop end f.insns) (all_weaker (IsMadeFor last) P step new made_each) (all_dropped P end f.insns all))
