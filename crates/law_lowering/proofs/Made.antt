-- No register in a sequence that takes the place of an instruction has a number that is none.
use Rattle.std.proofs.Common.{◌≡◌, ℕ, ◌+◌, Bool, true, false, List, [], ◌∷◌, None, refl}
use Rattle.std.specs.Prelude.{Ok}
use Rattle.std.specs.List.{list_all, AllByRecursion}
use Rattle.std.proofs.lemmas.Bool.{true≢false, and_right}
use Rattle.rtx_tree.specs.declared.function.Function.{Function}
use Rattle.rtx_tree.specs.declared.function.Insn.{Insn}
use Rattle.rtx_tree.specs.declared.function.Kind.{Kind}
use Rattle.rtx_tree.specs.declared.function.Kind.TheVariants as kind
use Rattle.rtx_tree.specs.declared.tree.Rtx.{Rtx}
use Rattle.rtl_chain.specs.Counts.{greatest_uid}
use Rattle.rtl_step.specs.Step.{is_mark}
use Rattle.new_insns.specs.Made.{kind_of, insn_for, insns_for}
use Rattle.law_insn_replaced.specs.equate.Equated.{Equated}
use Rattle.law_insn_replaced.specs.equate.Side.{Insns, is_one_return}
use Rattle.law_insn_replaced.proofs.equate.VerdictLaws.{verdict_same}
use Rattle.sym_insns.specs.Run.{run_from}
use Rattle.sym_insns.specs.Shape.{all_natural, is_end, is_shaped, fits_kind, bad_from, bad_insn}
use Rattle.sym_state.specs.State.{start}
use Rattle.law_insn_replaced.proofs.law_insn_terms.Bools.{both_of}
use Rattle.law_insn_replaced.proofs.law_insn_terms.Kept.{natural_insn}
use Rattle.law_insn_replaced.proofs.law_insn_terms.Ways.{fits_all, does_run}
use Rattle.law_insn_replaced.specs.insn_replace.Replace.{made, ReplacedComes}
use Rattle.law_insn_replaced.proofs.Marks.{made_kind}
use Rattle.law_lowering.proofs.Keeping.{all_passes}

-- ---- the numbers of their registers

fits_shaped : (k : Kind) (i : Insn) (last : Bool) → is_mark k ≡ false → fits_kind k i last ≡ true → is_shaped i ≡ true
fits_shaped kind.Plain i last none fits = fits
fits_shaped kind.Jump i last none fits = (both_of (is_shaped i) _ fits).0
fits_shaped kind.Call i last none fits = (both_of (is_shaped i) last fits).0
fits_shaped kind.Label i last none fits = absurd (true≢false none)
fits_shaped kind.Barrier i last none fits = absurd (true≢false none)

abbrev pub IsNatural : Rtx → Type 0
IsNatural x = all_natural x ≡ true

natural_made : (old : Insn) (uid : ℕ) (x : Rtx) (last : Bool) → fits_kind (kind_of x) (insn_for old uid x) last ≡ true → IsNatural x
natural_made old uid x last fits = natural_insn (insn_for old uid x) (fits_shaped (kind_of x) (insn_for old uid x) last (made_kind x) fits)

-- no register in a sequence that can be compared has a number that is none
natural_sequence : (old : Insn) (uid : ℕ) (xs : List Rtx) (index : ℕ) → bad_from index (insns_for old uid xs) ≡ None → AllByRecursion IsNatural xs
natural_sequence old uid [] index fits = tt
natural_sequence old uid (x ∷ []) index fits =
    (natural_made old old.uid x true (fits_all index (insn_for old old.uid x) [] fits).here, tt)
natural_sequence old uid (x ∷ y ∷ more) index fits =
    let both = fits_all index (insn_for old uid x) (insns_for old (uid + 1) (y ∷ more)) fits in
    (natural_made old uid x (is_end (insns_for old (uid + 1) (y ∷ more))) both.here, natural_sequence old (uid + 1) (y ∷ more) (index + 1) both.rest)

-- ---- what stands in the place of an instruction

module _ (f : Function) (place : ℕ) (i : Insn) (sequence : List Rtx) where
  -- what is equated can be compared
  equated_natural : (live : List ℕ) → Equated (i ∷ []) (Insns (made f i sequence)) live → AllByRecursion IsNatural sequence
  equated_natural live equated =
      let new = made f i sequence in
      let alike = verdict_same (i ∷ []) (Insns new) live equated (and_right (is_one_return (i ∷ [])) false refl) in
      natural_sequence i (greatest_uid f.insns + 1) sequence 0 (does_run (bad_insn new) (run_from 0 new start) alike.second alike.runs_second).fits

  -- the numbers of the registers of a sequence that takes the place of an instruction are natural ones
  pub replaced_natural : (rule : List ℕ) (g : Function) → ReplacedComes f place i rule sequence (Ok g) → list_all all_natural sequence ≡ true
  replaced_natural rule _ (ReplacedComes.replaced live are equated short) = all_passes all_natural sequence (equated_natural live equated)
