-- Of the hard registers what an instruction is lowered to names a0 to a7 alone, where the instruction does.
use Rattle.std.proofs.Common.{◌≡◌, ℕ, ◌+◌, Bool, true, false, List, [], ◌∷◌, ◌++◌, map, Option, Some, None, refl, subst}
use Rattle.std.specs.Prelude.{if◌then◌else◌, IfSome, Result, Ok, Err, option_and_then}
use Rattle.std.specs.List.{AllByRecursion}
use Rattle.rtx_tree.specs.declared.tree.Rtx.{Rtx}
use Rattle.rtx_tree.specs.declared.function.Insn.{Insn}
use Rattle.md_match.specs.Pattern.{Ops}
use Rattle.md_forms.specs.declared.form.Entry.{Entry}
use Rattle.lower_insn.specs.gen_emit.declared.emission.Emission.{Emission}
use Rattle.law_insn_replaced.specs.md_emit.Emitted.{keeps_to_arguments}
use Rattle.law_insn_replaced.proofs.law_pass_needs.Places.{all_joined}
use Rattle.lower_insn.specs.declared.part.Lowered.{Lowered}
use Rattle.lower_insn.specs.declared.part.Part.{Part}
use Rattle.lower_insn.specs.declared.part.Part.TheVariants.{Lower, Emit, Emitted}
use Rattle.lower_insn.specs.declared.part.Plan.{Plan}
use Rattle.lower_insn.specs.declared.part.Uids.{Uids}
use Rattle.lower_insn.specs.Lowered.{parts_of, Answer, behind, Lowers, InsnAnswer, by_form, InsnLowers}
use Rattle.lower_insn.specs.Plan.{if_kept, emission_of, planned}
use Rattle.law_lowering.proofs.Emitting.{KeepsArguments, in_patterns}
use Rattle.law_lowering.proofs.Keeping.{Keeps, AllKeep, argument_keeps}
use Rattle.law_lowering.proofs.Prepared.{GoodPlan, good_planned}

-- ---- parts of a sequence

abbrev GoodPart : Part → Type 0
GoodPart (Lower made x) = Keeps x
GoodPart (Emit made x form operands) = Unit {0}
GoodPart (Emitted x) = Keeps x

abbrev GoodParts : List Part → Type 0
GoodParts = AllByRecursion GoodPart

lowered_parts : (xs : List Rtx) → AllKeep xs → GoodParts (map (Lower true) xs)
lowered_parts [] keep = tt
lowered_parts (x ∷ xs) keep = (keep.0, lowered_parts xs keep.1)

emitted_parts : (xs : List Rtx) → AllKeep xs → GoodParts (map Emitted xs)
emitted_parts [] keep = tt
emitted_parts (x ∷ xs) keep = (keep.0, emitted_parts xs keep.1)

plan_parts : (made : Bool) (x : Rtx) (plan : Plan) → GoodPlan plan → GoodParts (parts_of made x plan)
plan_parts made x plan good =
    all_joined GoodPart (map (Lower true) plan.before) (Emit made x plan.form plan.operands ∷ map (Lower true) plan.after)
    (lowered_parts plan.before good.0) (tt, lowered_parts plan.after good.1)

good_plan : (forms : List Entry) (made : Bool) (x : Rtx) (next : ℕ) (plan : Plan) → Keeps x → planned forms made x next ≡ Some plan →
    GoodPlan plan
good_plan forms made x next plan keeps is = subst (λ (o : Option Plan). IfSome o GoodPlan) is (good_planned forms made x next keeps)

all_keep : (xs : List Rtx) → AllByRecursion KeepsArguments xs → AllKeep xs
all_keep [] keep = tt
all_keep (x ∷ xs) keep = (argument_keeps x keep.0, all_keep xs keep.1)

-- what a form emits was looked at
abbrev EmissionKeeps : Emission → Type 0
EmissionKeeps e = AllKeep e.sequence

emitted_keeps : (forms : List Entry) (form : ℕ) (operands : Ops) (next : ℕ) (e : Emission) → emission_of forms form operands next ≡ Some e →
    AllKeep e.sequence
emitted_keeps forms form operands next e is = subst (λ (o : Option Emission). IfSome o EmissionKeeps) is (by_emission _)
  where
    looked_at : (f : Emission) (b : Bool) → keeps_to_arguments f.sequence ≡ b → IfSome (if b then Some f else None) EmissionKeeps
    looked_at f true kept = all_keep f.sequence (in_patterns f.sequence kept)
    looked_at f false none = tt

    by_emission : (o : Option Emission) → IfSome (option_and_then if_kept o) EmissionKeeps
    by_emission (Some f) = looked_at f (keeps_to_arguments f.sequence) refl
    by_emission None = tt

-- ---- what parts come to

abbrev GoodAnswer : Answer → Type 0
GoodAnswer (Ok sequence) = AllKeep sequence
GoodAnswer (Err e) = Unit {0}

good_behind : (x : Rtx) (answer : Answer) → Keeps x → GoodAnswer answer → GoodAnswer (behind x answer)
good_behind x (Ok sequence) keeps good = (keeps, good)
good_behind x (Err e) keeps good = tt

good_lowers : (forms : List Entry) (uids : Uids) (parts : List Part) (before next : ℕ) (answer : Answer) →
    Lowers forms uids parts before next answer → GoodParts parts → GoodAnswer answer
good_lowers forms uids _ _ _ _ (Lowers.nothing before next) good = tt
good_lowers forms uids _ _ _ _ (Lowers.stays made x rest before next answer matched more) good =
    good_behind x answer good.0 (good_lowers forms uids rest (before + 1) next answer more good.1)
good_lowers forms uids _ _ _ _ (Lowers.planless made x rest before next unmatched none) good = tt
good_lowers forms uids _ _ _ _ (Lowers.made_by made x rest before next plan answer unmatched is more) good =
    good_lowers forms uids (parts_of made x plan ++ rest) before plan.next answer more
    (all_joined GoodPart (parts_of made x plan) rest (plan_parts made x plan (good_plan forms made x next plan good.0 is)) good.1)
good_lowers forms uids _ _ _ _ (Lowers.fails made x form operands rest before next none) good = tt
good_lowers forms uids _ _ _ _ (Lowers.emits made x form operands rest before next e answer is more) good =
    good_lowers forms uids (map Emitted e.sequence ++ rest) before e.next answer more
    (all_joined GoodPart (map Emitted e.sequence) rest (emitted_parts e.sequence (emitted_keeps forms form operands next e is)) good.1)
good_lowers forms uids _ _ _ _ (Lowers.counts x rest before next answer free more) good =
    good_behind x answer good.0 (good_lowers forms uids rest (before + 1) next answer more good.1)
good_lowers forms uids _ _ _ _ (Lowers.unmatched x rest before next free unmatched) good = tt

-- ---- an instruction

abbrev GoodInsn : InsnAnswer → Type 0
GoodInsn (Ok (Some l)) = AllKeep l.sequence
GoodInsn (Ok None) = Unit {0}
GoodInsn (Err e) = Unit {0}

good_by_form : (form : ℕ) (answer : Answer) → GoodAnswer answer → GoodInsn (by_form form answer)
good_by_form form (Ok sequence) good = good
good_by_form form (Err e) good = tt

good_insn : (forms : List Entry) (i : Insn) (greatest next : ℕ) (answer : InsnAnswer) → Keeps i.pattern →
    InsnLowers forms i greatest next answer → GoodInsn answer
good_insn forms i greatest next _ keeps (InsnLowers.free needed) = tt
good_insn forms i greatest next _ keeps (InsnLowers.matched needed is) = tt
good_insn forms i greatest next _ keeps (InsnLowers.nameless needed unmatched none) = tt
good_insn forms i greatest next _ keeps (InsnLowers.lowered plan answer needed unmatched is lowers) =
    good_by_form plan.form answer
    (good_lowers forms _ (parts_of false i.pattern plan) 0 plan.next answer lowers
    (plan_parts false i.pattern plan (good_plan forms false i.pattern next plan keeps is)))

-- each hard register that stands in its sequence is one of a0 to a7
pub sequence_keeps : (forms : List Entry) (i : Insn) (greatest next : ℕ) (l : Lowered) → Keeps i.pattern →
    InsnLowers forms i greatest next (Ok (Some l)) → AllKeep l.sequence
sequence_keeps forms i greatest next l keeps lowers = good_insn forms i greatest next (Ok (Some l)) keeps lowers
