-- Instructions that are made in the place of others are ready: none of them is a label or a barrier.
use Rattle.std.proofs.Common.{◌≡◌, ℕ, ◌+◌, Bool, true, false, List, [], ◌∷◌, refl, sym, ◌∙◌}
use Rattle.std.specs.Prelude.{if◌then◌else◌}
use Rattle.std.specs.List.{AllByRecursion}
use Rattle.std.proofs.lemmas.Bool.{true≢false}
use Rattle.rtx_tree.specs.declared.function.Insn.{Insn}
use Rattle.rtx_tree.specs.declared.function.Kind.{Kind}
use Rattle.rtx_tree.specs.declared.function.Kind.TheVariants as kind
use Rattle.rtx_tree.specs.declared.tree.Rtx.{Rtx}
use Rattle.rtl_func.specs.Kinds.{is_jump_tree, is_call_tree}
use Rattle.rtl_step.specs.Step.{is_mark}
use Rattle.new_insns.specs.Made.{insn_for, insns_for}
use Rattle.law_pass_needs.specs.Ready.{IsInsnReady}

-- ---- one instruction

abbrev kind_by : Bool → Bool → Kind
kind_by jumps calls = if jumps then kind.Jump else (if calls then kind.Call else kind.Plain)

no_mark : (jumps calls : Bool) → is_mark (kind_by jumps calls) ≡ false
no_mark true calls = refl
no_mark false true = refl
no_mark false false = refl

no_label : (jumps calls : Bool) → kind_by jumps calls ≡ kind.Label → ⊥
no_label true calls is = absurd (let none : ⊥ = cc in none)
no_label false true is = absurd (let none : ⊥ = cc in none)
no_label false false is = absurd (let none : ⊥ = cc in none)

made_ready : (old : Insn) (uid : ℕ) (x : Rtx) → IsInsnReady (insn_for old uid x)
made_ready old uid x = record {
  marks = λ mark reg. absurd (true≢false (sym mark ∙ no_mark (is_jump_tree x) (is_call_tree x)));
  label = λ is. absurd (no_label (is_jump_tree x) (is_call_tree x) is);
}

-- ---- a sequence

pub all_made_ready : (old : Insn) (uid : ℕ) (sequence : List Rtx) → AllByRecursion IsInsnReady (insns_for old uid sequence)
all_made_ready old uid [] = tt
all_made_ready old uid (x ∷ []) = (made_ready old old.uid x, tt)
all_made_ready old uid (x ∷ y ∷ more) = (made_ready old uid x, all_made_ready old (uid + 1) (y ∷ more))
