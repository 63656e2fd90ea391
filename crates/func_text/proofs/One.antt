-- What functions come to is one outcome.
use Rattle.std.proofs.Common.{◌≡◌, ℕ, List, Ok, Err, refl, ap, subst}
use Rattle.rtx_tree.specs.declared.function.Insn.{Insn}
use Rattle.rtx_tree.specs.declared.function.Function.{Function}
use Rattle.run_refusal.specs.declared.refusal.Refusal.{Refusal}
use Rattle.pass_name.specs.declared.road.Road.TheVariants.{Usual}
use Rattle.md_forms.specs.declared.form.Entry.{Entry}
use Rattle.md_forms.specs.Forms.{names_of}
use Rattle.md_desc.specs.declared.output.Chosen.{Chosen}
use Rattle.md_desc.specs.Recog.{IsChosen}
use Rattle.form_needs.specs.Needs.{needs_form, output_facts}
use Rattle.form_needs.proofs.OneChosen.{both, chosen_one, chosen_not}
use Rattle.func_input.specs.Outcome.{Outcome}
use Rattle.func_after.specs.Each.{EachComes}
use Rattle.func_after.specs.After.{Answer, AfterComes}
use Rattle.func_after.specs.declared.compilation.Compilation.{Compilation}
use Rattle.func_after.proofs.Each.{one_each}
use Rattle.func_after.proofs.OneAfter.{one_after}
use Rattle.func_text.specs.Recog.{line_of, OutputComes, FunctionComes, FunctionsCome}

-- ---- instructions

module _ (es : List Entry) (function : List ℕ) (i : Insn) where
  same_line : (c d : Chosen) → IsChosen es output_facts i.pattern c → IsChosen es output_facts i.pattern d →
      line_of (names_of es) function i.uid c.form c.alternative ≡ line_of (names_of es) function i.uid d.form d.alternative
  same_line c d m n = ap (λ (k : Chosen). line_of (names_of es) function i.uid k.form k.alternative) (chosen_one es output_facts i.pattern c d m n)

  pub output_one : (a b : Outcome) → OutputComes es function i a → OutputComes es function i b → a ≡ b
  output_one _ _ (OutputComes.free e) (OutputComes.free f) = refl
  output_one _ _ (OutputComes.free e) (OutputComes.chosen c f m) = absurd (both (needs_form i) f e)
  output_one _ _ (OutputComes.free e) (OutputComes.unmatched f none) = absurd (both (needs_form i) f e)
  output_one _ _ (OutputComes.chosen c e m) (OutputComes.free f) = absurd (both (needs_form i) e f)
  output_one _ _ (OutputComes.chosen c e m) (OutputComes.chosen d f n) = ap (λ (t : List ℕ). Ok t) (same_line c d m n)
  output_one _ _ (OutputComes.chosen c e m) (OutputComes.unmatched f none) = absurd (chosen_not es output_facts i.pattern c m none)
  output_one _ _ (OutputComes.unmatched e none) (OutputComes.free f) = absurd (both (needs_form i) e f)
  output_one _ _ (OutputComes.unmatched e none) (OutputComes.chosen c f m) = absurd (chosen_not es output_facts i.pattern c m none)
  output_one _ _ (OutputComes.unmatched e none) (OutputComes.unmatched f other) = refl

-- ---- functions

module _ (es : List Entry) where
  not_both : {P : Type 0} (f : Function) (e : Refusal) (m : Compilation) → AfterComes es Usual f (Err e) → AfterComes es Usual f (Ok m) → P
  not_both f e m wrong after =
      absurd (let same : ◌≡◌ {A = Answer} (Err e) (Ok m) = one_after es Usual f (Err e) (Ok m) wrong after in let never : ⊥ = cc in never)

  same_err : (e d : Refusal) → ◌≡◌ {A = Answer} (Err e) (Err d) → ◌≡◌ {A = Outcome} (Err e) (Err d)
  same_err e d is = ap (λ (x : Refusal). Err x) (let same : e ≡ d = cc in same)

  same_chain : (m n : Compilation) → ◌≡◌ {A = Answer} (Ok m) (Ok n) → m.function.insns ≡ n.function.insns
  same_chain m n is = ap (λ (k : Compilation). k.function.insns) (let same : m ≡ n = cc in same)

  function_one : (f : Function) (a b : Outcome) → FunctionComes es f a → FunctionComes es f b → a ≡ b
  function_one f _ _ (FunctionComes.refused e after) (FunctionComes.refused d after') = same_err e d (one_after es Usual f (Err e) (Err d) after after')
  function_one f _ _ (FunctionComes.refused e after) (FunctionComes.printed m b after' out') = not_both f e m after after'
  function_one f _ _ (FunctionComes.printed m a after out) (FunctionComes.refused d after') = not_both f d m after' after
  function_one f _ _ (FunctionComes.printed m a after out) (FunctionComes.printed n b after' out') =
      one_each (OutputComes es f.name) (output_one es f.name) n.function.insns a b
      (subst (λ x. EachComes (OutputComes es f.name) x a) (same_chain m n (one_after es Usual f (Ok m) (Ok n) after after')) out) out'

  pub functions_one : (fs : List Function) (a b : Outcome) → FunctionsCome es fs a → FunctionsCome es fs b → a ≡ b
  functions_one fs a b m n = one_each (FunctionComes es) function_one fs a b m n
