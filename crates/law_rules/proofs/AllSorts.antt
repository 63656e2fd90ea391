-- What stands at each place of a function that keeps the rules.
use Rattle.std.proofs.Common.{◌≡◌, ℕ, zero, suc, ◌+◌, Bool, true, ◌||◌, ◌==◌, not, cond, List, [], ◌∷◌, Some, refl, sym, ap, ◌∙◌, inl, inr, arith}
use Rattle.std.specs.Prelude.{slice_get}
use Rattle.std.specs.List.{position_from}
use Rattle.std.proofs.lemmas.Bool.{false≢true, cases_Bool, and_parts, and_from, eq-eqb, eqb-true}
use Rattle.rtx_tree.specs.Code.{class_of_code, is_effect_class}
use Rattle.rtx_tree.specs.declared.code.Code.{Code}
use Rattle.rtx_tree.specs.declared.code.Code.TheVariants.{Set, Use, Clobber, Parallel, Call, Return}
use Rattle.rtx_tree.specs.declared.function.Insn.{Insn}
use Rattle.rtx_tree.specs.declared.function.Function.{Function}
use Rattle.rtx_tree.specs.declared.function.Kind.{Kind}
use Rattle.rtx_tree.specs.declared.function.Kind.TheVariants as kind
use Rattle.rtx_tree.specs.declared.tree.Rtx.{Rtx}
use Rattle.rtx_tree.specs.Patterns.{is_label, is_label_kind, place_of}
use Rattle.rtx_tree.specs.Tree.{head_of, kids_of}
use Rattle.rtl_func.specs.declared.rules.InsnRule.TheVariants.{LabelsStand, KindsAgree, ModesAgree}
use Rattle.rtl_func.specs.Kinds.{is_jump_by, is_plain_tree, kinds_agree}
use Rattle.rtl_func.specs.Modes.{shapes_agree, call_modes_agree}
use Rattle.rtl_func.specs.Shapes.{is_effect, is_call_class, is_shaped}
use Rattle.rtl_func.specs.Uids.{is_ruled_kind}
use Rattle.rtl_func.proofs.AllPass.{all_pass, itself}
use Rattle.law_rules.specs.Admitted.{StandsAt, AreLabels, IsWellFormed}
use Rattle.law_rules.specs.Sorts.{IsSort, label, barrier, sets, uses, clobbers, at_once, returns, jumps, calls}
use Rattle.law_rules.proofs.Jumps.{jump_leads}

module _ (f : Function) (is : IsWellFormed f) (place : ℕ) (i : Insn) (at : StandsAt f.insns place i) where
  -- a plain instruction, by the code of its pattern
  plain_by : (c : Code) (parts : List Rtx) → i.kind ≡ kind.Plain → (head_of i.pattern).code ≡ c → is_effect_class (class_of_code c) ≡ true →
      not (is_jump_by (class_of_code c) parts || is_call_class (class_of_code c)) ≡ true → IsSort f.insns i
  plain_by Set parts same code effect plain = sets same code
  plain_by Use parts same code effect plain = uses same code
  plain_by Clobber parts same code effect plain = clobbers same code
  plain_by Parallel parts same code effect plain = at_once same code
  plain_by Call parts same code effect plain = absurd (false≢true plain)
  plain_by Return parts same code effect plain = absurd (false≢true plain)
  plain_by _ parts same code effect plain = absurd (false≢true effect)

  by_kind : (k : Kind) → i.kind ≡ k → IsSort f.insns i
  by_kind kind.Plain same =
      let shapes = (and_parts (shapes_agree i.pattern) (call_modes_agree i.pattern) (is.keep ModesAgree place i at (ap is_ruled_kind same))).0 in
      let plain = itself is_plain_tree i.pattern (sym (ap (λ k. kinds_agree k i.pattern) same) ∙ is.keep KindsAgree place i at (ap is_ruled_kind same)) in
      plain_by (head_of i.pattern).code (kids_of i.pattern) same refl (and_parts (is_effect i.pattern) (all_pass is_shaped i.pattern) shapes).0 plain
  by_kind kind.Jump same =
      let shapes = (and_parts (shapes_agree i.pattern) (call_modes_agree i.pattern) (is.keep ModesAgree place i at (ap is_ruled_kind same))).0 in
      elim (jump_leads f.insns i.pattern (sym (ap (λ k. kinds_agree k i.pattern) same) ∙ is.keep KindsAgree place i at (ap is_ruled_kind same))
      (and_parts (is_effect i.pattern) (all_pass is_shaped i.pattern) shapes).1 (is.keep LabelsStand place i at (ap is_ruled_kind same))) [
        | inl back ↦ returns same back
        | inr leads ↦ jumps same leads
      ]
  by_kind kind.Call same = calls same (sym (ap (λ k. kinds_agree k i.pattern) same) ∙ is.keep KindsAgree place i at (ap is_ruled_kind same))
  by_kind kind.Label same =
      label same (sym (ap (λ k. kinds_agree k i.pattern) same) ∙ is.keep KindsAgree place i at (ap is_ruled_kind same))
  by_kind kind.Barrier same = barrier same (is.barriers place i at same)

  -- what stands at a place is of one of the sorts
  pub sort_of : IsSort f.insns i
  sort_of = by_kind i.kind refl

-- ---- labels are found where they stand

-- the first that passes is found at its place, where no other passes
position_here : {A : Type 0} (test : A → Bool) (xs : List A) (start place : ℕ) (x : A) → slice_get xs place ≡ Some x → test x ≡ true →
    ((other : ℕ) (y : A) → slice_get xs other ≡ Some y → test y ≡ true → other ≡ place) → position_from test start xs ≡ Some (start + place)
position_here test [] start place x at passes alone = absurd (let nothing : ⊥ = cc in nothing)
position_here test (y ∷ xs) start zero x at passes alone =
    let same : y ≡ x = cc in
    let here : start ≡ start + 0 = omega arith in
    ap (λ b. cond b (Some start) (position_from test (start + 1) xs)) (ap test same ∙ passes) ∙ ap Some here
position_here test (y ∷ xs) start (suc place) x at passes alone = elim (cases_Bool (test y)) [
  | inl first ↦ absurd (let none : 0 ≡ suc place = alone 0 y refl first in let nothing : ⊥ = omega (arith, none) in nothing)
  | inr fails ↦
      let next : start + 1 + place ≡ start + suc place = omega arith in
      ap (λ b. cond b (Some start) (position_from test (start + 1) xs)) fails
      ∙ position_here test xs (start + 1) place x at passes (λ other z at' passes'.
      let more : suc other ≡ suc place = alone (suc other) z at' passes' in
      omega (arith, more))
      ∙ ap Some next
]

-- a label is the one that its uid names
pub label_found : (insns : List Insn) → AreLabels insns → (place : ℕ) (i : Insn) → StandsAt insns place i → i.kind ≡ kind.Label →
    place_of i.uid insns ≡ Some place
label_found insns labels place i at is_one =
    position_here (is_label i.uid) insns 0 place i at (and_from (is_label_kind i.kind) (i.uid == i.uid) (ap is_label_kind is_one) (eq-eqb i.uid i.uid refl))
    (λ other j at' passes.
    let both = and_parts (is_label_kind j.kind) (j.uid == i.uid) passes in
    labels.differ other place j i at' at (kind_of j.kind both.0) is_one (eqb-true j.uid i.uid both.1))
    ∙ ap Some (let same : 0 + place ≡ place = omega arith in same)
  where
    kind_of : (k : Kind) → is_label_kind k ≡ true → k ≡ kind.Label
    kind_of kind.Label is = refl
    kind_of _ is = absurd (false≢true is)
