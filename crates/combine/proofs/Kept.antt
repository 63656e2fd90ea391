-- A function is kept as passes keep functions where pairs of it are combined.
use Rattle.std.proofs.Common.{◌≡◌, ℕ, zero, suc, ◌+◌, ◌-◌, Bool, true, false, List, [], ◌∷◌, ◌++◌, take, drop, map, Some, refl, sym, ap, subst, ◌∙◌, arith}
use Rattle.std.specs.Prelude.{slice_get, ◌==◌, if◌then◌else◌}
use Rattle.std.specs.List.{AllByRecursion, IsDistinct, list_all}
use Rattle.std.proofs.lemmas.Bool.{and_parts, and_from}
use Rattle.std.proofs.lemmas.List.Elements.{filter-append}
use Rattle.rtx_tree.specs.declared.code.Code.{Code}
use Rattle.rtx_tree.specs.declared.tree.Rtx.{Rtx}
use Rattle.rtx_tree.specs.declared.function.Insn.{Insn}
use Rattle.rtx_tree.specs.declared.function.ArgUse.{ArgUse}
use Rattle.rtx_tree.specs.declared.function.Function.{Function}
use Rattle.rtx_tree.specs.declared.function.Kind.{Kind}
use Rattle.rtx_tree.specs.declared.function.Kind.TheVariants.{Plain}
use Rattle.rtx_tree.specs.Patterns.{with_pattern}
use Rattle.rtx_tree.specs.Tree.{head_of, kids_of}
use Rattle.rtl_step.specs.Step as step
use Rattle.rtl_func.specs.Calls.{has_argument, use_is_argument, argument_registers}
use Rattle.rtl_func.specs.Uids.{is_ruled, uids_of}
use Rattle.rtl_func.proofs.AllPass.{all_pass, within}
use Rattle.new_insns.specs.Replaced.{window}
use Rattle.insn_fuse.specs.Fused.{set_by, set_of}
use Rattle.insn_fuse.proofs.Kept.{fused_arguments}
use Rattle.md_forms.specs.declared.form.Entry.{Entry}
use Rattle.law_pass_needs.specs.Left.{is_mark, marks, SameMarks}
use Rattle.law_pass_needs.specs.Reloadable.{IsInsnReloadable, UidsDiffer}
use Rattle.law_pass_needs.proofs.Places.{all_joined, all_taken, all_dropped, at_place, all_weaker}
use Rattle.law_insn_replaced.specs.Sound.{IsSound, PassKeeps}
use Rattle.law_insn_replaced.proofs.Keeping.{kept_refl, kept_trans}
use Rattle.law_insn_replaced.proofs.Marks.{no_mark, same_refl, same_trans}
use Rattle.law_insn_replaced.proofs.Uids.{remove, uids_append}
use Rattle.law_window_put.specs.Put.{KeepToArguments}
use Rattle.law_window_put.proofs.Kept.{same_marks, window_kept}
use Rattle.combine.specs.Combine.{fused_window, combined_at, Combines, IsStep, Steps}
use Rattle.combine.proofs.One.{some_one}
use Rattle.combine.proofs.Windows.{between, old_parts, new_parts, combined_parts, whole_parts}

-- ---- kinds

set_plain : (k : Kind) (c : Code) (parts : List Rtx) (register : ℕ) → set_by k c parts ≡ Some register → k ≡ Plain
set_plain Plain c parts register is = refl
set_plain _ c parts register is = cc

-- a plain set is no label and no barrier
set_no_mark : (i : Insn) (register : ℕ) → set_of i ≡ Some register → step.is_mark i.kind ≡ false
set_no_mark i register is = ap step.is_mark (set_plain i.kind (head_of i.pattern).code (kids_of i.pattern) register is)

marks_none : (i : Insn) → step.is_mark i.kind ≡ false → marks (i ∷ []) ≡ []
marks_none i none = grind (arith, none)

-- ---- registers

kid_passes : (kids : List Rtx) (k : ℕ) (kid : Rtx) → list_all (all_pass has_argument) kids ≡ true → slice_get kids k ≡ Some kid → all_pass has_argument kid ≡ true
kid_passes [] k kid all at = cc
kid_passes (x ∷ kids) zero kid all at =
    let same : x ≡ kid = cc in subst (λ y. all_pass has_argument y ≡ true) same (and_parts (all_pass has_argument x) (list_all (all_pass has_argument) kids) all).0
kid_passes (x ∷ kids) (suc k) kid all at = kid_passes kids k kid (and_parts (all_pass has_argument x) (list_all (all_pass has_argument) kids) all).1 at

kid_arguments : (x : Rtx) (uses : List ArgUse) (k : ℕ) (kid : Rtx) → argument_registers x uses ≡ true → slice_get (kids_of x) k ≡ Some kid → argument_registers kid [] ≡ true
kid_arguments x uses k kid all at =
    let whole = (and_parts (all_pass has_argument x) (list_all use_is_argument uses) all).0 in
    and_from (all_pass has_argument kid) true (kid_passes (kids_of x) k kid (within has_argument x whole) at) refl

-- ---- uids

removed_all : (gone front back : List ℕ) → IsDistinct ◌==◌ (front ++ (gone ++ back)) → IsDistinct ◌==◌ (front ++ back)
removed_all [] front back differ = differ
removed_all (x ∷ gone) front back differ = removed_all gone front back (remove x front (gone ++ back) differ)

uids_same : (b : Bool) (i j : Insn) → i.uid ≡ j.uid → map (λ (n : Insn). n.uid) (if b then i ∷ [] else []) ≡ map (λ (n : Insn). n.uid) (if b then j ∷ [] else [])
uids_same true i j same = ap (λ u. u ∷ []) same
uids_same false i j same = refl

with_uid : (i : Insn) (x : Rtx) → uids_of (with_pattern i x ∷ []) ≡ uids_of (i ∷ [])
with_uid i x = uids_same (is_ruled i) (with_pattern i x) i refl

module _ (front middle behind : List Insn) (one other new : Insn) (same : uids_of (new ∷ []) ≡ uids_of (other ∷ [])) where
  uids_left : uids_of (middle ++ (new ∷ behind)) ≡ uids_of (middle ++ (other ∷ behind))
  uids_left =
      uids_append middle (new ∷ behind)
      ∙ (ap (λ us. uids_of middle ++ us) (uids_append (new ∷ []) behind ∙ (ap (λ us. us ++ uids_of behind) same ∙ sym (uids_append (other ∷ []) behind)))
      ∙ sym (uids_append middle (other ∷ behind)))

  fewer_differ : IsDistinct ◌==◌ (uids_of (front ++ (one ∷ (middle ++ (other ∷ behind))))) → IsDistinct ◌==◌ (uids_of (front ++ (middle ++ (new ∷ behind))))
  fewer_differ differ =
      let rest = middle ++ (other ∷ behind) in
      let parts = uids_append front (one ∷ rest) ∙ ap (λ us. uids_of front ++ us) (uids_append (one ∷ []) rest) in
      let less = removed_all (uids_of (one ∷ [])) (uids_of front) (uids_of rest) (subst (IsDistinct ◌==◌) parts differ) in
      subst (IsDistinct ◌==◌) (sym (uids_append front (middle ++ (new ∷ behind)) ∙ ap (λ us. uids_of front ++ us) uids_left)) less

-- ---- a pair

module _ (forms : List Entry) (f : Function) (first second : ℕ) (x : Rtx) (c : Combines forms f first second x) where
  abbrev old : List Insn
  old = window f first (second + 1)

  abbrev new : List Insn
  new = fused_window x old

  abbrev inside : List Insn
  inside = between f.insns first second

  abbrev last : Insn
  last = with_pattern c.links.other x

  parts_old : old ≡ c.links.one ∷ (inside ++ c.links.other ∷ [])
  parts_old = old_parts f first second x c.links.one c.links.other c.before c.links.at_first c.links.at_second

  parts_new : new ≡ inside ++ last ∷ []
  parts_new = new_parts f first second x c.links.one c.links.other c.before c.links.at_first c.links.at_second

  marks_stay : marks new ≡ marks old
  marks_stay =
      let other = no_mark c.links.other.kind c.links.kind_is in
      ap marks parts_new
      ∙ (filter-append is_mark inside (last ∷ [])
      ∙ (ap (λ ms. marks inside ++ ms) (marks_none last other ∙ sym (marks_none c.links.other other))
      ∙ (sym (filter-append is_mark inside (c.links.other ∷ []))
      ∙ (ap (λ ms. ms ++ marks (inside ++ c.links.other ∷ [])) (sym (marks_none c.links.one (set_no_mark c.links.one c.register c.links.sets)))
      ∙ (sym (filter-append is_mark (c.links.one ∷ []) (inside ++ c.links.other ∷ [])) ∙ ap marks (sym parts_old))))))

  pub pair_same : SameMarks f (combined_at f first second x)
  pair_same = same_marks f first (second + 1) new c.put marks_stay

  module _ (sound : IsSound f) where
    abbrev Keep : Insn → Type 0
    Keep i = step.is_mark i.kind ≡ false → argument_registers i.pattern i.uses ≡ true

    all_kept : AllByRecursion Keep f.insns
    all_kept = all_weaker IsInsnReloadable Keep (λ i one. one.arguments) f.insns sound.reloadable.each

    last_kept : Keep last
    last_kept none =
        let m = c.makes in
        let first_is = some_one (slice_get f.insns first) c.links.one m.one c.links.at_first m.at_first in
        let one = subst Keep first_is (at_place Keep f.insns all_kept first c.links.one c.links.at_first)
        (ap (λ (i : Insn). step.is_mark i.kind) (sym first_is) ∙ set_no_mark c.links.one c.register c.links.sets) in
        let other_is = some_one (slice_get f.insns second) c.links.other m.other c.links.at_second m.at_second in
        let other = at_place Keep f.insns all_kept second c.links.other c.links.at_second (no_mark c.links.other.kind c.links.kind_is) in
        subst (λ y. argument_registers y c.links.other.uses ≡ true) (sym m.made)
        (fused_arguments m.other.pattern c.path m.source c.links.other.uses
        (subst (λ (i : Insn). argument_registers i.pattern c.links.other.uses ≡ true) other_is other)
        (kid_arguments m.one.pattern m.one.uses 1 m.source one m.source_is))

    keep : KeepToArguments new
    keep = subst KeepToArguments (sym parts_new)
        (all_joined Keep inside (last ∷ []) (all_taken Keep (second - suc first) (drop (suc first) f.insns) (all_dropped Keep (suc first) f.insns all_kept)) (last_kept, tt))

    differ : UidsDiffer (combined_at f first second x)
    differ =
        let whole = whole_parts f.insns first second c.links.one c.links.other c.before c.links.at_first c.links.at_second in
        let parts = combined_parts f first second x c.links.one c.links.other c.before c.links.at_first c.links.at_second in
        subst (λ insns. IsDistinct ◌==◌ (uids_of insns)) (sym parts)
        (fewer_differ (take first f.insns) inside (drop (suc second) f.insns) c.links.one c.links.other last (with_uid c.links.other x)
        (subst (λ insns. IsDistinct ◌==◌ (uids_of insns)) whole sound.reloadable.uids))

    pub pair_kept : PassKeeps f (combined_at f first second x)
    pair_kept = window_kept f first (second + 1) new c.put sound marks_stay keep differ

-- ---- all steps

step_same : (forms : List Entry) (f g : Function) → IsStep forms f g → SameMarks f g
step_same forms f g one = subst (SameMarks f) (sym one.makes) (pair_same forms f one.first one.second one.pattern one.combines)

pub steps_same : (forms : List Entry) (n : ℕ) (f g : Function) → Steps forms n f g → SameMarks f g
steps_same forms _ _ _ (Steps.none f) = same_refl f
steps_same forms _ _ _ (Steps.step n f g h one more) = same_trans f g h (step_same forms f g one) (steps_same forms n g h more)

step_kept : (forms : List Entry) (f g : Function) → IsSound f → IsStep forms f g → PassKeeps f g
step_kept forms f g sound one = subst (PassKeeps f) (sym one.makes) (pair_kept forms f one.first one.second one.pattern one.combines sound)

pub steps_kept : (forms : List Entry) (n : ℕ) (f g : Function) → IsSound f → Steps forms n f g → PassKeeps f g
steps_kept forms _ _ _ sound (Steps.none f) = kept_refl f sound
steps_kept forms _ _ _ sound (Steps.step n f g h one more) =
    let first = step_kept forms f g sound one in
    kept_trans f g h first (steps_kept forms n g h first.sound more)
