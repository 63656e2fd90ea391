-- A function is kept as passes keep functions where values of it are reused and dead sets go.
use Rattle.std.proofs.Common.{◌≡◌, ℕ, ◌+◌, ◌-◌, Bool, true, false, List, [], ◌∷◌, ◌++◌, take, drop, map, Some, refl, sym, ap, subst, ◌∙◌, arith}
use Rattle.std.specs.Prelude.{slice_get, ◌==◌, if◌then◌else◌}
use Rattle.std.specs.List.{AllByRecursion, IsDistinct}
use Rattle.std.proofs.lemmas.List.Elements.{filter-append}
use Rattle.std.proofs.lemmas.Option.{slice_get_within}
use Rattle.rtx_tree.specs.declared.tree.Rtx.{Rtx}
use Rattle.rtx_tree.specs.declared.function.Insn.{Insn}
use Rattle.rtx_tree.specs.declared.function.Function.{Function}
use Rattle.rtx_tree.specs.Patterns.{with_pattern}
use Rattle.rtx_tree.specs.Tree.{reg_of, replaced_at}
use Rattle.rtl_step.specs.Step as step
use Rattle.rtl_func.specs.Calls.{argument_registers}
use Rattle.rtl_func.specs.Uids.{is_ruled, uids_of}
use Rattle.new_insns.specs.Replaced.{window, replaced}
use Rattle.live.specs.Live.{IsLiveAfter}
use Rattle.equate.specs.Side.{Insns}
use Rattle.equate.specs.Equated.{Equated}
use Rattle.law_function_kept.specs.Keeps.{Keeps}
use Rattle.md_forms.specs.declared.form.Entry.{Entry}
use Rattle.law_pass_needs.specs.form_needs.Needs.{is_kind}
use Rattle.law_pass_needs.specs.Left.{is_mark, marks, SameMarks}
use Rattle.law_pass_needs.specs.Ready.{IsInsnReady}
use Rattle.law_pass_needs.specs.Reloadable.{IsInsnReloadable, LeadsWithin, UidsDiffer}
use Rattle.law_pass_needs.proofs.Places.{all_joined, all_taken, all_dropped, at_place, all_weaker}
use Rattle.law_window_replaced.specs.law_window_kept.Same.{CanReplace}
use Rattle.law_window_replaced.proofs.Replacing.{replaced_keeps}
use Rattle.law_insn_replaced.specs.Sound.{IsSound, PassKeeps}
use Rattle.law_insn_replaced.proofs.Keeping.{kept_refl, kept_trans}
use Rattle.law_insn_replaced.proofs.Labels.{all_within_too}
use Rattle.law_insn_replaced.proofs.Lists.{parted, same_filtered}
use Rattle.law_insn_replaced.proofs.Marks.{replaced_same, same_refl, same_trans}
use Rattle.law_insn_replaced.proofs.Uids.{uids_append, replaced_differ}
use Rattle.law_insn_replaced.proofs.Windows.{window_one}
use Rattle.law_window_put.specs.Put.{KeepToArguments}
use Rattle.law_window_put.proofs.Kept.{replaced_kept}
use Rattle.reuse.specs.Reuse.{RepeatsAt, IsDeadSet, with_insn, without, IsStep, Steps}
use Rattle.reuse.proofs.Any.{over_any}
use Rattle.reuse.proofs.Drop.{set_parts, is_pseudo, dead_replaced}
use Rattle.reuse.proofs.Lists.{window_both, put_last}
use Rattle.reuse.proofs.Second.{SecondParts, second_parts, reusing_arguments}

-- ---- an instruction with another pattern in its place

marks_none : (i : Insn) → step.is_mark i.kind ≡ false → marks (i ∷ []) ≡ []
marks_none i none = grind (arith, none)

uids_same : (b : Bool) (i j : Insn) → i.uid ≡ j.uid → map (λ (n : Insn). n.uid) (if b then i ∷ [] else []) ≡ map (λ (n : Insn). n.uid) (if b then j ∷ [] else [])
uids_same true i j same = ap (λ u. u ∷ []) same
uids_same false i j same = refl

with_uid : (i : Insn) (x : Rtx) → uids_of (with_pattern i x ∷ []) ≡ uids_of (i ∷ [])
with_uid i x = uids_same (is_ruled i) (with_pattern i x) i refl

uids_with : (f : Function) (place : ℕ) (i : Insn) (x : Rtx) → slice_get f.insns place ≡ Some i → uids_of (with_insn f place (with_pattern i x)).insns ≡ uids_of f.insns
uids_with f place i x at =
    let front = take place f.insns in
    let back = drop (place + 1) f.insns in
    uids_append front (with_pattern i x ∷ back)
    ∙ (ap (λ us. uids_of front ++ us) (uids_append (with_pattern i x ∷ []) back ∙ (ap (λ us. us ++ uids_of back) (with_uid i x) ∙ sym (uids_append (i ∷ []) back)))
    ∙ (sym (uids_append front (i ∷ back)) ∙ ap uids_of (sym (parted f.insns place i at))))

same_with : (f : Function) (place : ℕ) (i : Insn) (x : Rtx) → slice_get f.insns place ≡ Some i → step.is_mark i.kind ≡ false → SameMarks f (with_insn f place (with_pattern i x))
same_with f place i x at none = record {
  name_is = refl;
  marks_are = same_filtered is_mark f.insns (with_pattern i x ∷ []) place i at none (marks_none (with_pattern i x) none);
  locals_are = refl;
  result_is = refl;
  result_reg_is = refl;
}

-- ---- a repeated value

module _ (forms : List Entry) (f : Function) (first second : ℕ) (new : Insn) (r : RepeatsAt forms f first second new) where
  abbrev old : List Insn
  old = r.one ∷ (window f (first + 1) second ++ r.other ∷ [])

  abbrev put : List Insn
  put = r.one ∷ (window f (first + 1) second ++ new ∷ [])

  old_is : window f first (second + 1) ≡ old
  old_is = window_both f.insns first second r.one r.other r.before r.at_first r.at_second

  -- the window with the new instruction in it is the function with it at its place
  whole : replaced f first (second + 1) put ≡ with_insn f second new
  whole = ap (λ insns. record f { insns = insns }) (put_last f.insns first second r.one new r.before r.at_first)

  other_parts : SecondParts r.other
  other_parts = second_parts r.other r.repeats.mode r.repeats.again.again_in

  no_mark : step.is_mark r.other.kind ≡ false
  no_mark = ap step.is_mark other_parts.plain

  no_mark_new : step.is_mark new.kind ≡ false
  no_mark_new = ap (λ (i : Insn). step.is_mark i.kind) r.repeats.makes ∙ no_mark

  abbrev front : List Insn
  front = r.one ∷ window f (first + 1) second

  marks_same : marks put ≡ marks (window f first (second + 1))
  marks_same =
      filter-append is_mark front (new ∷ [])
      ∙ (ap (λ ms. marks front ++ ms) (marks_none new no_mark_new ∙ sym (marks_none r.other no_mark))
      ∙ (sym (filter-append is_mark front (r.other ∷ [])) ∙ ap marks (sym old_is)))

  pub reuse_same : SameMarks f (with_insn f second new)
  reuse_same = subst (λ (i : Insn). SameMarks f (with_insn f second i)) (sym r.repeats.makes)
      (same_with f second r.other (replaced_at (1 ∷ []) (reg_of r.repeats.mode r.repeats.register) r.other.pattern) r.at_second no_mark)

  module _ (sound : IsSound f) where
    abbrev Keep : Insn → Type 0
    Keep i = step.is_mark i.kind ≡ false → argument_registers i.pattern i.uses ≡ true

    all_keep : AllByRecursion Keep f.insns
    all_keep = all_weaker IsInsnReloadable Keep (λ i one. one.arguments) f.insns sound.reloadable.each

    new_keeps : Keep new
    new_keeps none =
        let pseudo_is = is_pseudo (set_parts r.one r.repeats.register r.repeats.again.sets).target r.repeats.register (set_parts r.one r.repeats.register r.repeats.again.sets).target_is in
        subst (λ (i : Insn). argument_registers i.pattern i.uses ≡ true) (sym r.repeats.makes)
        (reusing_arguments r.repeats.mode r.repeats.register r.other other_parts pseudo_is.above pseudo_is.below (at_place Keep f.insns all_keep second r.other r.at_second no_mark))

    keep : KeepToArguments put
    keep = (
      at_place Keep f.insns all_keep first r.one r.at_first,
      all_joined Keep (window f (first + 1) second) (new ∷ []) (all_taken Keep (second - (first + 1)) (drop (first + 1) f.insns) (all_dropped Keep (first + 1) f.insns all_keep)) (new_keeps, tt),
    )

    differ : UidsDiffer (replaced f first (second + 1) put)
    differ = subst UidsDiffer (sym whole)
        (subst (IsDistinct ◌==◌) (sym (ap (λ (i : Insn). uids_of (with_insn f second i).insns) r.repeats.makes
        ∙ uids_with f second r.other (replaced_at (1 ∷ []) (reg_of r.repeats.mode r.repeats.register) r.other.pattern) r.at_second)) sound.reloadable.uids)

    can : CanReplace (window f first (second + 1)) put (λ reg. IsLiveAfter f reg (second + 1 - 1))
    can = subst (λ w. CanReplace w put (λ reg. IsLiveAfter f reg (second + 1 - 1))) (sym old_is) (over_any old put r.repeats.equated (λ reg. IsLiveAfter f reg (second + 1 - 1)))

    equated : Equated (window f first (second + 1)) (Insns put) []
    equated = subst (λ w. Equated w (Insns put) []) (sym old_is) (r.repeats.equated [])

    pub reuse_kept : PassKeeps f (with_insn f second new)
    reuse_kept =
        let before = r.before in
        let within = slice_get_within f.insns second r.other r.at_second in
        subst (PassKeeps f) whole (replaced_kept f first (second + 1) put (omega (arith, before)) (omega (arith, within)) [] equated can sound marks_same keep differ)

-- ---- a dead set

module _ (f : Function) (place : ℕ) (d : IsDeadSet f place) where
  is_instruction : is_kind d.insn.kind ≡ true
  is_instruction = ap is_kind (set_parts d.insn d.register d.sets).plain

  pub drop_same : SameMarks f (without f place)
  drop_same = replaced_same f place d.insn d.insn 0 [] d.at_place is_instruction

  module _ (sound : IsSound f) where
    dead : IsLiveAfter f d.register (place + 1 - 1) → ⊥
    dead lives = let back : place + 1 - 1 ≡ place = omega arith in d.dead (subst (IsLiveAfter f d.register) back lives)

    goes : CanReplace (window f place (place + 1)) [] (λ reg. IsLiveAfter f reg (place + 1 - 1))
    goes = subst (λ w. CanReplace w [] (λ reg. IsLiveAfter f reg (place + 1 - 1))) (sym (window_one f place d.insn d.at_place))
        (dead_replaced d.insn d.register d.sets (λ reg. IsLiveAfter f reg (place + 1 - 1)) dead)

    rest_of : (P : Insn → Type 0) → AllByRecursion P f.insns → AllByRecursion P (without f place).insns
    rest_of P all = all_joined P (take place f.insns) (drop (place + 1) f.insns) (all_taken P place f.insns all) (all_dropped P (place + 1) f.insns all)

    drop_does : Keeps f (without f place)
    drop_does =
        let within = slice_get_within f.insns place d.insn d.at_place in
        replaced_keeps f place (place + 1) [] (omega arith) (omega (arith, within))
        (λ p reg j there mark. (at_place IsInsnReady f.insns sound.ready p j there).marks mark reg)
        (λ p j there. (at_place IsInsnReloadable f.insns sound.reloadable.each p j there).natural) goes

    pub drop_kept : PassKeeps f (without f place)
    drop_kept = record {
      keeps = drop_does;
      sound = record {
        ready = rest_of IsInsnReady sound.ready;
        reloadable = record {
          each = rest_of IsInsnReloadable sound.reloadable.each;
          jumps = all_within_too f.insns (without f place).insns (without f place).insns drop_same.marks_are (rest_of (LeadsWithin f.insns) sound.reloadable.jumps);
          uids = replaced_differ f place d.insn [] d.at_place is_instruction sound.reloadable.uids;
        };
      };
      same = drop_same;
    }

-- ---- all steps

step_same : (forms : List Entry) (f g : Function) → IsStep forms f g → SameMarks f g
step_same forms f _ (IsStep.reuses first second new next) = reuse_same forms f first second new next.repeats
step_same forms f _ (IsStep.drops place none dead) = drop_same f place dead.dead

step_kept : (forms : List Entry) (f g : Function) → IsSound f → IsStep forms f g → PassKeeps f g
step_kept forms f _ sound (IsStep.reuses first second new next) = reuse_kept forms f first second new next.repeats sound
step_kept forms f _ sound (IsStep.drops place none dead) = drop_kept f place dead.dead sound

-- the labels and barriers stay, and the name, the locals and the result
pub steps_same : (forms : List Entry) (n : ℕ) (f g : Function) → Steps forms n f g → SameMarks f g
steps_same forms _ _ _ (Steps.none f) = same_refl f
steps_same forms _ _ _ (Steps.step n f g h one more) = same_trans f g h (step_same forms f g one) (steps_same forms n g h more)

pub steps_kept : (forms : List Entry) (n : ℕ) (f g : Function) → IsSound f → Steps forms n f g → PassKeeps f g
steps_kept forms _ _ _ sound (Steps.none f) = kept_refl f sound
steps_kept forms _ _ _ sound (Steps.step n f g h one more) =
    let first = step_kept forms f g sound one in
    kept_trans f g h first (steps_kept forms n g h first.sound more)
