-- A function with a window replaced is kept as passes keep functions.
use Rattle.std.proofs.Common.{◌≡◌, ℕ, ◌+◌, ◌-◌, ◌<◌, ◌≤◌, ◌&&◌, ℤ, Bool, true, false, List, [], ◌∷◌, ◌++◌, length, take, drop, Option, Some, None, refl, sym, ap, subst, ◌∙◌, arith}
use Rattle.std.specs.Prelude.{slice_get}
use Rattle.std.specs.List.{AllByRecursion, list_any, list_all}
use Rattle.std.proofs.lemmas.Bool.{false≢true, true≢false, or_from, and_right}
use Rattle.std.proofs.lemmas.List.{take-append-drop, drop-drop}
use Rattle.std.proofs.lemmas.List.Elements.{filter-append}
use Rattle.rtx_tree.specs.Code.{class_of_code}
use Rattle.rtx_tree.specs.Registers.{is_call_used, virtual_stack_vars}
use Rattle.rtx_tree.specs.declared.code.Code.{Code}
use Rattle.rtx_tree.specs.declared.code.Code.TheVariants.{Parallel}
use Rattle.rtx_tree.specs.declared.function.Insn.{Insn}
use Rattle.rtx_tree.specs.declared.function.Function.{Function}
use Rattle.rtx_tree.specs.declared.function.Kind.{Kind}
use Rattle.rtx_tree.specs.declared.function.Kind.TheVariants as kind
use Rattle.rtx_tree.specs.declared.tree.Rtx.{Rtx}
use Rattle.rtx_tree.specs.Tree.{head_of, kids_of}
use Rattle.rtl_step.specs.Step as step
use Rattle.rtl_func.specs.Calls.{argument_registers}
use Rattle.rtl_func.specs.Kinds.{is_nothing, is_nothing_by}
use Rattle.reg_uses.specs.Effects.{effect_defines, effects_by, pattern_defines}
use Rattle.reg_uses.specs.Uses.{insn_defines, is_call_kind}
use Rattle.law_window_runs.specs.Uses.{window_defines}
use Rattle.new_insns.specs.Replaced.{window, replaced}
use Rattle.law_function_kept.specs.Keeps.{Keeps}
use Rattle.law_window_replaced.specs.law_window_kept.Same.{CanReplace}
use Rattle.law_window_replaced.proofs.Replacing.{replaced_keeps}
use Rattle.live.specs.Live.{IsLiveAfter}
use Rattle.law_pass_needs.specs.sym_state.State.{State, Runs, start}
use Rattle.law_pass_needs.specs.sym_insns.Run.{run_from, run}
use Rattle.law_pass_needs.specs.sym_insns.Shape.{is_shaped, is_natural, all_natural, fits_kind, is_end, bad_from, bad_insn}
use Rattle.equate.specs.Side.{Insns}
use Rattle.equate.specs.Equated.{Equated}
use Rattle.equate.specs.Told.{Alike}
use Rattle.equate.proofs.VerdictLaws.{verdict_same}
use Rattle.equate.proofs.Soundness.{no_return}
use Rattle.equate.proofs.law_insn_terms.Bools.{both_of}
use Rattle.equate.proofs.law_insn_terms.Kept.{natural_insn}
use Rattle.equate.proofs.law_insn_terms.Ways.{fits_all, does_run}
use Rattle.law_pass_needs.proofs.sym_insns.Shapes.{natural_out}
use Rattle.law_pass_needs.specs.Left.{is_mark, marks, SameMarks}
use Rattle.law_pass_needs.specs.Ready.{IsInsnReady}
use Rattle.law_pass_needs.specs.Reloadable.{IsInsnReloadable, LeadsWithin, UidsDiffer}
use Rattle.law_pass_needs.proofs.Places.{all_joined, all_taken, all_dropped, at_place, all_weaker}
use Rattle.law_insn_replaced.specs.Sound.{IsSound, PassKeeps}
use Rattle.law_insn_replaced.proofs.Jumps.{new_lead}
use Rattle.law_insn_replaced.proofs.Labels.{all_within_too}
use Rattle.law_insn_replaced.proofs.Vars.{LeavesVars, all_leave}
use Rattle.law_window_put.specs.Put.{IsPut, KeepToArguments}
use Rattle.law_window_put.proofs.Does.{put_replaces}

-- ---- what can be compared

-- it fits its kind
record Fitting (i : Insn) : Type 0 where
  last : Bool
  fits : fits_kind i.kind i last ≡ true

fitting_from : (insns : List Insn) (index : ℕ) → bad_from index insns ≡ None → AllByRecursion Fitting insns
fitting_from [] index bad = tt
fitting_from (i ∷ insns) index bad = let all = fits_all index i insns bad in (record { last = is_end insns; fits = all.here }, fitting_from insns (index + 1) all.rest)

all_fit : (insns : List Insn) (s : State) → run insns ≡ Runs s → AllByRecursion Fitting insns
all_fit insns s runs = fitting_from insns 0 (does_run (bad_insn insns) (run_from 0 insns start) s runs).fits

no_label : (i : Insn) → Fitting i → i.kind ≡ kind.Label → ⊥
no_label i fit label = false≢true (sym (ap (λ k. fits_kind k i fit.last) label) ∙ fit.fits)

empty_by : (k : Kind) (i : Insn) (last : Bool) → step.is_mark k ≡ true → fits_kind k i last ≡ true → is_nothing i.pattern ≡ true
empty_by kind.Barrier i last mark fits = fits
empty_by kind.Label i last mark fits = absurd (false≢true fits)
empty_by kind.Plain i last mark fits = absurd (false≢true mark)
empty_by kind.Jump i last mark fits = absurd (false≢true mark)
empty_by kind.Call i last mark fits = absurd (false≢true mark)

shaped_by : (k : Kind) (i : Insn) (last : Bool) → step.is_mark k ≡ false → fits_kind k i last ≡ true → is_shaped i ≡ true
shaped_by kind.Plain i last none fits = fits
shaped_by kind.Jump i last none fits = (both_of (is_shaped i) _ fits).0
shaped_by kind.Call i last none fits = (both_of (is_shaped i) last fits).0
shaped_by kind.Label i last none fits = absurd (true≢false none)
shaped_by kind.Barrier i last none fits = absurd (true≢false none)

-- what is nothing defines nothing, and names no register
no_effects : (reg : ℕ) (c : Code) (parts : List Rtx) (x : Rtx) → is_nothing_by (class_of_code c) parts ≡ true → list_any (effect_defines reg) (effects_by c parts x) ≡ false
no_effects reg Parallel [] x is = refl
no_effects reg _ _ x is = absurd (false≢true is)

nothing_defines : (reg : ℕ) (x : Rtx) → is_nothing x ≡ true → pattern_defines reg x ≡ false
nothing_defines reg x is = no_effects reg (head_of x).code (kids_of x) x is

natural_parts : (c : Code) (number : ℤ) (parts : List Rtx) → is_nothing_by (class_of_code c) parts ≡ true → (is_natural c number && list_all all_natural parts) ≡ true
natural_parts Parallel number [] is = refl
natural_parts _ number _ is = absurd (false≢true is)

nothing_natural : (x : Rtx) → is_nothing x ≡ true → all_natural x ≡ true
nothing_natural x is = natural_out x ∙ natural_parts (head_of x).code (head_of x).number (kids_of x) is

ready : (i : Insn) → Fitting i → IsInsnReady i
ready i fit = record {
  marks = λ mark reg. nothing_defines reg i.pattern (empty_by i.kind i fit.last mark fit.fits);
  label = λ label. absurd (no_label i fit label);
}

all_natural_by : (i : Insn) → Fitting i → (mark : Bool) → step.is_mark i.kind ≡ mark → all_natural i.pattern ≡ true
all_natural_by i fit true mark = nothing_natural i.pattern (empty_by i.kind i fit.last mark fit.fits)
all_natural_by i fit false none = natural_insn i (shaped_by i.kind i fit.last none fit.fits)

reloadable : (i : Insn) → Fitting i → LeavesVars i → (step.is_mark i.kind ≡ false → argument_registers i.pattern i.uses ≡ true) → IsInsnReloadable i
reloadable i fit leaves arguments = record {
  shaped = λ none. shaped_by i.kind i fit.last none fit.fits;
  empty = λ mark. empty_by i.kind i fit.last mark fit.fits;
  natural = all_natural_by i fit (step.is_mark i.kind) refl;
  arguments = arguments;
  vars = leaves;
}

all_reloadable : (insns : List Insn) → AllByRecursion Fitting insns → AllByRecursion LeavesVars insns → KeepToArguments insns → AllByRecursion IsInsnReloadable insns
all_reloadable [] fit leave keep = tt
all_reloadable (i ∷ insns) fit leave keep = (reloadable i fit.0 leave.0 keep.0, all_reloadable insns fit.1 leave.1 keep.1)

-- ---- the window

-- a window of instructions that leave the address past the locals alone does so
window_leaves : (insns : List Insn) → AllByRecursion LeavesVars insns → window_defines insns virtual_stack_vars ≡ false
window_leaves [] all = refl
window_leaves (i ∷ insns) all =
    or_from (insn_defines i virtual_stack_vars) (window_defines insns virtual_stack_vars)
    (or_from (pattern_defines virtual_stack_vars i.pattern) _ all.0 (and_right (is_call_kind i.kind) (is_call_used virtual_stack_vars) refl))
    (window_leaves insns all.1)

module _ (f : Function) (first end : ℕ) (new : List Insn) (order : first < end) where
  abbrev old : List Insn
  old = window f first end

  abbrev after : Function
  after = replaced f first end new

  dropped : drop (end - first) (drop first f.insns) ≡ drop end f.insns
  dropped =
      let all : first + (end - first) ≡ end = omega (arith, order) in
      drop-drop (end - first) first f.insns ∙ ap (λ n. drop n f.insns) all

  -- the chain is what stands before the window, the window, and what stands behind it
  chain_splits : f.insns ≡ take first f.insns ++ (old ++ drop end f.insns)
  chain_splits = sym (take-append-drop first f.insns) ∙ ap (λ rest. take first f.insns ++ rest)
      (sym (take-append-drop (end - first) (drop first f.insns)) ∙ ap (λ rest. old ++ rest) dropped)

  marks_of : (middle : List Insn) → marks (take first f.insns ++ (middle ++ drop end f.insns)) ≡ marks (take first f.insns) ++ (marks middle ++ marks (drop end f.insns))
  marks_of middle = filter-append is_mark (take first f.insns) (middle ++ drop end f.insns) ∙ ap (λ rest. marks (take first f.insns) ++ rest) (filter-append is_mark middle (drop end f.insns))

  -- the labels and barriers are the function's, where the window has its own
  pub marks_stay : marks new ≡ marks old → SameMarks f after
  marks_stay same = record {
    name_is = refl;
    marks_are = marks_of new ∙ (ap (λ ms. marks (take first f.insns) ++ (ms ++ marks (drop end f.insns))) same ∙ (sym (marks_of old) ∙ ap marks (sym chain_splits)));
    locals_are = refl;
    result_is = refl;
    result_reg_is = refl;
  }

  all_old : (P : Insn → Type 0) → AllByRecursion P f.insns → AllByRecursion P old
  all_old P all = all_taken P (end - first) (drop first f.insns) (all_dropped P first f.insns all)

  all_after : (P : Insn → Type 0) → AllByRecursion P f.insns → AllByRecursion P new → AllByRecursion P after.insns
  all_after P all made = all_joined P (take first f.insns) (new ++ drop end f.insns) (all_taken P first f.insns all) (all_joined P new (drop end f.insns) made (all_dropped P end f.insns all))

  -- where the instructions are equated with the window over some registers, and can replace it
  module _ (within : end ≤ length f.insns) (live : List ℕ) (equated : Equated old (Insns new) live) (can : CanReplace old new (λ reg. IsLiveAfter f reg (end - 1))) (sound : IsSound f) where
    alike : Alike old (Insns new) live
    alike = verdict_same old (Insns new) live equated (no_return old new)

    fit : AllByRecursion Fitting new
    fit = all_fit new alike.second alike.runs_second

    leave : AllByRecursion LeavesVars new
    leave = all_leave old new live alike.first alike.second alike.runs_first alike.runs_second alike.agree
        (window_leaves old (all_old LeavesVars (all_weaker IsInsnReloadable LeavesVars (λ i one. one.vars) f.insns sound.reloadable.each)))

    lead : AllByRecursion (LeadsWithin f.insns) new
    lead = new_lead f.insns old new live alike.first alike.second alike.runs_first alike.runs_second alike.agree (all_old (LeadsWithin f.insns) sound.reloadable.jumps)

    -- registers and marks
    does : Keeps f after
    does = replaced_keeps f first end new order within
        (λ p reg j there mark. (at_place IsInsnReady f.insns sound.ready p j there).marks mark reg)
        (λ p j there. (at_place IsInsnReloadable f.insns sound.reloadable.each p j there).natural) can

    pub replaced_kept : marks new ≡ marks old → KeepToArguments new → UidsDiffer after → PassKeeps f after
    replaced_kept same keep differ = record {
      keeps = does;
      sound = record {
        ready = all_after IsInsnReady sound.ready (all_weaker Fitting IsInsnReady ready new fit);
        reloadable = record {
          each = all_after IsInsnReloadable sound.reloadable.each (all_reloadable new fit leave keep);
          jumps = all_within_too f.insns after.insns after.insns (marks_stay same).marks_are (all_after (LeadsWithin f.insns) sound.reloadable.jumps lead);
          uids = differ;
        };
      };
      same = marks_stay same;
    }

module _ (f : Function) (first end : ℕ) (new : List Insn) (put : IsPut f first end new) where
  -- the labels and barriers are the function's, where the window has its own
  pub same_marks : marks new ≡ marks (window f first end) → SameMarks f (replaced f first end new)
  same_marks same = marks_stay f first end new put.order same

  -- a sound function is kept, where the window's labels and barriers stay, its new instructions keep to a0 to a7, and uids differ
  pub window_kept : IsSound f → marks new ≡ marks (window f first end) → KeepToArguments new → UidsDiffer (replaced f first end new) → PassKeeps f (replaced f first end new)
  window_kept sound same keep differ = replaced_kept f first end new put.order put.within put.live put.equated (put_replaces f first end new put) sound same keep differ
