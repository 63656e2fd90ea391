-- A function that names registers of the machine alone does so when its windows are rewritten by a description.
use Rattle.std.proofs.Common.{◌≡◌, ℕ, ◌+◌, ◌-◌, ◌<◌, ◌&&◌, Bool, true, false, cond, List, [], ◌∷◌, ◌++◌, length, map, take, drop, Option, Some, None, Ok, refl, sym, subst, arith}
use Rattle.std.specs.List.{AllByRecursion, list_all}
use Rattle.std.specs.Prelude.{nat_lt, filter, option_map, option_and_then}
use Rattle.std.proofs.lemmas.Bool.{and_parts, ltb-true}
use Rattle.std.proofs.lemmas.Option.{option_and_then_some}
use Rattle.rtx_tree.specs.Operands.{put_at}
use Rattle.rtx_tree.specs.Tree.{head_of, reg_of}
use Rattle.rtx_tree.specs.declared.constants.Constant.{Constant}
use Rattle.rtx_tree.specs.declared.function.Function.{Function}
use Rattle.rtx_tree.specs.declared.function.Insn.{Insn}
use Rattle.rtx_tree.specs.declared.tree.Rtx.{Rtx}
use Rattle.rtl_chain.specs.Counts.{greatest_uid}
use Rattle.new_insns.specs.Made.{insns_for}
use Rattle.new_insns.specs.Replaced.{window, replaced}
use Rattle.c_eval.specs.declared.facts.Facts.{Facts}
use Rattle.md_iter.specs.declared.substitution.Instance.{Instance}
use Rattle.md_match.specs.Pattern.{Ops}
use Rattle.md_forms.specs.declared.form.Entry.{Entry}
use Rattle.md_forms.specs.Forms.{forms_of, names_of}
use Rattle.md_recog.specs.declared.half.Half.TheVariants as half
use Rattle.md_recog.specs.Recog.{patterns_of}
use Rattle.gen_emit.specs.declared.emission.Emission.{Emission}
use Rattle.md_emit.specs.Emitted.{says_at, emitted_by}
use Rattle.law_emitted_hard.specs.Hard.{AreHard, OperandsHard}
use Rattle.law_emitted_hard.proofs.Trees.{reg_hard}
use Rattle.law_emitted_hard.proofs.Operands.{put_hard}
use Rattle.law_emitted_hard.proofs.Found.{found_hard}
use Rattle.law_emitted_hard.proofs.Emitted.{emitted_hard}
use Rattle.law_window_placed.specs.law_lines_ready.law_no_pseudos.Hard.{IsHardInsn, AreHardInsns, IsHardFunction}
use Rattle.law_window_placed.proofs.law_lines_ready.law_output.law_pass_needs.Places.{all_joined, all_taken, all_dropped}
use Rattle.peep2.specs.form_needs.Needs.{name_at}
use Rattle.peep2.specs.Scratch.{scratch_order, is_free, free_registers, natural, scratches_of, with_scratches}
use Rattle.peep2.specs.Rewrite.{patterns_from, given_to, given_by, Makes, Rewrites}
use Rattle.peep2.specs.Cover.{Answer, CoverFrom, CoverComes}
use Rattle.peep2.proofs.Kept.{comes_to}

-- ---- the registers that scratches are given

abbrev IsFew : ℕ → Type 0
IsFew r = nat_lt r 32 ≡ true

kept_by : (b : Bool) (r : ℕ) (regs : List ℕ) → IsFew r → AllByRecursion IsFew regs → AllByRecursion IsFew (cond b (r ∷ regs) regs)
kept_by true r regs here all = (here, all)
kept_by false r regs here all = all

kept_few : (keep : ℕ → Bool) (regs : List ℕ) → list_all (λ r. nat_lt r 32) regs ≡ true → AllByRecursion IsFew (filter keep regs)
kept_few keep [] all = tt
kept_few keep (r ∷ regs) all =
    let both = and_parts (nat_lt r 32) (list_all (λ r. nat_lt r 32) regs) all in
    kept_by (keep r) r (filter keep regs) both.0 (kept_few keep regs both.1)

-- they are of the machine
free_few : (dead : List (List ℕ)) (insns : List Rtx) → AllByRecursion IsFew (free_registers dead insns)
free_few dead insns = kept_few (is_free dead insns) scratch_order refl

scratches_hard : (ps : List Rtx) (regs : List ℕ) (operands given : Ops) → AllByRecursion IsFew regs → OperandsHard operands →
    with_scratches ps regs operands ≡ Some given → OperandsHard given
scratches_hard [] regs operands given few hard at = let same : operands ≡ given = cc in subst OperandsHard same hard
scratches_hard (p ∷ ps) [] operands given few hard at = absurd (let no : ⊥ = cc in no)
scratches_hard (p ∷ ps) (r ∷ regs) operands given few hard at =
    let x = reg_of (head_of p).mode r in
    option_and_then_some (λ k. with_scratches ps regs (put_at operands k x)) (natural (head_of p).number) given at
    (λ k is more.
    let below : r < 32 = ltb-true r 32 few.0 in
    scratches_hard ps regs (put_at operands k x) given few.1 (put_hard operands k x hard (reg_hard (head_of p).mode r (omega (arith, below)))) more)

-- ---- windows

patterns_hard : (insns : List Insn) → AreHardInsns insns → AreHard (map (λ (i : Insn). i.pattern) insns)
patterns_hard [] all = tt
patterns_hard (i ∷ insns) all = (all.0, patterns_hard insns all.1)

window_hard : (f : Function) (place count : ℕ) → IsHardFunction f → AreHard (patterns_from f place count)
window_hard f place count hard =
    patterns_hard (window f place (place + count))
    (all_taken IsHardInsn (place + count - place) (drop place f.insns) (all_dropped IsHardInsn place f.insns hard))

made_hard : (last : Insn) (uid : ℕ) (sequence : List Rtx) → AreHard sequence → AreHardInsns (insns_for last uid sequence)
made_hard last uid [] all = tt
made_hard last uid (x ∷ []) all = (all.0, tt)
made_hard last uid (x ∷ y ∷ more) all = (all.0, made_hard last (uid + 1) (y ∷ more) all.1)

replaced_hard : (f : Function) (first end : ℕ) (new : List Insn) → IsHardFunction f → AreHardInsns new → IsHardFunction (replaced f first end new)
replaced_hard f first end new hard made =
    all_joined IsHardInsn (take first f.insns) (new ++ drop end f.insns) (all_taken IsHardInsn first f.insns hard)
    (all_joined IsHardInsn new (drop end f.insns) made (all_dropped IsHardInsn end f.insns hard))

module _ (constants : List Constant) (instances : List Instance) where
  abbrev forms : List Entry
  forms = forms_of constants instances

  -- ---- the sequence of a form

  given_hard : (facts : Facts) (insns : List Rtx) (form : ℕ) (operands given : Ops) → OperandsHard operands →
      given_by forms facts insns form operands ≡ Some given → OperandsHard given
  given_hard facts insns form operands given hard at = option_and_then_some (λ says. given_to says facts insns operands) (says_at forms form) given at
      (λ says is more. scratches_hard (scratches_of says.patterns) (free_registers facts.dead insns) operands given (free_few facts.dead insns) hard more)

  sequence_hard : (o : Option Emission) (sequence : List Rtx) → ((e : Emission) → o ≡ Some e → AreHard e.sequence) →
      option_map (λ (e : Emission). e.sequence) o ≡ Some sequence → AreHard sequence
  sequence_hard None sequence each at = absurd (let no : ⊥ = cc in no)
  sequence_hard (Some e) sequence each at = let same : e.sequence ≡ sequence = cc in subst AreHard same (each e refl)

  makes_hard : (facts : Facts) (insns : List Rtx) (form : ℕ) (sequence : List Rtx) → facts.new_pseudos ≡ false → AreHard insns →
      Makes forms facts insns form sequence → AreHard sequence
  makes_hard facts insns form sequence none hard makes =
      let match = makes.matches.matches in
      let operands_hard = found_hard makes.operands (patterns_of half.Window match.says) insns match.matches.matches.shape hard in
      option_and_then_some (λ given. option_map (λ (e : Emission). e.sequence) (emitted_by forms facts form given 0))
      (given_by forms facts insns form makes.operands) sequence makes.gives
      (λ given is gives. sequence_hard (emitted_by forms facts form given 0) sequence
      (λ e at. emitted_hard constants instances facts form given 0 e none (given_hard facts insns form makes.operands given operands_hard is) at) gives)

  rewrites_hard : (f : Function) (place count form : ℕ) (sequence : List Rtx) → IsHardFunction f → Rewrites forms f place count form sequence →
      AreHard sequence
  rewrites_hard f place count form sequence hard w =
      makes_hard w.facts (patterns_from f place count) form sequence w.known.new_pseudos (window_hard f place count hard) w.makes

  -- ---- functions

  hard_from : (f : Function) (place : ℕ) (answer : Answer) (g : Function) → answer ≡ Ok g → CoverFrom forms f place answer →
      IsHardFunction f → IsHardFunction g
  hard_from _ _ _ g same (CoverFrom.done f place past) hard = let is : f ≡ g = cc in subst IsHardFunction is hard
  hard_from _ _ _ g same (CoverFrom.stays f place answer within left more) hard = hard_from f (place + 1) answer g same more hard
  hard_from _ _ _ g same (CoverFrom.refused f place count form i last s e at ends is comes) hard = absurd (let no : ⊥ = cc in no)
  hard_from _ _ _ g same (CoverFrom.goes f h place count form i last s answer at ends is comes more) hard =
      let uid = greatest_uid f.insns + 1 in
      let made = made_hard last uid s (rewrites_hard f place count form s hard is.rewrites) in
      hard_from h (place + length s) answer g same more
      (subst IsHardFunction (sym (comes_to f h place (place + count) i last (name_at (names_of forms) form) s comes))
      (replaced_hard f place (place + count) (insns_for last uid s) hard made))

  pub peepholes_hard : (f g : Function) → IsHardFunction f → CoverComes forms f (Ok g) → IsHardFunction g
  peepholes_hard f g hard comes = hard_from f 0 (Ok g) g refl comes hard
