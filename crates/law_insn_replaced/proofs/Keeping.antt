-- An instruction replaced by a sequence that is equated with it.
use Rattle.std.proofs.Common.{◌≡◌, ℕ, ◌+◌, ◌-◌, ◌^◌, ◌&&◌, ◌<◌, ◌≤◌, Bool, true, false, List, [], ◌∷◌, ◌++◌, length, nat_lt, Result, Ok, Some, refl, sym, ap, subst, ◌∙◌, arith, tests}
use Rattle.std.specs.Prelude.{slice_get, take, drop, if◌then◌else◌}
use Rattle.std.specs.List.{list_all, AllByRecursion}
use Rattle.std.proofs.lemmas.Bool.{true≢false, and_parts, and_from, and_right}
use Rattle.std.proofs.lemmas.Bool.Decides.{nat_tests}
use Rattle.rtx_tree.specs.declared.function.ArgUse.{ArgUse}
use Rattle.rtx_tree.specs.declared.function.Insn.{Insn}
use Rattle.rtx_tree.specs.declared.function.Function.{Function}
use Rattle.rtx_tree.specs.declared.function.Kind.{Kind}
use Rattle.rtx_tree.specs.declared.function.Kind.TheVariants as kind
use Rattle.rtx_tree.specs.declared.tree.Rtx.{Rtx}
use Rattle.rtl_func.specs.Kinds.{is_jump_tree, is_call_tree}
use Rattle.rtl_func.specs.Calls.{has_argument, use_is_argument, argument_registers}
use Rattle.rtl_func.specs.Nodes.{nodes_of}
use Rattle.rtl_chain.specs.Counts.{greatest_uid}
use Rattle.live.specs.Live.{IsLiveAfter, AreLiveAfter}
use Rattle.insn_replace.specs.sym_diff.Registers.{is_live}
use Rattle.insn_replace.proofs.law_insn_terms.Kept.{natural_insn}
use Rattle.law_pass_needs.specs.form_needs.Needs.{is_kind}
use Rattle.new_insns.specs.Made.{kind_of, uses_between, insn_for, insns_for}
use Rattle.new_insns.specs.Replaced.{window, replaced}
use Rattle.insn_replace.specs.equate.Side.{Insns, is_one_return, both_return}
use Rattle.insn_replace.specs.equate.Equated.{Equated}
use Rattle.insn_replace.specs.equate.Told.{Alike}
use Rattle.insn_replace.proofs.equate.VerdictLaws.{verdict_same}
use Rattle.insn_replace.proofs.equate.Soundness.{few_keep}
use Rattle.insn_replace.specs.Replace.{made, ReplacedComes}
use Rattle.law_function_kept.specs.Keeps.{Keeps}
use Rattle.law_window_replaced.proofs.law_kept_composed.Keeping.{keeps_refl, keeps_trans}
use Rattle.law_window_replaced.specs.law_window_kept.Same.{CanReplace}
use Rattle.law_window_replaced.specs.law_window_lines.ForLines.{MarksAreEmpty}
use Rattle.law_window_replaced.specs.Natural.{RegistersAreNatural}
use Rattle.law_window_replaced.proofs.Replacing.{replaced_keeps}
use Rattle.md_emit.specs.Emitted.{keeps_to_arguments}
use Rattle.law_pass_needs.specs.Left.{SameMarks}
use Rattle.law_pass_needs.specs.Ready.{IsInsnReady}
use Rattle.law_pass_needs.specs.Reloadable.{IsInsnReloadable, LeadsWithin}
use Rattle.law_pass_needs.proofs.Places.{all_joined, all_taken, all_dropped, at_place}
use Rattle.law_pass_needs.proofs.Made.{all_made_ready}
use Rattle.law_pass_needs.proofs.Ready.{replaced_ready}
use Rattle.law_insn_replaced.specs.Sound.{IsSound, PassKeeps}
use Rattle.law_insn_replaced.proofs.Jumps.{new_lead}
use Rattle.law_insn_replaced.proofs.Labels.{all_within_too}
use Rattle.law_insn_replaced.proofs.Marks.{no_mark, made_kind, replaced_same, same_refl, same_trans}
use Rattle.law_insn_replaced.proofs.Shapes.{IsNoBarrier, IsShaped, runs_shaped}
use Rattle.law_insn_replaced.proofs.Uids.{replaced_differ}
use Rattle.law_insn_replaced.proofs.Vars.{LeavesVars, leaves_alone, all_leave}
use Rattle.law_insn_replaced.proofs.Windows.{at_within, window_one}

-- ---- the instructions that are made

kind_no_barrier : (jumps calls : Bool) → (if jumps then kind.Jump else (if calls then kind.Call else kind.Plain)) ≡ kind.Barrier → ⊥
kind_no_barrier true calls is = let none : ⊥ = cc in none
kind_no_barrier false true is = let none : ⊥ = cc in none
kind_no_barrier false false is = let none : ⊥ = cc in none

made_no_barrier : (old : Insn) (uid : ℕ) (x : Rtx) → IsNoBarrier (insn_for old uid x)
made_no_barrier old uid x is = kind_no_barrier (is_jump_tree x) (is_call_tree x) is

none_barriers : (old : Insn) (uid : ℕ) (sequence : List Rtx) → AllByRecursion IsNoBarrier (insns_for old uid sequence)
none_barriers old uid [] = tt
none_barriers old uid (x ∷ []) = (made_no_barrier old old.uid x, tt)
none_barriers old uid (x ∷ y ∷ more) = (made_no_barrier old uid x, none_barriers old (uid + 1) (y ∷ more))

abbrev pub Keep : Rtx → Type 0
Keep x = keeps_to_arguments (x ∷ []) ≡ true

-- a call in the place of a call is handed what that was
handed_over : (a b : Kind) (uses : List ArgUse) → list_all use_is_argument uses ≡ true → list_all use_is_argument (uses_between a b uses) ≡ true
handed_over kind.Call kind.Call uses all = all
handed_over _ _ uses all = refl

one_reloadable : (old : Insn) (uid : ℕ) (x : Rtx) → list_all use_is_argument old.uses ≡ true → Keep x → IsShaped (insn_for old uid x) →
    LeavesVars (insn_for old uid x) → IsInsnReloadable (insn_for old uid x)
one_reloadable old uid x handed keep shaped leaves = record {
  shaped = λ none. shaped;
  empty = λ mark. absurd (true≢false (sym mark ∙ made_kind x));
  natural = natural_insn (insn_for old uid x) shaped;
  arguments = λ none.
      let own = (and_parts (argument_registers x []) true keep).0 in
      and_from (list_all has_argument (nodes_of x)) (list_all use_is_argument (uses_between old.kind (kind_of x) old.uses))
      (and_parts (list_all has_argument (nodes_of x)) true own).0 (handed_over old.kind (kind_of x) old.uses handed);
  vars = leaves;
}

all_reloadable : (old : Insn) (uid : ℕ) (sequence : List Rtx) → list_all use_is_argument old.uses ≡ true → AllByRecursion Keep sequence →
    AllByRecursion IsShaped (insns_for old uid sequence) → AllByRecursion LeavesVars (insns_for old uid sequence) →
    AllByRecursion IsInsnReloadable (insns_for old uid sequence)
all_reloadable old uid [] handed keep shaped leave = tt
all_reloadable old uid (x ∷ []) handed keep shaped leave = (one_reloadable old old.uid x handed keep.0 shaped.0 leave.0, tt)
all_reloadable old uid (x ∷ y ∷ more) handed keep shaped leave =
    (one_reloadable old uid x handed keep.0 shaped.0 leave.0, all_reloadable old (uid + 1) (y ∷ more) handed keep.1 shaped.1 leave.1)

-- ---- the function with the sequence

no_line : (before after : List Insn) → both_return before (Insns after) ≡ false
no_line before after = and_right (is_one_return before) false refl

module _ (f : Function) (place : ℕ) (i : Insn) (at : slice_get f.insns place ≡ Some i) (sequence : List Rtx) (live : List ℕ)
    (are : AreLiveAfter f place live)
    (equated : Equated (i ∷ []) (Insns (made f i sequence)) live) where
  abbrev new : List Insn
  new = made f i sequence

  abbrev after : Function
  after = replaced f place (place + 1) new

  -- what is live behind the window
  abbrev Live : ℕ → Type 0
  Live reg = IsLiveAfter f reg (place + 1 - 1)

  compared : (reg : ℕ) → Live reg → is_live live reg ≡ true
  compared reg lives =
      let back : place + 1 - 1 ≡ place = omega arith in
      (are.each reg).1 (subst (IsLiveAfter f reg) back lives)

  after_keeps : MarksAreEmpty f → RegistersAreNatural f → Keeps f after
  after_keeps marks natural =
      let within = at_within f.insns place i at in
      replaced_keeps f place (place + 1) new (omega arith) (omega (arith, within)) marks natural
      (subst (λ w. CanReplace w new Live) (sym (window_one f place i at)) (few_keep (i ∷ []) new live equated Live compared))

  alike : Alike (i ∷ []) (Insns new) live
  alike = verdict_same (i ∷ []) (Insns new) live equated (no_line (i ∷ []) new)

  module _ (sound : IsSound f) (is : is_kind i.kind ≡ true) (keep : AllByRecursion Keep sequence) where
    own : IsInsnReloadable i
    own = at_place IsInsnReloadable f.insns sound.reloadable.each place i at

    handed : list_all use_is_argument i.uses ≡ true
    handed = (and_parts (list_all has_argument (nodes_of i.pattern)) (list_all use_is_argument i.uses) (own.arguments (no_mark i.kind is))).1

    reloadable : AllByRecursion IsInsnReloadable new
    reloadable = all_reloadable i (greatest_uid f.insns + 1) sequence handed keep
        (runs_shaped new alike.second (none_barriers i (greatest_uid f.insns + 1) sequence) alike.runs_second)
        (all_leave (i ∷ []) new live alike.first alike.second alike.runs_first alike.runs_second alike.agree (leaves_alone i own.vars))

    same_marks : SameMarks f after
    same_marks = replaced_same f place i i (greatest_uid f.insns + 1) sequence at is

    lead : AllByRecursion (LeadsWithin f.insns) new
    lead = new_lead f.insns (i ∷ []) new live alike.first alike.second alike.runs_first alike.runs_second alike.agree
        (at_place (LeadsWithin f.insns) f.insns sound.reloadable.jumps place i at, tt)

    lead_behind : AllByRecursion (LeadsWithin after.insns) after.insns
    lead_behind = all_within_too f.insns after.insns after.insns same_marks.marks_are
        (all_joined (LeadsWithin f.insns) (take place f.insns) (new ++ drop (place + 1) f.insns)
        (all_taken (LeadsWithin f.insns) place f.insns sound.reloadable.jumps)
        (all_joined (LeadsWithin f.insns) new (drop (place + 1) f.insns) lead (all_dropped (LeadsWithin f.insns) (place + 1) f.insns sound.reloadable.jumps)))

    after_sound : IsSound after
    after_sound = record {
      ready = replaced_ready f place (place + 1) new sound.ready (all_made_ready i (greatest_uid f.insns + 1) sequence);
      reloadable = record {
        each = all_joined IsInsnReloadable (take place f.insns) (new ++ drop (place + 1) f.insns) (all_taken IsInsnReloadable place f.insns sound.reloadable.each)
            (all_joined IsInsnReloadable new (drop (place + 1) f.insns) reloadable (all_dropped IsInsnReloadable (place + 1) f.insns sound.reloadable.each));
        jumps = lead_behind;
        uids = replaced_differ f place i sequence at is sound.reloadable.uids;
      };
    }

    after_kept : PassKeeps f after
    after_kept = record {
      keeps = after_keeps (λ p reg j there mark. (at_place IsInsnReady f.insns sound.ready p j there).marks mark reg)
          (λ p j there. (at_place IsInsnReloadable f.insns sound.reloadable.each p j there).natural);
      sound = after_sound;
      same = same_marks;
    }

-- a function does what it did with an instruction replaced, whatever registers this names
pub replaced_does : (f : Function) (place : ℕ) (i : Insn) (rule : List ℕ) (sequence : List Rtx) (g : Function) → MarksAreEmpty f →
    RegistersAreNatural f → slice_get f.insns place ≡ Some i → ReplacedComes f place i rule sequence (Ok g) → Keeps f g
replaced_does f place i rule sequence _ marks natural at (ReplacedComes.replaced live are equated short) =
    after_keeps f place i at sequence live are equated marks natural

-- a replaced instruction keeps the function
pub insn_kept : (f : Function) (place : ℕ) (i : Insn) (rule : List ℕ) (sequence : List Rtx) (g : Function) → IsSound f →
    slice_get f.insns place ≡ Some i → is_kind i.kind ≡ true → AllByRecursion Keep sequence → ReplacedComes f place i rule sequence (Ok g) →
    PassKeeps f g
insn_kept f place i rule sequence _ sound at is keep (ReplacedComes.replaced live are equated short) =
    after_kept f place i at sequence live are equated sound is keep

-- and leaves the labels and barriers, whatever the function is
pub insn_same : (f : Function) (place : ℕ) (i : Insn) (rule : List ℕ) (sequence : List Rtx) (g : Function) → slice_get f.insns place ≡ Some i →
    is_kind i.kind ≡ true → ReplacedComes f place i rule sequence (Ok g) → SameMarks f g
insn_same f place i rule sequence _ at is (ReplacedComes.replaced live are equated short) =
    replaced_same f place i i (greatest_uid f.insns + 1) sequence at is

-- an instruction names of the hard registers a0 to a7 alone
pub pattern_keeps : (i : Insn) → is_kind i.kind ≡ true → IsInsnReloadable i → Keep i.pattern
pattern_keeps i is one =
    ap (λ b. (b && true) && true) (and_parts (list_all has_argument (nodes_of i.pattern)) (list_all use_is_argument i.uses) (one.arguments (no_mark i.kind is))).0

-- a sequence that keeps to a0 to a7 does so tree by tree
pub each_keeps : (sequence : List Rtx) → keeps_to_arguments sequence ≡ true → AllByRecursion Keep sequence
each_keeps [] keep = tt
each_keeps (x ∷ sequence) keep =
    let parts = and_parts (argument_registers x []) (list_all (λ y. argument_registers y []) sequence) keep in
    (ap (λ b. b && true) parts.0, each_keeps sequence parts.1)

-- ---- one behind the other

pub kept_refl : (f : Function) → IsSound f → PassKeeps f f
kept_refl f sound = record { keeps = keeps_refl f; sound = sound; same = same_refl f }

pub kept_trans : (f g h : Function) → PassKeeps f g → PassKeeps g h → PassKeeps f h
kept_trans f g h first second = record {
  keeps = keeps_trans f g h first.keeps second.keeps;
  sound = second.sound;
  same = same_trans f g h first.same second.same;
}
