-- The registers that a window of instructions needs are those that it uses.
use Rattle.std.proofs.lemmas.List.{append-nil}
use Rattle.std.proofs.lemmas.List.Elements.{All-append, All-cons}
use Rattle.std.proofs.Common.{◌≡◌, ℕ, suc, ◌+◌, ◌&&◌, not, Bool, true, false, List, [], ◌∷◌, ◌++◌, Some, None, refl, sym, ◌∙◌, ap, subst, arith}
use Rattle.std.specs.Prelude.{is_some}
use Rattle.std.specs.List.{All}
use Rattle.rtx_tree.specs.declared.function.Insn.{Insn}
use Rattle.rtx_tree.specs.declared.function.Kind.{Kind}
use Rattle.rtx_tree.specs.declared.function.Kind.TheVariants as kind
use Rattle.rtx_tree.specs.declared.tree.Rtx.{out-Rtx}
use Rattle.rtl_step.specs.Call as call
use Rattle.reg_uses.specs.Effects as uses
use Rattle.reg_uses.specs.Uses.{has_argument, insn_uses, insn_defines, is_return}
use Rattle.law_window_runs.specs.Uses.{window_uses}
use Rattle.sym_insns.specs.sym_state.State.{State, Changed, Need, NeedAt, Register, Lost, Access, Divisor, Symbol, Runs, start, needs_at}
use Rattle.sym_insns.specs.sym_state.Registers.{held}
use Rattle.sym_insns.specs.Effects as spec
use Rattle.sym_insns.specs.Run.{after_kind, run_from, run}
use Rattle.sym_insns.specs.Shape.{is_shaped, is_end, fits_kind, bad_from, bad_insn}
use Rattle.law_insn_terms.proofs.Growth.{made_needs, goes_from, jump_test, jump_is}
use Rattle.law_insn_terms.proofs.Kept.{natural_insn, kind_held}
use Rattle.law_insn_terms.proofs.Plain.{all_needs}
use Rattle.law_insn_terms.proofs.Reading.{NeedIs, NeedsAre, AreMore, needs_joined, needs_more}
use Rattle.law_insn_terms.proofs.Ways.{jump_of, call_of, fits_all, does_run}
use Rattle.law_insn_terms.proofs.Needed.{plain_needs, jump_needs, called_needs, args_need}
use Rattle.law_insn_terms.proofs.Bools.{both_of, or_first, or_later, either, not_true}

-- ---- what an instruction needs anew

record NewNeeds (index : ℕ) (i : Insn) (s next : State) : Type 0 where
  pub needs : List Need
  pub needs_are : next.needs ≡ s.needs ++ needs_at index needs
  pub they_are : NeedsAre s.regs (λ reg. insn_uses i reg) needs

pattern_more : (i : Insn) → AreMore (λ reg. uses.pattern_uses reg i.pattern) (λ reg. insn_uses i reg)
pattern_more i q is = or_first (uses.pattern_uses (suc q) i.pattern) _ is

arguments_more : (i : Insn) → AreMore (λ reg. has_argument reg i.uses) (λ reg. insn_uses i reg)
arguments_more i q is = or_later (uses.pattern_uses (suc q) i.pattern) _ is

abbrev KindNeeds : Kind → Insn → Type 0
KindNeeds k i = (index : ℕ) (s : State) (last : Bool) → fits_kind k i last ≡ true → NewNeeds index i s (after_kind k index i s)

nothing_new : (index : ℕ) (i : Insn) (s : State) → NewNeeds index i s s
nothing_new index i s = record { needs = []; needs_are = sym (append-nil s.needs); they_are = tt }

plain_new : (i : Insn) → KindNeeds kind.Plain i
plain_new i index s last shaped =
    let needs : List Need = all_needs (spec.effects_of s.regs s.stores i.pattern) in record {
      needs = needs;
      needs_are = made_needs index (spec.effects_of s.regs s.stores i.pattern) s;
      they_are = needs_more s.regs (λ reg. uses.pattern_uses reg i.pattern) (λ reg. insn_uses i reg) (pattern_more i) needs (plain_needs s.regs s.stores i.pattern (natural_insn i shaped));
    }

jump_new : (i : Insn) → i.kind ≡ kind.Jump → KindNeeds kind.Jump i
jump_new i is index s last fits =
    let first = both_of (is_shaped i) _ fits in
    let rest = both_of (not (is_return i)) _ first.1 in
    let needs : List Need = (jump_test (spec.jump_source (out-Rtx i.pattern).kids i.pattern) s).needs in record {
      needs = needs;
      needs_are = ap (λ (t : State). t.needs) (jump_is index i.pattern s);
      they_are =
          needs_more s.regs (λ reg. uses.pattern_uses reg i.pattern) (λ reg. insn_uses i reg) (pattern_more i) needs
          (jump_needs s.regs s.stores s refl refl i.pattern (jump_of i first.0 is (not_true (is_return i) rest.0)) (natural_insn i first.0));
    }

call_new : (i : Insn) → i.kind ≡ kind.Call → KindNeeds kind.Call i
call_new i is index s last fits =
    let shaped = (both_of (is_shaped i) last fits).0 in
    let target : List Need = (spec.made_target s.regs s.stores (call.target_of (call.call_part i.pattern))).needs in
    let arguments : List Need = spec.args_needs s.regs i.uses in record {
      needs = target ++ arguments;
      needs_are = refl;
      they_are =
          needs_joined s.regs (λ reg. insn_uses i reg) target arguments
          (needs_more s.regs (λ reg. uses.pattern_uses reg i.pattern) (λ reg. insn_uses i reg) (pattern_more i) target (called_needs s.regs s.stores i.pattern (call_of i shaped is) (natural_insn i shaped)))
          (needs_more s.regs (λ reg. has_argument reg i.uses) (λ reg. insn_uses i reg) (arguments_more i) arguments (args_need s.regs s.stores i.uses));
    }

label_new : (i : Insn) → KindNeeds kind.Label i
label_new i index s last fits = absurd (let no : ⊥ = cc in no)

barrier_new : (i : Insn) → KindNeeds kind.Barrier i
barrier_new i index s last fits = nothing_new index i s

kind_new : (k : Kind) (i : Insn) → i.kind ≡ k → KindNeeds k i
kind_new kind.Plain i is = plain_new i
kind_new kind.Jump i is = jump_new i is
kind_new kind.Call i is = call_new i is
kind_new kind.Label i is = label_new i
kind_new kind.Barrier i is = barrier_new i

-- ---- windows

abbrev pub IsGoodNeed : (ℕ → Type 0) → Need → Type 0
IsGoodNeed good (Register reg w) = good reg
IsGoodNeed good _ = Unit {0}

abbrev pub IsGood : (ℕ → Type 0) → NeedAt → Type 0
IsGood good n = IsGoodNeed good n.what

-- where a need is of a register, the window uses the register
abbrev pub IsUsed : List Insn → NeedAt → Type 0
IsUsed insns n = IsGood (λ reg. window_uses insns reg ≡ true) n

good_need : (good : ℕ → Type 0) (regs : List Changed) (some : ℕ → Bool) → ((q : ℕ) → is_some (held regs (suc q)) ≡ false → some (suc q) ≡ true → good (suc q)) → (n : Need) → NeedIs regs some n → IsGoodNeed good n
good_need good regs some give (Register reg w) is = subst good (sym is.reg_is) (give is.below is.unchanged is.is_one)
good_need good regs some give (Lost reg w) is = tt
good_need good regs some give (Access address w) is = tt
good_need good regs some give (Divisor t) is = tt
good_need good regs some give (Symbol name) is = tt

good_needs : (good : ℕ → Type 0) (regs : List Changed) (some : ℕ → Bool) → ((q : ℕ) → is_some (held regs (suc q)) ≡ false → some (suc q) ≡ true → good (suc q)) → (index : ℕ) (needs : List Need) →
    NeedsAre regs some needs → All (IsGood good) (needs_at index needs)
good_needs good regs some give index [] are = λ k d less. absurd (omega (arith, less))
good_needs good regs some give index (n ∷ needs) are =
    All-cons (IsGood good) (record { index = index; what = n }) (needs_at index needs) (good_need good regs some give n are.0) (good_needs good regs some give index needs are.1)

used_from : (good : ℕ → Type 0) (insns : List Insn) (index : ℕ) (s t : State) → bad_from index insns ≡ None → run_from index insns s ≡ Some t → All (IsGood good) s.needs →
    ((q : ℕ) → is_some (held s.regs (suc q)) ≡ false → window_uses insns (suc q) ≡ true → good (suc q)) → All (IsGood good) t.needs
used_from good [] index s t bad goes before give = let same : s ≡ t = cc in subst (λ (t : State). All (IsGood good) t.needs) same before
used_from good (i ∷ insns) index s t bad goes before give =
    let fits = fits_all index i insns bad in
    let next : State = after_kind i.kind index i s in
    let new = kind_new i.kind i refl index s (is_end insns) fits.here in
    let here = good_needs good s.regs (λ reg. insn_uses i reg) (λ q held used. give q held (or_first (insn_uses i (suc q)) _ used)) index new.needs new.they_are in
    let all = subst (All (IsGood good)) (sym new.needs_are) (All-append (IsGood good) s.needs (needs_at index new.needs) before here) in
    used_from good insns (index + 1) next t fits.rest (goes_from insns index i s t goes) all (λ q none used.
    let kept = either (is_some (held s.regs (suc q))) (insn_defines i (suc q)) (sym (kind_held i.kind i refl index s (is_end insns) q fits.here) ∙ none) in
    give q kept.0 (or_later (insn_uses i (suc q)) _ (ap (λ b. not b && window_uses insns (suc q)) kept.1 ∙ used)))

-- the registers that a window of instructions needs are those that it uses
pub needs_used : (insns : List Insn) (s : State) → run insns ≡ Runs s → All (IsUsed insns) s.needs
needs_used insns s runs =
    let does = does_run (bad_insn insns) (run_from 0 insns start) s runs in
    used_from (λ reg. window_uses insns reg ≡ true) insns 0 start s does.fits does.goes (λ k d less. absurd (omega (arith, less))) (λ q none used. used)
