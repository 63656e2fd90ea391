-- What the shape of instructions gives, and how a symbolic state goes on beside the state of a run at a plain instruction.
use Rattle.std.proofs.Common.{◌≡◌, ℕ, suc, ◌+◌, Bool, true, false, List, [], ◌∷◌, ◌++◌, length, Option, Some, None, refl, sym, ◌∙◌, ap, subst, arith}
use Rattle.std.specs.Prelude.{if◌then◌else◌}
use Rattle.rtx_tree.specs.declared.function.Insn.{Insn}
use Rattle.rtx_tree.specs.declared.function.Kind.TheVariants as kind
use Rattle.rtx_tree.specs.declared.machine.RangeAt.{RangeAt}
use Rattle.rtx_tree.specs.declared.memories.MemByte.{MemByte}
use Rattle.rtl_step.specs.Regs.{Regs}
use Rattle.rtl_step.specs.Effect.{effects_of, regs_after, memory_after}
use Rattle.reg_uses.specs.Uses.{is_return}
use Rattle.rtl_func.specs.Kinds.{kinds_agree}
use Rattle.rtl_func.specs.Modes.{shapes_agree}
use Rattle.rtl_func.specs.Calls.{call_result_agrees}
use Rattle.term_mean.specs.Meaning.{Valuation}
use Rattle.term_mean.specs.Stores.{Store, Follow}
use Rattle.law_window_runs.specs.Insns.{InsnsCome, goes_on, insns_come}
use Rattle.sym_insns.specs.sym_state.State.{State, Runs, ran}
use Rattle.sym_insns.specs.Effects as spec
use Rattle.sym_insns.specs.Shape.{all_natural, is_shaped, is_end, fits_kind, bad_from}
use Rattle.law_insn_terms.specs.Needs.{First, are_met}
use Rattle.law_insn_terms.specs.Shows.{IsOf}
use Rattle.law_insn_terms.proofs.CallShapes.{IsCall, call_shape}
use Rattle.law_insn_terms.proofs.Ends.{Way}
use Rattle.law_insn_terms.proofs.Growth.{made_jump, made_call}
use Rattle.law_insn_terms.proofs.JumpShapes.{IsJump, jump_shape}
use Rattle.law_insn_terms.proofs.Plain.{all_needs, all_meant, AllLeadOn, effects_are, plain_shows}
use Rattle.law_insn_terms.proofs.Bools.{both_of}

-- ---- what the shape of instructions gives

pub jump_of : (i : Insn) → is_shaped i ≡ true → i.kind ≡ kind.Jump → is_return i ≡ false → IsJump i.pattern
jump_of i shaped jumps returns =
    let first = both_of (kinds_agree i.kind i.pattern) _ shaped in
    let rest = both_of (shapes_agree i.pattern) _ first.1 in
    jump_shape i.pattern rest.0 (sym (ap (λ k. kinds_agree k i.pattern) jumps) ∙ first.0) returns

pub call_of : (i : Insn) → is_shaped i ≡ true → i.kind ≡ kind.Call → IsCall i.pattern
call_of i shaped calls =
    let first = both_of (kinds_agree i.kind i.pattern) _ shaped in
    let rest = both_of (shapes_agree i.pattern) _ first.1 in
    let more = both_of (all_natural i.pattern) _ rest.1 in
    let last = both_of (call_result_agrees i.kind i.pattern i.uses) _ more.1 in
    call_shape i.pattern i.uses rest.0 (sym (ap (λ k. kinds_agree k i.pattern) calls) ∙ first.0) (sym (ap (λ k. call_result_agrees k i.pattern i.uses) calls) ∙ last.0)

pub record FitsAll (index : ℕ) (i : Insn) (insns : List Insn) : Type 0 where
  pub here : fits_kind i.kind i (is_end insns) ≡ true
  pub rest : bad_from (index + 1) insns ≡ None

pub fits_all : (index : ℕ) (i : Insn) (insns : List Insn) → bad_from index (i ∷ insns) ≡ None → FitsAll index i insns
fits_all index i insns bad = by (fits_kind i.kind i (is_end insns)) refl bad
  where
    by : (b : Bool) → fits_kind i.kind i (is_end insns) ≡ b → (if b then bad_from (index + 1) insns else Some index) ≡ None → FitsAll index i insns
    by true here rest = record { here = here; rest = rest }
    by false here rest = absurd (let no : ⊥ = cc in no)

-- instructions that run have shapes that fit, and a last state
pub record DoesRun (shape : Option ℕ) (last : Option State) (s : State) : Type 0 where
  pub fits : shape ≡ None
  pub goes : last ≡ Some s

pub does_run : (shape : Option ℕ) (last : Option State) (s : State) → ran shape last ≡ Runs s → DoesRun shape last s
does_run (Some index) last s is = absurd (let no : ⊥ = cc in no)
does_run None None s is = absurd (let no : ⊥ = cc in no)
does_run None (Some t) s is = let same : t ≡ s = cc in record { fits = refl; goes = ap Some same }

-- what follows the first stores
pub follow_behind : (v : Valuation) (first later : List Store) (n : ℕ) → Follow v n (first ++ later) → Follow v (n + length first) later
follow_behind v [] later n follows = subst (λ k. Follow v k later) (plus n) follows
  where
    plus : (k : ℕ) → k ≡ k + 0
    plus k = omega arith
follow_behind v (s ∷ first) later n follows =
    let moved : suc n + length first ≡ n + suc (length first) = omega arith in
    subst (λ k. Follow v k later) moved (follow_behind v first later (suc n) follows.1)

-- what comes behind an instruction
abbrev pub rest_of : First → List RangeAt → List Insn → InsnsCome → Option InsnsCome
rest_of f ranges insns came = goes_on came.ending came (insns_come f.symbols ranges insns)

module _ (v : Valuation) (f : First) (of : IsOf v f) where
  -- ---- a plain instruction

  pub plain_way : (index : ℕ) (i : Insn) (s : State) (regs : Regs) (memory : List MemByte) (way : Way v f s regs memory) →
      are_met v f (all_needs (spec.effects_of s.regs s.stores i.pattern)) ≡ true → AllLeadOn v f s.stores (spec.effects_of s.regs s.stores i.pattern) →
      Way v f (spec.after_plain index i.pattern s) (regs_after (all_meant v (spec.effects_of s.regs s.stores i.pattern)) regs) (memory_after (all_meant v (spec.effects_of s.regs s.stores i.pattern)) memory)
  plain_way index i s regs memory way met leads =
      let es : List spec.Effected = spec.effects_of s.regs s.stores i.pattern in record {
        no_call = made_call index es s ∙ way.no_call;
        no_jump = made_jump index es s ∙ way.no_jump;
        shows = plain_shows v f s regs memory of way.shows index i.pattern met leads;
      }

  pub plain_is : (i : Insn) (s : State) (regs : Regs) (memory : List MemByte) (way : Way v f s regs memory) (b : Bool) → are_met v f (all_needs (spec.effects_of s.regs s.stores i.pattern)) ≡ b →
      effects_of f.symbols regs memory i.pattern ≡ (if b then Some (all_meant v (spec.effects_of s.regs s.stores i.pattern)) else None)
  plain_is i s regs memory way b is =
      effects_are v f s regs memory of way.shows i.pattern ∙ ap (λ b. if b then Some (all_meant v (spec.effects_of s.regs s.stores i.pattern)) else None) is
