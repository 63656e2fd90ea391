-- What the last instruction of a window leaves: a call hands over different ones of a0 to a7, and then there is no jump; a jump has a target.
use Rattle.std.proofs.Common.{◌≡◌, ℕ, ◌+◌, ◌&&◌, not, true, false, List, [], ◌∷◌, map, Option, Some, None, refl, sym, ◌∙◌, ap, subst}
use Rattle.std.specs.Prelude.{is_some}
use Rattle.std.specs.List.{list_all}
use Rattle.rtx_tree.specs.declared.function.ArgUse.{ArgUse}
use Rattle.rtx_tree.specs.declared.function.Insn.{Insn}
use Rattle.rtx_tree.specs.declared.function.Kind.{Kind}
use Rattle.rtx_tree.specs.declared.function.Kind.TheVariants as kind
use Rattle.rtx_tree.specs.declared.tree.Rtx.{out-Rtx}
use Rattle.reg_uses.specs.Uses.{is_return}
use Rattle.rtl_func.specs.Modes.{shapes_agree}
use Rattle.rtl_func.specs.Calls.{is_argument, use_is_argument, are_distinct, used_registers, has_result, are_lawful_uses, call_result_agrees}
use Rattle.sym_insns.specs.sym_state.State.{State, Changed, Arg, Call, Runs, falls, start}
use Rattle.sym_insns.specs.Effects as spec
use Rattle.sym_insns.specs.Run.{after_kind, run_from, run}
use Rattle.sym_insns.specs.Shape.{all_natural, is_shaped, is_end, fits_kind, bad_from, bad_insn}
use Rattle.law_insn_terms.proofs.Bools.{both_of}
use Rattle.law_insn_terms.proofs.Growth.{made_jump, made_call, goes_from, jump_test, jump_is}
use Rattle.law_insn_terms.proofs.Ways.{fits_all, does_run}

-- different ones of a0 to a7
pub record HandsOver (call : Call) : Type 0 where
  pub arguments : list_all (λ a. is_argument a.reg) call.args ≡ true
  pub distinct : are_distinct (map (λ a. a.reg) call.args) ≡ true

same_arguments : (regs : List Changed) (uses : List ArgUse) → list_all (λ a. is_argument a.reg) (spec.args_of regs uses) ≡ list_all use_is_argument uses
same_arguments regs [] = refl
same_arguments regs (arg ∷ uses) = ap (λ b. is_argument arg.reg && b) (same_arguments regs uses)

same_registers : (regs : List Changed) (uses : List ArgUse) → map (λ a. a.reg) (spec.args_of regs uses) ≡ used_registers uses
same_registers regs [] = refl
same_registers regs (arg ∷ uses) = ap (λ rest. arg.reg ∷ rest) (same_registers regs uses)

uses_lawful : (i : Insn) → is_shaped i ≡ true → i.kind ≡ kind.Call → are_lawful_uses i.uses ≡ true
uses_lawful i shaped is =
    let modes = both_of (shapes_agree i.pattern) _ (both_of _ _ shaped).1 in
    let numbers = both_of (all_natural i.pattern) _ modes.1 in
    let result = (both_of (call_result_agrees i.kind i.pattern i.uses) _ numbers.1).0 in
    (both_of (has_result i.pattern) (are_lawful_uses i.uses) (sym (ap (λ k. call_result_agrees k i.pattern i.uses) is) ∙ result)).1

-- ---- the end of a run

-- where there is a call there is no jump, and where a jump has no target there is none
pub record EndsWell (t : State) : Type 0 where
  pub hands_over : (call : Call) → t.call ≡ Some call → HandsOver call
  pub no_jump : (call : Call) → t.call ≡ Some call → t.jump ≡ falls
  pub no_target : t.jump.target ≡ None → t.jump ≡ falls

abbrev KindEnds : Kind → Insn → List Insn → Type 0
KindEnds k i insns =
    (index : ℕ) (s t : State) → fits_kind k i (is_end insns) ≡ true → bad_from (index + 1) insns ≡ None → run_from (index + 1) insns (after_kind k index i s) ≡ Some t →
    s.call ≡ None → s.jump ≡ falls → EndsWell t

abbrev EndsFrom : List Insn → Type 0
EndsFrom insns = (index : ℕ) (s t : State) → bad_from index insns ≡ None → run_from index insns s ≡ Some t → s.call ≡ None → s.jump ≡ falls → EndsWell t

absent : {A : Type 0} (o : Option Call) (call : Call) → o ≡ None → o ≡ Some call → A
absent o call none is = let wrong : None ≡ Some call = sym none ∙ is in absurd (let no : ⊥ = cc in no)

fallen : (t : State) → t.call ≡ None → t.jump ≡ falls → EndsWell t
fallen t none jump = record { hands_over = λ call is. absent t.call call none is; no_jump = λ call is. jump; no_target = λ is. jump }

plain_ends : (i : Insn) (insns : List Insn) → EndsFrom insns → KindEnds kind.Plain i insns
plain_ends i insns on index s t fits bad goes call jump =
    on (index + 1) (spec.after_plain index i.pattern s) t bad goes (made_call index (spec.effects_of s.regs s.stores i.pattern) s ∙ call) (made_jump index (spec.effects_of s.regs s.stores i.pattern) s ∙ jump)

has_one : (o : Option ℕ) → is_some o ≡ true → o ≡ None → ⊥
has_one None is none = let no : ⊥ = cc in no
has_one (Some uid) is none = let no : ⊥ = cc in no

jump_ends : (i : Insn) → KindEnds kind.Jump i []
jump_ends i index s t fits bad goes call jump =
    let t_is : spec.after_jump index i.pattern s ≡ t = cc in
    let made : t ≡ spec.jumps index (jump_test (spec.jump_source (out-Rtx i.pattern).kids i.pattern) s) (spec.jump_label (spec.jump_source (out-Rtx i.pattern).kids i.pattern)) s =
    sym t_is ∙ jump_is index i.pattern s in
    let target : spec.has_target i.pattern ≡ true = (both_of (spec.has_target i.pattern) true (both_of (not (is_return i)) _ (both_of (is_shaped i) _ fits).1).1).0 in
    let none : t.call ≡ None = ap (λ (t : State). t.call) made ∙ call in record {
      hands_over = λ call is. absent t.call call none is;
      no_jump = λ call is. absent t.call call none is;
      no_target = λ is. absurd (has_one (spec.target_uid (spec.jump_label (spec.jump_source (out-Rtx i.pattern).kids i.pattern))) target (sym (ap (λ (t : State). t.jump.target) made) ∙ is));
    }

call_ends : (i : Insn) → i.kind ≡ kind.Call → KindEnds kind.Call i []
call_ends i is index s t fits bad goes call jump =
    let t_is : spec.after_call index i.pattern i.uses s ≡ t = cc in
    subst EndsWell t_is (record { hands_over = handed; no_jump = λ made same. jump; no_target = λ none. jump })
  where
    args_of : Option Call → List Arg
    args_of None = []
    args_of (Some call) = call.args

    handed : (made : Call) → (spec.after_call index i.pattern i.uses s).call ≡ Some made → HandsOver made
    handed made same =
        let lawful = both_of (list_all use_is_argument i.uses) _ (uses_lawful i (both_of (is_shaped i) _ fits).0 is) in
        let made_is : spec.args_of s.regs i.uses ≡ made.args = ap args_of same in record {
          arguments = ap (list_all (λ a. is_argument a.reg)) (sym made_is) ∙ (same_arguments s.regs i.uses ∙ lawful.0);
          distinct = ap (λ args. are_distinct (map (λ a. a.reg) args)) (sym made_is) ∙ (ap are_distinct (same_registers s.regs i.uses) ∙ lawful.1);
        }

jump_more : (i j : Insn) (insns : List Insn) → KindEnds kind.Jump i (j ∷ insns)
jump_more i j insns index s t fits bad goes call jump =
    let last : false ≡ true = (both_of (spec.has_target i.pattern) false (both_of (not (is_return i)) _ (both_of (is_shaped i) _ fits).1).1).1 in absurd (let no : ⊥ = cc in no)

call_more : (i j : Insn) (insns : List Insn) → KindEnds kind.Call i (j ∷ insns)
call_more i j insns index s t fits bad goes call jump = let last : false ≡ true = (both_of (is_shaped i) false fits).1 in absurd (let no : ⊥ = cc in no)

label_none : (i : Insn) (insns : List Insn) → KindEnds kind.Label i insns
label_none i insns index s t fits bad goes call jump = absurd (let no : ⊥ = cc in no)

barrier_passed : (i : Insn) (insns : List Insn) → EndsFrom insns → KindEnds kind.Barrier i insns
barrier_passed i insns on index s t fits bad goes call jump = on (index + 1) s t bad goes call jump

kind_ends : (k : Kind) (i : Insn) (insns : List Insn) → i.kind ≡ k → EndsFrom insns → KindEnds k i insns
kind_ends kind.Plain i insns is on = plain_ends i insns on
kind_ends kind.Jump i [] is on = jump_ends i
kind_ends kind.Jump i (j ∷ insns) is on = jump_more i j insns
kind_ends kind.Call i [] is on = call_ends i is
kind_ends kind.Call i (j ∷ insns) is on = call_more i j insns
kind_ends kind.Label i insns is on = label_none i insns
kind_ends kind.Barrier i insns is on = barrier_passed i insns on

ends_from : (insns : List Insn) → EndsFrom insns
ends_from [] index s t bad goes call jump = let t_is : s ≡ t = cc in subst EndsWell t_is (fallen s call jump)
ends_from (i ∷ insns) index s t bad goes call jump =
    let fits = fits_all index i insns bad in
    kind_ends i.kind i insns refl (ends_from insns) index s t fits.here fits.rest (goes_from insns index i s t goes) call jump

-- a window ends in one way
pub ends_well : (insns : List Insn) (s : State) → run insns ≡ Runs s → EndsWell s
ends_well insns s runs = let does = does_run (bad_insn insns) (run_from 0 insns start) s runs in ends_from insns 0 start s does.fits does.goes refl refl
