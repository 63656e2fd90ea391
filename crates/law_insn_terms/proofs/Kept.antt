-- What a window of instructions defines is what is changed in the symbolic state after it, and what it leaves alone is kept there.
use Rattle.std.proofs.Math.Bool.{or-true, or-false, or_assoc}
use Rattle.std.proofs.lemmas.Bool.Decides.{nat_tests}
use Rattle.std.proofs.Common.{◌≡◌, ℕ, suc, ◌+◌, ◌==◌, ◌&&◌, ◌||◌, not, Bool, true, false, List, [], ◌∷◌, Some, None, refl, sym, ◌∙◌, ap, subst, arith}
use Rattle.std.specs.Prelude.{is_some}
use Rattle.std.specs.List.{AllByRecursion}
use Rattle.rtx_tree.specs.Code.{class_of_code}
use Rattle.rtx_tree.specs.Registers.{is_call_used}
use Rattle.rtx_tree.specs.Tree.{is_reg_numbered}
use Rattle.rtx_tree.specs.declared.code.Code.{Code}
use Rattle.rtx_tree.specs.declared.code.Code.TheVariants as code
use Rattle.rtx_tree.specs.declared.function.Insn.{Insn}
use Rattle.rtx_tree.specs.declared.function.Kind.{Kind}
use Rattle.rtx_tree.specs.declared.function.Kind.TheVariants as kind
use Rattle.rtx_tree.specs.declared.tree.Rtx.{Rtx, out-Rtx}
use Rattle.rtl_func.specs.Kinds.{is_nothing_by, is_nothing}
use Rattle.rtl_func.specs.Modes.{shapes_agree}
use Rattle.rtl_func.specs.Shapes.{number_at}
use Rattle.rtl_step.specs.Effect.{register_by}
use Rattle.reg_uses.specs.Effects as uses
use Rattle.reg_uses.specs.Uses.{is_call_kind, is_return, insn_defines}
use Rattle.law_window_runs.specs.Uses.{window_defines}
use Rattle.sym_insns.specs.sym_state.State.{State, Runs, start}
use Rattle.sym_insns.specs.sym_state.Registers.{held, left_by_call}
use Rattle.sym_insns.specs.Effects as spec
use Rattle.sym_insns.specs.Run.{after_kind, run_from, run}
use Rattle.sym_insns.specs.Shape.{all_natural, is_shaped, is_end, fits_kind, bad_from, bad_insn}
use Rattle.law_insn_terms.proofs.CallShapes.{IsCall, alone, sets}
use Rattle.law_insn_terms.proofs.Defined.{made_held, effects_change}
use Rattle.law_insn_terms.proofs.Growth.{goes_from, jump_is}
use Rattle.law_insn_terms.proofs.JumpShapes.{IsJump, IsSound, pc_by, sound_pattern, sound_kids}
use Rattle.law_insn_terms.proofs.Left.{held_left}
use Rattle.law_insn_terms.proofs.Places.{IsNatural, natural_kids, is_that, place_as}
use Rattle.law_insn_terms.proofs.Ways.{jump_of, call_of, fits_all, does_run}
use Rattle.law_insn_terms.proofs.Bools.{both_of, not_true}

-- ---- shapes

pub sound_insn : (i : Insn) → is_shaped i ≡ true → IsSound i.pattern
sound_insn i shaped = sound_pattern i.pattern (both_of (shapes_agree i.pattern) _ (both_of _ _ shaped).1).0

pub natural_insn : (i : Insn) → is_shaped i ≡ true → IsNatural i.pattern
natural_insn i shaped = (both_of (all_natural i.pattern) _ (both_of (shapes_agree i.pattern) _ (both_of _ _ shaped).1).1).0

-- ---- what an instruction defines, by its kind

defines_as : (i : Insn) (k : Kind) (q : ℕ) → i.kind ≡ k → insn_defines i q ≡ (uses.pattern_defines q i.pattern || (is_call_kind k && is_call_used q))
defines_as i k q is = ap (λ k. uses.pattern_defines q i.pattern || (is_call_kind k && is_call_used q)) is

defines_none : (i : Insn) (k : Kind) (q : ℕ) → i.kind ≡ k → is_call_kind k ≡ false → uses.pattern_defines q i.pattern ≡ false → insn_defines i q ≡ false
defines_none i k q is no_call none = defines_as i k q is ∙ (ap (λ b. b || (is_call_kind k && is_call_used q)) none ∙ ap (λ b. b && is_call_used q) no_call)

-- a jump defines no register
jump_defines : (x : Rtx) (q : ℕ) → IsJump x → uses.pattern_defines (suc q) x ≡ false
jump_defines x q is =
    ap (λ c. uses.all_define (suc q) (uses.effects_by c (out-Rtx x).kids x)) is.code_is
    ∙ (ap (λ b. b || false) (ap (λ c. uses.effect_defines_by (suc q) c (out-Rtx x).kids) is.code_is ∙ ap (uses.effect_defines_by (suc q) code.Set) is.kids_are)
    ∙ ap (λ b. b || false) (no_pc is.place (pc_by (out-Rtx is.place).code is.pc_is)))
  where
    positive : (suc q == 0) ≡ false
    positive = grind (arith, nat_tests)

    no_register : (p : Rtx) → (out-Rtx p).code ≡ code.Pc → uses.is_register (suc q) p ≡ false
    no_register p is = ap (λ b. not b && is_reg_numbered (out-Rtx p).code (out-Rtx p).number (suc q)) positive ∙ ap (λ c. is_reg_numbered c (out-Rtx p).number (suc q)) is

    no_pc : (p : Rtx) → (out-Rtx p).code ≡ code.Pc → uses.place_is (suc q) p ≡ false
    no_pc p is = ap (λ c. uses.place_is_by (suc q) c (out-Rtx p).kids p) is ∙ no_register p is

-- a call defines a0 at most, which a call may change
call_defines : (x : Rtx) (q : ℕ) → IsCall x → IsSound x → IsNatural x → is_call_used (suc q) ≡ false → uses.pattern_defines (suc q) x ≡ false
call_defines x q (alone is) sound natural kept =
    ap (λ c. uses.all_define (suc q) (uses.effects_by c (out-Rtx x).kids x)) is ∙ ap (λ b. b || false) (ap (λ c. uses.effect_defines_by (suc q) c (out-Rtx x).kids) is)
call_defines x q (sets place source is kids register number moded calls) sound natural kept =
    let parts_sound = subst (AllByRecursion IsSound) kids (sound_kids x sound) in
    let parts_natural = subst (AllByRecursion IsNatural) kids (natural_kids x natural) in
    let that : is_that (register_by code.Reg (out-Rtx place).number (out-Rtx place).kids) (suc q) ≡ false = other (number_at place) number in
    let place_none : uses.place_is (suc q) place ≡ false =
    sym (place_as place q parts_sound.0 parts_natural.0) ∙ (ap (λ c. is_that (register_by c (out-Rtx place).number (out-Rtx place).kids) (suc q)) register ∙ that) in
    ap (λ c. uses.all_define (suc q) (uses.effects_by c (out-Rtx x).kids x)) is
    ∙ (ap (λ b. b || false) (ap (λ c. uses.effect_defines_by (suc q) c (out-Rtx x).kids) is ∙ ap (uses.effect_defines_by (suc q) code.Set) kids)
    ∙ ap (λ b. b || false) place_none)
  where
    other : (n : ℕ) → (n == 10) ≡ true → (n == suc q) ≡ false
    other n is =
        let e : n ≡ 10 = grind (arith, nat_tests, is) in
        by (n == suc q) refl e
      where
        by : (b : Bool) → (n == suc q) ≡ b → n ≡ 10 → b ≡ false
        by true same e =
            let e' : suc q ≡ 10 = grind (arith, nat_tests, same, e) in
            let used : is_call_used (suc q) ≡ true = ap is_call_used e' in
            let wrong : true ≡ false = sym used ∙ kept in absurd (let no : ⊥ = cc in no)
        by false same e = refl

nothing_defines : (x : Rtx) (q : ℕ) → is_nothing x ≡ true → uses.pattern_defines q x ≡ false
nothing_defines x q is = by (out-Rtx x).code (out-Rtx x).kids is
  where
    by : (c : Code) (parts : List Rtx) → is_nothing_by (class_of_code c) parts ≡ true → uses.all_define q (uses.effects_by c parts x) ≡ false
    by code.Parallel [] is = refl
    by code.Parallel (y ∷ parts) is = absurd (let no : ⊥ = cc in no)
    by c parts is = absurd (let no : ⊥ = cc in no)

-- ---- what is changed after an instruction

abbrev KindHeld : Kind → Insn → Type 0
KindHeld k i =
    (index : ℕ) (s : State) (last : Bool) (q : ℕ) → fits_kind k i last ≡ true → is_some (held (after_kind k index i s).regs (suc q)) ≡ (is_some (held s.regs (suc q)) || insn_defines i (suc q))

plain_held : (i : Insn) → i.kind ≡ kind.Plain → KindHeld kind.Plain i
plain_held i is index s last q shaped =
    made_held index (spec.effects_of s.regs s.stores i.pattern) s q
    ∙ ap (λ b. is_some (held s.regs (suc q)) || b)
    (effects_change s.regs s.stores q i.pattern (sound_insn i shaped) (natural_insn i shaped)
    ∙ (sym (or-false (uses.pattern_defines (suc q) i.pattern)) ∙ sym (defines_as i kind.Plain (suc q) is)))

jump_held : (i : Insn) → i.kind ≡ kind.Jump → KindHeld kind.Jump i
jump_held i is index s last q fits =
    let first = both_of (is_shaped i) _ fits in
    let rest = both_of (not (is_return i)) _ first.1 in
    let source = spec.jump_source (out-Rtx i.pattern).kids i.pattern in
    let none : insn_defines i (suc q) ≡ false = defines_none i kind.Jump (suc q) is refl (jump_defines i.pattern q (jump_of i first.0 is (not_true (is_return i) rest.0))) in
    ap (λ (t : State). is_some (held t.regs (suc q))) (jump_is index i.pattern s)
    ∙ (sym (or-false (is_some (held s.regs (suc q)))) ∙ ap (λ b. is_some (held s.regs (suc q)) || b) (sym none))

call_held : (i : Insn) → i.kind ≡ kind.Call → KindHeld kind.Call i
call_held i is index s last q fits = by (is_call_used (suc q)) refl
  where
    shaped : is_shaped i ≡ true
    shaped = (both_of (is_shaped i) last fits).0

    by : (b : Bool) → is_call_used (suc q) ≡ b → is_some (held (left_by_call s.regs) (suc q)) ≡ (is_some (held s.regs (suc q)) || insn_defines i (suc q))
    by true used =
        let defines : insn_defines i (suc q) ≡ true = defines_as i kind.Call (suc q) is ∙ (ap (λ b. uses.pattern_defines (suc q) i.pattern || b) used ∙ or-true (uses.pattern_defines (suc q) i.pattern)) in
        ap is_some (held_left s.regs q true used) ∙ (sym (or-true (is_some (held s.regs (suc q)))) ∙ ap (λ b. is_some (held s.regs (suc q)) || b) (sym defines))
    by false used =
        let none : uses.pattern_defines (suc q) i.pattern ≡ false = call_defines i.pattern q (call_of i shaped is) (sound_insn i shaped) (natural_insn i shaped) used in
        let defines : insn_defines i (suc q) ≡ false = defines_as i kind.Call (suc q) is ∙ (ap (λ b. uses.pattern_defines (suc q) i.pattern || b) used ∙ (or-false (uses.pattern_defines (suc q) i.pattern) ∙ none)) in
        ap is_some (held_left s.regs q false used) ∙ (sym (or-false (is_some (held s.regs (suc q)))) ∙ ap (λ b. is_some (held s.regs (suc q)) || b) (sym defines))

barrier_held : (i : Insn) → i.kind ≡ kind.Barrier → KindHeld kind.Barrier i
barrier_held i is index s last q nothing =
    let none : insn_defines i (suc q) ≡ false = defines_none i kind.Barrier (suc q) is refl (nothing_defines i.pattern (suc q) nothing) in
    sym (or-false (is_some (held s.regs (suc q)))) ∙ ap (λ b. is_some (held s.regs (suc q)) || b) (sym none)

label_held : (i : Insn) → KindHeld kind.Label i
label_held i index s last q fits = absurd (let no : ⊥ = cc in no)

-- what is held of a register after an instruction
pub kind_held : (k : Kind) (i : Insn) → i.kind ≡ k → KindHeld k i
kind_held kind.Plain i is = plain_held i is
kind_held kind.Jump i is = jump_held i is
kind_held kind.Call i is = call_held i is
kind_held kind.Barrier i is = barrier_held i is
kind_held kind.Label i is = label_held i

-- ---- windows

held_from : (insns : List Insn) (index : ℕ) (s t : State) (q : ℕ) → bad_from index insns ≡ None → run_from index insns s ≡ Some t →
    is_some (held t.regs (suc q)) ≡ (is_some (held s.regs (suc q)) || window_defines insns (suc q))
held_from [] index s t q bad goes =
    let same : s ≡ t = cc in subst (λ (t : State). is_some (held t.regs (suc q)) ≡ (is_some (held s.regs (suc q)) || false)) same (sym (or-false (is_some (held s.regs (suc q)))))
held_from (i ∷ insns) index s t q bad goes =
    let fits = fits_all index i insns bad in
    held_from insns (index + 1) (after_kind i.kind index i s) t q fits.rest (goes_from insns index i s t goes)
    ∙ (ap (λ b. b || window_defines insns (suc q)) (kind_held i.kind i refl index s (is_end insns) q fits.here)
    ∙ or_assoc (is_some (held s.regs (suc q))) (insn_defines i (suc q)) (window_defines insns (suc q)))

-- a register is changed in the symbolic state exactly where an instruction defines it
pub held_defined : (insns : List Insn) (s : State) → run insns ≡ Runs s → (reg : ℕ) → is_some (held s.regs (suc reg)) ≡ window_defines insns (suc reg)
held_defined insns s runs reg = let does = does_run (bad_insn insns) (run_from 0 insns start) s runs in held_from insns 0 start s reg does.fits does.goes
