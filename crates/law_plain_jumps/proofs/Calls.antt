-- Calls of a symbol and of an address in a register, with a result or without.
use Rattle.std.proofs.Common.{◌≡◌, ℕ, suc, pos, zero, ◌+◌, ◌<◌, ◌≤◌, ◌==◌, nat_le, Bool, true, false, cond, ◌&&◌, List, [], ◌∷◌, ◌++◌, Option, Some, None, refl, sym, subst, ◌∙◌, ap, arith}
use Rattle.std.proofs.lemmas.Bool.Decides.{nat_tests}
use Rattle.std.proofs.lemmas.Slice.Eq.{bytes_eq-Decides}
use Rattle.std.specs.Prelude.{ℤ}
use Rattle.std.specs.List.{list_all}
use Rattle.std.specs.Int.{cast_unsigned, w64}
use Rattle.bits64.specs.declared.Width.{Width}
use Rattle.bits64.specs.declared.Width.TheVariants.{W8, W16, W32, W64}
use Rattle.rtx_tree.specs.declared.code.Code.TheVariants as code
use Rattle.rtx_tree.specs.declared.code.Mode.{Mode}
use Rattle.rtx_tree.specs.declared.code.Mode.TheVariants.{Void, SI, DI}
use Rattle.rtx_tree.specs.declared.function.ArgUse.{ArgUse}
use Rattle.rtx_tree.specs.declared.function.Insn.{Insn}
use Rattle.rtx_tree.specs.declared.function.Kind.TheVariants.{Call}
use Rattle.rtl_func.specs.Modes.{shapes_agree}
use Rattle.rtl_func.specs.Kinds.{kinds_agree}
use Rattle.rtl_func.specs.Calls.{is_argument, use_is_argument, call_result_agrees, has_result, are_lawful_uses, are_distinct, used_registers}
use Rattle.reg_uses.specs.Uses.{is_return}
use Rattle.rtl_step.specs.Value.{width_of}
use Rattle.rtl_step.specs.Call.{call_by, call_part, is_result, is_result_by, target_by, target_of}
use Rattle.rtl_step.specs.Effect.{address_part}
use Rattle.rv_text.specs.Lines.{action_of}
use Rattle.rv_text.specs.declared.line.Line.{Line}
use Rattle.rv_text.specs.declared.action.Action.TheVariants as action
use Rattle.term_tree.specs.Tree.{Tree}
use Rattle.term_tree.specs.Small.{is_small}
use Rattle.term_mean.specs.Masks.{cut_8, cut_16, cut_32}
use Rattle.sym_state.specs.State.{State, Arg, Need, Register, Symbol, Runs, start, is_within, is_small_need, needs_at, own_symbol}
use Rattle.sym_state.specs.Registers.{read, read_needs}
use Rattle.sym_insns.specs.Run as insns
use Rattle.sym_insns.specs.Effects as effects
use Rattle.sym_insns.specs.Effects.{after_call, made_target, result_mode, result_by, args_of, args_needs, arg_in, made_arg}
use Rattle.sym_insns.specs.Shape.{is_shaped, fits_kind, all_natural}
use Rattle.sym_lines.specs.Run as lines
use Rattle.sym_lines.specs.Step.{args_from}
use Rattle.sym_diff.specs.Registers.{cut_beside}
use Rattle.sym_diff.specs.Compared.{arg_at, arg_beside, is_covered}
use Rattle.sym_diff.specs.States.{difference}
use Rattle.sym_diff.proofs.NumberLaws.{or_left}
use Rattle.equate.specs.Side.{Lines, is_jump, is_one_return}
use Rattle.equate.specs.Equated.{Equated}
use Rattle.rtx_open.proofs.Expressions.{Written, node, none, with, rtx, outside_is}
use Rattle.law_plain_terms.specs.Rows.{whole, IsSmall}
use Rattle.law_plain_states.specs.Frames.{AreCovered, ArgumentsAgree, calls}
use Rattle.law_plain_states.proofs.Called.{call_agrees}
use Rattle.law_plain_states.proofs.Effects.{register, set_of, memory_at, made, made_is}
use Rattle.law_plain_states.proofs.Equated.{insn_runs, line_runs, equated}
use Rattle.law_plain_states.proofs.Rows.{both, one_covered, line_sets}

-- ---- patterns

-- (symbol_ref:MODE NAME), whose number no one looks at
abbrev pub symbol : Mode → ℤ → List ℕ → Written
symbol m z name = node code.SymbolRef m z name none

-- (call (mem:SI ADDRESS) SIZE)
abbrev pub call_of : Written → Written → Written
call_of address size = node code.Call Void (pos 0) [] (with (memory_at SI (pos 0) address) (with size none))

-- (set (reg:MODE a0) CALL)
abbrev pub valued : Mode → Written → Written
valued m call = set_of (register m 9) call

-- ---- what is called, and in which mode a result is taken

made_address : (address size : Written) → made_target [] [] (target_of (rtx (call_of address size))) ≡ made address W64
made_address address size =
    ap (λ o. made_target [] [] (target_by o.code o.kids)) (outside_is (call_of address size)) ∙
    (ap (λ o. made_target [] [] (address_part o.code o.kids)) (outside_is (memory_at SI (pos 0) address)) ∙ made_is address W64)

-- an instruction calls an address
pub record CallsAt (x : Written) (address : Written) (result : Option Mode) : Type 0 where
  pub target : made_target [] [] (target_of (call_part (rtx x))) ≡ made address W64
  pub mode : result_mode (rtx x) ≡ result

pub alone : (address size : Written) → CallsAt (call_of address size) address None
alone address size = let x = call_of address size in record {
  target = ap (λ o. made_target [] [] (target_of (call_by o.code o.kids (rtx x)))) (outside_is x) ∙ made_address address size;
  mode = ap (λ o. result_by o.code o.kids) (outside_is x);
}

a0_is_result : (m : Mode) → is_result (rtx (register m 9)) ≡ true
a0_is_result m = ap (λ o. is_result_by o.code (cast_unsigned w64 o.number)) (outside_is (register m 9))

pub with_value : (m : Mode) (address size : Written) → CallsAt (valued m (call_of address size)) address (Some m)
with_value m address size = let x = valued m (call_of address size) in record {
  target =
      ap (λ o. made_target [] [] (target_of (call_by o.code o.kids (rtx x)))) (outside_is x) ∙
      (ap (λ b. made_target [] [] (target_of (cond b (rtx (call_of address size)) (rtx x)))) (a0_is_result m) ∙ made_address address size);
  mode = ap (λ o. result_by o.code o.kids) (outside_is x) ∙ ap (λ o. Some o.mode) (outside_is (register m 9));
}

-- ---- arguments: lines hand over all bits of a0 to a7, an instruction the low bits of some of them

-- each use has a mode with a width
abbrev pub AreWide : List ArgUse → Type 0
AreWide [] = Unit {0}
AreWide (u ∷ uses) = ((w : Width) × (width_of u.mode ≡ Some w)) × AreWide uses

args_have : (count from reg : ℕ) → from ≤ reg → reg < from + count → arg_at (args_from count from []) reg ≡ Some (read [] reg W64)
args_have zero from reg least most = absurd (omega (arith, least, most))
args_have (suc count) from reg least most = go (from == reg) refl (λ next. args_have count (suc from) reg next (omega (arith, most)))
  where
    go : (b : Bool) → (from == reg) ≡ b → (suc from ≤ reg → arg_at (args_from count (suc from) []) reg ≡ Some (read [] reg W64)) →
        cond b (Some (read [] from W64)) (arg_at (args_from count (suc from) []) reg) ≡ Some (read [] reg W64)
    go true is rest = let same : from ≡ reg = grind (arith, nat_tests, is) in ap (λ r. Some (read [] r W64)) same
    go false is rest = rest (grind (arith, nat_tests, is, least))

-- the low bits of what a line hands over
cuts : (w : Width) (reg : ℕ) → cut_beside (Some (read [] (suc reg) w)) (Some (read [] (suc reg) W64)) ≡ Some (read [] (suc reg) w)
unfolding cut_8 cut_16 cut_32
cuts W8 reg = refl
cuts W16 reg = refl
cuts W32 reg = refl
cuts W64 reg = refl

cut_argument : (w : Width) (reg : ℕ) → 10 ≤ reg → cut_beside (Some (read [] reg w)) (Some (read [] reg W64)) ≡ Some (read [] reg w)
cut_argument w zero least = absurd (omega (arith, least))
cut_argument w (suc reg) least = cuts w reg

is_handed : (reg : ℕ) → is_argument reg ≡ true → (10 ≤ reg) × (reg ≤ 17)
is_handed reg is = go (nat_le 10 reg) (nat_le reg 17) refl refl is
  where
    go : (p q : Bool) → nat_le 10 reg ≡ p → nat_le reg 17 ≡ q → (p && q) ≡ true → (10 ≤ reg) × (reg ≤ 17)
    go true true least most is = (grind (arith, nat_tests, least), grind (arith, nat_tests, most))
    go true false least most is = cc
    go false q least most is = cc

first_of : (p q : Bool) → (p && q) ≡ true → (p ≡ true) × (q ≡ true)
first_of true true is = (refl, refl)
first_of true false is = cc
first_of false q is = cc

abbrev handed : ℕ → Tree → Type 0
handed reg t = arg_beside true (Some t) (arg_at (args_from 8 10 []) reg) ≡ Some t

hands_over : (w : Width) (reg : ℕ) (t : Tree) → is_argument reg ≡ true → Some (read [] reg w) ≡ Some t → handed reg t
hands_over w reg t is e =
    let bounds = is_handed reg is in
    let all : arg_at (args_from 8 10 []) reg ≡ Some (read [] reg W64) = args_have 8 10 reg bounds.0 (omega (arith, bounds.1)) in
    ap (λ o. cut_beside (Some t) o) all ∙ (ap (λ o. cut_beside o (Some (read [] reg W64))) (sym e) ∙ (cut_argument w reg bounds.0 ∙ e))

pub arguments_agree : (uses : List ArgUse) → AreWide uses → list_all use_is_argument uses ≡ true → ArgumentsAgree (args_of [] uses) (args_from 8 10 [])
arguments_agree [] wide are reg t e = cc
arguments_agree (u ∷ uses) wide are reg t e =
    go (u.reg == reg) refl e (arguments_agree uses wide.1 (first_of (use_is_argument u) (list_all use_is_argument uses) are).1 reg t)
  where
    go : (b : Bool) → (u.reg == reg) ≡ b → cond b (Some (made_arg [] u).term) (arg_at (args_of [] uses) reg) ≡ Some t → (arg_at (args_of [] uses) reg ≡ Some t → handed reg t) → handed reg t
    go true is e rest =
        let same : u.reg ≡ reg = grind (arith, nat_tests, is) in
        hands_over wide.0.0 reg t (subst (λ r. is_argument r ≡ true) same (first_of (use_is_argument u) (list_all use_is_argument uses) are).0)
        (ap (λ r. Some (read [] r wide.0.0)) (sym same) ∙ (ap (λ o. Some (arg_in o [] u.reg).term) (sym wide.0.1) ∙ e))
    go false is e rest = rest e

-- ---- all terms are within the limit

abbrev AreSmallNeeds : List Need → Type 0
AreSmallNeeds needs = list_all (λ n. is_small_need n.what) (needs_at 0 needs) ≡ true

small_both : (xs ys : List Need) → AreSmallNeeds xs → AreSmallNeeds ys → AreSmallNeeds (xs ++ ys)
small_both [] ys a b = b
small_both (x ∷ xs) ys a b = let two = first_of (is_small_need x) (list_all (λ n. is_small_need n.what) (needs_at 0 xs)) a in both (is_small_need x) _ two.0 (small_both xs ys two.1 b)

small_register : (reg : ℕ) (w : Width) → AreSmallNeeds (read_needs [] reg w)
small_register zero w = refl
small_register (suc reg) w = refl

small_arg : (o : Option Width) (reg : ℕ) → AreSmallNeeds (arg_in o [] reg).needs
small_arg None reg = refl
small_arg (Some w) reg = small_register reg w

small_args_needs : (uses : List ArgUse) → AreSmallNeeds (args_needs [] uses)
small_args_needs [] = refl
small_args_needs (u ∷ uses) = small_both (made_arg [] u).needs (args_needs [] uses) (small_arg (width_of u.mode) u.reg) (small_args_needs uses)

small_part : (w : Width) (reg : ℕ) → IsSmall (read [] reg w)
unfolding cut_8 cut_16 cut_32
small_part W8 zero = refl
small_part W16 zero = refl
small_part W32 zero = refl
small_part W64 zero = refl
small_part W8 (suc reg) = refl
small_part W16 (suc reg) = refl
small_part W32 (suc reg) = refl
small_part W64 (suc reg) = refl

small_args : (uses : List ArgUse) → AreWide uses → list_all (λ a. is_small a.value) (args_of [] uses) ≡ true
small_args [] wide = refl
small_args (u ∷ uses) wide =
    both (is_small (made_arg [] u).term) _ (ap (λ o. is_small (arg_in o [] u.reg).term) wide.0.1 ∙ small_part wide.0.0 u.reg) (small_args uses wide.1)

small_call : (target : Tree) (result : Option Mode) (args : List Arg) (needs : List Need) → IsSmall target → list_all (λ a. is_small a.value) args ≡ true → AreSmallNeeds needs →
    is_within (calls target result args (needs_at 0 needs)) ≡ true
small_call target result args needs small handed rest = both (is_small target && list_all (λ a. is_small a.value) args) _ (both (is_small target) _ small handed) rest

-- ---- an instruction that calls, and its line

-- a call of an address, whose uses have widths
pub record Calls (i : Insn) (x address : Written) (result : Option Mode) : Type 0 where
  pub call : i.kind ≡ Call
  pub shaped : is_shaped i ≡ true
  pub pattern : i.pattern ≡ rtx x
  pub calls_at : CallsAt x address result
  pub wide : AreWide i.uses

are_arguments : (i : Insn) → i.kind ≡ Call → is_shaped i ≡ true → list_all use_is_argument i.uses ≡ true
are_arguments i call shaped =
    let shapes = (first_of (kinds_agree i.kind i.pattern) _ shaped).1 in
    let numbers = (first_of (shapes_agree i.pattern) _ shapes).1 in
    let results = (first_of (all_natural i.pattern) _ numbers).1 in
    let result = (first_of (call_result_agrees i.kind i.pattern i.uses) _ results).0 in
    let of_call = ap (λ k. call_result_agrees k i.pattern i.uses) (sym call) ∙ result in
    let lawful = (first_of (has_result i.pattern) (are_lawful_uses i.uses) of_call).1 in
    (first_of (list_all use_is_argument i.uses) (are_distinct (used_registers i.uses)) lawful).0

insn_calls : (i : Insn) (x address : Written) (result : Option Mode) → Calls i x address result →
    insns.after 0 i start ≡ calls (made address W64).term result (args_of [] i.uses) (needs_at 0 ((made address W64).needs ++ args_needs [] i.uses))
insn_calls i x address result s =
    ap (λ k. insns.after_kind k 0 i start) s.call ∙ (ap (λ p. after_call 0 p i.uses start) s.pattern ∙
    (ap (λ v. effects.calls 0 v (result_mode (rtx x)) i.uses start) s.calls_at.target ∙ ap (λ v. effects.calls 0 (made address W64) v i.uses start) s.calls_at.mode))

-- a line calls an address
pub record CallsBy (number : ℕ) (l : Line) (target : Tree) (asked : List Need) : Type 0 where
  pub fits : lines.fits_action (action_of l) [] ≡ true
  pub state : lines.after number 0 l start ≡ calls target None (args_from 8 10 []) (needs_at 0 asked)

pub calls_equated : (i : Insn) (number : ℕ) (live : List ℕ) (l : Line) (x address : Written) (result : Option Mode) (target : Tree) (had asked : List Need) → Calls i x address result →
    CallsBy number l target asked → made address W64 ≡ record { term = target; needs = had } → IsSmall target → AreSmallNeeds had → AreSmallNeeds asked →
    AreCovered (needs_at 0 (had ++ args_needs [] i.uses)) (needs_at 0 asked) → Equated (i ∷ []) (Lines number (l ∷ [])) live
calls_equated i number live l x address result target had asked s by is small small_had small_asked covered =
    let uses = i.uses in
    let all = needs_at 0 (had ++ args_needs [] uses) in
    let here : insns.after 0 i start ≡ calls target result (args_of [] uses) all =
    insn_calls i x address result s ∙ ap (λ v. calls v.term result (args_of [] uses) (needs_at 0 (v.needs ++ args_needs [] uses))) is in
    let fits = ap (λ k. fits_kind k i true) s.call ∙ both (is_shaped i) true s.shaped refl in
    let comes = insn_runs i fits (ap is_within here ∙ small_call target result (args_of [] uses) (had ++ args_needs [] uses) small (small_args uses s.wide) (small_both had (args_needs [] uses) small_had (small_args_needs uses))) in
    let goes = line_runs number l by.fits (ap is_within by.state ∙ small_call target None (args_from 8 10 []) asked small refl small_asked) ∙ ap Runs by.state in
    let stays : is_one_return (i ∷ []) ≡ false = ap (λ k. is_jump k && (is_return i && shapes_agree i.pattern)) s.call in
    equated i number (l ∷ []) live (insns.after 0 i start) (calls target None (args_from 8 10 []) (needs_at 0 asked)) stays comes goes
    (subst (λ a. difference true live a (calls target None (args_from 8 10 []) (needs_at 0 asked)) ≡ None) (sym here)
    (call_agrees live target result (args_of [] uses) (args_from 8 10 []) all (needs_at 0 asked) (arguments_agree uses s.wide (are_arguments i s.call s.shaped)) covered))

-- ---- call NAME

abbrev called : List ℕ → State
called name = calls (own_symbol name) None (args_from 8 10 []) (needs_at 0 (Symbol name ∷ []))

calls_name : (number : ℕ) (l : Line) (name : List ℕ) → action_of l ≡ Some action.Call → l.target ≡ name → CallsBy number l (own_symbol name) (Symbol name ∷ [])
calls_name number l name does target = record {
  fits = ap (λ o. lines.fits_action o []) does;
  state = line_sets number l action.Call does ∙ ap called target;
}

name_covered : (name : List ℕ) (more : List Need) → AreCovered (needs_at 0 (Symbol name ∷ more)) (needs_at 0 (Symbol name ∷ []))
name_covered name more = both (is_covered (needs_at 0 (Symbol name ∷ more)) (Symbol name)) true (or_left _ _ ((bytes_eq-Decides name name).1 refl)) refl

pub symbol_equated : (i : Insn) (number : ℕ) (live : List ℕ) (l : Line) (x : Written) (m : Mode) (z : ℤ) (name : List ℕ) (result : Option Mode) → Calls i x (symbol m z name) result →
    action_of l ≡ Some action.Call → l.target ≡ name → Equated (i ∷ []) (Lines number (l ∷ [])) live
symbol_equated i number live l x m z name result s does target =
    calls_equated i number live l x (symbol m z name) result (own_symbol name) (Symbol name ∷ []) (Symbol name ∷ []) s (calls_name number l name does target) refl refl refl refl (name_covered name (args_needs [] i.uses))

-- ---- jalr ra,0(RS)

abbrev called_at : ℕ → State
called_at a = calls (read [] a W64) None (args_from 8 10 []) (needs_at 0 (read_needs [] a W8))

calls_register : (number : ℕ) (l : Line) (a : ℕ) → action_of l ≡ Some action.CallRegister → l.rs ≡ suc a → CallsBy number l (whole a) (Register (suc a) W8 ∷ [])
calls_register number l a does rs = record {
  fits = ap (λ o. lines.fits_action o []) does;
  state = line_sets number l action.CallRegister does ∙ ap called_at rs;
}

pub register_equated : (i : Insn) (number : ℕ) (live : List ℕ) (l : Line) (x : Written) (a : ℕ) (result : Option Mode) → Calls i x (register DI a) result →
    action_of l ≡ Some action.CallRegister → l.rs ≡ suc a → Equated (i ∷ []) (Lines number (l ∷ [])) live
register_equated i number live l x a result s does rs =
    calls_equated i number live l x (register DI a) result (whole a) (Register (suc a) W64 ∷ []) (Register (suc a) W8 ∷ []) s (calls_register number l a does rs) refl refl refl refl (one_covered (suc a) W64 (args_needs [] i.uses))
