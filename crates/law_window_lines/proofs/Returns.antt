-- Returns on both sides: what the function returns and what its items leave to the caller.
use Rattle.std.proofs.Common.{◌≡◌, ℕ, ◌==◌, ◌&&◌, ◌||◌, arith, if◌then◌else◌, true, List, Option, Some, None, refl, ap, ◌∙◌}
use Rattle.std.proofs.lemmas.Bool.Decides.{nat_tests}
use Rattle.std.specs.Prelude.{option_and_then, option_map, is_some}
use Rattle.bits64.specs.Words.{low}
use Rattle.bits64.specs.declared.Width.{Width}
use Rattle.rtx_tree.specs.declared.code.Mode.{Mode}
use Rattle.rtx_tree.specs.declared.code.Code.{Code}
use Rattle.rtx_tree.specs.declared.code.Code.TheVariants.{Return}
use Rattle.rtx_tree.specs.declared.function.Function.{Function}
use Rattle.rtx_tree.specs.declared.function.Insn.{Insn}
use Rattle.rtx_tree.specs.declared.machine.SymbolAt.{SymbolAt}
use Rattle.rtx_tree.specs.declared.machine.World.{World}
use Rattle.rtx_tree.specs.declared.memories.MemByte.{MemByte}
use Rattle.rtx_tree.specs.declared.tree.Rtx.{Rtx, out-Rtx}
use Rattle.rtl_step.specs.Jump.{jump_by, jump_of}
use Rattle.rtl_step.specs.Regs.{Regs, reg_value}
use Rattle.rtl_step.specs.Step.{has_result, result_of}
use Rattle.rtl_step.specs.Value.{width_of}
use Rattle.rtl_step.specs.declared.jump.Way.TheVariants.{Leaves}
use Rattle.rtx_tree.specs.RegSet.{has_reg}
use Rattle.rv_regs.specs.Registers.{kept_registers}
use Rattle.reg_uses.specs.Uses.{is_return, is_return_code, function_sets, return_uses}
use Rattle.rv_text.specs.declared.line.Line.{Line}
use Rattle.rv_line.specs.Step.{register, step, step_as, return_end}
use Rattle.rv_line.specs.declared.state.RvState.{RvState}
use Rattle.rv_line.specs.declared.state.LineEnd.TheVariants as ends
use Rattle.law_window_runs.specs.same_behaviour.Same.{SameResult}
use Rattle.law_window_runs.specs.Beside.{Agrees}
use Rattle.law_window_lines.specs.Items.{IsReturnLine, ret, jr}

-- ---- the function

return_way : (code : Code) (parts : List Rtx) (symbols : List SymbolAt) (regs : Regs) (memory : List MemByte) → is_return_code code ≡ true →
    jump_by code parts symbols regs memory ≡ Some Leaves
return_way Return parts symbols regs memory is = refl
return_way _ parts symbols regs memory is = absurd (let no : ⊥ = cc in no)

-- (return) leaves
pub leaves : (i : Insn) (symbols : List SymbolAt) (regs : Regs) (memory : List MemByte) → is_return i ≡ true →
    jump_of symbols regs memory i.pattern ≡ Some Leaves
leaves i symbols regs memory is = return_way (out-Rtx i.pattern).code (out-Rtx i.pattern).kids symbols regs memory is

-- ---- the line

back : (m : RvState) (ra : Option ℕ) → ra ≡ Some m.entry_ra → return_end m.entry_ra ra ≡ ends.Returned
back m ra is = ap (return_end m.entry_ra) is ∙
    ap (λ b. if b then ends.Returned else ends.Stuck) (let same : (m.entry_ra == m.entry_ra) ≡ true = grind (arith, nat_tests) in same)

pub line_returns : (world : World) (line : Line) (m : RvState) → IsReturnLine line → register m.regs 1 ≡ Some m.entry_ra →
    step world line m ≡ (ends.Returned, m)
line_returns world line m (ret is) ra = ap (λ a. step_as a world line m) is ∙ ap (λ e. (e, m)) (back m (register m.regs 1) ra)
line_returns world line m (jr is through) ra =
    ap (λ a. step_as a world line m) is ∙ ap (λ e. (e, m)) (back m (register m.regs line.rs) (ap (register m.regs) through ∙ ra))

-- ---- the result

-- a0 is used by a return, where there is a result
pub result_used : (f : Function) → is_some f.result ≡ true → return_uses f 10 ≡ true
result_used f is = ap (λ b. (b && (10 == 10)) || (has_reg kept_registers 10 && function_sets f 10)) is

held_result : (mode : Mode) (w : Width) (a0 : Option ℕ) (value : ℕ) → width_of mode ≡ Some w → option_map (low w) a0 ≡ Some value →
    SameResult (Some mode) (Some value) a0
held_result mode w None value is_w is = absurd (let no : ⊥ = cc in no)
held_result mode w (Some number) value is_w is = ap (option_map (λ w. low w number)) is_w ∙ is

in_width : (mode : Mode) (w : Width) (regs : Regs) (code : List (Option ℕ)) (o : Option ℕ) → width_of mode ≡ Some w →
    reg_value regs 10 w ≡ o →
    is_some o ≡ true → Agrees regs code 10 → SameResult (Some mode) o (register code 10)
in_width mode w regs code None is_w is has agrees = absurd (let no : ⊥ = cc in no)
in_width mode w regs code (Some value) is_w is has agrees = held_result mode w (register code 10) value is_w (agrees w value is)

in_mode : (mode : Mode) (regs : Regs) (code : List (Option ℕ)) (w : Option Width) → width_of mode ≡ w →
    is_some (option_and_then (reg_value regs 10) w) ≡ true → Agrees regs code 10 →
    SameResult (Some mode) (option_and_then (reg_value regs 10) w) (register code 10)
in_mode mode regs code None is_w has agrees = absurd (let no : ⊥ = cc in no)
in_mode mode regs code (Some w) is_w has agrees = in_width mode w regs code (reg_value regs 10 w) is_w refl has agrees

-- where a function's result is known, its items have it
pub same_result : (mode : Option Mode) (regs : Regs) (code : List (Option ℕ)) → has_result mode regs ≡ true →
    (is_some mode ≡ true → Agrees regs code 10) →
    SameResult mode (result_of mode regs) (register code 10)
same_result None regs code has agrees = tt
same_result (Some mode) regs code has agrees = in_mode mode regs code (width_of mode) refl has (agrees refl)
