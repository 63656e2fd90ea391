-- What the shape of lines that are equated with an instruction says of them: a call is the last; and a return against a return is one line.
use Rattle.std.proofs.Common.{◌≡◌, ℕ, ◌+◌, ◌==◌, ◌&&◌, not, Bool, true, false, List, [], ◌∷◌, Option, Some, None, refl, sym, ◌∙◌, ap, subst, arith}
use Rattle.std.proofs.lemmas.Bool.Decides.{nat_tests}
use Rattle.std.specs.Prelude.{if◌then◌else◌}
use Rattle.rtx_tree.specs.declared.function.Insn.{Insn}
use Rattle.rtx_tree.specs.declared.function.Kind.{Kind}
use Rattle.rtx_tree.specs.declared.function.Kind.TheVariants as kind
use Rattle.rtl_func.specs.Modes.{shapes_agree}
use Rattle.reg_uses.specs.Uses.{is_return}
use Rattle.rv_text.specs.Lines.{action_of}
use Rattle.rv_text.specs.declared.action.Action.{Action}
use Rattle.rv_text.specs.declared.action.Action.TheVariants as action
use Rattle.rv_text.specs.declared.action.Source.{Source}
use Rattle.rv_text.specs.declared.action.Source.TheVariants as source
use Rattle.rv_text.specs.declared.line.Line.{Line}
use Rattle.sym_state.specs.State.{State, Runs, ran}
use Rattle.asm_out.specs.sym_lines.Run.{fits_action, bad_from, bad_line, run_from, run}
use Rattle.sym_state.specs.State as state
use Rattle.asm_out.specs.equate.Side.{Lines, is_jump, returns, returns_through, returns_by, both_return}
use Rattle.law_window_lines.specs.Items.{IsReturnLine, ret, jr, is_call, calls_last}

-- ---- a call is the last

not_call : (o : Option Action) (line : Line) (rest : List Line) → fits_action o (line ∷ rest) ≡ true → not (is_call o) ≡ true
not_call None line rest fits = absurd (let no : ⊥ = cc in no)
not_call (Some (action.Compute operation w left right)) line rest fits = refl
not_call (Some (action.Load w extension)) line rest fits = refl
not_call (Some (action.Store w)) line rest fits = refl
not_call (Some action.SymbolAddress) line rest fits = refl
not_call (Some (action.Branch comparison left right)) line rest fits = absurd (let no : ⊥ = cc in no)
not_call (Some action.Jump) line rest fits = absurd (let no : ⊥ = cc in no)
not_call (Some action.Call) line rest fits = absurd (let no : ⊥ = cc in no)
not_call (Some action.CallRegister) line rest fits = absurd (let no : ⊥ = cc in no)
not_call (Some (action.Return through)) line rest fits = absurd (let no : ⊥ = cc in no)

record Fits (index : ℕ) (line : Line) (lines : List Line) : Type 0 where
  pub here : fits_action (action_of line) lines ≡ true
  pub rest : bad_from (index + 1) lines ≡ None

fits_both : (index : ℕ) (line : Line) (lines : List Line) → bad_from index (line ∷ lines) ≡ None → Fits index line lines
fits_both index line lines none = by (fits_action (action_of line) lines) refl none
  where
    by : (b : Bool) → fits_action (action_of line) lines ≡ b → (if b then bad_from (index + 1) lines else Some index) ≡ None → Fits index line lines
    by true fits none = record { here = fits; rest = none }
    by false fits none = absurd (let no : ⊥ = cc in no)

last_from : (index : ℕ) (lines : List Line) → bad_from index lines ≡ None → calls_last lines ≡ true
last_from index [] none = refl
last_from index (line ∷ []) none = refl
last_from index (line ∷ next ∷ lines) none =
    let fits = fits_both index line (next ∷ lines) none in
    ap (λ b. b && calls_last (next ∷ lines)) (not_call (action_of line) next lines fits.here) ∙ last_from (index + 1) (next ∷ lines) fits.rest

no_shape : (shape : Option ℕ) (last : Option State) (s : State) → ran shape last ≡ Runs s → shape ≡ None
no_shape None last s runs = refl
no_shape (Some index) last s runs = absurd (let no : ⊥ = cc in no)

-- lines that come to a state call last
pub runs_last : (function : ℕ) (lines : List Line) (s : State) → run function lines ≡ Runs s → calls_last lines ≡ true
runs_last function lines s runs = last_from 0 lines (no_shape (bad_line lines) (run_from function 0 lines state.start) s runs)

-- ---- a return

both_true : (a b : Bool) → (a && b) ≡ true → (a ≡ true) × (b ≡ true)
both_true true b is = (refl, is)
both_true false b is = absurd (let no : ⊥ = cc in no)

is_jump_kind : (k : Kind) → is_jump k ≡ true → k ≡ kind.Jump
is_jump_kind kind.Jump is = refl
is_jump_kind kind.Plain is = absurd (let no : ⊥ = cc in no)
is_jump_kind kind.Call is = absurd (let no : ⊥ = cc in no)
is_jump_kind kind.Label is = absurd (let no : ⊥ = cc in no)
is_jump_kind kind.Barrier is = absurd (let no : ⊥ = cc in no)

through_ra : (through : Source) (line : Line) → action_of line ≡ Some (action.Return through) → returns_through through line ≡ true → IsReturnLine line
through_ra source.ReturnAddress line acts is = ret acts
through_ra source.First line acts is = jr acts (grind (arith, nat_tests, is))
through_ra source.Second line acts is = absurd (let no : ⊥ = cc in no)
through_ra source.Immediate line acts is = absurd (let no : ⊥ = cc in no)
through_ra (source.Constant number) line acts is = absurd (let no : ⊥ = cc in no)

return_by : (o : Option Action) (line : Line) → action_of line ≡ o → returns_by o line ≡ true → IsReturnLine line
return_by None line acts is = absurd (let no : ⊥ = cc in no)
return_by (Some (action.Compute operation w left right)) line acts is = absurd (let no : ⊥ = cc in no)
return_by (Some (action.Load w extension)) line acts is = absurd (let no : ⊥ = cc in no)
return_by (Some (action.Store w)) line acts is = absurd (let no : ⊥ = cc in no)
return_by (Some action.SymbolAddress) line acts is = absurd (let no : ⊥ = cc in no)
return_by (Some (action.Branch comparison left right)) line acts is = absurd (let no : ⊥ = cc in no)
return_by (Some action.Jump) line acts is = absurd (let no : ⊥ = cc in no)
return_by (Some action.Call) line acts is = absurd (let no : ⊥ = cc in no)
return_by (Some action.CallRegister) line acts is = absurd (let no : ⊥ = cc in no)
return_by (Some (action.Return through)) line acts is = through_ra through line acts is

-- an instruction that is (return), and the line that leads back
pub record IsReturning (i : Insn) (lines : List Line) : Type 0 where
  pub is_jump : i.kind ≡ kind.Jump
  pub is_return : is_return i ≡ true
  pub line : Line
  pub lines_are : lines ≡ line ∷ []
  pub returns : IsReturnLine line

pub both_returning : (function : ℕ) (i : Insn) (lines : List Line) → both_return (i ∷ []) (Lines function lines) ≡ true → IsReturning i lines
both_returning function i [] is = absurd (let no : true ≡ false = sym (both_true (returns i) false is).1 in let no' : ⊥ = cc in no')
both_returning function i (line ∷ []) is =
    let both = both_true (returns i) (returns_by (action_of line) line) is in
    let first = both_true (is_jump i.kind) (is_return i && shapes_agree i.pattern) both.0 in
    record {
      is_jump = is_jump_kind i.kind first.0;
      is_return = (both_true (is_return i) (shapes_agree i.pattern) first.1).0;
      line = line;
      lines_are = refl;
      returns = return_by (action_of line) line refl both.1;
    }
both_returning function i (line ∷ next ∷ lines) is = absurd (let no : true ≡ false = sym (both_true (returns i) false is).1 in let no' : ⊥ = cc in no')
