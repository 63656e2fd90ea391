use Rattle.std.proofs.Common.{◌≡◌, ◌∙◌, List, [], ◌∷◌, Ok, ap, subst}
use Rattle.std.proofs.lemmas.Result.{err_from_is_err_and}
use Rattle.pass_name.specs.declared.road.Road.TheVariants.{Usual}
use Rattle.rtx_tree.specs.declared.function.Function.{Function}
use Rattle.func_input.specs.Input.{RefusesWith}
use Rattle.func_image.specs.func_text.Compile.{FunctionsCome}
use Rattle.rtl_make.specs.Made.{made}
use Rattle.rtlc_run.specs.Generated.{summary_line}
use Rattle.rtlc_run.proofs.Tellings.{summary_refused, refusal_is_own, refusal_read}
use Rattle.rtlc_run.proofs.summary.summary_of.Goals as goal

pub returns-in_err-summary-clause-gives : goal.returns-in_err-summary-clause-gives
returns-in_err-summary-clause-gives c =
    let p = err_from_is_err_and c.from_residual-in_err-summary.result c.from_residual-in_err-summary.ensures.1 in
    let same : c.from_ref.result.now ≡ made c.args.number ∷ [] = c.from_ref.ensures.value ∙ ap (λ (f : Function). f ∷ []) (c.in_ok-function.ensures ∙ ap made c.from.ensures) in
    rw (p.1, p.2) (summary_refused c.args.number c.args.description.now c.in_err-summary.field-0.0 (
    subst (λ (fs : List Function). RefusesWith c.in_err-summary.field-0.0 (FunctionsCome c.args.description.now Usual fs)) same c.in_err-summary.ensures.gives))

pub returns-in_err-summary-clause-own : goal.returns-in_err-summary-clause-own
returns-in_err-summary-clause-own c =
    let p = err_from_is_err_and c.from_residual-in_err-summary.result c.from_residual-in_err-summary.ensures.1 in
    rw (p.1, p.2) (refusal_is_own (FunctionsCome c.args.description.now Usual c.from_ref.result.now) c.in_err-summary.field-0.0 c.in_err-summary.ensures.gives)

pub returns-in_err-summary-clause-read : goal.returns-in_err-summary-clause-read
returns-in_err-summary-clause-read c =
    let p = err_from_is_err_and c.from_residual-in_err-summary.result c.from_residual-in_err-summary.ensures.1 in
    rw (p.1, p.2) (refusal_read (FunctionsCome c.args.description.now Usual c.from_ref.result.now) c.in_err-summary.field-0.0 c.in_err-summary.ensures.gives)

pub returns-clause-gives : goal.returns-clause-gives
returns-clause-gives c =
    let same : c.from_ref.result.now ≡ made c.args.number ∷ [] = c.from_ref.ensures.value ∙ ap (λ (f : Function). f ∷ []) (c.in_ok-function.ensures ∙ ap made c.from.ensures) in
    let compiled = c.in_ok-summary.ensures.gives in
    (Ok compiled.0, subst (λ (fs : List Function). FunctionsCome c.args.description.now Usual fs (Ok compiled.0)) same compiled.1, ap (λ t. Ok t) (c.in_ok-summary_text.ensures ∙ ap summary_line compiled.3))
