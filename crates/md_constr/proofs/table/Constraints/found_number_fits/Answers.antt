use Rattle.std.proofs.Common.{◌≡◌, ℕ, ◌&&◌, Bool, true, List, ap, sym, ◌∙◌}
use Rattle.md_forms.specs.declared.form.OperandConstraint.{OperandConstraint}
use Rattle.md_constr.specs.Fits as spec
use Rattle.md_constr.specs.machine.Tables as tables
use Rattle.md_constr.proofs.table.Constraints.found_number_fits.Goals as goal

pub returns-then-found : goal.returns-then-found
returns-then-found g c =
    let found = c.args.found.now in
    let named = tables.name_admits_in c.args.self.now.meanings (g.P.Preds.accepts c.args.preds.now) in
    let fits : List ℕ → List ℕ → List OperandConstraint → Bool = λ inputs changed constraints. spec.fits_alone named inputs changed c.args.operands.now c.args.alternative c.args.number constraints in
    c.fits_alone.ensures ∙
    ap (λ inputs. fits inputs c.as_slice-3.result.now c.as_slice-then-found.result.now) c.as_slice-2.ensures.value ∙
    ap (λ changed. fits found.inputs changed c.as_slice-then-found.result.now) c.as_slice-3.ensures.value ∙
    ap (λ constraints. fits found.inputs found.changed constraints) c.as_slice-then-found.ensures.value ∙
    ap (λ b. b && fits found.inputs found.changed found.constraints) (sym c.if-found.true)
