use Rattle.std.proofs.Common.{ℕ, ◌+◌, List, [], Ok, drop, sym, subst, arith}
use Rattle.std.proofs.lemmas.List.{drop_all}
use Rattle.std.proofs.lemmas.Result.{err_from_is_err_and}
use Rattle.rv_text.specs.declared.line.CodeItem.{CodeItem}
use Rattle.func_input.proofs.Firsts.{drop_at}
use Rattle.func_text.specs.declared.summary.Summary.{Summary}
use Rattle.func_text.specs.Assembly.{AssemblyComes}
use Rattle.func_text.specs.Summary as summaries
use Rattle.func_text.proofs.Wholes.{assembly, Makes, makes_start, makes_on, makes_wrong, makes_all}
use Rattle.func_text.proofs.assembly.assemble.Goals as goal

pub loop-f-init : goal.loop-f-init
loop-f-init c =
    let forms = c.args.description.now in
    let functions = c.args.functions.now in
    subst (λ (s : Summary). Makes forms c.args.road functions 0 c.new-text.result.items c.new-parts.result s functions) (sym c.empty-summary.ensures)
    (subst (λ (t : List ℕ). Makes forms c.args.road functions 0 t c.new-parts.result summaries.empty functions) (sym c.new-text.ensures.items)
    (subst (λ (p : List (List CodeItem)). Makes forms c.args.road functions 0 [] p summaries.empty functions) (sym c.new-parts.ensures)
    (makes_start forms c.args.road functions)))

pub returns-in_err-one : goal.returns-in_err-one
returns-in_err-one c =
    let p = err_from_is_err_and c.from_residual.result c.from_residual.ensures.1 in
    let forms = c.args.description.now in
    let functions = c.args.functions.now in
    rw (p.1, p.2)
    (makes_wrong forms c.args.road functions c.loop-f.number c.loop-f.text.items c.loop-f.parts c.loop-f.summary c.f-item.result
    (drop (c.loop-f.f-index + 1) functions) c.in_err-one.field-0.0 c.in_err-one.ensures
    (subst (Makes forms c.args.road functions c.loop-f.number c.loop-f.text.items c.loop-f.parts c.loop-f.summary)
    (drop_at functions c.loop-f.f-index c.f-item.result (omega arith) c.f-item.is) c.loop-f.invariant))

pub loop-f-preserved : goal.loop-f-preserved
loop-f-preserved c =
    let forms = c.args.description.now in
    let functions = c.args.functions.now in
    rw (c.in_ok-number.ensures.next, c.in_ok-summary.ensures)
    (makes_on forms c.args.road functions c.loop-f.number c.loop-f.text.items c.write_next.new.text.items c.loop-f.parts c.write_next.new.parts
    c.loop-f.summary c.in_ok-one.one c.f-item.result (drop (c.loop-f.f-index + 1) functions) c.next_number.ensures.small c.in_ok-one.ensures
    (subst (Makes forms c.args.road functions c.loop-f.number c.loop-f.text.items c.loop-f.parts c.loop-f.summary)
    (drop_at functions c.loop-f.f-index c.f-item.result (omega arith) c.f-item.is) c.loop-f.invariant))

pub returns : goal.returns
returns c =
    let forms = c.args.description.now in
    let functions = c.args.functions.now in
    subst (λ (t : List ℕ). AssemblyComes forms c.args.road functions (Ok (assembly t c.loop-f.parts c.loop-f.summary))) (sym c.from_vec.ensures)
    (makes_all forms c.args.road functions c.loop-f.number c.loop-f.text.items c.loop-f.parts c.loop-f.summary
    (subst (Makes forms c.args.road functions c.loop-f.number c.loop-f.text.items c.loop-f.parts c.loop-f.summary)
    (drop_all c.loop-f.f-index functions (omega arith)) c.loop-f.invariant))
