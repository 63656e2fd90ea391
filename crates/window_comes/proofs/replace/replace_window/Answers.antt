use Rattle.std.proofs.lemmas.Result.{err_from_is_err_and}
use Rattle.pass_refusal.specs.md_forms.Forms.{names_of}
use Rattle.pass_refusal.specs.form_needs.Needs.{name_at}
use Rattle.window_comes.proofs.Calls.{long_comes, refused_comes, replaced_comes}
use Rattle.window_comes.proofs.replace.replace_window.Goals as goal

pub returns-in_err-insns-clause-gives : goal.returns-in_err-insns-clause-gives
returns-in_err-insns-clause-gives c =
    let a = c.args in
    let p = err_from_is_err_and c.from_residual-in_err-insns.result c.from_residual-in_err-insns.ensures.1 in
    rw (p.1, p.2)
    (long_comes a.chain.now a.first a.end (name_at (names_of a.desc.now) a.form) a.sequence c.in_err-insns.field-0.0 c.in_err-insns.ensures.refused)

pub returns-in_err-compare-clause-gives : goal.returns-in_err-compare-clause-gives
returns-in_err-compare-clause-gives c =
    let a = c.args in
    let p = err_from_is_err_and c.from_residual-in_err-compare.result c.from_residual-in_err-compare.ensures.1 in
    rw (p.1, p.2)
    (refused_comes a.chain.now c.made.new.chain c.in_ok-insns.ensures.same a.first a.end (name_at (names_of a.desc.now) a.form) a.sequence c.in_ok-insns.insns c.in_ok-insns.ensures.made c.in_ok-insns.ensures.short
    c.in_err-compare.field-0.0 c.in_err-compare.ensures.compares)

pub returns-clause-gives : goal.returns-clause-gives
returns-clause-gives c =
    let a = c.args in
    λ i last ends. (
      replaced_comes a.chain.now c.made.new.chain c.in_ok-insns.ensures.same a.first a.end (name_at (names_of a.desc.now) a.form) a.sequence c.in_ok-insns.insns c.in_ok-insns.ensures.made c.in_ok-insns.ensures.short
          c.compare.new.chain c.replace.new.self c.insns_in.result c.requires.order c.requires.within c.in_ok-compare.ensures.same c.insns_in.ensures c.in_ok-replace.ensures.replaced
          c.in_ok-compare.ensures.compares i last ends,
      c.in_ok-count.ensures,
    )
