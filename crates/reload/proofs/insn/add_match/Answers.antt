use Rattle.std.proofs.Common.{◌∙◌, ap, length, List, get_or, arith}
use Rattle.rtx_tree.specs.declared.tree.Rtx.{Rtx}
use Rattle.reload.proofs.Adding.{has_pattern, match_added}
use Rattle.reload.proofs.insn.add_match.Goals as goal

pub bounds-patterns_at-0 : goal.bounds-patterns_at-0
bounds-patterns_at-0 c =
    let same = ap (λ (ps : List Rtx). length ps) c.patterns_at.ensures in
    let long = has_pattern c.args.setting.now.desc.now c.args.placed.now c.args.found.now
    c.requires.first in
    omega (arith, same, long)

pub returns : goal.returns
returns c =
    let a = c.args in
    let pattern = c.index-patterns_at-0.result in
    match_added a.setting.now.desc.now a.setting.now.homes.now a.setting.now.layout.now a.uid
    a.insn.now a.found.now a.placed.now
    pattern c.in_ok-given.given a.insns.now c.add_given.new.insns c.add_given.result
    c.requires.needs c.requires.placed
    c.requires.first (c.index-patterns_at-0.is ∙ ap (λ (ps : List Rtx). get_or ps 0 pattern)
    c.patterns_at.ensures)
    c.in_ok-given.ensures c.add_given.ensures
