use Rattle.std.proofs.Common.{None, sym, ap, subst, ◌∙◌}
use Rattle.std.specs.Prelude.{slice_get}
use Rattle.rtx_tree.specs.declared.function.Function.{Function}
use Rattle.combine.specs.Combine.{Links, Makes}
use Rattle.combine.specs.machine.Found.{Linked, Made}
use Rattle.combine.proofs.Found.{link_there, no_link, none_made, tried_made}
use Rattle.combine.proofs.search.tried.Goals as goal

pub returns-in_default-clause-pair : goal.returns-in_default-clause-pair
returns-in_default-clause-pair c =
    let a = c.args in
    no_link a.desc.now a.chain.now a.first a.second (subst (Linked a.chain.now a.first a.second) c.in_default.is c.in_ok-link.ensures)

pub made_of-requires-clause-there : goal.made_of-requires-clause-there
made_of-requires-clause-there c i at =
    let a = c.args in
    let l = c.in-Some.link in
    let links : Links a.chain.now a.first a.second l.register l.path = subst (Linked a.chain.now a.first a.second) c.in-Some.is c.in_ok-link.ensures in
    link_there a.chain.now a.first a.second l.register l.path links i (ap (λ (g : Function). slice_get g.insns a.second) (sym c.in_ok-is_dead_behind.ensures.same) ∙ at)

pub returns-in_default-2-clause-pair : goal.returns-in_default-2-clause-pair
returns-in_default-2-clause-pair c =
    let a = c.args in
    let l = c.in-Some.link in
    let links : Links a.chain.now a.first a.second l.register l.path = subst (Linked a.chain.now a.first a.second) c.in-Some.is c.in_ok-link.ensures in
    none_made a.desc.now a.chain.now a.first a.second l.register l.path links
    (subst (λ g. Made a.desc.now g a.first a.second l.path None) c.in_ok-is_dead_behind.ensures.same (subst (Made a.desc.now c.is_dead_behind.new.chain a.first a.second l.path) c.in_default-2.is c.in_ok-x.ensures))

pub returns-clause-pair : goal.returns-clause-pair
returns-clause-pair c =
    let a = c.args in
    let l = c.in-Some.link in
    let links : Links a.chain.now a.first a.second l.register l.path = subst (Linked a.chain.now a.first a.second) c.in-Some.is c.in_ok-link.ensures in
    let makes : Makes a.desc.now c.is_dead_behind.new.chain a.first a.second l.path c.in-Some-2.x =
    subst (Made a.desc.now c.is_dead_behind.new.chain a.first a.second l.path) c.in-Some-2.is c.in_ok-x.ensures in
    tried_made a.desc.now a.chain.now c.is_dead_behind.new.chain a.first a.second l.register l.path c.in-Some-2.x c.in_ok-end.end c.put_between.result c.in_ok-is_dead_behind.ensures.same links
    c.requires.order c.requires.near (c.in_ok-is_dead_behind.ensures.dead c.if-not-branch.false) makes c.in_ok-end.ensures c.put_between.ensures.put
