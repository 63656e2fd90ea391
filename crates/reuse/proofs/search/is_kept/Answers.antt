use Rattle.std.proofs.Common.{◌≡◌, ◌+◌, true, false, List, sym, ap, ◌∙◌}
use Rattle.std.specs.Option.{option_copied}
use Rattle.std.proofs.lemmas.Result.{IfOk-weaker}
use Rattle.md_forms.specs.declared.form.Entry.{Entry}
use Rattle.reuse.specs.Reuse.{keeps}
use Rattle.reuse.specs.machine.Found.{KeptFrom, NoneUpto}
use Rattle.reuse.proofs.Found.{kept_more, no_part, none_upto}
use Rattle.reuse.proofs.search.is_kept.Goals as goal

pub returns-in-Some-clause-kept : goal.returns-in-Some-clause-kept
returns-in-Some-clause-kept c =
    let f = c.args.chain.now in
    let first = c.args.first in
    let second = c.args.second in
    let source = c.in-Some.source.now in
    let i = c.insn-in-Some.result.now in
    IfOk-weaker c.keeps.result (λ r. r ≡ keeps source i) (λ kept. kept ≡ true → KeptFrom f (first + 1) second → KeptFrom f first second)
    (λ r is told. kept_more f first second i c.insn.result.now source c.requires.order c.insn-in-Some.ensures c.insn.ensures (sym c.source_of.ensures ∙ ap option_copied c.in-Some.is) (sym is ∙ told)) c.keeps.ensures

pub returns-in-Some-clause-none : goal.returns-in-Some-clause-none
returns-in-Some-clause-none c =
    let f = c.args.chain.now in
    let first = c.args.first in
    let second = c.args.second in
    let source = c.in-Some.source.now in
    let i = c.insn-in-Some.result.now in
    IfOk-weaker c.keeps.result (λ r. r ≡ keeps source i) (λ kept. kept ≡ false → (forms : List Entry) → NoneUpto forms f second first)
    (λ r is told forms. none_upto forms f first second c.requires.order c.insn.result.now c.insn.ensures source i (sym c.source_of.ensures ∙ ap option_copied c.in-Some.is) c.insn-in-Some.ensures (sym is ∙ told)) c.keeps.ensures

pub returns-in-None-clause-none : goal.returns-in-None-clause-none
returns-in-None-clause-none c told forms = no_part forms c.args.chain.now c.args.first c.args.second c.requires.order c.insn.result.now c.insn.ensures (sym c.source_of.ensures ∙ ap option_copied c.in-None.is)
