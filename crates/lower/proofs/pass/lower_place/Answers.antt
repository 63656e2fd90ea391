use Rattle.std.proofs.Common.{ap, subst, ◌∙◌}
use Rattle.std.specs.Prelude.{◌≡◌, Some, slice_get}
use Rattle.std.proofs.lemmas.Result.{err_from_is_err_and}
use Rattle.rtx_tree.specs.declared.function.Function.{Function}
use Rattle.rtl_chain.specs.Counts.{greatest_uid}
use Rattle.lower.proofs.Places.{stays, refuses}
use Rattle.lower.proofs.pass.lower_place.Goals as goal

pub returns-in_err-made : goal.returns-in_err-made
returns-in_err-made c =
    let p = err_from_is_err_and c.from_residual-in_err-made.result c.from_residual-in_err-made.ensures.1 in
    let same : c.next_pseudo.new.chain ≡ c.args.chain.now = c.next_pseudo.ensures.same in
    let shown : c.greatest_uid-greatest.new.self ≡ c.args.chain.now = c.greatest_uid-greatest.ensures.same ∙ same in
    rw (p.1, p.2)
    (refuses c.args.desc.now c.args.chain.now c.args.place c.insn-insn.result.now (subst (λ (f : Function). slice_get f.insns c.args.place ≡ Some c.insn-insn.result.now) shown c.insn-insn.ensures)
    c.greatest_uid-greatest.result c.in_ok-next.next (c.greatest_uid-greatest.ensures.uid ∙ ap (λ (f : Function). greatest_uid f.insns) same) c.in_ok-next.ensures.next c.in_err-made.field-0.0 c.in_err-made.ensures.gives)

pub returns-in_ok-behind-in-None : goal.returns-in_ok-behind-in-None
returns-in_ok-behind-in-None c =
    let same : c.next_pseudo.new.chain ≡ c.args.chain.now = c.next_pseudo.ensures.same in
    let shown : c.greatest_uid-greatest.new.self ≡ c.args.chain.now = c.greatest_uid-greatest.ensures.same ∙ same in
    stays c.args.desc.now c.args.chain.now c.args.place c.insn-insn.result.now (subst (λ (f : Function). slice_get f.insns c.args.place ≡ Some c.insn-insn.result.now) shown c.insn-insn.ensures)
    c.greatest_uid-greatest.result c.in_ok-next.next (c.greatest_uid-greatest.ensures.uid ∙ ap (λ (f : Function). greatest_uid f.insns) same) c.in_ok-next.ensures.next
    c.greatest_uid-greatest.new.self c.in_ok-behind-in-None.field-0 c.in_ok-made.field-0 c.in-None.is c.in_ok-made.ensures.gives (c.greatest_uid-greatest.ensures.same ∙ same) c.in_ok-behind-in-None.ensures
