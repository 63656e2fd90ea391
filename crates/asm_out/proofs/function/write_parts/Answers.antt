use Rattle.std.proofs.Common.{[], ◌∷◌, ◌++◌, length, Ok, Err}
use Rattle.std.proofs.lemmas.Result.{err_from_is_err_and}
use Rattle.asm_out.specs.Comes.{Opening, Closing, PartComes, places_from}
use Rattle.asm_out.proofs.PartLaws.{appends_then, appends_wrong}
use Rattle.asm_out.proofs.function.write_parts.Goals as goal

pub returns-in_err-write_opening : goal.returns-in_err-write_opening
returns-in_err-write_opening c =
    let p = err_from_is_err_and c.from_residual.result c.from_residual.ensures.1 in
    let f = c.args.f.now in
    rw (p.1, p.2)
    (appends_wrong (PartComes c.args.description.now c.args.number f) (length c.args.out.now.items) (Opening ∷ []) (places_from 0 f.insns ++ Closing ∷ []) c.in_err-write_opening.field-0.0
    (c.in_err-write_opening.ensures c.args.description.now c.args.number))

pub returns-in_err-write_chain : goal.returns-in_err-write_chain
returns-in_err-write_chain c =
    let p = err_from_is_err_and c.from_residual-in_err-write_chain.result c.from_residual-in_err-write_chain.ensures.1 in
    let f = c.args.f.now in
    let comes = PartComes c.args.description.now c.args.number f in
    rw (p.1, p.2)
    (appends_wrong comes (length c.args.out.now.items) (Opening ∷ places_from 0 f.insns) (Closing ∷ []) c.in_err-write_chain.field-0.0
    (appends_then comes {A = Unit {0}} {B = Unit {0}} c.args.out.now.items c.write_opening.new.out.items c.write_chain.new.out.items c.args.items.now.items c.write_opening.new.items.items c.write_chain.new.items.items
    c.in_ok-write_opening.field-0 (Err c.in_err-write_chain.field-0.0) (Opening ∷ []) (places_from 0 f.insns) (c.in_ok-write_opening.ensures c.args.description.now c.args.number) c.in_err-write_chain.ensures))

pub returns : goal.returns
returns c =
    let f = c.args.f.now in
    let comes = PartComes c.args.description.now c.args.number f in
    let front = appends_then comes c.args.out.now.items c.write_opening.new.out.items c.write_chain.new.out.items c.args.items.now.items c.write_opening.new.items.items c.write_chain.new.items.items
    c.in_ok-write_opening.field-0 (Ok c.in_ok-write_chain.field-0) (Opening ∷ []) (places_from 0 f.insns) (c.in_ok-write_opening.ensures c.args.description.now c.args.number) c.in_ok-write_chain.ensures in
    appends_then comes c.args.out.now.items c.write_chain.new.out.items c.write_closing.new.out.items c.args.items.now.items c.write_chain.new.items.items c.write_closing.new.items.items
    c.in_ok-write_chain.field-0 c.write_closing.result (Opening ∷ places_from 0 f.insns) (Closing ∷ []) front (c.write_closing.ensures c.args.description.now c.args.number)
