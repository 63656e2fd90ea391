use Rattle.std.proofs.lemmas.Result.{err_from_is_err_and}
use Rattle.frame.proofs.Kept.{frame_keeps}
use Rattle.frame.proofs.Trying.{large_refused, framed_is, gave, refused}
use Rattle.frame.proofs.pass.frame.Goals as goal

pub returns-then-layout-gt-MOST_FRAME-clause-gives :
    goal.returns-then-layout-gt-MOST_FRAME-clause-gives
returns-then-layout-gt-MOST_FRAME-clause-gives c =
    large_refused c.args.desc.now c.args.f c.args.layout.now c.too_large.result
    c.if-layout-gt-MOST_FRAME.true c.too_large.ensures

pub returns-in_err-try_all-clause-gives : goal.returns-in_err-try_all-clause-gives
returns-in_err-try_all-clause-gives c =
    let p = err_from_is_err_and c.from_residual-in_err-try_all.result
    c.from_residual-in_err-try_all.ensures.1 in
    let a = c.args in
    let g = c.in_ok-g.g in
    let framed = framed_is a.desc.now a.f a.layout.now c.in_ok-whole.whole g c.in_ok-first.first
    c.as_slice.result.now
    c.as_slice.ensures.value c.in_ok-first.ensures c.in_ok-whole.ensures c.in_ok-g.ensures in
    rw (p.1, p.2)
    (refused a.desc.now a.f a.layout.now c.in_ok-whole.whole g c.in_ok-first.first
    c.as_slice.result.now c.as_slice.ensures.value
    c.in_ok-first.ensures c.as_slice-2.result.now c.in_err-try_all.field-0.0
    c.as_slice-2.ensures.value
    c.if-layout-gt-MOST_FRAME.false framed c.in_err-try_all.ensures)

pub returns-clause-gives : goal.returns-clause-gives
returns-clause-gives c =
    let a = c.args in
    let g = c.in_ok-g.g in
    let framed = framed_is a.desc.now a.f a.layout.now c.in_ok-whole.whole g c.in_ok-first.first
    c.as_slice.result.now
    c.as_slice.ensures.value c.in_ok-first.ensures c.in_ok-whole.ensures c.in_ok-g.ensures in
    gave a.desc.now a.f a.layout.now c.in_ok-whole.whole g c.in_ok-first.first c.as_slice.result.now
    c.as_slice.ensures.value
    c.in_ok-first.ensures c.as_slice-2.result.now c.in_ok-try_all.field-0 c.as_slice-2.ensures.value
    c.if-layout-gt-MOST_FRAME.false framed c.in_ok-try_all.ensures

pub returns-then-layout-gt-MOST_FRAME-clause-keeps : goal.returns-then-layout-gt-MOST_FRAME-clause-keeps
returns-then-layout-gt-MOST_FRAME-clause-keeps c =
    λ forms f g layout out natural comes. frame_keeps forms f g layout out natural comes

pub returns-in_err-first-clause-keeps : goal.returns-in_err-first-clause-keeps
returns-in_err-first-clause-keeps c =
    λ forms f g layout out natural comes. frame_keeps forms f g layout out natural comes

pub returns-in_err-whole-clause-keeps : goal.returns-in_err-whole-clause-keeps
returns-in_err-whole-clause-keeps c =
    λ forms f g layout out natural comes. frame_keeps forms f g layout out natural comes

pub returns-in_err-g-clause-keeps : goal.returns-in_err-g-clause-keeps
returns-in_err-g-clause-keeps c =
    λ forms f g layout out natural comes. frame_keeps forms f g layout out natural comes

pub returns-in_err-try_all-clause-keeps : goal.returns-in_err-try_all-clause-keeps
returns-in_err-try_all-clause-keeps c =
    λ forms f g layout out natural comes. frame_keeps forms f g layout out natural comes

pub returns-clause-keeps : goal.returns-clause-keeps
returns-clause-keeps c =
    λ forms f g layout out natural comes. frame_keeps forms f g layout out natural comes
