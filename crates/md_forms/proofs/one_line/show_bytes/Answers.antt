use Rattle.std.proofs.Common.{◌≡◌, ◌<◌, length, set, suc, ap, sym, ◌∙◌, arith, add-one}
use Rattle.md_forms.proofs.ShownBytes.{shown_from, shown_next, shown_all}
use Rattle.md_forms.proofs.one_line.show_bytes.Goals as goal

pub loop-byte-preserved : goal.loop-byte-preserved
loop-byte-preserved c =
    let lt : c.loop-byte.byte-index < length c.loop-byte.bytes = omega arith in
    ap (λ n. shown_from n (set c.loop-byte.bytes c.loop-byte.byte-index c.shown_byte.result)) (add-one c.loop-byte.byte-index) ∙
    (ap (λ v. shown_from (suc c.loop-byte.byte-index) (set c.loop-byte.bytes c.loop-byte.byte-index v)) c.shown_byte.ensures ∙
    (shown_next c.loop-byte.bytes c.loop-byte.byte-index lt ∙ c.loop-byte.invariant))

pub returns : goal.returns
returns c =
    let all : c.loop-byte.byte-index ≡ length c.loop-byte.bytes = omega arith in
    sym (shown_all c.loop-byte.bytes) ∙ (ap (λ n. shown_from n c.loop-byte.bytes) (sym all) ∙ c.loop-byte.invariant)
