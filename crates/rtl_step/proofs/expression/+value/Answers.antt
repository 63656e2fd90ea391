use Rattle.std.proofs.Common.{◌∙◌, refl}
use Rattle.rtl_step.proofs.Values.{value_of_kid, value_of_more, one_wide, one_part, two_wide, two_parts}
use Rattle.rtl_step.proofs.expression.+value.Goals as goal

pub value_of_one-returns-in_err-own : goal.value_of_one-returns-in_err-own
value_of_one-returns-in_err-own t c = c.from_residual.ensures ∙ one_wide _ _ _ _ _ _ c.args.w c.in_err-own.ensures

pub value_of_one-returns-in_err-part : goal.value_of_one-returns-in_err-part
value_of_one-returns-in_err-part t c = c.from_residual-in_err-part.ensures ∙ one_part _ _ _ _ _ c.args.a.now c.args.w c.in_ok-own.own _ c.in_ok-own.ensures c.in_err-part.ensures

pub value_of_one-returns : goal.value_of_one-returns
value_of_one-returns t c = c.with_part.ensures ∙ one_part _ _ _ _ _ c.args.a.now c.args.w c.in_ok-own.own _ c.in_ok-own.ensures c.in_ok-part.ensures

pub value_of_parts-returns-in_err-own : goal.value_of_parts-returns-in_err-own
value_of_parts-returns-in_err-own t c = c.from_residual.ensures ∙ two_wide _ _ _ _ _ c.args.parts.now _ _ c.args.w c.in-len2.len_at_least c.in-len2.len_below c.a-item.is c.b-item.is c.in_err-own.ensures

pub value_of_parts-returns-in_err-first : goal.value_of_parts-returns-in_err-first
value_of_parts-returns-in_err-first t c = c.from_residual-in_err-first.ensures ∙ two_parts _ _ _ _ _ c.args.parts.now _ _ c.args.w c.in-len2.len_at_least c.in-len2.len_below c.a-item.is c.b-item.is c.in_ok-own.own c.in_ok-own.other _ _ c.in_ok-own.ensures c.in_err-first.ensures refl

pub value_of_parts-returns-in_err-second : goal.value_of_parts-returns-in_err-second
value_of_parts-returns-in_err-second t c = c.from_residual-in_err-second.ensures ∙ two_parts _ _ _ _ _ c.args.parts.now _ _ c.args.w c.in-len2.len_at_least c.in-len2.len_below c.a-item.is c.b-item.is c.in_ok-own.own c.in_ok-own.other _ _ c.in_ok-own.ensures c.in_ok-first.ensures c.in_err-second.ensures

pub value_of_parts-returns : goal.value_of_parts-returns
value_of_parts-returns t c = c.with_parts.ensures ∙ two_parts _ _ _ _ _ c.args.parts.now _ _ c.args.w c.in-len2.len_at_least c.in-len2.len_below c.a-item.is c.b-item.is c.in_ok-own.own c.in_ok-own.other _ _ c.in_ok-own.ensures c.in_ok-first.ensures c.in_ok-second.ensures

pub value-returns-in-len1 : goal.value-returns-in-len1
value-returns-in-len1 t c = c.value_of_one.ensures ∙ value_of_kid _ _ _ c.args.x.now c.args.w c.as_slice.result.now _ c.as_slice.ensures.value c.in-len1.len_at_least c.in-len1.len_below c.a-item.is

pub value-returns-in_default : goal.value-returns-in_default
value-returns-in_default t c =
    c.value_of_parts.ensures ∙ value_of_more _ _ _ c.args.x.now c.args.w c.as_slice.result.now c.as_slice.ensures.value c.in_default.len_at_least
