-- What has values wherever its readings have them, beside others.
use Rattle.std.proofs.Common.{◌≡◌, List, [], ◌∷◌, Option, Some, None, sym, ap, subst, ◌∙◌}
use Rattle.std.specs.Prelude.{option_and_then}
use Rattle.bits64.specs.declared.Width.{Width}
use Rattle.rtx_tree.specs.declared.class.Class.{Class}
use Rattle.rtx_tree.specs.declared.class.Class.TheVariants as class
use Rattle.rtx_tree.specs.declared.code.Code.{Code}
use Rattle.rtl_step.specs.Value as rtl
use Rattle.rtl_step.specs.Value.{Reading, of_two, of_one, of_converted, of_compared, compared, converted, first_width, count_width}
use Rattle.rtl_step.proofs.Too.{Too, too_then, too_two}

-- an expression as its outside reads it, beside another: the width is the same, and its values are the other's
pub record Reads (r other : Reading) : Type 0 where
  pub widths : other.width ≡ r.width
  pub values : (w : Width) → Too (r.value w) (other.value w)

abbrev pub AllRead : List Reading → List Reading → Type 0
AllRead [] [] = Unit {0}
AllRead [] (r ∷ rs) = ⊥
AllRead (r ∷ rs) [] = ⊥
AllRead (r ∷ rs) (r' ∷ rs') = Reads r r' × AllRead rs rs'

converted_by : (c : Code) (r r' : Reading) (w : Width) (own : Option Width) → Reads r r' →
    Too (option_and_then (λ own. of_one (converted c own w) (r.value own)) own)
    (option_and_then (λ own. of_one (converted c own w) (r'.value own)) own)
converted_by c r r' w None reads = λ v none. absurd (let no : ⊥ = cc in no)
converted_by c r r' w (Some own) reads = too_then (converted c own w) (r.value own) (r'.value own) (reads.values own)

pub converted_too : (c : Code) (r r' : Reading) (w : Width) → Reads r r' → Too (of_converted c r w) (of_converted c r' w)
converted_too c r r' w reads = subst
    (λ own. Too (of_converted c r w) (option_and_then (λ own. of_one (converted c own w) (r'.value own)) own))
    (sym reads.widths) (converted_by c r r' w r.width reads)

compared_by : (c : Code) (a a' b b' : Reading) (own : Option Width) → Reads a a' → Reads b b' →
    Too (option_and_then (λ own. of_two (compared c own) (a.value own) (b.value own)) own)
    (option_and_then (λ own. of_two (compared c own) (a'.value own) (b'.value own)) own)
compared_by c a a' b b' None first second = λ v none. absurd (let no : ⊥ = cc in no)
compared_by c a a' b b' (Some own) first second =
    too_two (compared c own) (a.value own) (a'.value own) (b.value own) (b'.value own) (first.values own) (second.values own)

compared_too : (c : Code) (a a' b b' : Reading) → Reads a a' → Reads b b' → Too (of_compared c a b) (of_compared c a' b')
compared_too c a a' b b' first second = subst
    (λ own. Too (of_compared c a b) (option_and_then (λ own. of_two (compared c own) (a'.value own) (b'.value own)) own))
    (sym (ap (λ o. first_width o b'.width) first.widths ∙ ap (first_width a.width) second.widths))
    (compared_by c a a' b b' (first_width a.width b.width) first second)

shifted_too : (c : Code) (a a' b b' : Reading) (w : Width) → Reads a a' → Reads b b' →
    Too (of_two (rtl.shifted c w) (a.value w) (b.value (count_width b.width)))
    (of_two (rtl.shifted c w) (a'.value w) (b'.value (count_width b'.width)))
shifted_too c a a' b b' w first second = subst
    (λ own. Too (of_two (rtl.shifted c w) (a.value w) (b.value (count_width b.width)))
    (of_two (rtl.shifted c w) (a'.value w) (b'.value (count_width own))))
    (sym second.widths)
    (too_two (rtl.shifted c w) (a.value w) (a'.value w) (b.value (count_width b.width)) (b'.value (count_width b.width))
    (first.values w) (second.values (count_width b.width)))

pub two_too : (k : Class) (c : Code) (a a' b b' : Reading) (w : Width) → Reads a a' → Reads b b' →
    Too (rtl.value_of_two k c a b w) (rtl.value_of_two k c a' b' w)
two_too class.Binary c a a' b b' w first second =
    too_two (rtl.binary c w) (a.value w) (a'.value w) (b.value w) (b'.value w) (first.values w) (second.values w)
two_too class.Shift c a a' b b' w first second = shifted_too c a a' b b' w first second
two_too class.Comparison c a a' b b' w first second = compared_too c a a' b b' first second
two_too k c a a' b b' w first second = λ v none. absurd (let no : ⊥ = cc in no)
