-- The text of a label is that of one label alone, and a line with it has a colon and no newline.
use Rattle.std.proofs.Common.{◌≡◌, ℕ, ◌+◌, ◌<◌, ◌^◌, true, [], ◌∷◌, ◌++◌, refl, arith}
use Rattle.std.specs.Fmt.{decimal}
use Rattle.std.proofs.lemmas.Bool.Decides.{nat_tests}
use Rattle.std.proofs.lemmas.Fmt.{decimal_injective}
use Rattle.std.proofs.lemmas.List.{append_cancel_right}
use Rattle.rv_text.specs.Body.{label_text}
use Rattle.rv_text.proofs.Plain.{decimal_has, all_of_both}
use Rattle.rv_text.proofs.Marks.{is_other, Lacks, cut_at}

digit_is_other : (mark n : ℕ) → 57 < mark → n < 10 → is_other mark (48 + n) ≡ true
digit_is_other mark n large small = grind (arith, nat_tests)

digit_is_no_newline : (n : ℕ) → n < 10 → is_other 10 (48 + n) ≡ true
digit_is_no_newline n small = grind (arith, nat_tests)

pub one_label : (f u g v : ℕ) → f < 2 ^ 32 → u < 2 ^ 32 → g < 2 ^ 32 → v < 2 ^ 32 → label_text f u ≡ label_text g v → (f ≡ g) × (u ≡ v)
one_label f u g v f_fits u_fits g_fits v_fits is =
    let tails : decimal f ++ 95 ∷ decimal u ≡ decimal g ++ 95 ∷ decimal v = cc in
    let f_lacks : Lacks 95 (decimal f) = decimal_has (is_other 95) (λ n small. digit_is_other 95 n (omega arith) small) f (omega arith) in
    let g_lacks : Lacks 95 (decimal g) = decimal_has (is_other 95) (λ n small. digit_is_other 95 n (omega arith) small) g (omega arith) in
    let parts = cut_at 95 (decimal f) (decimal u) (decimal g) (decimal v) f_lacks g_lacks tails in
    (decimal_injective f g (omega arith) (omega arith) parts.0, decimal_injective u v (omega arith) (omega arith) parts.1)

pub label_lacks_newline : (f u : ℕ) → f < 2 ^ 32 → u < 2 ^ 32 → Lacks 10 (label_text f u ++ 58 ∷ [])
label_lacks_newline f u f_fits u_fits =
    let number : Lacks 10 (decimal f) = decimal_has (is_other 10) digit_is_no_newline f (omega arith) in
    let uid : Lacks 10 (decimal u) = decimal_has (is_other 10) digit_is_no_newline u (omega arith) in
    let text : Lacks 10 (decimal f ++ 95 ∷ decimal u) = all_of_both (is_other 10) (decimal f) (95 ∷ decimal u) number uid in
    let whole : Lacks 10 (label_text f u) = text in
    all_of_both (is_other 10) (label_text f u) (58 ∷ []) whole refl

-- two labels with their colons
pub one_label_line : (f u g v : ℕ) → f < 2 ^ 32 → u < 2 ^ 32 → g < 2 ^ 32 → v < 2 ^ 32 → label_text f u ++ 58 ∷ [] ≡ label_text g v ++ 58 ∷ [] → (f ≡ g) × (u ≡ v)
one_label_line f u g v f_fits u_fits g_fits v_fits is = one_label f u g v f_fits u_fits g_fits v_fits (append_cancel_right (label_text f u) (label_text g v) (58 ∷ []) is)
