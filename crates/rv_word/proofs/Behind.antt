-- Words that are put behind others.
use Rattle.std.proofs.Common.{◌≡◌, ℕ, zero, suc, ◌-◌, ◌^◌, ◌≢◌, List, [], ◌∷◌, ◌++◌, Bool, false, if◌then◌else◌, map, Result, Ok, Err, refl, sym, ◌∙◌, ap, subst, append_assoc, arith}
use Rattle.std.specs.Prelude.{ℤ, pos, negsuc, OnOk}
use Rattle.std.specs.Int.{cast_unsigned, w64}
use Rattle.std.proofs.lemmas.Int.{to_z-of_z}
use mir.Val.{SFits, to_z}
use Rattle.rv_word.proofs.Straight.{Lies, once}
use Rattle.rv_word.specs.Word.{encode}
use Rattle.rv_word.specs.Spelling.{base_of}
use Rattle.rv_word.specs.Sequence.{added, fits, near_words, shifted, li_words}
use Rattle.rv_word.specs.declared.base.Base.{Base}
use Rattle.rv_word.specs.declared.base.BaseOp.TheVariants as base

mapped : (xs ys : List Base) → map encode xs ++ map encode ys ≡ map encode (xs ++ ys)
mapped [] ys = refl
mapped (x ∷ xs) ys = ap (λ rest. encode x ∷ rest) (mapped xs ys)

pub more : {X E : Type 0} → (r : Result X E) (words mid new : List ℕ) (xs ys whole : List Base) → mid ≡ words ++ map encode xs → whole ≡ xs ++ ys → OnOk r (new ≡ mid ++ map encode ys) → OnOk r (new ≡ words ++ map encode whole)
more (Ok x) words mid new xs ys whole mid_is whole_is is =
    is ∙ (ap (λ m. m ++ map encode ys) mid_is ∙ (append_assoc words (map encode xs) (map encode ys) ∙ ap (λ m. words ++ m) (mapped xs ys ∙ ap (map encode) (sym whole_is))))
more (Err e) words mid new xs ys whole mid_is whole_is is = is

-- two words, one behind the other
pub two : {X E : Type 0} (r : Result X E) (words mid new : List ℕ) (a b p q : Base) → a ≡ p → b ≡ q → mid ≡ words ++ encode a ∷ [] → OnOk r (new ≡ mid ++ encode b ∷ []) → OnOk r (new ≡ words ++ encode p ∷ encode q ∷ [])
two (Ok x) words mid new a b p q a_is b_is mid_is is =
    is ∙ (ap (λ m. m ++ encode b ∷ []) (mid_is ∙ ap (λ z. words ++ encode z ∷ []) a_is) ∙ (append_assoc words (encode p ∷ []) (encode b ∷ []) ∙ ap (λ z. words ++ encode p ∷ encode z ∷ []) b_is))
two (Err e) words mid new a b p q a_is b_is mid_is is = is

pub cut_words : (cuts rd : ℕ) (c : ℤ) → cuts ≢ 0 → fits (2 ^ 31) c ≡ false → li_words cuts rd c ≡ li_words (cuts - 1) rd (shifted c) ++ base_of base.Slli rd rd 0 (pos 12) ∷ added base.Addi rd (cast_unsigned w64 c)
cut_words zero rd c some not_near = absurd (some refl)
cut_words (suc cuts) rd c some not_near =
    let less : cuts ≡ suc cuts - 1 = omega arith in
    let tail = base_of base.Slli rd rd 0 (pos 12) ∷ added base.Addi rd (cast_unsigned w64 c) in
    ap (λ t. if t then near_words rd c else li_words cuts rd (shifted c) ++ tail) not_near ∙ ap (λ n. li_words n rd (shifted c) ++ tail) less

lies_fits : (z : ℤ) → Lies (2 ^ 51) z → SFits w64 z
lies_fits (pos n) within = record { sfits = omega arith }
lies_fits (negsuc n) within = record { sfits = omega arith }

pub shifted_fits : (c : ℤ) → SFits w64 (shifted c)
shifted_fits c = lies_fits (shifted c) (once c)

-- what the code passes on is the number
abbrev pub same : ℤ → ℤ
same z = to_z w64 (cast_unsigned w64 z)

pub cut_step : {X E : Type 0} → (r : Result X E) (words mid new : List ℕ) (cuts rd : ℕ) (number left : ℤ) (near : Bool) → SFits w64 number → cuts ≢ 0 → near ≡ fits (2 ^ 31) (same number) → near ≡ false → left ≡ shifted (same number) →
    mid ≡ words ++ map encode (li_words (cuts - 1) rd (same left)) → OnOk r (new ≡ mid ++ map encode (base_of base.Slli rd rd 0 (pos 12) ∷ added base.Addi rd (cast_unsigned w64 (same number)))) → OnOk r (new ≡ words ++ map encode (li_words cuts rd number))
cut_step r words mid new cuts rd number left near range some tested far left_is mid_is is =
    let raw : same number ≡ number = to_z-of_z w64 number range in
    let not_near : fits (2 ^ 31) number ≡ false = ap (fits (2 ^ 31)) (sym raw) ∙ (sym tested ∙ far) in
    let rest : left ≡ shifted number = left_is ∙ ap shifted raw in
    let passed : same left ≡ shifted number = ap same rest ∙ to_z-of_z w64 (shifted number) (shifted_fits number) in
    let P : ℤ → Type 0 = λ z. OnOk r (new ≡ mid ++ map encode (base_of base.Slli rd rd 0 (pos 12) ∷ added base.Addi rd (cast_unsigned w64 z))) in
    more r words mid new (li_words (cuts - 1) rd (shifted number)) (base_of base.Slli rd rd 0 (pos 12) ∷ added base.Addi rd (cast_unsigned w64 number)) (li_words cuts rd number)
    (mid_is ∙ ap (λ z. words ++ map encode (li_words (cuts - 1) rd z)) passed) (cut_words cuts rd number some not_near) (subst P raw is)
