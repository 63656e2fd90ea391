-- Lists in two parts, where the second is in reverse.
use Rattle.std.proofs.Common.{◌≡◌, ℕ, ◌+◌, ◌≤◌, List, [], ◌∷◌, ◌++◌, length, reverse, take, drop, sym, ap, ◌∙◌, arith, refl}
use Rattle.std.proofs.Common.{append_assoc, append-nil, length-append}
use Rattle.std.proofs.lemmas.List.{take-append-le, drop-append-le, reverse-append, reverse-reverse, length-reverse}

module _ {X : Type 0} where
  -- what the parts are together, seen from the other end
  pub turned : (a b c d : List X) → b ++ reverse a ≡ d ++ reverse c → a ++ reverse b ≡ c ++ reverse d
  turned a b c d e =
      ap (λ l. l ++ reverse b) (sym (reverse-reverse a)) ∙
      (sym (reverse-append b (reverse a)) ∙
      (ap reverse e ∙
      (reverse-append d (reverse c) ∙ ap (λ l. l ++ reverse d) (reverse-reverse c))))

  none_long : (l : List X) → length l ≡ 0 → l ≡ []
  none_long [] e = refl
  none_long (x ∷ l) e = absurd (omega (arith, e))

  -- a first part that is as long as the whole is the whole, and leaves nothing behind
  pub none_behind : (front back whole : List X) → front ++ reverse back ≡ whole → length front ≡ length whole →
      back ≡ []
  none_behind front back whole is long =
      none_long back (omega (arith, long, ap length is, length-append front (reverse back), length-reverse back))

  pub all_in_front : (front back whole : List X) → front ++ reverse back ≡ whole → length front ≡ length whole →
      front ≡ whole
  all_in_front front back whole is long =
      sym (append-nil front) ∙
      (ap (λ l. front ++ reverse l) (sym (none_behind front back whole is long)) ∙ is)

  -- both parts are as long as the whole
  pub long_parts : (front back whole : List X) (a b n : ℕ) → front ++ reverse back ≡ whole →
      a ≡ length front → b ≡ length back → n ≡ a + b → n ≡ length whole
  long_parts front back whole a b n is one two sum =
      omega (arith, one, two, sum, ap length is, length-append front (reverse back), length-reverse back)

  -- items in the place of others that all stand in the first part
  pub put_in_front : (front back new : List X) (first end : ℕ) → first ≤ end → end ≤ length front →
      (take first front ++ (new ++ drop end front)) ++ back ≡
      take first (front ++ back) ++ (new ++ drop end (front ++ back))
  put_in_front front back new first end order within =
      append_assoc (take first front) (new ++ drop end front) back ∙
      (ap (λ l. take first front ++ l)
      (append_assoc new (drop end front) back ∙
      ap (λ l. new ++ l) (sym (drop-append-le end front back within))) ∙
      ap (λ l. l ++ (new ++ drop end (front ++ back)))
      (sym (take-append-le first front back (omega (arith, order, within)))))
