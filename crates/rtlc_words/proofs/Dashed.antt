-- When a word that begins with a minus has two or more characters.
use Rattle.std.proofs.Common.{◌≡◌, ◌∙◌, ℕ, Bool, true, false, ◌==◌, List, [], ◌∷◌, length, refl, sym, ap, subst, arith, lt-ltb, eqb-true, IsUtf8}
use Rattle.std.specs.Char.{encode_utf8}
use Rattle.std.specs.Prelude.{nat_lt}
use Rattle.std.specs.Str.{chars, encode_utf8_all}
use Rattle.std.proofs.lemmas.Str.{encodes-chars}
use Rattle.rtlc_words.specs.Words.{is_dashed}

pub letters : (y : ℕ) (ys : List ℕ) → chars (45 ∷ y ∷ ys) ≡ 45 ∷ chars (y ∷ ys)
unfolding chars
letters y ys = refl

pub one_minus : is_dashed (45 ∷ []) ≡ false
unfolding chars
one_minus = refl

longer : (a b : ℕ) (bs : List ℕ) → nat_lt 1 (length (a ∷ b ∷ bs)) ≡ true
longer a b bs = lt-ltb 1 (length (a ∷ b ∷ bs)) (omega arith)

pub two_letters : (y : ℕ) (ys cs : List ℕ) (c : ℕ) → chars (y ∷ ys) ≡ c ∷ cs → is_dashed (45 ∷ y ∷ ys) ≡ true
two_letters y ys cs c e = rw (letters y ys, e) (longer 45 c cs)

pub one_letter : (y : ℕ) (ys : List ℕ) → chars (y ∷ ys) ≡ [] → is_dashed (45 ∷ y ∷ ys) ≡ false
one_letter y ys e = rw (letters y ys, e) refl

pub double_dashed : (z : ℕ) (zs : List ℕ) → is_dashed (45 ∷ 45 ∷ z ∷ zs) ≡ true
double_dashed z zs = two_letters 45 (z ∷ zs) (chars (z ∷ zs)) 45 (letters z zs)

-- ---- in a text

-- two or more bytes, of which the first is a minus
abbrev pub is_dashed_bytes : List ℕ → Bool
is_dashed_bytes (a ∷ b ∷ bytes) = a == 45
is_dashed_bytes _ = false

one_byte : encode_utf8_all (45 ∷ []) ≡ 45 ∷ []
unfolding encode_utf8
one_byte = refl

-- a text of two bytes or more that begins with a minus has two characters or more
dashed_minus : (b : ℕ) (bs cs : List ℕ) → IsUtf8 (45 ∷ b ∷ bs) → chars (b ∷ bs) ≡ cs → is_dashed (45 ∷ b ∷ bs) ≡ true
dashed_minus b bs [] text are =
    let whole : 45 ∷ b ∷ bs ≡ 45 ∷ [] = sym (encodes-chars (45 ∷ b ∷ bs) text) ∙ ap encode_utf8_all (letters b bs ∙ ap (λ (xs : List ℕ). 45 ∷ xs) are) ∙ one_byte in
    cc
dashed_minus b bs (c ∷ cs) text are = two_letters b bs cs c are

-- so in a text the dashed words are those of two or more bytes that begin with a minus
pub dashed-text : (word : List ℕ) → IsUtf8 word → is_dashed word ≡ is_dashed_bytes word
dashed-text [] text = refl
dashed-text (a ∷ []) text = go (a == 45) refl
  where
    go : (t : Bool) → (a == 45) ≡ t → is_dashed (a ∷ []) ≡ false
    go true e = ap (λ (n : ℕ). is_dashed (n ∷ [])) (eqb-true _ _ e) ∙ one_minus
    go false e = rw e refl
dashed-text (a ∷ b ∷ bs) text = go (a == 45) refl
  where
    go : (t : Bool) → (a == 45) ≡ t → is_dashed (a ∷ b ∷ bs) ≡ (a == 45)
    go true e =
        let is : a ≡ 45 = eqb-true _ _ e in
        ap (λ (n : ℕ). is_dashed (n ∷ b ∷ bs)) is ∙ dashed_minus b bs (chars (b ∷ bs)) (subst (λ (n : ℕ). IsUtf8 (n ∷ b ∷ bs)) is text) refl ∙ sym e
    go false e = rw e refl
