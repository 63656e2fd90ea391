-- The five kinds of words, as the definition and as `clap` see them.
use Rattle.std.proofs.Common.{◌≡◌, ◌∙◌, ◌<◌, ℕ, Bool, true, false, ◌==◌, List, [], ◌∷◌, ◌++◌, length, Option, Some, None, refl, sym, ap, subst, codes, inl, inr, ◌⊎◌, true≢false, bytes_eq, eqb-true, drop, get_or, ◌≤◌, ⊎_elim}
use Rattle.std.specs.Str.{chars}
use Rattle.std.specs.List.{after_first, before_first, position_or_len}
use Rattle.std.proofs.lemmas.Bool.{cases_lt}
use Rattle.std.proofs.lemmas.List.{take_all}
use Rattle.std.proofs.lemmas.List.Sums.{passes_at_first, split_at_first}
use Rattle.clap.specs.Lexer.{long_of, short_of, name_and_value}
use Rattle.clap.specs.Walk.{Text}
use Rattle.rtlc_words.specs.Words.{behind_md, is_dashed}
use Rattle.rtlc_words.proofs.Texts.{nothing_behind, other_text, same_text}
use Rattle.rtlc_words.proofs.Dashed.{double_dashed, one_letter, one_minus, two_letters}

-- a word that goes to a positional, or to an option that waits
pub record IsPlain (word : Text) : Type 0 where
  pub dashes : bytes_eq word (codes "--") ≡ false
  pub md : bytes_eq word (codes "--md") ≡ false
  pub given : behind_md word ≡ None
  pub dashed : is_dashed word ≡ false
  pub long : long_of word ≡ None
  pub short : (short_of word ≡ None) ⊎ ((flags : Text) × (short_of word ≡ Some flags) × (chars flags ≡ []))

-- `clap` takes the word for a flag that it does not know
abbrev pub IsUnknown : Text → Type 0
IsUnknown word =
    ((p : Text × Option Text) × (long_of word ≡ Some p) × (bytes_eq (codes "md") p.0 ≡ false))
    ⊎ ((flags : Text) × (c : ℕ) × (cs : List ℕ) × (long_of word ≡ None) × (short_of word ≡ Some flags) × (chars flags ≡ c ∷ cs))

-- a word that is refused
pub record IsRefused (word : Text) : Type 0 where
  pub dashes : bytes_eq word (codes "--") ≡ false
  pub md : bytes_eq word (codes "--md") ≡ false
  pub given : behind_md word ≡ None
  pub dashed : is_dashed word ≡ true
  pub unknown : IsUnknown word

pub data WordKind (word : Text) : Type 0 where
  dashes : word ≡ codes "--" → WordKind word
  md : word ≡ codes "--md" → WordKind word
  given : (name : Text) → word ≡ codes "--md=" ++ name → WordKind word
  refused : IsRefused word → WordKind word
  plain : IsPlain word → WordKind word

-- ---- words that begin with no minus

other_first : (x : ℕ) (xs ys : List ℕ) → (x == 45) ≡ false → (x ∷ xs) ≡ 45 ∷ ys → ⊥
other_first x xs ys e same =
    let is : x ≡ 45 = cc in
    true≢false (rw is at e)

no_minus : (x : ℕ) (xs : List ℕ) → (x == 45) ≡ false → WordKind (x ∷ xs)
no_minus x xs e = plain (record {
  dashes = other_text (x ∷ xs) (codes "--") (other_first x xs _ e);
  md = other_text (x ∷ xs) (codes "--md") (other_first x xs _ e);
  given = nothing_behind (x ∷ xs) (λ name. other_first x xs _ e);
  dashed = rw e refl;
  long = rw e refl;
  short = inl (rw e refl);
})

-- ---- words that begin with one

alone : WordKind (45 ∷ [])
alone = plain (record { dashes = refl; md = refl; given = refl; dashed = one_minus; long = refl; short = inl refl })

second : (y : ℕ) (ys zs : List ℕ) → (45 ∷ y ∷ ys) ≡ 45 ∷ 45 ∷ zs → y ≡ 45
second y ys zs e = cc

other_second : (y : ℕ) (ys zs : List ℕ) → (y == 45) ≡ false → (45 ∷ y ∷ ys) ≡ 45 ∷ 45 ∷ zs → ⊥
other_second y ys zs e same = true≢false (rw (second y ys zs same) at e)

single : (y : ℕ) (ys : List ℕ) → (y == 45) ≡ false → (cs : List ℕ) → chars (y ∷ ys) ≡ cs → WordKind (45 ∷ y ∷ ys)
single y ys e [] letters = plain (record {
  dashes = other_text (45 ∷ y ∷ ys) (codes "--") (other_second y ys _ e);
  md = other_text (45 ∷ y ∷ ys) (codes "--md") (other_second y ys _ e);
  given = nothing_behind (45 ∷ y ∷ ys) (λ name. other_second y ys _ e);
  dashed = one_letter y ys letters;
  long = rw e refl;
  short = inr (y ∷ ys, rw e refl, letters);
})
single y ys e (c ∷ cs) letters = refused (record {
  dashes = other_text (45 ∷ y ∷ ys) (codes "--") (other_second y ys _ e);
  md = other_text (45 ∷ y ∷ ys) (codes "--md") (other_second y ys _ e);
  given = nothing_behind (45 ∷ y ∷ ys) (λ name. other_second y ys _ e);
  dashed = two_letters y ys cs c letters;
  unknown = inr (y ∷ ys, c, cs, rw e refl, rw e refl, letters);
})

-- ---- words that begin with two

-- an option of another name
unknown_name : (z : ℕ) (zs : List ℕ) → bytes_eq (codes "md") (name_and_value (z ∷ zs)).0 ≡ false → WordKind (45 ∷ 45 ∷ z ∷ zs)
unknown_name z zs e = refused (record {
  dashes = other_text (45 ∷ 45 ∷ z ∷ zs) (codes "--") (λ same. cc);
  md = other_text (45 ∷ 45 ∷ z ∷ zs) (codes "--md") (λ same. not_named (codes "md") (drop_two same) refl);
  given = nothing_behind (45 ∷ 45 ∷ z ∷ zs) (λ name same. not_named (codes "md=" ++ name) (drop_two same) refl);
  dashed = double_dashed z zs;
  unknown = inl (name_and_value (z ∷ zs), refl, e);
})
  where
    drop_two : {rest : List ℕ} → (45 ∷ 45 ∷ z ∷ zs) ≡ 45 ∷ 45 ∷ rest → z ∷ zs ≡ rest
    drop_two same = ap (drop 2) same

    not_named : (rest : List ℕ) → z ∷ zs ≡ rest → bytes_eq (codes "md") (name_and_value rest).0 ≡ true → ⊥
    not_named rest same named = true≢false (sym named ∙ subst (λ (t : Text). bytes_eq (codes "md") (name_and_value t).0 ≡ false) same e)

-- an option of the name `md`
known_name : (z : ℕ) (zs : List ℕ) → bytes_eq (codes "md") (name_and_value (z ∷ zs)).0 ≡ true → WordKind (45 ∷ 45 ∷ z ∷ zs)
known_name z zs e = ⊎_elim behind_front whole (cases_lt (position_or_len (λ x. x == 61) (z ∷ zs)) (length (z ∷ zs)))
  where
    front : codes "md" ≡ before_first (λ x. x == 61) (z ∷ zs)
    front = same_text (codes "md") (name_and_value (z ∷ zs)).0 e

    behind_front : position_or_len (λ x. x == 61) (z ∷ zs) < length (z ∷ zs) → WordKind (45 ∷ 45 ∷ z ∷ zs)
    behind_front inside =
        let at : ℕ = get_or (z ∷ zs) (position_or_len (λ x. x == 61) (z ∷ zs)) 61 in
        let after : List ℕ = after_first (λ x. x == 61) (z ∷ zs) in
        let is : at ≡ 61 = eqb-true _ _ (passes_at_first (λ x. x == 61) (z ∷ zs) 61 inside) in
        given after (ap (λ (t : Text). 45 ∷ 45 ∷ t)
        (split_at_first (λ x. x == 61) (z ∷ zs) 61 inside ∙ ap (λ (t : Text). t ++ (at ∷ after)) (sym front) ∙ ap (λ (n : ℕ). codes "md" ++ (n ∷ after)) is))

    whole : length (z ∷ zs) ≤ position_or_len (λ x. x == 61) (z ∷ zs) → WordKind (45 ∷ 45 ∷ z ∷ zs)
    whole past = md (ap (λ (t : Text). 45 ∷ 45 ∷ t) (sym (front ∙ take_all (position_or_len (λ x. x == 61) (z ∷ zs)) (z ∷ zs) past)))

double : (xs : List ℕ) → WordKind (45 ∷ 45 ∷ xs)
double [] = dashes refl
double (z ∷ zs) = go (bytes_eq (codes "md") (name_and_value (z ∷ zs)).0) refl
  where
    go : (b : Bool) → bytes_eq (codes "md") (name_and_value (z ∷ zs)).0 ≡ b → WordKind (45 ∷ 45 ∷ z ∷ zs)
    go true e = known_name z zs e
    go false e = unknown_name z zs e

behind_minus : (xs : List ℕ) → WordKind (45 ∷ xs)
behind_minus [] = alone
behind_minus (y ∷ ys) = go (y == 45) refl
  where
    go : (b : Bool) → (y == 45) ≡ b → WordKind (45 ∷ y ∷ ys)
    go true e = subst (λ (n : ℕ). WordKind (45 ∷ n ∷ ys)) (sym (eqb-true _ _ e)) (double ys)
    go false e = single y ys e (chars (y ∷ ys)) refl

-- each word is of one of the kinds
pub kind_of : (word : Text) → WordKind word
kind_of [] = plain (record { dashes = refl; md = refl; given = refl; dashed = refl; long = refl; short = inl refl })
kind_of (x ∷ xs) = go (x == 45) refl
  where
    go : (b : Bool) → (x == 45) ≡ b → WordKind (x ∷ xs)
    go true e = subst (λ (n : ℕ). WordKind (n ∷ xs)) (sym (eqb-true _ _ e)) (behind_minus xs)
    go false e = no_minus x xs e
