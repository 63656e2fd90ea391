-- Arguments in two parts: what was read so far, and what the words behind say.
use Rattle.std.proofs.Common.{◌≡◌, ◌∙◌, cond, List, [], ◌∷◌, ◌++◌, Option, Some, None, refl, ap, codes, append_assoc, bytes_eq, false}
use Rattle.clap.specs.Walk.{Text}
use Rattle.rtlc_words.specs.Words.{Arguments, arguments, behind_md, by_name, described, described_by, is_dashed, named, positioned}
use Rattle.rtlc_words.proofs.WordKinds.{IsPlain, IsRefused}

-- what was read so far, and what the words behind say
abbrev pub both_by : Option Text → List Text → Option Text → List Text → Option Arguments
both_by None before d words = Some (record { description = d; positional = before ++ words })
both_by (Some text) before None words = Some (record { description = Some text; positional = before ++ words })
both_by (Some text) before (Some other) words = None

abbrev pub both : Option Text → List Text → Option Arguments → Option Arguments
both d before None = None
both d before (Some a) = both_by d before a.description a.positional

pub both_nothing : (d : Option Text) (before words : List Text) → Some (record { description = d; positional = before ++ words }) ≡ both d before (Some (record { description = None; positional = words }))
both_nothing None before words = refl
both_nothing (Some text) before words = refl

pub both_described : (text : Text) (before : List Text) (rest : Option Arguments) → both (Some text) before rest ≡ both None before (described text rest)
both_described text before None = refl
both_described text before (Some a) = go a.description
  where
    go : (o : Option Text) → both_by (Some text) before o a.positional ≡ both None before (described_by text o a.positional)
    go None = refl
    go (Some other) = refl

pub both_again : (text other : Text) (before : List Text) (rest : Option Arguments) → None ≡ both (Some other) before (described text rest)
both_again text other before None = refl
both_again text other before (Some a) = go a.description
  where
    go : (o : Option Text) → None ≡ both (Some other) before (described_by text o a.positional)
    go None = refl
    go (Some _) = refl

pub both_positioned : (d : Option Text) (before : List Text) (word : Text) (rest : Option Arguments) → both d (before ++ word ∷ []) rest ≡ both d before (positioned word rest)
both_positioned d before word None = refl
both_positioned d before word (Some a) = go d a.description
  where
    same : (before ++ word ∷ []) ++ a.positional ≡ before ++ (word ∷ a.positional)
    same = append_assoc before (word ∷ []) a.positional

    go : (d e : Option Text) → both_by d (before ++ word ∷ []) e a.positional ≡ both_by d before e (word ∷ a.positional)
    go None e = ap (λ (xs : List Text). Some (record { description = e; positional = xs })) same
    go (Some text) None = ap (λ (xs : List Text). Some (record { description = Some text; positional = xs })) same
    go (Some text) (Some other) = refl

pub both_with_nothing : (rest : Option Arguments) → both None [] rest ≡ rest
both_with_nothing None = refl
both_with_nothing (Some a) = refl

-- ---- the definition, by the kind of the word

other_word : (word : Text) (words : List Text) → bytes_eq word (codes "--") ≡ false → bytes_eq word (codes "--md") ≡ false → behind_md word ≡ None
    → arguments (word ∷ words) ≡ cond (is_dashed word) None (positioned word (arguments words))
other_word word words d m b =
    ap (λ t. cond t (Some (record { description = None; positional = words })) (cond (bytes_eq word (codes "--md")) (named words) (by_name (behind_md word) word (arguments words)))) d
    ∙ ap (λ t. cond t (named words) (by_name (behind_md word) word (arguments words))) m ∙ ap (λ o. by_name o word (arguments words)) b

pub refused_word : (word : Text) (words : List Text) → IsRefused word → arguments (word ∷ words) ≡ None
refused_word word words is = other_word word words is.dashes is.md is.given ∙ ap (λ t. cond t None (positioned word (arguments words))) is.dashed

pub plain_word : (word : Text) (words : List Text) → IsPlain word → arguments (word ∷ words) ≡ positioned word (arguments words)
plain_word word words is = other_word word words is.dashes is.md is.given ∙ ap (λ t. cond t None (positioned word (arguments words))) is.dashed
