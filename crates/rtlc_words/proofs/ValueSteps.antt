-- What a parse gives at a word that is no flag.
use Rattle.std.proofs.Common.{◌≡◌, ◌∙◌, Bool, true, false, List, [], ◌∷◌, ◌++◌, Some, None, refl, ap, codes, true≢false, sym}
use Rattle.std.specs.Bool.{⊤}
use Rattle.clap.specs.Walk.{Held, Row, Step, Text, Waiting, Walk, after_step, idle, option, plain_word, positional, to_positional, used, value, walked, word_met}
use Rattle.clap.specs.Kinds.{or_else}
use Rattle.clap.specs.Faults.{positional_fault, settle_fault, step_fault, word_fault}
use Rattle.rtlc_words.proofs.Shapes.{md, rules}
use Rattle.rtlc_words.proofs.Shapes as shapes
use Rattle.rtlc_words.proofs.WordKinds.{IsPlain}
use Rattle.rtlc_words.proofs.Steps.{at, gives, no_long, no_names, no_short, shape, unless}
use Rattle.rtlc_words.proofs.Turns.{Pending, as_plain, held, plain_passes}

-- ---- a word that goes to the option that waits

pub step_name : (rows : List Row) (word : Text) (words : List Text) → IsPlain word
    → gives (at rows (Some (codes "md", [])) (option (codes "md")) false) (word ∷ words) ≡ gives (at rows (Some (codes "md", word ∷ [])) idle false) words
unfolding walked
step_name rows word words is =
    ap (λ a. unless (or_else a (step_fault shape 1 (met).0 (met).1)) (gives (after_step rules word w (met).0 (met).1) words)) (plain_passes shape no_short no_long [] (option (codes "md")) 1 rows waits word refl is)
    ∙ ap (λ (m : Held × Step). unless (step_fault shape 1 m.0 m.1) (gives (after_step rules word w m.0 m.1) words)) (as_plain shape no_short no_long [] (option (codes "md")) 1 rows waits word refl is)
  where
    waits : Pending
    waits = Some (codes "md", [])

    w : Walk
    w = at rows waits (option (codes "md")) false

    met : Held × Step
    met = word_met rules [] false (option (codes "md")) 1 word (held rows waits)

-- ---- a positional word

-- no option waits for the word
abbrev pub is_free : Waiting → Bool
is_free (option id) = false
is_free _ = true

as_value : (waiting : Waiting) (word : Text) (h : Held) → is_free waiting ≡ true → plain_word rules waiting word h ≡ (h, value)
as_value idle word h free = refl
as_value (option id) word h free = absurd (true≢false (sym free))
as_value positional word h free = refl

-- behind `--` it may be any word
abbrev pub IsValue : Bool → Waiting → Text → Type 0
IsValue true waiting word = ⊤
IsValue false waiting word = (is_free waiting ≡ true) × IsPlain word

value_met : (t : Bool) (rows : List Row) (p : Pending) (waiting : Waiting) (word : Text) → IsValue t waiting word
    → word_met rules [] t waiting 1 word (held rows p) ≡ (held rows p, value)
value_met true rows p waiting word is = refl
value_met false rows p waiting word is = as_plain shape no_short no_long [] waiting 1 rows p word (no_names waiting word) is.1 ∙ as_value waiting word (held rows p) is.0

value_passes : (t : Bool) (rows : List Row) (p : Pending) (waiting : Waiting) (word : Text) → IsValue t waiting word
    → word_fault shape [] t waiting word (held rows p) ≡ []
value_passes true rows p waiting word is = refl
value_passes false rows p waiting word is = plain_passes shape no_short no_long [] waiting 1 rows p word (no_names waiting word) is.1

step_value : (t : Bool) (rows : List Row) (p : Pending) (waiting : Waiting) (word : Text) (words : List Text) → IsValue t waiting word
    → gives (at rows p waiting t) (word ∷ words)
    ≡ unless (positional_fault rules false shapes.positional (held rows p)) (gives (to_positional rules (Some shapes.positional) word (at rows p waiting t) (held rows p)) words)
unfolding walked
step_value t rows p waiting word words is =
    ap (λ a. unless (or_else a (step_fault shape 1 (met).0 (met).1)) (gives (after_step rules word w (met).0 (met).1) words)) (value_passes t rows p waiting word is)
    ∙ ap (λ (m : Held × Step). unless (step_fault shape 1 m.0 m.1) (gives (after_step rules word w m.0 m.1) words)) (value_met t rows p waiting word is)
  where
    w : Walk
    w = at rows p waiting t

    met : Held × Step
    met = word_met rules [] t waiting 1 word (held rows p)

-- behind none, or behind the value of `--md`
pub step_first : (t : Bool) (rows : List Row) (waiting : Waiting) (word : Text) (words : List Text) → IsValue t waiting word
    → gives (at rows None waiting t) (word ∷ words) ≡ gives (at rows (Some (codes "words", word ∷ [])) positional t) words
step_first true rows waiting word words is = step_value true rows None waiting word words is
step_first false rows waiting word words is = step_value false rows None waiting word words is

pub step_behind : (t : Bool) (rows : List Row) (names : List Text) (waiting : Waiting) (word : Text) (words : List Text) → IsValue t waiting word
    → gives (at rows (Some (codes "md", names)) waiting t) (word ∷ words)
    ≡ unless (settle_fault rules false (held rows (Some (codes "md", names)))) (gives (at (used md names rows) (Some (codes "words", word ∷ [])) positional t) words)
step_behind true rows names waiting word words is = step_value true rows (Some (codes "md", names)) waiting word words is
step_behind false rows names waiting word words is = step_value false rows (Some (codes "md", names)) waiting word words is

-- behind another
pub step_more : (t : Bool) (rows : List Row) (before : List Text) (waiting : Waiting) (word : Text) (words : List Text) → IsValue t waiting word
    → gives (at rows (Some (codes "words", before)) waiting t) (word ∷ words) ≡ gives (at rows (Some (codes "words", before ++ word ∷ [])) positional t) words
step_more true rows before waiting word words is = step_value true rows (Some (codes "words", before)) waiting word words is
step_more false rows before waiting word words is = step_value false rows (Some (codes "words", before)) waiting word words is
