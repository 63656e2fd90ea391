-- What a parse of the words of a command gives, one word at a time.
use Rattle.std.proofs.Common.{◌≡◌, Bool, true, false, List, [], ◌∷◌, ◌++◌, Option, Some, None, refl, ap, codes, bytes_eq, ℕ}
use Rattle.clap.specs.Simple.{Shape}
use Rattle.clap.specs.Walk.{Held, Row, Step, Text, Waiting, Walk, arg_by_long, arg_by_short, idle, option, positional, settled, settled_rows, subcommand_met, used, walked, word_met}
use Rattle.clap.specs.Kinds.{Kinds, or_else}
use Rattle.clap.specs.Faults.{settle_fault, step_fault, turn_fault, use_fault}
use Rattle.rtlc_words.specs.Words.{Arguments}
use Rattle.rtlc_words.specs.machine.Grammar.{arguments_of}
use Rattle.rtlc_words.proofs.Shapes.{md, ready, rules}
use Rattle.rtlc_words.proofs.WordKinds.{IsRefused}
use Rattle.rtlc_words.proofs.Turns.{Pending, held, refused_fails}

abbrev pub shape : Shape
shape = ready []

-- between two words of a command
abbrev pub at : List Row → Pending → Waiting → Bool → Walk
at rows pending waiting is_trailing = record { held = held rows pending; waiting = waiting; position = 1; is_trailing = is_trailing; stopped = None }

pub no_short : (x : ℕ) → arg_by_short rules x ≡ None
no_short x = refl

pub no_long : (t : Text) → bytes_eq (codes "md") t ≡ false → arg_by_long rules t ≡ None
no_long t other = rw other refl

pub no_names : (waiting : Waiting) (word : Text) → subcommand_met [] waiting word ≡ None
no_names idle word = refl
no_names (option id) word = refl
no_names positional word = refl

-- the arguments at the end of the words, unless a step failed
abbrev pub ended : Kinds → List Row → Option Arguments
ended [] rows = Some (arguments_of rows)
ended (k ∷ ks) rows = None

abbrev pub unless : Kinds → Option Arguments → Option Arguments
unless [] rest = rest
unless (k ∷ ks) rest = None

-- what the walk from here on gives
abbrev pub gives : Walk → List Text → Option Arguments
gives w [] = ended (settle_fault rules false w.held) (settled rules w.held).rows
gives w (word ∷ words) = unless (turn_fault shape [] w word) (gives (walked rules [] w word) words)

-- ---- `--`

pub step_dashes : (rows : List Row) (p : Pending) (waiting : Waiting) (words : List Text)
    → gives (at rows p waiting false) (codes "--" ∷ words) ≡ gives (at rows p waiting true) words
unfolding walked
step_dashes rows p idle words = refl
step_dashes rows p (option id) words = refl
step_dashes rows p positional words = refl

-- ---- `--md` and `--md=NAME`

or_nothing : (a : Kinds) (o : Option Arguments) → unless (or_else a []) o ≡ unless a o
or_nothing [] o = refl
or_nothing (k ∷ ks) o = refl

pub step_md : (rows : List Row) (p : Pending) (waiting : Waiting) (words : List Text)
    → gives (at rows p waiting false) (codes "--md" ∷ words)
    ≡ unless (settle_fault rules false (held rows p)) (gives (at (settled_rows rules p rows) (Some (codes "md", [])) (option (codes "md")) false) words)
unfolding walked
step_md rows p idle words = or_nothing (settle_fault rules false (held rows p)) _
step_md rows p (option id) words = or_nothing (settle_fault rules false (held rows p)) _
step_md rows p positional words = or_nothing (settle_fault rules false (held rows p)) _

pub step_given : (rows : List Row) (p : Pending) (waiting : Waiting) (name : Text) (words : List Text)
    → gives (at rows p waiting false) ((codes "--md=" ++ name) ∷ words)
    ≡ unless (or_else (settle_fault rules false (held rows p)) (use_fault false md (name ∷ []) (settled_rows rules p rows)))
    (gives (at (used md (name ∷ []) (settled_rows rules p rows)) None idle false) words)
unfolding walked
step_given rows p idle name words = or_nothing (or_else (settle_fault rules false (held rows p)) (use_fault false md (name ∷ []) (settled_rows rules p rows))) _
step_given rows p (option id) name words = or_nothing (or_else (settle_fault rules false (held rows p)) (use_fault false md (name ∷ []) (settled_rows rules p rows))) _
step_given rows p positional name words = or_nothing (or_else (settle_fault rules false (held rows p)) (use_fault false md (name ∷ []) (settled_rows rules p rows))) _

-- ---- a flag that is not known

pub step_refused : (rows : List Row) (p : Pending) (waiting : Waiting) (word : Text) (words : List Text) → IsRefused word
    → gives (at rows p waiting false) (word ∷ words) ≡ None
step_refused rows p waiting word words is =
    ap (λ a. unless (or_else a (step_fault shape 1 (met).0 (met).1)) (gives (walked rules [] (at rows p waiting false) word) words)) (refused_fails shape no_short no_long [] waiting 1 rows p word (no_names waiting word) is)
  where
    met : Held × Step
    met = word_met rules [] false waiting 1 word (held rows p)
