-- One level of a parse: what the contracts of `clap` say of the words behind a command's name.
use Rattle.std.proofs.Common.{◌≡◌, ◌∙◌, ◌≤◌, Bool, cond, true, false, List, [], ◌∷◌, length, None, refl, sym, ap, ap₂, ◌||◌}
use Rattle.std.specs.List.{fold}
use Rattle.clap.specs.Lexer.{usize_max}
use Rattle.clap.specs.Walk.{Row, Rule, Text, Walk, default_rows, finished, has_row, idle, is_empty, nothing_held, reading_by, rows_after, settled, walk, walked, with_default}
use Rattle.clap.specs.Kinds.{Kinds, or_else}
use Rattle.clap.specs.Faults.{default_fault, check_fault, defaults_fault, given_default_fault, level_fault, settle_fault, turn_fault, walk_fault}
use Rattle.rtlc_words.specs.Words.{arguments}
use Rattle.rtlc_words.proofs.Shapes.{md, positional, ready, rules}
use Rattle.rtlc_words.proofs.Steps.{at, ended, gives, shape, unless}
use Rattle.rtlc_words.proofs.Reading.{reads_arguments}

unless_ended : (a b : Kinds) (rows : List Row) → unless a (ended b rows) ≡ ended (or_else a b) rows
unless_ended [] b rows = refl
unless_ended (k ∷ ks) b rows = refl

pub or_else_assoc : (a b c : Kinds) → or_else (or_else a b) c ≡ or_else a (or_else b c)
or_else_assoc [] b c = refl
or_else_assoc (k ∷ ks) b c = refl

pub or_else_none : (a : Kinds) → or_else a [] ≡ a
or_else_none [] = refl
or_else_none (k ∷ ks) = refl

-- the walk as a whole, and word by word
gives_walk : (w : Walk) (words : List Text)
    → gives w words ≡ ended (or_else (walk_fault shape [] w words) (settle_fault rules false (fold (walked rules []) w words).held)) (settled rules (fold (walked rules []) w words).held).rows
unfolding walk_fault
gives_walk w [] = refl
gives_walk w (word ∷ words) =
    let turn : Kinds = turn_fault shape [] w word in
    let next : Walk = walked rules [] w word in
    let last : Walk = fold (walked rules []) next words in
    ap (unless turn) (gives_walk next words)
    ∙ unless_ended turn (or_else (walk_fault shape [] next words) (settle_fault rules false last.held)) (settled rules last.held).rows
    ∙ ap (λ a. ended a (settled rules last.held).rows) (sym (or_else_assoc turn (walk_fault shape [] next words) (settle_fault rules false last.held)))

-- no argument has a default
no_default : (r : Rule) (rows : List Row) → r.defaults ≡ [] → with_default rows r ≡ rows
no_default r rows none = ap (λ ds. cond (has_row r.id rows) rows (default_rows r.id (reading_by r) ds rows)) none ∙ same (has_row r.id rows)
  where
    same : (b : Bool) → cond b rows rows ≡ rows
    same true = refl
    same false = refl

no_defaults : (rows : List Row) → fold with_default rows rules ≡ rows
no_defaults rows = ap (λ rs. with_default rs positional) (no_default md rows refl) ∙ no_default positional rows refl

no_default_fault : (rows : List Row) (r : Rule) → r.defaults ≡ [] → default_fault rows r ≡ []
no_default_fault rows r none = ap (λ ds. cond (has_row r.id rows || is_empty ds) [] (given_default_fault r ds)) none ∙ same (has_row r.id rows)
  where
    same : (b : Bool) → cond (b || true) [] (given_default_fault r []) ≡ []
    same true = refl
    same false = refl

no_default_faults : (rows : List Row) → defaults_fault rows rules ≡ []
unfolding defaults_fault
no_default_faults rows = ap₂ or_else (no_default_fault rows md refl) (ap (λ a. or_else a []) (no_default_fault (with_default rows md) positional refl))

any_name : (name : Text) (w : Walk) (words : List Text) → walk_fault (ready name) [] w words ≡ walk_fault shape [] w words
unfolding walk_fault
any_name name w [] = refl
any_name name w (word ∷ words) = ap (or_else (turn_fault shape [] w word)) (any_name name (walked rules [] w word) words)

last_faults : (name : Text) (settle : Kinds) (rows all : List Row)
    → or_else settle (or_else (defaults_fault rows rules) (check_fault (ready name) all false)) ≡ settle
last_faults name settle rows all = ap (λ a. or_else settle (or_else a [])) (no_default_faults rows) ∙ or_else_none settle

-- what the words behind a command's name come to
pub level_arguments : (name : Text) (words : List Text) → length words ≤ usize_max
    → ended (level_fault (ready name) [] nothing_held words false []) (rows_after rules [] words) ≡ arguments words
level_arguments name words fits =
    let start : Walk = at [] None idle false in
    let last : Walk = walk rules [] nothing_held words in
    let settle : Kinds = settle_fault rules false last.held in
    let rows : List Row = (settled rules last.held).rows in
    ap₂ (λ (a b : Kinds). ended (or_else a b) (finished rules last.held)) (any_name name start words) (last_faults name settle rows (finished rules last.held))
    ∙ ap (ended (or_else (walk_fault shape [] start words) settle)) (no_defaults rows)
    ∙ sym (gives_walk start words) ∙ reads_arguments words fits
