-- What the contracts of `clap` give where it is called.
use Rattle.std.proofs.Common.{◌≡◌, ◌∙◌, ◌≢◌, ◌&&◌, Bool, true, false, Option, Some, None, List, [], ◌∷◌, inl, inr, map, option_map, refl, sym, ap, ap₂}
use Rattle.std.specs.Prelude.{Box, IsSomeAnd, unwrap_or}
use Rattle.std.specs.Borrow.{Bor}
use Rattle.std.specs.Box.{box_value}
use Rattle.clap.specs.Matches.{found_of}
use Rattle.clap.specs.Walk.{Row, Text, rows_of}
use Rattle.clap.specs.Simple.{App, HasMatchesOf, built, is_simple, subcommand_of, subcommand_rows, subcommand_rows_of}
use Rattle.clap.specs.Kinds.{HasKind, Kinds}
use Rattle.clap.specs.Faults.{fault_of, is_free_app, is_simple_and_free}
use Rattle.clap.specs.Values.{kind_of}
use Rattle.clap.specs.declared.builder.range.ValueRange.{ValueRange}
use Rattle.clap.specs.declared.error.Error.{Error}
use Rattle.clap.specs.declared.error.kind.ErrorKind.TheVariants.{OutOfMemory}
use Rattle.clap.specs.declared.parser.matches.ArgMatches.{ArgMatches}
use Rattle.clap.specs.declared.parser.matches.ArgMatches.TheViews.{out-SubCommand}
use Rattle.clap.specs.declared.parser.matches.SubCommand.{SubCommand}
use Rattle.rtlc_words.specs.Words.{words_of}
use Rattle.rtlc_words.specs.machine.Grammar.{found_in, program, where_none}
use Rattle.rtlc_words.proofs.Shapes.{program_is_simple}

pub some_range : (o : Option ValueRange) (r : ValueRange) → IsSomeAnd o (λ s. s ≡ r) → o ≡ Some r
some_range None r h = absurd h
some_range (Some s) r h = ap Some h

-- ---- a parse

-- an error that is not the want of memory is a fault of the words
fails : {X : Type 0} (a : Kinds) (e : Error) (found : Option X) → HasKind a e → kind_of e ≢ OutOfMemory → None ≡ where_none a found
fails [] e found (inl memory) other = absurd (other memory)
fails [] e found (inr none) other = absurd none
fails (k ∷ ks) e found h other = refl

pub words_refused : (app : App) (texts words : List Text) (e : Error) → app ≡ program → texts ≡ words
    → (is_simple_and_free app ≡ true → HasKind (fault_of app texts) e) → kind_of e ≢ OutOfMemory → None ≡ found_in words
words_refused app texts words e is same kinds other =
    fails (fault_of app texts) e (subcommand_of program words) (kinds (ap is_simple_and_free is ∙ program_is_simple)) other
    ∙ ap₂ (λ (a : App) (ws : List Text). where_none (fault_of a ws) (subcommand_of program words)) is same

first_true : (a b : Bool) → a && b ≡ true → a ≡ true
first_true true b both = refl
first_true false b both = cc

-- words that are no fault have the command that is found
finds : {X : Type 0} (a : Kinds) (found : Option X) → a ≡ [] → found ≡ where_none a found
finds a found none = ap (λ ks. where_none ks found) (sym none)

pub words_found : (app : App) (texts words : List Text) (m : ArgMatches) → app ≡ program → texts ≡ words
    → HasMatchesOf app texts m → (is_simple_and_free app ≡ true → fault_of app texts ≡ []) → subcommand_rows_of m ≡ found_in words
words_found app texts words m is same has kinds =
    let free = ap is_simple_and_free is ∙ program_is_simple in
    (has (first_true (is_simple app) (is_free_app (built app)) free)).1
    ∙ finds (fault_of app texts) (subcommand_of app texts) (kinds free)
    ∙ ap₂ (λ (a : App) (ws : List Text). where_none (fault_of a ws) (subcommand_of a ws)) is same

-- ---- the matches

module _ {Z : Type 0} where
  pub name_and_rows : (sub : Option (Box SubCommand Z)) (name : Text) (rows : List Row)
      → Some name ≡ option_map (λ b. (out-SubCommand (box_value b)).name.now) sub → Some rows ≡ option_map (λ p. p.1) (subcommand_rows sub)
      → subcommand_rows sub ≡ Some (name, rows)
  name_and_rows None name rows named there = cc
  name_and_rows (Some b) name rows named there =
      let name_is : (out-SubCommand (box_value b)).name.now ≡ name = cc in
      let rows_are : rows_of (found_of (out-SubCommand (box_value b)).matches) ≡ rows = cc in
      ap₂ (λ (n : Text) (rs : List Row). Some (n, rs)) name_is rows_are

-- the words of an argument that was not used are none
pub words_or_none : (r : Bor (List (Bor Text))) (o : Option (Bor (List (Bor Text)))) (empty : Bor (List (Bor Text))) (texts : Option (List Text)) → r ≡ unwrap_or o empty
    → words_of empty.now ≡ [] → option_map (λ s. map (λ v. v.now) s.now) o ≡ texts → words_of r.now ≡ unwrap_or texts []
words_or_none r None empty texts is none are = ap (λ (s : Bor (List (Bor Text))). words_of s.now) is ∙ none ∙ ap (λ t. unwrap_or t []) are
words_or_none r (Some s) empty texts is none are = ap (λ (s : Bor (List (Bor Text))). words_of s.now) is ∙ ap (λ t. unwrap_or t []) are
