-- Words that begin with no command's name.
use Rattle.std.proofs.Common.{◌≡◌, ◌∙◌, ℕ, true, false, List, [], ◌∷◌, ◌++◌, None, refl, sym, ap, ap₂, subst, codes, bytes_eq}
use Rattle.std.specs.List.{fold}
use Rattle.clap.specs.Walk.{Held, Step, Text, Walk, arg_by_long, arg_by_short, idle, nothing_held, subcommand_met, walk, walked, word_met}
use Rattle.clap.specs.Kinds.{Kinds, or_else}
use Rattle.clap.specs.Faults.{fault_of, step_fault, turn_fault, walk_fault}
use Rattle.clap.specs.Simple.{entered, subcommand_of}
use Rattle.clap.specs.declared.error.kind.ErrorKind.TheVariants as kind
use Rattle.rtlc_words.specs.machine.Grammar.{command_found, found_in, program, where_none}
use Rattle.rtlc_words.proofs.WordKinds.{IsPlain, kind_of, dashes, given, plain, refused}
use Rattle.rtlc_words.proofs.WordKinds as kinds
use Rattle.rtlc_words.proofs.Turns.{as_plain, plain_passes, refused_fails}
use Rattle.rtlc_words.proofs.Program.{faults, made, names, start}

-- ---- behind `--`

abbrev behind : Walk
behind = record start { is_trailing = true }

stays : (words : List Text) → fold (walked [] names) behind words ≡ behind
unfolding walked
stays [] = refl
stays (word ∷ words) = stays words

no_rows : (words : List Text) → subcommand_of program (codes "--" ∷ words) ≡ None
unfolding walked
no_rows words = ap (λ (w : Walk). entered made w.stopped) (stays words)

nothing_there : (a : Kinds) → command_found (where_none a None) ≡ None
nothing_there [] = refl
nothing_there (k ∷ ks) = refl

pub dashes_first : (words : List Text) → command_found (found_in (codes "--" ∷ words)) ≡ None
dashes_first words = ap (λ o. command_found (where_none (fault_of program (codes "--" ∷ words)) o)) (no_rows words) ∙ nothing_there (fault_of program (codes "--" ∷ words))

-- ---- behind any other word

-- the first step fails
abbrev Fails : Text → Type 0
Fails word = (k : kind.the_data) × (ks : Kinds) × (turn_fault made.top names start word ≡ k ∷ ks)

no_short : (x : ℕ) → arg_by_short [] x ≡ None
no_short x = refl

no_long : (t : Text) → bytes_eq (codes "md") t ≡ false → arg_by_long [] t ≡ None
no_long t other = refl

abbrev turn_by : Kinds → Held × Step → Kinds
turn_by word met = or_else word (step_fault made.top 1 met.0 met.1)

plain_fails : (word : Text) → subcommand_met names idle word ≡ None → IsPlain word → Fails word
plain_fails word other is = (
  kind.UnknownArgument,
  kind.InvalidSubcommand ∷ [],
  ap₂ turn_by (plain_passes made.top no_short no_long names idle 1 [] None word other is) (as_plain made.top no_short no_long names idle 1 [] None word other is),
)

refused_word : (word : Text) → subcommand_met names idle word ≡ None → kinds.IsRefused word → Fails word
refused_word word other is = (kind.UnknownArgument, [], ap (λ a. turn_by a (word_met [] names false idle 1 word nothing_held)) (refused_fails made.top no_short no_long names idle 1 [] None word other is))

first_fails : (word : Text) (k : kind.the_data) (ks : Kinds) (rest : List Text) → turn_fault made.top names start word ≡ k ∷ ks
    → command_found (found_in (word ∷ rest)) ≡ None
unfolding walk_fault
first_fails word k ks rest bad =
    ap (λ a. command_found (where_none (faults (or_else a (walk_fault made.top names (walked [] names start word) rest)) (walk [] names nothing_held (word ∷ rest))) (subcommand_of program (word ∷ rest)))) bad

pub no_command : (word : Text) (rest : List Text) → subcommand_met names idle word ≡ None → command_found (found_in (word ∷ rest)) ≡ None
no_command word rest other = elim (kind_of word) [
  | dashes e ↦ subst (λ (w : Text). command_found (found_in (w ∷ rest)) ≡ None) (sym e) (dashes_first rest)
  | kinds.md e ↦ subst (λ (w : Text). command_found (found_in (w ∷ rest)) ≡ None) (sym e) (first_fails (codes "--md") kind.UnknownArgument [] rest refl)
  | given text e ↦ subst (λ (w : Text). command_found (found_in (w ∷ rest)) ≡ None) (sym e) (first_fails (codes "--md=" ++ text) kind.UnknownArgument [] rest refl)
  | refused is ↦ let f = refused_word word other is in first_fails word f.0 f.1 rest f.2
  | plain is ↦ let f = plain_fails word other is in first_fails word f.0 f.1 rest f.2
]
