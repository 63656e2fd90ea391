-- The words are the command that `clap` finds in them.
use Rattle.std.proofs.Common.{◌≡◌, ◌∙◌, ◌≤◌, Bool, true, false, List, [], ◌∷◌, length, map, Option, Some, None, refl, sym, ap, subst, codes, bytes_eq, arith, true≢false}
use Rattle.std.specs.Prelude.{find, option_and_then}
use Rattle.std.specs.List.{list_any}
use Rattle.clap.specs.Lexer.{usize_max}
use Rattle.clap.specs.Walk.{Names, Text, answers_to, idle, subcommand_met}
use Rattle.clap.specs.Faults.{defaults_fault, walk_fault}
use Rattle.clap.specs.Simple.{Shape, label_of}
use Rattle.rtlc_words.specs.Words.{Arguments, arguments, command_named, command_of, table}
use Rattle.rtlc_words.specs.machine.Grammar.{command_found, command_names, found_in}
use Rattle.rtlc_words.proofs.Texts.{other_text, same_text}
use Rattle.rtlc_words.proofs.Shapes.{ready}
use Rattle.rtlc_words.proofs.Program.{known_command}
use Rattle.rtlc_words.proofs.NoCommand.{no_command}

no_words : command_found (found_in []) ≡ None
unfolding walk_fault defaults_fault
no_words = refl

abbrev is_among : Text → List Text → Bool
is_among name = list_any (λ n. bytes_eq n name)

abbrev labels : List Text → Names
labels ns = map label_of (map ready ns)

-- ---- a name among those of the commands

known : (name : Text) (ns : List Text) → is_among name ns ≡ true → find (λ (s : Shape). answers_to name (label_of s)) (map ready ns) ≡ Some (ready name)
known name [] e = cc
known name (n ∷ ns) e = go (bytes_eq n name) refl (known name ns)
  where
    go : (b : Bool) → bytes_eq n name ≡ b → (is_among name ns ≡ true → find (λ (s : Shape). answers_to name (label_of s)) (map ready ns) ≡ Some (ready name))
        → find (λ (s : Shape). answers_to name (label_of s)) (map ready (n ∷ ns)) ≡ Some (ready name)
    go true same rest = rw same (ap (λ (t : Text). Some (ready t)) (same_text n name same))
    go false other rest = rw other (rest (rw other at e))

met : (name : Text) (ns : List Text) → is_among name ns ≡ true → subcommand_met (labels ns) idle name ≡ Some name
met name [] e = cc
met name (n ∷ ns) e = go (bytes_eq n name) refl (met name ns)
  where
    go : (b : Bool) → bytes_eq n name ≡ b → (is_among name ns ≡ true → subcommand_met (labels ns) idle name ≡ Some name) → subcommand_met (labels (n ∷ ns)) idle name ≡ Some name
    go true same rest = rw same (ap Some (same_text n name same))
    go false other rest = rw other (rest (rw other at e))

no_help : (name : Text) → is_among name command_names ≡ true → bytes_eq name (codes "help") ≡ false
no_help name e = other_text name (codes "help") (λ same. true≢false (sym (subst (λ (t : Text). is_among t command_names ≡ true) same e)))

-- ---- any other

unmet : (name : Text) (ns : List Text) → is_among name ns ≡ false → subcommand_met (labels ns) idle name ≡ None
unmet name [] e = refl
unmet name (n ∷ ns) e = go (bytes_eq n name) refl (unmet name ns)
  where
    go : (b : Bool) → bytes_eq n name ≡ b → (is_among name ns ≡ false → subcommand_met (labels ns) idle name ≡ None) → subcommand_met (labels (n ∷ ns)) idle name ≡ None
    go true same rest = let bad = rw same at e in cc
    go false other rest = rw other (rest (rw other at e))

module _ {X : Type 0} where
  no_row : (name : Text) (rows : List (Text × X)) → is_among name (map (λ row. row.0) rows) ≡ false → find (λ row. bytes_eq row.0 name) rows ≡ None
  no_row name [] e = refl
  no_row name (r ∷ rs) e = go (bytes_eq r.0 name) refl (no_row name rs)
    where
      go : (b : Bool) → bytes_eq r.0 name ≡ b → (is_among name (map (λ row. row.0) rs) ≡ false → find (λ row. bytes_eq row.0 name) rs ≡ None) → find (λ row. bytes_eq row.0 name) (r ∷ rs) ≡ None
      go true same rest = let bad = rw same at e in cc
      go false other rest = rw other (rest (rw other at e))

unnamed : (name : Text) (o : Option Arguments) → is_among name command_names ≡ false → command_named name o ≡ None
unnamed name None e = refl
unnamed name (Some a) e = ap (λ o. option_and_then (λ row. row.1 a.description a.positional) o) (no_row name table e)

-- ---- all words

with_name : (name : Text) (rest : List Text) → length rest ≤ usize_max → (b : Bool) → is_among name command_names ≡ b
    → command_found (found_in (name ∷ rest)) ≡ command_named name (arguments rest)
with_name name rest fits true e = known_command name rest (met name command_names e) (no_help name e) (known name command_names e) fits
with_name name rest fits false e = no_command name rest (unmet name command_names e) ∙ sym (unnamed name (arguments rest) e)

pub command_read : (words : List Text) → length words ≤ usize_max → command_found (found_in words) ≡ command_of words
command_read [] fits = no_words
command_read (name ∷ rest) fits = with_name name rest (omega arith) (is_among name command_names) refl
