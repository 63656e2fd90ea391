-- One word in the walk of `clap`: a word that is no flag, and a flag that is not known.
use Rattle.std.proofs.Common.{◌≡◌, ◌∙◌, ℕ, zero, suc, cond, List, [], ◌∷◌, Option, Some, None, ◌⊎◌, inl, inr, refl, sym, ap, length, false}
use Rattle.std.specs.Prelude.{drop, encode_utf8, slice_get}
use Rattle.std.specs.Option.{option_map_or}
use Rattle.std.specs.Str.{bytes_eq, chars}
use Rattle.std.proofs.Common.{codes}
use Rattle.clap.specs.Lexer.{long_of, short_of}
use Rattle.clap.specs.Walk.{Held, Names, Row, Text, Waiting, after_flag, arg_by_long, arg_by_short, bundle, long_or_other, plain, plain_word, short_or_plain, subcommand_met, subcommand_or_other, trailing, word_met}
use Rattle.clap.specs.Kinds.{Kinds}
use Rattle.clap.specs.Faults.{bundle_fault, bundle_step_fault, flag_word_fault, flags_fault, long_fault, other_fault, short_fault, word_fault}
use Rattle.clap.specs.Simple.{Shape}
use Rattle.clap.specs.declared.error.kind.ErrorKind.TheVariants as kind
use Rattle.clap.proofs.WalkLemmas.{bundle_ends}
use Rattle.rtlc_words.proofs.WordKinds.{IsPlain, IsRefused, IsUnknown}

abbrev pub Pending : Type 0
Pending = Option (Text × List Text)

abbrev pub held : List Row → Pending → Held
held rows pending = record { rows = rows; pending = pending; skip = 0 }

abbrev pub unknown : Kinds
unknown = kind.UnknownArgument ∷ []

no_letters : (c : ℕ) (cs : List ℕ) → chars [] ≡ c ∷ cs → ⊥
unfolding chars
no_letters c cs are = cc

-- a command whose one long name may be `md`, and which has no short one
module _ (s : Shape) (no_short : (x : ℕ) → arg_by_short s.rules x ≡ None) (no_long : (t : Text) → bytes_eq (codes "md") t ≡ false → arg_by_long s.rules t ≡ None) (names : Names)
    (waiting : Waiting) (position : ℕ) (rows : List Row) (p : Pending) where
  abbrev h : Held
  h = held rows p

  no_bundle : (flags : Text) → chars flags ≡ [] → bundle s.rules flags h ≡ (h, plain)
  no_bundle flags none =
      let no_first : None ≡ slice_get (chars flags) 0 = rw none refl in
      sym (bundle_ends s.rules (length flags) flags 0 plain h no_first)

  no_flag : (word : Text) → (short_of word ≡ None) ⊎ ((flags : Text) × (short_of word ≡ Some flags) × (chars flags ≡ []))
      → short_or_plain s.rules waiting word (short_of word) h ≡ plain_word s.rules waiting word h
  no_flag word (inl none) = ap (λ o. short_or_plain s.rules waiting word o h) none
  no_flag word (inr (flags, are, none)) = ap (λ o. short_or_plain s.rules waiting word o h) are
      ∙ ap (λ (r : Held × _). after_flag s.rules waiting word r.0 r.1) (no_bundle flags none)

  -- a plain word goes to what waits, or to a positional
  pub as_plain : (word : Text) → subcommand_met names waiting word ≡ None → IsPlain word
      → word_met s.rules names false waiting position word h ≡ plain_word s.rules waiting word h
  as_plain word other is =
      ap (λ o. subcommand_or_other s.rules o waiting position word h) other
      ∙ ap (λ b. cond b (h, trailing position) (long_or_other s.rules waiting word (long_of word) h)) is.dashes
      ∙ ap (λ o. long_or_other s.rules waiting word o h) is.long ∙ no_flag word is.short

  flags_pass : (flags : Text) (k : ℕ) → chars flags ≡ [] → flags_fault s.rules s.args_override_self k flags 0 h ≡ []
  unfolding flags_fault
  flags_pass flags zero none = refl
  flags_pass flags (suc k) none =
      ap (λ o. bundle_step_fault s.rules s.args_override_self (slice_get o 0) flags 0 h (flags_fault s.rules s.args_override_self k)) none

  no_flag_passes : (word : Text) → (short_of word ≡ None) ⊎ ((flags : Text) × (short_of word ≡ Some flags) × (chars flags ≡ []))
      → flag_word_fault s.rules s.args_override_self None word h ≡ []
  no_flag_passes word (inl none) = ap (λ o. option_map_or (λ flags. bundle_fault s.rules s.args_override_self flags h) o []) none
  no_flag_passes word (inr (flags, are, none)) = ap (λ o. option_map_or (λ flags. bundle_fault s.rules s.args_override_self flags h) o []) are
      ∙ flags_pass flags (length flags) none

  -- and is no fault
  pub plain_passes : (word : Text) → subcommand_met names waiting word ≡ None → IsPlain word → word_fault s names false waiting word h ≡ []
  plain_passes word other is =
      ap (λ o. other_fault s o word h) other
      ∙ ap (λ b. cond b [] (flag_word_fault s.rules s.args_override_self (long_of word) word h)) is.dashes
      ∙ ap (λ o. flag_word_fault s.rules s.args_override_self o word h) is.long ∙ no_flag_passes word is.short

  no_letter : (flags : Text) (c : ℕ) (cs : List ℕ) → chars flags ≡ c ∷ cs → bundle_fault s.rules s.args_override_self flags h ≡ unknown
  unfolding flags_fault
  no_letter [] c cs are = absurd (no_letters c cs are)
  no_letter (x ∷ xs) c cs are =
      ap (λ o. bundle_step_fault s.rules s.args_override_self (slice_get o 0) (x ∷ xs) 0 h (flags_fault s.rules s.args_override_self (length xs))) are
      ∙ ap (λ o. short_fault s.rules s.args_override_self o (after c) h (flags_fault s.rules s.args_override_self (length xs) (after c) 0)) (no_short c)
    where
      after : ℕ → Text
      after letter = drop (length (encode_utf8 letter)) (x ∷ xs)

  unknown_flag : (word : Text) → IsUnknown word → flag_word_fault s.rules s.args_override_self (long_of word) word h ≡ unknown
  unknown_flag word (inl (q, long, other)) = ap (λ o. flag_word_fault s.rules s.args_override_self o word h) long
      ∙ ap (λ o. long_fault s.rules s.args_override_self o q.1 h) (no_long q.0 other)
  unknown_flag word (inr (flags, c, cs, long, are, letters)) = ap (λ o. flag_word_fault s.rules s.args_override_self o word h) long
      ∙ ap (λ o. option_map_or (λ flags. bundle_fault s.rules s.args_override_self flags h) o []) are ∙ no_letter flags c cs letters

  pub refused_fails : (word : Text) → subcommand_met names waiting word ≡ None → IsRefused word → word_fault s names false waiting word h ≡ unknown
  refused_fails word other is =
      ap (λ o. other_fault s o word h) other
      ∙ ap (λ b. cond b [] (flag_word_fault s.rules s.args_override_self (long_of word) word h)) is.dashes
      ∙ unknown_flag word is.unknown
