-- The kinds of findings, and the words for them. They are this project's own.
use Rattle.std.specs.Prelude.{ℕ, Bool, true, false, List, codes}
use Rattle.lint_sentences.specs.declared.kind.Kind.{Kind}
use Rattle.lint_sentences.specs.declared.kind.Kind.TheVariants as kind

abbrev pub word_of : Kind → List ℕ
word_of kind.Aside = codes "aside"
word_of kind.Wrong = codes "wrong"
word_of kind.Unreached = codes "unreached"
word_of kind.Missing = codes "missing"
word_of kind.Unmatched = codes "unmatched"
word_of kind.Untaken = codes "untaken"
word_of kind.Cannot = codes "cannot"
word_of kind.Idle = codes "idle"

abbrev pub is_kind : Kind → Kind → Bool
is_kind kind.Aside kind.Aside = true
is_kind kind.Wrong kind.Wrong = true
is_kind kind.Unreached kind.Unreached = true
is_kind kind.Missing kind.Missing = true
is_kind kind.Unmatched kind.Unmatched = true
is_kind kind.Untaken kind.Untaken = true
is_kind kind.Cannot kind.Cannot = true
is_kind kind.Idle kind.Idle = true
is_kind _ _ = false
