-- A parse of the words behind a command's name gives what the definition says.
use Rattle.std.proofs.Common.{◌≡◌, ◌∙◌, ◌+◌, ◌≤◌, cond, true, false, List, [], ◌∷◌, ◌++◌, length, Option, Some, None, refl, sym, ap, codes, arith, length-append, subst, true≢false}
use Rattle.std.specs.Str.{chars}
use Rattle.clap.specs.Lexer.{usize_max}
use Rattle.clap.specs.Walk.{Row, Text, Waiting, idle, option, positional, settled_rows, used}
use Rattle.clap.specs.Kinds.{or_else}
use Rattle.clap.specs.Faults.{settle_fault, use_fault}
use Rattle.clap.specs.declared.error.kind.ErrorKind.TheVariants as kind
use Rattle.rtlc_words.specs.Words.{arguments, described, is_dashed, named}
use Rattle.rtlc_words.proofs.Shapes.{md, rules}
use Rattle.rtlc_words.proofs.WordKinds.{kind_of, dashes, given, plain, refused}
use Rattle.rtlc_words.proofs.WordKinds as kinds
use Rattle.rtlc_words.proofs.Dashed.{double_dashed}
use Rattle.rtlc_words.proofs.Both.{both, both_again, both_described, both_nothing, both_positioned, both_with_nothing, plain_word, refused_word}
use Rattle.rtlc_words.proofs.Rows.{Reads, reads_description, reads_nothing}
use Rattle.rtlc_words.proofs.Turns.{Pending, held}
use Rattle.rtlc_words.proofs.Steps.{at, gives, step_dashes, step_given, step_md, step_refused, unless}
use Rattle.rtlc_words.proofs.ValueSteps.{is_free, step_name}
use Rattle.rtlc_words.proofs.Stands.{Form, Stands, again, at_end, behind_dashes, fresh, lost, lost_flag, next, pending, settled_reads, settles}
use Rattle.rtlc_words.proofs.Stands as stands

-- ---- from a place where no option waits

abbrev Goes : List Text → Type 0
Goes words = (rows : List Row) (f : Form) (waiting : Waiting) (d : Option Text) (ps : List Text) → Stands rows f d ps → is_free waiting ≡ true
    → length ps + length words ≤ usize_max → gives (at rows (pending f) waiting false) words ≡ both d ps (arguments words)

-- and behind `--md`
abbrev Names : List Text → Type 0
Names words = (rows : List Row) (d : Option Text) (ps : List Text) → Reads rows d ps → length ps + length words ≤ usize_max
    → gives (at rows (Some (codes "md", [])) (option (codes "md")) false) words ≡ both d ps (named words)

-- a name behind `--md`, or behind `--md=`
named_then : (text : Text) (rest : List Text) (rows : List Row) (d : Option Text) (ps : List Text) → Reads rows d ps → length ps + length rest ≤ usize_max → Goes rest
    → unless (use_fault false md (text ∷ []) rows) (gives (at (used md (text ∷ []) rows) None idle false) rest) ≡ both d ps (described text (arguments rest))
named_then text rest rows None ps reads fits goes =
    ap (λ a. unless a (gives (at (used md (text ∷ []) rows) None idle false) rest)) (fresh rows text reads.has)
    ∙ goes (used md (text ∷ []) rows) stands.none idle (Some text) ps (reads_description rows text ps reads) refl fits ∙ both_described text ps (arguments rest)
named_then text rest rows (Some other) ps reads fits goes =
    ap (λ a. unless a (gives (at (used md (text ∷ []) rows) None idle false) rest)) (again rows text reads.has) ∙ both_again text other ps (arguments rest)

name_then : (word : Text) (rest : List Text) (rows : List Row) (d : Option Text) (ps : List Text) → Reads rows d ps → length ps + length rest ≤ usize_max → Goes rest
    → gives (at rows (Some (codes "md", word ∷ [])) idle false) rest ≡ both d ps (described word (arguments rest))
name_then word rest rows None ps reads fits goes =
    goes rows (stands.name word) idle (Some word) ps (reads, refl) refl fits ∙ both_described word ps (arguments rest)
name_then word rest rows (Some other) ps reads fits goes =
    lost rest rows (word ∷ []) idle kind.ArgumentConflict [] refl (again rows word reads.has) ∙ both_again word other ps (arguments rest)

dashes_dashed : is_dashed (codes "--") ≡ true
unfolding chars
dashes_dashed = refl

goes_step : (word : Text) (rest : List Text) → Goes rest → Names rest → Goes (word ∷ rest)
goes_step word rest goes names rows f waiting d ps s free fits = elim (kind_of word) [
  | dashes e ↦ subst (λ (w : Text). gives (at rows p waiting false) (w ∷ rest) ≡ both d ps (arguments (w ∷ rest))) (sym e)
      (step_dashes rows p waiting rest ∙ behind_dashes rest rows f waiting d ps s shorter ∙ both_nothing d ps rest)
  | kinds.md e ↦ subst (λ (w : Text). gives (at rows p waiting false) (w ∷ rest) ≡ both d ps (arguments (w ∷ rest))) (sym e)
      (step_md rows p waiting rest ∙ ap (λ a. unless a (gives (at settled (Some (codes "md", [])) (option (codes "md")) false) rest)) passes
      ∙ names settled d ps reads shorter)
  | given text e ↦ subst (λ (w : Text). gives (at rows p waiting false) (w ∷ rest) ≡ both d ps (arguments (w ∷ rest))) (sym e)
      (step_given rows p waiting text rest
      ∙ ap (λ a. unless (or_else a (use_fault false md (text ∷ []) settled)) (gives (at (used md (text ∷ []) settled) None idle false) rest)) passes
      ∙ named_then text rest settled d ps reads shorter goes)
  | refused is ↦ step_refused rows p waiting word rest is ∙ ap (both d ps) (sym (refused_word word rest is))
  | plain is ↦
      let n = next rows f waiting false d ps word s (omega arith) (free, is) in
      let longer : length (ps ++ word ∷ []) + length rest ≤ usize_max = omega (arith, length-append ps (word ∷ [])) in
      n.goes rest ∙ goes n.rows_after n.form positional d (ps ++ word ∷ []) n.stands refl longer ∙ both_positioned d ps word (arguments rest)
      ∙ ap (both d ps) (sym (plain_word word rest is))
]
  where
    p : Pending
    p = pending f

    settled : List Row
    settled = settled_rows rules p rows

    shorter : length ps + length rest ≤ usize_max
    shorter = omega arith

    passes : settle_fault rules false (held rows p) ≡ []
    passes = settles rows f d ps s (omega arith)

    reads : Reads settled d ps
    reads = settled_reads rows f d ps s

names_step : (word : Text) (rest : List Text) → Goes rest → Names (word ∷ rest)
names_step word rest goes rows d ps reads fits = elim (kind_of word) [
  | dashes e ↦ dashed (subst (λ (w : Text). is_dashed w ≡ true) (sym e) dashes_dashed)
  | kinds.md e ↦ dashed (subst (λ (w : Text). is_dashed w ≡ true) (sym e) (double_dashed 109 (100 ∷ [])))
  | given text e ↦ dashed (subst (λ (w : Text). is_dashed w ≡ true) (sym e) (double_dashed 109 (100 ∷ 61 ∷ text)))
  | refused is ↦ dashed is.dashed
  | plain is ↦ step_name rows word rest is ∙ name_then word rest rows d ps reads (omega arith) goes
      ∙ ap (λ t. both d ps (cond t None (described word (arguments rest)))) (sym is.dashed)
]
  where
    dashed : is_dashed word ≡ true → gives (at rows (Some (codes "md", [])) (option (codes "md")) false) (word ∷ rest) ≡ both d ps (named (word ∷ rest))
    dashed is = lost_flag word rest rows [] (option (codes "md")) kind.InvalidValue [] refl (λ plain. absurd (true≢false (sym is ∙ plain.dashed)))
        ∙ ap (λ t. both d ps (cond t None (described word (arguments rest)))) (sym is)

mutual
  goes_on : (words : List Text) → Goes words
  goes_on [] = λ rows f waiting d ps s free fits. at_end rows f waiting false d ps s (omega arith) ∙ both_nothing d ps []
  goes_on (word ∷ rest) = goes_step word rest (goes_on rest) (goes_named rest)

  goes_named : (words : List Text) → Names words
  goes_named [] = λ rows d ps reads fits. refl
  goes_named (word ∷ rest) = names_step word rest (goes_on rest)

-- the words behind a command's name
pub reads_arguments : (words : List Text) → length words ≤ usize_max → gives (at [] None idle false) words ≡ arguments words
reads_arguments words fits = goes_on words [] stands.none idle None [] reads_nothing refl (omega arith) ∙ both_with_nothing (arguments words)
