-- Where a parse of the words of a command stands, and how it goes on behind `--` and behind a description too many.
use Rattle.std.proofs.Common.{◌≡◌, ◌∙◌, ◌+◌, ◌≤◌, Bool, true, false, List, [], ◌∷◌, ◌++◌, length, Option, Some, None, refl, sym, ap, ap₂, codes, arith, append_assoc, append-nil, length-append, le-ltb, subst}
use Rattle.std.specs.Prelude.{nat_lt}
use Rattle.clap.specs.Lexer.{usize_max}
use Rattle.clap.specs.Walk.{Row, Text, Waiting, has_row, idle, option, positional, settled_rows, used}
use Rattle.clap.specs.Kinds.{Kinds, or_else, values_kinds}
use Rattle.clap.specs.Faults.{settle_fault, use_fault}
use Rattle.clap.specs.declared.error.kind.ErrorKind.TheVariants as kind
use Rattle.clap.specs.declared.builder.value_parser.ValueParser.TheVariants as vp
use Rattle.rtlc_words.proofs.Shapes.{md, rules}
use Rattle.rtlc_words.proofs.Shapes as shapes
use Rattle.rtlc_words.proofs.WordKinds.{IsPlain, kind_of, dashes, given, plain, refused}
use Rattle.rtlc_words.proofs.WordKinds as kinds
use Rattle.rtlc_words.proofs.Rows.{Reads, reads_description, reads_words}
use Rattle.rtlc_words.proofs.Turns.{Pending, held}
use Rattle.rtlc_words.proofs.Steps.{at, ended, gives, step_dashes, step_given, step_md, step_refused, unless}
use Rattle.rtlc_words.proofs.ValueSteps.{IsValue, is_free, step_behind, step_first, step_more}

-- ---- faults of uses

pub fresh : (rows : List Row) (name : Text) → has_row (codes "md") rows ≡ false → use_fault false md (name ∷ []) rows ≡ []
fresh rows name none = rw none refl

pub again : (rows : List Row) (name : Text) → has_row (codes "md") rows ≡ true → use_fault false md (name ∷ []) rows ≡ kind.ArgumentConflict ∷ []
again rows name there = rw there refl

any_text : (ws : List Text) → values_kinds false vp.String ws ≡ []
any_text [] = refl
any_text (w ∷ ws) = any_text ws

words_pass : (rows : List Row) (word : Text) (ws : List Text) → length (word ∷ ws) ≤ usize_max → use_fault false shapes.positional (word ∷ ws) rows ≡ []
words_pass rows word ws fits =
    let least : nat_lt (length (word ∷ ws)) 0 ≡ false = le-ltb (length (word ∷ ws)) 0 (omega arith) in
    let most : nat_lt usize_max (length (word ∷ ws)) ≡ false = le-ltb usize_max (length (word ∷ ws)) fits in
    rw (least, most) (any_text (word ∷ ws))

-- ---- where it stands

-- what waits to be used: nothing, the value of `--md`, or positional words
pub data Form : Type 0 where
  none : Form
  name : Text → Form
  words : Text → List Text → Form

abbrev pub pending : Form → Pending
pending none = None
pending (name text) = Some (codes "md", text ∷ [])
pending (words word ws) = Some (codes "words", word ∷ ws)

-- with what waits, the rows say this
abbrev pub Stands : List Row → Form → Option Text → List Text → Type 0
Stands rows none d ps = Reads rows d ps
Stands rows (name text) d ps = Reads rows None ps × (d ≡ Some text)
Stands rows (words word ws) d ps = (before : List Text) × Reads rows d before × (ps ≡ before ++ (word ∷ ws))

pub settles : (rows : List Row) (f : Form) (d : Option Text) (ps : List Text) → Stands rows f d ps → length ps ≤ usize_max
    → settle_fault rules false (held rows (pending f)) ≡ []
settles rows none d ps s fits = refl
settles rows (name text) d ps s fits = fresh rows text s.0.has
settles rows (words word ws) d ps s fits = words_pass rows word ws (omega (arith, ap length s.2, length-append s.0 (word ∷ ws)))

pub settled_reads : (rows : List Row) (f : Form) (d : Option Text) (ps : List Text) → Stands rows f d ps → Reads (settled_rows rules (pending f) rows) d ps
settled_reads rows none d ps s = s
settled_reads rows (name text) d ps s = subst (λ (o : Option Text). Reads (used md (text ∷ []) rows) o ps) (sym s.1) (reads_description rows text ps s.0)
settled_reads rows (words word ws) d ps s = subst (λ (xs : List Text). Reads (used shapes.positional (word ∷ ws) rows) d xs) (sym s.2) (reads_words rows d s.0 word ws s.1)

-- ---- one more positional word

pub record Next (rows : List Row) (f : Form) (waiting : Waiting) (t : Bool) (d : Option Text) (ps : List Text) (w : Text) : Type 0 where
  pub rows_after : List Row
  pub form : Form
  pub goes : (rest : List Text) → gives (at rows (pending f) waiting t) (w ∷ rest) ≡ gives (at rows_after (pending form) positional t) rest
  pub stands : Stands rows_after form d (ps ++ w ∷ [])

pub next : (rows : List Row) (f : Form) (waiting : Waiting) (t : Bool) (d : Option Text) (ps : List Text) (w : Text) → Stands rows f d ps → length ps ≤ usize_max
    → IsValue t waiting w → Next rows f waiting t d ps w
next rows none waiting t d ps w s fits is =
    record { rows_after = rows; form = words w []; goes = λ rest. step_first t rows waiting w rest is; stands = (ps, s, refl) }
next rows (name text) waiting t d ps w s fits is = record {
  rows_after = used md (text ∷ []) rows;
  form = words w [];
  goes = λ rest. step_behind t rows (text ∷ []) waiting w rest is
      ∙ ap (λ a. unless a (gives (at (used md (text ∷ []) rows) (Some (codes "words", w ∷ [])) positional t) rest)) (settles rows (name text) d ps s fits);
  stands = (ps, settled_reads rows (name text) d ps s, refl);
}
next rows (words word ws) waiting t d ps w s fits is = record {
  rows_after = rows;
  form = words word (ws ++ w ∷ []);
  goes = λ rest. step_more t rows (word ∷ ws) waiting w rest is;
  stands = (s.0, s.1, ap (λ (xs : List Text). xs ++ w ∷ []) s.2 ∙ append_assoc s.0 (word ∷ ws) (w ∷ []));
}

-- ---- at the end, and behind `--`

pub at_end : (rows : List Row) (f : Form) (waiting : Waiting) (t : Bool) (d : Option Text) (ps : List Text) → Stands rows f d ps → length ps ≤ usize_max
    → gives (at rows (pending f) waiting t) [] ≡ Some (record { description = d; positional = ps ++ [] })
at_end rows f waiting t d ps s fits =
    let reads = settled_reads rows f d ps s in
    ap (λ a. ended a (settled_rows rules (pending f) rows)) (settles rows f d ps s fits)
    ∙ ap₂ (λ (o : Option Text) (xs : List Text). Some (record { description = o; positional = xs })) reads.description (reads.words ∙ sym (append-nil ps))

pub behind_dashes : (rest : List Text) (rows : List Row) (f : Form) (waiting : Waiting) (d : Option Text) (ps : List Text) → Stands rows f d ps
    → length ps + length rest ≤ usize_max → gives (at rows (pending f) waiting true) rest ≡ Some (record { description = d; positional = ps ++ rest })
behind_dashes [] rows f waiting d ps s fits = at_end rows f waiting true d ps s (omega arith)
behind_dashes (w ∷ rest) rows f waiting d ps s fits =
    let n = next rows f waiting true d ps w s (omega arith) tt in
    let longer : length (ps ++ w ∷ []) + length rest ≤ usize_max = omega (arith, length-append ps (w ∷ [])) in
    n.goes rest ∙ behind_dashes rest n.rows_after n.form positional d (ps ++ w ∷ []) n.stands longer
    ∙ ap (λ (xs : List Text). Some (record { description = d; positional = xs })) (append_assoc ps (w ∷ []) rest)

-- ---- behind a description too many, or with none behind `--md`

pub lost_behind : (rest : List Text) (rows : List Row) (names : List Text) (waiting : Waiting) (k : _) (ks : Kinds)
    → settle_fault rules false (held rows (Some (codes "md", names))) ≡ k ∷ ks → gives (at rows (Some (codes "md", names)) waiting true) rest ≡ None
lost_behind [] rows names waiting k ks bad = ap (λ a. ended a (settled_rows rules (Some (codes "md", names)) rows)) bad
lost_behind (w ∷ rest) rows names waiting k ks bad = step_behind true rows names waiting w rest tt
    ∙ ap (λ a. unless a (gives (at (used md names rows) (Some (codes "words", w ∷ [])) positional true) rest)) bad

pub lost_flag : (word : Text) (rest : List Text) (rows : List Row) (names : List Text) (waiting : Waiting) (k : _) (ks : Kinds)
    → settle_fault rules false (held rows (Some (codes "md", names))) ≡ k ∷ ks → (IsPlain word → gives (at rows (Some (codes "md", names)) waiting false) (word ∷ rest) ≡ None)
    → gives (at rows (Some (codes "md", names)) waiting false) (word ∷ rest) ≡ None
lost_flag word rest rows names waiting k ks bad plain_case = elim (kind_of word) [
  | dashes e ↦ ap (λ (v : Text). gives (at rows p waiting false) (v ∷ rest)) e ∙ step_dashes rows p waiting rest ∙ lost_behind rest rows names waiting k ks bad
  | kinds.md e ↦ ap (λ (v : Text). gives (at rows p waiting false) (v ∷ rest)) e ∙ step_md rows p waiting rest
      ∙ ap (λ a. unless a (gives (at (settled_rows rules p rows) (Some (codes "md", [])) (option (codes "md")) false) rest)) bad
  | given text e ↦ ap (λ (v : Text). gives (at rows p waiting false) (v ∷ rest)) e ∙ step_given rows p waiting text rest
      ∙ ap (λ a. unless (or_else a (use_fault false md (text ∷ []) (settled_rows rules p rows))) (gives (at (used md (text ∷ []) (settled_rows rules p rows)) None idle false) rest)) bad
  | refused is ↦ step_refused rows p waiting word rest is
  | plain is ↦ plain_case is
]
  where
    p : Pending
    p = Some (codes "md", names)

-- behind a description too many nothing is read
pub lost : (rest : List Text) (rows : List Row) (names : List Text) (waiting : Waiting) (k : _) (ks : Kinds) → is_free waiting ≡ true
    → settle_fault rules false (held rows (Some (codes "md", names))) ≡ k ∷ ks → gives (at rows (Some (codes "md", names)) waiting false) rest ≡ None
lost [] rows names waiting k ks free bad = ap (λ a. ended a (settled_rows rules (Some (codes "md", names)) rows)) bad
lost (word ∷ rest) rows names waiting k ks free bad = lost_flag word rest rows names waiting k ks bad (λ is.
    step_behind false rows names waiting word rest (free, is)
    ∙ ap (λ a. unless a (gives (at (used md names rows) (Some (codes "words", word ∷ [])) positional false) rest)) bad)
