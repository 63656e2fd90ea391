-- What is left of a text, in each mode.
use Rattle.std.proofs.Common.{◌≡◌, ℕ, true, List, [], ◌∷◌, ◌++◌, Option, Some, refl, sym, ap, ◌∙◌, append_assoc}
use Rattle.std.proofs.lemmas.List.{append-nil}
use Rattle.rtx_tree.specs.declared.place.Place.{Place}
use Rattle.lisp_read.specs.declared.class.Bracket.{Bracket}
use Rattle.lisp_read.specs.declared.class.ByteClass.TheVariants as class
use Rattle.lisp_read.specs.declared.mode.Mode.{Mode}
use Rattle.lisp_read.specs.declared.mode.Mode.TheVariants as mode
use Rattle.lisp_read.specs.Class.{class_of, is_atom_class, not_zero, in_line_comment}
use Rattle.lisp_read.specs.Places.{advance, place_after}
use Rattle.lisp_read.specs.Part.{Part, Atom, Str, Block}
use Rattle.lisp_read.specs.Nesting.{still_open}
use Rattle.lisp_read.specs.Text as text
use Rattle.lisp_read.specs.Text.{Each, NotStar, IsCommentBody, IsQuoted, IsBraced, EndsAtom, Spells}
use Rattle.lisp_read.specs.machine.Steps.{Front, State}
use Rattle.lisp_read.specs.machine.Runs.{run, ◌>>=◌}
use Rattle.lisp_read.proofs.Settles.{st, fr, settled, some_is}

pub data LineRest : Place → List Part → List ℕ → Type 0 where
  closed_line : (here : Place) (ps : List Part) (body rest : List ℕ) → Each in_line_comment body → Spells (place_after here (body ++ 10 ∷ [])) ps rest → LineRest here ps ((body ++ 10 ∷ []) ++ rest)
  last : (here : Place) (body : List ℕ) → Each in_line_comment body → LineRest here [] body

pub data CommentRest : Place → List Part → List ℕ → Type 0 where
  body_then : (here : Place) (ps : List Part) (body rest : List ℕ) → IsCommentBody body → Spells (place_after here (body ++ 42 ∷ 47 ∷ [])) ps rest → CommentRest here ps ((body ++ 42 ∷ 47 ∷ []) ++ rest)

abbrev pub NotSlash : List ℕ → Type 0
NotSlash [] = Unit {0}
NotSlash (b ∷ bs) = class_of b ≡ class.Slash → ⊥

-- behind a star
pub data StarRest : Place → List Part → List ℕ → Type 0 where
  ends_here : (here : Place) (ps : List Part) (rest : List ℕ) → Spells (advance here 47) ps rest → StarRest here ps (47 ∷ rest)
  goes_on : (here : Place) (ps : List Part) (body rest : List ℕ) → IsCommentBody body → NotSlash body → Spells (place_after here (body ++ 42 ∷ 47 ∷ [])) ps rest → StarRest here ps ((body ++ 42 ∷ 47 ∷ []) ++ rest)

pub record AtomParts (p : Place) (t : List ℕ) (here : Place) (ps : List Part) (bytes : List ℕ) : Type 0 where
  pub body : List ℕ
  pub rest : List ℕ
  pub others : List Part
  pub each : Each is_atom_class body
  pub ends : EndsAtom rest
  pub parts : ps ≡ Atom p (t ++ body) ∷ others
  pub cut : bytes ≡ body ++ rest
  pub spelled : Spells (place_after here body) others rest

pub record StrParts (p : Place) (t : List ℕ) (here : Place) (ps : List Part) (bytes : List ℕ) : Type 0 where
  pub body : List ℕ
  pub rest : List ℕ
  pub others : List Part
  pub quoted : IsQuoted body
  pub parts : ps ≡ Str p (t ++ body) ∷ others
  pub cut : bytes ≡ (body ++ 34 ∷ []) ++ rest
  pub spelled : Spells (place_after here (body ++ 34 ∷ [])) others rest

pub record BlockParts (p : Place) (d : ℕ) (t : List ℕ) (here : Place) (ps : List Part) (bytes : List ℕ) : Type 0 where
  pub body : List ℕ
  pub rest : List ℕ
  pub others : List Part
  pub braced : IsBraced d body
  pub parts : ps ≡ Block p (t ++ body) ∷ others
  pub cut : bytes ≡ (body ++ 125 ∷ []) ++ rest
  pub spelled : Spells (place_after here (body ++ 125 ∷ [])) others rest

-- a byte that is taken, and then what a string or block goes on with
pub record Escaped (R : List ℕ → Place → List Part → List ℕ → Type 0) (t : List ℕ) (here : Place) (ps : List Part) (bytes : List ℕ) : Type 0 where
  pub byte : ℕ
  pub rest : List ℕ
  pub passes : not_zero (class_of byte) ≡ true
  pub cut : bytes ≡ byte ∷ rest
  pub goes_on : R (t ++ byte ∷ []) (advance here byte) ps rest

pub data SlashRest : Place → Place → List Part → List ℕ → Type 0 where
  atom : (p here : Place) (ps : List Part) (bytes : List ℕ) (a : AtomParts p (47 ∷ []) here ps bytes) → NotStar a.body → SlashRest p here ps bytes
  comment : (p here : Place) (ps : List Part) (rest : List ℕ) → CommentRest (advance here 42) ps rest → SlashRest p here ps (42 ∷ rest)

abbrev pub Rest : Mode → Place → List Part → List ℕ → Type 0
Rest mode.Between = Spells
Rest mode.Line = LineRest
Rest (mode.Slash p) = SlashRest p
Rest mode.Comment = CommentRest
Rest mode.CommentStar = StarRest
Rest (mode.Atom p t) = AtomParts p t
Rest (mode.Str p t) = StrParts p t
Rest (mode.StrEscape p t) = Escaped (StrParts p) t
Rest (mode.Block p d t) = BlockParts p d t
Rest (mode.BlockEscape p d t) = Escaped (BlockParts p d) t

-- what reading makes of these bytes, from one front to another, is right
pub record Sounds (R : Place → List Part → List ℕ → Type 0) (here : Place) (f g : Front) (bytes : List ℕ) : Type 0 where
  pub ps : List Part
  pub whole : g.parts ≡ f.parts ++ ps
  pub nested : still_open f.within ps ≡ Some g.within
  pub spelled : R here ps bytes

-- what is read of these bytes, from any state, is right
abbrev pub AllSound : List ℕ → Type 0
AllSound bytes = (m : Mode) (here : Place) (f g : Front) → (run here (st f m) bytes >>= settled) ≡ Some g → Sounds (Rest m) here f g bytes

-- a byte with this answer, and the bytes behind it, lead to the front
abbrev pub Outcome : Place → ℕ → List ℕ → Option State → Front → Type 0
Outcome here b bs o g = ((o >>= λ t. run (advance here b) t bs) >>= settled) ≡ Some g

-- a byte that changes only what is left
pub lift : (R S : Place → List Part → List ℕ → Type 0) (here : Place) (b : ℕ) (bs : List ℕ) (f g : Front) →
    ((ps : List Part) → R (advance here b) ps bs → S here ps (b ∷ bs)) → Sounds R (advance here b) f g bs → Sounds S here f g (b ∷ bs)
lift R S here b bs f g more s = record { ps = s.ps; whole = s.whole; nested = s.nested; spelled = more s.ps s.spelled }

-- a byte that ends a part
pub lift_part : (R S : Place → List Part → List ℕ → Type 0) (here : Place) (b : ℕ) (bs : List ℕ) (f g : Front) (within : List Bracket) (part : Part) →
    ((ps : List Part) → R (advance here b) ps bs → S here (part ∷ ps) (b ∷ bs)) → ((ps : List Part) → still_open f.within (part ∷ ps) ≡ still_open within ps) →
    Sounds R (advance here b) (fr within (f.parts ++ part ∷ [])) g bs → Sounds S here f g (b ∷ bs)
lift_part R S here b bs f g within part more kept s =
    record { ps = part ∷ s.ps; whole = s.whole ∙ append_assoc f.parts (part ∷ []) s.ps; nested = kept s.ps ∙ s.nested; spelled = more s.ps s.spelled }

-- ---- the end of the bytes

abbrev Ended : Front → Front → Option (List Part) → Type 0
Ended f g o = (o >>= λ ps. Some (fr f.within ps)) ≡ Some g

parts_are : (f g : Front) (ps : List Part) → Ended f g (Some ps) → g.parts ≡ ps
parts_are f g ps h = ap (λ (x : Front). x.parts) (sym (some_is (fr f.within ps) g h))

within_is : (f g : Front) (ps : List Part) → Ended f g (Some ps) → Some f.within ≡ Some g.within
within_is f g ps h = ap (λ (x : Front). Some x.within) (some_is (fr f.within ps) g h)

nothing_more : (R : Place → List Part → List ℕ → Type 0) (here : Place) (f g : Front) → Ended f g (Some f.parts) → R here [] [] → Sounds R here f g []
nothing_more R here f g h r = record { ps = []; whole = parts_are f g f.parts h ∙ sym (append-nil f.parts); nested = within_is f g f.parts h; spelled = r }

an_atom : (R : Place → List Part → List ℕ → Type 0) (here p : Place) (t : List ℕ) (f g : Front) → Ended f g (Some (f.parts ++ Atom p t ∷ [])) → R here (Atom p t ∷ []) [] → Sounds R here f g []
an_atom R here p t f g h r = record { ps = Atom p t ∷ []; whole = parts_are f g (f.parts ++ Atom p t ∷ []) h; nested = within_is f g (f.parts ++ Atom p t ∷ []) h; spelled = r }

abbrev atom_ends : (here p : Place) (t : List ℕ) → AtomParts p t here (Atom p t ∷ []) []
atom_ends here p t = record { body = []; rest = []; others = []; each = tt; ends = tt; parts = ap (λ (x : List ℕ). Atom p x ∷ []) (sym (append-nil t)); cut = refl; spelled = text.Spells.end here }

pub at_end : (m : Mode) (here : Place) (f g : Front) → settled (st f m) ≡ Some g → Sounds (Rest m) here f g []
at_end mode.Between here f g h = nothing_more Spells here f g h (text.Spells.end here)
at_end mode.Line here f g h = nothing_more LineRest here f g h (LineRest.last here [] tt)
at_end (mode.Slash p) here f g h = an_atom (SlashRest p) here p (47 ∷ []) f g h (SlashRest.atom p here (Atom p (47 ∷ []) ∷ []) [] (atom_ends here p (47 ∷ [])) tt)
at_end (mode.Atom p t) here f g h = an_atom (AtomParts p t) here p t f g h (atom_ends here p t)
at_end _ here f g h = cc
