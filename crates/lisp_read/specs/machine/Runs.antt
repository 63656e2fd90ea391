-- Whole runs of the reader's steps. Only private clauses and proofs speak of them.
use Rattle.std.specs.Prelude.{◌≡◌, ◌<◌, ◌≤◌, length, take, slice_index, ℕ, List, [], ◌∷◌, ◌++◌, Option, Some, None, Result, Ok, Err}
use Rattle.rtx_tree.specs.declared.place.Place.{Place}
use Rattle.lisp_read.specs.declared.class.Bracket.{Bracket}
use Rattle.lisp_read.specs.declared.mode.Mode.{Mode}
use Rattle.lisp_read.specs.declared.mode.Mode.TheVariants as mode
use Rattle.lisp_read.specs.declared.tree.Tree.{Tree}
use Rattle.lisp_read.specs.declared.read.ReadRefusal.{ReadRefusal}
use Rattle.lisp_read.specs.declared.read.ReadRefusal.TheVariants as refusal
use Rattle.lisp_read.specs.Bytes.{slash}
use Rattle.lisp_read.specs.Places.{start, advance, place_after}
use Rattle.lisp_read.specs.Part.{Part, Atom, parts_of_all}
use Rattle.rtx_tree.specs.Limit.{most_open}
use Rattle.lisp_read.specs.machine.Steps.{State, next}

infixl 10 ◌>>=◌
abbrev pub ◌>>=◌ : {A B : Type 0} → Option A → (A → Option B) → Option B
(Some x) >>= f = f x
None >>= f = None

-- before the first byte
abbrev pub empty : State
empty = record { front = record { within = []; parts = [] }; mode = mode.Between }

-- the state behind these bytes, the first of which stands here
unfoldable pub run : Place → State → List ℕ → Option State
run here s [] = Some s
run here s (b ∷ bs) = next here s b >>= λ t. run (advance here b) t bs

-- the parts, with the atom in which the text ends
abbrev pub ended : List Part → Mode → Option (List Part)
ended parts mode.Between = Some parts
ended parts mode.Line = Some parts
ended parts (mode.Slash p) = Some (parts ++ Atom p (slash ∷ []) ∷ [])
ended parts (mode.Atom p t) = Some (parts ++ Atom p t ∷ [])
ended parts _ = None

abbrev pub ended_in : List Bracket → List Part → Mode → Option (List Part)
ended_in [] parts m = ended parts m
ended_in (k ∷ within) parts m = None

-- the parts of a text that ends in this state
abbrev pub finish : State → Option (List Part)
finish s = ended_in s.front.within s.front.parts s.mode

-- the parts of a text
abbrev pub parts_in : List ℕ → Option (List Part)
parts_in bytes = run start empty bytes >>= finish

-- reading comes to this state behind k bytes
abbrev pub Reaches : List ℕ → ℕ → State → Type 0
Reaches bytes k s = run start empty (take k bytes) ≡ Some s

-- at no place up to k bytes have more lists and vectors been open than may be
abbrev pub IsShallow : List ℕ → ℕ → Type 0
IsShallow bytes k =
    (j : ℕ) (s : State) → j ≤ k → Reaches bytes j s → length s.front.within ≤ most_open

-- no text goes on so: reading stops behind k bytes
pub record StopsAt (bytes : List ℕ) (k : ℕ) : Type 0 where
  pub state : State
  pub in_text : k ≤ length bytes
  pub reached : Reaches bytes k state
  pub shallow : IsShallow bytes k
  pub byte : k < length bytes →
      next (place_after start (take k bytes)) state (slice_index bytes k) ≡ None
  pub end : length bytes ≤ k → finish state ≡ None

-- with the byte behind k bytes more lists and vectors are open than may be
pub record StopsDeep (bytes : List ℕ) (k : ℕ) : Type 0 where
  pub state : State
  pub deeper : State
  pub in_text : k < length bytes
  pub reached : Reaches bytes k state
  pub shallow : IsShallow bytes k
  pub step : next (place_after start (take k bytes)) state (slice_index bytes k) ≡ Some deeper
  pub deep : most_open < length deeper.front.within

abbrev pub Refuses : List ℕ → ReadRefusal → Type 0
Refuses bytes (refusal.Syntax place) =
    (k : ℕ) × (place ≡ place_after start (take k bytes)) × StopsAt bytes k
Refuses bytes (refusal.Depth place) =
    (k : ℕ) × (place ≡ place_after start (take k bytes)) × StopsDeep bytes k
Refuses bytes refusal.Memory = Unit {0}

abbrev pub Reads : List ℕ → Result (List Tree) ReadRefusal → Type 0
Reads bytes (Ok trees) =
    (parts_in bytes ≡ Some (parts_of_all trees)) × IsShallow bytes (length bytes)
Reads bytes (Err e) = Refuses bytes e

-- what the end of the text gives, at this place
abbrev pub EndRefuses : Place → Option (List Part) → ReadRefusal → Type 0
EndRefuses here answer (refusal.Syntax place) = (answer ≡ None) × (place ≡ here)
EndRefuses here answer (refusal.Depth place) = ⊥
EndRefuses here answer refusal.Memory = Unit {0}

abbrev pub Ends : Place → Option (List Part) → Result (List Tree) ReadRefusal → Type 0
Ends here answer (Ok trees) = answer ≡ Some (parts_of_all trees)
Ends here answer (Err e) = EndRefuses here answer e
