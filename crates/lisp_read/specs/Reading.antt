-- What it is to read a text: its trees, or where it stops being one, or where it goes too deep.
use Rattle.std.specs.Prelude.{◌≡◌, ◌<◌, ◌≤◌, ◌+◌, ℕ, length, take, All, List, [], ◌∷◌, ◌++◌, Some}
use Rattle.rtx_tree.specs.declared.place.Place.{Place}
use Rattle.lisp_read.specs.declared.class.Bracket.{Bracket}
use Rattle.lisp_read.specs.declared.tree.Tree.{Tree}
use Rattle.lisp_read.specs.Places.{start, place_after}
use Rattle.lisp_read.specs.Part.{Part, Open}
use Rattle.lisp_read.specs.Nesting.{still_open}
use Rattle.lisp_read.specs.Text.{Spells, IsText}
use Rattle.rtx_tree.specs.Limit.{most_open}

-- some text begins with these bytes
pub record Begins (bytes : List ℕ) : Type 0 where
  pub more : List ℕ
  pub are_bytes : All (λ b. b < 256) more
  pub trees : List Tree
  pub text : IsText trees (bytes ++ more)

-- The byte with offset k opens a list or a vector within 200 that are still open: the bytes up to
-- and with it spell parts of which the last is this opening, and more than 200 are open then.
pub record IsTooDeepAt (bytes : List ℕ) (k : ℕ) : Type 0 where
  pub in_text : k < length bytes
  pub before : List Part
  pub kind : Bracket
  pub spelled : Spells start (before ++ Open kind (place_after start (take k bytes)) ∷ []) (take (k + 1) bytes)
  pub within : List Bracket
  pub are_open :
      still_open [] (before ++ Open kind (place_after start (take k bytes)) ∷ []) ≡ Some within
  pub deep : most_open < length within

-- no byte opens a list or a vector too deep
abbrev pub NeverTooDeep : List ℕ → Type 0
NeverTooDeep bytes = (k : ℕ) → IsTooDeepAt bytes k → ⊥

-- The place ends the longest prefix of the bytes that begins a text, and the bytes themselves are
-- none.
pub record IsSyntaxPlace (bytes : List ℕ) (place : Place) : Type 0 where
  pub k : ℕ
  pub in_text : k ≤ length bytes
  pub place_is : place ≡ place_after start (take k bytes)
  pub begins : Begins (take k bytes)
  pub longest : (j : ℕ) → k < j → j ≤ length bytes → Begins (take j bytes) → ⊥
  pub no_text : (trees : List Tree) → IsText trees bytes → ⊥

-- At the place stands the first byte that opens a list or a vector too deep. Some text begins with
-- the bytes up to and with it, so it stands before any place where the bytes stop being a text.
pub record IsDepthPlace (bytes : List ℕ) (place : Place) : Type 0 where
  pub k : ℕ
  pub place_is : place ≡ place_after start (take k bytes)
  pub deep : IsTooDeepAt bytes k
  pub first : (j : ℕ) → j < k → IsTooDeepAt bytes j → ⊥
  pub begins : Begins (take (k + 1) bytes)

-- what reading can find of some bytes
pub data Reading : Type 0 where
  Trees : (trees : List Tree) → Reading
  Syntax : (place : Place) → Reading
  Depth : (place : Place) → Reading

abbrev pub ReadsAs : List ℕ → Reading → Type 0
ReadsAs bytes (Trees trees) = IsText trees bytes × NeverTooDeep bytes
ReadsAs bytes (Syntax place) = IsSyntaxPlace bytes place × NeverTooDeep bytes
ReadsAs bytes (Depth place) = IsDepthPlace bytes place
