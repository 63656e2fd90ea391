-- What the private functions have done.
use Rattle.std.specs.Prelude.{◌≡◌, ℕ, ◌+◌, List, [], ◌∷◌, ◌++◌, length, Result, Ok, Err}
use Rattle.std.specs.List.{All}
use Rattle.rtx_tree.specs.declared.function.Insn.{Insn}
use Rattle.rtx_tree.specs.declared.tree.Rtx.{Rtx}
use Rattle.md_forms.specs.declared.form.Entry.{Entry}
use Rattle.md_desc.specs.Recog.{NoneMatches}
use Rattle.form_needs.specs.Needs.{lower_facts}
use Rattle.law_frame.specs.Frame.{plain_with, plain_insns}
use Rattle.reload.specs.declared.refusal.ReloadRefusal.{ReloadRefusal}
use Rattle.reload.specs.declared.refusal.ReloadRefusal.TheVariants as refusal
use Rattle.reload.specs.Outcome.{RefusesAs}
use Rattle.reload_choice.specs.declared.given.Given.{Given}
use Rattle.reload_choice.specs.declared.given.Plan.{Plan}
use Rattle.reload.specs.Reload.{IsMatched, IsStuck, moves_of, window_of, InsnAnswer}

abbrev pub Added : Type 0
Added = Result ℕ ReloadRefusal

-- ---- moves

-- a move was added, and a uid is the next
pub record IsMoved (forms : List Entry) (uid : ℕ) (x : Rtx) (old new : List Insn) (next : ℕ) : Type 0 where
  pub matched : IsMatched forms x
  pub stands : new ≡ old ++ plain_with uid x ∷ []
  pub free : next ≡ uid + 1

-- no form matches it
pub record IsUnmoved (forms : List Entry) (uid : ℕ) (x : Rtx) (e : ReloadRefusal) : Type 0 where
  pub unmatched : NoneMatches forms lower_facts x
  pub refusal_is : e ≡ refusal.Unmatched uid x

abbrev pub AddsMove : List Entry → ℕ → Rtx → List Insn → List Insn → Added → Type 0
AddsMove forms uid x old new (Ok next) = IsMoved forms uid x old new next
AddsMove forms uid x old new (Err e) = RefusesAs e (IsUnmoved forms uid x)

-- moves were added, and a uid is the next
pub record AreMoved (forms : List Entry) (uid : ℕ) (moves : List Rtx) (old new : List Insn) (next : ℕ) : Type 0 where
  pub matched : All (IsMatched forms) moves
  pub stand : new ≡ old ++ plain_insns uid moves
  pub free : next ≡ uid + length moves

-- no form matches one of them
pub record AreStuck (forms : List Entry) (uid : ℕ) (moves : List Rtx) (e : ReloadRefusal) : Type 0 where
  pub before : List Rtx
  pub insn : Rtx
  pub stuck : IsStuck forms moves before insn
  pub refusal_is : e ≡ refusal.Unmatched (uid + length before) insn

abbrev pub AddsMoves : List Entry → ℕ → List Rtx → List Insn → List Insn → Added → Type 0
AddsMoves forms uid moves old new (Ok next) = AreMoved forms uid moves old new next
AddsMoves forms uid moves old new (Err e) = RefusesAs e (AreStuck forms uid moves)

-- an instruction was added between the moves of a plan, and a uid is the next
pub record IsBetween (forms : List Entry) (uid : ℕ) (i : Insn) (given : Given) (plan : Plan) (old new : List Insn) (next : ℕ) : Type 0 where
  pub matched : All (IsMatched forms) (moves_of given plan)
  pub stands : new ≡ old ++ window_of uid i given plan
  pub free : next + 1 ≡ uid + length (window_of uid i given plan)

abbrev pub AddsWindow : List Entry → ℕ → Insn → Given → Plan → List Insn → List Insn → Added →
    Type 0
AddsWindow forms uid i given plan old new (Ok next) = IsBetween forms uid i given plan old new next
AddsWindow forms uid i given plan old new (Err e) =
    RefusesAs e (AreStuck forms uid (moves_of given plan))

-- ---- instructions

-- what an instruction comes to was added, and a uid is the next
pub record IsAdded (Comes : InsnAnswer → Type 0) (uid : ℕ) (old new : List Insn) (next : ℕ) : Type 0 where
  pub window : List Insn
  pub comes : Comes (Ok window)
  pub stands : new ≡ old ++ window
  pub free : next + 1 ≡ uid + length window

abbrev pub Adds : (InsnAnswer → Type 0) → ℕ → List Insn → List Insn → Added → Type 0
Adds Comes uid old new (Ok next) = IsAdded Comes uid old new next
Adds Comes uid old new (Err e) = RefusesAs e (λ d. Comes (Err d))
