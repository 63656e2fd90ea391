-- What is read is in the grammar.
use Rattle.std.proofs.Common.{◌≡◌, ℕ, List, [], ◌∷◌, Some, sym, subst, refl}
use Rattle.rtx_tree.specs.declared.place.Place.{Place}
use Rattle.lisp_read.specs.declared.mode.Mode.{Mode}
use Rattle.lisp_read.specs.declared.mode.Mode.TheVariants as mode
use Rattle.lisp_read.specs.Class.{class_of}
use Rattle.lisp_read.specs.Places.{start}
use Rattle.lisp_read.specs.Part.{Part}
use Rattle.lisp_read.specs.Nesting.{still_open, IsNested}
use Rattle.lisp_read.specs.Text.{Spells}
use Rattle.lisp_read.specs.machine.Steps.{Front, next_in}
use Rattle.lisp_read.specs.machine.Runs.{empty, run, ◌>>=◌, parts_in}
use Rattle.lisp_read.proofs.Settles.{fr, settled, run_finished}
use Rattle.lisp_read.proofs.Rests.{Rest, Sounds, AllSound, Outcome, at_end}
use Rattle.lisp_read.proofs.SoundComments.{sound_line, sound_comment, sound_star}
use Rattle.lisp_read.proofs.SoundBegins.{sound_begin}
use Rattle.lisp_read.proofs.SoundAtoms.{sound_atom, sound_slash}
use Rattle.lisp_read.proofs.SoundTexts.{sound_string, sound_string_escape, sound_block, sound_block_escape}

by_mode : (here : Place) (b : ℕ) (bs : List ℕ) → AllSound bs → (m : Mode) (f g : Front) → Outcome here b bs (next_in here f b (class_of b) m) g → Sounds (Rest m) here f g (b ∷ bs)
by_mode here b bs ih mode.Between f g h = sound_begin here b bs ih g f (class_of b) refl h
by_mode here b bs ih mode.Line f g h = sound_line here b bs ih f g (class_of b) refl h
by_mode here b bs ih (mode.Slash p) f g h = sound_slash here b bs ih f g p (class_of b) refl h
by_mode here b bs ih mode.Comment f g h = sound_comment here b bs ih f g (class_of b) refl h
by_mode here b bs ih mode.CommentStar f g h = sound_star here b bs ih f g (class_of b) refl h
by_mode here b bs ih (mode.Atom p t) f g h = sound_atom here b bs ih f g p t (class_of b) refl h
by_mode here b bs ih (mode.Str p t) f g h = sound_string here b bs ih f g p t (class_of b) refl h
by_mode here b bs ih (mode.StrEscape p t) f g h = sound_string_escape here b bs ih f g p t (class_of b) refl h
by_mode here b bs ih (mode.Block p d t) f g h = sound_block here b bs ih f g p d t (class_of b) refl h
by_mode here b bs ih (mode.BlockEscape p d t) f g h = sound_block_escape here b bs ih f g p d t (class_of b) refl h

pub sound : (bytes : List ℕ) → AllSound bytes
unfolding run
sound [] m here f g h = at_end m here f g h
sound (b ∷ bs) m here f g h = by_mode here b bs (sound bs) m f g h

-- what leads from the first place to a front spells its parts
pub record SpellsFront (g : Front) (bytes : List ℕ) : Type 0 where
  pub are_open : still_open [] g.parts ≡ Some g.within
  pub spelled : Spells start g.parts bytes

pub spells_front : (bytes : List ℕ) (g : Front) → (run start empty bytes >>= settled) ≡ Some g → SpellsFront g bytes
spells_front bytes g h =
    let s = sound bytes mode.Between start (fr [] []) g h in
    record { are_open = subst (λ (ps : List Part). still_open [] ps ≡ Some g.within) (sym s.whole) s.nested; spelled = subst (λ (ps : List Part). Spells start ps bytes) (sym s.whole) s.spelled }

pub text_of_parts : (bytes : List ℕ) (parts : List Part) → parts_in bytes ≡ Some parts → IsNested parts × Spells start parts bytes
text_of_parts bytes parts h =
    let s = spells_front bytes (fr [] parts) (run_finished (run start empty bytes) parts h) in
    (s.are_open, s.spelled)
