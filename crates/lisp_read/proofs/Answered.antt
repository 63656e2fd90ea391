-- What read_trees promises, from what the reader's steps give.
use Rattle.std.proofs.Common.{ℕ, List, Result, Ok, Err}
use Rattle.lisp_read.specs.declared.tree.Tree.{Tree}
use Rattle.lisp_read.specs.declared.read.ReadRefusal.{ReadRefusal}
use Rattle.lisp_read.specs.declared.read.ReadRefusal.TheVariants as refusal
use Rattle.lisp_read.specs.Part.{parts_of_all}
use Rattle.lisp_read.specs.Answers.{Gives}
use Rattle.lisp_read.specs.machine.Runs.{Reads}
use Rattle.lisp_read.proofs.Sound.{text_of_parts}
use Rattle.lisp_read.proofs.Stops.{syntax_place}
use Rattle.lisp_read.proofs.Depths.{depth_place, never_where_read, never_where_stopped}

pub answered : (bytes : List ℕ) (r : Result (List Tree) ReadRefusal) → Reads bytes r → Gives bytes r
answered bytes (Ok trees) h =
    let t = text_of_parts bytes (parts_of_all trees) h.0 in
    (record { nested = t.0; spelled = t.1 }, never_where_read bytes h.1)
answered bytes (Err (refusal.Syntax place)) h = (syntax_place bytes place h.0 h.1 h.2, never_where_stopped bytes h.0 h.2)
answered bytes (Err (refusal.Depth place)) h = depth_place bytes place h.0 h.1 h.2
answered bytes (Err refusal.Memory) h = tt
