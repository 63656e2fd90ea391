-- What an answer of reading says of the bytes.
use Rattle.std.specs.Prelude.{ℕ, List, Result, Ok, Err}
use Rattle.lisp_read.specs.declared.tree.Tree.{Tree}
use Rattle.lisp_read.specs.declared.read.ReadRefusal.{ReadRefusal}
use Rattle.lisp_read.specs.declared.read.ReadRefusal.TheVariants as refusal
use Rattle.lisp_read.specs.Reading.{ReadsAs, Trees, Syntax, Depth}

-- Each answer is the reading of the bytes; that memory ran out says nothing of them.
abbrev pub Gives : List ℕ → Result (List Tree) ReadRefusal → Type 0
Gives bytes (Ok trees) = ReadsAs bytes (Trees trees)
Gives bytes (Err (refusal.Syntax place)) = ReadsAs bytes (Syntax place)
Gives bytes (Err (refusal.Depth place)) = ReadsAs bytes (Depth place)
Gives bytes (Err refusal.Memory) = Unit {0}
