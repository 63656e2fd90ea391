use Rattle.std.proofs.Common.{◌≡◌, ◌+◌, ◌<◌, ◌≤◌, take}
use Rattle.lisp_read.specs.Places.{start, place_after}
use Rattle.lisp_read.specs.machine.Runs.{Reaches, IsShallow}
use Rattle.lisp_read.specs.machine.Reader.{state_of, block_depth}
use Rattle.lisp_read.proofs.read.read_all.Given as goal

abbrev pub invariant-loop-b : goal.invariant-loop-b
invariant-loop-b l = record {
  reached : Reaches l.bytes l.b-index (state_of l.reader);
  shallow : IsShallow l.bytes l.b-index;
  place : l.here ≡ place_after start (take l.b-index l.bytes);
  line : l.here.line ≤ l.b-index + 1;
  first : 0 < l.here.column;
  column : l.here.column ≤ l.b-index + 1;
  offset : l.here.offset ≡ l.b-index;
  few_braces : block_depth l.reader.mode ≤ l.b-index;
}
