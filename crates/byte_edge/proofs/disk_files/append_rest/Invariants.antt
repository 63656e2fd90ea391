use Rattle.std.proofs.Common.{◌≡◌, ◌≤◌, ◌-◌, ◌++◌, List, ℕ, vec_len}
use Rattle.std.specs.Io.KnownBytes.{Consumes}
use Rattle.byte_edge.proofs.disk_files.append_rest.Given as goal

abbrev pub invariant-loop-count : goal.invariant-loop-count
invariant-loop-count g l = record {
  within : vec_len l.out ≤ l.room;
  read : (bytes : List ℕ) × (l.out.items ≡ l.initial.out.items ++ bytes) × Consumes (g.F.Read.remaining l.initial.file) (g.F.Read.remaining l.file) bytes;
}

abbrev pub decreases-loop-count : goal.decreases-loop-count
decreases-loop-count g l = l.room - vec_len l.out
