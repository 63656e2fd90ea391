use Rattle.std.proofs.Common.{◌≡◌, ◌∷◌, ◌++◌, map}
use Rattle.insn_fuse.proofs.reads.add_behind.Given as goal

abbrev pub invariant-loop-path : goal.invariant-loop-path
invariant-loop-path l = l.paths ≡ l.initial.paths ++ map (λ path. l.index ∷ path) l.yielded
