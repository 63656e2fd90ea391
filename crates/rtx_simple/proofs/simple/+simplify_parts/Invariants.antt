use Rattle.std.proofs.Common.{◌≡◌}
use Rattle.rtx_tree.specs.Tree.{head_of, kids_of}
use Rattle.rtx_simple.proofs.Front.{front}
use Rattle.rtx_simple.proofs.simple.+simplify_parts.Given as goal

abbrev pub invariant-loop-i : goal.invariant-loop-i
invariant-loop-i l = record {
  head : head_of l.x ≡ head_of l.initial.x;
  kids : kids_of l.x ≡ front l.i (kids_of l.initial.x);
}
