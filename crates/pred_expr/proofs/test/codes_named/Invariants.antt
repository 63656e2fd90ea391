use Rattle.std.proofs.Common.{◌≡◌, drop}
use Rattle.rtx_tree.specs.Code.{code_in}
use Rattle.md_text.specs.Lists.{each}
use Rattle.md_text.proofs.Each.{with_front}
use Rattle.pred_expr.proofs.test.codes_named.Given as goal

abbrev pub invariant-loop-name : goal.invariant-loop-name
invariant-loop-name l = with_front l.codes (each code_in (drop l.name-index l.names)) ≡ each code_in l.names
