-- What is found among those that are left is what is found among all.
use Rattle.std.proofs.Common.{◌≡◌, drop, find}
use Rattle.std.specs.Str.{bytes_eq}
use Rattle.rtx_tree.specs.Code.{code_name, code_named}
use Rattle.rtx_tree.proofs.code.Code.named.Given as goal

abbrev pub invariant-loop-code : goal.invariant-loop-code
invariant-loop-code l = find (λ k. bytes_eq (code_name k) l.name) (drop l.code-index l.code-items) ≡ code_named l.name
