-- What is found among those that are left is what is found among all.
use Rattle.std.proofs.Common.{◌≡◌, drop, find}
use Rattle.std.specs.Str.{bytes_eq}
use Rattle.rtx_tree.specs.Code.{mode_name, mode_named}
use Rattle.rtx_tree.proofs.code.Mode.named.Given as goal

abbrev pub invariant-loop-mode : goal.invariant-loop-mode
invariant-loop-mode l = find (λ k. bytes_eq (mode_name k) l.name) (drop l.mode-index l.mode-items) ≡ mode_named l.name
