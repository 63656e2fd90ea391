use Rattle.std.proofs.Common.{◌≡◌, drop, find}
use Rattle.std.specs.Str.{bytes_eq}
use Rattle.md_draft.specs.Head.{head_name}
use Rattle.md_draft.proofs.head.first_named.Given as goal

abbrev pub invariant-loop-head : goal.invariant-loop-head
invariant-loop-head l = find (λ x. bytes_eq (head_name x) l.text) (drop l.head-index l.heads)
    ≡ find (λ x. bytes_eq (head_name x) l.text) l.heads
