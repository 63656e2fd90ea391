use Rattle.std.proofs.Common.{◌≡◌, drop, find}
use Rattle.std.specs.Str.{bytes_eq}
use Rattle.md_draft.specs.Head.{class_name, class_named}
use Rattle.md_draft.proofs.head.RegisterClass.named.Given as goal

abbrev pub invariant-loop-class : goal.invariant-loop-class
invariant-loop-class l = find (λ x. bytes_eq (class_name x) l.text) (drop l.class-index l.class-items) ≡ class_named l.text
