use Rattle.std.proofs.Common.{◌≡◌, ◌≤◌, ◌-◌, ℕ, List, length, take, drop, sym, ap, ◌∙◌, arith}
use Rattle.std.proofs.lemmas.List.{take_rest}
use Rattle.byte_edge.proofs.HeldLemmas.{front_taken}
use Rattle.byte_edge.proofs.held.Held.take_into.Goals as goal

pub returns-clause-bytes : goal.returns-clause-bytes
returns-clause-bytes c =
    let slice : _ = c.as_slice.ensures.value in
    let within : c.min-count.result ≤ length (drop c.self.inside.at c.self.inside.bytes) =
    let e : length (take (length c.as_slice.result.now - c.self.inside.at) (drop c.self.inside.at c.as_slice.result.now)) ≡ length (drop c.self.inside.at c.self.inside.bytes) =
    ap length (take_rest c.as_slice.result.now c.self.inside.at) ∙ ap (λ (xs : List ℕ). length (drop c.self.inside.at xs)) slice in
    omega (arith, c.min-count.ensures) in
    sym c.self.view_is ∙ front_taken c.self.inside.bytes c.args.into.now c.copy_from_slice.new.self c.self.inside.at c.min-count.result
    (c.copy_from_slice.ensures.after ∙ ap (λ (xs : List ℕ). take c.min-count.result (take (length xs - c.self.inside.at) (drop c.self.inside.at xs))) slice) within
