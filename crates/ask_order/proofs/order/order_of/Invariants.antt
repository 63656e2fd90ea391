use Rattle.std.proofs.Common.{◌≡◌, ℕ, ◌<◌, false, length}
use Rattle.ask_order.specs.Order.{IsLayered}
use Rattle.ask_order.specs.machine.Search.{is_open, IsKept}
use Rattle.ask_order.proofs.order.order_of.Given as goal

abbrev pub invariant-loop-place : goal.invariant-loop-place
invariant-loop-place l = record {
  kept : IsKept l.asked l.known.items l.order;
  done : (number : ℕ → ℕ) → IsLayered l.asked number → (place : ℕ) → place < l.place → place < length l.asked → is_open l.known.items place ≡ false;
}
