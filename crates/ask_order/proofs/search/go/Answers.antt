use Rattle.std.proofs.Common.{◌≡◌, ℕ, true, List, Some, None, length, find, rules, sym, ap, subst, ◌∙◌, arith}
use Rattle.ask_order.specs.Order.{asked_at}
use Rattle.ask_order.specs.machine.Search.{is_open}
use Rattle.ask_order.proofs.Lists.{found_in}
use Rattle.ask_order.proofs.Paths.{Searches, goes_back, goes_on, goes_down, gives_up}
use Rattle.ask_order.proofs.Measure.{on_to, marks}
use Rattle.ask_order.proofs.search.go.Goals as goal

pub loop-stack-preserved-in-Some : goal.loop-stack-preserved-in-Some
loop-stack-preserved-in-Some c =
    goes_back c.args.asked.now c.args.root c.args.known.now c.loop-stack.known c.loop-stack.order c.loop-stack.stack c.pop.new.self
    c.loop-stack.place c.in-Some.before c.loop-stack.invariant c.in-Some.ensures

pub returns-then-len-asked : goal.returns-then-len-asked
returns-then-len-asked c =
    gives_up c.args.asked.now c.args.root c.args.known.now c.loop-stack.known c.loop-stack.order c.loop-stack.stack
    c.loop-stack.place c.loop-stack.invariant (omega arith)

pub loop-stack-smaller-in-Some-first_open : goal.loop-stack-smaller-in-Some-first_open
loop-stack-smaller-in-Some-first_open c =
    let asked = c.args.asked.now in
    let known = c.loop-stack.known in
    let place = c.loop-stack.place in
    let unmarked : is_open known place ≡ true = search rules in
    let found : find (is_open known) (asked_at asked place) ≡ Some c.in-Some-first_open.next = ap (find (is_open known)) (sym c.asked_at.ensures) ∙ (sym c.first_open.ensures ∙ c.in-Some-first_open.is) in
    on_to (length asked) known c.loop-stack.stack c.push.new.self place c.in-Some-first_open.next unmarked
    (found_in (is_open known) (asked_at asked place) c.in-Some-first_open.next found).1 (omega arith) c.in_ok-push.ensures.ok

pub loop-stack-preserved-in-Some-first_open : goal.loop-stack-preserved-in-Some-first_open
loop-stack-preserved-in-Some-first_open c =
    let asked = c.args.asked.now in
    let known = c.loop-stack.known in
    let place = c.loop-stack.place in
    let found : find (is_open known) (asked_at asked place) ≡ Some c.in-Some-first_open.next = ap (find (is_open known)) (sym c.asked_at.ensures) ∙ (sym c.first_open.ensures ∙ c.in-Some-first_open.is) in
    subst (λ (s : List ℕ). Searches asked c.args.root c.args.known.now known c.loop-stack.order s c.in-Some-first_open.next) (sym c.in_ok-push.ensures.ok)
    (goes_on asked c.args.root c.args.known.now known c.loop-stack.order c.loop-stack.stack place c.in-Some-first_open.next
    c.loop-stack.invariant found (omega arith))

pub loop-stack-smaller : goal.loop-stack-smaller
loop-stack-smaller c =
    let unmarked : is_open c.loop-stack.known c.loop-stack.place ≡ true = search rules in
    marks (length c.args.asked.now) c.loop-stack.known c.loop-stack.stack c.loop-stack.place unmarked c.loop-stack.invariant.short

pub loop-stack-preserved : goal.loop-stack-preserved
loop-stack-preserved c =
    let asked = c.args.asked.now in
    let known = c.loop-stack.known in
    let place = c.loop-stack.place in
    let unmarked : is_open known place ≡ true = search rules in
    let closed : c.first_open.result ≡ None = search rules in
    let none : find (is_open known) (asked_at asked place) ≡ None = ap (find (is_open known)) (sym c.asked_at.ensures) ∙ (sym c.first_open.ensures ∙ closed) in
    goes_down asked c.args.root c.args.known.now known c.loop-stack.order c.push-in_default.new.self c.loop-stack.stack place
    c.loop-stack.invariant unmarked none c.in_ok-push-2.ensures.ok
