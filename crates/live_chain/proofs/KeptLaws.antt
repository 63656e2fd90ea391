-- Rows that are kept where a window is replaced.
use Rattle.std.proofs.Common.{◌≡◌, ℕ, ◌+◌, ◌≤◌, length, arith, Bool, true, List, Option, Some, None, Result, Ok, Err, sym, ap, subst, ◌∙◌}
use Rattle.std.specs.Prelude.{IfSome, IfOk, IsSome, MatchOption}
use Rattle.std.proofs.lemmas.Bool.{false≢true}
use Rattle.std.specs.List.{splice}
use Rattle.plain_data.specs.declared.memory.Memory.{Memory}
use Rattle.rtx_tree.specs.declared.function.Insn.{Insn}
use Rattle.rtx_tree.specs.declared.function.Function.{Function}
use Rattle.live.specs.Live.{AreLiveRows}
use Rattle.live_chain.specs.declared.kept.WindowRows.{WindowRows}
use Rattle.new_insns.specs.Replaced.{replaced}
use Rattle.live_chain.specs.Stays.{StaysBefore}
use Rattle.live_chain.specs.Narrow.{AreNarrow}
use Rattle.live_chain.specs.Rows.{AreRowsFor}

-- what holds of rows that are found, if rows are
pub on_inside : (P Q : WindowRows → Type 0) (r : Result (Option WindowRows) Memory) → ((inside : WindowRows) → P inside → Q inside) → IfOk r (λ o. IfSome o P) → IfOk r (λ o. IfSome o Q)
on_inside P Q (Ok None) each all = all
on_inside P Q (Ok (Some inside)) each all = each inside all
on_inside P Q (Err e) each all = all

-- the rows of the function with others in the place of a window, where they are known
pub live_joined : (f g : Function) (first end : ℕ) (shown new : List Insn) (rows taken result : Option (List (List ℕ))) (inside : Option WindowRows) →
    shown ≡ new → taken ≡ rows → g ≡ replaced f first end new →
    IfSome inside (λ inside. IfSome rows (λ rows. AreLiveRows (replaced f first end shown) (splice rows inside.from end inside.rows))) →
    ((h : Function) → IfSome inside (λ inside. IfSome taken (λ rows. AreLiveRows h (splice rows inside.from end inside.rows))) → IfSome result (AreLiveRows h)) →
    IfSome result (AreLiveRows g)
live_joined f g first end shown new rows taken result inside seen same is known step =
    step g
    (subst (λ taken. IfSome inside (λ inside. IfSome taken (λ rows. AreLiveRows g (splice rows inside.from end inside.rows)))) (sym same)
    (subst (λ h. IfSome inside (λ inside. IfSome rows (λ rows. AreLiveRows h (splice rows inside.from end inside.rows)))) (ap (replaced f first end) seen ∙ sym is) known))

-- rows for a window, put in the place of those that are known
pub rows_told : (f : Function) (first end : ℕ) (new : List Insn) (rows : Option (List (List ℕ))) (inside : Option WindowRows) → IfSome rows (AreLiveRows f) → IfSome inside (AreRowsFor f first end new) →
    IfSome inside (λ inside. IfSome rows (λ rows. AreLiveRows (replaced f first end new) (splice rows inside.from end inside.rows)))
rows_told f first end new None None known made = tt
rows_told f first end new (Some rows) None known made = tt
rows_told f first end new None (Some inside) known made = tt
rows_told f first end new (Some rows) (Some inside) known made = made.rows rows known

-- they end within the window, where as many instructions or fewer come
pub rows_shorter : (f : Function) (first end : ℕ) (new : List Insn) (inside : Option WindowRows) → first + length new ≤ end → IfSome inside (AreRowsFor f first end new) →
    IfSome inside (λ inside. inside.from + length inside.rows ≤ end)
rows_shorter f first end new None shorter made = tt
rows_shorter f first end new (Some inside) shorter made = omega (arith, shorter, made.long)

-- what is live in front of the window stays, where rows for those in its place alone are known
pub stays_told : (f : Function) (first end : ℕ) (shown new : List Insn) (inside : Option WindowRows) (same : Bool) → shown ≡ new →
    (same ≡ true → IsSome inside × IfSome inside (λ inside. inside.from ≡ first)) →
    IfSome inside (AreRowsFor f first end shown) → same ≡ true → StaysBefore f (replaced f first end new) first
stays_told f first end shown new None same seen is made told = absurd (false≢true (is told).0)
stays_told f first end shown new (Some rows) same seen is made told = subst (λ insns. StaysBefore f (replaced f first end insns) first) seen (subst (λ n. StaysBefore f (replaced f first end shown) n) (is told).1 made.stays)

-- what is live in front of a place stays, where it is the first of rows that are known
pub stays_up_to : (f : Function) (first end : ℕ) (shown new : List Insn) (inside : Option WindowRows) (from : ℕ) → shown ≡ new →
    MatchOption inside (from ≡ 0) (λ inside. from ≡ inside.from) → IfSome inside (AreRowsFor f first end shown) → StaysBefore f (replaced f first end new) from
stays_up_to f first end shown new None from seen is made = λ place reg l. absurd (omega (arith, l, is))
stays_up_to f first end shown new (Some rows) from seen is made =
    subst (λ insns. StaysBefore f (replaced f first end insns) from) seen (subst (λ n. StaysBefore f (replaced f first end shown) n) (sym is) made.stays)

-- it is in front of the window
pub up_to_window : (f : Function) (first end : ℕ) (new : List Insn) (inside : Option WindowRows) (from : ℕ) →
    MatchOption inside (from ≡ 0) (λ inside. from ≡ inside.from) → IfSome inside (AreRowsFor f first end new) → from ≤ first
up_to_window f first end new None from is made = omega (arith, is)
up_to_window f first end new (Some rows) from is made = omega (arith, is, made.order)

-- rows that are known are narrow
pub narrow_known : (f : Function) (rows : Option (List (List ℕ))) → IfSome rows (AreLiveRows f) → IfSome rows AreNarrow
narrow_known f None known = tt
narrow_known f (Some rows) known = known.narrow
