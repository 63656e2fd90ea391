-- Needs, stores and arguments, one behind the other.
use Rattle.std.proofs.Common.{◌≡◌, ℕ, suc, ◌+◌, ◌-◌, ◌<◌, List, [], ◌∷◌, ◌++◌, length, refl, sym, ◌∙◌, ap, append_assoc, append-nil, arith}
use Rattle.std.specs.Prelude.{map}
use Rattle.std.proofs.lemmas.List.{length-map, map-append}
use Rattle.sym_state.specs.declared.state.SymArg.{SymArg}
use Rattle.sym_state.specs.Views.{arg_of}
use Rattle.sym_state.specs.State.{Changed, Need, NeedAt, Arg, needs_at}
use Rattle.sym_lines.specs.Step.{args_from, register}

pub needs_at-append : (index : ℕ) (a b : List Need) → needs_at index (a ++ b) ≡ needs_at index a ++ needs_at index b
needs_at-append index [] b = refl
needs_at-append index (n ∷ a) b = ap (λ rest. record { index = index; what = n } ∷ rest) (needs_at-append index a b)

-- needs noted one after the other are noted together
pub noted : (index : ℕ) (before : List NeedAt) (a b : List Need) → (before ++ needs_at index a) ++ needs_at index b ≡ before ++ needs_at index (a ++ b)
noted index before a b = append_assoc before (needs_at index a) (needs_at index b) ∙ ap (λ rest. before ++ rest) (sym (needs_at-append index a b))

pub ruleset needs_join = (noted)

pub ruleset stores_counted = (length-map)

pub ruleset stores_more = (map-append)

pub ruleset nothing_more = (append-nil)

-- ---- arguments

pub one_arg : (end reg : ℕ) (regs : List Changed) → reg < end → args_from (end - reg) reg regs ≡ record { reg = reg; value = register regs reg } ∷ args_from (end - (reg + 1)) (reg + 1) regs
one_arg end reg regs below =
    let left : end - reg ≡ suc (end - (reg + 1)) = omega arith in
    let next : suc reg ≡ reg + 1 = omega arith in
    ap (λ count. args_from count reg regs) left ∙ ap (λ n. record { reg = reg; value = register regs reg } ∷ args_from (end - (reg + 1)) n regs) next

-- one argument more
pub args_more : (end reg : ℕ) (regs : List Changed) (args next : List SymArg) (a : SymArg) (all : List Arg) → reg < end →
    arg_of a ≡ record { reg = reg; value = register regs reg } → next ≡ args ++ a ∷ [] →
    map arg_of args ++ args_from (end - reg) reg regs ≡ all → map arg_of next ++ args_from (end - (reg + 1)) (reg + 1) regs ≡ all
args_more end reg regs args next a all below a_is next_is so_far =
    let rest : List Arg = args_from (end - (reg + 1)) (reg + 1) regs in
    ap (λ l. map arg_of l ++ rest) next_is
    ∙ ap (λ l. l ++ rest) (map-append arg_of args (a ∷ []))
    ∙ append_assoc (map arg_of args) (arg_of a ∷ []) rest
    ∙ ap (λ x. map arg_of args ++ x ∷ rest) a_is
    ∙ ap (λ l. map arg_of args ++ l) (sym (one_arg end reg regs below))
    ∙ so_far
