-- Which functions are refused, and why: the rules of well-formed functions, and the limits.
use Rattle.std.specs.Prelude.{ℕ, ◌+◌, List, [], ◌∷◌, nat_le, if◌then◌else◌, Some, None}
use Rattle.std.specs.declared.option.Option.{Option}
use Rattle.rtx_tree.specs.declared.function.Function.{Function}
use Rattle.rtx_tree.specs.Limit.{most_instructions, most_pseudos}
use Rattle.rtx_tree.specs.declared.limit.Limit.{Limit}
use Rattle.rtx_tree.specs.declared.limit.Limit.TheVariants as limit
use Rattle.rtl_func.specs.declared.fault.Fault.{Fault}
use Rattle.rtl_func.specs.Faults as rules
use Rattle.rtl_func.specs.Rules.{faults, faults_of}
use Rattle.rtl_chain.specs.Counts.{instruction_count, next_pseudo}
use Rattle.run_refusal.specs.declared.refusal.Refusal.{Refusal}
use Rattle.run_refusal.specs.declared.refusal.Refusal.TheVariants as refusal

abbrev pub or_later : Option Refusal → Option Refusal → Option Refusal
or_later (Some e) later = Some e
or_later None later = later

-- a count above the most that there may be
abbrev pub over : Limit → ℕ → ℕ → Option Refusal
over which most count = if nat_le count most then None else Some (refusal.Limit which count)

-- it has more instructions than a function may, or pseudo registers with greater numbers
abbrev pub limit_passed : Function → Option Refusal
limit_passed f = or_later (over limit.Instructions most_instructions (instruction_count f.insns)) (over limit.Pseudos most_pseudos (next_pseudo f.insns))

abbrev pub rule_broken : Function → Option Fault → Option Refusal
rule_broken f None = None
rule_broken f (Some fault) = Some (refusal.IllFormed f.name fault.uid fault.rule)

-- a function that stands behind others: the first rule that it breaks, or the first limit that it
-- passes
abbrev pub refused_behind : List Function → Function → Option Refusal
refused_behind before f =
    or_later (rule_broken f (rules.first_fault (faults_of before f))) (limit_passed f)

-- the function at an index among others: the first rule that it breaks, or the first limit that it
-- passes
abbrev pub refused_at : List Function → ℕ → Function → Option Refusal
refused_at functions index f =
    or_later (rule_broken f (rules.first_fault (faults functions index))) (limit_passed f)

abbrev pub refused_from : List Function → ℕ → List Function → Option Refusal
refused_from functions index [] = None
refused_from functions index (f ∷ rest) =
    or_later (refused_at functions index f) (refused_from functions (index + 1) rest)

-- the first of some functions that is refused
abbrev pub first_refused : List Function → Option Refusal
first_refused functions = refused_from functions 0 functions
