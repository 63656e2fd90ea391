-- What is kept of a function: GCC Internals, "Liveness information" and "Insns".
use Rattle.std.specs.Prelude.{◌≡◌, ℕ, List, Option, IfSome}
use Rattle.rtx_tree.specs.declared.function.Function.{Function}
use Rattle.live.specs.Live.{AreLiveRows}
use Rattle.rtl_chain.specs.Counts.{greatest_uid, next_pseudo, instruction_count}

-- what is known of a function, of the rows of what is live, the greatest uid, the next pseudo
-- register and the number of instructions, is as the function has it
pub record IsKept (f : Function) (rows : Option (List (List ℕ))) (greatest next count : Option ℕ) : Type 0 where
  pub live : IfSome rows (AreLiveRows f)
  pub uid : IfSome greatest (λ n. n ≡ greatest_uid f.insns)
  pub pseudo : IfSome next (λ n. n ≡ next_pseudo f.insns)
  pub instructions : IfSome count (λ n. n ≡ instruction_count f.insns)
