use Rattle.rtl_func.specs.machine.Search.{IsSearch}
use Rattle.rtl_func.proofs.SearchLaws.{work}
use Rattle.rtl_func.proofs.paths.search_on.Given as goal

abbrev pub invariant-loop-place : goal.invariant-loop-place
invariant-loop-place l = IsSearch l.insns l.search

abbrev pub decreases-loop-place : goal.decreases-loop-place
decreases-loop-place l = work l.search
