use Rattle.std.proofs.Common.{sym, subst, ◌∙◌}
use Rattle.rtl_func.specs.Paths.{ReachesExit}
use Rattle.rtl_func.proofs.SearchLaws.{search_end}
use Rattle.rtl_func.proofs.paths.reaches_exit.Goals as goal

pub returns : goal.returns
returns c =
    let insns = c.as_slice-insns.result.now in
    let is = c.as_slice-insns.ensures.value in
    let both = search_end insns c.search_on.new.search c.in_ok-search_on.ensures.done c.in_ok-search_on.ensures.search in
    let found = c.is_found.ensures in
    (λ reached. subst ReachesExit is (both.0 (sym found ∙ reached)), λ path. found ∙ both.1 (subst ReachesExit (sym is) path))
