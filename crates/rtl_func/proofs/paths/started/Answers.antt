use Rattle.std.proofs.Common.{◌+◌, ◌≡◌, List, Bool, ℕ, length, sym, subst, ap, ◌∙◌}
use Rattle.rtl_func.specs.declared.paths.Search.{Search}
use Rattle.rtl_func.specs.machine.Search.{IsSearch, with_place}
use Rattle.rtl_func.proofs.SearchLaws.{nothing_found, search_start}
use Rattle.rtl_func.proofs.paths.started.Goals as goal

abbrev of : List Bool → List ℕ → Search
of found left = record { found = found; left = left }

pub returns : goal.returns
returns c =
    let insns = c.args.insns.now in
    let is : of c.in_ok-found.found c.new.result ≡ nothing_found (length insns + 1) = ap (λ found. of found c.new.result) c.in_ok-found.ensures ∙ ap (of (nothing_found (length insns + 1)).found) c.new.ensures in
    subst (IsSearch insns) (sym (c.in_ok-find.ensures ∙ ap (λ s. with_place s 0) is)) (search_start insns)
