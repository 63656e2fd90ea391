-- The part on the path, where it ends here.
use Rattle.std.proofs.Common.{◌≡◌, ◌≢◌, ℕ, Bool, true, false, ◌==◌, if◌then◌else◌, List, Option, Some, None, refl, ap, sym, subst, ◌∙◌}
use Rattle.std.proofs.lemmas.Bool.Decides.{Decides-eqb}
use Rattle.c_cond.specs.c_words.declared.head.CondHead.{CondHead}
use Rattle.c_eval.specs.declared.reading.Reading.{Reading}
use Rattle.c_eval.specs.declared.walk.Part.{Part}
use Rattle.c_eval.specs.machine.Places.{IsPart, IsPath, ending_at, IsOff}

by_test : (read : CondHead → List Reading → Reading) (heads : List CondHead) (other : Part) (end : ℕ) (part : Part) (test : Bool) → (other.end == end) ≡ test → IsPart read heads other → (if test then Some other else None) ≡ Some part → IsPart read heads part × (part.end ≡ end)
by_test read heads other end part true same is here =
    let e : other ≡ part = cc in
    (subst (IsPart read heads) e is, ap (λ (x : Part). x.end) (sym e) ∙ (Decides-eqb other.end end).0 same)
by_test read heads other end part false same is here = cc

pub part_here : (read : CondHead → List Reading → Reading) (heads : List CondHead) (path : Option Part) (end : ℕ) (part : Part) → IsPath read heads path → ending_at path end ≡ Some part → IsPart read heads part × (part.end ≡ end)
part_here read heads None end part is here = cc
part_here read heads (Some other) end part is here = by_test read heads other end part (other.end == end) refl is here

is_here : (part : Part) (test : Bool) → test ≡ true → (if test then Some part else None) ≡ Some part
is_here part true holds = refl
is_here part false holds = cc

pub ends_elsewhere : (part : Part) (end : ℕ) → IsOff (Some part) end → part.end ≢ end
ends_elsewhere part end off same =
    let found : ending_at (Some part) end ≡ Some part = is_here part (part.end == end) ((Decides-eqb part.end end).1 same) in
    cc
