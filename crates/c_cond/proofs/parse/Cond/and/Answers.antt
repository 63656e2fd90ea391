use Rattle.std.proofs.Common.{◌≡◌, [], ◌∷◌, ◌++◌, append_assoc, arith}
use Rattle.c_cond.proofs.Answered.{and, whole_both}
use Rattle.c_cond.proofs.parse.Cond.and.Goals as goal

heads_are : (c : goal.After-from_vec) → c.from_vec.result ≡ c.self.inside.heads ++ (c.other.inside.heads ++ and ∷ [])
heads_are c = grind (arith, c.from_vec.ensures, c.in_ok-push.ensures.items, c.in_ok-append.ensures.items, c.into_vec-heads.ensures, c.into_vec.ensures, append_assoc c.self.inside.heads c.other.inside.heads (and ∷ []))

pub invariant_of-result : goal.invariant_of-result
invariant_of-result c = whole_both c.self.inside.heads c.other.inside.heads c.from_vec.result c.self.invariant c.other.invariant (heads_are c)
