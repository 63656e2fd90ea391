use Rattle.std.proofs.Common.{◌≡◌, drop, map, fold, max}
use Rattle.rtl_read.specs.Locals.{deepest_in}
use Rattle.rtl_read.proofs.locals.+deepest_in.Given as goal

abbrev pub invariant-loop-kid : goal.invariant-loop-kid
invariant-loop-kid l = fold max l.deepest (map deepest_in (drop l.kid-index l.kid-items)) ≡ deepest_in l.x
