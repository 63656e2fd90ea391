use Rattle.std.proofs.Common.{◌≡◌, drop}
use Rattle.reload_choice.specs.Insns.{with_parts, news_of}
use Rattle.reload_choice.proofs.news.news_of.Given as goal

abbrev pub invariant-loop-p : goal.invariant-loop-p
invariant-loop-p l = with_parts l.asks l.operands l.news (drop l.p-index l.parts) ≡ news_of l.asks l.operands l.parts
