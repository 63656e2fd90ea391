use Rattle.std.proofs.Common.{◌≡◌, ◌++◌, take, map}
use Rattle.c_words.specs.Words.{keyword_name}
use Rattle.c_words.proofs.known.push_keywords.Given as goal

abbrev pub invariant-loop-keyword : goal.invariant-loop-keyword
invariant-loop-keyword l = l.words ≡ l.initial.words ++ map keyword_name (take l.keyword-index l.keyword-items)
