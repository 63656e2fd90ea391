use Rattle.std.proofs.Common.{◌≡◌, drop, find}
use Rattle.std.specs.Str.{bytes_eq}
use Rattle.c_words.specs.Words.{keyword_name, keyword_named}
use Rattle.c_words.proofs.keyword.Keyword.named.Given as goal

abbrev pub invariant-loop-keyword : goal.invariant-loop-keyword
invariant-loop-keyword l = find (λ k. bytes_eq (keyword_name k) l.word) (drop l.keyword-index l.keyword-items) ≡ keyword_named l.word
