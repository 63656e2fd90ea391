-- The laws of the words that a line has.
use Rattle.rv_word.proofs.OneWord.{one_word_does, opposite_does}
use Rattle.rv_word.proofs.Straight.{sequences_do}
use Rattle.rv_word.proofs.spellings.spelling_of.Goals as goal

pub returns-clause-does : goal.returns-clause-does
returns-clause-does c = one_word_does

pub returns-clause-opposite : goal.returns-clause-opposite
returns-clause-opposite c = opposite_does

pub returns-clause-sequences : goal.returns-clause-sequences
returns-clause-sequences c = sequences_do
