-- The laws of li, la and call.
use Rattle.rv_word.proofs.Straight.{sequences_do}
use Rattle.rv_word.proofs.sequence.push_words.Goals as goal

pub returns-in-One-clause-sequences : goal.returns-in-One-clause-sequences
returns-in-One-clause-sequences c = sequences_do

pub returns-in-Near-clause-sequences : goal.returns-in-Near-clause-sequences
returns-in-Near-clause-sequences c = sequences_do

pub returns-in-Leap-clause-sequences : goal.returns-in-Leap-clause-sequences
returns-in-Leap-clause-sequences c = sequences_do

pub returns-in-Long-clause-sequences : goal.returns-in-Long-clause-sequences
returns-in-Long-clause-sequences c = sequences_do

pub returns-in-Far-clause-sequences : goal.returns-in-Far-clause-sequences
returns-in-Far-clause-sequences c = sequences_do
