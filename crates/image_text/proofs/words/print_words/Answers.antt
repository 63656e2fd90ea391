use Rattle.std.proofs.Common.{◌≡◌, ◌+◌, rules}
use Rattle.image_text.proofs.Lines.{word_more}
use Rattle.image_text.proofs.words.print_words.Goals as goal

pub loop-word-preserved : goal.loop-word-preserved
loop-word-preserved c =
    let step : c.in_ok-next.next ≡ c.loop-word.next + 4 = search rules in
    word_more c.args.words.now c.loop-word.word-index c.loop-word.next c.in_ok-next.next c.loop-word.out.items c.print_word.new.out.items _ c.loop-word-test.true c.in_ok-print_word.ensures step c.loop-word.invariant
