-- The parts of a word, put in and cut out.
use Rattle.std.proofs.Common.{ℕ, ◌^◌, ◌<◌, arith}
use Rattle.rv_word.specs.Word.{encode_as}
use Rattle.rv_word.specs.declared.base.Base.{Base}
use Rattle.rv_word.specs.declared.base.Codes.{Codes}
use Rattle.rv_word.specs.declared.base.Format.{Format}
use Rattle.rv_word.specs.declared.base.Format.TheVariants.{Register, Immediate, Count6, Count5, Store, Branch, Upper, Jump}

pub word_fits : (format : Format) (c : Codes) (b : Base) (n : ℕ) → encode_as format c b n < 2 ^ 32
word_fits Register c b n = omega arith
word_fits Immediate c b n = omega arith
word_fits Count6 c b n = omega arith
word_fits Count5 c b n = omega arith
word_fits Store c b n = omega arith
word_fits Branch c b n = omega arith
word_fits Upper c b n = omega arith
word_fits Jump c b n = omega arith
