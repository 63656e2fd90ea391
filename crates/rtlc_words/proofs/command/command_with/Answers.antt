use Rattle.std.proofs.Common.{◌≡◌, ◌∙◌, List, [], codes, map, option_map, ap₂, refl}
use Rattle.std.specs.Prelude.{unwrap_or}
use Rattle.std.proofs.lemmas.Result.{IfOk-weaker}
use Rattle.clap.specs.Words.{all_of, first_of, found_of, rows_of}
use Rattle.clap.specs.Walk.{Row}
use Rattle.clap.proofs.WalkLemmas.{first_value-rows, raw_values-rows}
use Rattle.rtlc_words.specs.Words.{command_by, words_of}
use Rattle.rtlc_words.proofs.Found.{words_or_none}
use Rattle.rtlc_words.proofs.command.command_with.Goals as goal

pub returns : goal.returns
returns c =
    let rows : List Row = rows_of (found_of c.args.found.now) in
    let named : option_map (λ s. s.now) c.get_str.result ≡ first_of (codes "md") rows = c.get_str.ensures ∙ first_value-rows (found_of c.args.found.now) (codes "md") in
    let texts : option_map (λ s. map (λ v. v.now) s.now) c.get_strs.result ≡ all_of (codes "words") rows =
    c.get_strs.ensures ∙ raw_values-rows (found_of c.args.found.now) (codes "words") in
    let worded : words_of c.unwrap_or-words.result.now ≡ unwrap_or (all_of (codes "words") rows) [] =
    words_or_none c.unwrap_or-words.result c.get_strs.result _ (all_of (codes "words") rows) c.unwrap_or-words.ensures refl texts in
    IfOk-weaker c.command_by.result _ _ (λ command is. is ∙ ap₂ (command_by c.args.name.now) named worded) c.command_by.ensures
