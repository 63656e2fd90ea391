-- Behind the last item all words are there.
use Rattle.std.proofs.Common.{◌≡◌, ◌+◌, ◌++◌, [], List, ℕ, map, drop, sym, ◌∙◌, ap, arith}
use Rattle.std.specs.Prelude.{slice_get}
use Rattle.std.proofs.lemmas.List.{drop_all, append-nil}
use Rattle.rtx_tree.specs.declared.machine.SymbolAt.{SymbolAt}
use Rattle.rv_text.specs.declared.line.CodeItem.{CodeItem}
use Rattle.rv_word.specs.Word.{encode}
use Rattle.rv_unit.specs.Layout.{IsLayout}
use Rattle.rv_unit.specs.Words.{words_of}
use Rattle.rv_unit.specs.machine.Labels.{bases_in_from}
use Rattle.rv_unit.specs.declared.layout.Layout.{Layout}
use Rattle.rv_unit.proofs.Laid.{same_from, unit_of}
use Rattle.rv_unit.proofs.words.push_unit.Goals as goal

all : (items left : List CodeItem) (layout : Layout) (symbols : List SymbolAt) (at : ℕ) (words old : List ℕ) → IsLayout items layout → left ≡ [] → words ++ map encode (bases_in_from layout symbols at left) ≡ old ++ map encode (bases_in_from layout symbols 0 items) → words ≡ old ++ words_of (unit_of items layout symbols)
all items left layout symbols at words old is none so_far =
    sym (append-nil words) ∙ (ap (λ rest. words ++ map encode (bases_in_from layout symbols at rest)) (sym none)
    ∙ (so_far ∙ ap (λ bs. old ++ map encode bs) (same_from items layout symbols is items 0 (λ k. let e : k ≡ 0 + k = omega arith in ap (slice_get items) e))))

pub returns : goal.returns
returns c =
    all c.args.items.now (drop c.loop-at.at c.args.items.now) c.args.layout.now c.args.symbols.now c.loop-at.at c.loop-at.words c.args.words.now c.requires (drop_all c.loop-at.at c.args.items.now (omega arith)) c.loop-at.invariant
