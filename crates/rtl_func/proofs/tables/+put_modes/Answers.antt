use Rattle.std.proofs.Common.{◌≡◌, ◌+◌, List, ◌∷◌, drop, sym, ap, ◌∙◌}
use Rattle.std.specs.List.{flat_map}
use Rattle.std.specs.Option.{option_or}
use Rattle.std.specs.Ordering.{nat_cmp}
use Rattle.std.specs.BTreeMap as map
use Rattle.std.proofs.lemmas.List.{drop_more}
use Rattle.rtx_tree.specs.declared.tree.Rtx.{Rtx}
use Rattle.rtl_func.specs.Modes.{first_mode, mentions_in}
use Rattle.rtl_func.proofs.ModeLaws.{put_first, put_more}
use Rattle.rtl_func.proofs.tables.+put_modes.Goals as goal

pub loop-kid-init : goal.loop-kid-init
loop-kid-init t c = λ reg.
    ap (λ (kids : List Rtx). option_or (map.get nat_cmp c.put_mode.new.modes reg) (first_mode (flat_map mentions_in kids) reg)) c.as_slice-kid-items.ensures.value
    ∙ put_first _ _ c.args.x.now reg (c.in_ok-put_mode.ensures reg)

pub loop-kid-preserved : goal.loop-kid-preserved
loop-kid-preserved t c = λ reg.
    let kids = c.as_slice-kid-items.result.now in
    let index = c.loop-kid.kid-index in
    let kid = c.kid-item.result in
    let here : drop index kids ≡ kid ∷ drop (index + 1) kids = drop_more kids index kid c.loop-kid-test.true ∙ ap (λ (k : Rtx). k ∷ drop (index + 1) kids) (sym c.kid-item.is) in
    put_more (map.get nat_cmp c.loop-kid.modes reg) _ (mentions_in kid) (flat_map mentions_in (drop (index + 1) kids)) reg (c.in_ok-put_modes.ensures reg)
    ∙ sym (ap (λ (ks : List Rtx). option_or (map.get nat_cmp c.loop-kid.modes reg) (first_mode (flat_map mentions_in ks) reg)) here)
    ∙ c.loop-kid.invariant reg
