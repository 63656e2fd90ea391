use Rattle.std.proofs.Common.{◌≡◌, ◌+◌, ℕ, ◌∷◌, true, false, drop, sym, ap, ◌∙◌}
use Rattle.std.specs.Option.{option_or}
use Rattle.std.specs.Ordering.{nat_cmp}
use Rattle.std.specs.BTreeMap as map
use Rattle.std.specs.BTreeMap.{BTreeMap}
use Rattle.std.proofs.lemmas.List.{drop_more}
use Rattle.rtx_tree.specs.declared.code.Mode.{Mode}
use Rattle.rtx_tree.specs.declared.function.Insn.{Insn}
use Rattle.rtl_func.specs.Modes.{first_mode, mentions, mentions_in}
use Rattle.rtl_func.specs.Uids.{is_ruled}
use Rattle.rtl_func.proofs.ModeLaws.{put_more, mentions_ruled, mentions_other}
use Rattle.rtl_func.proofs.tables.modes_of.Goals as goal
use Rattle.rtl_func.proofs.tables.modes_of.Goals.{then-is_ruled+in_ok-put_modes, else-is_ruled}

pub loop-insn-preserved : goal.loop-insn-preserved
loop-insn-preserved c = λ reg.
    let insns = c.args.insns.now in
    let index = c.loop-insn.insn-index in
    let insn = c.insn-item.result in
    let rest = drop (index + 1) insns in
    let here : drop index insns ≡ insn ∷ rest = drop_more insns index insn c.loop-insn-test.true ∙ ap (λ (i : Insn). i ∷ rest) (sym c.insn-item.is) in
    let before = map.get nat_cmp c.loop-insn.modes reg in
    let looked = λ (m : BTreeMap ℕ Mode). option_or (map.get nat_cmp m reg) (first_mode (mentions rest) reg) in
    elim c.if-is_ruled.branch [
      | then-is_ruled+in_ok-put_modes w ↦
          let is : is_ruled insn ≡ true = sym c.is_ruled.ensures ∙ w.if-is_ruled.true in
          ap looked w.modes-is
          ∙ put_more before _ (mentions_in insn.pattern) (mentions rest) reg (w.in_ok-put_modes.ensures reg)
          ∙ sym (ap (λ all. option_or before (first_mode all reg)) (ap mentions here ∙ mentions_ruled insn rest is))
          ∙ c.loop-insn.invariant reg
      | else-is_ruled w ↦
          let is : is_ruled insn ≡ false = sym c.is_ruled.ensures ∙ w.if-is_ruled.false in
          ap looked w.modes-is
          ∙ sym (ap (λ all. option_or before (first_mode all reg)) (ap mentions here ∙ mentions_other insn rest is))
          ∙ c.loop-insn.invariant reg
    ]
