-- The return that is added at the end of a chain keeps each rule.
use Rattle.std.proofs.Common.{◌≡◌, ℕ, Bool, true, ◌&&◌, not, List, [], ◌∷◌, refl, ap, ◌∙◌}
use Rattle.std.specs.Int.{cast_unsigned, w64}
use Rattle.std.specs.List.{list_all, flat_map, filter_map, cons_option}
use Rattle.std.proofs.lemmas.Bool.{and_from}
use Rattle.rtx_tree.specs.Code.{class_of_code, is_effect_class}
use Rattle.rtx_tree.specs.declared.function.Insn.{Insn}
use Rattle.rtx_tree.specs.declared.function.Function.{Function}
use Rattle.rtx_tree.specs.declared.tree.Rtx.{Rtx, out-Rtx, out-roll-Rtx}
use Rattle.rtx_tree.specs.declared.tree.Rtx.TheOpen.{Rtx-F}
use Rattle.rtx_tree.specs.Patterns.{return_rtx, label_uid}
use Rattle.rtl_func.specs.declared.rules.InsnRule.{InsnRule}
use Rattle.rtl_func.specs.declared.rules.InsnRule.TheVariants.{LabelsStand, KindsAgree, ModesAgree, OneModeAPseudo, ArgumentRegisters, Calls, Parallels, StackVariables}
use Rattle.rtl_func.specs.Calls.{is_hard_argument, has_argument}
use Rattle.rtl_func.specs.Effects.{holds_simple, holds_simple_by, changes_once, changes_once_by, changed_by, is_stack_register, sums_locals_by, has_stack_variables}
use Rattle.rtl_func.specs.Kinds.{label_stands, uid_stands, is_jump_by}
use Rattle.rtl_func.specs.Modes.{register_by, mention_by, mention_of, keeps_mode, has_its_mode, mentions_in}
use Rattle.rtl_func.specs.Nodes.{nodes_of}
use Rattle.rtl_func.specs.Rules.{keeps}
use Rattle.rtl_func.specs.Shapes.{is_shaped, is_bare, fits_row, has_call_mode, has_call_mode_by}
use Rattle.rtl_func.proofs.NodeLaws.{nodes_out}
use Rattle.rtl_func.proofs.AllPass.{all_pass}
use Rattle.rtl_chain.specs.End.{return_insn}

-- a return has no parts
return_nodes : nodes_of return_rtx ≡ return_rtx ∷ []
return_nodes = nodes_out return_rtx ∙ ap (λ (o : Rtx-F Rtx). return_rtx ∷ flat_map nodes_of o.kids) (out-roll-Rtx _)

return_passes : (test : Rtx → Bool) → test return_rtx ≡ true → all_pass test return_rtx ≡ true
return_passes test passes = ap (list_all test) return_nodes ∙ and_from (test return_rtx) true passes refl

is_effect_itself : is_effect_class (class_of_code (out-Rtx return_rtx).code) ≡ true
is_effect_itself = ap (λ (o : Rtx-F Rtx). is_effect_class (class_of_code o.code)) (out-roll-Rtx _)

shaped : is_shaped return_rtx ≡ true
shaped =
    ap (λ (o : Rtx-F Rtx).
    is_bare (class_of_code o.code) (cast_unsigned w64 o.number) o.name
    && fits_row (class_of_code o.code) o.mode (cast_unsigned w64 o.number) o.kids)
    (out-roll-Rtx _)

no_stack : (locals : ℕ) → has_stack_variables locals return_rtx ≡ true
no_stack locals =
    ap (λ (o : Rtx-F Rtx). not (is_stack_register (changed_by (class_of_code o.code) o.kids)) && sums_locals_by locals o.code o.kids) (out-roll-Rtx _)

-- the return keeps each rule, in whatever function
pub return_keeps : (f : Function) (insns : List Insn) (rule : InsnRule) → keeps rule f (return_insn insns) ≡ true
return_keeps f insns LabelsStand =
    return_passes (label_stands f.insns) (ap (λ (o : Rtx-F Rtx). uid_stands f.insns (label_uid o.code o.kids)) (out-roll-Rtx _))
return_keeps f insns KindsAgree = ap (λ (o : Rtx-F Rtx). is_jump_by (class_of_code o.code) o.kids) (out-roll-Rtx _)
return_keeps f insns ModesAgree =
    and_from _ (all_pass has_call_mode return_rtx)
    (and_from _ (all_pass is_shaped return_rtx) is_effect_itself (return_passes is_shaped shaped))
    (return_passes has_call_mode (ap (λ (o : Rtx-F Rtx). has_call_mode_by (class_of_code o.code) o.kids) (out-roll-Rtx _)))
return_keeps f insns OneModeAPseudo = return_passes (has_its_mode f.insns)
    (ap (λ (o : Rtx-F Rtx). keeps_mode f.insns (mention_by o.mode (register_by (class_of_code o.code) (cast_unsigned w64 o.number)))) (out-roll-Rtx _))
return_keeps f insns ArgumentRegisters =
    and_from (all_pass has_argument return_rtx) true
    (return_passes has_argument (ap (λ (o : Rtx-F Rtx). is_hard_argument (register_by (class_of_code o.code) (cast_unsigned w64 o.number))) (out-roll-Rtx _)))
    refl
return_keeps f insns Calls = refl
return_keeps f insns Parallels =
    and_from (all_pass holds_simple return_rtx) (all_pass changes_once return_rtx)
    (return_passes holds_simple (ap (λ (o : Rtx-F Rtx). holds_simple_by (class_of_code o.code) o.kids) (out-roll-Rtx _)))
    (return_passes changes_once (ap (λ (o : Rtx-F Rtx). changes_once_by (class_of_code o.code) o.kids) (out-roll-Rtx _)))
return_keeps f insns StackVariables = return_passes (has_stack_variables f.locals) (no_stack f.locals)

-- and it mentions no pseudo register
pub return_mentions : mentions_in return_rtx ≡ []
return_mentions =
    ap (filter_map mention_of) return_nodes
    ∙ ap (λ (o : Rtx-F Rtx). cons_option (mention_by o.mode (register_by (class_of_code o.code) (cast_unsigned w64 o.number))) []) (out-roll-Rtx _)
