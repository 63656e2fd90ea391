-- Instructions that lead elsewhere are within the table, and of their kind.
use Rattle.std.proofs.Common.{◌≡◌, ℕ, Bool, true, false, ◌&&◌, ◌||◌, List, [], ◌∷◌, refl, ap, ◌∙◌}
use Rattle.std.specs.Prelude.{pos}
use Rattle.std.specs.List.{list_all}
use Rattle.rtx_tree.specs.declared.code.Code.TheVariants as code
use Rattle.rtx_tree.specs.declared.code.Mode.{Mode}
use Rattle.rtx_tree.specs.declared.code.Mode.TheVariants.{Void, SI, DI}
use Rattle.rtx_tree.specs.declared.function.Kind.TheVariants.{Call}
use Rattle.rtx_tree.specs.declared.tree.Rtx.{Rtx, out-roll-Rtx}
use Rattle.rtx_tree.specs.Code.{class_of_code, is_effect_class}
use Rattle.rtx_tree.specs.Patterns.{set_rtx}
use Rattle.rtx_tree.specs.Tree.{RtxHead, node_of}
use Rattle.rtl_func.specs.Kinds.{kinds_agree, is_call_by, is_call_tree}
use Rattle.rtl_func.specs.Modes.{modes_agree}
use Rattle.rtl_func.specs.Nodes.{nodes_of}
use Rattle.rtl_func.specs.Shapes.{is_effect, is_shaped, has_call_mode, is_operand, is_called, is_constant, is_constant_class, same_mode, mode_at, class_at, is_memory_class}
use Rattle.law_plain_formed.proofs.Nodes.{is_formed_as, AreGood, both_true, through, shaped_head, called_head, shaped_each, called_each}
use Rattle.law_plain_formed.proofs.Leaves.{IsValueOf, memory_good, mode_is}

-- ---- (call (mem:SI TARGET) SIZE)

module _ (at size : Rtx) (target : IsValueOf DI at) (sized : IsValueOf Void size) (constant : is_constant size ≡ true) where
  abbrev place : Rtx
  place = node_of code.Mem SI (at ∷ [])

  abbrev call : Rtx
  call = node_of code.Call Void (place ∷ size ∷ [])

  abbrev head : RtxHead
  head = record { code = code.Call; mode = Void; number = pos 0; name = [] }

  abbrev kids : List Rtx
  kids = place ∷ size ∷ []

  all : AreGood kids
  all = ((memory_good SI at refl target).value.good_is, (sized.good_is, tt))

  memory : is_memory_class (class_at place) ≡ true
  memory = ap (λ o. is_memory_class (class_of_code o.code)) (out-roll-Rtx (record { code = code.Mem; mode = SI; number = pos 0; name = []; kids = at ∷ [] }))

  moded : same_mode (mode_at place) SI ≡ true
  moded = ap (λ m. same_mode m SI) (mode_is (record { code = code.Mem; mode = SI; number = pos 0; name = [] }) (at ∷ []))

  effect : is_effect call ≡ true
  effect = ap (λ o. is_effect_class (class_of_code o.code)) (out-roll-Rtx (record { code = code.Call; mode = Void; number = pos 0; name = []; kids = kids }))

  calls : is_call_tree call ≡ true
  calls = ap (λ o. is_call_by (class_of_code o.code) o.kids) (out-roll-Rtx (record { code = code.Call; mode = Void; number = pos 0; name = []; kids = kids }))

  pub call_formed : is_formed_as Call call ≡ true
  call_formed =
      let shaped = through is_shaped head kids (shaped_head head kids ∙ both_true (is_memory_class (class_at place)) (is_constant size) memory constant) (shaped_each kids all) in
      let called = through has_call_mode head kids (called_head head kids ∙ moded) (called_each kids all) in
      both_true (modes_agree call) (kinds_agree Call call)
      (both_true (is_effect call && list_all is_shaped (nodes_of call)) (list_all has_call_mode (nodes_of call)) (both_true (is_effect call) (list_all is_shaped (nodes_of call)) effect shaped) called) calls
