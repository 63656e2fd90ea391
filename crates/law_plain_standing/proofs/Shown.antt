-- What is asked of a constraint: an operand itself, or with t3 in its address.
use Rattle.std.proofs.Common.{◌≡◌, ℕ, ℤ, pos, Bool, true, false, ◌&&◌, ◌||◌, List, [], ◌∷◌, Option, Some, None, refl, ap, ◌∙◌}
use Rattle.std.specs.Prelude.{if◌then◌else◌}
use Rattle.rtx_tree.specs.declared.code.Code.{Code}
use Rattle.rtx_tree.specs.declared.code.Code.TheVariants as code
use Rattle.rtx_tree.specs.declared.code.Mode.{Mode}
use Rattle.rtx_tree.specs.declared.tree.Rtx.{Rtx, out-Rtx, out-roll-Rtx}
use Rattle.rtx_tree.specs.Tree.{head_of, tree_of}
use Rattle.md_text.specs.declared.constraint.Alternative.{Alternative}
use Rattle.md_operand.specs.Operand.{is_far, is_far_by, is_register, is_register_by, is_constant, is_constant_code, is_memory}
use Rattle.reload_operands.specs.declared.operand.Operand.{Operand}
use Rattle.reload_fit.specs.Addressed.{addressed_by, address_in, on_register, offset_in_memory, far_offset}
use Rattle.reload_fit.specs.Fitting.{is_based, shown}
use Rattle.rtx_open.proofs.Expressions.{Written, rtx, outside, outside_is}
use Rattle.law_plain_standing.proofs.Sorts.{Sort, register, slot, number, symbol, memory, written, tree, base, operand, IsMemory, IsNear, IsOther}

-- ---- what is no memory is not far, and is shown as it is

pub not_far : (s : Sort) → IsNear s → is_far (tree s) ≡ false
not_far (register m reg) near = ap (λ o. is_far_by o.code o.kids) (outside_is (written (register m reg)))
not_far (number z) near = ap (λ o. is_far_by o.code o.kids) (outside_is (written (number z)))
not_far (symbol z name) near = ap (λ o. is_far_by o.code o.kids) (outside_is (written (symbol z name)))
not_far (slot m address) near = absurd near
not_far (memory m address b) near = absurd near

pub no_offset : (s : Sort) → IsNear s → far_offset (tree s) ≡ None
no_offset s near = ap (λ b. if b then offset_in_memory (out-Rtx (tree s)).kids else None) (not_far s near)

baseless : (s : Sort) → IsNear s → base s ≡ None
baseless (register m reg) near = refl
baseless (number z) near = refl
baseless (symbol z name) near = refl
baseless (slot m address) near = absurd near
baseless (memory m address b) near = absurd near

module _ (asked : Option Alternative) (k : ℕ) (mode : Mode) (input output changed other : Bool) where
  abbrev pub the : Sort → Operand
  the s = operand k s mode input output changed other

  unbased : (s : Sort) → IsNear s → is_based asked (the s) ≡ false
  unbased (register m reg) near = refl
  unbased (number z) near = refl
  unbased (symbol z name) near = refl
  unbased (slot m address) near = absurd near
  unbased (memory m address b) near = absurd near

  pub shown_itself : (s : Sort) → IsNear s → shown asked (the s) ≡ tree s
  shown_itself s near =
      ap (λ b. if b || is_far (tree s) then on_register 28 (the s) else tree s) (unbased s near) ∙ ap (λ b. if b then on_register 28 (the s) else tree s) (not_far s near)

  -- ---- memory is shown as memory

  addressed_code : (s : Sort) → (out-Rtx (tree s)).code ≡ code.Mem → (out-Rtx (on_register 28 (the s))).code ≡ code.Mem
  addressed_code s is =
      let address = address_in 28 (base s) in
      ap (λ c. (out-Rtx (addressed_by c address (tree s))).code) is ∙ (ap (λ o. o.code) (out-roll-Rtx _) ∙ is)

  by_test : (s : Sort) → (out-Rtx (tree s)).code ≡ code.Mem → (b : Bool) → (out-Rtx (if b then on_register 28 (the s) else tree s)).code ≡ code.Mem
  by_test s is true = addressed_code s is
  by_test s is false = is

  pub memory_code : (s : Sort) → IsMemory s → (out-Rtx (tree s)).code ≡ code.Mem
  memory_code (slot m address) of = ap (λ o. o.code) (outside_is (written (slot m address)))
  memory_code (memory m address b) of = ap (λ o. o.code) (outside_is (written (memory m address b)))
  memory_code (register m reg) of = absurd of
  memory_code (number z) of = absurd of
  memory_code (symbol z name) of = absurd of

  pub shown_memory : (s : Sort) → IsMemory s → (out-Rtx (shown asked (the s))).code ≡ code.Mem
  shown_memory s of = by_test s (memory_code s of) (is_based asked (the s) || is_far (tree s))

  -- ---- so what is no register is shown as none

  no_register : (c : Code) (x : Rtx) → (out-Rtx x).code ≡ c → ((y : Rtx) (kids : List Rtx) → is_register_by c y kids ≡ false) → is_register x ≡ false
  no_register c x is other = ap (λ c. is_register_by c x (out-Rtx x).kids) is ∙ other x (out-Rtx x).kids

  pub shown_other : (s : Sort) → IsOther s → is_register (shown asked (the s)) ≡ false
  shown_other (register m reg) other = absurd other
  shown_other (slot m address) other = no_register code.Mem (shown asked (the (slot m address))) (shown_memory (slot m address) tt) (λ y kids. refl)
  shown_other (memory m address b) other = no_register code.Mem (shown asked (the (memory m address b))) (shown_memory (memory m address b) tt) (λ y kids. refl)
  shown_other (number z) other = ap is_register (shown_itself (number z) tt) ∙ no_register code.ConstInt (tree (number z)) (ap (λ o. o.code) (outside_is (written (number z)))) (λ y kids. refl)
  shown_other (symbol z name) other = ap is_register (shown_itself (symbol z name) tt) ∙ no_register code.SymbolRef (tree (symbol z name)) (ap (λ o. o.code) (outside_is (written (symbol z name)))) (λ y kids. refl)

  -- and memory as no constant
  pub shown_unfixed : (s : Sort) → IsMemory s → is_constant (shown asked (the s)) ≡ false
  shown_unfixed s of = ap is_constant_code (shown_memory s of)
