-- Registers, constants, symbols and memory are within the table.
use Rattle.std.proofs.Common.{◌≡◌, ℕ, Bool, true, false, ◌&&◌, ◌||◌, List, [], ◌∷◌, refl, ap, ◌∙◌}
use Rattle.std.specs.Prelude.{ℤ, pos}
use Rattle.std.specs.Int.{cast_unsigned, w64}
use Rattle.rtx_tree.specs.declared.code.Code.{Code}
use Rattle.rtx_tree.specs.declared.code.Code.TheVariants as code
use Rattle.rtx_tree.specs.declared.code.Mode.{Mode}
use Rattle.rtx_tree.specs.declared.code.Mode.TheVariants.{Void, DI}
use Rattle.rtx_tree.specs.declared.tree.Rtx.{Rtx, out-roll-Rtx}
use Rattle.rtx_tree.specs.Code.{class_of_code, is_value_class, is_place_class}
use Rattle.rtx_tree.specs.Patterns.{is_pc, is_pc_code}
use Rattle.rtx_tree.specs.Tree.{RtxHead, tree_of, node_of, reg_of, const_of}
use Rattle.rtl_func.specs.Shapes.{has_mode, same_mode, mode_at, is_constant_class, is_register_number, is_value, is_place, is_constant, is_operand, is_some_operand, is_moded}
use Rattle.law_plain_formed.proofs.Nodes.{IsGood, AreGood, good, both_true}

-- ---- what a tree is as an operand, by its head

abbrev pub operand_head : Mode → RtxHead → Bool
operand_head m h = is_value_class (class_of_code h.code) && (is_constant_class (class_of_code h.code) || same_mode m h.mode)

module _ (h : RtxHead) (kids : List Rtx) where
  pub mode_is : mode_at (tree_of h kids) ≡ h.mode
  mode_is = ap (λ o. o.mode) (out-roll-Rtx (record { code = h.code; mode = h.mode; number = h.number; name = h.name; kids = kids }))

  pub operand_is : (m : Mode) → is_operand m (tree_of h kids) ≡ operand_head m h
  operand_is m =
      ap (λ o. is_value_class (class_of_code o.code) && (is_constant_class (class_of_code o.code) || same_mode m o.mode))
      (out-roll-Rtx (record { code = h.code; mode = h.mode; number = h.number; name = h.name; kids = kids }))

  pub some_operand_is : is_some_operand (tree_of h kids) ≡ (is_value_class (class_of_code h.code) && (is_constant_class (class_of_code h.code) || has_mode h.mode))
  some_operand_is =
      ap (λ o. is_value_class (class_of_code o.code) && (is_constant_class (class_of_code o.code) || has_mode o.mode))
      (out-roll-Rtx (record { code = h.code; mode = h.mode; number = h.number; name = h.name; kids = kids }))

  pub moded_is : is_moded (tree_of h kids) ≡ (is_value_class (class_of_code h.code) && has_mode h.mode)
  moded_is = ap (λ o. is_value_class (class_of_code o.code) && has_mode o.mode) (out-roll-Rtx (record { code = h.code; mode = h.mode; number = h.number; name = h.name; kids = kids }))

  pub place_is : is_place (tree_of h kids) ≡ is_place_class (class_of_code h.code)
  place_is = ap (λ o. is_place_class (class_of_code o.code)) (out-roll-Rtx (record { code = h.code; mode = h.mode; number = h.number; name = h.name; kids = kids }))

  pub pc_is : is_pc (tree_of h kids) ≡ is_pc_code h.code
  pc_is = ap (λ o. is_pc_code o.code) (out-roll-Rtx (record { code = h.code; mode = h.mode; number = h.number; name = h.name; kids = kids }))

-- ---- a value that may stand for an operand of a mode

pub record IsValueOf (m : Mode) (x : Rtx) : Type 0 where
  pub good_is : IsGood x
  pub operand : is_operand m x ≡ true
  pub some : is_some_operand x ≡ true

-- one that is no constant, and may be set
pub record IsPlaceOf (m : Mode) (x : Rtx) : Type 0 where
  pub value : IsValueOf m x
  pub mode : mode_at x ≡ m
  pub moded : is_moded x ≡ true
  pub place : is_place x ≡ true
  pub no_pc : is_pc x ≡ false

own_mode : (m : Mode) → same_mode m m ≡ true
own_mode Void = refl
own_mode _ = refl

-- ---- (reg:MODE NUMBER)

pub register_good : (m : Mode) (reg : ℕ) → has_mode m ≡ true → is_register_number (cast_unsigned w64 (pos reg)) ≡ true → IsPlaceOf m (reg_of m reg)
register_good m reg moded numbered =
    let h : RtxHead = record { code = code.Reg; mode = m; number = pos reg; name = [] } in
    record {
      value = record {
        good_is = good h [] (both_true (has_mode m) (is_register_number (cast_unsigned w64 (pos reg))) moded numbered) refl refl tt;
        operand = operand_is h [] m ∙ own_mode m;
        some = some_operand_is h [] ∙ moded;
      };
      mode = mode_is h [];
      moded = moded_is h [] ∙ moded;
      place = place_is h [];
      no_pc = pc_is h [];
    }

-- ---- (const_int NUMBER) and (symbol_ref:DI NAME)

pub constant_good : (m : Mode) (z : ℤ) → IsValueOf m (const_of z)
constant_good m z =
    let h : RtxHead = record { code = code.ConstInt; mode = Void; number = z; name = [] } in
    record { good_is = good h [] refl refl refl tt; operand = operand_is h [] m; some = some_operand_is h [] }

pub symbol_good : (name : List ℕ) → IsValueOf DI (tree_of (record { code = code.SymbolRef; mode = DI; number = pos 0; name = name }) [])
symbol_good name =
    let h : RtxHead = record { code = code.SymbolRef; mode = DI; number = pos 0; name = name } in
    record { good_is = good h [] refl refl refl tt; operand = operand_is h [] DI; some = some_operand_is h [] }

-- ---- (mem:MODE ADDRESS), and (plus:DI A B)

pub memory_good : (m : Mode) (address : Rtx) → has_mode m ≡ true → IsValueOf DI address → IsPlaceOf m (node_of code.Mem m (address ∷ []))
memory_good m address moded a =
    let h : RtxHead = record { code = code.Mem; mode = m; number = pos 0; name = [] } in
    record {
      value = record {
        good_is = good h (address ∷ []) (both_true (has_mode m) (is_operand DI address) moded a.operand) refl refl (a.good_is, tt);
        operand = operand_is h (address ∷ []) m ∙ own_mode m;
        some = some_operand_is h (address ∷ []) ∙ moded;
      };
      mode = mode_is h (address ∷ []);
      moded = moded_is h (address ∷ []) ∙ moded;
      place = place_is h (address ∷ []);
      no_pc = pc_is h (address ∷ []);
    }

pub sum_good : (a b : Rtx) → IsValueOf DI a → IsValueOf DI b → IsValueOf DI (node_of code.Plus DI (a ∷ b ∷ []))
sum_good a b one other =
    let h : RtxHead = record { code = code.Plus; mode = DI; number = pos 0; name = [] } in
    record {
      good_is = good h (a ∷ b ∷ []) (both_true (is_operand DI a) (is_operand DI b) one.operand other.operand) refl refl (one.good_is, (other.good_is, tt));
      operand = operand_is h (a ∷ b ∷ []) DI;
      some = some_operand_is h (a ∷ b ∷ []);
    }
