-- Of the hard registers two instructions name a0 to a7 alone: so do both as one.
use Rattle.std.proofs.Common.{◌≡◌, ℕ, ℤ, zero, suc, Bool, true, false, ◌&&◌, List, [], ◌∷◌, map, Option, Some, None, refl, sym, ap, subst, ◌∙◌, if◌then◌else◌}
use Rattle.std.specs.Prelude.{pos, slice_get, slice_set, option_map, option_and_then, unwrap_or, IfSome, not}
use Rattle.std.specs.List.{AllByRecursion, list_all}
use Rattle.std.specs.Str.{bytes_eq}
use Rattle.std.specs.Int.{cast_unsigned, w64}
use Rattle.std.proofs.lemmas.Bool.{and_parts, and_from}
use Rattle.rtx_tree.specs.declared.code.Code.{Code}
use Rattle.rtx_tree.specs.declared.code.Mode.{Mode}
use Rattle.rtx_tree.specs.declared.class.Class.{Class}
use Rattle.rtx_tree.specs.declared.class.Class.TheVariants as class
use Rattle.rtx_tree.specs.declared.function.ArgUse.{ArgUse}
use Rattle.rtx_tree.specs.declared.tree.Rtx.{Rtx}
use Rattle.rtx_tree.specs.Code.{class_of_code, mode_name, is_comparison_class}
use Rattle.rtx_tree.specs.Tree.{RtxHead, head_of, kids_of, tree_of, node_of, const_of, changed_at, replaced_at, is_constant}
use Rattle.rtx_tree.proofs.Trees.{head_of-tree, kids_of-tree}
use Rattle.rtl_func.specs.Modes.{register_by}
use Rattle.rtl_func.specs.Calls.{is_hard_argument, has_argument, use_is_argument, argument_registers}
use Rattle.rtl_func.proofs.AllPass.{all_pass, pass_out, itself, within}
use Rattle.rtx_simple.specs.Simple.{is_zero, extended, where_constant, extended_constant, terms_of, added, with_added, joined_constants, where_zero, without_zero, tested, compared_by, compared_with_zero, lowpart_of, where_mode, extension_cut, is_exchangeable, exchanged_by, constant_second, once, settled, simplified}
use Rattle.rtx_simple.proofs.Comparisons.{is_comparison}
use Rattle.rtx_simple.proofs.Front.{simplified_out}
use Rattle.rtx_simple.proofs.Hoisted.{extended_part, terms_part, lowpart_part, added_part}
use Rattle.rtx_simple.proofs.Options.{or_some, and_some, where_some}
use Rattle.insn_fuse.specs.Fused.{fused}
use Rattle.insn_fuse.proofs.Standing.{tree_induction}

-- of the hard registers a0 to a7 alone stand in the tree
abbrev Keeps : Rtx → Type 0
Keeps x = all_pass has_argument x ≡ true

abbrev AllKeep : List Rtx → Type 0
AllKeep kids = AllByRecursion Keeps kids

-- ---- trees and their parts

each_keeps : (kids : List Rtx) → list_all (all_pass has_argument) kids ≡ true → AllKeep kids
each_keeps [] all = tt
each_keeps (x ∷ kids) all = let both = and_parts (all_pass has_argument x) (list_all (all_pass has_argument) kids) all in (both.0, each_keeps kids both.1)

all_keep : (kids : List Rtx) → AllKeep kids → list_all (all_pass has_argument) kids ≡ true
all_keep [] all = refl
all_keep (x ∷ kids) all = and_from (all_pass has_argument x) (list_all (all_pass has_argument) kids) all.0 (all_keep kids all.1)

parts_keep : (x : Rtx) → Keeps x → AllKeep (kids_of x)
parts_keep x keeps = each_keeps (kids_of x) (within has_argument x keeps)

whole_keeps : (x : Rtx) → has_argument x ≡ true → AllKeep (kids_of x) → Keeps x
whole_keeps x one all = pass_out has_argument x ∙ and_from (has_argument x) (list_all (all_pass has_argument) (kids_of x)) one (all_keep (kids_of x) all)

-- what a code and a number say
abbrev head_keeps : Code → ℤ → Bool
head_keeps c number = is_hard_argument (register_by (class_of_code c) (cast_unsigned w64 number))

tree_keeps : (h : RtxHead) (kids : List Rtx) → head_keeps h.code h.number ≡ true → AllKeep kids → Keeps (tree_of h kids)
tree_keeps h kids one all =
    whole_keeps (tree_of h kids) (ap (λ (g : RtxHead). head_keeps g.code g.number) (head_of-tree h kids) ∙ one) (subst AllKeep (sym (kids_of-tree h kids)) all)

-- ---- a tree with another part

changed : (kids : List Rtx) (k : ℕ) (new : Rtx) → AllKeep kids → Keeps new → AllKeep (slice_set kids k new)
changed [] k new all one = tt
changed (x ∷ kids) zero new all one = (one, all.1)
changed (x ∷ kids) (suc k) new all one = (all.0, changed kids k new all.1 one)

part_changed : (f : Rtx → Rtx) → ((y : Rtx) → Keeps y → Keeps (f y)) → (kids : List Rtx) (k : ℕ) → AllKeep kids → IfSome (option_map f (slice_get kids k)) Keeps
part_changed f each [] k all = tt
part_changed f each (x ∷ kids) zero all = each x all.0
part_changed f each (x ∷ kids) (suc k) all = part_changed f each kids k all.1

all_changed : (kids : List Rtx) (k : ℕ) (o : Option Rtx) → AllKeep kids → IfSome o Keeps → AllKeep (changed_at kids k o)
all_changed kids k None all one = all
all_changed kids k (Some new) all one = changed kids k new all one

replaced_keeps : (path : List ℕ) (new x : Rtx) → Keeps new → Keeps x → Keeps (replaced_at path new x)
replaced_keeps [] new x one keeps = one
replaced_keeps (k ∷ path) new x one keeps =
    let part = option_map (replaced_at path new) (slice_get (kids_of x) k) in
    tree_keeps (head_of x) (changed_at (kids_of x) k part) (itself has_argument x keeps)
    (all_changed (kids_of x) k part (parts_keep x keeps) (part_changed (replaced_at path new) (λ y keeps. replaced_keeps path new y one keeps) (kids_of x) k (parts_keep x keeps)))

-- ---- the rules

constant_keeps : (n : ℤ) → Keeps (const_of n)
constant_keeps n = tree_keeps _ [] refl tt

-- a comparison is no register
comparison_keeps : (c : Code) → is_comparison_class (class_of_code c) ≡ true → head_keeps c (pos 0) ≡ true
comparison_keeps c = by_class (class_of_code c)
  where
    by_class : (k : Class) → is_comparison_class k ≡ true → is_hard_argument (register_by k (cast_unsigned w64 (pos 0))) ≡ true
    by_class class.Comparison is = refl
    by_class _ is = cc

compared_keeps : (c : Code) (mode : Mode) (kids : List Rtx) → AllKeep kids → (y : Rtx) → compared_by c mode kids ≡ Some y → Keeps y
compared_keeps c mode [] all y is = cc
compared_keeps c mode (a ∷ []) all y is = cc
compared_keeps c mode (a ∷ b ∷ []) all y is = by_test (is_zero b) is
  where
    by_code : (o : Option Code) → o ≡ tested c (head_of a).code → option_map (λ own. node_of own mode (kids_of a)) o ≡ Some y → Keeps y
    by_code None told is = cc
    by_code (Some own) told is =
        let same : node_of own mode (kids_of a) ≡ y = cc in
        subst Keeps same (tree_keeps _ (kids_of a) (comparison_keeps own (is_comparison c (head_of a).code own (sym told))) (parts_keep a all.0))

    by_test : (t : Bool) → (if t then option_map (λ own. node_of own mode (kids_of a)) (tested c (head_of a).code) else None) ≡ Some y → Keeps y
    by_test true is = by_code (tested c (head_of a).code) refl is
    by_test false is = cc
compared_keeps c mode (a ∷ b ∷ d ∷ kids) all y is = cc

inner_keeps : (mode : Mode) (d : ℤ) (inner : Rtx) → Keeps inner → (o : Option (Rtx × ℤ)) → o ≡ added inner → (y : Rtx) → option_map (with_added mode d) o ≡ Some y → Keeps y
inner_keeps mode d inner keeps None told y is = cc
inner_keeps mode d inner keeps (Some p) told y is =
    let same : with_added mode d p ≡ y = cc in
    subst Keeps same (tree_keeps _ _ refl
    (added_part Keeps (head_of inner).code (kids_of inner) (parts_keep inner keeps) p (sym told), (constant_keeps _, tt)))

exchanged_keeps : (h : RtxHead) (kids : List Rtx) → head_keeps h.code h.number ≡ true → AllKeep kids → (y : Rtx) → exchanged_by h kids ≡ Some y → Keeps y
exchanged_keeps h [] one all y is = cc
exchanged_keeps h (a ∷ []) one all y is = cc
exchanged_keeps h (a ∷ b ∷ []) one all y is =
    where_some (is_constant a && not (is_constant b)) (tree_of h (b ∷ a ∷ [])) Keeps (tree_keeps h (b ∷ a ∷ []) one (all.1.0, (all.0, tt))) y is
exchanged_keeps h (a ∷ b ∷ c ∷ kids) one all y is = cc

module _ (x : Rtx) (keeps : Keeps x) where
  parts : AllKeep (kids_of x)
  parts = parts_keep x keeps

  extended_keeps : (y : Rtx) → extended_constant x ≡ Some y → Keeps y
  unfolding extended_constant
  extended_keeps = and_some (extended x) where_constant Keeps (λ a is. where_some (is_constant a) a Keeps (extended_part Keeps (class_of_code (head_of x).code) (kids_of x) a parts is))

  joined_keeps : (y : Rtx) → joined_constants x ≡ Some y → Keeps y
  unfolding joined_constants
  joined_keeps = and_some (added x) (λ (outer : Rtx × ℤ). option_map (with_added (head_of x).mode outer.1) (added outer.0)) Keeps
      (λ outer is. inner_keeps (head_of x).mode outer.1 outer.0 (added_part Keeps (head_of x).code (kids_of x) parts outer is) (added outer.0) refl)

  zero_keeps : (y : Rtx) → without_zero x ≡ Some y → Keeps y
  unfolding without_zero
  zero_keeps = and_some (terms_of x) where_zero Keeps (λ t is. where_some (is_zero t.1) t.0 Keeps (terms_part Keeps (head_of x).code (kids_of x) t parts is))

  tested_keeps : (y : Rtx) → compared_with_zero x ≡ Some y → Keeps y
  unfolding compared_with_zero
  tested_keeps = compared_keeps (head_of x).code (head_of x).mode (kids_of x) parts

  cut_keeps : (y : Rtx) → extension_cut x ≡ Some y → Keeps y
  unfolding extension_cut
  cut_keeps = and_some (option_and_then extended (lowpart_of x)) (where_mode (head_of x).mode) Keeps
      (λ a is. where_some (bytes_eq (mode_name (head_of a).mode) (mode_name (head_of x).mode)) a Keeps
      (and_some (lowpart_of x) extended Keeps (λ whole there a is. extended_part Keeps (class_of_code (head_of whole).code) (kids_of whole) a (parts_keep whole (lowpart_part Keeps (head_of x).code (kids_of x) whole parts there)) is) a is))

  second_keeps : (y : Rtx) → constant_second x ≡ Some y → Keeps y
  unfolding constant_second
  second_keeps y is = by_test (is_exchangeable (head_of x).code) is
    where
      by_test : (t : Bool) → (if t then exchanged_by (head_of x) (kids_of x) else None) ≡ Some y → Keeps y
      by_test true is = exchanged_keeps (head_of x) (kids_of x) (itself has_argument x keeps) parts y is
      by_test false is = cc

  once_keeps : (y : Rtx) → once x ≡ Some y → Keeps y
  unfolding once
  once_keeps =
      or_some (extended_constant x) _ Keeps extended_keeps
      (or_some (joined_constants x) _ Keeps joined_keeps
      (or_some (without_zero x) _ Keeps zero_keeps
      (or_some (compared_with_zero x) _ Keeps tested_keeps
      (or_some (extension_cut x) (constant_second x) Keeps cut_keeps second_keeps))))

settled_keeps : (n : ℕ) (x : Rtx) → Keeps x → Keeps (settled n x)
settled_keeps zero x keeps = keeps
settled_keeps (suc n) x keeps = by_rule (λ y one. settled_keeps n y one) (once x) refl
  where
    by_rule : ((y : Rtx) → Keeps y → Keeps (settled n y)) → (o : Option Rtx) → once x ≡ o → Keeps (unwrap_or (option_map (settled n) o) x)
    by_rule rest None is = keeps
    by_rule rest (Some y) is = rest y (once_keeps x keeps y is)

-- ---- the whole

abbrev KeepsSimplified : Rtx → Type 0
KeepsSimplified x = Keeps x → Keeps (simplified x)

all_simplified : (kids : List Rtx) → AllByRecursion KeepsSimplified kids → AllKeep kids → AllKeep (map simplified kids)
all_simplified [] each all = tt
all_simplified (x ∷ kids) each all = (each.0 all.0, all_simplified kids each.1 all.1)

simplified_keeps : (x : Rtx) → KeepsSimplified x
simplified_keeps = tree_induction KeepsSimplified (λ x each keeps.
    subst Keeps (sym (simplified_out x)) (settled_keeps 3 (tree_of (head_of x) (map simplified (kids_of x)))
    (tree_keeps (head_of x) (map simplified (kids_of x)) (itself has_argument x keeps) (all_simplified (kids_of x) each (parts_keep x keeps)))))

pub fused_arguments : (second : Rtx) (path : List ℕ) (source : Rtx) (uses : List ArgUse) → argument_registers second uses ≡ true → argument_registers source [] ≡ true → argument_registers (fused second path source) uses ≡ true
fused_arguments second path source uses keeps other =
    let both = and_parts (all_pass has_argument second) (list_all use_is_argument uses) keeps in
    let one = and_parts (all_pass has_argument source) true other in
    and_from (all_pass has_argument (fused second path source)) (list_all use_is_argument uses)
    (simplified_keeps (replaced_at path source second) (replaced_keeps path source second one.0 both.0)) both.1
