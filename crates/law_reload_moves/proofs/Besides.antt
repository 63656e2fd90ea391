-- Parts of a pattern beside those of the tree that it matches, with homes put in.
use Rattle.std.proofs.Common.{◌≡◌, ◌≢◌, ◌⊎◌, inl, inr, ℕ, ◌||◌, Bool, true, false, List, [], ◌∷◌, length, map, Option, Some, None, refl, sym, ap, subst, ◌∙◌, arith}
use Rattle.std.proofs.lemmas.Bool.{and_parts, or_left, or_right}
use Rattle.std.proofs.lemmas.List.{length-map}
use Rattle.std.specs.List.{list_all}
use Rattle.std.specs.Prelude.{ℤ, pos, option_map}
use Rattle.law_operands_fetched.proofs.rtx_tree.Trees.{kids_of-tree, head_of-tree}
use Rattle.law_operands_fetched.specs.rtx_tree.Code.{class_of_code, is_effect_class}
use Rattle.law_operands_fetched.specs.rtx_tree.Tree.{RtxHead, head_of, kids_of, tree_of}
use Rattle.law_operands_fetched.specs.rtx_tree.declared.code.Code.{Code}
use Rattle.law_operands_fetched.specs.rtx_tree.declared.code.Code.TheVariants as code
use Rattle.law_operands_fetched.specs.rtx_tree.declared.code.Mode.{Mode}
use Rattle.law_operands_fetched.specs.rtx_tree.declared.tree.Rtx.{Rtx, out-roll-Rtx}
use Rattle.law_operands_fetched.specs.rtx_tree.declared.tree.Rtx.TheOpen.{Rtx-F}
use Rattle.law_operands_fetched.specs.rtl_func.Shapes.{class_at, mode_at, number_at, is_effect, is_true_register, is_narrower, fits_row, is_bare, is_shaped}
use Rattle.law_operands_fetched.proofs.rtl_func.AllPass as nodes
use Rattle.law_operands_fetched.proofs.rtl_func.AllPass.{all_pass}
use Rattle.law_operands_fetched.proofs.md_match.Instantiated.{each_made, made_itself}
use Rattle.law_operands_fetched.specs.md_match.Pattern.{Ops, role_of, operand_of, instantiated}
use Rattle.law_operands_fetched.specs.md_match.declared.role.Role.TheVariants.{Operand, Itself}
use Rattle.law_operands_fetched.specs.assign.declared.home.Home.{Home}
use Rattle.law_operands_fetched.specs.assign.declared.home.Home.TheVariants.{Hard, Slot}
use Rattle.law_operands_fetched.specs.assign.declared.home.HomeOf.{HomeOf}
use Rattle.law_operands_fetched.specs.assign.declared.places.Layout.{Layout}
use Rattle.law_operands_fetched.specs.reload_homes.Homes.{home_of, homed, register_at, place_by}
use Rattle.law_operands_fetched.proofs.reload_homes.Rewrites.{homed_register, homed_over}
use Rattle.law_operands_fetched.specs.reload_operands.Put.{is_lowpart_code, is_lowpart, any_inside, inside_low}
use Rattle.law_operands_fetched.specs.law_operands_replaced.Places.{AtOnePlace, StandsFor, itself, part}
use Rattle.law_reload_moves.proofs.Matched.{IsLow, one_beside, made_by, made_length, alone, one_part, front, register_low, no_kids}

module _ (homes : List HomeOf) (layout : Layout) (found : Ops) where
  abbrev hm : Rtx → Rtx
  hm = homed homes layout

  place_class : (mode : Mode) (reg : ℕ) (home : Home) → is_effect (place_by layout mode reg home) ≡ false
  place_class mode reg (Hard hard) = ap (λ (o : Rtx-F Rtx). is_effect_class (class_of_code o.code)) (out-roll-Rtx _)
  place_class mode reg Slot = ap (λ (o : Rtx-F Rtx). is_effect_class (class_of_code o.code)) (out-roll-Rtx _)

  -- what is an effect with homes put in is no register
  pub no_place : (w : Rtx) → is_effect (hm w) ≡ true → register_at w ≡ None
  no_place w effect = by (register_at w) refl
    where
      by : (o : Option ℕ) → register_at w ≡ o → o ≡ None
      by None is = refl
      by (Some reg) is = absurd (let e : true ≡ false = sym effect ∙ ap is_effect (homed_register homes layout w reg is) ∙ place_class (head_of w).mode reg (home_of homes reg) in
          let no : ⊥ = cc in no)

  pub itself_made : (q w : Rtx) → role_of (head_of q).code ≡ Itself → instantiated q found ≡ Some w → head_of w ≡ head_of q
  itself_made q w is made = by (each_made (kids_of q) found) (sym (made_itself q found is) ∙ made)
    where
      by : (o : Option (List Rtx)) → option_map (tree_of (head_of q)) o ≡ Some w → head_of w ≡ head_of q
      by None none = absurd (let no : ⊥ = cc in no)
      by (Some parts) at = let same : tree_of (head_of q) parts ≡ w = cc in ap head_of (sym same) ∙ head_of-tree (head_of q) parts

  -- an effect that stands for itself has its head, and as many parts
  pub beside_head : (q w x : Rtx) → instantiated q found ≡ Some w → x ≡ hm w → role_of (head_of q).code ≡ Itself → is_effect x ≡ true →
      (head_of x ≡ head_of q) × (length (kids_of q) ≡ length (kids_of x))
  beside_head q w x made homed_is is effect =
      let none = no_place w (ap is_effect (sym homed_is) ∙ effect) in
      let tree = homed_is ∙ homed_over homes layout w none in
      let differ : role_of (head_of q).code ≢ Operand = λ o. let no : Itself ≡ Operand = sym is ∙ o in let never : ⊥ = cc in never in
      let m = made_by homes layout found (role_of (head_of q).code) (operand_of q found) q w refl differ refl made in (
        ap head_of tree ∙ head_of-tree (head_of w) (map hm (kids_of w)) ∙ itself_made q w is made,
        made_length homes layout found (kids_of q) m.parts m.made ∙ ap length (sym m.kids_are) ∙ sym (length-map (kids_of w) hm) ∙
            ap length (sym (ap kids_of tree ∙ kids_of-tree (head_of w) (map hm (kids_of w)))),
      )

  -- a part of a pattern beside a part of the tree
  pub record IsPartBeside (p w q y : Rtx) : Type 0 where
    pub was : Rtx
    pub made : instantiated q found ≡ Some was
    pub tree_is : y ≡ hm was
    pub shaped : all_pass is_shaped was ≡ true
    pub lows : (number : ℤ) → IsLow homes layout found q was number → IsLow homes layout found p w number

  pub part_beside : (p w x q y : Rtx) → instantiated p found ≡ Some w → x ≡ hm w → all_pass is_shaped w ≡ true → role_of (head_of p).code ≢ Operand →
      register_at w ≡ None → AtOnePlace (kids_of p) (kids_of x) q y → IsPartBeside p w q y
  part_beside p w x q y made homed_is shaped other none at =
      let m = made_by homes layout found (role_of (head_of p).code) (operand_of p found) p w refl other refl made in
      let kids : kids_of x ≡ map hm m.parts =
      ap kids_of homed_is ∙ ap kids_of (homed_over homes layout w none) ∙ kids_of-tree (head_of w) (map hm (kids_of w)) ∙ ap (map hm) m.kids_are in
      let one = one_beside homes layout found (kids_of p) (kids_of x) q y at m.parts m.made kids
      (ap (list_all (all_pass is_shaped)) (sym m.kids_are) ∙ nodes.within is_shaped w shaped) in record {
        was = one.was;
        made = one.made;
        tree_is = one.tree_is;
        shaped = one.shaped;
        lows = λ number low k inside same. m.lows k inside
            (ap (any_inside (map (inside_low k) (kids_of p)) (inside || is_lowpart w)) m.kids_are ∙
            one.lows k (inside || is_lowpart w) (low k (inside || is_lowpart w) same));
      }

  -- ---- the low part of an operand

  lowpart_row : (c : Code) (mode : Mode) (number : ℕ) (a : Rtx) → c ≡ code.Subreg → fits_row (class_of_code c) mode number (a ∷ []) ≡ true →
      is_true_register (class_at a) (number_at a) ≡ true
  lowpart_row code.Subreg mode number a is fits = (and_parts (is_true_register (class_at a) (number_at a)) (is_narrower mode (mode_at a)) fits).0
  lowpart_row _ mode number a is fits = absurd (let no : ⊥ = cc in no)

  true_code : (c : Code) (number : ℕ) → is_true_register (class_of_code c) number ≡ true → c ≡ code.Reg
  true_code code.Reg number is = refl
  true_code _ number is = absurd (let no : ⊥ = cc in no)

  -- what stands in the low part of a tree
  pub low_inside : (p x : Rtx) (number : ℤ) (z : Rtx) (w q : Rtx) → StandsFor p x number z → instantiated p found ≡ Some w → all_pass is_shaped w ≡ true →
      (head_of p).code ≡ code.Subreg → kids_of p ≡ q ∷ [] → IsLow homes layout found p w number
  low_inside _ _ _ _ w q (itself p x is) made shaped is_low are =
      absurd (let no : Itself ≡ Operand = sym (ap role_of is_low) ∙ is in let never : ⊥ = cc in never)
  low_inside _ _ _ _ w q (part p x r y z number other long at stands) made shaped is_low are =
      let m = made_by homes layout found (role_of (head_of p).code) (operand_of p found) p w refl other refl made in
      let same_length = made_length homes layout found (kids_of p) m.parts m.made in
      let one = alone homes layout found (kids_of w) (ap length m.kids_are ∙ sym same_length ∙ ap length are) in
      let w_is : (head_of w).code ≡ code.Subreg = ap (λ (h : RtxHead). h.code) (itself_made p w (ap role_of is_low) made) ∙ is_low in
      let row = ap (λ c. fits_row (class_of_code c) (mode_at w) (number_at w) (one.0 ∷ [])) (sym w_is) ∙
      ap (fits_row (class_at w) (mode_at w) (number_at w)) (sym one.1) ∙
      (and_parts (is_bare (class_at w) (number_at w) (head_of w).name) _ (nodes.itself is_shaped w shaped)).1 in
      let reg_is : (head_of one.0).code ≡ code.Reg = true_code (head_of one.0).code (number_at one.0) (lowpart_row code.Subreg (mode_at w) (number_at w) one.0 refl row) in
      let inner_shaped : all_pass is_shaped one.0 ≡ true =
      (and_parts (all_pass is_shaped one.0) true (sym (ap (list_all (all_pass is_shaped)) one.1) ∙ nodes.within is_shaped w shaped)).0 in
      let first_is : q ≡ r = one_part homes layout found q (kids_of p) (kids_of x) r y at are in
      let parts = front homes layout found (instantiated q found) (each_made [] found) m.parts (sym (ap (λ ps. each_made ps found) are) ∙ m.made) in
      let inner_made : instantiated r found ≡ Some one.0 =
      ap (λ q. instantiated q found) (sym first_is) ∙ parts.2 ∙ ap Some (let same : parts.0 ∷ parts.1 ≡ one.0 ∷ [] = parts.4 ∙ sym m.kids_are ∙ one.1 in cc) in
      λ k inside same.
      let low = register_low homes layout found r one.0 y number z stands inner_made (no_kids one.0 reg_is (nodes.itself is_shaped one.0 inner_shaped)) k same in
      m.lows k inside
      (ap (λ b. any_inside (map (inside_low k) (kids_of p)) b (kids_of w)) (or_right inside (is_lowpart w) (ap is_lowpart_code w_is)) ∙
      ap (any_inside (map (inside_low k) (kids_of p)) true) one.1 ∙
      ap (λ ps. any_inside (map (inside_low k) ps) true (one.0 ∷ [])) (are ∙ ap (λ q. q ∷ []) first_is) ∙
      or_left (inside_low k r true one.0) _ low)
