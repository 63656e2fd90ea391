-- Each operand that a pattern takes stands in the tree that it matches, with homes put in, or in a low part.
use Rattle.std.proofs.Common.{◌≡◌, ◌≢◌, ◌⊎◌, inl, inr, ℕ, ◌||◌, Bool, true, false, List, [], ◌∷◌, length, map, Option, Some, None, refl, sym, ap, subst, ◌∙◌, arith}
use Rattle.std.proofs.lemmas.Bool.{and_parts, or_cases, or_left, or_right}
use Rattle.std.proofs.lemmas.List.{length-map}
use Rattle.std.specs.List.{AllByRecursion, flat_map, list_all, list_any}
use Rattle.std.specs.Prelude.{ℤ, pos}
use Rattle.law_operands_fetched.proofs.rtx_tree.Trees.{kids_of-tree}
use Rattle.law_operands_fetched.specs.rtx_tree.Tree.{head_of, kids_of}
use Rattle.law_operands_fetched.specs.rtx_tree.declared.tree.Rtx.{Rtx}
use Rattle.law_operands_fetched.specs.rtl_func.Shapes.{is_shaped}
use Rattle.law_operands_fetched.proofs.rtl_func.AllPass as nodes
use Rattle.law_operands_fetched.proofs.rtl_func.AllPass.{all_pass}
use Rattle.law_operands_fetched.specs.md_constr.Inputs.{operand_here, taken_in}
use Rattle.law_operands_fetched.proofs.md_match.Instantiated.{each_made}
use Rattle.law_operands_fetched.specs.md_match.Match.{IsAsked}
use Rattle.law_operands_fetched.specs.md_match.Pattern.{Ops, role_of, placeholders, operand_of, operand_numbered, instantiated}
use Rattle.law_operands_fetched.specs.md_match.declared.role.Role.{Role}
use Rattle.law_operands_fetched.specs.md_match.declared.role.Role.TheVariants.{Operand, Operator, Itself}
use Rattle.law_operands_fetched.specs.assign.declared.home.HomeOf.{HomeOf}
use Rattle.law_operands_fetched.specs.assign.declared.places.Layout.{Layout}
use Rattle.law_operands_fetched.specs.reload_homes.Homes.{homed, register_at}
use Rattle.law_operands_fetched.proofs.reload_homes.Rewrites.{homed_over}
use Rattle.law_operands_fetched.specs.reload_operands.Directions.{has_number}
use Rattle.law_operands_fetched.specs.reload_operands.Put.{is_lowpart_code, is_lowpart, any_inside, inside_low}
use Rattle.law_operands_fetched.proofs.reload_operands.NumberLaws.{takes_out}
use Rattle.law_operands_fetched.specs.law_operands_replaced.Places.{AtOnePlace, first, later, At, here, inside, is_leaf, is_leaf_as, is_empty}
use Rattle.law_reload_moves.proofs.Besides.{part_beside}
use Rattle.law_reload_moves.proofs.HomedTrees.{induction}
use Rattle.law_reload_moves.proofs.InputPlaces.{found_at, each_asked, each_leaf, StandsThere, place_of_taken, taken_itself, asked_kids, low_taken}
use Rattle.law_reload_moves.proofs.Matched.{IsLow, IsPlace, whole, lowpart, is_place, made_by, made_length, alone, front, no_kids}

each_holds : (P : Rtx → Type 0) (ps xs : List Rtx) (q y : Rtx) → AtOnePlace ps xs q y → AllByRecursion P ps → P q
each_holds P _ _ _ _ (first p x ps xs) all = all.0
each_holds P _ _ _ _ (later p x q y ps xs more) all = each_holds P ps xs p x more all.1

empty_list : (ps : List Rtx) → is_empty ps ≡ true → ps ≡ []
empty_list [] is = refl
empty_list (p ∷ ps) is = absurd (let no : ⊥ = cc in no)

short_list : (ps : List Rtx) → length ps ≡ 0 → ps ≡ []
short_list [] is = refl
short_list (p ∷ ps) is = absurd (omega (arith, is))

module _ (homes : List HomeOf) (layout : Layout) (found : Ops) where
  abbrev hm : Rtx → Rtx
  hm = homed homes layout

  -- where homes replace it not, a tree has as many parts as the pattern
  pub kids_long : (p w : Rtx) → role_of (head_of p).code ≢ Operand → instantiated p found ≡ Some w → register_at w ≡ None → length (kids_of p) ≡ length (kids_of (hm w))
  kids_long p w other made none =
      let m = made_by homes layout found (role_of (head_of p).code) (operand_of p found) p w refl other refl made in
      made_length homes layout found (kids_of p) m.parts m.made ∙ ap length (sym m.kids_are) ∙ sym (length-map (kids_of w) hm) ∙
      ap length (sym (ap kids_of (homed_over homes layout w none) ∙ kids_of-tree (head_of w) (map hm (kids_of w))))

  pub record IsAt (p w x : Rtx) : Type 0 where
    pub made : instantiated p found ≡ Some w
    pub tree_is : x ≡ hm w
    pub shaped : all_pass is_shaped w ≡ true
    pub asked : AllByRecursion (IsAsked found) (placeholders p)
    pub leaf : all_pass is_leaf p ≡ true

  -- of a part
  pub part_at : (p w x q y : Rtx) → (is : IsAt p w x) → (other : role_of (head_of p).code ≢ Operand) → (none : register_at w ≡ None) → (at : AtOnePlace (kids_of p) (kids_of x) q y) →
      IsAt q (part_beside homes layout found p w x q y is.made is.tree_is is.shaped other none at).was y
  part_at p w x q y is other none at =
      let b = part_beside homes layout found p w x q y is.made is.tree_is is.shaped other none at in record {
        made = b.made;
        tree_is = b.tree_is;
        shaped = b.shaped;
        asked = each_asked (IsAsked found) (kids_of p) (kids_of x) q y at (asked_kids homes layout found p other is.asked);
        leaf = each_leaf (kids_of p) (kids_of x) q y at (nodes.within is_leaf p is.leaf);
      }

  abbrev Takes : Rtx → Type 0
  Takes p = (w x : Rtx) (k : ℕ) → IsAt p w x → has_number k (taken_in p) ≡ true → StandsThere homes layout found p x k ⊎ IsLow homes layout found p w (pos k)

  abbrev parts_take : ℕ → Rtx → Bool
  parts_take k part = has_number k (taken_in part)

  -- it stands in a part
  pub record PartThere (p x : Rtx) (k : ℕ) : Type 0 where
    pub q : Rtx
    pub y : Rtx
    pub long : length (kids_of p) ≡ length (kids_of x)
    pub at : AtOnePlace (kids_of p) (kids_of x) q y
    pub there : StandsThere homes layout found q y k

  of_parts : (p w x : Rtx) (k : ℕ) → IsAt p w x → role_of (head_of p).code ≢ Operand → AllByRecursion Takes (kids_of p) → list_any (parts_take k) (kids_of p) ≡ true →
      PartThere p x k ⊎ IsLow homes layout found p w (pos k)
  of_parts p w x k is other each has = by (register_at w) refl
    where
      over_it : register_at w ≡ None → PartThere p x k ⊎ IsLow homes layout found p w (pos k)
      over_it none =
          let long : length (kids_of p) ≡ length (kids_of x) = kids_long p w other is.made none ∙ ap (λ x. length (kids_of x)) (sym is.tree_is) in
          let f = found_at (parts_take k) (kids_of p) (kids_of x) long has in
          let b = part_beside homes layout found p w x f.p f.x is.made is.tree_is is.shaped other none f.at in
          elim (each_holds Takes (kids_of p) (kids_of x) f.p f.x f.at each b.was f.x k (part_at p w x f.p f.x is other none f.at) f.is) [
            | inl there ↦ inl (record { q = f.p; y = f.x; long = long; at = f.at; there = there })
            | inr low ↦ inr (b.lows (pos k) low)
          ]

      replaced : IsPlace w → PartThere p x k ⊎ IsLow homes layout found p w (pos k)
      replaced (whole code_is) =
          let m = made_by homes layout found (role_of (head_of p).code) (operand_of p found) p w refl other refl is.made in
          let none = short_list (kids_of p) (made_length homes layout found (kids_of p) m.parts m.made ∙
          ap length (sym m.kids_are ∙ no_kids w code_is (nodes.itself is_shaped w is.shaped))) in
          absurd (let e : false ≡ true = sym (ap (list_any (parts_take k)) none) ∙ has in let no : ⊥ = cc in no)
      replaced (lowpart inner code_is are inner_is) =
          let m = made_by homes layout found (role_of (head_of p).code) (operand_of p found) p w refl other refl is.made in
          let one = alone homes layout found (kids_of p) (made_length homes layout found (kids_of p) m.parts m.made ∙ ap length (sym m.kids_are ∙ are)) in
          let q : Rtx = one.0 in
          let parts = front homes layout found (instantiated q found) (each_made [] found) m.parts (sym (ap (λ ps. each_made ps found) one.1) ∙ m.made) in
          let made_q : instantiated q found ≡ Some inner = parts.2 ∙ ap Some (let same : parts.0 ∷ parts.1 ≡ inner ∷ [] = parts.4 ∙ sym m.kids_are ∙ are in cc) in
          let inner_shaped : all_pass is_shaped inner ≡ true =
          (and_parts (all_pass is_shaped inner) true (sym (ap (list_all (all_pass is_shaped)) are) ∙ nodes.within is_shaped w is.shaped)).0 in
          let at_q : AtOnePlace (kids_of p) (inner ∷ []) q inner = subst (λ ps. AtOnePlace ps (inner ∷ []) q inner) (sym one.1) (first q inner [] []) in
          let asked_q = each_asked (IsAsked found) (kids_of p) (inner ∷ []) q inner at_q (asked_kids homes layout found p other is.asked) in
          let leaf_q = each_leaf (kids_of p) (inner ∷ []) q inner at_q (nodes.within is_leaf p is.leaf) in
          let has_q : parts_take k q ≡ true = only (parts_take k q) (sym (ap (list_any (parts_take k)) one.1) ∙ has) in
          inr (λ j b same.
          let low = low_taken homes layout found q inner j made_q (no_kids inner inner_is (nodes.itself is_shaped inner inner_shaped)) asked_q leaf_q
          (ap (λ j. parts_take j q) (let e : j ≡ k = cc in e) ∙ has_q) in
          m.lows j b
          (ap (λ c. any_inside (map (inside_low j) (kids_of p)) c (kids_of w)) (or_right b (is_lowpart w) (ap is_lowpart_code code_is)) ∙
          ap (any_inside (map (inside_low j) (kids_of p)) true) are ∙ ap (λ ps. any_inside (map (inside_low j) ps) true (inner ∷ [])) one.1 ∙
          or_left (inside_low j q true inner) _ low))
        where
          only : (b : Bool) → (b || false) ≡ true → b ≡ true
          only true is = refl
          only false is = is

      by : (o : Option ℕ) → register_at w ≡ o → PartThere p x k ⊎ IsLow homes layout found p w (pos k)
      by None none = over_it none
      by (Some reg) place = replaced (is_place w reg place)

  takes_step : (p : Rtx) → AllByRecursion Takes (kids_of p) → Takes p
  takes_step p each w x k is has = elim (or_cases (has_number k (operand_here (head_of p).code (head_of p).number)) _ (sym (takes_out k p) ∙ has)) [
    | inl mine ↦
        let t = taken_itself homes layout found (head_of p).code p w k refl is.made is.asked mine in
        inl (record {
          q = p;
          y = x;
          at = here p x;
          was = w;
          found_is = sym (ap (operand_numbered found) t.1) ∙ t.0;
          tree_is = is.tree_is;
          place = place_of_taken (head_of p).code k p refl mine t.1;
        })
    | inr others ↦ by (role_of (head_of p).code) refl others
  ]
    where
      over_parts : role_of (head_of p).code ≢ Operand → list_any (parts_take k) (kids_of p) ≡ true → StandsThere homes layout found p x k ⊎ IsLow homes layout found p w (pos k)
      over_parts other others = elim (of_parts p w x k is other each others) [
        | inl part ↦ inl (record {
          q = part.there.q;
          y = part.there.y;
          at = inside p x part.q part.y part.there.q part.there.y other part.long part.at part.there.at;
          was = part.there.was;
          found_is = part.there.found_is;
          tree_is = part.there.tree_is;
          place = part.there.place;
        })
        | inr low ↦ inr low
      ]

      by : (r : Role) → role_of (head_of p).code ≡ r → list_any (parts_take k) (kids_of p) ≡ true →
          StandsThere homes layout found p x k ⊎ IsLow homes layout found p w (pos k)
      by Operand role others =
          let none = empty_list (kids_of p) (ap (λ r. is_leaf_as r (kids_of p)) (sym role) ∙ nodes.itself is_leaf p is.leaf) in
          absurd (let e : false ≡ true = sym (ap (list_any (parts_take k)) none) ∙ others in let no : ⊥ = cc in no)
      by Operator role others = over_parts (λ o. let no : Operator ≡ Operand = sym role ∙ o in let never : ⊥ = cc in never) others
      by Itself role others = over_parts (λ o. let no : Itself ≡ Operand = sym role ∙ o in let never : ⊥ = cc in never) others

  -- what it takes stands there, or in a low part
  pub taken_there : (p : Rtx) → Takes p
  taken_there = induction Takes takes_step

  all_taken : (ps : List Rtx) → AllByRecursion Takes ps
  all_taken [] = tt
  all_taken (p ∷ ps) = (taken_there p, all_taken ps)

  -- and what its parts take
  pub parts_there : (p w x : Rtx) (k : ℕ) → IsAt p w x → role_of (head_of p).code ≢ Operand → list_any (parts_take k) (kids_of p) ≡ true →
      PartThere p x k ⊎ IsLow homes layout found p w (pos k)
  parts_there p w x k is other has = of_parts p w x k is other (all_taken (kids_of p)) has
