-- What stands in the places of a pattern's operands, where the tree that it matches has homes put in.
use Rattle.std.proofs.Common.{◌≡◌, ◌≢◌, ℕ, suc, ◌&&◌, ◌||◌, ◌⊎◌, inl, inr, Bool, true, false, List, [], ◌∷◌, length, map, Option, Some, None, refl, sym, ap, subst, ◌∙◌, arith}
use Rattle.std.proofs.lemmas.Bool.{and_parts, or_left, or_right}
use Rattle.std.proofs.lemmas.Bool.Decides.{Decides-int_eq}
use Rattle.std.specs.List.{list_all}
use Rattle.std.specs.Ordering.{int_eq}
use Rattle.std.specs.Prelude.{ℤ, pos, option_map, option_and_then}
use Rattle.law_operands_fetched.proofs.rtx_tree.Trees.{kids_of-tree}
use Rattle.law_operands_fetched.specs.rtx_tree.Code.{class_of_code}
use Rattle.law_operands_fetched.specs.rtx_tree.Tree.{RtxHead, head_of, kids_of, tree_of}
use Rattle.law_operands_fetched.specs.rtx_tree.declared.class.Class.{Class}
use Rattle.law_operands_fetched.specs.rtx_tree.declared.class.Class.TheVariants as class
use Rattle.law_operands_fetched.specs.rtx_tree.declared.code.Code.{Code}
use Rattle.law_operands_fetched.specs.rtx_tree.declared.code.Code.TheVariants as code
use Rattle.law_operands_fetched.specs.rtx_tree.declared.code.Mode.{Mode}
use Rattle.law_operands_fetched.specs.rtx_tree.declared.tree.Rtx.{Rtx}
use Rattle.law_operands_fetched.specs.rtl_func.Shapes.{class_at, mode_at, number_at, is_bare, fits_row, is_shaped}
use Rattle.law_operands_fetched.proofs.rtl_func.AllPass as nodes
use Rattle.law_operands_fetched.proofs.rtl_func.AllPass.{all_pass}
use Rattle.law_operands_fetched.proofs.md_match.Instantiated.{each_made, made_operand, made_itself, made_operator, made_no_operator}
use Rattle.law_operands_fetched.specs.md_match.Pattern.{Ops, role_of, operand_of, operand_numbered, instantiated}
use Rattle.law_operands_fetched.specs.md_match.declared.role.Role.{Role}
use Rattle.law_operands_fetched.specs.md_match.declared.role.Role.TheVariants.{Operand, Operator, Itself}
use Rattle.law_operands_fetched.specs.assign.declared.home.Home.{Home}
use Rattle.law_operands_fetched.specs.assign.declared.home.HomeOf.{HomeOf}
use Rattle.law_operands_fetched.specs.assign.declared.places.Layout.{Layout}
use Rattle.law_operands_fetched.specs.reload_homes.Homes.{homed, register_numbered, register_by, register_at}
use Rattle.law_operands_fetched.proofs.reload_homes.Rewrites.{homed_over}
use Rattle.law_operands_fetched.specs.reload_operands.Put.{is_lowpart_code, is_lowpart, any_inside, is_inside, inside_low}
use Rattle.law_operands_fetched.proofs.reload_operands.InsideLaws.{inside_operand, inside_operator, inside_itself}
use Rattle.law_operands_fetched.specs.law_operands_replaced.Places.{AtOnePlace, first, later, StandsFor, itself, part}
pub use Rattle.law_reload_moves.proofs.FramedTrees.{row_of}

-- ---- trees within the table

no_kids_by : (k : Class) (mode : Mode) (number : ℕ) (kids : List Rtx) → k ≡ class.Register → fits_row k mode number kids ≡ true → kids ≡ []
no_kids_by class.Register mode number [] is fits = refl
no_kids_by class.Register mode number (a ∷ []) is fits = absurd (let no : ⊥ = cc in no)
no_kids_by class.Register mode number (a ∷ b ∷ []) is fits = absurd (let no : ⊥ = cc in no)
no_kids_by class.Register mode number (a ∷ b ∷ c ∷ []) is fits = absurd (let no : ⊥ = cc in no)
no_kids_by class.Register mode number (a ∷ b ∷ c ∷ d ∷ kids) is fits = absurd (let no : ⊥ = cc in no)
no_kids_by _ mode number kids is fits = absurd (let no : ⊥ = cc in no)

-- a register has no parts
pub no_kids : (x : Rtx) → (head_of x).code ≡ code.Reg → is_shaped x ≡ true → kids_of x ≡ []
no_kids x is shaped = no_kids_by (class_at x) (mode_at x) (number_at x) (kids_of x) (ap class_of_code is) (row_of x shaped)

numbered_code : (c : Code) (n : ℤ) (reg : ℕ) → register_numbered c n ≡ Some reg → c ≡ code.Reg
numbered_code code.Reg n reg is = refl
numbered_code _ n reg is = absurd (let no : ⊥ = cc in no)

-- what homes replace: a register, or the low part of one
pub data IsPlace (x : Rtx) : Type 0 where
  whole : (head_of x).code ≡ code.Reg → IsPlace x
  lowpart : (inner : Rtx) → (head_of x).code ≡ code.Subreg → kids_of x ≡ inner ∷ [] → (head_of inner).code ≡ code.Reg → IsPlace x

place_of : (c : Code) (x : Rtx) (kids : List Rtx) (reg : ℕ) → (head_of x).code ≡ c → kids_of x ≡ kids → register_by c x kids ≡ Some reg → IsPlace x
place_of code.Subreg x (inner ∷ []) reg is are has = lowpart inner is are (numbered_code (head_of inner).code (head_of inner).number reg has)
place_of code.Subreg x [] reg is are has = whole (numbered_code (head_of x).code (head_of x).number reg has)
place_of code.Subreg x (a ∷ b ∷ kids) reg is are has = whole (numbered_code (head_of x).code (head_of x).number reg has)
place_of _ x kids reg is are has = whole (numbered_code (head_of x).code (head_of x).number reg has)

pub is_place : (x : Rtx) (reg : ℕ) → register_at x ≡ Some reg → IsPlace x
is_place x reg has = place_of (head_of x).code x (kids_of x) reg refl refl has

module _ (homes : List HomeOf) (layout : Layout) (found : Ops) where
  abbrev hm : Rtx → Rtx
  hm = homed homes layout

  -- the tree of the operand with a number, with homes put in
  pub record IsFound (number : ℤ) (z : Rtx) : Type 0 where
    pub was : Rtx
    pub found_is : operand_numbered found number ≡ Some was
    pub tree_is : z ≡ hm was

  -- it is inside a low part, of a tree that a pattern matches
  abbrev pub IsLow : Rtx → Rtx → ℤ → Type 0
  IsLow p x number = (k : ℕ) (inside : Bool) → number ≡ pos k → inside_low k p inside x ≡ true

  -- ---- parts

  -- the part of a list beside a pattern
  pub record OneBeside (ps xs : List Rtx) (q y : Rtx) : Type 0 where
    pub was : Rtx
    pub made : instantiated q found ≡ Some was
    pub tree_is : y ≡ hm was
    pub shaped : all_pass is_shaped was ≡ true
    pub lows : (k : ℕ) (inside : Bool) → inside_low k q inside was ≡ true → any_inside (map (inside_low k) ps) inside xs ≡ true

  pub front : (a : Option Rtx) (more : Option (List Rtx)) (xs : List Rtx) → option_and_then (λ x. option_map (λ xs. x ∷ xs) more) a ≡ Some xs →
      (x : Rtx) × (rest : List Rtx) × (a ≡ Some x) × (more ≡ Some rest) × (x ∷ rest ≡ xs)
  front None more xs e = absurd (let none : ⊥ = cc in none)
  front (Some y) None xs e = absurd (let none : ⊥ = cc in none)
  front (Some y) (Some ys) xs e = (y, ys, refl, refl, let same : y ∷ ys ≡ xs = cc in same)

  abbrev shaped_all : List Rtx → Type 0
  shaped_all xs = list_all (all_pass is_shaped) xs ≡ true

  pub one_beside : (ps ys : List Rtx) (q y : Rtx) → AtOnePlace ps ys q y → (xs : List Rtx) → each_made ps found ≡ Some xs → ys ≡ map hm xs → shaped_all xs →
      OneBeside ps xs q y
  one_beside _ _ _ _ (first p y ps ys) xs made are shaped =
      let parts = front (instantiated p found) (each_made ps found) xs made in
      subst (λ xs. (y ∷ ys ≡ map hm xs) → shaped_all xs → OneBeside (p ∷ ps) xs p y) parts.4
      (λ are shaped. let here : y ≡ hm parts.0 = cc in record {
        was = parts.0;
        made = parts.2;
        tree_is = here;
        shaped = (and_parts (all_pass is_shaped parts.0) _ shaped).0;
        lows = λ k inside low. or_left (inside_low k p inside parts.0) _ low;
      }) are shaped
  one_beside _ _ _ _ (later p y q z ps ys more) xs made are shaped =
      let parts = front (instantiated q found) (each_made ps found) xs made in
      subst (λ xs. (z ∷ ys ≡ map hm xs) → shaped_all xs → OneBeside (q ∷ ps) xs p y) parts.4
      (λ are shaped. let rest : ys ≡ map hm parts.1 = cc in
      let one = one_beside ps ys p y more parts.1 parts.3 rest (and_parts (all_pass is_shaped parts.0) _ shaped).1 in record {
        was = one.was;
        made = one.made;
        tree_is = one.tree_is;
        shaped = one.shaped;
        lows = λ k inside low. or_right (inside_low k q inside parts.0) _ (one.lows k inside low);
      }) are shaped

  -- ---- a tree that is no operand

  -- what it is made of
  pub record IsMade (p w : Rtx) : Type 0 where
    pub parts : List Rtx
    pub made : each_made (kids_of p) found ≡ Some parts
    pub kids_are : kids_of w ≡ parts
    -- one of its parts is inside a low part
    pub lows : (k : ℕ) (inside : Bool) → any_inside (map (inside_low k) (kids_of p)) (inside || is_lowpart w) (kids_of w) ≡ true → inside_low k p inside w ≡ true

  pub over_made : (h : RtxHead) (o : Option (List Rtx)) (w : Rtx) → option_map (tree_of h) o ≡ Some w → (parts : List Rtx) × (o ≡ Some parts) × (kids_of w ≡ parts)
  over_made h None w is = absurd (let none : ⊥ = cc in none)
  over_made h (Some parts) w is = (parts, refl, let same : tree_of h parts ≡ w = cc in ap kids_of (sym same) ∙ kids_of-tree h parts)

  pub made_by : (r : Role) (o : Option Rtx) (p w : Rtx) → role_of (head_of p).code ≡ r → r ≢ Operand → operand_of p found ≡ o → instantiated p found ≡ Some w → IsMade p w
  made_by Operand o p w is other at made = absurd (other refl)
  made_by Operator None p w is other at made = absurd (let e : ◌≡◌ {A = Option Rtx} None (Some w) = sym (made_no_operator p found is at) ∙ made in let none : ⊥ = cc in none)
  made_by Operator (Some x) p w is other at made =
      let parts = over_made (head_of x) (each_made (kids_of p) found) w (sym (made_operator p found x is at) ∙ made) in record {
        parts = parts.0;
        made = parts.1;
        kids_are = parts.2;
        lows = λ k inside low. inside_operator k p inside w is ∙ or_right (is_inside k (head_of p).number inside) _ low;
      }
  made_by Itself o p w is other at made =
      let parts = over_made (head_of p) (each_made (kids_of p) found) w (sym (made_itself p found is) ∙ made) in record {
        parts = parts.0;
        made = parts.1;
        kids_are = parts.2;
        lows = λ k inside low. inside_itself k p inside w is ∙ low;
      }

  -- ---- a place that homes replace

  pub one_part : (p : Rtx) (ps ys : List Rtx) (q y : Rtx) → AtOnePlace ps ys q y → ps ≡ p ∷ [] → p ≡ q
  one_part p _ _ _ _ (first q y ps ys) is = let same : p ≡ q = cc in same
  one_part p _ _ _ _ (later q y r z ps ys more) is = let nothing : ps ≡ [] = cc in absurd (by ps ys q y more nothing)
    where
      by : (ps ys : List Rtx) (q y : Rtx) → AtOnePlace ps ys q y → ps ≡ [] → ⊥
      by _ _ _ _ (first q y ps ys) is = let no : ⊥ = cc in no
      by _ _ _ _ (later q y r z ps ys more) is = let no : ⊥ = cc in no

  none_there : (ps ys : List Rtx) (q y : Rtx) → AtOnePlace ps ys q y → length ps ≡ 0 → ⊥
  none_there _ _ _ _ (first q y ps ys) is = omega (arith, is)
  none_there _ _ _ _ (later q y r z ps ys more) is = omega (arith, is)

  pub made_length : (ps xs : List Rtx) → each_made ps found ≡ Some xs → length ps ≡ length xs
  made_length [] xs is = let none : [] ≡ xs = cc in ap length none
  made_length (p ∷ ps) xs is =
      let parts = front (instantiated p found) (each_made ps found) xs is in
      ap suc (made_length ps parts.1 parts.3) ∙ ap length parts.4

  is_at : (k : ℕ) (number : ℤ) → number ≡ pos k → is_inside k number true ≡ true
  is_at k number is = (Decides-int_eq number (pos k)).1 is

  -- an operand that stands for a register itself is inside what is around that
  pub register_low : (q inner y : Rtx) (number : ℤ) (z : Rtx) → StandsFor q y number z → instantiated q found ≡ Some inner → kids_of inner ≡ [] →
      (k : ℕ) → number ≡ pos k → inside_low k q true inner ≡ true
  register_low _ inner _ _ _ (itself q y is) made none k same = inside_operand k q true inner is ∙ is_at k (head_of q).number same
  register_low _ inner _ _ _ (part q y r t z number other as_many at more) made none k same =
      let parts = made_by (role_of (head_of q).code) (operand_of q found) q inner refl other refl made in
      let long = made_length (kids_of q) parts.parts parts.made in
      absurd (none_there (kids_of q) (kids_of y) r t at (long ∙ ap length (sym parts.kids_are ∙ none)))

  pub alone : (ps : List Rtx) → length ps ≡ 1 → (p : Rtx) × (ps ≡ p ∷ [])
  alone [] is = absurd (omega (arith, is))
  alone (p ∷ []) is = (p, refl)
  alone (p ∷ q ∷ ps) is = absurd (omega (arith, is))

  -- ---- all places

  -- What stands for an operand is its tree with homes put in, or stands inside a low part.
  pub places : (p x : Rtx) (number : ℤ) (z : Rtx) → StandsFor p x number z → (w : Rtx) → instantiated p found ≡ Some w → x ≡ hm w →
      all_pass is_shaped w ≡ true → IsFound number z ⊎ IsLow p w number
  places _ _ _ _ (itself p x is) w made homed_is shaped =
      inl (record { was = w; found_is = sym (made_operand p found is) ∙ made; tree_is = homed_is })
  places _ _ _ _ (part p x q y z number other as_many at more) w made homed_is shaped =
      let m = made_by (role_of (head_of p).code) (operand_of p found) p w refl other refl made in
      by (register_at w) refl m (λ one. places q y number z more one.was one.made one.tree_is one.shaped)
    where
      Rest : IsMade p w → Type 0
      Rest m = (one : OneBeside (kids_of p) m.parts q y) → IsFound number z ⊎ IsLow q one.was number

      over_it : (m : IsMade p w) → Rest m → register_at w ≡ None → IsFound number z ⊎ IsLow p w number
      over_it m rest none =
          let kids : kids_of x ≡ map hm m.parts =
          ap kids_of homed_is ∙ ap kids_of (homed_over homes layout w none) ∙ kids_of-tree (head_of w) (map hm (kids_of w)) ∙ ap (map hm) m.kids_are in
          let one = one_beside (kids_of p) (kids_of x) q y at m.parts m.made kids
          (ap (list_all (all_pass is_shaped)) (sym m.kids_are) ∙ nodes.within is_shaped w shaped) in
          elim (rest one) [
            | inl is ↦ inl is
            | inr low ↦ inr (λ k inside same. m.lows k inside
                (ap (any_inside (map (inside_low k) (kids_of p)) (inside || is_lowpart w)) m.kids_are ∙
                one.lows k (inside || is_lowpart w) (low k (inside || is_lowpart w) same)))
          ]

      replaced : IsMade p w → IsPlace w → IsFound number z ⊎ IsLow p w number
      replaced m (whole is) =
          absurd (none_there (kids_of p) (kids_of x) q y at
          (made_length (kids_of p) m.parts m.made ∙ ap length (sym m.kids_are ∙ no_kids w is (nodes.itself is_shaped w shaped))))
      replaced m (lowpart inner is are inner_is) = inr (λ k inside same.
          let long : length (kids_of p) ≡ 1 = made_length (kids_of p) m.parts m.made ∙ ap length (sym m.kids_are ∙ are) in
          let one = alone (kids_of p) long in
          let first_is : one.0 ≡ q = one_part one.0 (kids_of p) (kids_of x) q y at one.1 in
          let parts = front (instantiated one.0 found) (each_made [] found) m.parts (sym (ap (λ ps. each_made ps found) one.1) ∙ m.made) in
          let inner_made : instantiated q found ≡ Some inner =
          ap (λ q. instantiated q found) (sym first_is) ∙ parts.2 ∙ ap Some (let same : parts.0 ∷ parts.1 ≡ inner ∷ [] = parts.4 ∙ sym m.kids_are ∙ are in cc) in
          let inner_shaped : all_pass is_shaped inner ≡ true =
          (and_parts (all_pass is_shaped inner) true (sym (ap (list_all (all_pass is_shaped)) are) ∙ nodes.within is_shaped w shaped)).0 in
          let low = register_low q inner y number z more inner_made (no_kids inner inner_is (nodes.itself is_shaped inner inner_shaped)) k same in
          m.lows k inside
          (ap (λ b. any_inside (map (inside_low k) (kids_of p)) b (kids_of w)) (or_right inside (is_lowpart w) (ap is_lowpart_code is)) ∙
          ap (any_inside (map (inside_low k) (kids_of p)) true) are ∙
          ap (λ ps. any_inside (map (inside_low k) ps) true (inner ∷ [])) (one.1 ∙ ap (λ q. q ∷ []) first_is) ∙
          or_left (inside_low k q true inner) _ low))

      by : (o : Option ℕ) → register_at w ≡ o → (m : IsMade p w) → Rest m → IsFound number z ⊎ IsLow p w number
      by None none m rest = over_it m rest none
      by (Some reg) has m rest = replaced m (is_place w reg has)
