-- Which registers stand in a tree with homes put in: sp, and the homes of those that stand in the tree.
use Rattle.std.proofs.Common.{◌≡◌, ℕ, ◌||◌, ◌⊎◌, inl, inr, Bool, true, false, List, [], ◌∷◌, map, Option, Some, None, refl, sym, ap, subst, ◌∙◌}
use Rattle.std.proofs.lemmas.Bool.{false≢true, and_parts, or_cases, or_left, or_right}
use Rattle.std.proofs.lemmas.Bool.Decides.{Decides-int_eq}
use Rattle.std.specs.List.{AllByRecursion, list_all, list_any}
use Rattle.std.specs.Int.{int_wrap, w64}
use Rattle.std.specs.Ordering.{int_eq}
use Rattle.std.specs.Prelude.{ℤ, pos, ◌+ℤ◌, if◌then◌else◌}
use Rattle.rtx_tree.specs.Tree.{head_of, kids_of, tree_of, node_of, reg_of, const_of, is_reg_numbered, mentions_reg}
use Rattle.rtx_tree.specs.declared.code.Code.{Code}
use Rattle.rtx_tree.specs.declared.code.Code.TheVariants.{Reg, Plus, Mem}
use Rattle.rtx_tree.specs.declared.code.Mode.{Mode}
use Rattle.rtx_tree.specs.declared.code.Mode.TheVariants.{DI}
use Rattle.rtx_tree.specs.declared.tree.Rtx.{Rtx, out-roll-Rtx}
use Rattle.rtx_tree.specs.declared.tree.Rtx.TheOpen.{Rtx-F}
use Rattle.rtx_tree.proofs.Trees.{mentions_out}
use Rattle.assign.specs.declared.home.Home.{Home}
use Rattle.assign.specs.declared.home.Home.TheVariants.{Hard, Slot}
use Rattle.assign.specs.declared.home.HomeOf.{HomeOf}
use Rattle.assign.specs.declared.places.Layout.{Layout}
use Rattle.reload_homes.specs.FrameRefs.{from_sp, frame_offset, framed}
use Rattle.reload_homes.specs.Homes.{home_of, slot_offset, slot_address, place_by, place_for, register_in}
use Rattle.reload_homes.proofs.Rewrites.{homed_register}
use Rattle.law_homes.specs.Placed.{all_sized, placed}
use Rattle.law_homes.proofs.Placing.{Machines, AreHomed, parts_register, placed_reference, placed_register, placed_over, which, no_register, register_itself, is_vars, mentions_itself}
use Rattle.law_homes.proofs.Trees.{tree_induction, sized_here, sized_kids, mentions_kid}

-- ---- small trees

same_number : (a b : ℕ) → is_reg_numbered Reg (pos a) b ≡ true → a ≡ b
same_number a b is = let same = (Decides-int_eq (pos a) (pos b)).0 is in let e : a ≡ b = cc in e

one_kid : (a : Bool) → a || false ≡ true → a ≡ true
one_kid true is = refl
one_kid false is = absurd (false≢true is)

in_reg : (mode : Mode) (a r : ℕ) → mentions_reg r (reg_of mode a) ≡ true → a ≡ r
in_reg mode a r has = same_number a r (one_kid (is_reg_numbered Reg (pos a) r)
    (sym (mentions_out r (reg_of mode a) ∙ ap (λ (o : Rtx-F Rtx). is_reg_numbered o.code o.number r || list_any (mentions_reg r) o.kids) (out-roll-Rtx _)) ∙ has))

in_const : (n : ℤ) (r : ℕ) → mentions_reg r (const_of n) ≡ true → ⊥
in_const n r has = false≢true
    (sym (mentions_out r (const_of n) ∙ ap (λ (o : Rtx-F Rtx). is_reg_numbered o.code o.number r || list_any (mentions_reg r) o.kids) (out-roll-Rtx _)) ∙ has)

in_sum : (mode : Mode) (n : ℤ) (r : ℕ) → mentions_reg r (node_of Plus mode (reg_of mode 2 ∷ const_of n ∷ [])) ≡ true → 2 ≡ r
in_sum mode n r has = elim (or_cases (mentions_reg r (reg_of mode 2)) (mentions_reg r (const_of n) || false)
    (sym (mentions_out r (node_of Plus mode (reg_of mode 2 ∷ const_of n ∷ []))
    ∙ ap (λ (o : Rtx-F Rtx). is_reg_numbered o.code o.number r || list_any (mentions_reg r) o.kids) (out-roll-Rtx _)) ∙ has)) [
      | inl sp ↦ in_reg mode 2 r sp
      | inr constant ↦ absurd (in_const n r (one_kid (mentions_reg r (const_of n)) constant))
    ]

in_from_sp : (mode : Mode) (n : ℤ) (r : ℕ) → mentions_reg r (from_sp mode n) ≡ true → 2 ≡ r
in_from_sp mode n r = by (int_eq (int_wrap w64 n) (pos 0))
  where
    by : (b : Bool) → mentions_reg r (if b then reg_of mode 2 else node_of Plus mode (reg_of mode 2 ∷ const_of (int_wrap w64 n) ∷ [])) ≡ true → 2 ≡ r
    by true has = in_reg mode 2 r has
    by false has = in_sum mode (int_wrap w64 n) r has

-- a kid that has the register
some_kid : (r : ℕ) (put : Rtx → Rtx) (Q : Type 0) (P : Rtx → Type 0) (kids : List Rtx) → AllByRecursion P kids →
    ((x : Rtx) → P x → list_any (λ y. mentions_reg r y) (put x ∷ []) ≡ true → Q) → list_any (mentions_reg r) (map put kids) ≡ true → Q
some_kid r put Q P [] all each has = absurd (false≢true has)
some_kid r put Q P (x ∷ kids) all each has = elim (or_cases (mentions_reg r (put x)) (list_any (mentions_reg r) (map put kids)) has) [
  | inl here ↦ each x all.0 (or_left (mentions_reg r (put x)) false here)
  | inr more ↦ some_kid r put Q P kids all.1 each more
]

module _ (homes : List HomeOf) (layout : Layout) (m : Machines) (are : AreHomed homes layout m) where
  abbrev put : Rtx → Rtx
  put = placed homes layout

  -- sp, or the home of a register that has one
  abbrev pub IsPut : ℕ → Type 0
  IsPut r = (2 ≡ r) ⊎ ((reg : ℕ) × m.Named reg × (home_of homes reg ≡ Hard r))

  abbrev AreNamed : Rtx → Type 0
  AreNamed x = (reg : ℕ) → mentions_reg reg x ≡ true → (reg ≡ 32) ⊎ m.Named reg

  -- what stands for a register
  in_place : (mode : Mode) (reg r : ℕ) (home : Home) → home_of homes reg ≡ home → m.Named reg → mentions_reg r (place_by layout mode reg home) ≡ true → IsPut r
  in_place mode reg r (Hard hard) home named has = inr (reg, named, home ∙ ap Hard (in_reg mode hard r has))
  in_place mode reg r Slot home named has = inl (in_from_sp DI (pos (slot_offset layout reg)) r (one_kid (mentions_reg r (slot_address layout reg))
      (sym (mentions_out r (node_of Mem mode (slot_address layout reg ∷ []))
      ∙ ap (λ (o : Rtx-F Rtx). is_reg_numbered o.code o.number r || list_any (mentions_reg r) o.kids) (out-roll-Rtx _)) ∙ has)))

  -- in whatever mode
  any_mode : (mode other : Mode) (reg r : ℕ) (home : Home) → mentions_reg r (place_by layout mode reg home) ≡ mentions_reg r (place_by layout other reg home)
  any_mode mode other reg r (Hard hard) =
      mentions_out r (reg_of mode hard) ∙ ap (λ (o : Rtx-F Rtx). is_reg_numbered o.code o.number r || list_any (mentions_reg r) o.kids) (out-roll-Rtx _)
      ∙ sym (mentions_out r (reg_of other hard) ∙ ap (λ (o : Rtx-F Rtx). is_reg_numbered o.code o.number r || list_any (mentions_reg r) o.kids) (out-roll-Rtx _))
  any_mode mode other reg r Slot =
      mentions_out r (place_by layout mode reg Slot) ∙ ap (λ (o : Rtx-F Rtx). is_reg_numbered o.code o.number r || list_any (mentions_reg r) o.kids) (out-roll-Rtx _)
      ∙ sym (mentions_out r (place_by layout other reg Slot) ∙ ap (λ (o : Rtx-F Rtx). is_reg_numbered o.code o.number r || list_any (mentions_reg r) o.kids) (out-roll-Rtx _))

  abbrev P : Rtx → Type 0
  P x = all_sized x ≡ true → AreNamed x → (r : ℕ) → mentions_reg r (put x) ≡ true → IsPut r

  -- a kid has the property wherever the whole is named
  abbrev Q : ℕ → Rtx → Type 0
  Q r x = mentions_reg r (put x) ≡ true → IsPut r

  kids_put : (kids : List Rtx) → AllByRecursion P kids → list_all all_sized kids ≡ true →
      ((reg : ℕ) → list_any (mentions_reg reg) kids ≡ true → (reg ≡ 32) ⊎ m.Named reg) → (r : ℕ) → AllByRecursion (Q r) kids
  kids_put [] all sized named r = tt
  kids_put (x ∷ kids) all sized named r =
      let both = and_parts (all_sized x) (list_all all_sized kids) sized in (
        all.0 both.0 (λ reg has. named reg (or_left (mentions_reg reg x) _ has)) r,
        kids_put kids all.1 both.1 (λ reg has. named reg (or_right (mentions_reg reg x) _ has)) r,
      )

  over_put : (x : Rtx) (r : ℕ) → ((head_of x).code ≡ Reg → ⊥) → put x ≡ tree_of (head_of x) (map put (kids_of x)) → AllByRecursion (Q r) (kids_of x) → Q r x
  over_put x r none becomes kids has =
      let open_is : mentions_reg r (put x) ≡ (is_reg_numbered (head_of x).code (head_of x).number r || list_any (mentions_reg r) (map put (kids_of x))) =
      ap (mentions_reg r) becomes ∙ mentions_out r (tree_of (head_of x) (map put (kids_of x)))
      ∙ ap (λ (o : Rtx-F Rtx). is_reg_numbered o.code o.number r || list_any (mentions_reg r) o.kids) (out-roll-Rtx _) in
      elim (or_cases (is_reg_numbered (head_of x).code (head_of x).number r) (list_any (mentions_reg r) (map put (kids_of x))) (sym open_is ∙ has)) [
        | inl itself ↦ absurd (none (code_of (head_of x).code (head_of x).number itself))
        | inr kid ↦ some_kid r put (IsPut r) (Q r) (kids_of x) kids (λ y holds there. holds (one_kid (mentions_reg r (put y)) there)) kid
      ]
    where
      code_of : (c : Code) (n : ℤ) → is_reg_numbered c n r ≡ true → c ≡ Reg
      code_of Reg n is = refl
      code_of _ n is = absurd (false≢true is)

  -- a register that stands by itself has a home
  register_named : (x : Rtx) (reg : ℕ) → frame_offset x ≡ None → (head_of x).code ≡ Reg → (head_of x).number ≡ pos reg → AreNamed x → m.Named reg
  register_named x reg none is number named = elim (named reg (mentions_itself x reg is number)) [
    | inl vars ↦ absurd (let no : Some (pos 0) ≡ None = sym (is_vars homes layout m are x is (number ∙ ap pos vars)) ∙ none in let never : ⊥ = cc in never)
    | inr has ↦ has
  ]

  low_put : (x inner : Rtx) (reg r : ℕ) → kids_of x ≡ inner ∷ [] → register_in (framed layout.size inner) ≡ Some reg →
      put x ≡ place_for homes layout (head_of x).mode reg → AllByRecursion (Q r) (kids_of x) → Q r x
  low_put x inner reg r is has_reg becomes kids has =
      let inside : put inner ≡ place_for homes layout (head_of (framed layout.size inner)).mode reg =
      homed_register homes layout (framed layout.size inner) reg (register_itself (framed layout.size inner) reg has_reg) in
      (subst (AllByRecursion (Q r)) is kids).0
      (ap (mentions_reg r) inside
      ∙ (any_mode (head_of (framed layout.size inner)).mode (head_of x).mode reg r (home_of homes reg)
      ∙ (sym (ap (mentions_reg r) becomes) ∙ has)))

  found_put : (x : Rtx) (reg r : ℕ) → frame_offset x ≡ None → AreNamed x → AllByRecursion (Q r) (kids_of x) →
      parts_register (head_of x).code (head_of x).number (map (framed layout.size) (kids_of x)) ≡ Some reg → Q r x
  found_put x reg r none named kids is = elim (which homes layout m are (head_of x).code (head_of x).number (kids_of x) reg is) [
    | inl here ↦ λ has. in_place (head_of x).mode reg r (home_of homes reg) refl (register_named x reg none here.0 here.1 named)
        (sym (ap (mentions_reg r) (placed_register homes layout m are x reg none is)) ∙ has)
    | inr low ↦ low_put x low.0 reg r low.2 low.3 (placed_register homes layout m are x reg none is) kids
  ]

  step : (x : Rtx) → AllByRecursion P (kids_of x) → P x
  step x all sized named r = by (frame_offset x) (parts_register (head_of x).code (head_of x).number (map (framed layout.size) (kids_of x))) refl refl
    where
      kids : AllByRecursion (Q r) (kids_of x)
      kids = kids_put (kids_of x) all (sized_kids x sized) (λ reg has. named reg (mentions_kid x reg has)) r

      by : (offset : Option ℤ) (register : Option ℕ) → frame_offset x ≡ offset →
          parts_register (head_of x).code (head_of x).number (map (framed layout.size) (kids_of x)) ≡ register → Q r x
      by (Some n) register is reg = λ has. inl (in_from_sp (head_of x).mode (pos layout.size +ℤ n) r (sym (ap (mentions_reg r) (placed_reference homes layout m are x n is)) ∙ has))
      by None (Some reg) none is = found_put x reg r none named kids is
      by None None none is = over_put x r (no_register homes layout m are (head_of x).code (head_of x).number (map (framed layout.size) (kids_of x)) is (sized_here x sized))
          (placed_over homes layout m are x none is) kids

  -- each register that stands in a tree with homes put in is sp, or the home of one that has a home
  pub puts_homes : (x : Rtx) → all_sized x ≡ true → AreNamed x → (r : ℕ) → mentions_reg r (put x) ≡ true → IsPut r
  puts_homes = tree_induction P step
