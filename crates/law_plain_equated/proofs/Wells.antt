-- Trees that may stand in instructions which can be compared, by their parts.
use Rattle.std.proofs.Common.{◌≡◌, ℕ, Bool, true, not, ◌&&◌, ◌||◌, List, [], ◌∷◌, sym, ap, subst, ◌∙◌, refl}
use Rattle.std.proofs.lemmas.Bool.{and_from, and_parts}
use Rattle.std.specs.Int.{cast_unsigned, w64}
use Rattle.std.specs.List.{list_all, AllByRecursion}
use Rattle.rtx_tree.specs.Code.{class_of_code}
use Rattle.rtx_tree.specs.declared.tree.Rtx.{Rtx, out-Rtx, out-roll-Rtx}
use Rattle.rtx_tree.specs.Tree.{RtxHead, head_of, kids_of, tree_of}
use Rattle.rtx_tree.proofs.Trees.{kids_of-tree}
use Rattle.rtl_func.specs.Effects.{holds_simple, holds_simple_by}
use Rattle.rtl_func.specs.Kinds.{is_plain_tree, is_jump_by}
use Rattle.rtl_func.specs.Shapes.{is_shaped, is_bare, fits_row, is_call_class}
use Rattle.rtl_func.proofs.AllPass.{all_pass, pass_out, within}
use Rattle.sym_insns.specs.Shape.{is_natural, all_natural}
use Rattle.sym_insns.proofs.Shapes.{natural_out}

-- no tree within is a jump or a call, each has the parts of its code, registers have numbers, and
-- parallels hold simple effects
pub record IsWell (x : Rtx) : Type 0 where
  pub plain : all_pass is_plain_tree x ≡ true
  pub shaped : all_pass is_shaped x ≡ true
  pub natural : all_natural x ≡ true
  pub simple : all_pass holds_simple x ≡ true

-- ---- a tree over well-formed parts

picked : (test : Rtx → Bool) → ((x : Rtx) → IsWell x → test x ≡ true) → (kids : List Rtx) → AllByRecursion IsWell kids → list_all test kids ≡ true
picked test pick [] all = refl
picked test pick (k ∷ kids) all = and_from (test k) (list_all test kids) (pick k all.0) (picked test pick kids all.1)

passes : (test : Rtx → Bool) (h : RtxHead) (kids : List Rtx) → test (tree_of h kids) ≡ true → list_all (all_pass test) kids ≡ true → all_pass test (tree_of h kids) ≡ true
passes test h kids own rest =
    pass_out test (tree_of h kids) ∙ and_from (test (tree_of h kids)) (list_all (all_pass test) (kids_of (tree_of h kids))) own (ap (list_all (all_pass test)) (kids_of-tree h kids) ∙ rest)

-- what is asked of a tree itself
pub record IsWellHere (h : RtxHead) (kids : List Rtx) : Type 0 where
  pub plain : not (is_jump_by (class_of_code h.code) kids || is_call_class (class_of_code h.code)) ≡ true
  pub bare : is_bare (class_of_code h.code) (cast_unsigned w64 h.number) h.name ≡ true
  pub fits : fits_row (class_of_code h.code) h.mode (cast_unsigned w64 h.number) kids ≡ true
  pub natural : is_natural h.code h.number ≡ true
  pub simple : holds_simple_by (class_of_code h.code) kids ≡ true

pub well_tree : (h : RtxHead) (kids : List Rtx) → IsWellHere h kids → AllByRecursion IsWell kids → IsWell (tree_of h kids)
well_tree h kids here all =
    let x = tree_of h kids in
    record {
      plain = passes is_plain_tree h kids (ap (λ o. not (is_jump_by (class_of_code o.code) o.kids || is_call_class (class_of_code o.code))) (out-roll-Rtx _) ∙ here.plain) (picked (all_pass is_plain_tree) (λ k w. w.plain) kids all);
      shaped = passes is_shaped h kids
          (ap (λ o. is_bare (class_of_code o.code) (cast_unsigned w64 o.number) o.name && fits_row (class_of_code o.code) o.mode (cast_unsigned w64 o.number) o.kids) (out-roll-Rtx _) ∙
          and_from (is_bare (class_of_code h.code) (cast_unsigned w64 h.number) h.name) (fits_row (class_of_code h.code) h.mode (cast_unsigned w64 h.number) kids) here.bare here.fits)
          (picked (all_pass is_shaped) (λ k w. w.shaped) kids all);
      natural = natural_out x ∙ and_from (is_natural (head_of x).code (head_of x).number) (list_all all_natural (kids_of x)) (ap (λ o. is_natural o.code o.number) (out-roll-Rtx _) ∙ here.natural)
          (ap (list_all all_natural) (kids_of-tree h kids) ∙ picked all_natural (λ k w. w.natural) kids all);
      simple = passes holds_simple h kids (ap (λ o. holds_simple_by (class_of_code o.code) o.kids) (out-roll-Rtx _) ∙ here.simple) (picked (all_pass holds_simple) (λ k w. w.simple) kids all);
    }

-- ---- the parts of a well-formed tree

gathered : (kids : List Rtx) → list_all (all_pass is_plain_tree) kids ≡ true → list_all (all_pass is_shaped) kids ≡ true → list_all all_natural kids ≡ true → list_all (all_pass holds_simple) kids ≡ true → AllByRecursion IsWell kids
gathered [] plain shaped natural simple = tt
gathered (k ∷ kids) plain shaped natural simple =
    let p = and_parts (all_pass is_plain_tree k) (list_all (all_pass is_plain_tree) kids) plain in
    let s = and_parts (all_pass is_shaped k) (list_all (all_pass is_shaped) kids) shaped in
    let n = and_parts (all_natural k) (list_all all_natural kids) natural in
    let e = and_parts (all_pass holds_simple k) (list_all (all_pass holds_simple) kids) simple in
    (record { plain = p.0; shaped = s.0; natural = n.0; simple = e.0 }, gathered kids p.1 s.1 n.1 e.1)

pub well_parts : (x : Rtx) (kids : List Rtx) → kids_of x ≡ kids → IsWell x → AllByRecursion IsWell kids
well_parts x kids are w =
    subst (λ ks. AllByRecursion IsWell ks) are
    (gathered (kids_of x) (within is_plain_tree x w.plain) (within is_shaped x w.shaped)
    (and_parts (is_natural (head_of x).code (head_of x).number) (list_all all_natural (kids_of x)) (sym (natural_out x) ∙ w.natural)).1 (within holds_simple x w.simple))

-- ---- the same of trees in which a jump may stand

pub record IsSound (x : Rtx) : Type 0 where
  pub shaped : all_pass is_shaped x ≡ true
  pub natural : all_natural x ≡ true
  pub simple : all_pass holds_simple x ≡ true

abbrev pub sound_of : (x : Rtx) → IsWell x → IsSound x
sound_of x w = record { shaped = w.shaped; natural = w.natural; simple = w.simple }

picked_sound : (test : Rtx → Bool) → ((x : Rtx) → IsSound x → test x ≡ true) → (kids : List Rtx) → AllByRecursion IsSound kids → list_all test kids ≡ true
picked_sound test pick [] all = refl
picked_sound test pick (k ∷ kids) all = and_from (test k) (list_all test kids) (pick k all.0) (picked_sound test pick kids all.1)

pub record IsSoundHere (h : RtxHead) (kids : List Rtx) : Type 0 where
  pub bare : is_bare (class_of_code h.code) (cast_unsigned w64 h.number) h.name ≡ true
  pub fits : fits_row (class_of_code h.code) h.mode (cast_unsigned w64 h.number) kids ≡ true
  pub natural : is_natural h.code h.number ≡ true
  pub simple : holds_simple_by (class_of_code h.code) kids ≡ true

pub sound_tree : (h : RtxHead) (kids : List Rtx) → IsSoundHere h kids → AllByRecursion IsSound kids → IsSound (tree_of h kids)
sound_tree h kids here all =
    let x = tree_of h kids in
    record {
      shaped = passes is_shaped h kids
          (ap (λ o. is_bare (class_of_code o.code) (cast_unsigned w64 o.number) o.name && fits_row (class_of_code o.code) o.mode (cast_unsigned w64 o.number) o.kids) (out-roll-Rtx _) ∙
          and_from (is_bare (class_of_code h.code) (cast_unsigned w64 h.number) h.name) (fits_row (class_of_code h.code) h.mode (cast_unsigned w64 h.number) kids) here.bare here.fits)
          (picked_sound (all_pass is_shaped) (λ k w. w.shaped) kids all);
      natural = natural_out x ∙ and_from (is_natural (head_of x).code (head_of x).number) (list_all all_natural (kids_of x)) (ap (λ o. is_natural o.code o.number) (out-roll-Rtx _) ∙ here.natural)
          (ap (list_all all_natural) (kids_of-tree h kids) ∙ picked_sound all_natural (λ k w. w.natural) kids all);
      simple = passes holds_simple h kids (ap (λ o. holds_simple_by (class_of_code o.code) o.kids) (out-roll-Rtx _) ∙ here.simple) (picked_sound (all_pass holds_simple) (λ k w. w.simple) kids all);
    }

gathered_sound : (kids : List Rtx) → list_all (all_pass is_shaped) kids ≡ true → list_all all_natural kids ≡ true → list_all (all_pass holds_simple) kids ≡ true → AllByRecursion IsSound kids
gathered_sound [] shaped natural simple = tt
gathered_sound (k ∷ kids) shaped natural simple =
    let s = and_parts (all_pass is_shaped k) (list_all (all_pass is_shaped) kids) shaped in
    let n = and_parts (all_natural k) (list_all all_natural kids) natural in
    let e = and_parts (all_pass holds_simple k) (list_all (all_pass holds_simple) kids) simple in
    (record { shaped = s.0; natural = n.0; simple = e.0 }, gathered_sound kids s.1 n.1 e.1)

pub sound_parts : (x : Rtx) (kids : List Rtx) → kids_of x ≡ kids → IsSound x → AllByRecursion IsSound kids
sound_parts x kids are w =
    subst (λ ks. AllByRecursion IsSound ks) are
    (gathered_sound (kids_of x) (within is_shaped x w.shaped) (and_parts (is_natural (head_of x).code (head_of x).number) (list_all all_natural (kids_of x)) (sym (natural_out x) ∙ w.natural)).1 (within holds_simple x w.simple))
