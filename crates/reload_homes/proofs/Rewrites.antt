-- A rewritten tree, by its rewritten parts.
use Rattle.std.proofs.Common.{◌≡◌, ◌≤◌, ℕ, ℤ, List, [], ◌∷◌, length, map, take, Option, Some, None, refl, sym, ap, subst, ◌∙◌}
use Rattle.std.specs.Prelude.{pos, ◌+ℤ◌}
use Rattle.std.specs.Option.{option_map_or}
use Rattle.std.proofs.lemmas.List.{take_all}
use Rattle.rtx_tree.specs.declared.tree.Rtx.{Rtx, roll-Rtx}
use Rattle.rtx_tree.specs.declared.tree.Rtx.TheOpen.{Rtx-F}
use Rattle.rtx_tree.specs.declared.tree.Rtx.TheFolds.{fold-Rtx, fold_out-Rtx, fold-roll-Rtx, ind-Rtx}
use Rattle.rtx_tree.specs.Tree.{head_of, kids_of, tree_of}
use Rattle.assign.specs.declared.home.HomeOf.{HomeOf}
use Rattle.assign.specs.declared.places.Layout.{Layout}
use Rattle.reload_homes.specs.Rewritten.{Changed, Rule, changed_step, rewritten}
use Rattle.reload_homes.specs.FrameRefs.{frame_offset, from_sp, framed}
use Rattle.reload_homes.specs.Homes.{register_at, place_for, homed}

-- ---- the fold sees the tree itself

abbrev was_of : Rule → Rtx → Rtx
was_of rule x = (fold-Rtx Changed (changed_step rule) x).was

map_was : (rule : Rule) (kids : List Rtx) → map (λ (k : Changed). k.was) (map (fold-Rtx Changed (changed_step rule)) kids) ≡ map (was_of rule) kids
map_was rule [] = refl
map_was rule (k ∷ kids) = ap (λ rest. was_of rule k ∷ rest) (map_was rule kids)

all_was : (rule : Rule) (kids : List ((x : Rtx) × (was_of rule x ≡ x))) → map (was_of rule) (map (λ e. e.0) kids) ≡ map (λ e. e.0) kids
all_was rule [] = refl
all_was rule (k ∷ kids) = ap (λ x. x ∷ map (was_of rule) (map (λ e. e.0) kids)) k.1 ∙ ap (λ rest. k.0 ∷ rest) (all_was rule kids)

abbrev with_kids : Rtx-F Rtx → List Rtx → Rtx
with_kids x kids = roll-Rtx (record { code = x.code; mode = x.mode; number = x.number; name = x.name; kids = kids })

was_is : (rule : Rule) (x : Rtx) → was_of rule x ≡ x
was_is rule = ind-Rtx (λ x. was_of rule x ≡ x) (λ x y is.
    let kids = subst (λ (z : Rtx-F Rtx). map (was_of rule) z.kids ≡ z.kids) is (all_was rule y.kids) in
    ap (λ (c : Changed). c.was) (fold-roll-Rtx Changed (changed_step rule) x) ∙ ap (with_kids x) (map_was rule x.kids ∙ kids))

map_is : (rule : Rule) (kids : List Rtx) → map (λ (k : Changed). k.is) (map (fold-Rtx Changed (changed_step rule)) kids) ≡ map (rewritten rule) kids
unfolding rewritten
map_is rule [] = refl
map_is rule (k ∷ kids) = ap (λ rest. rewritten rule k ∷ rest) (map_is rule kids)

-- ---- a rewritten tree is what the rule makes of it and its rewritten parts

pub rewritten_out : (rule : Rule) (x : Rtx) → rewritten rule x ≡ rule x (map (rewritten rule) (kids_of x))
unfolding rewritten
rewritten_out rule x =
    let was = sym (ap (λ (c : Changed). c.was) (fold_out-Rtx Changed (changed_step rule) x)) ∙ was_is rule x in
    ap (λ (c : Changed). c.is) (fold_out-Rtx Changed (changed_step rule) x)
    ∙ (ap (λ y. rule y (map (λ (k : Changed). k.is) (map (fold-Rtx Changed (changed_step rule)) (kids_of x)))) was
    ∙ ap (rule x) (map_is rule (kids_of x)))

-- ---- references to the frame

by_offset : (size : ℕ) (x : Rtx) (o : Option ℤ) → frame_offset x ≡ o → framed size x ≡ option_map_or (λ c. from_sp (head_of x).mode (pos size +ℤ c)) o (tree_of (head_of x) (map (framed size) (kids_of x)))
by_offset size x o e = rewritten_out _ x ∙ ap (λ o. option_map_or (λ c. from_sp (head_of x).mode (pos size +ℤ c)) o (tree_of (head_of x) (map (framed size) (kids_of x)))) e

pub framed_reference : (size : ℕ) (x : Rtx) (c : ℤ) → frame_offset x ≡ Some c → framed size x ≡ from_sp (head_of x).mode (pos size +ℤ c)
framed_reference size x c e = by_offset size x (Some c) e

pub framed_over : (size : ℕ) (x : Rtx) → frame_offset x ≡ None → framed size x ≡ tree_of (head_of x) (map (framed size) (kids_of x))
framed_over size x e = by_offset size x None e

-- ---- homes

by_register : (homes : List HomeOf) (layout : Layout) (x : Rtx) (o : Option ℕ) → register_at x ≡ o → homed homes layout x ≡ option_map_or (place_for homes layout (head_of x).mode) o (tree_of (head_of x) (map (homed homes layout) (kids_of x)))
by_register homes layout x o e = rewritten_out _ x ∙ ap (λ o. option_map_or (place_for homes layout (head_of x).mode) o (tree_of (head_of x) (map (homed homes layout) (kids_of x)))) e

pub homed_register : (homes : List HomeOf) (layout : Layout) (x : Rtx) (reg : ℕ) → register_at x ≡ Some reg → homed homes layout x ≡ place_for homes layout (head_of x).mode reg
homed_register homes layout x reg e = by_register homes layout x (Some reg) e

pub homed_over : (homes : List HomeOf) (layout : Layout) (x : Rtx) → register_at x ≡ None → homed homes layout x ≡ tree_of (head_of x) (map (homed homes layout) (kids_of x))
homed_over homes layout x e = by_register homes layout x None e

-- ---- a tree whose parts were rewritten one by one

-- all of some items
all_taken : (f : Rtx → Rtx) (made items kids : List Rtx) (i : ℕ) → made ≡ map f (take i items) → items ≡ kids → length items ≤ i → made ≡ map f kids
all_taken f made items kids i e is long = e ∙ ap (map f) (take_all i items long ∙ is)

pub framed_made : (size : ℕ) (x : Rtx) (made items : List Rtx) (i : ℕ) → frame_offset x ≡ None → made ≡ map (framed size) (take i items) → items ≡ kids_of x → length items ≤ i → tree_of (head_of x) made ≡ framed size x
framed_made size x made items i none e is long = ap (tree_of (head_of x)) (all_taken (framed size) made items (kids_of x) i e is long) ∙ sym (framed_over size x none)

pub homed_made : (homes : List HomeOf) (layout : Layout) (x : Rtx) (made items : List Rtx) (i : ℕ) → register_at x ≡ None → made ≡ map (homed homes layout) (take i items) → items ≡ kids_of x → length items ≤ i → tree_of (head_of x) made ≡ homed homes layout x
homed_made homes layout x made items i none e is long = ap (tree_of (head_of x)) (all_taken (homed homes layout) made items (kids_of x) i e is long) ∙ sym (homed_over homes layout x none)
