-- Codes, modes and trees are one exactly where the definitions say that they are the same.
use Rattle.std.proofs.Common.{◌≡◌, ℕ, ℤ, Bool, true, false, ◌&&◌, ◌==◌, if◌then◌else◌, List, [], ◌∷◌, Some, map, refl, sym, ap, subst, ◌∙◌}
use Rattle.std.specs.Prelude.{◌↔◌, IsTrue}
use Rattle.std.specs.Bool.{Decides}
use Rattle.std.specs.Ordering.{int_eq}
use Rattle.std.specs.Str.{bytes_eq}
use Rattle.std.proofs.lemmas.Bool.{and_parts, and_from}
use Rattle.std.proofs.lemmas.Bool.Decides.{Decides-int_eq}
use Rattle.std.proofs.lemmas.Slice.Eq.{bytes_eq-Decides}
use Rattle.rtx_tree.specs.declared.code.Code.{Code}
use Rattle.rtx_tree.specs.declared.code.Mode.{Mode}
use Rattle.rtx_tree.specs.declared.code.Mode.TheVariants as mode
use Rattle.rtx_tree.specs.declared.tree.Rtx.{Rtx, roll-Rtx}
use Rattle.rtx_tree.specs.declared.tree.Rtx.TheOpen.{Rtx-F}
use Rattle.rtx_tree.specs.declared.tree.Rtx.TheFolds.{fold-roll-Rtx, ind-Rtx}
use Rattle.rtx_tree.specs.Code.{code_name, code_named, mode_name}
use Rattle.rtx_tree.specs.Tree.{RtxHead, head_of, kids_of}
use Rattle.rtx_tree.proofs.Trees.{same_parts, head_of-tree, kids_of-tree}
use Rattle.rtx_tree.proofs.Codes.{named_again}
use Rattle.c_eval.specs.Value.{same_code, same_mode, all_same, same_step, same_tree}

-- two tests of one fact have one answer
one_answer : {P : Type 0} (found test : Bool) → (IsTrue found ↔ P) → Decides test P → found ≡ test
one_answer true test is decides = sym (decides.1 (is.0 refl))
one_answer false true is decides = is.1 (decides.0 refl)
one_answer false false is decides = refl

-- ---- codes and modes

code_apart : (a b : Code) → code_name a ≡ code_name b → a ≡ b
code_apart a b e =
    let one : Some a ≡ Some b = sym (named_again a) ∙ (ap code_named e ∙ named_again b) in
    cc

code_decides : (a b : Code) → Decides (same_code a b) (a ≡ b)
code_decides a b = (λ e. code_apart a b ((bytes_eq-Decides (code_name a) (code_name b)).0 e), λ e. (bytes_eq-Decides (code_name a) (code_name b)).1 (ap code_name e))

pub code_is : (a b : Code) (found : Bool) → (IsTrue found ↔ (a ≡ b)) → found ≡ same_code a b
code_is a b found is = one_answer found (same_code a b) is (code_decides a b)

-- the mode with a name, by its first letter
mode_called : List ℕ → Mode
mode_called [] = mode.Void
mode_called (letter ∷ letters) = if letter == 81 then mode.QI else (if letter == 72 then mode.HI else (if letter == 83 then mode.SI else mode.DI))

called : (m : Mode) → mode_called (mode_name m) ≡ m
unfolding mode_called
called mode.Void = refl
called mode.QI = refl
called mode.HI = refl
called mode.SI = refl
called mode.DI = refl

mode_apart : (a b : Mode) → mode_name a ≡ mode_name b → a ≡ b
mode_apart a b e = sym (called a) ∙ (ap mode_called e ∙ called b)

mode_decides : (a b : Mode) → Decides (same_mode a b) (a ≡ b)
mode_decides a b = (λ e. mode_apart a b ((bytes_eq-Decides (mode_name a) (mode_name b)).0 e), λ e. (bytes_eq-Decides (mode_name a) (mode_name b)).1 (ap mode_name e))

-- modes that are the same are one
pub same_modes : (a b : Mode) → same_mode a b ≡ true → a ≡ b
same_modes a b same = (mode_decides a b).0 same

pub mode_is : (a b : Mode) (found : Bool) → (IsTrue found ↔ (a ≡ b)) → found ≡ same_mode a b
mode_is a b found is = one_answer found (same_mode a b) is (mode_decides a b)

-- ---- trees

abbrev Sound : Rtx → Type 0
Sound x = (y : Rtx) → same_tree x y ≡ true → x ≡ y

abbrev Whole : Rtx → Type 0
Whole x = same_tree x x ≡ true

-- a tree with its kids compared
abbrev compared_kids : Rtx-F Rtx → Rtx-F (Rtx → Bool)
compared_kids x = record { code = x.code; mode = x.mode; number = x.number; name = x.name; kids = map same_tree x.kids }

abbrev layer_head : Rtx-F Rtx → RtxHead
layer_head x = record { code = x.code; mode = x.mode; number = x.number; name = x.name }

same_out : (x : Rtx-F Rtx) (y : Rtx) → same_tree (roll-Rtx x) y ≡ same_step (compared_kids x) y
same_out x y = ap (λ (test : Rtx → Bool). test y) (fold-roll-Rtx (Rtx → Bool) same_step x)

abbrev head_with : Code → Mode → ℤ → List ℕ → RtxHead
head_with c m number name = record { code = c; mode = m; number = number; name = name }

same_heads : (h i : RtxHead) → h.code ≡ i.code → h.mode ≡ i.mode → h.number ≡ i.number → h.name ≡ i.name → h ≡ i
same_heads h i c m number name =
    ap (λ (x : Code). head_with x h.mode h.number h.name) c
    ∙ (ap (λ (x : Mode). head_with i.code x h.number h.name) m
    ∙ (ap (λ (x : ℤ). head_with i.code i.mode x h.name) number
    ∙ ap (λ (x : List ℕ). head_with i.code i.mode i.number x) name))

sound_layer : (x : Rtx-F Rtx) → ((ys : List Rtx) → all_same (map same_tree x.kids) ys ≡ true → x.kids ≡ ys) → Sound (roll-Rtx x)
sound_layer x kids y holds =
    let all = and_parts _ _ (sym (same_out x y) ∙ holds) in
    let past_code = and_parts _ _ all.1 in
    let past_mode = and_parts _ _ past_code.1 in
    let past_number = and_parts _ _ past_mode.1 in
    same_parts (roll-Rtx x) y
    (head_of-tree (layer_head x) x.kids
    ∙ same_heads (layer_head x) (head_of y) ((code_decides x.code (head_of y).code).0 all.0) ((mode_decides x.mode (head_of y).mode).0 past_code.0) ((Decides-int_eq x.number (head_of y).number).0 past_mode.0) ((bytes_eq-Decides x.name (head_of y).name).0 past_number.0))
    (kids_of-tree (layer_head x) x.kids ∙ kids (kids_of y) past_number.1)

sound_kids : (kids : List ((x : Rtx) × Sound x)) (ys : List Rtx) → all_same (map same_tree (map (λ e. e.0) kids)) ys ≡ true → map (λ e. e.0) kids ≡ ys
sound_kids [] [] holds = refl
sound_kids [] (y ∷ ys) holds = cc
sound_kids (k ∷ kids) [] holds = cc
sound_kids (k ∷ kids) (y ∷ ys) holds =
    let parts = and_parts (same_tree k.0 y) (all_same (map same_tree (map (λ e. e.0) kids)) ys) holds in
    ap (λ (x : Rtx). x ∷ map (λ e. e.0) kids) (k.1 y parts.0) ∙ ap (λ (xs : List Rtx). y ∷ xs) (sound_kids kids ys parts.1)

sound : (x : Rtx) → Sound x
sound = ind-Rtx Sound (λ x y is.
    sound_layer x (subst (λ (z : Rtx-F Rtx). (ys : List Rtx) → all_same (map same_tree z.kids) ys ≡ true → z.kids ≡ ys) is (sound_kids y.kids)))

-- trees that are the same are one
pub same_trees : (x y : Rtx) → same_tree x y ≡ true → x ≡ y
same_trees x y same = sound x y same

whole_kids : (kids : List ((x : Rtx) × Whole x)) → all_same (map same_tree (map (λ e. e.0) kids)) (map (λ e. e.0) kids) ≡ true
whole_kids [] = refl
whole_kids (k ∷ kids) = and_from _ _ k.1 (whole_kids kids)

whole_layer : (x : Rtx-F Rtx) → all_same (map same_tree x.kids) x.kids ≡ true → Whole (roll-Rtx x)
whole_layer x kids =
    let h : head_of (roll-Rtx x) ≡ layer_head x = head_of-tree (layer_head x) x.kids in
    let ks : kids_of (roll-Rtx x) ≡ x.kids = kids_of-tree (layer_head x) x.kids in
    same_out x (roll-Rtx x)
    ∙ and_from _ _ ((code_decides x.code (head_of (roll-Rtx x)).code).1 (sym (ap (λ (i : RtxHead). i.code) h)))
    (and_from _ _ ((mode_decides x.mode (head_of (roll-Rtx x)).mode).1 (sym (ap (λ (i : RtxHead). i.mode) h)))
    (and_from _ _ ((Decides-int_eq x.number (head_of (roll-Rtx x)).number).1 (sym (ap (λ (i : RtxHead). i.number) h)))
    (and_from _ _ ((bytes_eq-Decides x.name (head_of (roll-Rtx x)).name).1 (sym (ap (λ (i : RtxHead). i.name) h)))
    (subst (λ (ys : List Rtx). all_same (map same_tree x.kids) ys ≡ true) (sym ks) kids))))

whole : (x : Rtx) → Whole x
whole = ind-Rtx Whole (λ x y is. whole_layer x (subst (λ (z : Rtx-F Rtx). all_same (map same_tree z.kids) z.kids ≡ true) is (whole_kids y.kids)))

pub tree_is : (x y : Rtx) (found : Bool) → (IsTrue found ↔ (x ≡ y)) → found ≡ same_tree x y
tree_is x y found is = one_answer found (same_tree x y) is (sound x y, λ e. subst (λ (z : Rtx). same_tree x z ≡ true) e (whole x))
