-- A tree of the shape of its row has as many kids as the row says.
use Rattle.std.proofs.Common.{◌≡◌, ℕ, Bool, true, false, ◌&&◌, List, [], ◌∷◌, length, refl, sym, ◌∙◌}
use Rattle.std.specs.List.{AllByRecursion, list_all}
use Rattle.rtx_tree.specs.declared.code.Mode.{Mode}
use Rattle.rtx_tree.specs.declared.class.Class.{Class}
use Rattle.rtx_tree.specs.declared.class.Class.TheVariants as class
use Rattle.rtx_tree.specs.declared.tree.Rtx.{Rtx, out-Rtx}
use Rattle.rtx_tree.specs.Code.{parts_of, HasKids}
use Rattle.rtx_tree.specs.Tree.{HasItsParts, HaveTheirParts, kids_of}
use Rattle.rtx_tree.proofs.PartLaws.{HasPartsAt, parts_behind}
use Rattle.rtl_func.specs.Nodes.{nodes_of}
use Rattle.rtl_func.specs.Shapes.{class_at, mode_at, number_at, fits_none, fits_one, fits_two, fits_three, fits_parts, fits_row, is_bare, is_shaped}
use Rattle.rtl_func.proofs.RuleLaws.{all_out}

both : (a b : Bool) → (a && b) ≡ true → (a ≡ true) × (b ≡ true)
both true b holds = (refl, holds)
both false b holds = cc

never : {A : Type 0} → false ≡ true → A
never e = absurd (let no : ⊥ = cc in no)

none : (c : Class) (mode : Mode) (reg : ℕ) → fits_none c mode reg ≡ true → HasKids (parts_of c) 0
none class.Register mode reg fits = refl
none class.Constant mode reg fits = refl
none class.Symbol mode reg fits = refl
none class.Return mode reg fits = refl
none class.Counter mode reg fits = refl
none class.Scratch mode reg fits = refl
none _ mode reg fits = never fits

one : (c : Class) (mode : Mode) (x : Rtx) → fits_one c mode x ≡ true → HasKids (parts_of c) 1
one class.Memory mode x fits = refl
one class.Lowpart mode x fits = refl
one class.Unary mode x fits = refl
one class.Extension mode x fits = refl
one class.Truncation mode x fits = refl
one class.Use mode x fits = refl
one class.Clobber mode x fits = refl
one class.Label mode x fits = refl
one _ mode x fits = never fits

two : (c : Class) (mode : Mode) (a b : Rtx) → fits_two c mode a b ≡ true → HasKids (parts_of c) 2
two class.Binary mode a b fits = refl
two class.Shift mode a b fits = refl
two class.Comparison mode a b fits = refl
two class.Setting mode a b fits = refl
two class.Call mode a b fits = refl
two _ mode a b fits = never fits

three : (k : Class) (mode : Mode) (a b c : Rtx) → fits_three k mode a b c ≡ true → HasKids (parts_of k) 3
three class.Branch mode a b c fits = refl
three _ mode a b c fits = never fits

parts_fit : (k : Class) (mode : Mode) (reg : ℕ) (parts : List Rtx) → fits_parts k mode reg parts ≡ true → HasKids (parts_of k) (length parts)
parts_fit k mode reg [] fits = none k mode reg fits
parts_fit k mode reg (a ∷ []) fits = one k mode a fits
parts_fit k mode reg (a ∷ b ∷ []) fits = two k mode a b fits
parts_fit k mode reg (a ∷ b ∷ c ∷ []) fits = three k mode a b c fits
parts_fit k mode reg (a ∷ b ∷ c ∷ d ∷ more) fits = never fits

row_fits : (k : Class) (mode : Mode) (reg : ℕ) (parts : List Rtx) → fits_row k mode reg parts ≡ true → HasKids (parts_of k) (length parts)
row_fits class.Parallel mode reg parts fits = tt
row_fits k mode reg parts fits = parts_fit k mode reg parts fits

shaped_row : (x : Rtx) → is_shaped x ≡ true → HasItsParts x
shaped_row x shaped =
    row_fits (class_at x) (mode_at x) (number_at x) (kids_of x)
    (both (is_bare (class_at x) (number_at x) (out-Rtx x).name) (fits_row (class_at x) (mode_at x) (number_at x) (kids_of x)) shaped).1

each_kid : (Q : Rtx → Type 0) → ((x : Rtx) → list_all is_shaped (nodes_of x) ≡ true → Q x) → (kids : List Rtx) →
    list_all (λ kid. list_all is_shaped (nodes_of kid)) kids ≡ true → AllByRecursion Q kids
each_kid Q holds [] all = tt
each_kid Q holds (kid ∷ kids) all =
    let parts = both (list_all is_shaped (nodes_of kid)) (list_all (λ kid. list_all is_shaped (nodes_of kid)) kids) all in
    (holds kid parts.0, each_kid Q holds kids parts.1)

shaped_at : (path : List ℕ) (x : Rtx) → list_all is_shaped (nodes_of x) ≡ true → HasPartsAt path x
shaped_at [] x all = shaped_row x (both (is_shaped x) _ (sym (all_out is_shaped x) ∙ all)).0
shaped_at (k ∷ path) x all =
    parts_behind path k x (each_kid (HasPartsAt path) (shaped_at path) (kids_of x) (both (is_shaped x) _ (sym (all_out is_shaped x) ∙ all)).1)

-- so have all trees within it
pub shaped_parts : (x : Rtx) → list_all is_shaped (nodes_of x) ≡ true → HaveTheirParts x
shaped_parts x all = λ path. shaped_at path x all
