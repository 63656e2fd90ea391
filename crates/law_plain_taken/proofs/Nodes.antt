-- A well-formed tree with the code and mode of an operation is that operation on its parts.
use Rattle.std.proofs.Common.{◌≡◌, ℕ, pos, negsuc, ◌<◌, ◌==◌, nat_lt, Bool, true, false, not, ◌&&◌, ◌||◌, List, [], ◌∷◌, refl, sym, ap, ◌∙◌, arith}
use Rattle.std.proofs.lemmas.Bool.Decides.{nat_tests}
use Rattle.std.proofs.lemmas.Slice.Eq.{bytes_eq-Decides}
use Rattle.std.specs.Prelude.{ℤ}
use Rattle.std.specs.Int.{cast_unsigned, w64}
use Rattle.rtx_tree.specs.declared.code.Code.{Code}
use Rattle.rtx_tree.specs.declared.code.Code.TheVariants as code
use Rattle.rtx_tree.specs.declared.code.Mode.{Mode}
use Rattle.rtx_tree.specs.declared.code.Mode.TheVariants.{Void}
use Rattle.rtx_tree.specs.declared.class.Class.{Class}
use Rattle.rtx_tree.specs.declared.class.Class.TheVariants as class
use Rattle.rtx_tree.specs.declared.tree.Rtx.{Rtx, out-Rtx}
use Rattle.rtx_tree.specs.Code.{class_of_code, code_name, code_named}
use Rattle.rtx_tree.specs.Patterns.{set_rtx, is_pc, is_pc_code}
use Rattle.rtx_tree.specs.Tree.{leaf_of, node_of}
use Rattle.rtl_func.specs.Shapes as shapes
use Rattle.rtl_func.specs.Shapes.{is_shaped, is_bare, is_nameless, has_number, is_symbol_class, number_at, fits_row}
use Rattle.text_words.specs.Words.{fits_i64}
use Rattle.law_plain_leaves.specs.Machine.{is_printable, AreShaped, ArePrintable}
use Rattle.law_plain_leaves.proofs.Shaped.{tree_is, two_of, row_is, itself}
use Rattle.law_plain_leaves.proofs.Leaves.{nameless_is}
use Rattle.law_plain_leaves.proofs.Apart.{number_fits}

-- ---- a number that nothing asks for is 0

nought : (z : ℤ) → fits_i64 z ≡ true → (cast_unsigned w64 z == 0) ≡ true → z ≡ pos 0
nought (pos n) fits is = let same : n ≡ 0 = grind (arith, nat_tests, is) in ap pos same
nought (negsuc n) fits is =
    let below : n < 9223372036854775808 = grind (arith, nat_tests, fits) in
    let none : cast_unsigned w64 (negsuc n) ≡ 0 = grind (arith, nat_tests, is) in
    absurd (omega (arith, below, none))

-- a class of neither numbers nor names
abbrev pub IsOperation : Class → Type 0
IsOperation k = (has_number k ≡ false) × (is_symbol_class k ≡ false)

bare_of : (k : Class) (n : ℕ) (s : List ℕ) → IsOperation k → is_bare k n s ≡ true → ((n == 0) ≡ true) × (is_nameless s ≡ true)
bare_of k n s plain is =
    let numberless : ((n == 0) && (is_symbol_class k || is_nameless s)) ≡ true = ap (λ b. (b || n == 0) && (is_symbol_class k || is_nameless s)) (sym plain.0) ∙ is in
    let nameless : ((n == 0) && is_nameless s) ≡ true = ap (λ b. (n == 0) && (b || is_nameless s)) (sym plain.1) ∙ numberless in
    two_of (n == 0) (is_nameless s) nameless

pub operation_is : (x : Rtx) (c : Code) (m : Mode) (kids : List Rtx) → IsOperation (class_of_code c) → is_shaped x ≡ true → is_printable x ≡ true →
    (out-Rtx x).code ≡ c → (out-Rtx x).mode ≡ m → (out-Rtx x).kids ≡ kids → x ≡ node_of c m kids
operation_is x c m kids plain shaped printable coded moded parts =
    let bare = bare_of (class_of_code c) (number_at x) (out-Rtx x).name plain (row_is x c coded shaped).bare in
    tree_is x c m (pos 0) [] kids (record {
      code = coded;
      mode = moded;
      number = nought (out-Rtx x).number (number_fits x printable) bare.0;
      name = nameless_is (out-Rtx x).name bare.1;
      kids_are = parts;
    })

-- ---- without a mode

pub no_mode : (m : Mode) → not (shapes.has_mode m) ≡ true → m ≡ Void
no_mode Void is = refl
no_mode _ is = absurd (let no : ⊥ = cc in no)

-- what an effect or a label is, by its code and two parts
pub set_is : (x a b : Rtx) → AreShaped x → ArePrintable x → (out-Rtx x).code ≡ code.Set → (out-Rtx x).kids ≡ a ∷ b ∷ [] → x ≡ set_rtx a b
set_is x a b shaped printable coded parts =
    let row = row_is x code.Set coded (itself is_shaped x shaped) in
    let fits = ap (λ kids. fits_row class.Setting (out-Rtx x).mode (number_at x) kids) (sym parts) ∙ row.fits in
    operation_is x code.Set Void (a ∷ b ∷ []) (refl, refl) (itself is_shaped x shaped) (itself is_printable x printable) coded
    (no_mode (out-Rtx x).mode (two_of (not (shapes.has_mode (out-Rtx x).mode)) (shapes.is_set_to a b) fits).0) parts

pub label_is : (x a : Rtx) → AreShaped x → ArePrintable x → (out-Rtx x).code ≡ code.LabelRef → (out-Rtx x).kids ≡ a ∷ [] → x ≡ node_of code.LabelRef Void (a ∷ [])
label_is x a shaped printable coded parts =
    let row = row_is x code.LabelRef coded (itself is_shaped x shaped) in
    let fits = ap (λ kids. fits_row class.Label (out-Rtx x).mode (number_at x) kids) (sym parts) ∙ row.fits in
    operation_is x code.LabelRef Void (a ∷ []) (refl, refl) (itself is_shaped x shaped) (itself is_printable x printable) coded
    (no_mode (out-Rtx x).mode (two_of (not (shapes.has_mode (out-Rtx x).mode)) (shapes.is_constant a) fits).0) parts

pub choice_is : (x a b c : Rtx) → AreShaped x → ArePrintable x → (out-Rtx x).code ≡ code.IfThenElse → (out-Rtx x).kids ≡ a ∷ b ∷ c ∷ [] → x ≡ node_of code.IfThenElse Void (a ∷ b ∷ c ∷ [])
choice_is x a b c shaped printable coded parts =
    let row = row_is x code.IfThenElse coded (itself is_shaped x shaped) in
    let fits = ap (λ kids. fits_row class.Branch (out-Rtx x).mode (number_at x) kids) (sym parts) ∙ row.fits in
    operation_is x code.IfThenElse Void (a ∷ b ∷ c ∷ []) (refl, refl) (itself is_shaped x shaped) (itself is_printable x printable) coded
    (no_mode (out-Rtx x).mode (two_of (not (shapes.has_mode (out-Rtx x).mode)) (shapes.is_choice a b c) fits).0) parts

pub call_is : (x a b : Rtx) → AreShaped x → ArePrintable x → (out-Rtx x).code ≡ code.Call → (out-Rtx x).kids ≡ a ∷ b ∷ [] → x ≡ node_of code.Call Void (a ∷ b ∷ [])
call_is x a b shaped printable coded parts =
    let row = row_is x code.Call coded (itself is_shaped x shaped) in
    let fits = ap (λ kids. fits_row class.Call (out-Rtx x).mode (number_at x) kids) (sym parts) ∙ row.fits in
    operation_is x code.Call Void (a ∷ b ∷ []) (refl, refl) (itself is_shaped x shaped) (itself is_printable x printable) coded
    (no_mode (out-Rtx x).mode (two_of (not (shapes.has_mode (out-Rtx x).mode)) (shapes.is_called a b) fits).0) parts

pc_code : (c : Code) → is_pc_code c ≡ true → c ≡ code.Pc
pc_code code.Pc is = refl
pc_code _ is = absurd (let no : ⊥ = cc in no)

counter_parts : (m : Mode) (n : ℕ) (kids : List Rtx) → fits_row class.Counter m n kids ≡ true → kids ≡ []
counter_parts m n [] fits = refl
counter_parts m n (a ∷ []) fits = cc
counter_parts m n (a ∷ b ∷ []) fits = cc
counter_parts m n (a ∷ b ∷ c ∷ []) fits = cc
counter_parts m n (a ∷ b ∷ c ∷ d ∷ kids) fits = cc

return_parts : (m : Mode) (n : ℕ) (kids : List Rtx) → fits_row class.Return m n kids ≡ true → kids ≡ []
return_parts m n [] fits = refl
return_parts m n (a ∷ []) fits = cc
return_parts m n (a ∷ b ∷ []) fits = cc
return_parts m n (a ∷ b ∷ c ∷ []) fits = cc
return_parts m n (a ∷ b ∷ c ∷ d ∷ kids) fits = cc

pub pc_is : (x : Rtx) → AreShaped x → ArePrintable x → is_pc x ≡ true → x ≡ leaf_of code.Pc Void (pos 0)
pc_is x shaped printable is =
    let coded = pc_code (out-Rtx x).code is in
    let row = row_is x code.Pc coded (itself is_shaped x shaped) in
    let parts = counter_parts (out-Rtx x).mode (number_at x) (out-Rtx x).kids row.fits in
    let fits = ap (λ kids. fits_row class.Counter (out-Rtx x).mode (number_at x) kids) (sym parts) ∙ row.fits in
    operation_is x code.Pc Void [] (refl, refl) (itself is_shaped x shaped) (itself is_printable x printable) coded (no_mode (out-Rtx x).mode fits) parts

pub return_is : (x : Rtx) → AreShaped x → ArePrintable x → (out-Rtx x).code ≡ code.Return → x ≡ leaf_of code.Return Void (pos 0)
return_is x shaped printable coded =
    let row = row_is x code.Return coded (itself is_shaped x shaped) in
    let parts = return_parts (out-Rtx x).mode (number_at x) (out-Rtx x).kids row.fits in
    let fits = ap (λ kids. fits_row class.Return (out-Rtx x).mode (number_at x) kids) (sym parts) ∙ row.fits in
    operation_is x code.Return Void [] (refl, refl) (itself is_shaped x shaped) (itself is_printable x printable) coded (no_mode (out-Rtx x).mode fits) parts
