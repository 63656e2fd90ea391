-- What constraints admit, and one operand more behind those whose standing is known.
use Rattle.std.proofs.Common.{◌≡◌, ℕ, ◌+◌, ◌<◌, Bool, Option, List, [], ◌∷◌, ◌++◌, length, drop, get_or, sym, ap, ◌∙◌, append_assoc}
use Rattle.std.proofs.lemmas.List.{at_drop_more, length-append}
use Rattle.rtx_tree.specs.declared.tree.Rtx.{Rtx}
use Rattle.md_forms.specs.declared.form.Entry.{Entry}
use Rattle.md_forms.specs.declared.form.OperandConstraint.{OperandConstraint}
use Rattle.md_desc.specs.md_pred.Holds.{holds}
use Rattle.reload_operands.specs.md_constr.Fits.{number_admits}
use Rattle.reload_operands.specs.declared.operand.Operand.{Operand}
use Rattle.reload_moves.specs.declared.fitting.Fitting.{Fitting}
use Rattle.reload_fit.specs.Fitting.{Asks, asks_by, fitting_at, fittings_from}

-- where no operand is known, a digit admits nothing
pub admits_nothing : (forms : List Entry) (form : ℕ) (constraints : List OperandConstraint)
    (alternative number : ℕ) (x : Rtx) (operands : List (Option Rtx)) (b : Bool) →
    b ≡ number_admits forms (holds forms) form alternative operands number x → operands ≡ [] →
    b ≡ (asks_by forms form constraints alternative).admits number x
admits_nothing forms form constraints alternative number x operands b is none =
    is ∙
    ap (λ (found : List (Option Rtx)).
    number_admits forms (holds forms) form alternative found number x) none

-- trees that are one are admitted alike
pub admits_same : (asks : Asks) (number : ℕ) (x y : Rtx) (b : Bool) →
    b ≡ asks.admits number x → x ≡ y → b ≡ asks.admits number y
admits_same asks number x y b is same = is ∙ ap (asks.admits number) same

-- one operand more
pub fittings_next : (asks : Asks) (operands xs : List Operand) (i : ℕ) (x : Operand) (fits new : List Fitting) (f : Fitting) (whole : List Fitting) →
    i < length xs → x ≡ get_or xs i x → f ≡ fitting_at asks operands (length fits) x → new ≡ fits ++ f ∷ [] →
    fits ++ fittings_from asks operands (length fits) (drop i xs) ≡ whole → new ++ fittings_from asks operands (length new) (drop (i + 1) xs) ≡ whole
fittings_next asks operands xs i x fits new f whole within is made pushed h =
    let rest = λ (n : ℕ). fittings_from asks operands n (drop (i + 1) xs) in
    let long : length new ≡ length fits + 1 = ap length pushed ∙ length-append fits (f ∷ []) in
    let here : fits ++ fittings_from asks operands (length fits) (drop i xs) ≡ fits ++ fitting_at asks operands (length fits) x ∷ rest (length fits + 1) =
    at_drop_more (λ ys. fits ++ fittings_from asks operands (length fits) ys) xs i x within ∙
    ap (λ (y : Operand). fits ++ fitting_at asks operands (length fits) y ∷ rest (length fits + 1)) (sym is) in
    ap (λ (n : ℕ). new ++ rest n) long ∙
    (ap (λ (l : List Fitting). l ++ rest (length fits + 1)) pushed ∙
    (append_assoc fits (f ∷ []) (rest (length fits + 1)) ∙
    (ap (λ (g : Fitting). fits ++ g ∷ rest (length fits + 1)) made ∙ (sym here ∙ h))))
