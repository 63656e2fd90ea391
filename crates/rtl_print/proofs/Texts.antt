-- The text of an expression, one level at a time.
use Rattle.std.proofs.Common.{◌≡◌, ℕ, List, [], ◌∷◌, ◌++◌, map, flat_map, codes, refl, sym, ap, ◌∙◌}
use Rattle.std.specs.Fmt.{signed_decimal}
use Rattle.std.proofs.lemmas.List.Concat.{flat_map-cons}
use Rattle.rtx_tree.specs.declared.tree.Rtx.{Rtx, out-Rtx}
use Rattle.rtx_tree.specs.declared.tree.Rtx.TheFolds.{fold_out-Rtx}
use Rattle.rtx_tree.specs.Code.{class_of_code}
use Rattle.rtl_print.specs.Print.{head_text, Printed, printed_step, printed_body, text_of, spaced, spaced_text, spaced_number}
use Rattle.rtl_print.specs.machine.Pieces.{body_of}

bare_of : (x : Rtx) → (text_of x).bare ≡ signed_decimal (out-Rtx x).number
bare_of x = ap (λ (p : Printed). p.bare) (fold_out-Rtx Printed printed_step x)

-- texts of texts are the texts that are asked for
wholes : (xs : List Rtx) → flat_map (λ (k : Printed). spaced k.whole) (map text_of xs) ≡ flat_map spaced_text xs
wholes [] = refl
wholes (x ∷ xs) = flat_map-cons (λ (k : Printed). spaced k.whole) (text_of x) (map text_of xs) ∙ ap (λ (t : List ℕ). spaced_text x ++ t) (wholes xs) ∙ sym (flat_map-cons spaced_text x xs)

bares : (xs : List Rtx) → flat_map (λ (k : Printed). spaced k.bare) (map text_of xs) ≡ flat_map spaced_number xs
bares [] = refl
bares (x ∷ xs) =
    flat_map-cons (λ (k : Printed). spaced k.bare) (text_of x) (map text_of xs)
    ∙ ap (λ (t : List ℕ). spaced (text_of x).bare ++ t) (bares xs)
    ∙ ap (λ (t : List ℕ). spaced t ++ flat_map spaced_number xs) (bare_of x)
    ∙ sym (flat_map-cons spaced_number x xs)

pub printed_out : (x : Rtx) → (text_of x).whole ≡ codes "(" ++ (head_text (out-Rtx x).code (out-Rtx x).mode ++ (body_of x ++ codes ")"))
printed_out x =
    let o = out-Rtx x in
    ap (λ (p : Printed). p.whole) (fold_out-Rtx Printed printed_step x)
    ∙ ap (λ (kids : List ℕ). codes "(" ++ (head_text o.code o.mode ++ (printed_body (class_of_code o.code) o.number o.name kids (flat_map (λ (k : Printed). spaced k.bare) (map text_of o.kids)) ++ codes ")"))) (wholes o.kids)
    ∙ ap (λ (labels : List ℕ). codes "(" ++ (head_text o.code o.mode ++ (printed_body (class_of_code o.code) o.number o.name (flat_map spaced_text o.kids) labels ++ codes ")"))) (bares o.kids)
