-- Texts in three pieces, and the text of a chain of uses: its links, its end, and what closes them.
use Rattle.std.proofs.Common.{◌≡◌, ℕ, zero, suc, List, [], ◌∷◌, ◌++◌, flat_map, length, codes, refl, sym, ap, ◌∙◌, append_assoc}
use Rattle.std.proofs.lemmas.List.Concat.{flat_map-cons}
use Rattle.rtx_tree.specs.declared.function.ArgUse.{ArgUse}
use Rattle.rtl_print.specs.Canonical.{printed_link, printed_uses}
use Rattle.rtl_print.specs.machine.Pieces.{closed}

-- three pieces behind a text
pub three_pieces : (start one two three front text back : List ℕ) → one ≡ start ++ front → two ≡ one ++ text → three ≡ two ++ back → three ≡ start ++ (front ++ (text ++ back))
three_pieces start one two three front text back a b c =
    c ∙ (ap (λ (t : List ℕ). t ++ back) (b ∙ ap (λ (t : List ℕ). t ++ text) a) ∙ (append_assoc (start ++ front) text back ∙ append_assoc start front (text ++ back)))

-- one closing parenthesis more, in front or behind
closed_end : (n : ℕ) → closed n ++ codes ")" ≡ closed (suc n)
closed_end zero = refl
closed_end (suc n) = ap (λ (text : List ℕ). 41 ∷ text) (closed_end n)

pub uses_printed : (uses : List ArgUse) → printed_uses uses ≡ flat_map printed_link uses ++ (codes "(nil)" ++ closed (length uses))
uses_printed [] = refl
uses_printed (u ∷ us) =
    let links : List ℕ = flat_map printed_link us in
    let end : List ℕ = codes "(nil)" ++ closed (length us) in
    ap (λ (text : List ℕ). printed_link u ++ (text ++ codes ")")) (uses_printed us)
    ∙ (ap (λ (text : List ℕ). printed_link u ++ text) (append_assoc links end (codes ")"))
    ∙ (ap (λ (text : List ℕ). printed_link u ++ (links ++ (codes "(nil)" ++ text))) (closed_end (length us))
    ∙ (sym (append_assoc (printed_link u) links (codes "(nil)" ++ closed (suc (length us))))
    ∙ ap (λ (text : List ℕ). text ++ (codes "(nil)" ++ closed (suc (length us)))) (sym (flat_map-cons printed_link u us)))))
