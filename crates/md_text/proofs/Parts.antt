-- The parts of a text, one byte after the other: what is cut off so far, what is begun, and what the rest gives.
use Rattle.std.proofs.Common.{◌≡◌, ◌≢◌, ℕ, ◌+◌, ◌<◌, ◌≤◌, Bool, true, false, cond, ◌==◌, List, [], ◌∷◌, ◌++◌, length, drop, get_or, refl, sym, ap, ◌∙◌, append_assoc, arith}
use Rattle.std.proofs.lemmas.Bool.Decides.{nat_tests}
use Rattle.std.proofs.lemmas.Bool.{ne_eqb}
use Rattle.std.proofs.lemmas.List.{append-nil, at_drop_more, at_drop_all}
use Rattle.md_text.specs.Lists.{prefixed, parts}

prefixed_twice : (a b : List ℕ) (ps : List (List ℕ)) → prefixed a (prefixed b ps) ≡ prefixed (a ++ b) ps
prefixed_twice a b [] = refl
prefixed_twice a b (p ∷ ps) = ap (λ (x : List ℕ). x ∷ ps) (sym (append_assoc a b p))

-- nothing is cut off and nothing is begun
pub parts_begin : (mark : ℕ) (text : List ℕ) → prefixed [] (parts mark text) ≡ parts mark text
parts_begin mark [] = refl
parts_begin mark (b ∷ rest) = by_cases (b == mark)
  where
    by_cases : (here : Bool) → prefixed [] (cond here ([] ∷ parts mark rest) (prefixed (b ∷ []) (parts mark rest))) ≡ cond here ([] ∷ parts mark rest) (prefixed (b ∷ []) (parts mark rest))
    by_cases true = refl
    by_cases false = prefixed_twice [] (b ∷ []) (parts mark rest)

same_byte : (n : ℕ) → (n == n) ≡ true
same_byte n = grind (arith, nat_tests)

cut_here : (mark b : ℕ) (rest : List ℕ) → b ≡ mark → parts mark (b ∷ rest) ≡ [] ∷ parts mark rest
cut_here mark b rest e = let h : (b == mark) ≡ true = ap (λ n. b == n) (sym e) ∙ same_byte b in rw h refl

-- a part ends at a mark
pub parts_cut : (mark : ℕ) (out : List (List ℕ)) (part : List ℕ) (text : List ℕ) (i : ℕ) (whole : List (List ℕ)) → i < length text → get_or text i 0 ≡ mark → out ++ prefixed part (parts mark (drop i text)) ≡ whole →
    (out ++ part ∷ []) ++ prefixed [] (parts mark (drop (i + 1) text)) ≡ whole
parts_cut mark out part text i whole within e so_far =
    ap (λ (ps : List (List ℕ)). (out ++ part ∷ []) ++ ps) (parts_begin mark (drop (i + 1) text))
    ∙ append_assoc out (part ∷ []) (parts mark (drop (i + 1) text))
    ∙ ap (λ (x : List ℕ). out ++ x ∷ parts mark (drop (i + 1) text)) (sym (append-nil part))
    ∙ ap (λ (ps : List (List ℕ)). out ++ prefixed part ps) (sym (cut_here mark (get_or text i 0) (drop (i + 1) text) e))
    ∙ sym (at_drop_more (λ xs. out ++ prefixed part (parts mark xs)) text i 0 within)
    ∙ so_far

grow_here : (mark b : ℕ) (rest : List ℕ) → b ≢ mark → parts mark (b ∷ rest) ≡ prefixed (b ∷ []) (parts mark rest)
grow_here mark b rest e = let h : (b == mark) ≡ false = ne_eqb b mark e in rw h refl

-- another byte belongs to the part
pub parts_grow : (mark : ℕ) (out : List (List ℕ)) (part : List ℕ) (text : List ℕ) (i : ℕ) (whole : List (List ℕ)) → i < length text → get_or text i 0 ≢ mark → out ++ prefixed part (parts mark (drop i text)) ≡ whole →
    out ++ prefixed (part ++ get_or text i 0 ∷ []) (parts mark (drop (i + 1) text)) ≡ whole
parts_grow mark out part text i whole within e so_far =
    ap (λ (ps : List (List ℕ)). out ++ ps) (sym (prefixed_twice part (get_or text i 0 ∷ []) (parts mark (drop (i + 1) text))))
    ∙ ap (λ (ps : List (List ℕ)). out ++ prefixed part ps) (sym (grow_here mark (get_or text i 0) (drop (i + 1) text) e))
    ∙ sym (at_drop_more (λ xs. out ++ prefixed part (parts mark xs)) text i 0 within)
    ∙ so_far

-- the text ends, and with it the part
pub parts_end : (mark : ℕ) (out : List (List ℕ)) (part : List ℕ) (text : List ℕ) (i : ℕ) (whole : List (List ℕ)) → length text ≤ i → out ++ prefixed part (parts mark (drop i text)) ≡ whole → out ++ part ∷ [] ≡ whole
parts_end mark out part text i whole end so_far =
    ap (λ (x : List ℕ). out ++ x ∷ []) (sym (append-nil part)) ∙ sym (at_drop_all (λ xs. out ++ prefixed part (parts mark xs)) text i end) ∙ so_far
