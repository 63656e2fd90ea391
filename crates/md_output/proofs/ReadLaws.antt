-- The lines of a text, read one after the other.
use Rattle.std.proofs.Common.{◌≡◌, ℕ, ◌+◌, ◌<◌, ◌≤◌, List, [], ◌∷◌, ◌++◌, length, take, get_or, sym, ap, subst, ◌∙◌}
use Rattle.std.specs.List.{AllZip}
use Rattle.std.proofs.lemmas.List.{take_more, take_all}
use Rattle.rv_text.specs.declared.line.Line.{Line}
use Rattle.md_output.specs.Read.{IsReadAs}

read_push : (texts : List (List ℕ)) (ls : List Line) (t : List ℕ) (line : Line) → AllZip IsReadAs texts ls → IsReadAs t line → AllZip IsReadAs (texts ++ t ∷ []) (ls ++ line ∷ [])
read_push [] [] t line zipped is = (is, tt)
read_push [] (l ∷ ls) t line zipped is = absurd zipped
read_push (u ∷ texts) [] t line zipped is = absurd zipped
read_push (u ∷ texts) (l ∷ ls) t line zipped is = (zipped.0, read_push texts ls t line zipped.1 is)

-- one more was read
pub read_on : (texts : List (List ℕ)) (k : ℕ) (t : List ℕ) (ls new : List Line) (line : Line) → k < length texts → t ≡ get_or texts k t → new ≡ ls ++ line ∷ [] → AllZip IsReadAs (take k texts) ls → IsReadAs t line →
    AllZip IsReadAs (take (k + 1) texts) new
read_on texts k t ls new line within is pushed zipped here =
    subst (AllZip IsReadAs (take (k + 1) texts)) (sym pushed)
    (subst (λ (us : List (List ℕ)). AllZip IsReadAs us (ls ++ line ∷ [])) (sym (take_more texts k t within ∙ ap (λ (u : List ℕ). take k texts ++ u ∷ []) (sym is)))
    (read_push (take k texts) ls t line zipped here))

-- all were
pub read_end : (texts : List (List ℕ)) (k : ℕ) (ls : List Line) → length texts ≤ k → AllZip IsReadAs (take k texts) ls → AllZip IsReadAs texts ls
read_end texts k ls past zipped = subst (λ (us : List (List ℕ)). AllZip IsReadAs us ls) (take_all k texts past) zipped
