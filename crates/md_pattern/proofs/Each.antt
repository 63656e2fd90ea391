-- Reading some patterns one after the other: what is read so far, and what the rest gives.
use Rattle.std.proofs.Common.{◌≡◌, ℕ, ◌+◌, ◌<◌, List, [], ◌∷◌, ◌++◌, Result, Ok, Err, map, length, drop, get_or, refl, sym, ap, ◌∙◌, append_assoc, arith}
use Rattle.std.proofs.lemmas.Bool.Decides.{nat_tests}
use Rattle.std.proofs.lemmas.List.{append-nil, at_drop_more}
use Rattle.rtx_tree.specs.declared.constants.Constant.{Constant}
use Rattle.lisp_read.specs.declared.tree.Tree.{Tree}
use Rattle.md_pattern.specs.declared.reason.Reason.{Reason}
use Rattle.md_pattern.specs.declared.pattern.Pattern.{Pattern}
use Rattle.md_pattern.specs.declared.pattern.Patterns.{Patterns}
use Rattle.md_pattern.specs.Reason.{smaller, judged_with}
use Rattle.md_pattern.specs.Pattern.{no_patterns, in_front, each, meaning_of, pattern_of}
use Rattle.md_pattern.specs.machine.Steps.{added}

smaller_assoc : (r s t : Reason) → smaller r (smaller s t) ≡ smaller (smaller r s) t
smaller_assoc r s t = grind (arith, nat_tests)

-- some patterns, and others behind them
abbrev pub concat : Patterns → Patterns → Patterns
concat ps qs = record { trees = ps.trees ++ qs.trees; texts = ps.texts ++ qs.texts }

abbrev pub joined : Result Patterns Reason → Result Patterns Reason → Result Patterns Reason
joined a b = judged_with concat a b

pub joined_first : (p : Result Patterns Reason) → joined (Ok no_patterns) p ≡ p
joined_first (Ok ps) = refl
joined_first (Err r) = refl

concat_nothing : (ps : Patterns) → concat ps no_patterns ≡ ps
concat_nothing ps = rw (append-nil ps.trees) (rw (append-nil ps.texts) refl)

joined_last : (p : Result Patterns Reason) → joined p (Ok no_patterns) ≡ p
joined_last (Ok ps) = ap (λ (qs : Patterns). Ok qs) (concat_nothing ps)
joined_last (Err r) = refl

concat_assoc : (ps : Patterns) (p : Pattern) (qs : Patterns) → concat ps (in_front p qs) ≡ concat (added ps p) qs
concat_assoc ps p qs = rw (append_assoc ps.trees (p.tree ∷ []) qs.trees) (rw (append_assoc ps.texts p.texts qs.texts) refl)

-- what is read one by one from the front is what is read one by one from the back
pub judged_assoc : {F P R : Type 0} (more : F → P → F) (before : P → R → R) (join : F → R → R) → ((x : F) (p : P) (r : R) → join x (before p r) ≡ join (more x p) r) →
    (front : Result F Reason) (p : Result P Reason) (rest : Result R Reason) → judged_with join front (judged_with before p rest) ≡ judged_with join (judged_with more front p) rest
judged_assoc {R = R} more before join e (Ok x) (Ok p) (Ok r) = ap (λ (all : R). Ok all) (e x p r)
judged_assoc more before join e (Ok x) (Ok p) (Err r) = refl
judged_assoc more before join e (Ok x) (Err r) (Ok q) = refl
judged_assoc more before join e (Ok x) (Err r) (Err s) = refl
judged_assoc more before join e (Err r) (Ok p) (Ok q) = refl
judged_assoc more before join e (Err r) (Ok p) (Err s) = refl
judged_assoc more before join e (Err r) (Err s) (Ok q) = refl
judged_assoc {R = R} more before join e (Err r) (Err s) (Err t) = ap (λ (u : Reason). Err u) (smaller_assoc r s t)

shift : (front : Result Patterns Reason) (p : Result Pattern Reason) (rest : Result Patterns Reason) →
    joined front (judged_with in_front p rest) ≡ joined (judged_with added front p) rest
shift front p rest = judged_assoc added in_front concat concat_assoc front p rest

-- one pattern more was read
pub each_next : (constants : List Constant) (trees : List Tree) (i : ℕ) (t : Tree) (front : Result Patterns Reason) (p : Result Pattern Reason) (all whole : Result Patterns Reason) →
    i < length trees → t ≡ get_or trees i t → p ≡ pattern_of constants t → all ≡ judged_with added front p →
    joined front (each (map (meaning_of constants) (drop i trees))) ≡ whole → joined all (each (map (meaning_of constants) (drop (i + 1) trees))) ≡ whole
each_next constants trees i t front p all whole within is read made h =
    let rest : Result Patterns Reason = each (map (meaning_of constants) (drop (i + 1) trees)) in
    let here : joined front (each (map (meaning_of constants) (drop i trees))) ≡ joined front (judged_with in_front (pattern_of constants t) rest) =
    at_drop_more (λ ts. joined front (each (map (meaning_of constants) ts))) trees i t within ∙ ap (λ (u : Tree). joined front (each (map (meaning_of constants) (u ∷ drop (i + 1) trees)))) (sym is) in
    rw made (rw read (sym (shift front (pattern_of constants t) rest) ∙ sym here ∙ h))

-- all were read
pub each_ends : (front whole : Result Patterns Reason) → joined front (each []) ≡ whole → front ≡ whole
each_ends front whole h = sym (joined_last front) ∙ h
