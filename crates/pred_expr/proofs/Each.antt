-- Reading some tests one after the other: what is read so far, and what the rest gives.
use Rattle.std.proofs.Common.{◌≡◌, ℕ, ◌+◌, ◌<◌, List, [], ◌∷◌, ◌++◌, Result, Ok, Err, map, length, drop, get_or, refl, sym, ap, ◌∙◌, append_assoc}
use Rattle.std.specs.List.{flat_map}
use Rattle.std.proofs.lemmas.List.{append-nil, at_drop_more}
use Rattle.rtx_tree.specs.declared.constants.Constant.{Constant}
use Rattle.md_pattern.specs.lisp_read.declared.tree.Tree.{Tree}
use Rattle.md_pattern.specs.declared.reason.Reason.{Reason}
use Rattle.md_pattern.specs.Reason.{judged_with}
use Rattle.md_pattern.proofs.Each.{judged_assoc}
use Rattle.pred_expr.specs.declared.question.Test.{Test}
use Rattle.pred_expr.specs.Test.{each, test_of}

abbrev pub Read : Type 0
Read = Result (List Test) Reason

-- some tests, and others behind them
abbrev pub together : Read → Read → Read
together a b = judged_with (λ xs ys. xs ++ ys) a b

abbrev pub added : Read → Result Test Reason → Read
added a t = judged_with (λ xs x. xs ++ x ∷ []) a t

pub joined_first : (a : Read) → together (Ok []) a ≡ a
joined_first (Ok xs) = refl
joined_first (Err r) = refl

together_last : (a : Read) → together a (Ok []) ≡ a
together_last (Ok xs) = ap (λ (ys : List Test). Ok ys) (append-nil xs)
together_last (Err r) = refl

cons_assoc : (xs : List Test) (x : Test) (ys : List Test) → xs ++ x ∷ ys ≡ (xs ++ x ∷ []) ++ ys
cons_assoc xs x ys = sym (append_assoc xs (x ∷ []) ys)

shift : (front : Read) (t : Result Test Reason) (rest : Read) → together front (judged_with (λ x xs. x ∷ xs) t rest) ≡ together (added front t) rest
shift front t rest = judged_assoc (λ xs x. xs ++ x ∷ []) (λ x xs. x ∷ xs) (λ xs ys. xs ++ ys) cons_assoc front t rest

-- one test more was read
pub each_next : (constants : List Constant) (trees : List Tree) (i : ℕ) (tree : Tree) (front : Read) (t : Result Test Reason) (all whole : Read) →
    i < length trees → tree ≡ get_or trees i tree → t ≡ test_of constants tree → all ≡ added front t →
    together front (each (map (test_of constants) (drop i trees))) ≡ whole → together all (each (map (test_of constants) (drop (i + 1) trees))) ≡ whole
each_next constants trees i tree front t all whole within is read made h =
    let rest : Read = each (map (test_of constants) (drop (i + 1) trees)) in
    let here : together front (each (map (test_of constants) (drop i trees))) ≡ together front (judged_with (λ x xs. x ∷ xs) (test_of constants tree) rest) =
    at_drop_more (λ ts. together front (each (map (test_of constants) ts))) trees i tree within ∙ ap (λ (u : Tree). together front (each (map (test_of constants) (u ∷ drop (i + 1) trees)))) (sym is) in
    rw made (rw read (sym (shift front (test_of constants tree) rest) ∙ sym here ∙ h))

-- all were read
pub joined_ends : (front whole : Read) → together front (each []) ≡ whole → front ≡ whole
joined_ends front whole h = sym (together_last front) ∙ h

-- ---- what is appended for each of some things

-- it was appended for one more
pub pushed_next : {X A : Type 0} (f : X → List A) (xs : List X) (i : ℕ) (x : X) (out more whole : List A) →
    i < length xs → x ≡ get_or xs i x → more ≡ out ++ f x → out ++ flat_map f (drop i xs) ≡ whole → more ++ flat_map f (drop (i + 1) xs) ≡ whole
pushed_next {X = X} f xs i x out more whole within is made h =
    let here : out ++ flat_map f (drop i xs) ≡ out ++ (f x ++ flat_map f (drop (i + 1) xs)) =
    at_drop_more (λ ys. out ++ flat_map f ys) xs i x within ∙ ap (λ (u : X). out ++ flat_map f (u ∷ drop (i + 1) xs)) (sym is) in
    rw made (append_assoc out (f x) (flat_map f (drop (i + 1) xs)) ∙ sym here ∙ h)

pub pushed_ends : {A : Type 0} (out whole : List A) → out ++ [] ≡ whole → out ≡ whole
pushed_ends out whole h = sym (append-nil out) ∙ h
