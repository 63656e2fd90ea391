-- What reading a call's pattern gives is read back, where its effects are settled.
use Rattle.std.proofs.Common.{◌≡◌, ◌≤◌, ℕ, suc, List, [], ◌∷◌, map, Bool, true, false, ◌&&◌, Option, Some, None, cond, refl, sym, ap, subst, ◌∙◌, arith}
use Rattle.std.specs.Prelude.{filter}
use Rattle.std.specs.List.{AllByRecursion, list_all}
use Rattle.rtx_tree.specs.declared.code.Code.{Code}
use Rattle.rtx_tree.specs.declared.code.Code.TheVariants as code
use Rattle.rtx_tree.specs.declared.code.Mode.TheVariants as mode
use Rattle.rtx_tree.specs.declared.tree.Rtx.{Rtx, out-roll-Rtx}
use Rattle.rtx_tree.specs.declared.tree.Rtx.TheOpen.{Rtx-F}
use Rattle.lisp_read.specs.declared.position.Position.TheVariants.{Pattern}
use Rattle.lisp_read.specs.declared.tree.Tree.{Tree}
use Rattle.rtx_tree.specs.Code.{class_of_code}
use Rattle.lisp_read.specs.Expression.{read_at}
use Rattle.lisp_read.specs.Parsed.{stands, parsed_map, each_parsed}
use Rattle.lisp_read.specs.Shape.{items_of, vector_of, is_vector, is_nested}
use Rattle.rtl_read.specs.Call.{is_class_parallel, is_parallel, is_kept, together, effects_by, effects_of, call_by, call_of}
use Rattle.tree_print.specs.Print.{depth_of}
use Rattle.rtl_print.specs.Back.{settled_by, is_settled_pattern}
use Rattle.rtl_print.specs.Print.{head_text}
use Rattle.rtl_print.proofs.Atoms.{head_is_atom}
use Rattle.rtl_print.proofs.Back.{back}
use Rattle.rtl_print.proofs.CallsBack.{BackHere, whole, parallel_again, other_again}
use Rattle.rtl_print.proofs.Good.{Fits, AllFit, fits_more, list_fits, vector_fits, atom_fits, rtx_fits, first_deep, rest_deep}
use Rattle.rtl_print.proofs.Parsing.{map_stands, pair_stands}
use Rattle.rtl_print.proofs.Same.{Same}
use Rattle.rtl_print.proofs.Shallow.{deepest, items_depth, is_vector_depth, first_within}
use Rattle.rtl_print.proofs.Shapes.{code_of, IsParallel, shape_of}
use Rattle.rtl_print.proofs.Written.{atom, vector, written, written_of}

pub record CallBack (most : ℕ) (x : Rtx) : Type 0 where
  pub back : is_settled_pattern x ≡ true → (t : Tree) → Same t (written x) → call_of t ≡ stands x
  pub fits : Fits most (written x)

more : (a b : ℕ) (x : Rtx) → a ≤ b → CallBack a x → CallBack b x
more a b x le c = record { back = c.back; fits = fits_more a b (written x) le c.fits }

-- ---- expressions that were read one after the other

each_kid : (ts : List Tree) (kids : List Rtx) → each_parsed (read_at Pattern) ts ≡ stands kids → AllByRecursion BackHere kids
unfolding BackHere
each_kid [] [] e = tt
each_kid [] (x ∷ xs) e = absurd (let none : ⊥ = cc in none)
each_kid (t ∷ ts) kids e =
    let s = pair_stands (read_at Pattern t) (each_parsed (read_at Pattern) ts) (λ (y : Rtx) (ys : List Rtx). y ∷ ys) kids e in
    subst (AllByRecursion BackHere) s.4 (back Pattern t s.0 s.2, each_kid ts s.1 s.3)

each_fits : (most : ℕ) (ts : List Tree) (kids : List Rtx) → deepest ts ≤ most → each_parsed (read_at Pattern) ts ≡ stands kids → AllFit most (map written kids)
each_fits most [] [] le e = tt
each_fits most [] (x ∷ xs) le e = absurd (let none : ⊥ = cc in none)
each_fits most (t ∷ ts) kids le e =
    let s = pair_stands (read_at Pattern t) (each_parsed (read_at Pattern) ts) (λ (y : Rtx) (ys : List Rtx). y ∷ ys) kids e in
    subst (λ (xs : List Rtx). AllFit most (map written xs)) s.4
    (fits_more (depth_of t) most (written s.0) (omega (arith, le, first_deep t ts)) (rtx_fits Pattern t s.0 s.2), each_fits most ts s.1 (omega (arith, le, rest_deep t ts)) s.3)

-- ---- a `parallel`

parallel_fits : (most : ℕ) (kids : List Rtx) → AllFit most (map written kids) → Fits (suc (suc most)) (written (whole kids))
parallel_fits most kids all =
    subst (Fits (suc (suc most))) (sym (written_of _ kids))
    (list_fits (suc most) (atom (head_text code.Parallel mode.Void) ∷ vector (map written kids) ∷ [])
    (atom_fits (suc most) (head_text code.Parallel mode.Void) (head_is_atom code.Parallel mode.Void), (vector_fits most (map written kids) all, tt)))

settled_whole : (kids : List Rtx) → is_settled_pattern (whole kids) ≡ settled_by code.Parallel kids
settled_whole kids = ap (λ (o : Rtx-F Rtx). settled_by o.code o.kids) (out-roll-Rtx _)

of_kids : (most : ℕ) (ts : List Tree) (kids : List Rtx) → deepest ts ≤ most → each_parsed (read_at Pattern) ts ≡ stands kids → CallBack (suc (suc most)) (whole kids)
of_kids most ts kids le e = record {
  back = λ settled t same. parallel_again kids t (each_kid ts kids e) (sym (settled_whole kids) ∙ settled) same;
  fits = parallel_fits most kids (each_fits most ts kids le e);
}

-- a vector of these in a list
vector_deep : (t a v : Tree) → items_of t ≡ a ∷ v ∷ [] → is_vector v ≡ true → suc (suc (deepest (vector_of v))) ≤ depth_of t
vector_deep t a v items is = omega (arith, items_depth t a (v ∷ []) items, rest_deep a (v ∷ []), first_deep v [], is_vector_depth v is)

-- ---- a pattern that is read as it stands

parallel_code : (c : Code) → is_class_parallel (class_of_code c) ≡ true → c ≡ code.Parallel
parallel_code code.Parallel e = refl
parallel_code _ e = cc

of_read : (t : Tree) (x : Rtx) → read_at Pattern t ≡ stands x → CallBack (depth_of t) x
of_read t x e = by_code (is_class_parallel (class_of_code (code_of x))) refl
  where
    by_code : (b : Bool) → is_class_parallel (class_of_code (code_of x)) ≡ b → CallBack (depth_of t) x
    by_code false is = record { back = λ settled u same. other_again x u (back Pattern t x e) is same; fits = rtx_fits Pattern t x e }
    by_code true is =
        let p : IsParallel t x = (shape_of Pattern t x e).parallel (parallel_code (code_of x) is) in
        subst (CallBack (depth_of t)) (sym p.is)
        (more (suc (suc (deepest (vector_of p.v)))) (depth_of t) (whole p.kids) (vector_deep t p.a p.v p.items p.vector) (of_kids (deepest (vector_of p.v)) (vector_of p.v) p.kids (omega arith) p.each))

-- ---- effects of which some are dropped

kept_deep : (ts : List Tree) → deepest (filter is_kept ts) ≤ deepest ts
kept_deep [] = omega arith
kept_deep (t ∷ ts) = by_test (is_kept t) (kept_deep ts)
  where
    by_test : (b : Bool) → deepest (filter is_kept ts) ≤ deepest ts → deepest (cond b (t ∷ filter is_kept ts) (filter is_kept ts)) ≤ deepest (t ∷ ts)
    by_test false le = omega (arith, le, rest_deep t ts)
    by_test true le = first_within (deepest (t ∷ ts)) t (filter is_kept ts) (first_deep t ts) (omega (arith, le, rest_deep t ts))

of_effects : (most : ℕ) (ts : List Tree) (x : Rtx) → deepest ts ≤ most → parsed_map together (each_parsed (read_at Pattern) ts) ≡ stands x → CallBack (suc (suc most)) x
of_effects most ts x le e =
    let k = map_stands together (each_parsed (read_at Pattern) ts) x e in
    by_kids ts k.0 le k.1 k.2
  where
    alone : (ts : List Tree) (y : Rtx) → deepest ts ≤ most → each_parsed (read_at Pattern) ts ≡ stands (y ∷ []) → CallBack (suc (suc most)) y
    alone [] y le e = absurd (let none : ⊥ = cc in none)
    alone (t ∷ us) y le e =
        let s = pair_stands (read_at Pattern t) (each_parsed (read_at Pattern) us) (λ (z : Rtx) (zs : List Rtx). z ∷ zs) (y ∷ []) e in
        let same : s.0 ≡ y = cc in
        subst (CallBack (suc (suc most))) same (more (depth_of t) (suc (suc most)) s.0 (omega (arith, le, first_deep t us)) (of_read t s.0 s.2))

    by_kids : (ts : List Tree) (kids : List Rtx) → deepest ts ≤ most → each_parsed (read_at Pattern) ts ≡ stands kids → together kids ≡ x → CallBack (suc (suc most)) x
    by_kids ts [] le e is = subst (CallBack (suc (suc most))) is (of_kids most ts [] le e)
    by_kids ts (y ∷ []) le e is = subst (CallBack (suc (suc most))) is (alone ts y le e)
    by_kids ts (y ∷ z ∷ more) le e is = subst (CallBack (suc (suc most))) is (of_kids most ts (y ∷ z ∷ more) le e)

-- ---- all calls

effects_say : (t : Tree) (items : List Tree) (effects : List Tree) → effects_by t items ≡ Some effects → (a : Tree) × (v : Tree) × (items ≡ a ∷ v ∷ []) × (is_vector v ≡ true) × (effects ≡ vector_of v)
effects_say t [] effects e = cc
effects_say t (a ∷ []) effects e = cc
effects_say t (a ∷ v ∷ w ∷ more) effects e = cc
effects_say t (a ∷ v ∷ []) effects e = by (is_parallel t) (is_vector v) refl (list_all is_nested (vector_of v)) e
  where
    by : (p b : Bool) → is_vector v ≡ b → (n : Bool) → cond (p && b && n) (Some (vector_of v)) None ≡ Some effects → (a' : Tree) × (v' : Tree) × (a ∷ v ∷ [] ≡ a' ∷ v' ∷ []) × (is_vector v' ≡ true) × (effects ≡ vector_of v')
    by true true is true h = (a, v, refl, is, cc)
    by true true is false h = cc
    by true false is n h = cc
    by false b is n h = cc

pub call_back : (t : Tree) (x : Rtx) → call_of t ≡ stands x → CallBack (depth_of t) x
call_back t x e = by_effects (effects_of t) refl e
  where
    by_effects : (o : Option (List Tree)) → effects_of t ≡ o → call_by t o ≡ stands x → CallBack (depth_of t) x
    by_effects None is h = of_read t x h
    by_effects (Some effects) is h =
        let s = effects_say t (items_of t) effects is in
        let deep : deepest effects ≡ deepest (vector_of s.1) = ap (λ (ts : List Tree). deepest ts) s.4 in
        more (suc (suc (deepest effects))) (depth_of t) x (omega (arith, deep, vector_deep t s.0 s.1 s.2 s.3)) (of_effects (deepest effects) (filter is_kept effects) x (kept_deep effects) h)
