-- What a call does is read back, where its effects are settled.
use Rattle.std.proofs.Common.{◌≡◌, ℕ, List, [], ◌∷◌, map, Bool, true, false, not, Option, Some, None, cond, refl, ap, subst, ◌∙◌}
use Rattle.std.specs.Prelude.{filter, option_map, option_and_then}
use Rattle.std.specs.List.{AllByRecursion, list_all}
use Rattle.rtx_tree.specs.declared.code.Code.{Code}
use Rattle.rtx_tree.specs.declared.code.Code.TheVariants as code
use Rattle.rtx_tree.specs.declared.code.Mode.{Mode}
use Rattle.rtx_tree.specs.declared.code.Mode.TheVariants as mode
use Rattle.rtx_tree.specs.declared.tree.Rtx.{Rtx, out-Rtx}
use Rattle.rtx_tree.specs.Tree.{node_of}
use Rattle.lisp_read.specs.declared.head.Opening.{Opening}
use Rattle.lisp_read.specs.declared.position.Position.TheVariants.{Pattern}
use Rattle.lisp_read.specs.declared.tree.Tree.{Tree}
use Rattle.rtx_tree.specs.Code.{class_of_code, code_named, code_in}
use Rattle.lisp_read.specs.Expression.{head_is, placed, read_at}
use Rattle.lisp_read.specs.Parsed.{stands, parsed_map, each_parsed}
use Rattle.lisp_read.specs.Positions.{admits, mode_at}
use Rattle.lisp_read.specs.Shape.{items_of, vector_at, vector_of, is_vector_at, is_vector}
use Rattle.rtl_read.specs.Call.{is_class_parallel, is_parallel, is_dropped_code, is_kept, together, effects_by, effects_of, call_by, call_of}
use Rattle.rtl_read.specs.Word.{head_word, head_of_list, named_code}
use Rattle.tree_print.specs.Print.{nowhere}
use Rattle.rtl_print.specs.Back.{is_effect, settled_by}
use Rattle.rtl_print.specs.Print.{head_text}
use Rattle.rtl_print.proofs.Heads.{head_with}
use Rattle.rtl_print.proofs.Nodes.{all_nested}
use Rattle.rtl_print.proofs.Numbers.{and_true}
use Rattle.rtl_print.proofs.Opened.{Opened, opened, head_of_opened}
use Rattle.rtl_print.proofs.Same.{Same, AllSame, IsVector, as_vector}
use Rattle.rtl_print.proofs.Shapes.{code_of}
use Rattle.rtl_print.proofs.Words.{Back}
use Rattle.rtl_print.proofs.Written.{vector, written, written_of, written_out, label_tree, parts_by}

-- ---- the code that a written tree names

by_mode : (m : Mode) (c : Code) → code_in (head_word (head_text c m)) ≡ Some c
unfolding code_named
by_mode mode.Void code.Reg = refl
by_mode mode.QI code.Reg = refl
by_mode mode.HI code.Reg = refl
by_mode mode.SI code.Reg = refl
by_mode mode.DI code.Reg = refl
by_mode _ _ = refl

abbrev parts_in : Rtx → List Tree
parts_in x = parts_by (class_of_code (code_of x)) (out-Rtx x).number (out-Rtx x).name (map written (out-Rtx x).kids) (map label_tree (out-Rtx x).kids)

opened_rtx : (t : Tree) (x : Rtx) → Same t (written x) → Opened t (head_text (code_of x) (out-Rtx x).mode) (parts_in x)
opened_rtx t x same = opened t (head_text (code_of x) (out-Rtx x).mode) (parts_in x) (subst (Same t) (written_out x) same)

code_written : (t : Tree) (x : Rtx) → Same t (written x) → named_code t ≡ Some (code_of x)
code_written t x same =
    let o : Opened t (head_text (code_of x) (out-Rtx x).mode) (parts_in x) = opened_rtx t x same in
    let head : head_of_list (items_of t) ≡ Some (head_text (code_of x) (out-Rtx x).mode) = ap head_of_list o.items ∙ o.word in
    ap (option_and_then (λ (text : List ℕ). code_in (head_word text))) head ∙ by_mode (out-Rtx x).mode (code_of x)

all_kept : (ts : List Tree) (kids : List Rtx) → AllSame ts (map written kids) → list_all is_effect kids ≡ true → filter is_kept ts ≡ ts
all_kept [] [] same h = refl
all_kept (t ∷ ts) (x ∷ xs) same h =
    let parts = and_true (is_effect x) (list_all is_effect xs) h in
    let kept : is_kept t ≡ true = ap (λ (c : Option Code). not (is_dropped_code c)) (code_written t x same.0) ∙ parts.0 in
    rw kept (ap (λ (us : List Tree). t ∷ us) (all_kept ts xs same.1 parts.1))
all_kept [] (x ∷ xs) same h = absurd same
all_kept (t ∷ ts) [] same h = absurd same

-- ---- a `parallel`

unfoldable pub BackHere : Rtx → Type 0
BackHere x = Back Pattern x

each_back : (ts : List Tree) (kids : List Rtx) → AllByRecursion BackHere kids → AllSame ts (map written kids) → each_parsed (read_at Pattern) ts ≡ stands kids
unfolding BackHere Back
each_back [] [] all same = refl
each_back (t ∷ ts) (x ∷ xs) all same = rw (all.0 t same.0) (rw (each_back ts xs all.1 same.1) refl)
each_back [] (x ∷ xs) all same = absurd same
each_back (t ∷ ts) [] all same = absurd same

abbrev pub whole : List Rtx → Rtx
whole kids = node_of code.Parallel mode.Void kids

begins_parallel : (t : Tree) (ps : List Tree) → Opened t (head_text code.Parallel mode.Void) ps → is_parallel t ≡ true
begins_parallel t ps o = ap (λ (h : Option Opening). head_is is_class_parallel (option_and_then (placed Pattern) h)) (head_of_opened t code.Parallel mode.Void ps o)

together_again : (kids : List Rtx) (ts : List Tree) → AllByRecursion BackHere kids → settled_by code.Parallel kids ≡ true → AllSame ts (map written kids) →
    parsed_map together (each_parsed (read_at Pattern) (filter is_kept ts)) ≡ stands (whole kids)
together_again [] [] all h same = refl
together_again (x ∷ []) ts all h same = cc
together_again (x ∷ y ∷ more) ts all h same = rw (all_kept ts (x ∷ y ∷ more) same h) (rw (each_back ts (x ∷ y ∷ more) all same) refl)
together_again [] (t ∷ ts) all h same = absurd same

pub parallel_again : (kids : List Rtx) (t : Tree) → AllByRecursion BackHere kids → settled_by code.Parallel kids ≡ true → Same t (written (whole kids)) → call_of t ≡ stands (whole kids)
parallel_again kids t all h same = by_parts o.parts o.same o.items
  where
    o : Opened t (head_text code.Parallel mode.Void) (vector (map written kids) ∷ [])
    o = opened t (head_text code.Parallel mode.Void) (vector (map written kids) ∷ []) (subst (Same t) (written_of _ kids) same)

    by_parts : (ps : List Tree) → AllSame ps (vector (map written kids) ∷ []) → items_of t ≡ o.head ∷ ps → call_of t ≡ stands (whole kids)
    by_parts (v ∷ []) s is =
        let i : IsVector v (map written kids) = as_vector v nowhere (map written kids) s.0 in
        let vector_is : is_vector v ≡ true = ap is_vector_at i.is in
        let inner : vector_of v ≡ i.items = ap vector_at i.is in
        let effects : effects_of t ≡ Some i.items =
        ap (effects_by t) is ∙ rw (begins_parallel t (vector (map written kids) ∷ []) o) (rw vector_is (rw inner (rw (all_nested i.items kids i.same) refl))) in
        ap (call_by t) effects ∙ together_again kids i.items all h i.same
    by_parts [] s is = absurd s
    by_parts (v ∷ w ∷ ps) s is = absurd s.1

-- ---- anything else

no_parallel : (t : Tree) (x : Rtx) → is_class_parallel (class_of_code (code_of x)) ≡ false → Same t (written x) → is_parallel t ≡ false
no_parallel t x e same =
    ap (λ (h : Option Opening). head_is is_class_parallel (option_and_then (placed Pattern) h)) (head_of_opened t (code_of x) (out-Rtx x).mode (parts_in x) (opened_rtx t x same))
    ∙ by (admits Pattern (class_of_code (code_of x))) (mode_at Pattern (class_of_code (code_of x)) (out-Rtx x).mode)
  where
    by : (a : Bool) (o : Option Mode) → head_is is_class_parallel (cond a (option_map (λ (m : Mode). head_with (code_of x) m) o) None) ≡ false
    by false o = refl
    by true None = refl
    by true (Some m) = e

no_effects : (t : Tree) (items : List Tree) → is_parallel t ≡ false → effects_by t items ≡ None
no_effects t [] e = refl
no_effects t (h ∷ []) e = refl
no_effects t (h ∷ v ∷ []) e = rw e refl
no_effects t (h ∷ v ∷ w ∷ more) e = refl

pub other_again : (x : Rtx) (t : Tree) → Back Pattern x → is_class_parallel (class_of_code (code_of x)) ≡ false → Same t (written x) → call_of t ≡ stands x
unfolding Back
other_again x t b e same = ap (call_by t) (no_effects t (items_of t) (no_parallel t x e same)) ∙ b t same
