-- The uses of a call are read back from the chain that is printed of them.
use Rattle.std.proofs.Common.{◌≡◌, ◌≤◌, ◌-◌, ℕ, suc, pos, List, [], ◌∷◌, map, length, Bool, true, false, Option, Some, None, cond, codes, refl, sym, ap, subst, ◌∙◌, arith}
use Rattle.std.specs.Prelude.{slice_get, option_and_then}
use Rattle.std.specs.List.{AllByRecursion}
use Rattle.rtx_tree.specs.declared.code.Code.{Code}
use Rattle.rtx_tree.specs.declared.code.Code.TheVariants as code
use Rattle.rtx_tree.specs.declared.code.Mode.{Mode}
use Rattle.rtx_tree.specs.declared.code.Mode.TheVariants as mode
use Rattle.rtx_tree.specs.declared.function.ArgUse.{ArgUse}
use Rattle.rtx_tree.specs.declared.tree.Rtx.{Rtx, out-Rtx, out-roll-Rtx}
use Rattle.rtx_tree.specs.declared.tree.Rtx.TheOpen.{Rtx-F}
use Rattle.rtx_tree.specs.Tree.{node_of, reg_of}
use Rattle.lisp_read.specs.declared.position.Position.TheVariants.{Top}
use Rattle.lisp_read.specs.declared.tree.Tree.{Tree}
use Rattle.lisp_read.specs.Expression.{rtx_in}
use Rattle.lisp_read.specs.Leaf.{below}
use Rattle.lisp_read.specs.Parsed.{Parsed, stands, construct, outside, or_outside}
use Rattle.lisp_read.specs.Shape.{items_of, atom_of}
use Rattle.tree_print.specs.Print.{depth_of}
use Rattle.rtl_read.specs.Call.{arg_use, use_by_code, use_of_register, use_by, use_in, use_of, is_link, is_link_head, is_whole_link, link_by, end_of, uses_by, uses_in, uses_told, uses_of}
use Rattle.rtl_read.specs.Word.{if_stands, expression_of, is_alone}
use Rattle.rtl_read.proofs.Uses.{uses_out}
use Rattle.rtl_print.proofs.Back.{back}
use Rattle.rtl_print.proofs.FunctionTree.{use_rtx, uses_tree}
use Rattle.rtl_print.proofs.Good.{Fits, fits_more, list_fits, word_fits, rtx_fits, first_deep, rest_deep, got_deep, by_items, word_is}
use Rattle.rtl_print.proofs.Nodes.{nested_written}
use Rattle.rtl_print.proofs.Numbers.{map_some, then_some, below_less}
use Rattle.rtl_print.proofs.Opened.{Opened, opened}
use Rattle.rtl_print.proofs.Parsing.{or_stands, pair_stands}
use Rattle.rtl_print.proofs.Same.{Same, AllSame}
use Rattle.rtl_print.proofs.Shallow.{deepest, items_depth}
use Rattle.rtl_print.proofs.Shapes.{code_of, IsReg, IsUse, shape_of}
use Rattle.rtl_print.proofs.Words.{Back}
use Rattle.rtl_print.proofs.Written.{atom, written}

-- ---- one use

-- the use of a register that is used
use_says : (kid : Rtx) (u : ArgUse) → use_of_register kid ≡ Some u → (code_of kid ≡ code.Reg → IsReg kid) → kid ≡ reg_of u.mode u.reg
use_says kid u e reg = by_code (code_of kid) refl e
  where
    made : (m : Mode) (n : ℕ) → kid ≡ reg_of m n → use_by_code (code_of kid) (out-Rtx kid).mode (out-Rtx kid).number ≡ Some u → kid ≡ reg_of u.mode u.reg
    made m n is h =
        let here : use_by_code code.Reg m (pos n) ≡ Some u =
        sym (ap (λ (y : Rtx). use_by_code (code_of y) (out-Rtx y).mode (out-Rtx y).number) is ∙ ap (λ (o : Rtx-F Rtx). use_by_code o.code o.mode o.number) (out-roll-Rtx _)) ∙ h in
        let k = map_some (below 32 (pos n)) (arg_use m) u here in
        let number : pos n ≡ pos k.0 = (below_less 32 (pos n) k.0 k.1).0 in
        is ∙ (number_is m n k.0 number ∙ ap (λ (v : ArgUse). reg_of v.mode v.reg) k.2)
      where
        number_is : (m : Mode) (n k : ℕ) → pos n ≡ pos k → reg_of m n ≡ reg_of m k
        number_is m n k e = let same : n ≡ k = cc in ap (reg_of m) same

    by_code : (c : Code) → code_of kid ≡ c → use_by_code (code_of kid) (out-Rtx kid).mode (out-Rtx kid).number ≡ Some u → kid ≡ reg_of u.mode u.reg
    by_code code.Reg is h = let r : IsReg kid = reg is in made r.mode r.number r.is h
    by_code c is h = absurd (let wrong : use_by_code c (out-Rtx kid).mode (out-Rtx kid).number ≡ Some u = ap (λ (d : Code). use_by_code d (out-Rtx kid).mode (out-Rtx kid).number) (sym is) ∙ h in let none : ⊥ = cc in none)

-- ... and its expression
in_says : (x : Rtx) (u : ArgUse) → use_in x ≡ Some u → (code_of x ≡ code.Use → IsUse x) → x ≡ use_rtx u
in_says x u e used = by_code (code_of x) refl e
  where
    made : (kid : Rtx) → x ≡ node_of code.Use mode.Void (kid ∷ []) → (code_of kid ≡ code.Reg → IsReg kid) → x ≡ use_rtx u
    made kid is reg =
        let here : use_of_register kid ≡ Some u =
        sym (ap (λ (y : Rtx). use_by (code_of y) (out-Rtx y).kids) is ∙ ap (λ (o : Rtx-F Rtx). use_by o.code o.kids) (out-roll-Rtx _)) ∙ e in
        is ∙ ap (λ (k : Rtx). node_of code.Use mode.Void (k ∷ [])) (use_says kid u here reg)

    by_code : (c : Code) → code_of x ≡ c → use_by (code_of x) (out-Rtx x).kids ≡ Some u → x ≡ use_rtx u
    by_code code.Use is h = let y : IsUse x = used is in made y.kid y.is y.reg
    by_code c is h = absurd (let wrong : use_by c (out-Rtx x).kids ≡ Some u = ap (λ (d : Code). use_by d (out-Rtx x).kids) (sym is) ∙ h in let none : ⊥ = cc in none)

pub if_stood : {A : Type 0} (p : Parsed A) (x : A) → if_stands p ≡ Some x → p ≡ stands x
if_stood (stands y) x e = let same : y ≡ x = cc in ap (λ (z : _). stands z) same
if_stood (construct place name) x e = cc

record UseBack (most : ℕ) (u : ArgUse) : Type 0 where
  pub back : (t : Tree) → Same t (written (use_rtx u)) → use_of t ≡ stands u
  pub fits : Fits most (written (use_rtx u))

use_back : (t : Tree) (u : ArgUse) → use_of t ≡ stands u → UseBack (depth_of t) u
unfolding Back
use_back t u e = at x.0 (if_stood (rtx_in t) x.0 x.1) x.2
  where
    x : (y : Rtx) × (expression_of t ≡ Some y) × (use_in y ≡ Some u)
    x = then_some (expression_of t) use_in u (or_stands t (option_and_then use_in (expression_of t)) u e)

    at : (y : Rtx) → rtx_in t ≡ stands y → use_in y ≡ Some u → UseBack (depth_of t) u
    at y is used =
        let same : y ≡ use_rtx u = in_says y u used (shape_of Top t y is).use_is in
        record {
          back = λ v here. ap (λ (p : Parsed Rtx). or_outside v (option_and_then use_in (if_stands p))) (back Top t y is v (subst (λ (z : Rtx). Same v (written z)) (sym same) here)) ∙ ap (or_outside v) used;
          fits = subst (λ (z : Rtx). Fits (depth_of t) (written z)) same (rtx_fits Top t y is);
        }

-- ---- the chain

pub record UsesBack (most : ℕ) (us : List ArgUse) : Type 0 where
  pub back : (t : Tree) → Same t (uses_tree us) → uses_in t ≡ stands us
  pub fits : Fits most (uses_tree us)

-- the outside of the chain that is printed
abbrev chain_word : List ArgUse → List ℕ
chain_word [] = codes "nil"
chain_word (u ∷ us) = codes "expr_list"

abbrev chain_parts : List ArgUse → List Tree
chain_parts [] = []
chain_parts (u ∷ us) = written (use_rtx u) ∷ uses_tree us ∷ []

opened_chain : (us : List ArgUse) (t : Tree) → Same t (uses_tree us) → Opened t (chain_word us) (chain_parts us)
unfolding uses_tree
opened_chain [] t same = opened t (codes "nil") [] same
opened_chain (u ∷ us) t same = opened t (codes "expr_list") (written (use_rtx u) ∷ uses_tree us ∷ []) same

no_uses_in : (t : Tree) → Same t (uses_tree []) → uses_in t ≡ stands []
no_uses_in t same = by_parts o.parts o.same o.items
  where
    o : Opened t (codes "nil") []
    o = opened_chain [] t same

    by_parts : (ps : List Tree) → AllSame ps [] → items_of t ≡ o.head ∷ ps → uses_in t ≡ stands []
    by_parts [] s is = uses_out t ∙ rw is (rw (word_is (codes "nil") (codes "nil") o.head o.word) refl)
    by_parts (p ∷ ps) s is = absurd s

more_uses_in : (u : ArgUse) (us : List ArgUse) (t : Tree) → ((v : Tree) → Same v (written (use_rtx u)) → use_of v ≡ stands u) → ((v : Tree) → Same v (uses_tree us) → uses_in v ≡ stands us) →
    Same t (uses_tree (u ∷ us)) → uses_in t ≡ stands (u ∷ us)
more_uses_in u us t first rest same = by_parts o.parts o.same o.items
  where
    o : Opened t (codes "expr_list") (written (use_rtx u) ∷ uses_tree us ∷ [])
    o = opened_chain (u ∷ us) t same

    by_parts : (ps : List Tree) → AllSame ps (written (use_rtx u) ∷ uses_tree us ∷ []) → items_of t ≡ o.head ∷ ps → uses_in t ≡ stands (u ∷ us)
    by_parts (element ∷ more ∷ []) s is =
        let head : is_link_head (atom_of o.head) ≡ true = ap is_link_head o.word in
        let whole : is_whole_link (o.head ∷ element ∷ more ∷ []) ≡ true = rw (head, nested_written element (use_rtx u) s.0, (opened_chain us more s.1.0).nested) refl in
        uses_out t ∙ rw is (rw whole (rw (first element s.0) (rw (rest more s.1.0) refl)))
    by_parts [] s is = absurd s
    by_parts (element ∷ []) s is = absurd s.1
    by_parts (element ∷ more ∷ p ∷ ps) s is = absurd s.1.1

nil_fits : (most : ℕ) → Fits (suc most) (uses_tree [])
unfolding uses_tree
nil_fits most = list_fits most (atom (codes "nil") ∷ []) (word_fits most (codes "nil") refl, tt)

no_uses : (most : ℕ) → 1 ≤ most → UsesBack most []
no_uses most le = record { back = no_uses_in; fits = fits_more 1 most (uses_tree []) le (nil_fits 0) }

link_fits : (u : ArgUse) (us : List ArgUse) (most : ℕ) → Fits most (written (use_rtx u)) → Fits most (uses_tree us) → Fits (suc most) (uses_tree (u ∷ us))
unfolding uses_tree
link_fits u us most first rest = list_fits most (atom (codes "expr_list") ∷ written (use_rtx u) ∷ uses_tree us ∷ []) (word_fits most (codes "expr_list") refl, (first, (rest, tt)))

abbrev P : Tree → Type 0
P t = (us : List ArgUse) → uses_in t ≡ stands us → UsesBack (depth_of t) us

in_items : (t : Tree) (items : List Tree) → items_of t ≡ items → AllByRecursion P items → (us : List ArgUse) → uses_by t items (map uses_in items) ≡ stands us → UsesBack (depth_of t) us
in_items t [] is all us e = absurd (let none : ⊥ = cc in none)
in_items t (h ∷ []) is all us e = by_test (is_alone (codes "nil") (items_of t)) e
  where
    deep : 1 ≤ depth_of t
    deep = omega (arith, items_depth t h [] is)

    by_test : (b : Bool) → cond b (stands []) (outside t) ≡ stands us → UsesBack (depth_of t) us
    by_test true e = let same : [] ≡ us = cc in subst (UsesBack (depth_of t)) same (no_uses (depth_of t) deep)
    by_test false e = cc
in_items t (h ∷ element ∷ more ∷ []) is all us e = by_test (is_whole_link (h ∷ element ∷ more ∷ [])) e
  where
    whole : depth_of t ≡ suc (deepest (h ∷ element ∷ more ∷ []))
    whole = items_depth t h (element ∷ more ∷ []) is

    deep : (deepest (element ∷ more ∷ []) ≤ deepest (h ∷ element ∷ more ∷ [])) × (depth_of element ≤ deepest (element ∷ more ∷ [])) × (depth_of more ≤ deepest (element ∷ more ∷ []))
    deep = (rest_deep h (element ∷ more ∷ []), first_deep element (more ∷ []), omega (arith, rest_deep element (more ∷ []), first_deep more []))

    link : (u : ArgUse) (rest : List ArgUse) → use_of element ≡ stands u → uses_in more ≡ stands rest → u ∷ rest ≡ us → UsesBack (depth_of t) us
    link u rest a b same =
        let first : UseBack (depth_of element) u = use_back element u a in
        let others : UsesBack (depth_of more) rest = all.1.1.0 rest b in
        let most : ℕ = deepest (element ∷ more ∷ []) in
        subst (UsesBack (depth_of t)) same (record {
          back = λ v here. more_uses_in u rest v first.back others.back here;
          fits = fits_more (suc most) (depth_of t) (uses_tree (u ∷ rest)) (omega (arith, whole, deep.0))
              (link_fits u rest most (fits_more (depth_of element) most (written (use_rtx u)) deep.1 first.fits) (fits_more (depth_of more) most (uses_tree rest) deep.2 others.fits));
        })

    by_test : (b : Bool) → cond b (link_by (h ∷ element ∷ more ∷ []) (map uses_in (h ∷ element ∷ more ∷ []))) (end_of t) ≡ stands us → UsesBack (depth_of t) us
    by_test true e =
        let s = pair_stands (use_of element) (uses_in more) (λ (u : ArgUse) (rest : List ArgUse). u ∷ rest) us e in
        link s.0 s.1 s.2 s.3 s.4
    by_test false e = let wrong : end_of t ≡ outside t = ap (λ (items : List Tree). cond (is_alone (codes "nil") items) (stands []) (outside t)) is in absurd (let no : outside t ≡ stands us = sym wrong ∙ e in let none : ⊥ = cc in none)
in_items t _ is all us e = absurd (let wrong : end_of t ≡ outside t = ap (λ (items : List Tree). cond (is_alone (codes "nil") items) (stands []) (outside t)) is in let no : outside t ≡ stands us = sym wrong ∙ e in let none : ⊥ = cc in none)

uses_in_back : (t : Tree) (us : List ArgUse) → uses_in t ≡ stands us → UsesBack (depth_of t) us
uses_in_back t = by_items P (λ u all us e. in_items u (items_of u) refl all us (sym (uses_out u) ∙ e)) t

-- ---- the last of some trees

told_back : (most : ℕ) → 1 ≤ most → (o : Option Tree) → ((t : Tree) → o ≡ Some t → depth_of t ≤ most) → (us : List ArgUse) → uses_told o ≡ stands us → UsesBack most us
told_back most le None deep us e = let same : [] ≡ us = cc in subst (UsesBack most) same (no_uses most le)
told_back most le (Some t) deep us e = by_test (is_link (items_of t)) e
  where
    by_test : (b : Bool) → cond b (uses_in t) (stands []) ≡ stands us → UsesBack most us
    by_test false h = let same : [] ≡ us = cc in subst (UsesBack most) same (no_uses most le)
    by_test true h = let b : UsesBack (depth_of t) us = uses_in_back t us h in record { back = b.back; fits = fits_more (depth_of t) most (uses_tree us) (deep t refl) b.fits }

pub uses_back : (most : ℕ) (rest : List Tree) (us : List ArgUse) → 1 ≤ most → deepest rest ≤ most → uses_of rest ≡ stands us → UsesBack most us
uses_back most rest us le deep e = told_back most le (slice_get rest (length rest - 1)) (λ t got. omega (arith, got_deep rest (length rest - 1) t got, deep)) us e

-- the chain that is printed tells the uses
pub uses_again : (most : ℕ) (us : List ArgUse) (t : Tree) → UsesBack most us → Same t (uses_tree us) → uses_of (t ∷ []) ≡ stands us
uses_again most [] t b same =
    let o : Opened t (codes "nil") [] = opened_chain [] t same in
    let no_link : is_link (items_of t) ≡ false = ap is_link o.items ∙ ap is_link_head o.word in
    rw no_link refl
uses_again most (u ∷ us) t b same =
    let o : Opened t (codes "expr_list") (written (use_rtx u) ∷ uses_tree us ∷ []) = opened_chain (u ∷ us) t same in
    let link : is_link (items_of t) ≡ true = ap is_link o.items ∙ ap is_link_head o.word in
    rw link (b.back t same)
