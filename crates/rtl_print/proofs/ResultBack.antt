-- The result of a function is read back.
use Rattle.std.proofs.Common.{◌≡◌, ◌≤◌, ℕ, suc, pos, List, [], ◌∷◌, Bool, true, false, ◌&&◌, Option, Some, None, cond, codes, refl, sym, ap, subst, ◌∙◌, arith}
use Rattle.std.specs.Prelude.{option_map, option_and_then}
use Rattle.rtx_tree.specs.declared.code.Code.{Code}
use Rattle.rtx_tree.specs.declared.code.Code.TheVariants as code
use Rattle.rtx_tree.specs.declared.code.Mode.{Mode}
use Rattle.rtx_tree.specs.declared.tree.Rtx.{Rtx, out-Rtx, out-roll-Rtx}
use Rattle.rtx_tree.specs.declared.tree.Rtx.TheOpen.{Rtx-F}
use Rattle.rtx_tree.specs.Tree.{reg_of}
use Rattle.lisp_read.specs.declared.position.Position.TheVariants.{Top}
use Rattle.lisp_read.specs.declared.tree.Tree.{Tree}
use Rattle.lisp_read.specs.Expression.{rtx_in}
use Rattle.lisp_read.specs.Leaf.{below}
use Rattle.lisp_read.specs.Parsed.{Parsed, stands, or_outside}
use Rattle.lisp_read.specs.Shape.{items_of, is_nested, is_text, is_word}
use Rattle.rtl_read.specs.declared.parts.Returned.{Returned}
use Rattle.rtl_read.specs.Function.{returned_in, returned_register, returned_of, result_of, sole_part, return_by, return_of, crtl_by, crtl_of}
use Rattle.rtl_read.specs.Word.{if_stands, expression_of, is_alone}
use Rattle.tree_print.specs.Print.{depth_of}
use Rattle.rtl_print.specs.Print.{head_text}
use Rattle.rtl_print.proofs.Back.{back}
use Rattle.rtl_print.proofs.FunctionTree.{result_tree}
use Rattle.rtl_print.proofs.Good.{Fits, fits_more, list_fits, word_fits, rtx_fits, first_deep, rest_deep}
use Rattle.rtl_print.proofs.Nodes.{nested_written}
use Rattle.rtl_print.proofs.Numbers.{if_some, map_some, then_some, below_less}
use Rattle.rtl_print.proofs.Opened.{Opened, opened}
use Rattle.rtl_print.proofs.Parsing.{or_stands}
use Rattle.rtl_print.proofs.Same.{Same, AllSame}
use Rattle.rtl_print.proofs.Shallow.{items_depth}
use Rattle.rtl_print.proofs.Shapes.{code_of, IsReg, shape_of}
use Rattle.rtl_print.proofs.UsesBack.{if_stood}
use Rattle.rtl_print.proofs.Words.{Back}
use Rattle.rtl_print.proofs.Written.{atom, list, written, written_of}
use Rattle.rtx_tree.specs.Registers.{register_text}

pub record ReturnBack (most : ℕ) (r : Returned) : Type 0 where
  pub back : (t : Tree) → Same t (result_tree r.mode r.reg) → crtl_of t ≡ stands (Some r)
  pub fits : Fits most (result_tree r.mode r.reg)

-- of no result nothing is asked
abbrev pub IfReturned : ℕ → Option Returned → Type 0
IfReturned most None = Unit {0}
IfReturned most (Some r) = ReturnBack most r

-- ---- the register

returned_says : (x : Rtx) (r : Returned) → returned_of x ≡ Some r → (code_of x ≡ code.Reg → IsReg x) → x ≡ reg_of r.mode r.reg
returned_says x r e reg = by_code (code_of x) refl e
  where
    made : (m : Mode) (n : ℕ) → x ≡ reg_of m n → x ≡ reg_of r.mode r.reg
    made m n is =
        let here : returned_register code.Reg m (pos n) ≡ Some r =
        sym (ap returned_of is ∙ ap (λ (o : Rtx-F Rtx). returned_register o.code o.mode o.number) (out-roll-Rtx _)) ∙ e in
        let k = map_some (below 4294967296 (pos n)) (returned_in m) r here in
        is ∙ (same_number m n k.0 (below_less 4294967296 (pos n) k.0 k.1).0 ∙ ap (λ (s : Returned). reg_of s.mode s.reg) k.2)
      where
        same_number : (m : Mode) (n k : ℕ) → pos n ≡ pos k → reg_of m n ≡ reg_of m k
        same_number m n k e = let same : n ≡ k = cc in ap (reg_of m) same

    by_code : (c : Code) → code_of x ≡ c → returned_register (code_of x) (out-Rtx x).mode (out-Rtx x).number ≡ Some r → x ≡ reg_of r.mode r.reg
    by_code code.Reg is h = let y : IsReg x = reg is in made y.mode y.number y.is
    by_code c is h = absurd (let wrong : returned_register c (out-Rtx x).mode (out-Rtx x).number ≡ Some r = ap (λ (d : Code). returned_register d (out-Rtx x).mode (out-Rtx x).number) (sym is) ∙ h in let none : ⊥ = cc in none)

record RegisterBack (most : ℕ) (r : Returned) : Type 0 where
  pub back : (t : Tree) → Same t (written (reg_of r.mode r.reg)) → result_of t ≡ stands (Some r)
  pub fits : Fits most (written (reg_of r.mode r.reg))

not_alone : (t : Tree) (m : Mode) (n : ℕ) → Same t (written (reg_of m n)) → is_alone (codes "nil") (items_of t) ≡ false
not_alone t m n same = ap (is_alone (codes "nil")) o.items ∙ by_parts o.parts o.same
  where
    o : Opened t (head_text code.Reg m) (atom (register_text n) ∷ [])
    o = opened t (head_text code.Reg m) (atom (register_text n) ∷ []) (subst (Same t) (written_of (record { code = code.Reg; mode = m; number = pos n; name = [] }) []) same)

    by_parts : (ps : List Tree) → AllSame ps (atom (register_text n) ∷ []) → is_alone (codes "nil") (o.head ∷ ps) ≡ false
    by_parts [] s = absurd s
    by_parts (p ∷ ps) s = refl

register_back : (t : Tree) (r : Returned) → option_and_then returned_of (expression_of t) ≡ Some r → RegisterBack (depth_of t) r
unfolding Back
register_back t r e = at x.0 (if_stood (rtx_in t) x.0 x.1) x.2
  where
    x : (y : Rtx) × (expression_of t ≡ Some y) × (returned_of y ≡ Some r)
    x = then_some (expression_of t) returned_of r e

    at : (y : Rtx) → rtx_in t ≡ stands y → returned_of y ≡ Some r → RegisterBack (depth_of t) r
    at y is returned =
        let same : y ≡ reg_of r.mode r.reg = returned_says y r returned (shape_of Top t y is).reg in
        record {
          back = λ u here.
              rw (not_alone u r.mode r.reg here)
              (ap (λ (p : Parsed Rtx). or_outside u (option_map (λ (s : Returned). Some s) (option_and_then returned_of (if_stands p)))) (back Top t y is u (subst (λ (z : Rtx). Same u (written z)) (sym same) here))
              ∙ ap (λ (o : Option Returned). or_outside u (option_map (λ (s : Returned). Some s) o)) returned);
          fits = subst (λ (z : Rtx). Fits (depth_of t) (written z)) same (rtx_fits Top t y is);
        }

-- ---- the lists round it

sole_says : (word : List ℕ) (items : List Tree) (t : Tree) → sole_part word items ≡ Some t → (a : Tree) × (items ≡ a ∷ t ∷ [])
sole_says word [] t e = cc
sole_says word (a ∷ []) t e = cc
sole_says word (a ∷ b ∷ c ∷ more) t e = cc
sole_says word (a ∷ b ∷ []) t e =
    let s = if_some (is_word word a && is_nested b) b t e in
    (a, ap (λ (u : Tree). a ∷ u ∷ []) s.1)

sole_again : (word : List ℕ) (t u : Tree) (o : Opened t word (u ∷ [])) → is_text word (Some word) ≡ true → ((v : Tree) → Same v u → is_nested v ≡ true) → (v : Tree) × (items_of t ≡ o.head ∷ v ∷ []) × (sole_part word (items_of t) ≡ Some v) × Same v u
sole_again word t u o is nested = by_parts o.parts o.same o.items
  where
    by_parts : (ps : List Tree) → AllSame ps (u ∷ []) → items_of t ≡ o.head ∷ ps → (v : Tree) × (items_of t ≡ o.head ∷ v ∷ []) × (sole_part word (items_of t) ≡ Some v) × Same v u
    by_parts (v ∷ []) s items =
        let head : is_word word o.head ≡ true = ap (is_text word) o.word ∙ is in
        (v, items, ap (sole_part word) items ∙ rw (head, nested v s.0) refl, s.0)
    by_parts [] s items = absurd s
    by_parts (v ∷ w ∷ ps) s items = absurd s.1

deep_sole : (t a u : Tree) → items_of t ≡ a ∷ u ∷ [] → suc (depth_of u) ≤ depth_of t
deep_sole t a u items = omega (arith, items_depth t a (u ∷ []) items, rest_deep a (u ∷ []), first_deep u [])

abbrev return_tree : Returned → Tree
return_tree r = list (atom (codes "return_rtx") ∷ written (reg_of r.mode r.reg) ∷ [])

return_again : (r : Returned) (most : ℕ) → RegisterBack most r → (t : Tree) → Same t (return_tree r) → return_of t ≡ stands (Some r)
return_again r most b t same =
    let o : Opened t (codes "return_rtx") (written (reg_of r.mode r.reg) ∷ []) = opened t (codes "return_rtx") (written (reg_of r.mode r.reg) ∷ []) same in
    let s = sole_again (codes "return_rtx") t (written (reg_of r.mode r.reg)) o refl (λ v here. nested_written v (reg_of r.mode r.reg) here) in
    ap (return_by t) s.2 ∙ b.back s.0 s.3

crtl_again : (r : Returned) (most : ℕ) → RegisterBack most r → (t : Tree) → Same t (result_tree r.mode r.reg) → crtl_of t ≡ stands (Some r)
crtl_again r most b t same =
    let o : Opened t (codes "crtl") (return_tree r ∷ []) = opened t (codes "crtl") (return_tree r ∷ []) same in
    let s = sole_again (codes "crtl") t (return_tree r) o refl (λ v here. (opened v (codes "return_rtx") (written (reg_of r.mode r.reg) ∷ []) here).nested) in
    let alone : is_alone (codes "crtl") (items_of t) ≡ false = ap (is_alone (codes "crtl")) s.1 in
    rw alone (ap (crtl_by t) s.2 ∙ return_again r most b s.0 s.3)

crtl_fits : (r : Returned) (most : ℕ) → Fits most (written (reg_of r.mode r.reg)) → Fits (suc (suc most)) (result_tree r.mode r.reg)
crtl_fits r most fits =
    list_fits (suc most) (atom (codes "crtl") ∷ return_tree r ∷ []) (
      word_fits (suc most) (codes "crtl") refl,
      (list_fits most (atom (codes "return_rtx") ∷ written (reg_of r.mode r.reg) ∷ []) (word_fits most (codes "return_rtx") refl, (fits, tt)), tt),
    )

-- ---- reading

in_result : (t : Tree) (r : Returned) → result_of t ≡ stands (Some r) → RegisterBack (depth_of t) r
in_result t r e = by_test (is_alone (codes "nil") (items_of t)) e
  where
    by_test : (b : Bool) → cond b (stands None) (or_outside t (option_map (λ (s : Returned). Some s) (option_and_then returned_of (expression_of t)))) ≡ stands (Some r) → RegisterBack (depth_of t) r
    by_test true h = absurd (let none : ⊥ = cc in none)
    by_test false h =
        let s = map_some (option_and_then returned_of (expression_of t)) (λ (s : Returned). Some s) (Some r) (or_stands t (option_map (λ (s : Returned). Some s) (option_and_then returned_of (expression_of t))) (Some r) h) in
        let same : s.0 ≡ r = some_is s.0 r s.2 in
        register_back t r (s.1 ∙ ap (λ (k : Returned). Some k) same)
      where
        some_is : (a b : Returned) → Some a ≡ Some b → a ≡ b
        some_is a b e = cc

in_return : (t : Tree) (r : Returned) (o : Option Tree) → sole_part (codes "return_rtx") (items_of t) ≡ o → return_by t o ≡ stands (Some r) → (most : ℕ) × (suc most ≤ depth_of t) × RegisterBack most r
in_return t r None is e = absurd (let none : ⊥ = cc in none)
in_return t r (Some u) is e = let s = sole_says (codes "return_rtx") (items_of t) u is in (depth_of u, deep_sole t s.0 u s.1, in_result u r e)

in_crtl : (t : Tree) (r : Returned) (o : Option Tree) → sole_part (codes "crtl") (items_of t) ≡ o → crtl_by t o ≡ stands (Some r) → ReturnBack (depth_of t) r
in_crtl t r None is e = absurd (let none : ⊥ = cc in none)
in_crtl t r (Some u) is e =
    let s = sole_says (codes "crtl") (items_of t) u is in
    let b = in_return u r (sole_part (codes "return_rtx") (items_of u)) refl e in
    record { back = crtl_again r b.0 b.2; fits = fits_more (suc (suc b.0)) (depth_of t) (result_tree r.mode r.reg) (omega (arith, b.1, deep_sole t s.0 u s.1)) (crtl_fits r b.0 b.2.fits) }

pub crtl_back : (t : Tree) (o : Option Returned) → crtl_of t ≡ stands o → IfReturned (depth_of t) o
crtl_back t None e = tt
crtl_back t (Some r) e = by_test (is_alone (codes "crtl") (items_of t)) e
  where
    by_test : (b : Bool) → cond b (stands None) (crtl_by t (sole_part (codes "crtl") (items_of t))) ≡ stands (Some r) → ReturnBack (depth_of t) r
    by_test true h = absurd (let none : ⊥ = cc in none)
    by_test false h = in_crtl t r (sole_part (codes "crtl") (items_of t)) refl h
