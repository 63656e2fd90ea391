-- What an expression is that begins as a register, as a use, or as a `parallel`.
use Rattle.std.proofs.Common.{◌≡◌, ◌==◌, ◌+◌, ℕ, List, [], ◌∷◌, length, true, Some, None, refl, sym, ap, subst, ◌∙◌}
use Rattle.rtx_tree.specs.declared.code.Code.{Code}
use Rattle.rtx_tree.specs.declared.code.Code.TheVariants as code
use Rattle.rtx_tree.specs.declared.code.Mode.{Mode}
use Rattle.rtx_tree.specs.declared.code.Mode.TheVariants as mode
use Rattle.rtx_tree.specs.declared.tree.Rtx.{Rtx, out-Rtx, out-roll-Rtx}
use Rattle.rtx_tree.specs.declared.tree.Rtx.TheOpen.{Rtx-F}
use Rattle.rtx_tree.specs.Tree.{node_of, reg_of}
use Rattle.lisp_read.specs.declared.head.Opening.{Opening}
use Rattle.lisp_read.specs.declared.position.Position.{Position}
use Rattle.lisp_read.specs.declared.position.Position.TheVariants.{Value, Pattern}
use Rattle.lisp_read.specs.declared.tree.Tree.{Tree}
use Rattle.rtx_tree.specs.Code.{class_of_code}
use Rattle.lisp_read.specs.Expression.{class_of, read_at, exactly, positions_of}
use Rattle.lisp_read.specs.Parsed.{stands, each_parsed}
use Rattle.lisp_read.specs.Shape.{items_of, vector_of, is_vector}
use Rattle.rtl_print.proofs.Induction.{Holds, EachAt, Elements, holds_of_each}
use Rattle.rtl_print.proofs.Modes.{Placed, placed_bare}
use Rattle.rtl_print.proofs.Numbers.{if_some}
use Rattle.rtl_print.proofs.Positions.{parts_positions}
use Rattle.rtl_print.proofs.ReadCases.{Leaf}

abbrev pub code_of : Rtx → Code
code_of x = (out-Rtx x).code

pub record IsReg (x : Rtx) : Type 0 where
  pub mode : Mode
  pub number : ℕ
  pub is : x ≡ reg_of mode number

pub record IsUse (x : Rtx) : Type 0 where
  pub kid : Rtx
  pub is : x ≡ node_of code.Use mode.Void (kid ∷ [])
  pub reg : code_of kid ≡ code.Reg → IsReg kid

-- each tree stands for an element
pub record IsParallel (t : Tree) (x : Rtx) : Type 0 where
  pub a : Tree
  pub v : Tree
  pub kids : List Rtx
  pub items : items_of t ≡ a ∷ v ∷ []
  pub vector : is_vector v ≡ true
  pub each : each_parsed (read_at Pattern) (vector_of v) ≡ stands kids
  pub is : x ≡ node_of code.Parallel mode.Void kids

pub record Shape (p : Position) (t : Tree) (x : Rtx) : Type 0 where
  pub reg : code_of x ≡ code.Reg → IsReg x
  pub use_is : code_of x ≡ code.Use → IsUse x
  pub parallel : code_of x ≡ code.Parallel → IsParallel t x

-- ---- the code of what is made

made_code : (x y : Rtx) (c : Code) → x ≡ y → code_of y ≡ c → code_of x ≡ c
made_code x y c same is = ap code_of same ∙ is

other : (p : Position) (t : Tree) (x : Rtx) (c : Code) → code_of x ≡ c → (c ≡ code.Reg → ⊥) → (c ≡ code.Use → ⊥) → (c ≡ code.Parallel → ⊥) → Shape p t x
other p t x c is reg used parallel = record {
  reg = λ e. absurd (reg (sym is ∙ e));
  use_is = λ e. absurd (used (sym is ∙ e));
  parallel = λ e. absurd (parallel (sym is ∙ e));
}

leaf : (p : Position) (h : Opening) (t : Tree) (x : Rtx) → Leaf p h t x → Shape p t x
leaf p h t x (Leaf.register r c is fits same) =
    let code_is : code_of x ≡ code.Reg = made_code x (reg_of h.mode r) code.Reg same (ap (λ (o : Rtx-F Rtx). o.code) (out-roll-Rtx _)) in
    record {
      reg = λ e. record { mode = h.mode; number = r; is = same };
      use_is = λ e. absurd (let wrong : code.Reg ≡ code.Use = sym code_is ∙ e in let none : ⊥ = cc in none);
      parallel = λ e. absurd (let wrong : code.Reg ≡ code.Parallel = sym code_is ∙ e in let none : ⊥ = cc in none);
    }
leaf p h t x (Leaf.number n c fits same) =
    other p t x code.ConstInt (ap code_of same ∙ ap (λ (o : Rtx-F Rtx). o.code) (out-roll-Rtx _)) (λ e. let none : ⊥ = cc in none) (λ e. let none : ⊥ = cc in none) (λ e. let none : ⊥ = cc in none)
leaf p h t x (Leaf.label uid c fits same) =
    other p t x code.LabelRef (ap code_of same ∙ ap (λ (o : Rtx-F Rtx). o.code) (out-roll-Rtx _)) (λ e. let none : ⊥ = cc in none) (λ e. let none : ⊥ = cc in none) (λ e. let none : ⊥ = cc in none)
leaf p h t x (Leaf.symbol a l more name c items inner is same) =
    other p t x code.SymbolRef (ap code_of same ∙ ap (λ (o : Rtx-F Rtx). o.code) (out-roll-Rtx _)) (λ e. let none : ⊥ = cc in none) (λ e. let none : ⊥ = cc in none) (λ e. let none : ⊥ = cc in none)

elements_each : (ts : List Tree) (kids : List Rtx) → Elements Shape ts kids → each_parsed (read_at Pattern) ts ≡ stands kids
elements_each [] [] all = refl
elements_each (t ∷ ts) (x ∷ xs) all = rw all.0 (rw (elements_each ts xs all.2) refl)
elements_each [] (x ∷ xs) all = absurd all
elements_each (t ∷ ts) [] all = absurd all

node_code : (c : Code) (m : Mode) (kids : List Rtx) → code_of (node_of c m kids) ≡ c
node_code c m kids = ap (λ (o : Rtx-F Rtx). o.code) (out-roll-Rtx _)

parallel_shape : (p : Position) (t a v : Tree) (kids : List Rtx) → items_of t ≡ a ∷ v ∷ [] → is_vector v ≡ true → Elements Shape (vector_of v) kids → Shape p t (node_of code.Parallel mode.Void kids)
parallel_shape p t a v kids items is all = record {
  reg = λ e. absurd (let wrong : code.Parallel ≡ code.Reg = sym (node_code code.Parallel mode.Void kids) ∙ e in let none : ⊥ = cc in none);
  use_is = λ e. absurd (let wrong : code.Parallel ≡ code.Use = sym (node_code code.Parallel mode.Void kids) ∙ e in let none : ⊥ = cc in none);
  parallel = λ e. record { a = a; v = v; kids = kids; items = items; vector = is; each = elements_each (vector_of v) kids all; is = refl };
}

-- no node has the code of a register or of a `parallel`
no_node : (c d : Code) (items : List Tree) (ps : List Position) → c ≡ d → positions_of (class_of_code c) items ≡ Some ps → positions_of (class_of_code d) items ≡ Some ps
no_node c d items ps e h = subst (λ (k : Code). positions_of (class_of_code k) items ≡ Some ps) e h

one_kid : (ts : List Tree) (kids : List Rtx) → EachAt Shape (Value ∷ []) ts kids → (y : Rtx) × (kids ≡ y ∷ []) × (code_of y ≡ code.Reg → IsReg y)
one_kid (t ∷ ts) (y ∷ []) all = (y, refl, all.1.reg)
one_kid [] kids all = absurd all
one_kid (t ∷ ts) [] all = absurd all
one_kid (t ∷ ts) (y ∷ z ∷ more) all = absurd all.2

used_node : (p : Position) (h : Opening) (a : Tree) (ts : List Tree) (ps : List Position) (kids : List Rtx) → Placed p h → h.code ≡ code.Use → positions_of (class_of h) (a ∷ ts) ≡ Some ps → EachAt Shape ps ts kids → IsUse (node_of h.code h.mode kids)
used_node p h a ts ps kids s is parts all =
    let at : exactly (Value ∷ []) (a ∷ ts) ≡ Some ps = no_node h.code code.Use (a ∷ ts) ps is parts in
    let ps_is : Value ∷ [] ≡ ps = (if_some (length (a ∷ ts) == length (Value ∷ []) + 1) (Value ∷ []) ps at).1 in
    let k = one_kid ts kids (subst (λ (q : List Position). EachAt Shape q ts kids) (sym ps_is) all) in
    let void : h.mode ≡ mode.Void = placed_bare p h (rw is refl) s in
    record { kid = k.0; is = ap (λ (c : Code). node_of c h.mode kids) is ∙ (ap (λ (m : Mode). node_of code.Use m kids) void ∙ ap (node_of code.Use mode.Void) k.1); reg = k.2 }

node_shape : (p : Position) (h : Opening) (t a : Tree) (ts : List Tree) (ps : List Position) (kids : List Rtx) → Placed p h → positions_of (class_of h) (a ∷ ts) ≡ Some ps → EachAt Shape ps ts kids → Shape p t (node_of h.code h.mode kids)
node_shape p h t a ts ps kids s parts all = record {
  reg = λ e. absurd (let wrong : None ≡ Some ps = no_node h.code code.Reg (a ∷ ts) ps (sym (node_code h.code h.mode kids) ∙ e) parts in let none : ⊥ = cc in none);
  use_is = λ e. used_node p h a ts ps kids s (sym (node_code h.code h.mode kids) ∙ e) parts all;
  parallel = λ e. absurd (let wrong : None ≡ Some ps = no_node h.code code.Parallel (a ∷ ts) ps (sym (node_code h.code h.mode kids) ∙ e) parts in let none : ⊥ = cc in none);
}

holds : Holds Shape
holds = record {
  leaf = λ p h t a ts x placed items l. leaf p h t x l;
  parallel = λ p h t a v kids placed c items is all. parallel_shape p t a v kids items is all;
  node = λ p h t a ts ps kids placed items parts all. node_shape p h t a ts ps kids placed (parts_positions (class_of h) (a ∷ ts) ps parts).0 all;
}

pub shape_of : (p : Position) (t : Tree) (x : Rtx) → read_at p t ≡ stands x → Shape p t x
shape_of p t x e = holds_of_each Shape holds t p x e
