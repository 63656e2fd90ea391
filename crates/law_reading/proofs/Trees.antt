-- The numbers of the registers in an expression that was read from a tree.
use Rattle.std.proofs.Common.{◌≡◌, ℕ, ◌^◌, ◌<◌, ◌⊎◌, inl, inr, ◌&&◌, Bool, true, List, [], ◌∷◌, refl, sym, ap, subst, ◌∙◌, arith}
use Rattle.std.specs.Prelude.{ℤ, pos}
use Rattle.std.specs.List.{list_all, AllByRecursion}
use Rattle.std.proofs.lemmas.Bool.{and_from, lt-ltb}
use Rattle.rtx_tree.specs.declared.code.Code.{Code}
use Rattle.rtx_tree.specs.declared.code.Code.TheVariants.{Reg, ConstInt, SymbolRef, LabelRef, Parallel}
use Rattle.rtx_tree.specs.declared.code.Mode.{Mode}
use Rattle.rtx_tree.specs.declared.code.Mode.TheVariants.{Void}
use Rattle.rtx_tree.specs.declared.tree.Rtx.{Rtx}
use Rattle.rtx_tree.specs.Patterns.{label_rtx}
use Rattle.rtx_tree.specs.Tree.{RtxHead, head_of, kids_of, tree_of, node_of, named_of, reg_of, const_of}
use Rattle.rtx_tree.proofs.Trees.{head_of-tree, kids_of-tree}
use Rattle.lisp_read.specs.declared.head.Opening.{Opening}
use Rattle.lisp_read.specs.declared.position.Position.{Position}
use Rattle.lisp_read.specs.declared.tree.Tree.{Tree}
use Rattle.lisp_read.specs.Expression.{read_at}
use Rattle.lisp_read.specs.Parsed.{stands}
use Rattle.lisp_read.specs.Shape.{vector_of}
use Rattle.rtl_print.proofs.Induction.{Holds, EachAt, Elements, holds_of_each}
use Rattle.rtl_print.proofs.ReadCases.{Leaf}
use Rattle.rtl_print.proofs.Registers.{IsRegister}
use Rattle.sym_insns.specs.Shape.{is_natural, all_natural}
use Rattle.sym_insns.proofs.Shapes.{natural_out}

-- no register in a tree has a number below 0
abbrev pub Natural : Rtx → Type 0
Natural x = all_natural x ≡ true

abbrev AreNatural : List Rtx → Type 0
AreNatural = AllByRecursion Natural

-- ---- trees

of_tree : (h : RtxHead) (kids : List Rtx) → all_natural (tree_of h kids) ≡ (is_natural h.code h.number && list_all all_natural kids)
of_tree h kids =
    natural_out (tree_of h kids)
    ∙ ap (λ (g : RtxHead). is_natural g.code g.number && list_all all_natural (kids_of (tree_of h kids))) (head_of-tree h kids)
    ∙ ap (λ (xs : List Rtx). is_natural h.code h.number && list_all all_natural xs) (kids_of-tree h kids)

all_of : (kids : List Rtx) → AreNatural kids → list_all all_natural kids ≡ true
all_of [] natural = refl
all_of (x ∷ kids) natural = and_from (all_natural x) (list_all all_natural kids) natural.0 (all_of kids natural.1)

-- a number below 2 ^ 63 is that of a register, as it is of anything
no_less : (c : Code) (n : ℕ) → n < 2 ^ 63 → is_natural c (pos n) ≡ true
no_less Reg n less = lt-ltb n (2 ^ 63) less
no_less _ n less = refl

pub natural_node : (c : Code) (m : Mode) (kids : List Rtx) → AreNatural kids → Natural (node_of c m kids)
natural_node c m kids natural =
    of_tree (record { code = c; mode = m; number = pos 0; name = [] }) kids
    ∙ and_from (is_natural c (pos 0)) (list_all all_natural kids) (no_less c 0 (omega arith)) (all_of kids natural)

natural_register : (m : Mode) (reg : ℕ) → reg < 2 ^ 63 → Natural (reg_of m reg)
natural_register m reg less =
    of_tree (record { code = Reg; mode = m; number = pos reg; name = [] }) []
    ∙ and_from (is_natural Reg (pos reg)) true (no_less Reg reg less) refl

natural_constant : (z : ℤ) → Natural (const_of z)
natural_constant z = of_tree (record { code = ConstInt; mode = Void; number = z; name = [] }) []

natural_label : (uid : ℕ) → Natural (label_rtx uid)
natural_label uid = natural_node LabelRef Void (const_of (pos uid) ∷ []) (natural_constant (pos uid), tt)

natural_named : (m : Mode) (name : List ℕ) → Natural (named_of SymbolRef m name)
natural_named m name = of_tree (record { code = SymbolRef; mode = m; number = pos 0; name = name }) []

-- ---- reading

abbrev Reads : Position → Tree → Rtx → Type 0
Reads p t x = Natural x

few : (r : ℕ) → IsRegister r → r < 2 ^ 63
few r (inl less) = omega (arith, less)
few r (inr within) = let less = within.1 in omega (arith, less)

natural_leaf : (p : Position) (h : Opening) (t : Tree) (x : Rtx) → Leaf p h t x → Natural x
natural_leaf p h t x (Leaf.register r c is allowed same) = subst Natural (sym same) (natural_register h.mode r (few r is))
natural_leaf p h t x (Leaf.number n c fits same) = subst Natural (sym same) (natural_constant n)
natural_leaf p h t x (Leaf.label uid c less same) = subst Natural (sym same) (natural_label uid)
natural_leaf p h t x (Leaf.symbol a l more name c items nested symbol same) = subst Natural (sym same) (natural_named h.mode name)

natural_each : (ps : List Position) (ts : List Tree) (kids : List Rtx) → EachAt Reads ps ts kids → AreNatural kids
natural_each [] ts [] all = tt
natural_each (p ∷ ps) (t ∷ ts) (x ∷ kids) all = (all.1, natural_each ps ts kids all.2)
natural_each [] ts (x ∷ kids) all = absurd all
natural_each (p ∷ ps) [] kids all = absurd all
natural_each (p ∷ ps) (t ∷ ts) [] all = absurd all

natural_elements : (ts : List Tree) (kids : List Rtx) → Elements Reads ts kids → AreNatural kids
natural_elements [] [] all = tt
natural_elements (t ∷ ts) (x ∷ kids) all = (all.1, natural_elements ts kids all.2)
natural_elements [] (x ∷ kids) all = absurd all
natural_elements (t ∷ ts) [] all = absurd all

holds : Holds Reads
holds = record {
  leaf = λ p h t a ts x placed items l. natural_leaf p h t x l;
  parallel = λ p h t a v kids placed c items is all. natural_node Parallel Void kids (natural_elements (vector_of v) kids all);
  node = λ p h t a ts ps kids placed items parts all. natural_node h.code h.mode kids (natural_each ps ts kids all);
}

-- no register in an expression that a tree stands for has a number below 0
pub natural_read : (p : Position) (t : Tree) (x : Rtx) → read_at p t ≡ stands x → Natural x
natural_read p t x is = holds_of_each Reads holds t p x is
