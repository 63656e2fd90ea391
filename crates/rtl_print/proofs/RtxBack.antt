-- An expression that a tree of a text stands for is read back from its text.
use Rattle.std.proofs.Common.{◌≡◌, ◌≤◌, max, ℕ, List, [], ◌∷◌, sym, subst, ◌∙◌, arith}
use Rattle.std.proofs.lemmas.List.{append-nil}
use Rattle.std.proofs.lemmas.List.Concat.{flat_map-cons}
use Rattle.rtx_tree.specs.declared.tree.Rtx.{Rtx}
use Rattle.lisp_read.specs.declared.position.Position.{Position}
use Rattle.lisp_read.specs.declared.tree.Tree.{Tree}
use Rattle.lisp_read.specs.Part.{Part, parts_of, parts_of_all}
use Rattle.lisp_read.specs.Reading.{ReadsAs, Trees}
use Rattle.rtx_tree.specs.Limit.{most_open}
use Rattle.tree_print.specs.Print.{depth_of}
use Rattle.tree_print.proofs.SpellsPrinted.{SpellsAs, spells_printed}
use Rattle.rtl_print.specs.Back.{IsReadableAt, ReadsBackAt}
use Rattle.rtl_print.specs.Print.{printed}
use Rattle.rtl_print.proofs.Admitted.{admitted, all_admitted}
use Rattle.rtl_print.proofs.Back.{back}
use Rattle.rtl_print.proofs.ReadBack.{IsRead, is_read}
use Rattle.rtl_print.proofs.Same.{AllSame}
use Rattle.rtl_print.proofs.Shallow.{shallow}
use Rattle.rtl_print.proofs.TreeText.{text_is}
use Rattle.rtl_print.proofs.Words.{Back}
use Rattle.rtl_print.proofs.Written.{written}

pub spells_rtx : (x : Rtx) → SpellsAs (parts_of (written x)) (printed x)
spells_rtx x = subst (SpellsAs (parts_of (written x))) (sym (text_is x)) (spells_printed (written x))

-- the parts of one tree
pub one_tree : (t : Tree) → parts_of_all (t ∷ []) ≡ parts_of t
one_tree t = flat_map-cons parts_of t [] ∙ append-nil (parts_of t)

one_deep : (n most : ℕ) → n ≤ most → max n 0 ≤ most
one_deep n most le = grind (arith, le)

pub rtx_reads_back : (p : Position) (x : Rtx) → IsReadableAt p x → ReadsBackAt p x
unfolding Back
rtx_reads_back p x h = by_trees r.trees r.reads r.same
  where
    low : depth_of (written x) ≤ most_open
    low = omega (arith, shallow p h.tree x h.stands_for, h.shallow)

    r : IsRead (printed x) (written x ∷ [])
    r = is_read (written x ∷ []) (printed x) (all_admitted (written x ∷ []) (admitted p h.tree x h.stands_for, tt)) (one_deep (depth_of (written x)) most_open low)
        (subst (λ (ps : List Part). SpellsAs ps (printed x)) (sym (one_tree (written x))) (spells_rtx x))

    by_trees : (us : List Tree) → ReadsAs (printed x) (Trees us) → AllSame us (written x ∷ []) → ReadsBackAt p x
    by_trees (u ∷ []) reads same = record { tree = u; reads = reads; stands_for = back p h.tree x h.stands_for u same.0 }
    by_trees [] reads same = absurd same
    by_trees (u ∷ v ∷ us) reads same = absurd same.1
