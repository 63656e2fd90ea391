-- A text that spells the parts of trees is read as these, places aside.
use Rattle.std.proofs.Common.{◌≡◌, ◌≤◌, ℕ, List, [], ◌++◌, map, Some, sym, ap, subst, ◌∙◌}
use Rattle.std.proofs.lemmas.List.{append-nil}
use Rattle.lisp_read.specs.declared.tree.Tree.{Tree}
use Rattle.lisp_read.specs.Places.{start, place_after}
use Rattle.lisp_read.specs.Part.{Part, parts_of_all}
use Rattle.lisp_read.specs.Nesting.{still_open}
use Rattle.lisp_read.specs.Text as text
use Rattle.lisp_read.specs.Text.{Spells, IsText}
use Rattle.lisp_read.specs.Reading.{ReadsAs, Trees}
use Rattle.rtx_tree.specs.Limit.{most_open}
use Rattle.lisp_read.proofs.Accepts.{accepts_text}
use Rattle.lisp_read.proofs.Builds.{trees_of}
use Rattle.lisp_read.proofs.Depths.{never_where_read}
use Rattle.tree_print.specs.Print.{AreAdmitted}
use Rattle.tree_print.proofs.Unplaced.{bare, same_unplaced}
use Rattle.tree_print.proofs.Peaks.{trees_balanced, Below, all_below}
use Rattle.tree_print.proofs.PrintsBack.{still_open_bare, to_bare, of_bare, shallow}
use Rattle.tree_print.proofs.SpellsPrinted.{SpelledAs, SpellsAs}
use Rattle.rtl_print.proofs.Same.{AllSame, same_all}
use Rattle.rtl_print.proofs.Shallow.{deepest}

-- ---- trees

-- a text is read as trees that are these, places aside
pub record IsRead (bytes : List ℕ) (ts : List Tree) : Type 0 where
  pub trees : List Tree
  pub reads : ReadsAs bytes (Trees trees)
  pub same : AllSame trees ts

pub is_read : (ts : List Tree) (bytes : List ℕ) → AreAdmitted (parts_of_all ts) → deepest ts ≤ most_open → SpellsAs (parts_of_all ts) bytes → IsRead bytes ts
is_read ts bytes admitted low spells = record {
  trees = built.0;
  reads = (is_text, never_where_read bytes (shallow bytes (parts_of_all built.0) (accepts_text built.0 bytes is_text) below));
  same = same_all built.0 ts (same_unplaced built.0 ts (ap (map bare) built.1 ∙ s.same));
}
  where
    s : SpelledAs start (parts_of_all ts) [] (bytes ++ [])
    s = spells start [] [] admitted tt (text.Spells.end (place_after start bytes))

    open_again : still_open [] s.parts ≡ Some []
    open_again =
        sym (still_open_bare [] s.parts)
        ∙ (ap (still_open []) s.same
        ∙ (still_open_bare [] (parts_of_all ts)
        ∙ (ap (still_open []) (sym (append-nil (parts_of_all ts)))
        ∙ trees_balanced ts [] [])))

    built : (us : List Tree) × (parts_of_all us ≡ s.parts)
    built = trees_of s.parts open_again

    is_text : IsText built.0 bytes
    is_text = record {
      nested = subst (λ (ps : List Part). still_open [] ps ≡ Some []) (sym built.1) open_again;
      spelled = subst (λ (ps : List Part). Spells start ps bytes) (append-nil s.parts ∙ sym built.1) (subst (Spells start (s.parts ++ [])) (append-nil bytes) s.spelled);
    }

    below : Below most_open (parts_of_all built.0)
    below = subst (Below most_open) (sym built.1) (of_bare most_open s.parts (subst (Below most_open) (sym s.same) (to_bare most_open (parts_of_all ts) (all_below ts most_open low))))
