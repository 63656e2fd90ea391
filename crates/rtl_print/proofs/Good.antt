-- Trees that a text may hold and that go only so deep; and a tree's items.
use Rattle.std.proofs.Common.{◌≡◌, ◌≤◌, ℕ, zero, suc, max, List, [], ◌∷◌, true, Some, bytes_eq, sym, ap, subst, arith}
use Rattle.std.specs.List.{AllByRecursion}
use Rattle.std.specs.Prelude.{slice_get}
use Rattle.rtx_tree.specs.declared.tree.Rtx.{Rtx}
use Rattle.lisp_read.specs.declared.position.Position.{Position}
use Rattle.lisp_read.specs.declared.tree.Tree.{Tree, out-Tree}
use Rattle.lisp_read.specs.declared.tree.Tree.TheOpen.{Tree-F}
use Rattle.lisp_read.specs.declared.tree.Tree.TheVariants as tree
use Rattle.lisp_read.specs.Expression.{read_at}
use Rattle.lisp_read.specs.Parsed.{stands}
use Rattle.lisp_read.specs.Shape.{items_at, items_of, atom_of, is_text, is_word}
use Rattle.lisp_read.specs.Text.{IsAtom}
use Rattle.lisp_read.proofs.TreeInduction.{Steps, induction}
use Rattle.tree_print.specs.Print.{depth_of}
use Rattle.rtl_print.proofs.Admitted.{Admitted, admitted, list_admitted, vector_admitted, atom_admitted}
use Rattle.rtl_print.proofs.Atoms.{word_is_atom, is_plain_word}
use Rattle.rtl_print.proofs.Same.{out-Atom, out-Str, out-Block, out-List, out-Vector}
use Rattle.rtl_print.proofs.Shallow.{deepest, shallow, atom_depth, list_depth, vector_depth, left_less, right_less}
use Rattle.rtl_print.proofs.Written.{atom, list, vector, written}

-- a tree that a text may hold, no deeper than this
pub record Fits (most : ℕ) (t : Tree) : Type 0 where
  pub admitted : Admitted t
  pub low : depth_of t ≤ most

abbrev pub AllFit : ℕ → List Tree → Type 0
AllFit most ts = AllByRecursion (Fits most) ts

pub fits_more : (a b : ℕ) (t : Tree) → a ≤ b → Fits a t → Fits b t
fits_more a b t le f = record { admitted = f.admitted; low = omega (arith, le, f.low) }

all_admitted : (most : ℕ) (ts : List Tree) → AllFit most ts → AllByRecursion Admitted ts
all_admitted most [] all = tt
all_admitted most (t ∷ ts) all = (all.0.admitted, all_admitted most ts all.1)

pub all_low : (most : ℕ) (ts : List Tree) → AllFit most ts → deepest ts ≤ most
all_low most [] all = omega arith
all_low most (t ∷ ts) all = both (depth_of t) (deepest ts) all.0.low (all_low most ts all.1)
  where
    both : (a b : ℕ) → a ≤ most → b ≤ most → max a b ≤ most
    both a b first second = grind (arith, first, second)

pub list_fits : (most : ℕ) (ts : List Tree) → AllFit most ts → Fits (suc most) (list ts)
list_fits most ts all = record {
  admitted = list_admitted ts (all_admitted most ts all);
  low = omega (arith, list_depth ts, all_low most ts all);
}

pub atom_fits : (most : ℕ) (text : List ℕ) → IsAtom text → Fits most (atom text)
atom_fits most text is = record { admitted = atom_admitted text is; low = omega (arith, atom_depth text) }

pub word_fits : (most : ℕ) (text : List ℕ) → is_plain_word text ≡ true → Fits most (atom text)
word_fits most text is = atom_fits most text (word_is_atom text is)

pub rtx_fits : (p : Position) (t : Tree) (x : Rtx) → read_at p t ≡ stands x → Fits (depth_of t) (written x)
rtx_fits p t x e = record { admitted = admitted p t x e; low = shallow p t x e }

-- ---- the items of a tree

pub first_deep : (t : Tree) (ts : List Tree) → depth_of t ≤ deepest (t ∷ ts)
first_deep t ts = left_less (depth_of t) (deepest ts)

pub rest_deep : (t : Tree) (ts : List Tree) → deepest ts ≤ deepest (t ∷ ts)
rest_deep t ts = right_less (depth_of t) (deepest ts)

pub got_deep : (ts : List Tree) (i : ℕ) (t : Tree) → slice_get ts i ≡ Some t → depth_of t ≤ deepest ts
got_deep [] i t e = cc
got_deep (u ∷ us) zero t e = let same : u ≡ t = cc in subst (λ (v : Tree). depth_of v ≤ deepest (u ∷ us)) same (first_deep u us)
got_deep (u ∷ us) (suc i) t e = omega (arith, got_deep us i t e, rest_deep u us)

-- what holds of a tree where it holds of the items of its list holds of every tree
pub by_items : (P : Tree → Type 0) → ((t : Tree) → AllByRecursion P (items_of t) → P t) → (t : Tree) → P t
by_items P step t = induction P steps t
  where
    at : (t : Tree) (o : Tree-F Tree) → out-Tree t ≡ o → AllByRecursion P (items_at o) → P t
    at t o is all = step t (subst (λ (x : Tree-F Tree). AllByRecursion P (items_at x)) (sym is) all)

    steps : Steps P
    steps = record {
      atom = λ p w. at (tree.Atom p w) (Tree-F.Atom p w) (out-Atom p w) tt;
      string = λ p w. at (tree.Str p w) (Tree-F.Str p w) (out-Str p w) tt;
      block = λ p w. at (tree.Block p w) (Tree-F.Block p w) (out-Block p w) tt;
      list = λ p ts all. at (tree.List p ts) (Tree-F.List p ts) (out-List p ts) all;
      vector = λ p ts all. at (tree.Vector p ts) (Tree-F.Vector p ts) (out-Vector p ts) tt;
    }

-- an atom of a known text is a word or it isn't
pub word_is : (word text : List ℕ) (t : Tree) → atom_of t ≡ Some text → is_word word t ≡ bytes_eq text word
word_is word text t e = ap (is_text word) e

pub vector_fits : (most : ℕ) (ts : List Tree) → AllFit most ts → Fits (suc most) (vector ts)
vector_fits most ts all = record {
  admitted = vector_admitted ts (all_admitted most ts all);
  low = omega (arith, vector_depth ts, all_low most ts all);
}
