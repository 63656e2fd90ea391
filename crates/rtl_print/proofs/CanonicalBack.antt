-- The canonical text of functions is read back as these functions.
use Rattle.std.proofs.Common.{◌≡◌, ℕ, List, [], ◌∷◌, ◌++◌, map, flat_map, refl, sym, subst, ◌∙◌}
use Rattle.std.proofs.lemmas.List.{append-nil}
use Rattle.std.proofs.lemmas.List.Concat.{flat_map-cons}
use Rattle.std.specs.List.{AllByRecursion}
use Rattle.rtx_tree.specs.declared.function.Function.{Function}
use Rattle.lisp_read.specs.declared.tree.Tree.{Tree}
use Rattle.lisp_read.specs.Parsed.{stands}
use Rattle.lisp_read.specs.Part.{parts_of_all}
use Rattle.lisp_read.specs.Reading.{ReadsAs, Trees}
use Rattle.rtx_tree.specs.Limit.{most_open}
use Rattle.rtl_read.specs.Syntax.{functions_in}
use Rattle.tree_print.specs.Print.{depth_of}
use Rattle.rtl_print.specs.Back.{IsReadable, AreReadable, ReadsBack, AllReadBack}
use Rattle.rtl_print.specs.Canonical.{printed_name, printed_function}
use Rattle.rtl_print.proofs.Admitted.{Admitted, all_admitted}
use Rattle.rtl_print.proofs.FunctionRead.{function_back}
use Rattle.rtl_print.proofs.FunctionText.{function_spells}
use Rattle.rtl_print.proofs.FunctionTree.{function_tree}
use Rattle.rtl_print.proofs.Good.{AllFit, fits_more, all_low}
use Rattle.rtl_print.proofs.Pieces.{Piece, nothing}
use Rattle.rtl_print.proofs.ReadBack.{IsRead, is_read}
use Rattle.rtl_print.proofs.Same.{AllSame}

-- ---- the text

begins : (f : Function) (ts : List Tree) (more : List ℕ) → Piece (parts_of_all ts) more → Piece (parts_of_all (function_tree f ∷ ts)) (printed_function f ++ more)
unfolding printed_name
begins f ts more rest = record { spells = function_spells f ts more rest; apart = λ after ends. refl }

all_spell : (fs : List Function) → Piece (parts_of_all (map function_tree fs)) (flat_map printed_function fs)
all_spell [] = nothing
all_spell (f ∷ fs) =
    subst (λ (t : List ℕ). Piece (parts_of_all (map function_tree (f ∷ fs))) t) (sym (flat_map-cons printed_function f fs))
    (begins f (map function_tree fs) (flat_map printed_function fs) (all_spell fs))

-- ---- the functions

all_fit : (fs : List Function) → AreReadable fs → AllFit most_open (map function_tree fs)
all_fit [] h = tt
all_fit (f ∷ fs) h = (fits_more (depth_of h.0.tree) most_open (function_tree f) h.0.shallow (function_back h.0.tree f h.0.stands_for).fits, all_fit fs h.1)

each_admitted : (ts : List Tree) → AllFit most_open ts → AllByRecursion Admitted ts
each_admitted [] all = tt
each_admitted (t ∷ ts) all = (all.0.admitted, each_admitted ts all.1)

all_stand : (fs : List Function) (ts : List Tree) → AreReadable fs → AllSame ts (map function_tree fs) → functions_in ts ≡ stands fs
all_stand [] [] h same = refl
all_stand (f ∷ fs) (t ∷ ts) h same =
    rw ((function_back h.0.tree f h.0.stands_for).back h.0.settled t same.0) (rw (all_stand fs ts h.1 same.1) refl)
all_stand [] (t ∷ ts) h same = absurd same
all_stand (f ∷ fs) [] h same = absurd same

read : (fs : List Function) → AreReadable fs → IsRead (flat_map printed_function fs) (map function_tree fs)
read fs h =
    is_read (map function_tree fs) (flat_map printed_function fs) (all_admitted (map function_tree fs) (each_admitted (map function_tree fs) (all_fit fs h)))
    (all_low most_open (map function_tree fs) (all_fit fs h)) (all_spell fs).spells

pub all_read_back : (fs : List Function) → AreReadable fs → AllReadBack fs
all_read_back fs h =
    let r : IsRead (flat_map printed_function fs) (map function_tree fs) = read fs h in
    record { trees = r.trees; reads = r.reads; stand_for = all_stand fs r.trees h r.same }

-- ---- one function

one_text : (f : Function) → flat_map printed_function (f ∷ []) ≡ printed_function f
one_text f = flat_map-cons printed_function f [] ∙ append-nil (printed_function f)

pub reads_back : (f : Function) → IsReadable f → ReadsBack f
reads_back f h = by_trees r.trees (subst (λ (bytes : List ℕ). ReadsAs bytes (Trees r.trees)) (one_text f) r.reads) r.same
  where
    r : IsRead (flat_map printed_function (f ∷ [])) (function_tree f ∷ [])
    r = read (f ∷ []) (h, tt)

    by_trees : (ts : List Tree) → ReadsAs (printed_function f) (Trees ts) → AllSame ts (function_tree f ∷ []) → ReadsBack f
    by_trees (t ∷ []) reads same = record { tree = t; reads = reads; stands_for = (function_back h.tree f h.stands_for).back h.settled t same.0 }
    by_trees [] reads same = absurd same
    by_trees (t ∷ u ∷ ts) reads same = absurd same.1
