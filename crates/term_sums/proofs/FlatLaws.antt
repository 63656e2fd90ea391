-- What a term of the code is as a list of atoms or parts.
use Rattle.std.proofs.Common.{◌≡◌, ℕ, ◌+◌, ◌<◌, ◌≤◌, length, drop, get_or, sym, ◌∙◌, ◌==◌, Bool, true, false, refl, Option, Some, None, if◌then◌else◌, ap, List, [], ◌∷◌, map, cond, eqb, ◌&&◌, arith, tests}
use Rattle.std.proofs.lemmas.List.{at_drop_more, drop_all}
use Rattle.bits64.specs.declared.Width.{Width}
use Rattle.bits64.specs.declared.Width.TheVariants.{W8, W16, W32, W64}
use Rattle.term_tree.specs.declared.head.Head.{Head}
use Rattle.term_tree.specs.declared.head.Joint.{Joint}
use Rattle.term_tree.specs.declared.head.Joint.TheVariants.{Mul}
use Rattle.term_tree.specs.declared.term.Term.{Term}
use Rattle.term_tree.specs.declared.term.Term.TheViews as terms
use Rattle.term_tree.specs.declared.term.Atom.{Atom}
use Rattle.term_tree.specs.Tree.{Tree, Sum, Node, no_atoms, atom, trees_of, list_of, AtomTree, atoms_of}
use Rattle.term_tree.specs.Form.{same_width}
use Rattle.term_tree.specs.Order.{head_index}
use Rattle.term_tree.specs.View.{tree_of, atom_of}
use Rattle.term_tree.proofs.ViewLaws.{tree_of-Sum, tree_of-Node, list_of-atoms_of, list_of-trees_of}
use Rattle.term_mean.specs.Sums.{atoms_at, constant}
use Rattle.term_mean.specs.Joints.{Joined, head_of, flat_node, flat_factor, flat}
use Rattle.term_sums.specs.machine.Gathering.{lone_atom, note_parts, note_all}

atoms_at-own : (w : Width) (c : ℕ) (xs : List AtomTree) → atoms_at w (Sum w c (atoms_of xs)) ≡ xs
atoms_at-own W8 c xs = list_of-atoms_of xs
atoms_at-own W16 c xs = list_of-atoms_of xs
atoms_at-own W32 c xs = list_of-atoms_of xs
atoms_at-own W64 c xs = list_of-atoms_of xs

-- the atoms of a sum of the width
pub atoms_at-view : (t : Term) (w v : Width) (c : ℕ) (xs : List Atom) → t ≡ terms.Sum v c xs → v ≡ w → atoms_at w (tree_of t) ≡ map atom_of xs
atoms_at-view t w v c xs e s =
    ap (λ u. atoms_at w (tree_of u)) e ∙ ap (atoms_at w) (tree_of-Sum v c xs) ∙ ap (λ u. atoms_at w (Sum u c (atoms_of (map atom_of xs)))) s ∙ atoms_at-own w c (map atom_of xs)

eqb-same : (m n : ℕ) → m ≡ n → eqb m n ≡ true
eqb-same m n e = grind (arith, tests)

-- the parts of a node with the same operator
pub flat-view : (t : Term) (o : Joint) (w : Width) (h : Head) (v : Width) (n : ℕ) (s : List ℕ) (ps : List Term) → t ≡ terms.Node h v n s ps → head_index h ≡ head_index (head_of o) → same_width v w ≡ true → flat_node o w (tree_of t) ≡ map tree_of ps
flat-view t o w h v n s ps e f q =
    let us : List Tree = map tree_of ps in
    let p = eqb-same (head_index h) (head_index (head_of o)) f in
    ap (λ x. flat_node o w (tree_of x)) e
    ∙ ap (flat_node o w) (tree_of-Node h v n s ps)
    ∙ ap (λ b. cond (b && same_width v w) (list_of (trees_of us)) (Node h v n s (trees_of us) ∷ [])) p
    ∙ ap (λ b. cond (true && b) (list_of (trees_of us)) (Node h v n s (trees_of us) ∷ [])) q
    ∙ list_of-trees_of us

-- a factor that is one atom, and any other
pub flat-lone : (w : Width) (t : Tree) (x : AtomTree) → Some x ≡ lone_atom w t → constant w x.0 ∷ flat_node Mul w x.1 ≡ flat_factor w t
flat-lone w (Node h v n s ps) x is = absurd (let no : ⊥ = cc in no)
flat-lone w (Sum v c no_atoms) x is = absurd (let no : ⊥ = cc in no)
flat-lone w (Sum v c (atom k t no_atoms)) x is = by_test (same_width v w && c == 0) is
  where
    by_test : (b : Bool) → Some x ≡ (if b then Some (k, t) else None) → constant w x.0 ∷ flat_node Mul w x.1 ≡ (if b then constant w k ∷ flat_node Mul w t else Sum v c (atom k t no_atoms) ∷ [])
    by_test true e = let same : x ≡ (k, t) = cc in ap (λ (y : AtomTree). constant w y.0 ∷ flat_node Mul w y.1) same
    by_test false e = absurd (let no : ⊥ = cc in no)
flat-lone w (Sum v c (atom k t (atom j u xs))) x is = absurd (let no : ⊥ = cc in no)

pub flat-other : (w : Width) (t : Tree) → None ≡ lone_atom w t → flat_node Mul w t ≡ flat_factor w t
flat-other w (Node h v n s ps) is = refl
flat-other w (Sum v c no_atoms) is = refl
flat-other w (Sum v c (atom k t no_atoms)) is = by_test (same_width v w && c == 0) is
  where
    by_test : (b : Bool) → ◌≡◌ {A = Option AtomTree} None (if b then Some (k, t) else None) → Sum v c (atom k t no_atoms) ∷ [] ≡ (if b then constant w k ∷ flat_node Mul w t else Sum v c (atom k t no_atoms) ∷ [])
    by_test true e = absurd (let no : ⊥ = cc in no)
    by_test false e = refl
flat-other w (Sum v c (atom k t (atom j u xs))) is = refl

-- ---- parts that are noted one after another

module _ (o : Joint) (w : Width) (terms : List Term) (whole : Joined) where
  pub note_all-next : (i : ℕ) (t : Term) (olds news : Joined) → i < length terms → t ≡ get_or terms i t → news ≡ note_parts o (flat o w (tree_of t)) olds →
      note_all o w (map tree_of (drop i terms)) olds ≡ whole → note_all o w (map tree_of (drop (i + 1) terms)) news ≡ whole
  note_all-next i t olds news within is made so_far =
      ap (note_all o w (map tree_of (drop (i + 1) terms))) made
      ∙ ap (λ (u : Term). note_all o w (map tree_of (u ∷ drop (i + 1) terms)) olds) is
      ∙ sym (at_drop_more (λ ts. note_all o w (map tree_of ts) olds) terms i t within)
      ∙ so_far

  -- none is left
  pub note_all-done : (i : ℕ) (now : Joined) → length terms ≤ i → note_all o w (map tree_of (drop i terms)) now ≡ whole → now ≡ whole
  note_all-done i now past all = ap (λ (ts : List Term). note_all o w (map tree_of ts) now) (sym (drop_all i terms past)) ∙ all
