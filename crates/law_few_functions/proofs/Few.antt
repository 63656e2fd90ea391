-- An input has no more functions than bytes.
use Rattle.std.proofs.Common.{◌≡◌, ℕ, suc, ◌≤◌, List, [], ◌∷◌, ◌++◌, length, refl, sym, ap, subst, ◌∙◌, arith}
use Rattle.std.proofs.lemmas.List.{length-append}
use Rattle.rtx_tree.specs.declared.place.Place.{Place}
use Rattle.lisp_read.specs.declared.tree.Tree.{Tree}
use Rattle.lisp_read.specs.declared.class.Bracket.TheVariants.{Round, Square}
use Rattle.lisp_read.specs.Bytes.{newline, quote, star, slash, semicolon, open_brace, close_brace}
use Rattle.lisp_read.specs.Part.{Part, Atom, Str, Block, Open, Close, parts_of, parts_of_all}
use Rattle.lisp_read.specs.Text.{IsAtom, Spells}
use Rattle.lisp_read.specs.Parsed.{Parsed, stands, construct, parsed_then, parsed_map, each_parsed}
use Rattle.lisp_read.proofs.PartLemmas.{parts_of-Atom, parts_of-Str, parts_of-Block, parts_of-List, parts_of-Vector}
use Rattle.lisp_read.proofs.TreeInduction.{Steps, induction}
use Rattle.law_few_functions.specs.Few.{FewFunctions}

-- ---- each tree has a part

abbrev HasPart : Tree → Type 0
HasPart t = 1 ≤ length (parts_of t)

some_first : (p : Part) (ps : List Part) → 1 ≤ length (p ∷ ps)
some_first p ps = omega arith

steps : Steps HasPart
steps = record {
  atom = λ p t. subst (λ ps. 1 ≤ length ps) (sym (parts_of-Atom p t)) (some_first (Atom p t) []);
  string = λ p t. subst (λ ps. 1 ≤ length ps) (sym (parts_of-Str p t)) (some_first (Str p t) []);
  block = λ p t. subst (λ ps. 1 ≤ length ps) (sym (parts_of-Block p t)) (some_first (Block p t) []);
  list = λ p ts all. subst (λ ps. 1 ≤ length ps) (sym (parts_of-List p ts)) (some_first (Open Round p) (parts_of_all ts ++ Close Round ∷ []));
  vector = λ p ts all. subst (λ ps. 1 ≤ length ps) (sym (parts_of-Vector p ts)) (some_first (Open Square p) (parts_of_all ts ++ Close Square ∷ []));
}

few_trees : (trees : List Tree) → length trees ≤ length (parts_of_all trees)
few_trees [] = omega arith
few_trees (t ∷ trees) =
    let one = induction HasPart steps t in
    let rest = few_trees trees in
    let both = length-append (parts_of t) (parts_of_all trees) in
    omega (arith, one, rest, both)

-- ---- each part has a byte

longer : (n x : ℕ) (xs rest : List ℕ) → n ≤ length rest → suc n ≤ length ((x ∷ xs) ++ rest)
longer n x xs rest few = let both = length-append xs rest in omega (arith, few, both)

as_long : (n : ℕ) (xs rest : List ℕ) → n ≤ length rest → n ≤ length (xs ++ rest)
as_long n xs rest few = let both = length-append xs rest in omega (arith, few, both)

atom_longer : (n : ℕ) (text rest : List ℕ) → IsAtom text → n ≤ length rest → suc n ≤ length (text ++ rest)
atom_longer n [] rest is few = absurd is
atom_longer n (b ∷ text) rest is few = longer n b text rest few

few_parts : (here : Place) (parts : List Part) (bytes : List ℕ) → Spells here parts bytes → length parts ≤ length bytes
few_parts _ _ _ (Spells.end here) = omega arith
few_parts _ _ _ (Spells.blank here parts b rest is more) = let few = few_parts _ parts rest more in omega (arith, few)
few_parts _ _ _ (Spells.line here parts body rest each more) = as_long (length parts) (semicolon ∷ body ++ newline ∷ []) rest (few_parts _ parts rest more)
few_parts _ _ _ (Spells.last_line here body each) = omega arith
few_parts _ _ _ (Spells.comment here parts body rest is more) = as_long (length parts) (slash ∷ star ∷ body ++ star ∷ slash ∷ []) rest (few_parts _ parts rest more)
few_parts _ _ _ (Spells.atom here parts text rest is ends more) = atom_longer (length parts) text rest is (few_parts _ parts rest more)
few_parts _ _ _ (Spells.string here parts text rest is more) = longer (length parts) quote (text ++ quote ∷ []) rest (few_parts _ parts rest more)
few_parts _ _ _ (Spells.block here parts text rest is more) = longer (length parts) open_brace (text ++ close_brace ∷ []) rest (few_parts _ parts rest more)
few_parts _ _ _ (Spells.opens here parts kind rest more) = let few = few_parts _ parts rest more in omega (arith, few)
few_parts _ _ _ (Spells.closes here parts kind rest more) = let few = few_parts _ parts rest more in omega (arith, few)

-- ---- each function is a tree

first_stands : {A : Type 0} (p : Parsed A) (q : Parsed (List A)) (fs : List A) → parsed_then p (λ x. parsed_map (λ xs. x ∷ xs) q) ≡ stands fs → (xs : List A) × (q ≡ stands xs) × (length fs ≡ suc (length xs))
first_stands (construct place name) q fs is = absurd (let no : ⊥ = cc in no)
first_stands (stands x) (construct place name) fs is = absurd (let no : ⊥ = cc in no)
first_stands (stands x) (stands xs) fs is = let same : x ∷ xs ≡ fs = cc in (xs, refl, ap length (sym same))

as_many : {A : Type 0} (read : Tree → Parsed A) (trees : List Tree) (fs : List A) → each_parsed read trees ≡ stands fs → length fs ≡ length trees
as_many {A = A} read [] fs is = let same : [] ≡ fs = cc in ap length (sym same)
as_many {A = A} read (t ∷ trees) fs is =
    let first = first_stands (read t) (each_parsed read trees) fs is in first.2 ∙ ap suc (as_many read trees first.0 first.1)

pub few : FewFunctions
few bytes functions read =
    let many = as_many _ read.trees functions read.stand in
    let trees = few_trees read.trees in
    let parts = few_parts _ (parts_of_all read.trees) bytes read.reads.0.spelled in
    omega (arith, many, trees, parts)
