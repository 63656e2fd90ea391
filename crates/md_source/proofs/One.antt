-- A description comes to one answer, where all that it is made of is known.
use Rattle.std.proofs.Common.{◌≡◌, ℕ, ◌+◌, ◌<◌, ◌≤◌, List, [], ◌∷◌, length, Option, Some, None, Result, Ok, Err, IsSome, refl, sym, ap, subst, ◌∙◌, arith, Contains}
use Rattle.std.proofs.lemmas.List.Elements.{Contains-append_right}
use Rattle.rtx_tree.specs.declared.place.Place.{Place}
use Rattle.lisp_read.specs.declared.tree.Tree.{Tree}
use Rattle.lisp_read.specs.Reading.{Reading, ReadsAs, Trees, Syntax, Depth}
use Rattle.lisp_read.proofs.Unique.{one_reading}
use Rattle.md_source.specs.declared.trees.Gathered.{Gathered}
use Rattle.md_source.specs.declared.refusal.SourceRefusal.{SourceRefusal}
use Rattle.md_source.specs.declared.refusal.SourceRefusal.TheVariants as refusal
use Rattle.md_source.specs.Include.{included_name}
use Rattle.rtx_tree.specs.Limit.{most_bytes}
use Rattle.md_source.specs.Source.{Source, Outcome, FileComes, TreesCome, DescriptionComes, in_front, text_of}
use Rattle.md_source.specs.Asked.{IsNamed, IsKnown}

same_some : (a b : List ℕ) → ◌≡◌ {A = Option (List ℕ)} (Some a) (Some b) → a ≡ b
same_some a b e = cc

same_name : (o : Option (List ℕ)) (a b : List ℕ) → o ≡ Some a → o ≡ Some b → a ≡ b
same_name o a b p q = same_some a b (sym p ∙ q)

not_known : (o : Option (List ℕ)) → IsSome o → o ≡ None → ⊥
not_known None some is = cc
not_known (Some x) some is = cc

some_or_none : (o : Option (List ℕ)) (a : List ℕ) → o ≡ Some a → o ≡ None → ⊥
some_or_none o a p q = let no : ◌≡◌ {A = Option (List ℕ)} (Some a) None = sym p ∙ q in cc

same_reading : (text other : List ℕ) (a b : Reading) → text ≡ other → ReadsAs text a → ReadsAs other b → a ≡ b
same_reading text other a b same p q = one_reading text a b p (subst (λ (t : List ℕ). ReadsAs t b) (sym same) q)

long_or_not : (used : ℕ) (text other : List ℕ) → text ≡ other → most_bytes < used + length text → used + length other ≤ most_bytes → ⊥
long_or_not used text other same long short = let e = ap length same in omega arith

same_ok : (a b : Gathered) → ◌≡◌ {A = Outcome} (Ok a) (Ok b) → a ≡ b
same_ok a b e = cc

same_trees : (a b : List Tree) → Trees a ≡ Trees b → a ≡ b
same_trees a b e = cc

same_place : (a b : Place) → Syntax a ≡ Syntax b → a ≡ b
same_place a b e = cc

-- what a known text includes is a part of the description
parts : (source : Source) (root name text : List ℕ) (trees : List Tree) → IsNamed source root name → text_of source name ≡ Some text → ReadsAs text (Trees trees) →
    (t : Tree) (n : List ℕ) → Contains trees t → included_name t ≡ Some n → IsNamed source root n
parts source root name text trees named known reads t n stands is =
    IsNamed.included name n named (record { text = text; known = known; trees = trees; reads = reads; tree = t; stands = stands; names = is })

mutual
  one_file : (source : Source) (root : List ℕ) (within used : ℕ) (name : List ℕ) (a b : Outcome) → IsKnown source root → IsNamed source root name → FileComes source within used name a → FileComes source within used name b → a ≡ b
  one_file source root _ _ _ _ b known named (FileComes.unknown within used name o none) q = absurd (not_known (text_of source name) (known name named) none)
  one_file source root _ _ _ _ _ known named (FileComes.too_long within used name t is long) (FileComes.unknown _ _ _ o none) = absurd (some_or_none (text_of source name) t is none)
  one_file source root _ _ _ _ _ known named (FileComes.too_long within used name t is long) (FileComes.too_long _ _ _ u is' long') = refl
  one_file source root _ _ _ _ _ known named (FileComes.too_long within used name t is long) (FileComes.syntax _ _ _ u p is' short reads) = absurd (long_or_not used t u (same_name (text_of source name) t u is is') long short)
  one_file source root _ _ _ _ _ known named (FileComes.too_long within used name t is long) (FileComes.depth _ _ _ u p is' short reads) = absurd (long_or_not used t u (same_name (text_of source name) t u is is') long short)
  one_file source root _ _ _ _ _ known named (FileComes.too_long within used name t is long) (FileComes.read _ _ _ u ts o is' short reads come) = absurd (long_or_not used t u (same_name (text_of source name) t u is is') long short)
  one_file source root _ _ _ _ _ known named (FileComes.syntax within used name t p is short reads) (FileComes.unknown _ _ _ o none) = absurd (some_or_none (text_of source name) t is none)
  one_file source root _ _ _ _ _ known named (FileComes.syntax within used name t p is short reads) (FileComes.too_long _ _ _ u is' long) = absurd (long_or_not used u t (same_name (text_of source name) u t is' is) long short)
  one_file source root _ _ _ _ _ known named (FileComes.syntax within used name t p is short reads) (FileComes.syntax _ _ _ u p' is' short' reads') =
      ap (λ (place : Place). Err (refusal.Syntax name place)) (same_place p p' (same_reading t u (Syntax p) (Syntax p') (same_name (text_of source name) t u is is') reads reads'))
  one_file source root _ _ _ _ _ known named (FileComes.syntax within used name t p is short reads) (FileComes.depth _ _ _ u p' is' short' reads') =
      let no = same_reading t u (Syntax p) (Depth p') (same_name (text_of source name) t u is is') reads reads' in cc
  one_file source root _ _ _ _ _ known named (FileComes.syntax within used name t p is short reads) (FileComes.read _ _ _ u ts o is' short' reads' come) =
      let no = same_reading t u (Syntax p) (Trees ts) (same_name (text_of source name) t u is is') reads reads' in cc
  one_file source root _ _ _ _ _ known named (FileComes.depth within used name t p is short reads) (FileComes.unknown _ _ _ o none) = absurd (some_or_none (text_of source name) t is none)
  one_file source root _ _ _ _ _ known named (FileComes.depth within used name t p is short reads) (FileComes.too_long _ _ _ u is' long) = absurd (long_or_not used u t (same_name (text_of source name) u t is' is) long short)
  one_file source root _ _ _ _ _ known named (FileComes.depth within used name t p is short reads) (FileComes.syntax _ _ _ u p' is' short' reads') =
      let no = same_reading t u (Depth p) (Syntax p') (same_name (text_of source name) t u is is') reads reads' in cc
  one_file source root _ _ _ _ _ known named (FileComes.depth within used name t p is short reads) (FileComes.depth _ _ _ u p' is' short' reads') = refl
  one_file source root _ _ _ _ _ known named (FileComes.depth within used name t p is short reads) (FileComes.read _ _ _ u ts o is' short' reads' come) =
      let no = same_reading t u (Depth p) (Trees ts) (same_name (text_of source name) t u is is') reads reads' in cc
  one_file source root _ _ _ _ _ known named (FileComes.read within used name t ts o is short reads come) (FileComes.unknown _ _ _ o' none) = absurd (some_or_none (text_of source name) t is none)
  one_file source root _ _ _ _ _ known named (FileComes.read within used name t ts o is short reads come) (FileComes.too_long _ _ _ u is' long) = absurd (long_or_not used u t (same_name (text_of source name) u t is' is) long short)
  one_file source root _ _ _ _ _ known named (FileComes.read within used name t ts o is short reads come) (FileComes.syntax _ _ _ u p' is' short' reads') =
      let no = same_reading t u (Trees ts) (Syntax p') (same_name (text_of source name) t u is is') reads reads' in cc
  one_file source root _ _ _ _ _ known named (FileComes.read within used name t ts o is short reads come) (FileComes.depth _ _ _ u p' is' short' reads') =
      let no = same_reading t u (Trees ts) (Depth p') (same_name (text_of source name) t u is is') reads reads' in cc
  one_file source root _ _ _ _ _ known named (FileComes.read within used name t ts o is short reads come) (FileComes.read _ _ _ u us o' is' short' reads' come') =
      let same = same_name (text_of source name) t u is is' in
      let trees = same_trees ts us (same_reading t u (Trees ts) (Trees us) same reads reads') in
      let here : TreesCome source within (used + length t) us o' = subst (λ (text : List ℕ). TreesCome source within (used + length text) us o') (sym same) come' in
      one_trees source root within (used + length t) ts o o' known (parts source root name t ts named is reads) come (subst (λ (l : List Tree). TreesCome source within (used + length t) l o') (sym trees) here)

  one_trees : (source : Source) (root : List ℕ) (within used : ℕ) (trees : List Tree) (a b : Outcome) → IsKnown source root → ((t : Tree) (n : List ℕ) → Contains trees t → included_name t ≡ Some n → IsNamed source root n) →
      TreesCome source within used trees a → TreesCome source within used trees b → a ≡ b
  one_trees source root _ _ _ _ _ known named (TreesCome.none within used) (TreesCome.none _ _) = refl
  one_trees source root _ _ _ _ _ known named (TreesCome.kept within used t rest o none come) (TreesCome.kept _ _ _ _ o' none' come') =
      ap (λ (more : Outcome). in_front (t ∷ []) more) (one_trees source root within used rest o o' known (λ u n stands is. named u n (Contains-append_right (t ∷ []) rest u stands) is) come come')
  one_trees source root _ _ _ _ _ known named (TreesCome.kept within used t rest o none come) (TreesCome.included _ _ _ _ n g o' is room inner come') = absurd (some_or_none (included_name t) n is none)
  one_trees source root _ _ _ _ _ known named (TreesCome.kept within used t rest o none come) (TreesCome.refused _ _ _ _ n e is room inner) = absurd (some_or_none (included_name t) n is none)
  one_trees source root _ _ _ _ _ known named (TreesCome.kept within used t rest o none come) (TreesCome.too_deep _ _ _ _ n is deep) = absurd (some_or_none (included_name t) n is none)
  one_trees source root _ _ _ _ _ known named (TreesCome.included within used t rest n g o is room inner come) (TreesCome.kept _ _ _ _ o' none come') = absurd (some_or_none (included_name t) n is none)
  one_trees source root _ _ _ _ _ known named (TreesCome.included within used t rest n g o is room inner come) (TreesCome.included _ _ _ _ n' g' o' is' room' inner' come') =
      let same : n' ≡ n = same_name (included_name t) n' n is' is in
      let files : g ≡ g' = same_ok g g' (one_file source root (within + 1) used n (Ok g) (Ok g') known (named t n (0, omega arith, refl) is) inner (subst (λ (m : List ℕ). FileComes source (within + 1) used m (Ok g')) same inner')) in
      let here : TreesCome source within g.used rest o' = subst (λ (h : Gathered). TreesCome source within h.used rest o') (sym files) come' in
      ap (λ (more : Outcome). in_front g.trees more) (one_trees source root within g.used rest o o' known (λ u m stands has. named u m (Contains-append_right (t ∷ []) rest u stands) has) come here) ∙
      ap (λ (h : Gathered). in_front h.trees o') files
  one_trees source root _ _ _ _ _ known named (TreesCome.included within used t rest n g o is room inner come) (TreesCome.refused _ _ _ _ n' e is' room' inner') =
      let same : n' ≡ n = same_name (included_name t) n' n is' is in
      let no : ◌≡◌ {A = Outcome} (Ok g) (Err e) = one_file source root (within + 1) used n (Ok g) (Err e) known (named t n (0, omega arith, refl) is) inner (subst (λ (m : List ℕ). FileComes source (within + 1) used m (Err e)) same inner') in cc
  one_trees source root _ _ _ _ _ known named (TreesCome.included within used t rest n g o is room inner come) (TreesCome.too_deep _ _ _ _ n' is' deep) = absurd (omega arith)
  one_trees source root _ _ _ _ _ known named (TreesCome.refused within used t rest n e is room inner) (TreesCome.kept _ _ _ _ o' none come') = absurd (some_or_none (included_name t) n is none)
  one_trees source root _ _ _ _ _ known named (TreesCome.refused within used t rest n e is room inner) (TreesCome.included _ _ _ _ n' g' o' is' room' inner' come') =
      let same : n' ≡ n = same_name (included_name t) n' n is' is in
      let no : ◌≡◌ {A = Outcome} (Err e) (Ok g') = one_file source root (within + 1) used n (Err e) (Ok g') known (named t n (0, omega arith, refl) is) inner (subst (λ (m : List ℕ). FileComes source (within + 1) used m (Ok g')) same inner') in cc
  one_trees source root _ _ _ _ _ known named (TreesCome.refused within used t rest n e is room inner) (TreesCome.refused _ _ _ _ n' e' is' room' inner') =
      let same : n' ≡ n = same_name (included_name t) n' n is' is in
      one_file source root (within + 1) used n (Err e) (Err e') known (named t n (0, omega arith, refl) is) inner (subst (λ (m : List ℕ). FileComes source (within + 1) used m (Err e')) same inner')
  one_trees source root _ _ _ _ _ known named (TreesCome.refused within used t rest n e is room inner) (TreesCome.too_deep _ _ _ _ n' is' deep) = absurd (omega arith)
  one_trees source root _ _ _ _ _ known named (TreesCome.too_deep within used t rest n is deep) (TreesCome.kept _ _ _ _ o' none come') = absurd (some_or_none (included_name t) n is none)
  one_trees source root _ _ _ _ _ known named (TreesCome.too_deep within used t rest n is deep) (TreesCome.included _ _ _ _ n' g' o' is' room inner' come') = absurd (omega arith)
  one_trees source root _ _ _ _ _ known named (TreesCome.too_deep within used t rest n is deep) (TreesCome.refused _ _ _ _ n' e is' room inner') = absurd (omega arith)
  one_trees source root _ _ _ _ _ known named (TreesCome.too_deep within used t rest n is deep) (TreesCome.too_deep _ _ _ _ n' is' deep') = refl

pub one_description : (source : Source) (name : List ℕ) (a b : Result (List Tree) SourceRefusal) → IsKnown source name → DescriptionComes source name a → DescriptionComes source name b → a ≡ b
one_description source name (Ok a) (Ok b) known p q =
    let same = same_ok (record { trees = a; used = p.0 }) (record { trees = b; used = q.0 }) (one_file source name 1 0 name _ _ known IsNamed.itself p.1 q.1) in ap (λ (g : Gathered). Ok g.trees) same
one_description source name (Ok a) (Err e) known p q = let no = one_file source name 1 0 name (Ok (record { trees = a; used = p.0 })) (Err e) known IsNamed.itself p.1 q in cc
one_description source name (Err d) (Ok b) known p q = let no = one_file source name 1 0 name (Err d) (Ok (record { trees = b; used = q.0 })) known IsNamed.itself p q.1 in cc
one_description source name (Err d) (Err e) known p q = let same : ◌≡◌ {A = Outcome} (Err d) (Err e) = one_file source name 1 0 name (Err d) (Err e) known IsNamed.itself p q in cc

-- ---- trees or a refusal

pub ok_is : (a b : List Tree) → ◌≡◌ {A = Result (List Tree) SourceRefusal} (Ok a) (Ok b) → a ≡ b
ok_is a b e = cc

pub err_is : (a b : SourceRefusal) → ◌≡◌ {A = Result (List Tree) SourceRefusal} (Err a) (Err b) → a ≡ b
err_is a b e = cc

pub ok_no_err : (a : List Tree) (b : SourceRefusal) → ◌≡◌ {A = Result (List Tree) SourceRefusal} (Ok a) (Err b) → ⊥
ok_no_err a b e = cc
