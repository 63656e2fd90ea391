-- What a file comes to, while its trees are gone through.
use Rattle.std.proofs.Common.{◌≡◌, ℕ, false, is_some, ◌||◌, true≢false, ◌+◌, ◌<◌, ◌≤◌, List, [], ◌∷◌, ◌++◌, length, Option, Some, None, Ok, Err, refl, sym, ap, subst, ◌∙◌, append_assoc, append-nil, arith}
use Rattle.lisp_read.specs.declared.tree.Tree.{Tree}
use Rattle.md_source.specs.declared.trees.Gathered.{Gathered}
use Rattle.md_source.specs.declared.refusal.SourceRefusal.{SourceRefusal}
use Rattle.md_source.specs.declared.refusal.SourceRefusal.TheVariants as refusal
use Rattle.md_source.specs.Include.{included_name, include_some}
use Rattle.md_source.specs.Source.{Source, Outcome, FileComes, TreesCome, DescriptionComes, in_front, text_of}
use Rattle.rtx_tree.specs.Limit.{most_within}
use Rattle.md_source.specs.Answers.{Refuses}
use Rattle.md_source.specs.machine.Steps.{FileReads}

-- whatever the rest of the trees comes to, the file comes to it with some trees in front
abbrev pub ComesOn : Source → (within used : ℕ) → List ℕ → List Tree → ℕ → List Tree → Type 0
ComesOn source within used name trees now rest = (outcome : Outcome) → TreesCome source within now rest outcome → FileComes source within used name (in_front trees outcome)

front_none : (o : Outcome) → in_front [] o ≡ o
front_none (Ok g) = refl
front_none (Err e) = refl

front_append : (a b : List Tree) (o : Outcome) → in_front (a ++ b) o ≡ in_front a (in_front b o)
front_append a b (Ok g) = ap (λ (ts : List Tree). Ok (record { trees = ts; used = g.used })) (append_assoc a b g.trees)
front_append a b (Err e) = refl

pub starts : (source : Source) (within used : ℕ) (name : List ℕ) (read : Gathered) → FileReads source used name (Ok read) → ComesOn source within used name [] read.used read.trees
starts source within used name read reads outcome come = by_known (text_of source name) refl
  where
    by_known : (known : Option (List ℕ)) → text_of source name ≡ known → FileComes source within used name (in_front [] outcome)
    by_known None is = FileComes.unknown within used name (in_front [] outcome) is
    by_known (Some text) is =
        let r = reads text is in
        let here : TreesCome source within (used + length text) read.trees outcome = subst (λ (n : ℕ). TreesCome source within n read.trees outcome) r.1 come in
        FileComes.read within used name text read.trees (in_front [] outcome) is r.0 r.2 (subst (λ (o : Outcome). TreesCome source within (used + length text) read.trees o) (sym (front_none outcome)) here)

-- some trees stand in front of what the rest comes to, and others behind them
fronts : (source : Source) (within used : ℕ) (name : List ℕ) (trees more all : List Tree) (outcome : Outcome) → all ≡ trees ++ more → FileComes source within used name (in_front trees (in_front more outcome)) →
    FileComes source within used name (in_front all outcome)
fronts source within used name trees more all outcome made come =
    subst (λ (o : Outcome). FileComes source within used name o) (sym (ap (λ (ts : List Tree). in_front ts outcome) made ∙ front_append trees more outcome)) come

-- the name that the code found
pub named_by : (t : Tree) (file n : List ℕ) → Some file ≡ included_name t → n ≡ file → included_name t ≡ Some n
named_by t file n found same = sym found ∙ ap (λ (name : List ℕ). Some name) (sym same)

pub keeps : (source : Source) (within used : ℕ) (name : List ℕ) (trees all : List Tree) (now : ℕ) (t : Tree) (left rest : List Tree) → left ≡ t ∷ rest → None ≡ included_name t → all ≡ trees ++ t ∷ [] →
    ComesOn source within used name trees now left → ComesOn source within used name all now rest
keeps source within used name trees all now t left rest front is made on outcome come =
    fronts source within used name trees (t ∷ []) all outcome made (subst (λ (l : List Tree). ComesOn source within used name trees now l) front on (in_front (t ∷ []) outcome) (TreesCome.kept within now t rest outcome (sym is) come))

pub includes : (source : Source) (within used : ℕ) (name : List ℕ) (trees all : List Tree) (now : ℕ) (t : Tree) (left rest : List Tree) (n : List ℕ) (g : Gathered) → left ≡ t ∷ rest → included_name t ≡ Some n → within < most_within →
    all ≡ trees ++ g.trees → FileComes source (within + 1) now n (Ok g) → ComesOn source within used name trees now left → ComesOn source within used name all g.used rest
includes source within used name trees all now t left rest n g front is room made inner on outcome come =
    fronts source within used name trees g.trees all outcome made (subst (λ (l : List Tree). ComesOn source within used name trees now l) front on (in_front g.trees outcome) (TreesCome.included within now t rest n g outcome is room inner come))

pub too_deep : (source : Source) (within used : ℕ) (name : List ℕ) (trees : List Tree) (now : ℕ) (t : Tree) (left rest : List Tree) (n : List ℕ) → left ≡ t ∷ rest → included_name t ≡ Some n → most_within ≤ within →
    ComesOn source within used name trees now left → FileComes source within used name (Err refusal.Include)
too_deep source within used name trees now t left rest n front is deep on = subst (λ (l : List Tree). ComesOn source within used name trees now l) front on (Err refusal.Include) (TreesCome.too_deep within now t rest n is deep)

refused : (source : Source) (within used : ℕ) (name : List ℕ) (trees : List Tree) (now : ℕ) (t : Tree) (left rest : List Tree) (n : List ℕ) (e : SourceRefusal) → left ≡ t ∷ rest → included_name t ≡ Some n → within < most_within →
    ComesOn source within used name trees now left → FileComes source (within + 1) now n (Err e) → FileComes source within used name (Err e)
refused source within used name trees now t left rest n e front is room on inner =
    subst (λ (l : List Tree). ComesOn source within used name trees now l) front on (Err e) (TreesCome.refused within now t rest n e is room inner)

pub refuses : (source : Source) (within used : ℕ) (name : List ℕ) (trees : List Tree) (now : ℕ) (t : Tree) (left rest : List Tree) (n : List ℕ) (e : SourceRefusal) → left ≡ t ∷ rest → included_name t ≡ Some n → within < most_within →
    ComesOn source within used name trees now left → Refuses e (FileComes source (within + 1) now n) → Refuses e (FileComes source within used name)
refuses source within used name trees now t left rest n refusal.ReadFault front is room on inner = tt
refuses source within used name trees now t left rest n refusal.Memory front is room on inner = tt
refuses source within used name trees now t left rest n (refusal.Syntax f p) front is room on inner = refused source within used name trees now t left rest n (refusal.Syntax f p) front is room on inner
refuses source within used name trees now t left rest n refusal.Depth front is room on inner = refused source within used name trees now t left rest n refusal.Depth front is room on inner
refuses source within used name trees now t left rest n refusal.Text front is room on inner = refused source within used name trees now t left rest n refusal.Text front is room on inner
refuses source within used name trees now t left rest n refusal.Include front is room on inner = refused source within used name trees now t left rest n refusal.Include front is room on inner

pub finishes : (source : Source) (within used : ℕ) (name : List ℕ) (trees : List Tree) (now : ℕ) (left : List Tree) (count : ℕ) → count ≡ length left → count ≡ 0 → ComesOn source within used name trees now left → FileComes source within used name (Ok (record { trees = trees; used = now }))
finishes source within used name trees now (t ∷ rest) count is none on = absurd (omega arith)
finishes source within used name trees now [] count is none on =
    subst (λ (ts : List Tree). FileComes source within used name (Ok (record { trees = ts; used = now }))) (append-nil trees) (on (Ok (record { trees = []; used = now })) (TreesCome.none within now))

-- a file that is refused by itself
pub unread : (source : Source) (within used : ℕ) (name : List ℕ) (e : SourceRefusal) → Refuses e (FileReads source used name) → Refuses e (FileComes source within used name)
unread source within used name refusal.ReadFault reads = tt
unread source within used name refusal.Memory reads = tt
unread source within used name (refusal.Syntax f p) reads = by_known (text_of source name) refl
  where
    by_known : (known : Option (List ℕ)) → text_of source name ≡ known → FileComes source within used name (Err (refusal.Syntax f p))
    by_known None is = FileComes.unknown within used name (Err (refusal.Syntax f p)) is
    by_known (Some text) is = let r = reads text is in
        subst (λ (n : List ℕ). FileComes source within used name (Err (refusal.Syntax n p))) (sym r.1) (FileComes.syntax within used name text p is r.0 r.2)
unread source within used name refusal.Depth reads = by_known (text_of source name) refl
  where
    by_known : (known : Option (List ℕ)) → text_of source name ≡ known → FileComes source within used name (Err refusal.Depth)
    by_known None is = FileComes.unknown within used name (Err refusal.Depth) is
    by_known (Some text) is = let r = reads text is in FileComes.depth within used name text r.1.0 is r.0 r.1.1
unread source within used name refusal.Text reads = by_known (text_of source name) refl
  where
    by_known : (known : Option (List ℕ)) → text_of source name ≡ known → FileComes source within used name (Err refusal.Text)
    by_known None is = FileComes.unknown within used name (Err refusal.Text) is
    by_known (Some text) is = FileComes.too_long within used name text is (reads text is)
unread source within used name refusal.Include reads = by_known (text_of source name) refl
  where
    by_known : (known : Option (List ℕ)) → text_of source name ≡ known → FileComes source within used name (Err refusal.Include)
    by_known None is = FileComes.unknown within used name (Err refusal.Include) is
    by_known (Some text) is = absurd (reads text is)

-- trees of which none includes a file stay
kept_all : (source : Source) (within now : ℕ) (trees : List Tree) → include_some trees ≡ false → TreesCome source within now trees (Ok (record { trees = trees; used = now }))
kept_all source within now [] is = TreesCome.none within now
kept_all source within now (t ∷ rest) is = by_name (included_name t) refl is (λ left. kept_all source within now rest left)
  where
    by_name : (name : Option (List ℕ)) → included_name t ≡ name → (is_some name || include_some rest) ≡ false → (include_some rest ≡ false → TreesCome source within now rest (Ok (record { trees = rest; used = now }))) →
        TreesCome source within now (t ∷ rest) (Ok (record { trees = t ∷ rest; used = now }))
    by_name None none left on = TreesCome.kept within now t rest (Ok (record { trees = rest; used = now })) none (on left)
    by_name (Some name) some left on = absurd (true≢false left)

pub stays : (source : Source) (within used : ℕ) (name : List ℕ) (read : Gathered) → FileReads source used name (Ok read) → include_some read.trees ≡ false → FileComes source within used name (Ok read)
stays source within used name read reads none = subst (λ (o : Outcome). FileComes source within used name o) (front_none (Ok read)) (starts source within used name read reads (Ok read) (kept_all source within read.used read.trees none))

-- one tree less is left
pub one_less : (t : Tree) (left rest : List Tree) (count more : ℕ) → count ≡ length left → left ≡ t ∷ rest → more + 1 ≡ count → more ≡ length rest
one_less t left rest count more is front gone = let long = ap length front in omega arith

-- what the file of a description's name comes to, the description does
pub described : (source : Source) (name : List ℕ) (e : SourceRefusal) → Refuses e (FileComes source 1 0 name) → Refuses e (DescriptionComes source name)
described source name refusal.ReadFault come = tt
described source name refusal.Memory come = tt
described source name (refusal.Syntax f p) come = come
described source name refusal.Depth come = come
described source name refusal.Text come = come
described source name refusal.Include come = come
