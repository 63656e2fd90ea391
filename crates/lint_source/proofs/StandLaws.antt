-- In which files the trees of a file stand, while they are gone through.
use Rattle.std.proofs.Common.{◌≡◌, ℕ, ◌+◌, ◌<◌, ◌≤◌, ◌↔◌, List, [], ◌∷◌, ◌++◌, replicate, length, drop, get_or, Option, Some, None, Result, Ok, Err, IfOk, Bool, true, false, cond, refl, sym, ap, subst, ◌∙◌, append_assoc, append-nil}
use Rattle.std.specs.Str.{bytes_eq}
use Rattle.std.proofs.lemmas.Grind.{flat_map-append}
use Rattle.std.proofs.lemmas.List.{drop_all, replicate_more}
use Rattle.lisp_read.specs.declared.tree.Tree.{Tree}
use Rattle.lisp_read.specs.Reading.{ReadsAs, Trees}
use Rattle.rv_target.specs.Shipped.{shipped_text}
use Rattle.md_source.specs.Answers.{Agrees}
use Rattle.md_source.specs.Include.{included_name}
use Rattle.md_source.specs.Source.{Source, shipped_name, text_of}
use Rattle.lint_choices.proofs.PushedLaws.{opened}
use Rattle.lint_source.specs.declared.part.Part.{Part}
use Rattle.lint_source.specs.Stands.{FileHas, TreesStand}
use Rattle.lint_source.specs.machine.Steps.{FileReads, Stand, part_files, files_of}

-- ---- the trees of a file by itself

same_text : (a b : List ℕ) → ◌≡◌ {A = Option (List ℕ)} (Some a) (Some b) → a ≡ b
same_text a b e = cc

pub reads_shipped : (source : Source) (name text : List ℕ) (trees : List Tree) → bytes_eq name shipped_name ≡ true → text ≡ shipped_text → ReadsAs text (Trees trees) → FileReads source name trees
reads_shipped source name text trees test is reads t known =
    subst (λ (u : List ℕ). ReadsAs u (Trees trees)) (is ∙ same_text shipped_text t (sym (ap (λ (b : Bool). cond b (Some shipped_text) (source name)) test) ∙ known)) reads

pub reads_fetched : (source : Source) (holds : List ℕ → List ℕ → Type 0) (name text : List ℕ) (trees : List Tree) → Agrees source holds → bytes_eq name shipped_name ≡ false →
    ((t : List ℕ) → holds name t → text ≡ t) → ReadsAs text (Trees trees) → FileReads source name trees
reads_fetched source holds name text trees agrees test is reads t known =
    subst (λ (u : List ℕ). ReadsAs u (Trees trees)) (is t (agrees name t (sym (ap (λ (b : Bool). cond b (Some shipped_text) (source name)) test) ∙ known))) reads

-- ---- parts

-- the files of one part more
pub one_more : (parts new : List Part) (file : List ℕ) (count : ℕ) → new ≡ parts ++ record { file = file; trees = count } ∷ [] → files_of new ≡ files_of parts ++ replicate count file
one_more parts new file count is =
    ap files_of is ∙ flat_map-append part_files parts (record { file = file; trees = count } ∷ []) ∙ ap (λ (fs : List (List ℕ)). files_of parts ++ fs) (append-nil (replicate count file))

-- ---- a file, while its trees are gone through

-- Of some trees so many stand behind the last part that was told; whatever files the rest has, the
-- file has them behind what is gone through.
pub record Goes (source : Source) (name : List ℕ) (old now : List Part) (count : ℕ) (rest : List Tree) : Type 0 where
  pub gone : List (List ℕ)
  pub on : (files : List (List ℕ)) → TreesStand source name rest files → FileHas source name (gone ++ files)
  pub told : files_of now ++ replicate count name ≡ files_of old ++ gone

pub starts : (source : Source) (name : List ℕ) (old : List Part) (trees : List Tree) → FileReads source name trees → Goes source name old old 0 trees
starts source name old trees reads = record { gone = []; on = λ files stand. by_known files stand (text_of source name) refl; told = refl }
  where
    by_known : (files : List (List ℕ)) → TreesStand source name trees files → (known : Option (List ℕ)) → text_of source name ≡ known → FileHas source name files
    by_known files stand None is = FileHas.unknown name files is
    by_known files stand (Some text) is = FileHas.read name text trees files is (reads text is) stand

-- the name that the code found
pub named_by : (t : Tree) (file n : List ℕ) → Some file ≡ included_name t → n ≡ file → included_name t ≡ Some n
named_by t file n found same = sym found ∙ ap (λ (name : List ℕ). Some name) (sym same)

pub keeps : (source : Source) (name : List ℕ) (old now : List Part) (count : ℕ) (t : Tree) (left rest : List Tree) → left ≡ t ∷ rest → None ≡ included_name t →
    Goes source name old now count left → Goes source name old now (count + 1) rest
keeps source name old now count t left rest front none goes = record {
  gone = goes.gone ++ name ∷ [];
  on = λ files stand. subst (λ (fs : List (List ℕ)). FileHas source name fs) (sym (append_assoc goes.gone (name ∷ []) files))
      (goes.on (name ∷ files) (subst (λ (l : List Tree). TreesStand source name l (name ∷ files)) (sym front) (TreesStand.kept name t rest files (sym none) stand)));
  told = ap (λ (fs : List (List ℕ)). files_of now ++ fs) (sym (replicate_more count name))
      ∙ sym (append_assoc (files_of now) (replicate count name) (name ∷ []))
      ∙ ap (λ (fs : List (List ℕ)). fs ++ name ∷ []) goes.told
      ∙ append_assoc (files_of old) goes.gone (name ∷ []);
}

pub includes : (source : Source) (name : List ℕ) (old now mid new : List Part) (count : ℕ) (t : Tree) (left rest : List Tree) (other : List ℕ) → left ≡ t ∷ rest → included_name t ≡ Some other →
    files_of mid ≡ files_of now ++ replicate count name → Stand source other mid new → Goes source name old now count left → Goes source name old new 0 rest
includes source name old now mid new count t left rest other front is told inner goes = record {
  gone = goes.gone ++ inner.files;
  on = λ files stand. subst (λ (fs : List (List ℕ)). FileHas source name fs) (sym (append_assoc goes.gone inner.files files))
      (goes.on (inner.files ++ files) (subst (λ (l : List Tree). TreesStand source name l (inner.files ++ files)) (sym front) (TreesStand.included name t rest other inner.files files is inner.has stand)));
  told = append-nil (files_of new)
      ∙ inner.behind
      ∙ ap (λ (fs : List (List ℕ)). fs ++ inner.files) (told ∙ goes.told)
      ∙ append_assoc (files_of old) goes.gone inner.files;
}

pub finishes : (source : Source) (name : List ℕ) (old now new : List Part) (count : ℕ) (rest : List Tree) → rest ≡ [] → files_of new ≡ files_of now ++ replicate count name → Goes source name old now count rest → Stand source name old new
finishes source name old now new count rest none told goes = record {
  files = goes.gone;
  has = subst (λ (fs : List (List ℕ)). FileHas source name fs) (append-nil goes.gone) (goes.on [] (subst (λ (l : List Tree). TreesStand source name l []) (sym none) (TreesStand.none name)));
  behind = told ∙ goes.told;
}

-- ---- the trees as the code goes through them

pub starts_at : (source : Source) (name : List ℕ) (old : List Part) (trees items : List Tree) → items ≡ trees → FileReads source name trees → Goes source name old old 0 items
starts_at source name old trees items same reads = subst (λ (ts : List Tree). Goes source name old old 0 ts) (sym same) (starts source name old trees reads)

pub keeps_at : (source : Source) (name : List ℕ) (old now parts : List Part) (count n : ℕ) (items : List Tree) (i : ℕ) (t : Tree) → i < length items → t ≡ get_or items i t → None ≡ included_name t → parts ≡ now → n ≡ count + 1 →
    Goes source name old now count (drop i items) → Goes source name old parts n (drop (i + 1) items)
keeps_at source name old now parts count n items i t within is none same more goes =
    subst (λ (ps : List Part). Goes source name old ps n (drop (i + 1) items)) (sym same)
    (subst (λ (k : ℕ). Goes source name old now k (drop (i + 1) items)) (sym more) (keeps source name old now count t (drop i items) (drop (i + 1) items) (opened items i t within is) none goes))

pub includes_at : (source : Source) (name : List ℕ) (old now mid new parts : List Part) (count n : ℕ) (items : List Tree) (i : ℕ) (t : Tree) (other : List ℕ) → i < length items → t ≡ get_or items i t → included_name t ≡ Some other →
    files_of mid ≡ files_of now ++ replicate count name → Stand source other mid new → parts ≡ new → n ≡ 0 → Goes source name old now count (drop i items) → Goes source name old parts n (drop (i + 1) items)
includes_at source name old now mid new parts count n items i t other within is named told inner same none goes =
    subst (λ (ps : List Part). Goes source name old ps n (drop (i + 1) items)) (sym same)
    (subst (λ (k : ℕ). Goes source name old new k (drop (i + 1) items)) (sym none) (includes source name old now mid new count t (drop i items) (drop (i + 1) items) other (opened items i t within is) named told inner goes))

pub finishes_at : (source : Source) (name : List ℕ) (old now new : List Part) (count : ℕ) (items : List Tree) (i : ℕ) → length items ≤ i → files_of new ≡ files_of now ++ replicate count name → Goes source name old now count (drop i items) → Stand source name old new
finishes_at source name old now new count items i all told goes = finishes source name old now new count (drop i items) (drop_all i items all) told goes

pub stands_from : (source : Source) (name : List ℕ) (old new : List Part) → old ≡ [] → Stand source name old new → Stand source name [] new
stands_from source name old new none stand = subst (λ (ps : List Part). Stand source name ps new) none stand

-- ---- results

pub ok_so : {A E : Type 0} (r : Result A E) (P Q : A → Type 0) → ((x : A) → P x → Q x) → IfOk r P → IfOk r Q
ok_so (Ok x) P Q so h = so x h
ok_so (Err e) P Q so h = tt

-- ---- files that stay as they are

pub agrees_still : (source : Source) (old now : List ℕ → List ℕ → Type 0) → ((n bytes : List ℕ) → now n bytes ↔ old n bytes) → Agrees source old → Agrees source now
agrees_still source old now same agrees n bytes known = (same n bytes).1 (agrees n bytes known)

pub same_still : {A : Type 0} (holds : A → List ℕ → List ℕ → Type 0) (old mid now : A) → now ≡ mid → ((n bytes : List ℕ) → holds mid n bytes ↔ holds old n bytes) → (n bytes : List ℕ) → holds now n bytes ↔ holds old n bytes
same_still {A = A} holds old mid now is same = subst (λ (files : A). (n bytes : List ℕ) → holds files n bytes ↔ holds old n bytes) (sym is) same

pub same_both : (old mid now : List ℕ → List ℕ → Type 0) → ((n bytes : List ℕ) → mid n bytes ↔ old n bytes) → ((n bytes : List ℕ) → now n bytes ↔ mid n bytes) → (n bytes : List ℕ) → now n bytes ↔ old n bytes
same_both old mid now first later n bytes = (λ h. (first n bytes).0 ((later n bytes).0 h), λ h. (later n bytes).1 ((first n bytes).1 h))
