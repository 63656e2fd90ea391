-- Which names were asked for while the trees of a file are gone through, until it is read or fails.
use Rattle.std.proofs.Common.{◌≡◌, ◌≢◌, ℕ, is_some, ◌||◌, ◌+◌, ◌-◌, ◌<◌, ◌≤◌, List, [], ◌∷◌, ◌++◌, length, Option, Some, None, Result, Ok, Err, Vec, Bool, true, false, refl, sym, ap, subst, ◌∙◌, append_assoc, append-nil, arith, cond, true≢false}
use Rattle.std.specs.Str.{bytes_eq}
use Rattle.std.proofs.lemmas.Slice.Eq.{bytes_eq-Decides}
use Rattle.std.specs.declared.alloc.Global.{Global}
use Rattle.byte_edge.specs.Fetched.{Grows}
use Rattle.lisp_read.specs.declared.tree.Tree.{Tree}
use Rattle.rtx_tree.specs.Limit.{most_bytes, most_within}
use Rattle.md_source.specs.declared.trees.Gathered.{Gathered}
use Rattle.md_source.specs.declared.refusal.SourceRefusal.{SourceRefusal}
use Rattle.md_source.specs.declared.refusal.SourceRefusal.TheVariants as refusal
use Rattle.md_source.specs.Include.{included_name, include_some}
use Rattle.md_source.specs.Source.{Source, FileComes, shipped_name, text_of}
use Rattle.md_source.specs.Answers.{Agrees}
use Rattle.md_source.specs.Faults.{own_name, FileAsks, TreesAsk, FileFaults, TreesFault, Grew, AsksBy}
use Rattle.md_source.specs.machine.Steps.{FileReads, AsksFile, Fetched, AsksName}
use Rattle.md_source.proofs.KnownTexts.{elsewhere}

-- whatever names are asked for the rest of the trees, the file asks for these and for those
pub record Goes (source : Source) (within used : ℕ) (name : List ℕ) (now : ℕ) (rest : List Tree) (names : List (List ℕ)) : Type 0 where
  pub asks : (more : List (List ℕ)) → TreesAsk source rest more → FileAsks source name (names ++ more)
  pub faults : (more : List (List ℕ)) → TreesFault source within now rest more → FileFaults source within used name (names ++ more)

-- ---- lists of names that are told, or are not

grew_more : (before mid now : Option (List (List ℕ))) (names more : List (List ℕ)) → Grew before mid names → Grew mid now more → Grew before now (names ++ more)
grew_more None mid now names more grew rest = tt
grew_more (Some xs) None now names more grew rest = absurd grew
grew_more (Some xs) (Some ys) None names more grew rest = absurd rest
grew_more (Some xs) (Some ys) (Some zs) names more grew rest = rest ∙ ap (λ (l : List (List ℕ)). l ++ more) grew ∙ append_assoc xs names more

grew_one : (before now : Option (List (List ℕ))) (name : List ℕ) → Grows before now name → Grew before now (name ∷ [])
grew_one None now name grows = tt
grew_one (Some xs) None name grows = grows
grew_one (Some xs) (Some ys) name grows = grows

grew_nothing : (before now : Option (List (List ℕ))) → now ≡ before → Grew before now []
grew_nothing None now is = tt
grew_nothing (Some xs) None is = cc
grew_nothing (Some xs) (Some ys) is = let same : ys ≡ xs = cc in same ∙ sym (append-nil xs)

-- ---- the file itself

own_of : (name : List ℕ) → name ≢ shipped_name → own_name name ≡ name ∷ []
own_of name other = go (bytes_eq name shipped_name) refl
  where
    go : (b : Bool) → bytes_eq name shipped_name ≡ b → own_name name ≡ name ∷ []
    go true is = absurd (other ((bytes_eq-Decides name shipped_name).0 is))
    go false is = ap (λ (b : Bool). cond b [] (name ∷ [])) is

own_shipped : (name : List ℕ) → name ≡ shipped_name → own_name name ≡ []
own_shipped name is = ap own_name is

grew_own : (name : List ℕ) (before now : Option (List (List ℕ))) → AsksFile before now name → Grew before now (own_name name)
grew_own name before now (AsksFile.shipped same is) = subst (Grew before now) (sym (own_shipped name same)) (grew_nothing before now is)
grew_own name before now (AsksFile.asked other grows) = subst (Grew before now) (sym (own_of name other)) (grew_one before now name grows)

goes_on : (source : Source) (within used : ℕ) (name : List ℕ) (read : Gathered) (known : Option (List ℕ)) → text_of source name ≡ known → FileReads source used name (Ok read) → Goes source within used name read.used read.trees (own_name name)
goes_on source within used name read None is reads = record { asks = λ more ask. FileAsks.unknown name more is; faults = λ more fault. FileFaults.unknown within used name more is }
goes_on source within used name read (Some text) is reads =
    let r = reads text is in
    record {
      asks = λ more ask. FileAsks.read name text read.trees more is r.2 ask;
      faults = λ more fault. FileFaults.read within used name text read.trees more is r.0 r.2 (subst (λ (n : ℕ). TreesFault source within n read.trees more) r.1 fault);
    }

pub starts : (source : Source) (within used : ℕ) (name : List ℕ) (read : Gathered) (before now : Option (List (List ℕ))) → FileReads source used name (Ok read) → AsksFile before now name → AsksBy (Goes source within used name read.used read.trees) before now
starts source within used name read before now reads asks = (own_name name, goes_on source within used name read (text_of source name) refl reads, grew_own name before now asks)

-- the refusal that was told is the one that came
pub fault_is : {T : Type 0} (r : Result T SourceRefusal) (y e : SourceRefusal) → r ≡ Err y → y ≡ e → r ≡ Err refusal.ReadFault → e ≡ refusal.ReadFault
fault_is r y e is same fault = cc

-- a file that failed
pub read_faults : (source : Source) (holds : List ℕ → List ℕ → Type 0) (used : ℕ) (name : List ℕ) (before now : Option (List (List ℕ))) (e : SourceRefusal) → e ≡ refusal.ReadFault → Agrees source holds → used ≤ most_bytes →
    bytes_eq name shipped_name ≡ false → Fetched (holds name) (most_bytes - used) (Err e) → AsksName {A = Vec ℕ Global} before now name (Err e) → (within : ℕ) → AsksBy (FileFaults source within used name) before now
read_faults source holds used name before now e fault agrees few other fetched asks within =
    let short = subst (λ (x : SourceRefusal). Fetched (holds name) (most_bytes - used) (Err x)) fault fetched in
    let grows = subst (λ (x : SourceRefusal). AsksName {A = Vec ℕ Global} before now name (Err x)) fault asks in (
      name ∷ [],
      FileFaults.itself within used name (λ same. true≢false (ap (λ (n : List ℕ). bytes_eq n shipped_name) (sym same) ∙ other)) (λ text known. let fits = short text (agrees name text (sym (elsewhere source name other) ∙ known)) in omega arith),
      grew_one before now name grows,
    )

-- ---- its trees

pub keeps : (source : Source) (within used : ℕ) (name : List ℕ) (now : ℕ) (t : Tree) (left rest : List Tree) (before mid : Option (List (List ℕ))) → left ≡ t ∷ rest → None ≡ included_name t →
    AsksBy (Goes source within used name now left) before mid → AsksBy (Goes source within used name now rest) before mid
keeps source within used name now t left rest before mid front is by =
    let goes = subst (λ (l : List Tree). Goes source within used name now l by.0) front by.1 in
    (by.0, record { asks = λ more ask. goes.asks more (TreesAsk.kept t rest more (sym is) ask); faults = λ more fault. goes.faults more (TreesFault.kept within now t rest more (sym is) fault) }, by.2)

-- an include that came to its trees
pub includes : (source : Source) (within used : ℕ) (name : List ℕ) (now : ℕ) (t : Tree) (left rest : List Tree) (n : List ℕ) (g : Gathered) (before mid after : Option (List (List ℕ))) → left ≡ t ∷ rest → included_name t ≡ Some n → within < most_within →
    FileComes source (within + 1) now n (Ok g) → AsksBy (Goes source within used name now left) before mid → AsksBy (FileAsks source n) mid after → AsksBy (Goes source within used name g.used rest) before after
includes source within used name now t left rest n g before mid after front is room comes by inner =
    let goes = subst (λ (l : List Tree). Goes source within used name now l by.0) front by.1 in (
      by.0 ++ inner.0,
      record {
        asks = λ more ask. subst (FileAsks source name) (sym (append_assoc by.0 inner.0 more)) (goes.asks (inner.0 ++ more) (TreesAsk.included t rest n inner.0 more is inner.1 ask));
        faults = λ more fault. subst (FileFaults source within used name) (sym (append_assoc by.0 inner.0 more)) (goes.faults (inner.0 ++ more) (TreesFault.passed within now t rest n g inner.0 more is room comes inner.1 fault));
      },
      grew_more before mid after by.0 inner.0 by.2 inner.2,
    )

-- an include that failed
pub fails : (source : Source) (within used : ℕ) (name : List ℕ) (now : ℕ) (t : Tree) (left rest : List Tree) (n : List ℕ) (before mid after : Option (List (List ℕ))) → left ≡ t ∷ rest → included_name t ≡ Some n → within < most_within →
    AsksBy (Goes source within used name now left) before mid → AsksBy (FileFaults source (within + 1) now n) mid after → AsksBy (FileFaults source within used name) before after
fails source within used name now t left rest n before mid after front is room by inner =
    let goes = subst (λ (l : List Tree). Goes source within used name now l by.0) front by.1 in
    (by.0 ++ inner.0, goes.faults inner.0 (TreesFault.fails within now t rest n inner.0 is room inner.1), grew_more before mid after by.0 inner.0 by.2 inner.2)

pub finishes : (source : Source) (within used : ℕ) (name : List ℕ) (now : ℕ) (left : List Tree) (count : ℕ) (before mid : Option (List (List ℕ))) → count ≡ length left → count ≡ 0 → AsksBy (Goes source within used name now left) before mid → AsksBy (FileAsks source name) before mid
finishes source within used name now (t ∷ rest) count before mid is none by = absurd (omega arith)
finishes source within used name now [] count before mid is none by = (by.0, subst (FileAsks source name) (append-nil by.0) (by.1.asks [] TreesAsk.none), by.2)

-- ---- trees of which none includes a file

asks_none : (source : Source) (trees : List Tree) → include_some trees ≡ false → TreesAsk source trees []
asks_none source [] is = TreesAsk.none
asks_none source (t ∷ rest) is = by_name (included_name t) refl is (λ left. asks_none source rest left)
  where
    by_name : (name : Option (List ℕ)) → included_name t ≡ name → (is_some name || include_some rest) ≡ false → (include_some rest ≡ false → TreesAsk source rest []) → TreesAsk source (t ∷ rest) []
    by_name None none left on = TreesAsk.kept t rest [] none (on left)
    by_name (Some name) some left on = absurd (true≢false left)

pub stays : (source : Source) (within used : ℕ) (name : List ℕ) (read : Gathered) (before now : Option (List (List ℕ))) → FileReads source used name (Ok read) → AsksFile before now name → include_some read.trees ≡ false → AsksBy (FileAsks source name) before now
stays source within used name read before now reads asks none =
    let by = starts source within used name read before now reads asks in
    (by.0, subst (FileAsks source name) (append-nil by.0) (by.1.asks [] (asks_none source read.trees none)), by.2)
