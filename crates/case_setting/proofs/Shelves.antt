-- A file more, whose name is known from then on, leaves each name that is not known without a file.
use Rattle.std.proofs.Common.{◌≡◌, ℕ, List, [], ◌∷◌, ◌++◌, Result, Ok, Err, OnOk, OnErr, None, Contains}
use Rattle.std.proofs.lemmas.List.Elements.{Contains-push, Contains-append_left}
use Rattle.byte_edge.specs.declared.byte_files.ByteFiles.{ByteFiles}
use Rattle.byte_edge.specs.Stored.{file_of, PutsFile}
use Rattle.byte_edge.specs.ByteFiles.{entries_of}

pub keeps : {X E : Type 0} (r : Result X E) (names known : List (List ℕ)) (name bytes : List ℕ) (old new : ByteFiles) → known ≡ names ++ name ∷ [] → ((other : List ℕ) → ¬ Contains names other → file_of (entries_of old) other ≡ None) → OnOk r (PutsFile (entries_of old) (entries_of new) name bytes) → OnErr r (new ≡ old) → (other : List ℕ) → ¬ Contains known other → file_of (entries_of new) other ≡ None
keeps (Ok x) names known name bytes old new e before puts err other none = rw (puts.others other (λ same. none (rw e (rw same (Contains-push names name))))) (before other (λ c. none (rw e (Contains-append_left names (name ∷ []) other c))))
keeps (Err x) names known name bytes old new e before puts err other none = rw err (before other (λ c. none (rw e (Contains-append_left names (name ∷ []) other c))))
