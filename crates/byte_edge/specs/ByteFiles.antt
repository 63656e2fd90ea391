-- The files in memory of which chosen calls fail.
use Rattle.std.specs.Prelude.{◌≡◌, ℕ, ◌<◌, ◌≤◌, ◌⊎◌, ⊤, List, Result, Ok, Err, length}
use Rattle.std.specs.declared.option.Option.TheVariants.{Some, None}
use Rattle.byte_edge.specs.declared.stored.Entry.{Entry}
use Rattle.byte_edge.specs.declared.calls.Calls.{Calls}
use Rattle.byte_edge.specs.declared.byte_files.ByteFiles.{ByteFiles}
use Rattle.byte_edge.specs.declared.files.FetchFault.{FetchFault}
use Rattle.byte_edge.specs.declared.files.FetchFault.TheVariants as fault
use Rattle.byte_edge.specs.Calls.{IsToFail}
use Rattle.byte_edge.specs.Stored.{file_of}

abbrev pub entries_of : ByteFiles → List Entry
entries_of files = files.stored.entries

-- the names that were asked for
abbrev pub asked_of : ByteFiles → List (List ℕ)
asked_of files = files.stored.asked

abbrev pub files_calls : ByteFiles → Calls
files_calls files = files.calls

abbrev pub files_faults : ByteFiles → ℕ
files_faults files = files.calls.faults

-- A name that isn't there fails. Bytes that are more than the room are too long, even in a call
-- that is to fail.
abbrev pub Answers : {X : Type 0} → ByteFiles → List ℕ → ℕ → List ℕ → Result X FetchFault → Type 0
Answers files name room out (Ok x) =
    (file_of (entries_of files) name ≡ Some out) × (length out ≤ room) ×
    ¬ IsToFail (files_calls files)
Answers files name room out (Err fault.TooLong) =
    (bytes : List ℕ) × (file_of (entries_of files) name ≡ Some bytes) × (room < length bytes)
Answers files name room out (Err fault.Failed) =
    (file_of (entries_of files) name ≡ None) ⊎ ((bytes : List ℕ) × (file_of (entries_of files) name ≡ Some bytes) × (length bytes ≤ room) × IsToFail (files_calls files))
Answers files name room out (Err fault.Memory) = ⊤
