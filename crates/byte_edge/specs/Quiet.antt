-- The sources, sinks and files that never fail.
use Rattle.std.specs.Prelude.{◌≡◌, ℕ, ◌<◌, ◌≤◌, ⊤, List, [], unwrap_or, Result, Ok, Err, length}
use Rattle.byte_edge.specs.declared.stored.Entry.{Entry}
use Rattle.byte_edge.specs.declared.quiet.QuietSource.{QuietSource}
use Rattle.byte_edge.specs.declared.quiet.QuietSink.{QuietSink}
use Rattle.byte_edge.specs.declared.quiet_files.QuietFiles.{QuietFiles}
use Rattle.byte_edge.specs.declared.files.FetchFault.{FetchFault}
use Rattle.byte_edge.specs.declared.files.FetchFault.TheVariants as fault
use Rattle.byte_edge.specs.Stored.{file_of}

-- the bytes that a source has left
abbrev pub quiet_left_of : QuietSource → List ℕ
quiet_left_of source = source.held

-- how many bytes a sink took, up to the last value
abbrev pub quiet_count_of : QuietSink → ℕ
quiet_count_of sink = sink.count

abbrev pub quiet_entries_of : QuietFiles → List Entry
quiet_entries_of files = files.stored.entries

-- the names that were asked for
abbrev pub quiet_asked_of : QuietFiles → List (List ℕ)
quiet_asked_of files = files.stored.asked

-- the bytes of a name: none, if it isn't there
abbrev pub quiet_bytes_of : QuietFiles → List ℕ → List ℕ
quiet_bytes_of files name = unwrap_or (file_of (quiet_entries_of files) name) []

-- The bytes of the name are given, or they are more than the room. No call fails.
abbrev pub QuietAnswers : {X : Type 0} → QuietFiles → List ℕ → ℕ → List ℕ → Result X FetchFault →
    Type 0
QuietAnswers files name room out (Ok x) = (out ≡ quiet_bytes_of files name) × (length out ≤ room)
QuietAnswers files name room out (Err fault.TooLong) = room < length (quiet_bytes_of files name)
QuietAnswers files name room out (Err fault.Failed) = ⊥
QuietAnswers files name room out (Err fault.Memory) = ⊤
