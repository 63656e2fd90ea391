-- What the sources and sinks in memory hold.
use Rattle.std.specs.Prelude.{ℕ, List}
use Rattle.byte_edge.specs.declared.calls.Calls.{Calls}
use Rattle.byte_edge.specs.declared.byte_source.ByteSource.{ByteSource}
use Rattle.byte_edge.specs.declared.byte_sink.ByteSink.{ByteSink}

-- the bytes that a source has left
abbrev pub left_of : ByteSource → List ℕ
left_of source = source.held

abbrev pub source_calls : ByteSource → Calls
source_calls source = source.calls

abbrev pub source_faults : ByteSource → ℕ
source_faults source = source.calls.faults

-- the bytes that a sink took
abbrev pub taken_of : ByteSink → List ℕ
taken_of sink = sink.taken.items

-- how many bytes a sink takes in all
abbrev pub room_of : ByteSink → ℕ
room_of sink = sink.room

-- how many bytes a sink takes at a time
abbrev pub most_of : ByteSink → ℕ
most_of sink = sink.most

abbrev pub sink_calls : ByteSink → Calls
sink_calls sink = sink.calls

abbrev pub sink_faults : ByteSink → ℕ
sink_faults sink = sink.calls.faults
