-- What stands behind the adapters of std's streams and files, and how often they have failed.
use Rattle.std.specs.Prelude.{ℕ}
use Rattle.byte_edge.specs.declared.streams.StdSource.{StdSource}
use Rattle.byte_edge.specs.declared.streams.StdSink.{StdSink}
use Rattle.byte_edge.specs.declared.disk_files.DiskFiles.{DiskFiles}

abbrev pub std_reader : {R : Type 0} → StdSource R → R
std_reader source = source.reader

abbrev pub std_writer : {W : Type 0} → StdSink W → W
std_writer sink = sink.writer

abbrev pub std_source_faults : {R : Type 0} → StdSource R → ℕ
std_source_faults source = source.faults

abbrev pub std_sink_faults : {W : Type 0} → StdSink W → ℕ
std_sink_faults sink = sink.faults

abbrev pub disk_faults : {R : Type 0} → DiskFiles R → ℕ
disk_faults files = files.faults
