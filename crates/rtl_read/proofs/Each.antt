-- Reading some trees one after the other: what is read so far, and what the rest gives.
pub use Rattle.lisp_read.proofs.Each.{with_front, with_nothing, each_next, each_stops, each_ends}
