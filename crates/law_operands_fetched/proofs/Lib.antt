pub mod NewOnes
pub mod Window
pub mod Stepping
pub mod Loads
pub mod Keeping
pub mod PlainWindow
pub mod AsksBefore
pub mod Bounded
pub mod Based
pub mod OnRegister
pub mod Fetching
pub mod FetchOne
pub mod TurnParts
pub mod Turns
pub mod Firsts
pub mod Contents
pub mod BeforeFetched
pub mod NewReads
pub mod NewPlaces
pub mod SmallTrees
pub mod HomedQuiet
pub mod FoundParts
pub mod GivenBases
pub mod GivenOperands
pub mod GivenFetching
pub mod Endings
pub mod AroundWindow
pub mod Through
pub use Rattle.c_eval.proofs as c_eval
pub use Rattle.law_operands_replaced.proofs.law_frame as law_frame
pub use Rattle.law_homes.proofs as law_homes
pub use Rattle.law_operands_replaced.proofs as law_operands_replaced
pub use Rattle.law_operands_replaced.proofs.md_match as md_match
pub use Rattle.reload_homes.proofs as reload_homes
pub use Rattle.reload_moves.proofs as reload_moves
pub use Rattle.law_operands_replaced.proofs.reload_operands as reload_operands
pub use Rattle.law_operands_replaced.proofs.rtl_func as rtl_func
pub use Rattle.law_operands_replaced.proofs.rtl_step as rtl_step
pub use Rattle.law_operands_replaced.proofs.rtx_tree as rtx_tree
pub use Rattle.law_operands_replaced.proofs.run_memory as run_memory
