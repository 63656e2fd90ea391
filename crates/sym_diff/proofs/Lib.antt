pub mod SameLaws
pub mod PlaceLaws
pub mod StoreLaws
pub mod AgreeLaws
pub mod NumberLaws
pub mod Items
pub mod RegistersFirst
pub mod StoresFirst
pub mod CallLaws
pub mod FirstLaws
pub use Rattle.sym_term.proofs as sym_term
