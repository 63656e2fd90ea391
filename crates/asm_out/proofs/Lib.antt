pub mod PartLaws
pub mod PlacesLaws
pub mod LineLaws
pub mod PlaceOne
pub mod Calls
pub mod WrittenLaws
pub mod SpelledLaws
pub use Rattle.pass_refusal.proofs.equate as equate
