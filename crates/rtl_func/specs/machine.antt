-- What the contracts of private functions alone cite.
pub mod Changes
pub mod Labels
pub mod NodeRules
pub mod Search
pub mod Tables
pub mod TreeRules
