-- What the contracts of private functions cite, and those of tables that a room hands to the next.
pub mod Table
pub mod Steps
pub mod Known
pub mod Weights
