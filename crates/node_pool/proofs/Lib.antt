pub mod Written
pub mod Linked
pub mod Counted
pub mod Values
pub mod Kept
pub mod Grown
