pub mod Shaped
pub mod Leaves
pub mod Addresses
pub mod Apart
