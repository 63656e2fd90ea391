pub mod Late
pub mod Apart
pub mod Ordered
