pub mod Placed
pub mod Taken
pub mod Usable
pub mod Forms
pub mod First
