pub mod Joined
pub mod Numbered
pub mod First
pub mod Refusing
pub mod Steps
pub mod One
pub mod ByPlan
