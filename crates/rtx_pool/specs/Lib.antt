pub mod Trees
pub mod Heads
