pub mod Told
pub mod Generated
pub mod Shown
pub mod Answer
pub mod Written
pub mod machine
