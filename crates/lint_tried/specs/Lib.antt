pub mod Numbers
pub mod Trial
pub mod Offered
pub mod Instance
pub mod Tried
pub mod machine
