pub mod Pass
pub mod Road
