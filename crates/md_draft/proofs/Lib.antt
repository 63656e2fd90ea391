pub mod OutputReasons
pub mod Reasons
mod OperandLaws
mod EachFrom
mod Knowing
