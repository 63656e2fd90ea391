pub mod Means
pub mod OperatorLaws
pub mod RoundLaws
pub mod DepthLaws
