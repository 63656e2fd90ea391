pub mod ViewLaws
pub mod OrderLaws
pub mod CountLaws
