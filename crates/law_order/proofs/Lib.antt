pub mod Ready
pub mod AllLate
pub mod AllApart
pub mod Behind
pub mod Same
pub mod Items
