pub mod Opened
pub mod PutLaws
pub mod InsideLaws
pub mod NumberLaws
pub mod OrderLaws
pub mod RisingLaws
pub mod ChangeLaws
