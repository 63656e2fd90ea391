pub mod Have
