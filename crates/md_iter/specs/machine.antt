-- What the contracts of private functions alone cite.
pub mod Firsts
pub mod Steps
