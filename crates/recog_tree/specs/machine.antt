-- What the contracts of private functions and of the tables that are handed on cite.
pub mod Tables
