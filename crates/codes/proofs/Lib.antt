mod Listed
pub mod Operators
pub mod Turns
pub mod Sets
