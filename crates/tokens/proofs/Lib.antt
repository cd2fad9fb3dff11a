pub mod Numerals
pub mod Filled
pub mod Spelling
pub mod Beginnings
pub mod Moves
pub mod Unique
