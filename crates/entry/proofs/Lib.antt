pub mod CellFacts
pub mod Tested
pub mod Verdicts
pub mod Weighing
