pub mod Refusals
pub mod Cells
pub mod Weights
pub mod Edits
