pub mod SystemFacts
pub mod Writing
