pub mod BuildFacts
pub mod EmptyFacts
