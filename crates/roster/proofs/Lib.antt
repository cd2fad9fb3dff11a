pub mod FaultFacts
pub mod Meanings
