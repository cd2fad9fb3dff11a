pub mod Chains
pub mod Layers
pub mod Walks
