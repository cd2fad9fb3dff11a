pub mod Settlements
pub mod Questions
pub mod Choices
