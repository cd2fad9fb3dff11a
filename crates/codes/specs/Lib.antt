pub mod Coming
pub mod Members
pub mod Words
