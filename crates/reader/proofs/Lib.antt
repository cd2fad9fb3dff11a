pub mod Positions
pub mod States
pub mod Steps
pub mod FormTexts
