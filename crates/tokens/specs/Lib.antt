pub mod Lines
pub mod Sheets
pub mod Tokens
pub mod Beginnings
pub mod Next
pub mod Passing
