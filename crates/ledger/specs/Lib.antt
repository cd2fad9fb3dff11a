pub mod Rules
pub mod Ledgers
pub mod Edits
pub mod Rosters
