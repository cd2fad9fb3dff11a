pub mod CodeLists
pub mod Drafts
pub mod Faults
pub mod Reading
pub mod Sheets
pub mod Starts
