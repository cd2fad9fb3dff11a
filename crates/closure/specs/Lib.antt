pub mod Closures
pub mod Rows
pub mod Allowances
