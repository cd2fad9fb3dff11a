pub mod Forms
pub mod Left
pub mod Places
pub mod Steps
