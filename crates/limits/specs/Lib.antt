pub mod Links
pub mod Systems
