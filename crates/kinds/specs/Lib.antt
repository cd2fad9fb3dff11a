pub mod Codes
pub mod Listings
pub mod Duties
pub mod Collections
pub mod Spans
pub mod Laws
