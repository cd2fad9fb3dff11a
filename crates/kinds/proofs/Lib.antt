pub mod BuildFacts
pub mod CollectionFacts
pub mod DutyFacts
pub mod LightFacts
pub mod ListingFacts
pub mod SpanFacts
