pub mod ChoiceFacts
pub mod WeightSums
pub mod Readiness
pub mod Following
pub mod RosterFacts
pub mod MeetsFacts
