pub mod RuleFacts
pub mod DayFacts
pub mod Steps
pub mod RunFacts
pub mod SettleFacts
