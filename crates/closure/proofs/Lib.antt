pub mod ClosingFacts
pub mod ClosureFacts
pub mod DayFacts
pub mod StepFacts
