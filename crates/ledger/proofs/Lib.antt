pub mod Firsts
pub mod BookFacts
pub mod DayFacts
