pub mod PuttingFacts
