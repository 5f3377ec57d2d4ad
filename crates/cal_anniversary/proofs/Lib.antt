pub mod AskingLemmas
pub mod DaysLemmas
pub mod FallingOnLemmas
pub mod ListingLemmas
pub mod WindowLemmas
pub mod YearLemmas
pub mod YieldLemmas
