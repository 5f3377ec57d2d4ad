pub mod Finding
pub mod MoonLemmas
pub mod PlaceLemmas
pub mod PartLemmas
pub mod TableMonthLemmas
pub mod LengtheningLemmas
