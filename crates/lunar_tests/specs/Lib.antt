pub mod LateStarts
pub mod LateYears
pub mod laws
