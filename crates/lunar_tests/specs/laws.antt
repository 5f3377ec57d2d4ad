pub mod LateStartLaws
pub mod LateYearLaws
