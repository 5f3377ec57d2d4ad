pub mod RowLaws
pub mod RowPlaces
pub mod RowJoins
pub mod RowTestLaws
pub mod FaultLaws
pub mod LengtheningLaws
pub mod YearArguments
pub mod RowFaultLaws
