pub mod FirstFields
pub mod FieldTexts
pub mod RecordFaults
