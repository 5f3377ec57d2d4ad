pub mod ReadingLemmas
pub mod RecordOrderLemmas
pub mod FirstFieldLemmas
pub mod FieldTextLemmas
