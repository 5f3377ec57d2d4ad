pub mod HebrewGiven
pub mod HebrewOrdinals
