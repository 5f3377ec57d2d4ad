pub mod FirstIndex
pub mod Listing
pub mod Near
pub mod Occurrence
pub mod Rule
