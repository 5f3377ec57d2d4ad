pub mod KindNames
pub mod NamePlaces
pub mod KindOrder
