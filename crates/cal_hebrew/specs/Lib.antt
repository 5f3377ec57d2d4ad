pub mod HebrewList
pub mod HebrewPlaces
pub mod HebrewEra
pub mod HebrewNames
pub mod PackedYears
pub mod HebrewSystem
pub mod laws
