pub mod RuleLists
pub mod TextOccurrences
