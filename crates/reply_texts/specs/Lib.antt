pub mod Texts
pub mod DateParts
pub mod DateTexts
