pub mod Buffer
pub mod Looks
pub mod Reader
