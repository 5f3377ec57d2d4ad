pub mod Kept
pub mod Program
