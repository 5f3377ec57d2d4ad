pub mod Finding
pub mod LengthBits
pub mod LengtheningLemmas
