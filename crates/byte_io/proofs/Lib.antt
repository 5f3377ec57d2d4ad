mod WholeLemmas
pub mod FirstLemmas
pub mod PartLemmas
pub mod PrefixLemmas
mod BufferLemmas
mod LookLemmas
mod ReaderLemmas
