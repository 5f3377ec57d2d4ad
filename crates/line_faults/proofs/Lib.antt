pub mod WalkLemmas
pub mod PassLemmas
pub mod RequestLemmas
pub mod RowLemmas
pub mod FirstFaultLemmas
