pub mod AnyLaws
pub mod AnyOrderLaws
pub mod ByKindLaws
