pub mod AnySystem
pub mod AnyOrder
pub mod ByKind
pub mod KindHeld
pub mod TablesHeld
pub mod laws
