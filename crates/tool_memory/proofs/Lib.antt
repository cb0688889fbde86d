pub mod Shape
mod PhaseMarks
pub mod ToolPuts
pub mod RoundTrip
pub mod Memory
pub mod Refusing
pub mod Fresh
pub mod Storable
mod Offsets
