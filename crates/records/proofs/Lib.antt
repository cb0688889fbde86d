pub mod Earlier
pub mod Grants
pub mod InUse
pub mod Limits
pub mod Places
pub mod Refusals
mod SetupLimits
pub mod Shape
pub mod Soundness
mod Tests
mod Walks
pub mod Writes
