pub mod Shape
pub mod Soundness
mod Amounts
pub mod TakenFrames
mod Giving
mod Receptions
pub mod Keeping
pub mod Reached
pub mod Fresh
pub mod SetupOrder
pub mod WeakKeys
pub mod Station
pub mod Feeding
pub mod TakingOut
pub mod Refusals
pub mod Lent
