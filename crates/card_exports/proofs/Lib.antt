pub mod Calls
pub mod OctetCall
pub mod Refusals
mod Judging
mod Finding
pub mod Accepting
pub mod Unchanged
pub mod SetupOrder
pub mod WeakKeys
pub mod Leaving
