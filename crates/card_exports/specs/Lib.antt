pub mod Outcome
pub mod Observing
pub mod Setup
pub mod Leaving
