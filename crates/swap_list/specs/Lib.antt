pub mod Adding
pub mod Collected
pub mod Ordered
