pub mod Sizes
pub mod Numbers
pub mod Judging
pub mod Finding
pub mod Writing
pub mod Setup
