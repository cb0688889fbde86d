pub mod Heads
pub mod Heading
pub mod Writing
