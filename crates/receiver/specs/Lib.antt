pub mod Receiving
pub mod Receiver
