pub mod Writing
pub mod Hexadecimal
pub mod Digits
