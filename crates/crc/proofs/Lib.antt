mod Sum
mod Division
mod Remainder
pub mod Quotient
mod Bits
pub mod CheckKey
pub mod Receiver
mod Represented
mod Vectors
