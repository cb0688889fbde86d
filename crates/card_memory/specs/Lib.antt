pub mod Layout
pub mod Decoding
pub mod Encoding
pub mod Legibility
pub mod Setup
pub mod Leaving
