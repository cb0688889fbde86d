pub mod Layout
pub mod Marks
pub mod Decoding
pub mod Encoding
