pub mod Claim
pub mod Encoding
