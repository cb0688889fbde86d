pub mod Sizes
pub mod Codes
pub mod Addresses
pub mod Layout
pub mod Content
pub mod Checks
pub mod Building
