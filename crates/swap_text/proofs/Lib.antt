pub mod Parts
mod Whole
pub mod Listing
