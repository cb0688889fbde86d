pub mod Outcomes
pub mod Settling
pub mod Lists
pub mod Leaving
pub mod Claims
