pub mod AnyOrder
pub mod Collecting
mod Held
pub mod InOrder
mod Inserting
mod Keeping
pub mod Lists
mod Placing
