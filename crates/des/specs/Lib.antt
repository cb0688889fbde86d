pub mod Tables
pub mod Des
pub mod Rows
pub mod Windows
pub mod Words
pub mod Exchanges
pub mod WeakKeys
mod Examples
