pub mod Splice
pub mod Part
pub mod Between
