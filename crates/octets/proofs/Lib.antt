pub mod Splice
pub mod Below
pub mod Same
pub mod Parts
pub mod Bounds
pub mod Impossible
mod Laying
