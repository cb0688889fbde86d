pub mod Forms
pub mod Fronts
pub mod Laying
mod Turns
