pub mod Utf8
pub mod Lead
pub mod CodePoint
pub mod Character
pub mod Fitting
