-- For other crates: `Laws` has what measuring and fitting give; `Boundary`, `Whole` and `Run` have the laws of characters and of well-formed text.
pub mod Laws
pub mod Boundary
pub mod Whole
pub mod Run
mod Table
mod Lead
mod Sequence
mod CodePoint
mod Mark
mod Grouping
mod Longest
mod Turn
mod Answers
mod Examples
