pub mod CodeTable
pub mod Widths
mod Told
mod Steps
pub mod Shape
mod Writing
pub mod BadFrame
pub mod GoodFrame
pub mod OneField
pub mod ReadBack
pub mod Rebuilt
pub mod Differ
pub mod RoundTrip
pub mod Sending
pub mod CarriedFields
pub mod FrameOctets
mod Examples
