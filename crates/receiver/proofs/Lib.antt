mod Fronts
mod Growth
mod Cases
pub mod Lengths
pub mod Stated
pub mod Soundness
pub mod Follows
pub mod Frames
pub mod Feeding
pub mod Arrival
pub mod Recovery
