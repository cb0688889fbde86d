pub mod Lengths
pub mod Sound
mod Answers
mod Gives
pub mod Admission
mod Receiving
mod Exchanges
pub mod Turning
pub mod Effects
pub mod Endings
pub mod Exactly
pub mod Courses
pub mod Refusals
pub mod Order
pub mod WeakKeys
pub mod StaysSound
pub mod Feeding
pub mod Logging
pub mod Authentication
pub mod Running
