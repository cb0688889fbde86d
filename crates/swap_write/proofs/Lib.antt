pub mod Accepted
pub mod Body
mod Headed
pub mod Judged
pub mod Laid
mod Outcomes
pub mod Records
mod Sized
mod Tests
