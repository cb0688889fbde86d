pub mod Steps
pub mod Other
