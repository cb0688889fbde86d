pub mod Before
pub mod Meeting
