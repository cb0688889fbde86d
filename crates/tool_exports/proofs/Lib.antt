mod Given
pub mod Left
pub mod History
pub mod Unchanged
pub mod Leaving
