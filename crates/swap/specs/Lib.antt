pub mod Record
pub mod Kind
pub mod Encoding
pub mod Items
pub mod Reading
pub mod Cursor
pub mod Station
pub mod Faults
