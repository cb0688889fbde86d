pub mod RecordRuns
mod KindRuns
mod ContentsRuns
mod Turns
pub mod Shape
pub mod CardPuts
pub mod RoundTrip
pub mod Held
pub mod EncodableCards
pub mod FreshMemory
pub mod Front
pub mod Offsets
