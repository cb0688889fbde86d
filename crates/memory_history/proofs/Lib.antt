mod Calls
mod Lending
mod Decoding
pub mod History
pub mod Reading
pub mod Written
mod Replayed
pub mod RoundTrip
