pub mod Encoded
pub mod Faults
pub mod Ranks
pub mod KindOctets
pub mod AnyOctets
pub mod Calls
pub mod Lists
mod Cursors
pub mod Parts
mod Judging
mod Limits
pub mod RoundTrip
mod Searching
pub mod Shown
pub mod Stations
pub mod Tally
mod Texts
pub mod Verdicts
pub mod Walking
