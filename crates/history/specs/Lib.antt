pub mod Book
pub mod Granted
pub mod Claim
pub mod Replies
pub mod Encoding
