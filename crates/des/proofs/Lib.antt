-- For other crates: `Inverse` has deciphering after enciphering and the other way round, and that each gives eight octets; `Parity` that the
-- parity bits play no part; `Rows` the rule of the S-boxes; `Permutations` that IP and its inverse undo each other; `WeakKeys` that the weak keys
-- are those with one round key in all rounds, and that enciphering twice under one gives the block back; `ThroughP` and `Choices` the rules of the
-- tables that the rounds read.
pub mod Inverse
pub mod Parity
pub mod Rows
pub mod Permutations
pub mod WeakKeys
mod Strings
mod Held
mod KeySchedule
mod Feistel
mod EqualRoundKeys
mod Selecting
mod Exchanges
pub mod ThroughP
pub mod Choices
mod Windows
mod RoundKeys
