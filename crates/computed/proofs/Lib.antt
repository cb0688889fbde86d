-- For other crates: `Tests` has what a computed test says at each number; `Xor` that exclusive or is associative and passes through masks and
-- shifts; `Additive` that maps which keep it agree where they agree at each single bit, and that steps are such maps; `Entries` sums of tables'
-- entries.
pub mod Tests
pub mod Xor
pub mod Additive
pub mod Entries
