pub mod Bench
