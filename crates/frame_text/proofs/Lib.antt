mod Lengths
mod NameTable
mod Outcomes
