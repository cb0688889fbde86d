pub mod Clauses
pub mod Rule
pub mod Lists
