pub mod Polynomial
pub mod Transmission
pub mod AnnexE
pub mod Residues
