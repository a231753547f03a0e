pub mod Constraints
pub mod Lattice
