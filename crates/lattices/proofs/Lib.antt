pub mod Constraints
pub mod Gathered
