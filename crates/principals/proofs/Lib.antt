pub mod Closure
mod Bits
mod Paths
mod Rows
mod Meeting
pub mod Names
mod Inclusion
mod Automaton
mod Building
mod Uniqueness
mod Spots
pub mod Total
pub mod Called
