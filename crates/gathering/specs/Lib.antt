pub mod Names
pub mod Gathered
pub mod Walk
pub mod Size
pub mod Rerouted
