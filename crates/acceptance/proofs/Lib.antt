pub mod Demands
pub mod ProperNames
pub mod Phases
pub mod TreeNames
pub mod Texts
