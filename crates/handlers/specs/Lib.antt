pub mod Targets
pub mod Procedures
