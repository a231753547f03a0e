pub mod Rows
pub mod Levels
pub mod Steps
pub mod Getters
pub mod Plain
pub mod Grants
pub mod Only
