-- Values keep the base types of the tables.
pub mod Values
pub mod States
pub mod Meanings
pub mod Runs
pub mod Returning
