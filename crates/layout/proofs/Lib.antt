pub mod Renaming
pub mod Offsets
pub mod Tables
pub mod Fitting
pub mod Starts
