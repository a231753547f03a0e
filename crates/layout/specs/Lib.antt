pub mod Graph
pub mod Offsets
pub mod Starts
pub mod Runs
pub mod SameRuns
pub mod Tables
