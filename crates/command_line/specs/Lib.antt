pub mod Command
pub mod Matched
pub mod Task
pub mod Request
