mod Answered
pub mod Ends
mod Isolation
mod Lives
mod Sessions
