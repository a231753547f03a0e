pub mod Readers
mod Isolating
mod Coding
mod Rules
pub mod Typed
