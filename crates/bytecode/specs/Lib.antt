pub mod Reading
pub mod Decoded
pub mod Writing
pub mod Laws
