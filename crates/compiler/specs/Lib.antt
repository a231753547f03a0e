pub mod Compiled
pub mod Laws
pub mod TypedCode
