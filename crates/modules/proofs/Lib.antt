pub mod Spelling
mod Later
pub mod Operands
pub mod Widths
pub mod Executing
pub mod Own
pub mod Isolated
pub mod Alike
pub mod Tabled
