pub mod Text
pub mod Flow
pub mod Locals
pub mod ByLocals
pub mod Marks
