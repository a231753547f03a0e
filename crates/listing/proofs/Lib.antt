mod Formatted
pub mod Listed
