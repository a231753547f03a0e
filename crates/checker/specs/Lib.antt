pub mod Checked
pub mod Reported
pub mod Steps
pub mod Found
pub mod Read
