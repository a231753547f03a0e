pub mod Cut
mod Explaining
pub mod Listed
pub mod Promises
pub mod Refusals
pub mod Reporting
pub mod Sessions
pub mod Settled
mod TextRead
